-- Digests of files, compared.
use Rattle.std.proofs.Common.{◌≡◌, ℕ, List, [], ◌∷◌, ◌++◌, refl, ap, ap₂, ◌∙◌, sym}
use Rattle.std.specs.List.{flat_map, AllByRecursion}
use Rattle.std.specs.Prelude.{◌≢◌, filter, Some}
use Rattle.sha2.specs.Sha256.{sha256}
use Rattle.igvm_headers.specs.declared.header.Header.{Header}
use Rattle.igvm_headers.specs.declared.header.Header.TheVariants.{Context}
use Rattle.igvm_headers.specs.declared.platform_kind.PlatformKind.{PlatformKind}
use Rattle.igvm_headers.specs.declared.platform_kind.PlatformKind.TheVariants.{Sev, SevEs}
use Rattle.platform_masks.specs.declared.platform.Platform.{Platform}
use Rattle.platform_masks.specs.Masks.{applies}
use Rattle.igvm_image.specs.Headers.{PlacedHeader, placed_headers}
use Rattle.igvm_measure.specs.Measured.{counted}
use Rattle.sev_chain.specs.SevBytes.{IsNoContext, hashed_in, header_bytes, sev_bytes, sev_digest, sev_digest_by}

-- a header that is no context gives the same on both kinds
header_alike : (placed : PlacedHeader) → IsNoContext placed → header_bytes Sev placed ≡ header_bytes SevEs placed
unfolding header_bytes
header_alike placed none = cases placed.header none
  where
    cases : (header : Header) → ((gpa mask offset vp : ℕ) → header ≢ Context gpa mask offset vp)
        → hashed_in Sev header placed.content ≡ hashed_in SevEs header placed.content
    cases (Context gpa mask offset vp) none = absurd (none gpa mask offset vp refl)
    cases header none = refl

headers_alike : (ps : List PlacedHeader) → AllByRecursion IsNoContext ps → flat_map (header_bytes Sev) ps ≡ flat_map (header_bytes SevEs) ps
headers_alike [] none = refl
headers_alike (p ∷ ps) none = ap₂ (λ (xs ys : List ℕ). xs ++ ys) (header_alike p none.0) (headers_alike ps none.1)

pub bytes_alike : (file : List ℕ) (sev sev_es : Platform) → sev.kind ≡ Sev → sev_es.kind ≡ SevEs → sev.mask ≡ sev_es.mask
    → AllByRecursion IsNoContext (filter (λ (p : PlacedHeader). applies p.header sev.mask) (placed_headers file))
    → sev_bytes file sev ≡ sev_bytes file sev_es
bytes_alike file sev sev_es is_sev is_sev_es same none =
    ap (λ (kind : PlatformKind). counted (header_bytes kind) sev.mask (placed_headers file)) is_sev
    ∙ headers_alike (filter (λ (p : PlacedHeader). applies p.header sev.mask) (placed_headers file)) none
    ∙ ap (λ (mask : ℕ). counted (header_bytes SevEs) mask (placed_headers file)) same
    ∙ ap (λ (kind : PlatformKind). counted (header_bytes kind) sev_es.mask (placed_headers file)) (sym is_sev_es)

-- files with the same headers and data have the same digests
pub same_digests : (kind : PlatformKind) (one other : List ℕ) (platform : Platform) → placed_headers other ≡ placed_headers one
    → sev_digest_by kind other platform ≡ sev_digest_by kind one platform
unfolding sev_digest
same_digests Sev one other platform same = ap (λ (placed : List PlacedHeader). Some (sha256 (counted (header_bytes platform.kind) platform.mask placed))) same
same_digests SevEs one other platform same = ap (λ (placed : List PlacedHeader). Some (sha256 (counted (header_bytes platform.kind) platform.mask placed))) same
same_digests kind one other platform same = refl
