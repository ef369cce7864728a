-- One digest of two files: they measure the same pages, or SHA-384 clashes.
use Rattle.std.proofs.Common.{Bool, false, Decides, ◌≡◌, ◌≢◌, subst, ◌⊎◌, ℕ, List, [], ◌∷◌, map, Contains, refl, sym, ap, ap₂, ◌∙◌, inl, inr, arith, Option, Some}
use Rattle.std.specs.List.{AllByRecursion, flat_map}
use Rattle.igvm_headers.specs.declared.options.Options.{Options}
use Rattle.igvm_headers.specs.declared.platform_kind.PlatformKind.{PlatformKind}
use Rattle.igvm_headers.specs.declared.platform_kind.PlatformKind.TheVariants.{Native, VsmIsolation, SevSnp, Tdx, Sev, SevEs}
use Rattle.platform_masks.specs.declared.platform.Platform.{Platform}
use Rattle.snp_chain.specs.declared.page.SnpPage.{SnpPage}
use Rattle.snp_chain.specs.Chain.{snp}
use Rattle.tdx_chain.specs.Stream.{tdx}
use Rattle.igvm_image.specs.Areas.{areas_of}
use Rattle.igvm_image.specs.Headers.{placed_headers, headers_of, IsAccepted}
use Rattle.igvm_measure.specs.Digests.{digest_of, digest_by, snp_digest, tdx_digest}
use Rattle.igvm_image.specs.PagesFit.{PagesFit, AreBytes}
use Rattle.igvm_headers.specs.SpellingConditions.{NumbersFit}
use Rattle.igvm_measure.specs.Measured.{IsFile, measured, SnpMeasured, TdxMeasured, Measured, on_snp, on_tdx, snp_measured, tdx_measured, measured_by}
use Rattle.igvm_measure.specs.Records.{snp_record, tdx_records_of}
use Rattle.igvm_measure.specs.Hashed.{hashed, snp_hashed, tdx_joined, hashed_by, Collides, Clash}
use Rattle.igvm_measure.proofs.Clashes.{Clashes, one_or_collide}
use Rattle.igvm_measure.proofs.ChainBinding.{chain_binds}
use Rattle.igvm_measure.proofs.StreamBinding.{stream_binds}
use Rattle.igvm_measure.proofs.Addresses.{HeaderFits, headers_both, snp_fits, tdx_fits}

abbrev pub HeadersFit : List ℕ → Type 0
HeadersFit file = AllByRecursion (HeaderFits (areas_of (headers_of file))) (placed_headers file)

-- a page from how it is measured on either platform
map-injective : {A B : Type 0} (f : A → B) → ((x y : A) → f x ≡ f y → x ≡ y) → (xs ys : List A) → map f xs ≡ map f ys → xs ≡ ys
map-injective f one [] [] same = refl
map-injective f one [] (y ∷ ys) same = cc
map-injective f one (x ∷ xs) [] same = cc
map-injective f one (x ∷ xs) (y ∷ ys) same =
    let head = one x y cc in
    let rest = map-injective f one xs ys cc in
    cc

some_kind : (a b : SnpPage) → Some a ≡ Some b → a ≡ b
some_kind a b same = cc

on_snp-one : (x y : SnpMeasured) → on_snp x ≡ on_snp y → x ≡ y
on_snp-one x y same =
    ap₂ (λ (k : SnpPage) (p : ℕ × Option (List ℕ)). record { kind = k; gpa = p.0; bytes = p.1 }) (some_kind x.kind y.kind (ap (λ (m : Measured). m.kind) same)) (ap (λ (m : Measured). (m.gpa, m.bytes)) same)

on_tdx-one : (x y : TdxMeasured) → on_tdx x ≡ on_tdx y → x ≡ y
on_tdx-one x y same = ap (λ (m : Measured). record { gpa = m.gpa; bytes = m.bytes }) same

-- files that measure the same pages have one digest
pub same_digest : (kind : PlatformKind) (options : Options) (one other : List ℕ) (mask other_mask : ℕ) → measured_by kind options one mask ≡ measured_by kind options other other_mask
    → digest_by kind options one mask ≡ digest_by kind options other other_mask
unfolding snp_digest tdx_digest
same_digest SevSnp options one other mask other_mask same =
    let pages = map-injective on_snp on_snp-one (snp_measured options one mask) (snp_measured options other other_mask) same in
    ap (λ (ms : List SnpMeasured). Some (snp (map snp_record ms))) pages
same_digest Tdx options one other mask other_mask same =
    let pages = map-injective on_tdx on_tdx-one (tdx_measured one mask) (tdx_measured other other_mask) same in
    ap (λ (ms : List TdxMeasured). Some (tdx (flat_map tdx_records_of ms))) pages
same_digest Native options one other mask other_mask same = refl
same_digest VsmIsolation options one other mask other_mask same = refl
same_digest Sev options one other mask other_mask same = refl
same_digest SevEs options one other mask other_mask same = refl

some_one : (a b : List ℕ) → Some a ≡ Some b → a ≡ b
some_one a b same = cc

itself : (x : List ℕ) → Contains (x ∷ []) x
itself x = (0, omega arith, refl)

-- files of one digest measure the same pages, or SHA-384 clashes
pub same_or_clash : (kind : PlatformKind) (options : Options) (one other : List ℕ) (mask other_mask : ℕ) → HeadersFit one → HeadersFit other
    → digest_by kind options one mask ≡ digest_by kind options other other_mask
    → (measured_by kind options one mask ≡ measured_by kind options other other_mask) ⊎ Clash kind (hashed_by kind options one mask) (hashed_by kind options other other_mask)
unfolding snp_digest tdx_digest tdx
same_or_clash SevSnp options one other mask other_mask fits other_fits same =
    cases (chain_binds (snp_measured options one mask) (snp_measured options other other_mask) (snp_fits options one mask fits) (snp_fits options other other_mask other_fits)
    (some_one _ _ same))
  where
    cases : (snp_measured options one mask ≡ snp_measured options other other_mask) ⊎ Clashes (snp_hashed (snp_measured options one mask)) (snp_hashed (snp_measured options other other_mask))
        → (map on_snp (snp_measured options one mask) ≡ map on_snp (snp_measured options other other_mask)) ⊎ Clashes (snp_hashed (snp_measured options one mask)) (snp_hashed (snp_measured options other other_mask))
    cases (inl is) = inl (ap (map on_snp) is)
    cases (inr clash) = inr clash
same_or_clash Tdx options one other mask other_mask fits other_fits same =
    let a = tdx_joined (tdx_measured one mask) in
    let b = tdx_joined (tdx_measured other other_mask) in
    cases (one_or_collide (a ∷ []) (b ∷ []) a b (itself a) (itself b)
    (some_one _ _ same))
  where
    cases : (tdx_joined (tdx_measured one mask) ≡ tdx_joined (tdx_measured other other_mask)) ⊎ Collides (tdx_joined (tdx_measured one mask) ∷ []) (tdx_joined (tdx_measured other other_mask) ∷ [])
        → (map on_tdx (tdx_measured one mask) ≡ map on_tdx (tdx_measured other other_mask)) ⊎ Collides (tdx_joined (tdx_measured one mask) ∷ []) (tdx_joined (tdx_measured other other_mask) ∷ [])
    cases (inl is) = inl (ap (map on_tdx) (stream_binds (tdx_measured one mask) (tdx_measured other other_mask) (tdx_fits one mask fits) (tdx_fits other other_mask other_fits) is))
    cases (inr clash) = inr clash
same_or_clash Native options one other mask other_mask fits other_fits same = inl refl
same_or_clash VsmIsolation options one other mask other_mask fits other_fits same = inl refl
same_or_clash Sev options one other mask other_mask fits other_fits same = inl refl
same_or_clash SevEs options one other mask other_mask fits other_fits same = inl refl

-- ---- platforms

abbrev pub PagesFitLaw : Type 0
PagesFitLaw = (file : List ℕ) → IsAccepted file → AllByRecursion (λ p. PagesFit (areas_of (headers_of file)) p.header) (placed_headers file)

abbrev pub NumbersFitLaw : Type 0
NumbersFitLaw = (file : List ℕ) → AreBytes file → AllByRecursion (λ p. NumbersFit p.header) (placed_headers file)

file_fits : PagesFitLaw → NumbersFitLaw → (file : List ℕ) → IsFile file → HeadersFit file
file_fits pages numbers file is = headers_both (areas_of (headers_of file)) (placed_headers file) (pages file is.accepted) (numbers file is.bytes)

pub alike_digests : (first second : List ℕ) (p q : Platform) (options : Options) → p.kind ≡ q.kind → measured first p options ≡ measured second q options → digest_of first p options ≡ digest_of second q options
alike_digests first second p q options kinds same =
    same_digest p.kind options first second p.mask q.mask (same ∙ ap (λ (kind : PlatformKind). measured_by kind options second q.mask) (sym kinds))
    ∙ ap (λ (kind : PlatformKind). digest_by kind options second q.mask) kinds

pub digests_clash : PagesFitLaw → NumbersFitLaw → (first second : List ℕ) (p q : Platform) (options : Options) → p.kind ≡ q.kind → IsFile first → IsFile second
    → digest_of first p options ≡ digest_of second q options → measured first p options ≢ measured second q options → Clash p.kind (hashed first p options) (hashed second q options)
digests_clash pages numbers first second p q options kinds one other same differ =
    cases (same_or_clash p.kind options first second p.mask q.mask (file_fits pages numbers first one) (file_fits pages numbers second other)
    (same ∙ ap (λ (kind : PlatformKind). digest_by kind options second q.mask) (sym kinds)))
  where
    cases : (measured_by p.kind options first p.mask ≡ measured_by p.kind options second q.mask) ⊎ Clash p.kind (hashed_by p.kind options first p.mask) (hashed_by p.kind options second q.mask)
        → Clash p.kind (hashed_by p.kind options first p.mask) (hashed_by q.kind options second q.mask)
    cases (inl is) = absurd (differ (is ∙ ap (λ (kind : PlatformKind). measured_by kind options second q.mask) kinds))
    cases (inr clash) = subst (λ (kind : PlatformKind). Clash p.kind (hashed_by p.kind options first p.mask) (hashed_by kind options second q.mask)) kinds clash

-- ---- lists that are compared

pub decides_alike : (r : Bool) (a b x y : List Measured) → Decides r (a ≡ b) → a ≡ x → b ≡ y → Decides r (x ≡ y)
decides_alike r a b x y decides one other =
    ((λ holds. sym one ∙ decides.0 holds ∙ other), (λ same. decides.1 (one ∙ same ∙ sym other)))

pub differ_where_false : (r : Bool) (a b x y : List Measured) → Decides r (a ≡ b) → a ≡ x → b ≡ y → r ≡ false → x ≢ y
differ_where_false r a b x y decides one other fails same = let holds = decides.1 (one ∙ same ∙ sym other) in cc
