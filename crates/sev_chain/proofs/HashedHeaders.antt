-- The bytes that the headers of a file give, one header after the other.
use Rattle.std.proofs.Common.{◌≡◌, ℕ, List, [], ◌∷◌, ◌++◌, sym, ap, subst, ◌∙◌, append_assoc, append-nil, true, arith}
use Rattle.std.specs.List.{AllByRecursion}
use Rattle.sha2.specs.declared.Sha256.{Sha256}
use Rattle.sha2.specs.Hashers.{Holds256}
use Rattle.igvm_headers.specs.declared.platform_kind.PlatformKind.{PlatformKind}
use Rattle.platform_masks.specs.Masks.{applies}
use Rattle.igvm_image.specs.Headers.{PlacedHeader, placed_headers}
use Rattle.igvm_measure.specs.Measured.{counted}
use Rattle.igvm_measure.specs.Runs.{HasItsPages}
use Rattle.igvm_measure.proofs.WalkLemmas.{placed_from-pages}
use Rattle.sev_chain.specs.SevBytes.{header_bytes}

-- a hasher holds some bytes, which with those that the headers left give are those that all give
pub record Hashing (kind : PlatformKind) (mask : ℕ) (all left : List PlacedHeader) (hasher : Sha256) : Type 0 where
  pub before : List ℕ
  pub held : Holds256 hasher before
  pub same : before ++ counted (header_bytes kind) mask left ≡ counted (header_bytes kind) mask all
  pub pages : AllByRecursion HasItsPages left

-- before the first header
pub hashing_none : (kind : PlatformKind) (mask : ℕ) (file : List ℕ) (left : List PlacedHeader) (hasher : Sha256) → left ≡ placed_headers file
    → Holds256 hasher [] → Hashing kind mask (placed_headers file) left hasher
hashing_none kind mask file left hasher all empty = record {
  before = [];
  held = empty;
  same = ap (counted (header_bytes kind) mask) all;
  pages = subst (AllByRecursion HasItsPages) (sym all) (placed_from-pages _ _ _ _);
}

counts : (kind : PlatformKind) (mask : ℕ) (p : PlacedHeader) (ps : List PlacedHeader) → applies p.header mask ≡ true
    → counted (header_bytes kind) mask (p ∷ ps) ≡ header_bytes kind p ++ counted (header_bytes kind) mask ps
counts kind mask p ps is = grind arith

-- a header that counts is added
pub hashing_more : (kind : PlatformKind) (mask : ℕ) (all left rest : List PlacedHeader) (p : PlacedHeader) (old new : Sha256)
    → Hashing kind mask all left old → left ≡ p ∷ rest → applies p.header mask ≡ true
    → ((m : List ℕ) → Holds256 old m → Holds256 new (m ++ header_bytes kind p)) → Hashing kind mask all rest new
hashing_more kind mask all left rest p old new h first is added =
    let here = subst (λ (ps : List PlacedHeader). Hashing kind mask all ps old) first h in
    record {
      before = here.before ++ header_bytes kind p;
      held = added here.before here.held;
      same = append_assoc here.before (header_bytes kind p) (counted (header_bytes kind) mask rest)
          ∙ ap (λ bytes. here.before ++ bytes) (sym (counts kind mask p rest is)) ∙ here.same;
      pages = here.pages.1;
    }

-- behind the last
pub hashing_all : (kind : PlatformKind) (mask : ℕ) (all left : List PlacedHeader) (hasher : Sha256)
    → Hashing kind mask all left hasher → left ≡ [] → Holds256 hasher (counted (header_bytes kind) mask all)
hashing_all kind mask all left hasher h none =
    let here = subst (λ (ps : List PlacedHeader). Hashing kind mask all ps hasher) none h in
    subst (Holds256 hasher) (sym (append-nil here.before) ∙ here.same) here.held
