-- Two platforms whose images are compared.
use Rattle.std.specs.Prelude.{◌≡◌, ◌≤◌, ℕ, List, Bool, Result, Ok, Err, IsTrue, IsFalse, cond, Decides}
use Rattle.igvm_headers.specs.PlatformKinds.{is_kind}
use Rattle.igvm_headers.specs.declared.options.Options.{Options}
use Rattle.igvm_headers.specs.declared.platform_kind.PlatformKind.{PlatformKind}
use Rattle.igvm_headers.specs.declared.platform_kind.PlatformKind.TheVariants.{SevSnp, Tdx}
use Rattle.igvm_measure.specs.Digests.{digest_of}
use Rattle.igvm_measure.specs.Hashed.{Clash, hashed}
use Rattle.igvm_measure.specs.Measured.{measured}
use Rattle.platform_masks.specs.declared.platform.Platform.{Platform}
use Rattle.igvm_c.specs.declared.refusal.Refusal.{Refusal}
use Rattle.igvm_c.specs.declared.refusal.Refusal.TheVariants.{NoDigest, OtherKind}
use Rattle.igvm_c.specs.OptionBits.{options_of}
use Rattle.igvm_c.specs.Platforms.{platform_of}
use Rattle.igvm_c.specs.Refusals.{and_then}

-- a platform of each image, and the options
pub record Pair : Type 0 where
  pub first : Platform
  pub second : Platform
  pub options : Options

abbrev pub pair_of : Platform → Platform → Options → Pair
pair_of p q options = record { first = p; second = q; options = options }

-- platforms of this kind have a launch digest of 48 bytes
abbrev pub launched : PlatformKind → Pair → Result Pair Refusal
launched SevSnp pair = Ok pair
launched Tdx pair = Ok pair
launched _ pair = Err NoDigest

-- both are of one kind, which has such a digest
abbrev pub of_one_kind : Platform → Platform → Options → Result Pair Refusal
of_one_kind p q options =
    cond (is_kind p.kind q.kind) (launched p.kind (pair_of p q options))
    (Err OtherKind)

-- the two platforms of two files, by their numbers and the number of the options
abbrev pub pair_in : List ℕ → ℕ → List ℕ → ℕ → ℕ → Result Pair Refusal
pair_in first n second m options =
    and_then (options_of options) (λ o. and_then (platform_of first n) (λ p.
    and_then (platform_of second m) (λ q. of_one_kind p q o)))

-- 1 exactly where P holds, and else 0
pub record IsFlag (number : ℕ) (P : Type 0) : Type 0 where
  pub within : number ≤ 1
  pub holds : number ≡ 1 → P
  pub one : P → number ≡ 1

-- what a comparison says of two files
pub record IsCompared (first second : List ℕ) (pair : Pair) (same : Bool) : Type 0 where
  pub exact : Decides same (measured first pair.first pair.options ≡ measured second pair.second pair.options)
  pub digests : IsTrue same → digest_of first pair.first pair.options ≡ digest_of second pair.second pair.options
  pub clash : IsFalse same → digest_of first pair.first pair.options ≡ digest_of second pair.second pair.options
      → Clash pair.first.kind (hashed first pair.first pair.options) (hashed second pair.second pair.options)
