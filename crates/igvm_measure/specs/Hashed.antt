-- What is hashed for a launch digest, and what it means that SHA-384 clashes there.
use Rattle.std.specs.Prelude.{◌≡◌, ◌≢◌, ◌⊎◌, ℕ, List, [], ◌∷◌, ◌++◌, replicate, Contains, Option, Some, None}
use Rattle.std.specs.List.{concat, flat_map}
use Rattle.sha2.specs.Sha512.{sha384}
use Rattle.igvm_headers.specs.declared.options.Options.{Options}
use Rattle.igvm_headers.specs.declared.platform_kind.PlatformKind.{PlatformKind}
use Rattle.igvm_headers.specs.declared.platform_kind.PlatformKind.TheVariants.{SevSnp, Tdx}
use Rattle.platform_masks.specs.declared.platform.Platform.{Platform}
use Rattle.snp_chain.specs.Chain.{page_info, digest_after}
use Rattle.igvm_measure.specs.Measured.{SnpMeasured, TdxMeasured, snp_measured, tdx_measured}
use Rattle.igvm_measure.specs.Records.{snp_record, tdx_records_of}

-- the page whose digest stands in a record, if one does
abbrev pub pages_of : Option (List ℕ) → List (List ℕ)
pages_of None = []
pages_of (Some page) = page ∷ []

-- each PAGE_INFO, and each page whose digest stands in it, from a digest on
abbrev pub snp_hashed_from : List ℕ → List SnpMeasured → List (List ℕ)
snp_hashed_from digest [] = []
snp_hashed_from digest (m ∷ ms) =
    page_info digest (snp_record m) ∷ pages_of m.bytes
    ++ snp_hashed_from (digest_after digest (snp_record m)) ms

-- what is hashed for these pages on SEV-SNP
abbrev pub snp_hashed : List SnpMeasured → List (List ℕ)
snp_hashed ms = snp_hashed_from (replicate 48 0) ms

-- what is hashed for these pages on TDX: their records, joined
abbrev pub tdx_joined : List TdxMeasured → List ℕ
tdx_joined ms = concat (flat_map tdx_records_of ms)

-- the byte lists that are hashed for a file and a platform of this kind, under its mask
abbrev pub hashed_by : PlatformKind → Options → List ℕ → ℕ → List (List ℕ)
hashed_by SevSnp options file mask = snp_hashed (snp_measured options file mask)
hashed_by Tdx options file mask = tdx_joined (tdx_measured file mask) ∷ []
hashed_by _ options file mask = []

-- the byte lists that are hashed for the launch digest of a file for a platform
abbrev pub hashed : List ℕ → Platform → Options → List (List ℕ)
hashed file platform options = hashed_by platform.kind options file platform.mask

-- two unequal members of these lists have one digest
pub record Collides (a b : List (List ℕ)) : Type 0 where
  pub one : List ℕ
  pub other : List ℕ
  pub one_there : Contains (a ++ b) one
  pub other_there : Contains (a ++ b) other
  pub unequal : one ≢ other
  pub same : sha384 one ≡ sha384 other

-- a member of these lists has 48 zeros as its digest, which is that of no records on SEV-SNP
pub record HitsZeros (a b : List (List ℕ)) : Type 0 where
  pub one : List ℕ
  pub there : Contains (a ++ b) one
  pub zeros : sha384 one ≡ replicate 48 0

-- SHA-384 clashes at members of these lists
abbrev pub Clash : PlatformKind → List (List ℕ) → List (List ℕ) → Type 0
Clash SevSnp a b = Collides a b ⊎ HitsZeros a b
Clash _ a b = Collides a b
