-- The headers of a made list that count for SEV-SNP.
use Rattle.std.proofs.Common.{◌≡◌, ℕ, zero, suc, ◌+◌, ◌*◌, List, [], ◌∷◌, ◌++◌, refl, ap}
use Rattle.std.specs.Prelude.{filter}
use Rattle.igvm_headers.specs.declared.header.Header.{Header}
use Rattle.igvm_headers.specs.declared.header.Header.TheVariants.{Platform, Policy, Area, Param, Required}
use Rattle.igvm_headers.specs.declared.param_kind.ParamKind.TheVariants.{CommandLine}
use Rattle.igvm_headers.specs.declared.platform_kind.PlatformKind.TheVariants.{SevSnp}
use Rattle.platform_masks.specs.Masks.{applies}
use Rattle.made_list.specs.MadeList.{page_header}
use Rattle.made_list.proofs.Headers.{made_headers, page_headers, last_headers}

-- those before the pages
abbrev pub snp_head : ℕ → List Header
snp_head n =
    Platform 1 0 SevSnp 1 0 ∷ Policy 0x30000 1 ∷ Area 4096 0 0 ∷ Param CommandLine 0 0 ∷ Required 0x100000 7 (4096 * n) 0 ∷ []

pages_apply : (first n : ℕ) → filter (λ h. applies h 1) (page_headers first n ++ last_headers) ≡ page_headers first n ++ last_headers
pages_apply first zero = refl
pages_apply first (suc n) = ap (λ hs. page_header first ∷ hs) (pages_apply (first + 1) n)

pub snp_headers_are : (n : ℕ) → filter (λ h. applies h 1) (made_headers n) ≡ snp_head n ++ (page_headers 0 n ++ last_headers)
snp_headers_are n = ap (λ hs. snp_head n ++ hs) (pages_apply 0 n)
