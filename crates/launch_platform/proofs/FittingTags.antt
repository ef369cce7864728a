-- Which tags a platform takes for a page.
use Rattle.std.proofs.Common.{◌≡◌, ◌≢◌, ◌⊎◌, inl, inr, ℕ, zero, suc, List, [], ◌∷◌, length, replicate, refl, ap, sym, subst, ◌∙◌, arith}
use Rattle.std.specs.List.{All}
use Rattle.std.proofs.lemmas.List.Elements.{All-replicate}
use Rattle.igvm_headers.specs.declared.platform_kind.PlatformKind.TheVariants.{SevSnp, Tdx}
use Rattle.igvm_headers.specs.declared.tag.Tag.{Tag}
use Rattle.igvm_headers.specs.declared.tag.Tag.TheVariants.{Normal, Zero, Unmeasured, Secrets, Cpuid}
use Rattle.launch_platform.specs.Commands.{TagFits}

zeros-replicate : (bytes : List ℕ) (n : ℕ) → length bytes ≡ n → All (λ byte. byte ≡ 0) bytes → bytes ≡ replicate n 0
zeros-replicate [] zero size zeros = refl
zeros-replicate [] (suc n) size zeros = absurd (omega arith)
zeros-replicate (byte ∷ bytes) zero size zeros = absurd (omega arith)
zeros-replicate (byte ∷ bytes) (suc n) size zeros =
    let first : byte ≡ 0 = zeros 0 0 (omega arith) in
    let rest : bytes ≡ replicate n 0 = zeros-replicate bytes n (omega arith) (λ k d within. zeros (suc k) d (omega arith)) in
    ap (λ b. b ∷ bytes) first ∙ ap (λ bs. 0 ∷ bs) rest

pub zero_fits : (page : List ℕ) → length page ≡ 4096 → All (λ byte. byte ≡ 0) page → page ≡ replicate 4096 0
zero_fits page size zeros = zeros-replicate page 4096 size zeros

pub zeros_of : (page : List ℕ) → page ≡ replicate 4096 0 → All (λ byte. byte ≡ 0) page
zeros_of page same = subst (All (λ byte. byte ≡ 0)) (sym same) (All-replicate (λ byte. byte ≡ 0) 4096 0 refl)

pub other_tags_fit : (tag : Tag) (page : List ℕ) → tag ≢ Zero → TagFits SevSnp tag page
other_tags_fit Normal page other = tt
other_tags_fit Zero page other = absurd (other refl)
other_tags_fit Unmeasured page other = tt
other_tags_fit Secrets page other = tt
other_tags_fit Cpuid page other = tt

pub tdx_tag : (tag : Tag) (page : List ℕ) → TagFits Tdx tag page → (tag ≡ Normal) ⊎ (tag ≡ Unmeasured)
tdx_tag Normal page fits = inl refl
tdx_tag Zero page fits = absurd fits
tdx_tag Unmeasured page fits = inr refl
tdx_tag Secrets page fits = absurd fits
tdx_tag Cpuid page fits = absurd fits

pub tdx_fits : (tag : Tag) (page : List ℕ) → (tag ≡ Normal) ⊎ (tag ≡ Unmeasured) → TagFits Tdx tag page
tdx_fits tag page (inl is) = subst (λ t. TagFits Tdx t page) (sym is) tt
tdx_fits tag page (inr is) = subst (λ t. TagFits Tdx t page) (sym is) tt
