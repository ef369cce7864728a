-- Components none of which breaks a rule behind those before it.
use Rattle.std.proofs.Common.{◌≡◌, ℕ, ◌<◌, List, [], ◌∷◌, ◌++◌, length, ◌∙◌, ap, arith, false, None, Some}
use Rattle.std.specs.Prelude.{if◌then◌else◌, ◌==◌}
use Rattle.std.proofs.Math.Dec.{eqb-suc-zero}
use Rattle.igvm_headers.specs.declared.header.Header.{Header}
use Rattle.igvm_headers.specs.declared.fault.ReadWhat.TheVariants.{NoPlatform}
use Rattle.igvm_image.specs.HeaderRules.{Seen, seen_of, seen_after, rule_fault}
use Rattle.made_list.proofs.SeenMore.{seen_more}
use Rattle.platform_masks.specs.Platforms.{platforms_of}
use Rattle.platform_masks.specs.declared.platform.Platform as platform
use Rattle.component_list.specs.declared.component.Component.{Component}
use Rattle.component_list.specs.Components.{is_unknown, breaks_length, breaks_data_type}
use Rattle.component_list.specs.Lists.{component_fault, fault_behind, fault_in, unless_broken}

-- they break none behind headers of this summary, and there is a platform in the end
abbrev pub Follow : Seen → List Component → Type 0
Follow seen [] = 0 < length seen.platforms
Follow seen (c ∷ cs) = (component_fault seen c ≡ None) × Follow (seen_after seen c.header) cs

-- there is a platform
at_end : (n : ℕ) (ps : List platform.Platform) → 0 < length ps → (if length ps == 0 then Some (fault_in n NoPlatform) else None) ≡ None
at_end n [] some = absurd (omega arith)
at_end n (p ∷ ps) some = ap (λ b. if b then Some (fault_in n NoPlatform) else None) (eqb-suc-zero (length ps))

pub no_fault : (before : List Header) (seen : Seen) (cs : List Component) → seen_of before ≡ seen → Follow seen cs → fault_behind before cs ≡ None
unfolding fault_behind
no_fault before seen [] same some =
    let platforms : platforms_of before ≡ seen.platforms = ap (λ (s : Seen). s.platforms) same in
    ap (λ (ps : List platform.Platform). if length ps == 0 then Some (fault_in (length before) NoPlatform) else None) platforms
    ∙ at_end (length before) seen.platforms some
no_fault before seen (c ∷ cs) same (kept, follow) =
    ap (λ f. unless_broken (length before) f (fault_behind (before ++ c.header ∷ []) cs)) (ap (λ s. component_fault s c) same ∙ kept)
    ∙ no_fault (before ++ c.header ∷ []) (seen_after seen c.header) cs (seen_more before c.header ∙ ap (λ s. seen_after s c.header) same) follow

-- a component breaks none where it breaks none of the four
pub kept_by_parts : (seen : Seen) (c : Component) → is_unknown c.header ≡ false → breaks_length c ≡ false → breaks_data_type c.header ≡ false
    → rule_fault 0 seen c.header ≡ None → component_fault seen c ≡ None
unfolding component_fault
kept_by_parts seen c unknown length' type rules = grind arith
