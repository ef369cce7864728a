-- A list beside the sealed one: each component says the same, but for the digest that an ID block wants.
use Rattle.std.proofs.Common.{◌≡◌, ℕ, List, [], ◌∷◌, map, refl, ap, subst, Bool, true, false}
use Rattle.std.specs.Prelude.{if◌then◌else◌}
use Rattle.igvm_headers.specs.declared.header.Header.{Header}
use Rattle.igvm_headers.specs.declared.header.Header.TheVariants.{Platform, Policy, Area, Page, Insert, Param, Context, Required, ErrorRange, IdBlock, Carried}
use Rattle.platform_masks.specs.Masks.{applies}
use Rattle.component_list.specs.declared.component.Component.{Component}
use Rattle.list_changes.specs.Changes.{changed, same, with_digest, with_header}
use Rattle.launch_likeness.proofs.Listed.{all_named, as_placed, changed_part_same, listed, part_same}
use Rattle.launch_likeness.proofs.Steps.{AreOld, AreSteps, Both, IsSame, Step, firsts, same_areas, seconds}
use Rattle.image_ops.specs.Sealed.{sealed_part, sealed_parts}
use Rattle.image_ops.proofs.BuiltLists.{AreBeside}

unchanged : (h : Header) → changed same same h ≡ h
unchanged (Platform mask highest_vtl kind version shared_gpa) = refl
unchanged (Policy policy mask) = refl
unchanged (Area bytes area offset) = refl
unchanged (Page gpa mask offset large unmeasured kind) = refl
unchanged (Insert gpa mask area) = refl
unchanged (Param kind area byte_offset) = refl
unchanged (Context gpa mask offset vp) = refl
unchanged (Required gpa mask bytes flags) = refl
unchanged (ErrorRange gpa mask bytes) = refl
unchanged (IdBlock mask author_enabled ld family_id image_id version guest_svn id_algorithm author_algorithm) = refl
unchanged (Carried kind length) = refl

-- for the platform of any mask
says_same : (m : ℕ) (b : Bool) (digest : List ℕ) (c : Component)
    → IsSame (same_areas m m) (as_placed c) (as_placed (with_header (if b then with_digest digest c.header else c.header) c))
says_same m true digest c =
    subst (λ h. IsSame (same_areas m m) (as_placed c) (as_placed (with_header h c))) (unchanged (with_digest digest c.header))
    (part_same (same_areas m m) same digest c (ap (λ h. applies h m) (unchanged c.header)) (all_named c.header))
says_same m false digest c =
    subst (λ h. IsSame (same_areas m m) (as_placed c) (as_placed (with_header h c))) (unchanged c.header)
    (changed_part_same (same_areas m m) same c (ap (λ h. applies h m) (unchanged c.header)) (all_named c.header))

-- ---- the steps

abbrev steps_of : ℕ → List ℕ → List Component → List Step
steps_of mask digest cs = map (λ c. Both (as_placed c) (as_placed (sealed_part mask digest c))) cs

first_of_steps : (mask : ℕ) (digest : List ℕ) (cs : List Component) → firsts (steps_of mask digest cs) ≡ listed cs
first_of_steps mask digest [] = refl
first_of_steps mask digest (c ∷ cs) = ap (λ ps. as_placed c ∷ ps) (first_of_steps mask digest cs)

second_of_steps : (mask : ℕ) (digest : List ℕ) (cs : List Component) → seconds (steps_of mask digest cs) ≡ listed (sealed_parts mask digest cs)
unfolding sealed_parts
second_of_steps mask digest [] = refl
second_of_steps mask digest (c ∷ cs) = ap (λ ps. as_placed (sealed_part mask digest c) ∷ ps) (second_of_steps mask digest cs)

are_steps : (m mask : ℕ) (digest : List ℕ) (cs : List Component) → AreSteps (same_areas m m) (steps_of mask digest cs)
are_steps m mask digest [] = tt
are_steps m mask digest (c ∷ cs) = (says_same m (applies c.header mask) digest c, are_steps m mask digest cs)

are_old : (mask : ℕ) (digest : List ℕ) (cs : List Component) → AreOld (steps_of mask digest cs)
are_old mask digest [] = tt
are_old mask digest (c ∷ cs) = (tt, are_old mask digest cs)

pub sealed_beside : (m mask : ℕ) (digest : List ℕ) (cs : List Component) → AreBeside m cs (sealed_parts mask digest cs)
sealed_beside m mask digest cs = record {
  steps = steps_of mask digest cs;
  first = first_of_steps mask digest cs;
  second = second_of_steps mask digest cs;
  are = are_steps m mask digest cs;
  olds = are_old mask digest cs;
}
