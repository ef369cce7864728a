-- Each platform of two lists is launched alike by the joined list.
use Rattle.std.proofs.Common.{◌≡◌, ℕ, ◌+◌, List, length, refl, sym, ◌∙◌, ap, subst, arith, Some, Bool, true, false}
use Rattle.std.specs.Prelude.{◌==◌}
use Rattle.std.specs.List.{slice_get}
use Rattle.std.proofs.lemmas.Bool.{eq-eqb, eqb-true}
use Rattle.platform_masks.specs.declared.platform.Platform.{Platform}
use Rattle.igvm_image.specs.HeaderRules.{one_bit_masks}
use Rattle.igvm_image.specs.Headers.{PlacedHeader}
use Rattle.component_list.specs.declared.component.Component.{Component}
use Rattle.component_list.specs.ImageList.{components_in, list_of}
use Rattle.component_list.specs.Lists.{ImageParts, IsValid}
use Rattle.image_builder.specs.Layout.{layout}
use Rattle.list_changes.specs.Changes.{same}
use Rattle.list_changes.specs.ListPlatforms.{masks_in, platforms_in, renumbered}
use Rattle.list_changes.proofs.Numbered.{IsSound, has_at, mask_at, sound}
use Rattle.launch_likeness.specs.LaunchedAlike.{KeepsLaunch}
use Rattle.launch_likeness.proofs.Alike.{Alike}
use Rattle.launch_likeness.proofs.Launched.{file_platforms, launched_alike}
use Rattle.launch_likeness.proofs.Listed.{listed, steps_alike}
use Rattle.launch_likeness.proofs.Steps.{KeepsApart, Step, firsts, seconds}
use Rattle.joined_list.specs.Joined.{FitTogether, joined, joined_parts}
use Rattle.joined_list.specs.NewNumbers.{area_by, first_masks, free, mask_by, moves, second_areas, second_masks}
use Rattle.joined_list.proofs.FreeNumbers.{free_not_taken, taken_not_free}
use Rattle.joined_list.proofs.FreeSuffice.{bits_fit, masks_enough}
use Rattle.joined_list.proofs.LaunchSteps.{StandsApart, first_are, first_change, first_firsts, first_seconds, first_steps, owns, second_are, second_change, second_firsts, second_seconds, second_steps}
use Rattle.joined_list.proofs.NewMasks.{gives_none, mask_moves, move_at}
use Rattle.joined_list.proofs.NumbersApart.{first_apart, new_mask, second_apart, second_renames}
use Rattle.joined_list.proofs.PlatformPlaces.{first_place, second_place}

-- ---- the numbers of both lists, as the steps of a platform want them

pub first_stands : (a b : List Component) → IsSound a → IsSound b → FitTogether a b → (n : ℕ) (p : Platform) → slice_get (platforms_in a) n ≡ Some p
    → StandsApart (first_change a p.mask) (first_masks a) (second_masks a b) (area_by (second_areas a b)) (owns b)
unfolding second_masks
first_stands a b one other fit n p here =
    let at = mask_at a n p here in
    let found = move_at (masks_in a) (masks_in a) n p.mask at (omega arith) in
    let own : found.0 ≡ p.mask = (let both : Some found.0 ≡ Some p.mask = sym found.2 ∙ at in cc) in
    let bits = bits_fit a b one in
    record {
      place = n;
      here = found.1 ∙ ap (λ m. Some (record { old = p.mask; new = m })) own;
      own = bits.first;
      other = bits.second;
      none = gives_none (masks_in b) (free (masks_in a) one_bit_masks) p.mask
          (taken_not_free (masks_in a) one_bit_masks p.mask (has_at (masks_in a) n p.mask at));
      areas = λ area is x mine. (first_apart a b one other fit).areas x area mine is;
    }

pub second_stands : (a b : List Component) → IsSound a → IsSound b → FitTogether a b → (n : ℕ) (p : Platform) → slice_get (platforms_in b) n ≡ Some p
    → StandsApart (second_change a b p.mask) (second_masks a b) (first_masks a) same (owns a)
unfolding second_masks
second_stands a b one other fit n p here =
    let at = mask_at b n p here in
    let free_masks = free (masks_in a) one_bit_masks in
    let found = move_at (masks_in b) free_masks n p.mask at (masks_enough a b fit) in
    let moved = mask_moves (masks_in b) free_masks n (record { old = p.mask; new = found.0 }) other.bits other.distinct found.1 in
    let new = mask_by (moves (masks_in b) free_masks) p.mask in
    let bits = bits_fit a b one in
    record {
      place = n;
      here = found.1 ∙ ap (λ m. Some (record { old = p.mask; new = m })) (sym moved.0);
      own = bits.second;
      other = bits.first;
      none = gives_none (masks_in a) (masks_in a) new
          (free_not_taken (masks_in a) one_bit_masks new (new_mask a b other fit p.mask (has_at (masks_in b) n p.mask at)));
      areas = λ area is x mine. (second_apart a b one other fit).areas x area mine is;
    }

-- the areas of the second list keep apart
areas_apart : (a b : List Component) → IsSound b → FitTogether a b → (mask : ℕ) → KeepsApart (second_change a b mask)
areas_apart a b other fit mask x y here there = cases (y == x) refl
  where
    cases : (p : Bool) → (y == x) ≡ p → (area_by (second_areas a b) y == area_by (second_areas a b) x) ≡ p
    cases true is = eq-eqb _ _ (ap (area_by (second_areas a b)) (eqb-true y x is))
    cases false is = (second_renames a b other fit).areas x y here there is

-- ---- each platform is launched alike

set_beside : (old new : ℕ) (ps qs : List PlacedHeader) (steps : List Step) → firsts steps ≡ ps → seconds steps ≡ qs
    → Alike old (firsts steps) new (seconds steps) → Alike old ps new qs
set_beside old new ps qs steps first second alike =
    subst (λ (headers : List PlacedHeader). Alike old ps new headers) second (subst (λ (headers : List PlacedHeader). Alike old headers new (seconds steps)) first alike)

pub first_alike : (a b : List Component) → IsValid a → IsValid b → FitTogether a b → (n : ℕ) (p : Platform) → slice_get (platforms_in a) n ≡ Some p
    → Alike p.mask (listed a) p.mask (listed (joined_parts a b))
first_alike a b valid also fit n p here =
    let one = sound a valid.kept in
    let other = sound b also.kept in
    set_beside p.mask p.mask (listed a) (listed (joined_parts a b)) (first_steps a b) (first_firsts a b) (first_seconds a b)
    (steps_alike (first_change a p.mask) (λ x y mine yours. refl) (first_steps a b)
    (first_are a b p.mask one other (first_stands a b one other fit n p here)))

pub second_alike : (a b : List Component) → IsValid a → IsValid b → FitTogether a b → (n : ℕ) (p : Platform) → slice_get (platforms_in b) n ≡ Some p
    → Alike p.mask (listed b) (mask_by (second_masks a b) p.mask) (listed (joined_parts a b))
second_alike a b valid also fit n p here =
    let one = sound a valid.kept in
    let other = sound b also.kept in
    set_beside p.mask (mask_by (second_masks a b) p.mask) (listed b) (listed (joined_parts a b)) (second_steps a b) (second_firsts a b) (second_seconds a b)
    (steps_alike (second_change a b p.mask) (areas_apart a b other fit p.mask) (second_steps a b)
    (second_are a b p.mask one other (second_stands a b one other fit n p here)))

-- ---- and so by the image of the joined list

-- a platform of a file, under a number and a mask among the components that another file has
launch_kept : (file : List ℕ) (p : Platform) (list : ImageParts) (parts : List Component) (number mask : ℕ)
    → components_in (layout list) ≡ parts → slice_get (platforms_in parts) number ≡ Some (renumbered number mask p)
    → Alike p.mask (listed (components_in file)) mask (listed parts) → KeepsLaunch file p list number mask
launch_kept file p list parts number mask back here alike = record {
  place = ap (λ ps. slice_get ps number) (file_platforms (layout list) ∙ ap platforms_in back) ∙ here;
  launch = launched_alike file (layout list) p (renumbered number mask p) refl
      (subst (λ cs. Alike p.mask (listed (components_in file)) mask (listed cs)) (sym back) alike);
}

pub parts_back : (list joined : ImageParts) → list ≡ joined → list_of (layout list) ≡ list → components_in (layout list) ≡ joined.parts
parts_back list joined whole back = ap (λ (l : ImageParts). l.parts) back ∙ ap (λ (l : ImageParts). l.parts) whole

pub first_kept : (first second : ImageParts) → IsValid first.parts → IsValid second.parts → FitTogether first.parts second.parts
    → (file : List ℕ) (n : ℕ) (p : Platform) (list : ImageParts) → list_of file ≡ first → slice_get (platforms_in first.parts) n ≡ Some p
    → list ≡ joined first second → list_of (layout list) ≡ list → KeepsLaunch file p list n p.mask
first_kept first second valid also fit file n p list of here whole back =
    launch_kept file p list (joined_parts first.parts second.parts) n p.mask (parts_back list (joined first second) whole back)
    (first_place first.parts second.parts valid.kept n p here)
    (subst (λ parts. Alike p.mask (listed parts) p.mask (listed (joined_parts first.parts second.parts))) (sym (ap (λ (l : ImageParts). l.parts) of))
    (first_alike first.parts second.parts valid also fit n p here))

pub second_kept : (first second : ImageParts) → IsValid first.parts → IsValid second.parts → FitTogether first.parts second.parts
    → (file : List ℕ) (n : ℕ) (p : Platform) (list : ImageParts) → list_of file ≡ second → slice_get (platforms_in second.parts) n ≡ Some p
    → list ≡ joined first second → list_of (layout list) ≡ list
    → KeepsLaunch file p list (length (platforms_in first.parts) + n) (mask_by (second_masks first.parts second.parts) p.mask)
second_kept first second valid also fit file n p list of here whole back =
    let mask = mask_by (second_masks first.parts second.parts) p.mask in
    launch_kept file p list (joined_parts first.parts second.parts) (length (platforms_in first.parts) + n) mask (parts_back list (joined first second) whole back)
    (second_place first.parts second.parts n p here)
    (subst (λ parts. Alike p.mask (listed parts) mask (listed (joined_parts first.parts second.parts))) (sym (ap (λ (l : ImageParts). l.parts) of))
    (second_alike first.parts second.parts valid also fit n p here))
