-- The ID blocks of a joined list want the digests that they wanted.
use Rattle.std.proofs.Common.{◌≡◌, ℕ, ◌+◌, List, [], ◌∷◌, length, sym, ◌∙◌, ap, Some}
use Rattle.std.specs.List.{AllByRecursion, slice_get}
use Rattle.platform_masks.specs.declared.platform.Platform.{Platform}
use Rattle.igvm_measure.specs.Measured.{counted}
use Rattle.component_list.specs.declared.component.Component.{Component}
use Rattle.component_list.specs.ImageList.{list_of}
use Rattle.component_list.specs.Lists.{ImageParts, IsValid}
use Rattle.image_builder.specs.Layout.{layout}
use Rattle.list_changes.specs.Changes.{same}
use Rattle.list_changes.specs.ListPlatforms.{platforms_in, renumbered}
use Rattle.list_changes.proofs.Numbered.{sound}
use Rattle.launch_likeness.specs.LaunchedAlike.{WantAlike}
use Rattle.launch_likeness.proofs.Listed.{listed}
use Rattle.launch_likeness.proofs.StepMeasures.{Gives}
use Rattle.launch_likeness.proofs.StepWants.{KeepWants, part_wants, want_alike, wants, wants_same}
use Rattle.joined_list.specs.Joined.{FitTogether, joined, joined_parts, of_first, of_second}
use Rattle.joined_list.specs.NewNumbers.{area_by, first_masks, mask_by, second_areas, second_masks}
use Rattle.joined_list.proofs.LaunchSteps.{both_of, come_of, first_are, first_change, first_firsts, first_seconds, first_steps, second_are, second_change, second_firsts, second_seconds, second_steps}
use Rattle.joined_list.proofs.Launches.{first_kept, first_stands, parts_back, second_kept, second_stands}
use Rattle.joined_list.proofs.Turns.{all_turned}

of_all : (P : Component → Type 0) → ((c : Component) → P c) → (cs : List Component) → AllByRecursion P cs
of_all P each [] = tt
of_all P each (c ∷ cs) = (each c, of_all P each cs)

keep_first : (a b : List Component) → KeepWants (first_steps a b)
keep_first a b =
    all_turned (Gives wants wants) (both_of (of_first a)) (come_of (of_second a b)) a b
    (of_all (λ c. Gives wants wants (both_of (of_first a) c)) (part_wants (mask_by (first_masks a)) same) a)
    (of_all (λ c. Gives wants wants (come_of (of_second a b) c)) (λ c. tt) b)

keep_second : (a b : List Component) → KeepWants (second_steps a b)
keep_second a b =
    all_turned (Gives wants wants) (come_of (of_first a)) (both_of (of_second a b)) a b
    (of_all (λ c. Gives wants wants (come_of (of_first a) c)) (λ c. tt) a)
    (of_all (λ c. Gives wants wants (both_of (of_second a b) c)) (part_wants (mask_by (second_masks a b)) (area_by (second_areas a b))) b)

first_wanted : (a b : List Component) → IsValid a → IsValid b → FitTogether a b → (n : ℕ) (p : Platform) → slice_get (platforms_in a) n ≡ Some p
    → counted wants p.mask (listed (joined_parts a b)) ≡ counted wants p.mask (listed a)
first_wanted a b valid also fit n p here =
    let one = sound a valid.kept in
    let other = sound b also.kept in
    ap (counted wants p.mask) (sym (first_seconds a b))
    ∙ wants_same (first_change a p.mask) (first_steps a b) (first_are a b p.mask one other (first_stands a b one other fit n p here)) (keep_first a b)
    ∙ ap (counted wants p.mask) (first_firsts a b)

second_wanted : (a b : List Component) → IsValid a → IsValid b → FitTogether a b → (n : ℕ) (p : Platform) → slice_get (platforms_in b) n ≡ Some p
    → counted wants (mask_by (second_masks a b) p.mask) (listed (joined_parts a b)) ≡ counted wants p.mask (listed b)
second_wanted a b valid also fit n p here =
    let one = sound a valid.kept in
    let other = sound b also.kept in
    ap (counted wants (mask_by (second_masks a b) p.mask)) (sym (second_seconds a b))
    ∙ wants_same (second_change a b p.mask) (second_steps a b) (second_are a b p.mask one other (second_stands a b one other fit n p here)) (keep_second a b)
    ∙ ap (counted wants p.mask) (second_firsts a b)

pub first_wants : (first second : ImageParts) → IsValid first.parts → IsValid second.parts → FitTogether first.parts second.parts
    → (file : List ℕ) (n : ℕ) (p : Platform) (list : ImageParts) → list_of file ≡ first → slice_get (platforms_in first.parts) n ≡ Some p
    → list ≡ joined first second → list_of (layout list) ≡ list → WantAlike file p (layout list) (renumbered n p.mask p)
first_wants first second valid also fit file n p list of here whole back =
    let kept = first_kept first second valid also fit file n p list of here whole back in
    want_alike file (layout list) p (renumbered n p.mask p) kept.launch
    (ap (λ (cs : List Component). counted wants p.mask (listed cs)) (parts_back list (joined first second) whole back)
    ∙ first_wanted first.parts second.parts valid also fit n p here
    ∙ sym (ap (λ (cs : List Component). counted wants p.mask (listed cs)) (ap (λ (l : ImageParts). l.parts) of)))

pub second_wants : (first second : ImageParts) → IsValid first.parts → IsValid second.parts → FitTogether first.parts second.parts
    → (file : List ℕ) (n : ℕ) (p : Platform) (list : ImageParts) → list_of file ≡ second → slice_get (platforms_in second.parts) n ≡ Some p
    → list ≡ joined first second → list_of (layout list) ≡ list
    → WantAlike file p (layout list)
    (renumbered (length (platforms_in first.parts) + n) (mask_by (second_masks first.parts second.parts) p.mask) p)
second_wants first second valid also fit file n p list of here whole back =
    let mask = mask_by (second_masks first.parts second.parts) p.mask in
    let number = length (platforms_in first.parts) + n in
    let kept = second_kept first second valid also fit file n p list of here whole back in
    want_alike file (layout list) p (renumbered number mask p) kept.launch
    (ap (λ (cs : List Component). counted wants mask (listed cs)) (parts_back list (joined first second) whole back)
    ∙ second_wanted first.parts second.parts valid also fit n p here
    ∙ sym (ap (λ (cs : List Component). counted wants p.mask (listed cs)) (ap (λ (l : ImageParts). l.parts) of)))
