-- A stripped list's ID blocks want the digests that they wanted.
use Rattle.std.proofs.Common.{◌≡◌, ℕ, ◌≤◌, List, [], ◌∷◌, sym, ◌∙◌, ap, subst, Bool, true, false}
use Rattle.std.specs.Prelude.{if◌then◌else◌}
use Rattle.platform_masks.specs.declared.platform.Platform.{Platform}
use Rattle.igvm_measure.specs.Measured.{counted}
use Rattle.component_list.specs.declared.component.Component.{Component}
use Rattle.component_list.specs.ImageList.{components_in, list_of}
use Rattle.component_list.specs.Lists.{ImageParts}
use Rattle.image_builder.specs.Layout.{layout, layout_size}
use Rattle.list_changes.specs.Changes.{same}
use Rattle.list_changes.specs.ListPlatforms.{renumbered}
use Rattle.list_changes.proofs.Bits.{IsBit}
use Rattle.list_changes.proofs.Numbered.{platform_bit}
use Rattle.launch_likeness.specs.LaunchedAlike.{KeepsLaunch, WantAlike}
use Rattle.launch_likeness.proofs.Listed.{as_placed, listed}
use Rattle.launch_likeness.proofs.StepMeasures.{Gives}
use Rattle.launch_likeness.proofs.StepWants.{KeepWants, part_wants, want_alike, wants, wants_same}
use Rattle.launch_likeness.proofs.Steps.{Both, Gone, same_areas}
use Rattle.image_ops.specs.Stripped.{masked, stays, stripped, stripped_parts}
use Rattle.image_ops.proofs.BuiltLists.{ReadsBack}
use Rattle.image_ops.proofs.StripAnswers.{IsFound, strip_launch, stripped_list}
use Rattle.image_ops.proofs.StrippedSteps.{are_steps, first_of_steps, second_of_steps, steps_of}

keep : (m : ℕ) (cs : List Component) → KeepWants (steps_of m cs)
keep m [] = tt
keep m (c ∷ cs) = (cases (stays m c.header), keep m cs)
  where
    cases : (b : Bool) → Gives wants wants (if b then Both (as_placed c) (as_placed (masked m c)) else Gone (as_placed c))
    cases true = part_wants (λ old. m) same c
    cases false = tt

stripped_wants : (m : ℕ) → IsBit m → (cs : List Component)
    → counted wants m (listed (stripped_parts m cs)) ≡ counted wants m (listed cs)
stripped_wants m is cs =
    ap (counted wants m) (sym (second_of_steps m cs))
    ∙ wants_same (same_areas m m) (steps_of m cs) (are_steps m is cs) (keep m cs)
    ∙ ap (counted wants m) (first_of_steps m cs)

pub strip_wants : ReadsBack → (file : List ℕ) (list new : ImageParts) (number : ℕ) (p : Platform) → IsFound list number p → list_of file ≡ list
    → new ≡ stripped p.mask list → layout_size new ≤ 536870912 → WantAlike file p (layout new) (renumbered 0 p.mask p)
strip_wants back file list new number p found of is small =
    let whole = stripped_list list number p found in
    let within : layout_size (stripped p.mask list) ≤ 536870912 = subst (λ (l : ImageParts). layout_size l ≤ 536870912) is small in
    let kept : KeepsLaunch file p (stripped p.mask list) 0 p.mask =
    subst (λ (l : ImageParts). KeepsLaunch file p l 0 p.mask) is (strip_launch back file list new number p found of is small) in
    let read : components_in (layout (stripped p.mask list)) ≡ stripped_parts p.mask list.parts =
    ap (λ (l : ImageParts). l.parts) (back (stripped p.mask list) whole within) in
    let old : components_in file ≡ list.parts = ap (λ (l : ImageParts). l.parts) of in
    subst (λ (l : ImageParts). WantAlike file p (layout l) (renumbered 0 p.mask p)) (sym is)
    (want_alike file (layout (stripped p.mask list)) p (renumbered 0 p.mask p) kept.launch
    (ap (λ (cs : List Component). counted wants p.mask (listed cs)) read
    ∙ stripped_wants p.mask (platform_bit list.parts number p found.is_list.valid.kept found.here) list.parts
    ∙ sym (ap (λ (cs : List Component). counted wants p.mask (listed cs)) old)))
