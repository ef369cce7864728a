-- What `strip` gives.
use Rattle.std.proofs.Common.{◌≡◌, ℕ, zero, suc, ◌<◌, ◌≤◌, List, [], ◌∷◌, length, map, refl, sym, ◌∙◌, ap, subst, arith, Some}
use Rattle.std.specs.Prelude.{filter}
use Rattle.std.specs.List.{slice_get}
use Rattle.platform_masks.specs.declared.platform.Platform.{Platform}
use Rattle.component_list.specs.declared.component.Component.{Component}
use Rattle.component_list.specs.ImageList.{list_of}
use Rattle.component_list.specs.Lists.{ImageParts, IsList, IsValid}
use Rattle.image_builder.specs.Layout.{layout, layout_size}
use Rattle.list_changes.specs.ListPlatforms.{platforms_in, renumbered}
use Rattle.list_changes.proofs.Numbered.{platform_bit}
use Rattle.launch_likeness.specs.LaunchedAlike.{FitAlike, KeepsLaunch}
use Rattle.image_ops.specs.Stripped.{masked, stays, stripped, stripped_parts}
use Rattle.image_ops.proofs.BuiltLists.{ReadsBack, built_fits, built_launch}
use Rattle.image_ops.proofs.StrippedPlatforms.{stripped_alone}
use Rattle.image_ops.proofs.StrippedSteps.{stripped_beside}
use Rattle.image_ops.proofs.StrippedValid.{stripped_valid}

-- what a call of `mask_at` ensures of a mask
abbrev pub IsMaskAt : List Component → ℕ → ℕ → Type 0
IsMaskAt parts number mask = (p : Platform) → slice_get (platforms_in parts) number ≡ Some p → mask ≡ p.mask

-- a list and its platform of a number
pub record IsFound (list : ImageParts) (number : ℕ) (p : Platform) : Type 0 where
  pub is_list : IsList list
  pub here : slice_get (platforms_in list.parts) number ≡ Some p

-- the components that are left, each under the mask
pub left_parts : (parts now all left end : List Component) (number mask : ℕ) (p : Platform) → now ≡ parts → IsMaskAt now number mask
    → slice_get (platforms_in parts) number ≡ Some p → all ≡ parts → left ≡ filter (λ c. stays mask c.header) all → end ≡ map (masked mask) left
    → end ≡ stripped_parts p.mask parts
unfolding stripped_parts
left_parts parts now all left end number mask p same at here whole stay given =
    let is : mask ≡ p.mask = at p (ap (λ cs. slice_get (platforms_in cs) number) same ∙ here) in
    given
    ∙ ap (map (masked mask)) (stay ∙ ap (filter (λ (c : Component). stays mask c.header)) whole)
    ∙ ap (λ m. map (masked m) (filter (λ (c : Component). stays m c.header) parts)) is

there_is : {X : Type 0} (xs : List X) (n : ℕ) → n < length xs → (x : X) × (slice_get xs n ≡ Some x)
there_is [] n less = absurd (omega arith)
there_is (x ∷ xs) zero less = (x, refl)
there_is (x ∷ xs) (suc n) less = there_is xs n (omega arith)

-- they break no rule
pub left_valid : (parts end : List Component) (number : ℕ) → IsValid parts → number < length (platforms_in parts)
    → ((p : Platform) → slice_get (platforms_in parts) number ≡ Some p → end ≡ stripped_parts p.mask parts) → IsValid end
left_valid parts end number valid less same =
    let found = there_is (platforms_in parts) number less in
    subst IsValid (sym (same found.0 found.1)) (stripped_valid parts number found.0 valid found.1)

pub stripped_list : (list : ImageParts) (number : ℕ) (p : Platform) → IsFound list number p → IsList (stripped p.mask list)
stripped_list list number p found = record {
  known = found.is_list.known;
  valid = stripped_valid list.parts number p found.is_list.valid found.here;
}

pub strip_alone : (list new : ImageParts) (number : ℕ) (p : Platform) → IsFound list number p → new ≡ stripped p.mask list
    → platforms_in new.parts ≡ renumbered 0 p.mask p ∷ []
strip_alone list new number p found is =
    ap (λ (l : ImageParts). platforms_in l.parts) is ∙ stripped_alone list.parts number p found.is_list.valid.kept found.here

pub strip_launch : ReadsBack → (file : List ℕ) (list new : ImageParts) (number : ℕ) (p : Platform) → IsFound list number p → list_of file ≡ list
    → new ≡ stripped p.mask list → layout_size new ≤ 536870912 → KeepsLaunch file p new 0 p.mask
strip_launch back file list new number p found of is small =
    let whole = stripped_list list number p found in
    let within : layout_size (stripped p.mask list) ≤ 536870912 = subst (λ (l : ImageParts). layout_size l ≤ 536870912) is small in
    subst (λ (l : ImageParts). KeepsLaunch file p l 0 p.mask) (sym is)
    (built_launch file list (stripped p.mask list) p 0 of (back (stripped p.mask list) whole within)
    (ap (λ ps. slice_get ps 0) (stripped_alone list.parts number p found.is_list.valid.kept found.here))
    (stripped_beside p.mask (platform_bit list.parts number p found.is_list.valid.kept found.here) list.parts))

pub strip_fits : ReadsBack → (file : List ℕ) (list new : ImageParts) (number : ℕ) (p : Platform) → IsFound list number p → list_of file ≡ list
    → new ≡ stripped p.mask list → layout_size new ≤ 536870912 → FitAlike file p (layout new) (renumbered 0 p.mask p)
strip_fits back file list new number p found of is small =
    let whole = stripped_list list number p found in
    let within : layout_size (stripped p.mask list) ≤ 536870912 = subst (λ (l : ImageParts). layout_size l ≤ 536870912) is small in
    subst (λ (l : ImageParts). FitAlike file p (layout l) (renumbered 0 p.mask p)) (sym is)
    (built_fits file list (stripped p.mask list) p 0 of (back (stripped p.mask list) whole within)
    (stripped_beside p.mask (platform_bit list.parts number p found.is_list.valid.kept found.here) list.parts))
