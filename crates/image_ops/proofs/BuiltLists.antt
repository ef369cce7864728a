-- A list's image, where its components are read back: it has the list's platforms, and launches them as another file
-- whose components say the same.
use Rattle.std.proofs.Common.{◌≡◌, ℕ, ◌≤◌, List, refl, sym, ◌∙◌, ap, subst, Some, true}
use Rattle.std.specs.List.{slice_get}
use Rattle.igvm_headers.specs.Fixed.{is_version}
use Rattle.platform_masks.specs.declared.platform.Platform.{Platform}
use Rattle.platform_masks.specs.Platforms.{platforms_of}
use Rattle.igvm_image.specs.Headers.{headers_of}
use Rattle.component_list.specs.declared.component.Component.{Component}
use Rattle.component_list.specs.ImageList.{components_in, list_of}
use Rattle.component_list.specs.Lists.{ImageParts, IsList, IsValid}
use Rattle.image_builder.specs.Layout.{layout, layout_size}
use Rattle.list_changes.specs.ListPlatforms.{platforms_in, renumbered}
use Rattle.launch_likeness.specs.LaunchedAlike.{FitAlike, KeepsLaunch}
use Rattle.launch_likeness.proofs.Alike.{Alike}
use Rattle.launch_likeness.proofs.Launched.{file_platforms, fit_alike, launched_alike, steps_alike}
use Rattle.launch_likeness.proofs.Listed.{listed}
use Rattle.launch_likeness.proofs.Steps.{AreOld, AreSteps, Step, firsts, same_areas, seconds}

-- a list, by its version and its components
pub list_is : (list : ImageParts) (version : ℕ) → version ≡ list.version → is_version version ≡ true → IsValid list.parts → IsList list
list_is list version same known valid = record { known = ap is_version (sym same) ∙ known; valid = valid }

-- the law of image_builder: a list's image is read back as the list
abbrev pub ReadsBack : Type 0
ReadsBack = (list : ImageParts) → IsList list → layout_size list ≤ 536870912 → list_of (layout list) ≡ list

-- Components set beside those that they become, by steps for a mask; none comes anew.
pub record AreBeside (mask : ℕ) (old new : List Component) : Type 0 where
  pub steps : List Step
  pub first : firsts steps ≡ listed old
  pub second : seconds steps ≡ listed new
  pub are : AreSteps (same_areas mask mask) steps
  pub olds : AreOld steps

pub parts_of : (file : List ℕ) (list : ImageParts) → list_of file ≡ list → components_in file ≡ list.parts
parts_of file list is = ap (λ (l : ImageParts). l.parts) is

beside_alike : (mask : ℕ) (old new : List Component) → AreBeside mask old new → Alike mask (listed old) mask (listed new)
beside_alike mask old new b =
    subst (λ ps. Alike mask ps mask (listed new)) b.first
    (subst (λ qs. Alike mask (firsts b.steps) mask qs) b.second
    (steps_alike (same_areas mask mask) (λ x y one other. refl) b.steps b.are))

-- the list's platform stands in the image, and is launched as the file's
pub built_launch : (file : List ℕ) (list new : ImageParts) (p : Platform) (number : ℕ) → list_of file ≡ list → list_of (layout new) ≡ new
    → slice_get (platforms_in new.parts) number ≡ Some (renumbered number p.mask p) → AreBeside p.mask list.parts new.parts
    → KeepsLaunch file p new number p.mask
built_launch file list new p number is back place beside =
    let old = parts_of file list is in
    let read = parts_of (layout new) new back in
    record {
      place = ap (λ ps. slice_get ps number) (file_platforms (layout new) ∙ ap platforms_in read) ∙ place;
      launch =
          launched_alike file (layout new) p (renumbered number p.mask p) refl
          (subst (λ cs. Alike p.mask (listed cs) p.mask (listed (components_in (layout new)))) (sym old)
          (subst (λ cs. Alike p.mask (listed list.parts) p.mask (listed cs)) (sym read) (beside_alike p.mask list.parts new.parts beside)));
    }

-- and fits the same hosts, under any number
pub built_fits : (file : List ℕ) (list new : ImageParts) (p : Platform) (number : ℕ) → list_of file ≡ list → list_of (layout new) ≡ new
    → AreBeside p.mask list.parts new.parts → FitAlike file p (layout new) (renumbered number p.mask p)
built_fits file list new p number is back b =
    fit_alike file (layout new) p (renumbered number p.mask p) refl b.steps
    (b.first ∙ ap listed (sym (parts_of file list is)))
    (b.second ∙ ap listed (sym (parts_of (layout new) new back)))
    b.are b.olds

-- a file has its list's platforms
pub list_platforms : (file : List ℕ) (list : ImageParts) → list_of file ≡ list → platforms_of (headers_of file) ≡ platforms_in list.parts
list_platforms file list is = file_platforms file ∙ ap platforms_in (parts_of file list is)
