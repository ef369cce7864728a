-- What `seal` gives.
use Rattle.std.proofs.Common.{◌≡◌, ℕ, ◌≤◌, List, length, sym, ◌∙◌, ap, subst, Bool, true, Option, Some, None}
use Rattle.std.specs.List.{slice_get}
use Rattle.igvm_headers.specs.declared.options.Options.{Options}
use Rattle.platform_masks.specs.declared.platform.Platform.{Platform}
use Rattle.igvm_measure.specs.Digests.{digest_of}
use Rattle.igvm_measure.specs.WantedDigest.{bad_digest}
use Rattle.component_list.specs.declared.component.Component.{Component}
use Rattle.component_list.specs.ImageList.{list_of}
use Rattle.component_list.specs.Lists.{ImageParts, IsList}
use Rattle.image_builder.specs.Layout.{layout, layout_size}
use Rattle.list_changes.specs.ListPlatforms.{platforms_in, renumbered}
use Rattle.list_changes.proofs.Numbered.{number_is}
use Rattle.launch_likeness.specs.LaunchedAlike.{FitAlike, KeepsLaunch}
use Rattle.image_ops.specs.Sealed.{IsSealed, has_id_block, sealed, sealed_parts}
use Rattle.image_ops.specs.SealRefusals.{IsSealRefusal}
use Rattle.image_ops.specs.declared.sealing.SealRefusal.{SealRefusal}
use Rattle.image_ops.proofs.BuiltLists.{AreBeside, ReadsBack, built_fits, built_launch, parts_of}
use Rattle.image_ops.proofs.SealedSize.{IsPadded, sealed_size}
use Rattle.image_ops.proofs.SealedSteps.{sealed_beside}
use Rattle.image_ops.proofs.SealedValid.{sealed_platforms}
use Rattle.image_ops.proofs.SealedWanted.{sealed_wanted}

-- a list that is sealed with a digest for the platform of a mask, both within the limit of an image
pub record IsDone (list : ImageParts) (mask : ℕ) (digest : List ℕ) (new : ImageParts) : Type 0 where
  pub given : new ≡ sealed mask digest list
  pub old_list : IsList list
  pub new_list : IsList new
  pub size : length digest ≡ 48
  pub small : layout_size list ≤ 536870912

-- where there is such a digest
pub seal_list : (list new : ImageParts) (mask : ℕ) (digest : List ℕ) (p : Platform) (found : Option (List ℕ)) → IsDone list mask digest new
    → mask ≡ p.mask → found ≡ Some digest → IsSealed p.mask found list new
seal_list list new mask digest p found done is same =
    subst (λ f. IsSealed p.mask f list new) (sym same) (done.given ∙ ap (λ m. sealed m digest list) is)

pub seal_size : IsPadded → (list new : ImageParts) (mask : ℕ) (digest : List ℕ) → IsDone list mask digest new → layout_size new ≡ layout_size list
seal_size padded list new mask digest done = ap layout_size done.given ∙ sealed_size padded mask digest list done.size done.old_list.valid.fits.each

-- a platform under its own number and mask
same_platform : (list : ImageParts) (n : ℕ) (p : Platform) → slice_get (platforms_in list.parts) n ≡ Some p → p ≡ renumbered n p.mask p
same_platform list n p here = ap (λ k. renumbered k p.mask p) (number_is list.parts n p here)

read_back : ReadsBack → IsPadded → (list new : ImageParts) (mask : ℕ) (digest : List ℕ) → IsDone list mask digest new → list_of (layout new) ≡ new
read_back back padded list new mask digest done =
    back new done.new_list (subst (λ n. n ≤ 536870912) (sym (seal_size padded list new mask digest done)) done.small)

beside : (list new : ImageParts) (mask : ℕ) (digest : List ℕ) (m : ℕ) → IsDone list mask digest new → AreBeside m list.parts new.parts
beside list new mask digest m done =
    subst (λ (l : ImageParts). AreBeside m list.parts l.parts) (sym done.given) (sealed_beside m mask digest list.parts)

pub seal_launch : ReadsBack → IsPadded → (file : List ℕ) (list new : ImageParts) (mask : ℕ) (digest : List ℕ) (n : ℕ) (p : Platform) → IsDone list mask digest new
    → list_of file ≡ list → slice_get (platforms_in list.parts) n ≡ Some p → KeepsLaunch file p new n p.mask
seal_launch back padded file list new mask digest n p done of here =
    built_launch file list new p n of (read_back back padded list new mask digest done)
    (ap (λ (l : ImageParts). slice_get (platforms_in l.parts) n) done.given
    ∙ ap (λ ps. slice_get ps n) (sealed_platforms mask digest list.parts)
    ∙ here
    ∙ ap (λ (q : Platform). Some q) (same_platform list n p here))
    (beside list new mask digest p.mask done)

pub seal_fits : ReadsBack → IsPadded → (file : List ℕ) (list new : ImageParts) (mask : ℕ) (digest : List ℕ) (n : ℕ) (p : Platform) → IsDone list mask digest new
    → list_of file ≡ list → slice_get (platforms_in list.parts) n ≡ Some p → FitAlike file p (layout new) p
seal_fits back padded file list new mask digest n p done of here =
    subst (λ (q : Platform). FitAlike file p (layout new) q) (sym (same_platform list n p here))
    (built_fits file list new p n of (read_back back padded list new mask digest done) (beside list new mask digest p.mask done))

-- the image of the sealed list has the digest of the image of the list
pub seal_wanted : ReadsBack → IsPadded → (list new : ImageParts) (mask : ℕ) (digest : List ℕ) (n : ℕ) (p : Platform) (options : Options) → IsDone list mask digest new
    → slice_get (platforms_in list.parts) n ≡ Some p → mask ≡ p.mask → digest_of (layout list) p options ≡ Some digest → bad_digest (layout new) p options ≡ None
seal_wanted back padded list new mask digest n p options done here is found =
    let first = back list done.old_list done.small in
    sealed_wanted digest list.parts (layout new) p options
    (parts_of (layout new) new (read_back back padded list new mask digest done)
    ∙ ap (λ (l : ImageParts). l.parts) done.given
    ∙ ap (λ m. sealed_parts m digest list.parts) is)
    ((seal_launch back padded (layout list) list new mask digest n p done first here).launch.digest options ∙ found)

-- a refusal of the digest is one of the seal
pub seal_refused : (has : Bool) (size : ℕ) (e : SealRefusal) → has ≡ true → IsSealRefusal true size e → IsSealRefusal has size e
seal_refused has size e is refused = subst (λ b. IsSealRefusal b size e) (sym is) refused

-- whether there is an ID block, as it was asked
pub block_is : (parts now : List Component) (mask : ℕ) (has : Bool) (p : Platform) → now ≡ parts → has ≡ has_id_block mask now → mask ≡ p.mask
    → has_id_block p.mask parts ≡ has
block_is parts now mask has p same asked is =
    ap (λ m. has_id_block m parts) (sym is) ∙ ap (has_id_block mask) (sym same) ∙ sym asked
