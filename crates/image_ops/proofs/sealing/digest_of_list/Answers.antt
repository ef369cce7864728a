use Rattle.std.proofs.Common.{ℕ, ◌<◌, List, length, sym, ◌∙◌, ap, subst}
use Rattle.std.specs.List.{slice_get}
use Rattle.platform_masks.specs.declared.platform.Platform.{Platform}
use Rattle.igvm_measure.specs.Digests.{digest_of}
use Rattle.component_list.specs.ImageList.{list_of}
use Rattle.image_ops.proofs.BuiltLists.{list_platforms}
use Rattle.image_ops.proofs.sealing.digest_of_list.Goals as goal

pub digest_of_image-requires-clause-has : goal.digest_of_image-requires-clause-has
digest_of_image-requires-clause-has c =
    subst (λ (ps : List Platform). c.args.platform < length ps)
    (sym (list_platforms c.as_slice.result.now c.args.list.now (ap list_of c.as_slice.ensures.value ∙ c.in-Ok.ensures.list)))
    c.requires.has

pub digest_of_image-requires-clause-snp : goal.digest_of_image-requires-clause-snp
digest_of_image-requires-clause-snp c = λ p here.
    c.requires.snp p
    (ap (λ ps. slice_get ps c.args.platform)
    (sym (list_platforms c.as_slice.result.now c.args.list.now (ap list_of c.as_slice.ensures.value ∙ c.in-Ok.ensures.list)))
    ∙ here)

pub returns-clause-digest : goal.returns-clause-digest
returns-clause-digest c = λ p here.
    ap (λ (file : List ℕ). digest_of file p c.args.options) (sym (c.as_slice.ensures.value ∙ c.in-Ok.ensures.image))
    ∙ c.digest_of_image.ensures p
    (ap (λ ps. slice_get ps c.args.platform)
    (list_platforms c.as_slice.result.now c.args.list.now (ap list_of c.as_slice.ensures.value ∙ c.in-Ok.ensures.list))
    ∙ here)
