use Rattle.std.proofs.Common.{◌<◌, List, length, sym, ◌∙◌, ap, subst}
use Rattle.std.specs.List.{slice_get}
use Rattle.component_list.specs.declared.component.Component.{Component}
use Rattle.image_builder.specs.Layout.{layout}
use Rattle.list_changes.specs.ListPlatforms.{platforms_in}
use Rattle.image_ops.specs.Sealed.{has_id_block}
use Rattle.image_ops.proofs.SealAnswers.{block_is, seal_fits, seal_launch, seal_list, seal_refused, seal_size, seal_wanted}
use Rattle.image_ops.proofs.sealing.seal.Goals as goal

pub mask_at-mask-requires : goal.mask_at-mask-requires
mask_at-mask-requires c = subst (λ (cs : List Component). c.args.platform < length (platforms_in cs)) (sym c.components.ensures.value) c.requires.has

pub returns-then-not-has_id_block-clause-refused : goal.returns-then-not-has_id_block-clause-refused
returns-then-not-has_id_block-clause-refused c = λ p here.
    block_is c.args.list.parts c.components-2.result.now c.mask_at-mask.result c.has_id_block.result p c.components-2.ensures.value c.has_id_block.ensures
    (c.mask_at-mask.ensures p (ap (λ (cs : List Component). slice_get (platforms_in cs) c.args.platform) c.components.ensures.value ∙ here))
    ∙ c.if-not-has_id_block.true

pub digest_of_list-requires-clause-has : goal.digest_of_list-requires-clause-has
digest_of_list-requires-clause-has c = c.requires.has

pub digest_of_list-requires-clause-snp : goal.digest_of_list-requires-clause-snp
digest_of_list-requires-clause-snp c = c.requires.snp

pub returns-in-Err-clause-refused : goal.returns-in-Err-clause-refused
returns-in-Err-clause-refused c = λ p here.
    seal_refused (has_id_block p.mask c.args.list.parts) (length (layout c.args.list)) c.in-Err.refusal
    (block_is c.args.list.parts c.components-2.result.now c.mask_at-mask.result c.has_id_block.result p c.components-2.ensures.value c.has_id_block.ensures
    (c.mask_at-mask.ensures p (ap (λ (cs : List Component). slice_get (platforms_in cs) c.args.platform) c.components.ensures.value ∙ here))
    ∙ c.if-not-has_id_block.false)
    c.in-Err.ensures.refused

pub returns-clause-list : goal.returns-clause-list
returns-clause-list c = λ p here.
    seal_list c.args.list c.sealed.result c.mask_at-mask.result c.in-Ok.digest p _
    (record { given = c.sealed.ensures.list; old_list = c.sealed.ensures.valid; new_list = c.sealed.ensures.new; size = c.sealed.ensures.size; small = c.in-Ok.ensures.within })
    (c.mask_at-mask.ensures p (ap (λ (cs : List Component). slice_get (platforms_in cs) c.args.platform) c.components.ensures.value ∙ here))
    (c.in-Ok.ensures.digest p here)

pub returns-clause-block : goal.returns-clause-block
returns-clause-block c = λ p here.
    block_is c.args.list.parts c.components-2.result.now c.mask_at-mask.result c.has_id_block.result p c.components-2.ensures.value c.has_id_block.ensures
    (c.mask_at-mask.ensures p (ap (λ (cs : List Component). slice_get (platforms_in cs) c.args.platform) c.components.ensures.value ∙ here))
    ∙ c.if-not-has_id_block.false

pub returns-clause-size : goal.returns-clause-size
returns-clause-size c =
    seal_size c.spelled_is_a_piece.ensures.padded c.args.list c.sealed.result c.mask_at-mask.result c.in-Ok.digest
    (record { given = c.sealed.ensures.list; old_list = c.sealed.ensures.valid; new_list = c.sealed.ensures.new; size = c.sealed.ensures.size; small = c.in-Ok.ensures.within })

pub returns-clause-within : goal.returns-clause-within
returns-clause-within c = c.in-Ok.ensures.within

pub returns-clause-launch : goal.returns-clause-launch
returns-clause-launch c = λ file n p of here.
    seal_launch c.built_is_read_back.ensures.list c.spelled_is_a_piece.ensures.padded file c.args.list c.sealed.result c.mask_at-mask.result c.in-Ok.digest n p
    (record { given = c.sealed.ensures.list; old_list = c.sealed.ensures.valid; new_list = c.sealed.ensures.new; size = c.sealed.ensures.size; small = c.in-Ok.ensures.within })
    of here

pub returns-clause-wanted : goal.returns-clause-wanted
returns-clause-wanted c = λ p here.
    seal_wanted c.built_is_read_back.ensures.list c.spelled_is_a_piece.ensures.padded c.args.list c.sealed.result c.mask_at-mask.result c.in-Ok.digest c.args.platform p c.args.options
    (record { given = c.sealed.ensures.list; old_list = c.sealed.ensures.valid; new_list = c.sealed.ensures.new; size = c.sealed.ensures.size; small = c.in-Ok.ensures.within })
    here
    (c.mask_at-mask.ensures p (ap (λ (cs : List Component). slice_get (platforms_in cs) c.args.platform) c.components.ensures.value ∙ here))
    (c.in-Ok.ensures.digest p here)

pub returns-clause-fits : goal.returns-clause-fits
returns-clause-fits c = λ file n p of here.
    seal_fits c.built_is_read_back.ensures.list c.spelled_is_a_piece.ensures.padded file c.args.list c.sealed.result c.mask_at-mask.result c.in-Ok.digest n p
    (record { given = c.sealed.ensures.list; old_list = c.sealed.ensures.valid; new_list = c.sealed.ensures.new; size = c.sealed.ensures.size; small = c.in-Ok.ensures.within })
    of here
