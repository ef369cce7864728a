use Rattle.std.proofs.Common.{◌∙◌, ap, sym}
use Rattle.further_words.specs.FurtherView.{seal_view}
use Rattle.igvm_jobs.specs.declared.status.Status.TheVariants as is
use Rattle.igvm_jobs.specs.Outcome.{refused}
use Rattle.operation_jobs.proofs.Steps.{none_on, none_valid, refuses_on}
use Rattle.operation_jobs.proofs.SealLemmas.{is_other_by, is_set, is_snp_by, kind_at, list_refused, no_platform, other_platform, refused_block, refused_size, sealed_ends}
use Rattle.operation_jobs.proofs.WantedPlatforms.{platform_within}
use Rattle.operation_jobs.proofs.sealing.sealed_list.Goals as goal

-- ---- there is no such platform

pub returns-in_err-no_platform_text-clause-list : goal.returns-in_err-no_platform_text-clause-list
returns-in_err-no_platform_text-clause-list c = none_on _ _ c.from_residual.ensures.0

pub returns-in_err-no_platform_text-clause-valid : goal.returns-in_err-no_platform_text-clause-valid
returns-in_err-no_platform_text-clause-valid c = none_valid _ _ c.from_residual.ensures.0

pub returns-in_err-no_platform_text-clause-refused : goal.returns-in_err-no_platform_text-clause-refused
returns-in_err-no_platform_text-clause-refused c = refuses_on _ _ _ c.from_residual.ensures.1 tt

pub returns-in_default-clause-refused : goal.returns-in_default-clause-refused
returns-in_default-clause-refused c =
    no_platform (seal_view c.args.words) c.args.view.now (sym c.wanted_platform.ensures ∙ c.in_default.is) ∙ ap (refused is.Platform) (sym c.in_ok-no_platform_text.ensures)

-- ---- its kind has no ID block

pub returns-in_err-no_seal_text-clause-list : goal.returns-in_err-no_seal_text-clause-list
returns-in_err-no_seal_text-clause-list c = none_on _ _ c.from_residual-in_err-no_seal_text.ensures.0

pub returns-in_err-no_seal_text-clause-valid : goal.returns-in_err-no_seal_text-clause-valid
returns-in_err-no_seal_text-clause-valid c = none_valid _ _ c.from_residual-in_err-no_seal_text.ensures.0

pub returns-in_err-no_seal_text-clause-refused : goal.returns-in_err-no_seal_text-clause-refused
returns-in_err-no_seal_text-clause-refused c = refuses_on _ _ _ c.from_residual-in_err-no_seal_text.ensures.1 tt

pub returns-then-ne-clause-refused : goal.returns-then-ne-clause-refused
returns-then-ne-clause-refused c =
    other_platform (seal_view c.args.words) c.args.view.now c.in-Some.platform (sym c.in-Some.ensures) (is_other_by c.in-Some.platform.kind c.if-ne.ensures)
    ∙ ap (refused is.Platform) (sym c.in_ok-no_seal_text.ensures)

-- ---- the list isn't copied

pub returns-in_err-list-clause-list : goal.returns-in_err-list-clause-list
returns-in_err-list-clause-list c = none_on _ _ c.from_residual-in_err-list.ensures.0

pub returns-in_err-list-clause-valid : goal.returns-in_err-list-clause-valid
returns-in_err-list-clause-valid c = none_valid _ _ c.from_residual-in_err-list.ensures.0

pub returns-in_err-list-clause-refused : goal.returns-in_err-list-clause-refused
returns-in_err-list-clause-refused c =
    refuses_on _ _ c.in_err-list.field-0.0 c.from_residual-in_err-list.ensures.1
    (list_refused (seal_view c.args.words) c.args.view.now c.in-Some.platform c.in_err-list.field-0.0 (sym c.in-Some.ensures) (is_snp_by c.in-Some.platform.kind c.if-ne.ensures)
    c.in_err-list.ensures.refused)

-- ---- it is sealed

pub seal-requires-clause-has : goal.seal-requires-clause-has
seal-requires-clause-has c = platform_within c.args.view.now (seal_view c.args.words).wanted c.in-Some.platform c.in_ok-list.list (sym c.in-Some.ensures) c.in_ok-list.ensures.list

pub seal-requires-clause-snp : goal.seal-requires-clause-snp
seal-requires-clause-snp c =
    kind_at c.args.view.now (seal_view c.args.words).wanted c.in-Some.platform c.in_ok-list.list (sym c.in-Some.ensures) c.in_ok-list.ensures.list (is_snp_by c.in-Some.platform.kind c.if-ne.ensures)

pub returns-in-Ok-clause-list : goal.returns-in-Ok-clause-list
returns-in-Ok-clause-list c =
    let words = seal_view c.args.words in
    sealed_ends c.built_is_read_back.ensures.list c.one_list_one_launch.ensures.launch words c.args.view.now c.in-Some.platform c.in_ok-list.list c.in-Ok.list
    (is_set words c.args.view.now c.in-Some.platform c.in_ok-list.list (sym c.in-Some.ensures) (is_snp_by c.in-Some.platform.kind c.if-ne.ensures) c.in_ok-list.ensures.outcome)
    c.in_ok-list.ensures.list c.in_ok-list.ensures.valid c.in-Ok.ensures.within c.in-Ok.ensures.block c.in-Ok.ensures.list

pub returns-in-Ok-clause-valid : goal.returns-in-Ok-clause-valid
returns-in-Ok-clause-valid c = c.in_ok-list.ensures.valid

-- ---- or not

pub returns-in_err-no_id_block_text-in-Err-NoIdBlock-clause-list : goal.returns-in_err-no_id_block_text-in-Err-NoIdBlock-clause-list
returns-in_err-no_id_block_text-in-Err-NoIdBlock-clause-list c = none_on _ _ c.from_residual-in_err-no_id_block_text-in-Err-NoIdBlock.ensures.0

pub returns-in_err-no_id_block_text-in-Err-NoIdBlock-clause-valid : goal.returns-in_err-no_id_block_text-in-Err-NoIdBlock-clause-valid
returns-in_err-no_id_block_text-in-Err-NoIdBlock-clause-valid c = none_valid _ _ c.from_residual-in_err-no_id_block_text-in-Err-NoIdBlock.ensures.0

pub returns-in_err-no_id_block_text-in-Err-NoIdBlock-clause-refused : goal.returns-in_err-no_id_block_text-in-Err-NoIdBlock-clause-refused
returns-in_err-no_id_block_text-in-Err-NoIdBlock-clause-refused c = refuses_on _ _ _ c.from_residual-in_err-no_id_block_text-in-Err-NoIdBlock.ensures.1 tt

pub returns-in_ok-no_id_block_text-in-Err-NoIdBlock-clause-refused : goal.returns-in_ok-no_id_block_text-in-Err-NoIdBlock-clause-refused
returns-in_ok-no_id_block_text-in-Err-NoIdBlock-clause-refused c =
    let words = seal_view c.args.words in
    refused_block words c.args.view.now c.in-Some.platform c.in_ok-list.list c.in-Err-NoIdBlock.field-0
    (is_set words c.args.view.now c.in-Some.platform c.in_ok-list.list (sym c.in-Some.ensures) (is_snp_by c.in-Some.platform.kind c.if-ne.ensures) c.in_ok-list.ensures.outcome)
    c.in_ok-list.ensures.list c.in-Err-NoIdBlock.field-0-is c.in-Err-NoIdBlock.ensures.refused
    ∙ ap (refused is.Platform) (sym c.in_ok-no_id_block_text-in-Err-NoIdBlock.ensures)

pub returns-in-Err-TooLarge-clause-refused : goal.returns-in-Err-TooLarge-clause-refused
returns-in-Err-TooLarge-clause-refused c =
    let words = seal_view c.args.words in
    refused_size c.layout_has_its_size.ensures.layout c.spelled_is_a_piece.ensures.padded words c.args.view.now c.in-Some.platform c.in_ok-list.list c.in-Err-TooLarge.field-0 c.in-Err-TooLarge.field-0-0
    (is_set words c.args.view.now c.in-Some.platform c.in_ok-list.list (sym c.in-Some.ensures) (is_snp_by c.in-Some.platform.kind c.if-ne.ensures) c.in_ok-list.ensures.outcome)
    c.in_ok-list.ensures.list c.in_ok-list.ensures.valid c.in-Err-TooLarge.field-0-is c.in-Err-TooLarge.ensures.refused
