use Rattle.std.proofs.Common.{◌≡◌, ◌∙◌}
use Rattle.operation_jobs.proofs.Steps.{memory_refuses, none_on, none_valid, refuses_on}
use Rattle.operation_jobs.proofs.FewComponents.{few_together}
use Rattle.operation_jobs.proofs.JoinOutcomes.{are_copied, are_few, both_asked, data_refused, join_done, one_asked, refused_areas, refused_pages, refused_platforms}
use Rattle.operation_jobs.proofs.joining.joined_list.Goals as goal
use Rattle.operation_jobs.proofs.joining.joined_list.Goals.{then-is_within, else-is_within}

-- ---- their data are too many

pub returns-then-not-is_within-clause-refused : goal.returns-then-not-is_within-clause-refused
returns-then-not-is_within-clause-refused c = λ target.
    let asked : c.if-is_within.value ≡ are_few c.args.first.now c.args.second.now = elim c.if-is_within.branch [
      | then-is_within w ↦ both_asked _ _ _ w.if-is_within.ensures (w.value-is ∙ w.is_within-then-is_within.ensures)
      | else-is_within w ↦ one_asked _ _ _ w.if-is_within.ensures (w.value-is ∙ c.is_within.ensures)
    ] in
    data_refused target c.args.first.now c.args.second.now c.if-is_within.value asked c.if-not-is_within.true

-- ---- one list isn't copied

pub returns-in_err-first-clause-list : goal.returns-in_err-first-clause-list
returns-in_err-first-clause-list c = λ target. none_on _ _ c.from_residual.ensures.0

pub returns-in_err-first-clause-valid : goal.returns-in_err-first-clause-valid
returns-in_err-first-clause-valid c = none_valid _ _ c.from_residual.ensures.0

pub returns-in_err-first-clause-refused : goal.returns-in_err-first-clause-refused
returns-in_err-first-clause-refused c = λ target. refuses_on _ _ c.in_err-first.field-0.0 c.from_residual.ensures.1 (memory_refuses _ _ c.in_err-first.ensures.refused)

pub returns-in_err-second-clause-list : goal.returns-in_err-second-clause-list
returns-in_err-second-clause-list c = λ target. none_on _ _ c.from_residual-in_err-second.ensures.0

pub returns-in_err-second-clause-valid : goal.returns-in_err-second-clause-valid
returns-in_err-second-clause-valid c = none_valid _ _ c.from_residual-in_err-second.ensures.0

pub returns-in_err-second-clause-refused : goal.returns-in_err-second-clause-refused
returns-in_err-second-clause-refused c = λ target.
    refuses_on _ _ c.in_err-second.field-0.0 c.from_residual-in_err-second.ensures.1 (memory_refuses _ _ c.in_err-second.ensures.refused)

-- ---- they are joined

pub join-requires : goal.join-requires
join-requires c =
    few_together c.args.first.now c.args.second.now c.in_ok-first.first c.in_ok-second.second c.requires.first c.requires.second c.in_ok-first.ensures.list c.in_ok-second.ensures.list

pub returns-in-Ok-clause-list : goal.returns-in-Ok-clause-list
returns-in-Ok-clause-list c = λ target.
    let asked : c.if-is_within.value ≡ are_few c.args.first.now c.args.second.now = elim c.if-is_within.branch [
      | then-is_within w ↦ both_asked _ _ _ w.if-is_within.ensures (w.value-is ∙ w.is_within-then-is_within.ensures)
      | else-is_within w ↦ one_asked _ _ _ w.if-is_within.ensures (w.value-is ∙ c.is_within.ensures)
    ] in
    let copied = are_copied c.args.first.now c.args.second.now c.in_ok-first.first c.in_ok-second.second c.if-is_within.value asked c.if-not-is_within.false
    c.in_ok-first.ensures.list c.in_ok-second.ensures.list in
    join_done target c.args.first.now c.args.second.now c.in_ok-first.first c.in_ok-second.second c.in-Ok.list copied c.in-Ok.ensures.together c.in-Ok.ensures.list

pub returns-in-Ok-clause-valid : goal.returns-in-Ok-clause-valid
returns-in-Ok-clause-valid c = (c.in_ok-first.ensures.valid, c.in_ok-second.ensures.valid)

pub returns-in-Err-TooManyAreas-clause-refused : goal.returns-in-Err-TooManyAreas-clause-refused
returns-in-Err-TooManyAreas-clause-refused c = λ target.
    let asked : c.if-is_within.value ≡ are_few c.args.first.now c.args.second.now = elim c.if-is_within.branch [
      | then-is_within w ↦ both_asked _ _ _ w.if-is_within.ensures (w.value-is ∙ w.is_within-then-is_within.ensures)
      | else-is_within w ↦ one_asked _ _ _ w.if-is_within.ensures (w.value-is ∙ c.is_within.ensures)
    ] in
    let copied = are_copied c.args.first.now c.args.second.now c.in_ok-first.first c.in_ok-second.second c.if-is_within.value asked c.if-not-is_within.false
    c.in_ok-first.ensures.list c.in_ok-second.ensures.list in
    refused_areas target c.args.first.now c.args.second.now c.in_ok-first.first c.in_ok-second.second c.in-Err-TooManyAreas.field-0 copied c.in-Err-TooManyAreas.field-0-is c.in-Err-TooManyAreas.ensures.refused

pub returns-in-Err-TooManyPlatforms-clause-refused : goal.returns-in-Err-TooManyPlatforms-clause-refused
returns-in-Err-TooManyPlatforms-clause-refused c = λ target.
    let asked : c.if-is_within.value ≡ are_few c.args.first.now c.args.second.now = elim c.if-is_within.branch [
      | then-is_within w ↦ both_asked _ _ _ w.if-is_within.ensures (w.value-is ∙ w.is_within-then-is_within.ensures)
      | else-is_within w ↦ one_asked _ _ _ w.if-is_within.ensures (w.value-is ∙ c.is_within.ensures)
    ] in
    let copied = are_copied c.args.first.now c.args.second.now c.in_ok-first.first c.in_ok-second.second c.if-is_within.value asked c.if-not-is_within.false
    c.in_ok-first.ensures.list c.in_ok-second.ensures.list in
    refused_platforms target c.args.first.now c.args.second.now c.in_ok-first.first c.in_ok-second.second c.in-Err-TooManyPlatforms.field-0 copied c.in-Err-TooManyPlatforms.field-0-is c.in-Err-TooManyPlatforms.ensures.refused

pub returns-in-Err-TooManyPages-clause-refused : goal.returns-in-Err-TooManyPages-clause-refused
returns-in-Err-TooManyPages-clause-refused c = λ target.
    let asked : c.if-is_within.value ≡ are_few c.args.first.now c.args.second.now = elim c.if-is_within.branch [
      | then-is_within w ↦ both_asked _ _ _ w.if-is_within.ensures (w.value-is ∙ w.is_within-then-is_within.ensures)
      | else-is_within w ↦ one_asked _ _ _ w.if-is_within.ensures (w.value-is ∙ c.is_within.ensures)
    ] in
    let copied = are_copied c.args.first.now c.args.second.now c.in_ok-first.first c.in_ok-second.second c.if-is_within.value asked c.if-not-is_within.false
    c.in_ok-first.ensures.list c.in_ok-second.ensures.list in
    refused_pages target c.args.first.now c.args.second.now c.in_ok-first.first c.in_ok-second.second c.in-Err-TooManyPages.field-0 copied c.in-Err-TooManyPages.field-0-is c.in-Err-TooManyPages.ensures.refused
