use Rattle.std.proofs.Common.{◌∙◌, ap, sym}
use Rattle.further_words.specs.FurtherView.{strip_view}
use Rattle.igvm_jobs.specs.declared.status.Status.TheVariants as is
use Rattle.igvm_jobs.specs.Outcome.{refused}
use Rattle.operation_jobs.proofs.Steps.{none_on, none_valid, refuses_on}
use Rattle.operation_jobs.proofs.StripLemmas.{list_refused, no_platform, stripped_image}
use Rattle.operation_jobs.proofs.WantedPlatforms.{platform_within}
use Rattle.operation_jobs.proofs.stripping.stripped_list.Goals as goal

-- there was no memory for the line that says that there is no such platform
pub returns-in_err-no_platform_text-clause-list : goal.returns-in_err-no_platform_text-clause-list
returns-in_err-no_platform_text-clause-list c = none_on _ _ c.from_residual.ensures.0

pub returns-in_err-no_platform_text-clause-valid : goal.returns-in_err-no_platform_text-clause-valid
returns-in_err-no_platform_text-clause-valid c = none_valid _ _ c.from_residual.ensures.0

pub returns-in_err-no_platform_text-clause-refused : goal.returns-in_err-no_platform_text-clause-refused
returns-in_err-no_platform_text-clause-refused c = refuses_on _ _ _ c.from_residual.ensures.1 tt

-- there is no such platform
pub returns-in_default-clause-refused : goal.returns-in_default-clause-refused
returns-in_default-clause-refused c =
    no_platform (strip_view c.args.words) c.args.view.now (sym c.wanted_platform.ensures ∙ c.in_default.is) ∙ ap (refused is.Platform) (sym c.in_ok-no_platform_text.ensures)

-- the list isn't copied
pub returns-in_err-list-clause-list : goal.returns-in_err-list-clause-list
returns-in_err-list-clause-list c = none_on _ _ c.from_residual-in_err-list.ensures.0

pub returns-in_err-list-clause-valid : goal.returns-in_err-list-clause-valid
returns-in_err-list-clause-valid c = none_valid _ _ c.from_residual-in_err-list.ensures.0

pub returns-in_err-list-clause-refused : goal.returns-in_err-list-clause-refused
returns-in_err-list-clause-refused c =
    refuses_on _ _ c.in_err-list.field-0.0 c.from_residual-in_err-list.ensures.1
    (list_refused (strip_view c.args.words) c.args.view.now c.in-Some.platform c.in_err-list.field-0.0 (sym c.in-Some.ensures) c.in_err-list.ensures.refused)

-- it is stripped
pub strip-requires : goal.strip-requires
strip-requires c = platform_within c.args.view.now (strip_view c.args.words).wanted c.in-Some.platform c.in_ok-list.list (sym c.in-Some.ensures) c.in_ok-list.ensures.list

pub returns-clause-list : goal.returns-clause-list
returns-clause-list c =
    stripped_image (strip_view c.args.words) c.args.view.now c.in-Some.platform c.in_ok-list.list c.strip.result (sym c.in-Some.ensures)
    c.in_ok-list.ensures.list c.in_ok-list.ensures.outcome c.strip.ensures.list

pub returns-clause-valid : goal.returns-clause-valid
returns-clause-valid c = c.in_ok-list.ensures.valid
