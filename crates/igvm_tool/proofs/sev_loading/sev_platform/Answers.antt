use Rattle.std.proofs.Common.{◌∙◌, ap, sym}
use Rattle.igvm_words.specs.JobView.{choice_view}
use Rattle.igvm_jobs.specs.declared.status.Status.TheVariants as is
use Rattle.igvm_jobs.specs.Outcome.{refused}
use Rattle.igvm_tool.proofs.SevLoadLemmas.{no_digest_set}
use Rattle.igvm_tool.proofs.sev_loading.sev_platform.Goals as goal

-- a platform of another kind has no such digest
pub returns-in_ok-no_digest_text-in_default-kind-clause-refused : goal.returns-in_ok-no_digest_text-in_default-kind-clause-refused
returns-in_ok-no_digest_text-in_default-kind-clause-refused c = λ next.
    no_digest_set (choice_view c.args.wanted) next c.args.view.now c.in-Some.platform (sym c.in-Some.ensures) c.in_default-kind.not-Sev c.in_default-kind.not-SevEs
    ∙ ap (refused is.Platform) (sym c.in_ok-no_digest_text-in_default-kind.ensures)
