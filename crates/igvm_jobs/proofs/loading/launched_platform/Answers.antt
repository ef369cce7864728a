use Rattle.std.proofs.Common.{◌∙◌, ap, sym}
use Rattle.igvm_words.specs.JobView.{load_view}
use Rattle.igvm_jobs.specs.declared.status.Status.TheVariants as is
use Rattle.igvm_jobs.specs.Outcome.{refused}
use Rattle.igvm_jobs.proofs.LoadLemmas.{no_digest_set}
use Rattle.igvm_jobs.proofs.loading.launched_platform.Goals as goal

-- a platform of another kind has no digest
pub returns-in_ok-no_digest_text-in_default-kind-clause-refused : goal.returns-in_ok-no_digest_text-in_default-kind-clause-refused
returns-in_ok-no_digest_text-in_default-kind-clause-refused c = λ next.
    no_digest_set (load_view c.args.words.now) next c.args.view.now c.in-Some.platform (sym c.in-Some.ensures) c.in_default-kind.not-SevSnp c.in_default-kind.not-Tdx
    ∙ ap (refused is.Platform) (sym c.in_ok-no_digest_text-in_default-kind.ensures)
