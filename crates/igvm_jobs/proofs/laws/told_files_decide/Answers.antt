use Rattle.igvm_jobs.specs.Jobs.{task_of}
use Rattle.igvm_jobs.proofs.JobAnswerLemmas as lemma
use Rattle.igvm_jobs.proofs.laws.told_files_decide.Goals as goal

pub returns : goal.returns
returns g c = λ job. lemma.told_decide g.S.Shelf g.O.Sink g.E.Sink g.L.Launch (task_of job)
