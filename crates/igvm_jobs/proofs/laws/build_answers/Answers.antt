use Rattle.igvm_jobs.proofs.JobAnswerLemmas as lemma
use Rattle.igvm_jobs.proofs.laws.build_answers.Goals as goal

pub returns : goal.returns
returns g c = lemma.build_answers g.S.Shelf g.O.Sink g.E.Sink g.L.Launch
