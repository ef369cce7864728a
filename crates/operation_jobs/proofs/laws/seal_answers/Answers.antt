use Rattle.operation_jobs.proofs.SealAnswerLemmas as lemma
use Rattle.operation_jobs.proofs.laws.seal_answers.Goals as goal

pub returns : goal.returns
returns g c = lemma.seal_answers g.S.Shelf g.O.Sink g.E.Sink g.L.Launch
