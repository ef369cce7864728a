use Rattle.operation_jobs.proofs.JoinAnswerLemmas as lemma
use Rattle.operation_jobs.proofs.laws.join_answers.Goals as goal

pub returns : goal.returns
returns g c = lemma.join_answers g.S.Shelf g.O.Sink g.E.Sink g.L.Launch
