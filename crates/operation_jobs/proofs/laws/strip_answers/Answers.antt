use Rattle.operation_jobs.proofs.StripAnswerLemmas as lemma
use Rattle.operation_jobs.proofs.laws.strip_answers.Goals as goal

pub returns : goal.returns
returns g c = lemma.strip_answers g.S.Shelf g.O.Sink g.E.Sink g.L.Launch
