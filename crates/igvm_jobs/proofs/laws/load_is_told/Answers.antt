use Rattle.igvm_jobs.proofs.LoadAnswerLemmas as lemma
use Rattle.igvm_jobs.proofs.laws.load_is_told.Goals as goal

pub returns : goal.returns
returns g c = lemma.load_is_told g.S.Shelf g.O.Sink g.E.Sink g.L.Launch
