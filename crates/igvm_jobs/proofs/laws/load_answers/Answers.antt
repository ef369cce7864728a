use Rattle.igvm_jobs.proofs.LoadInWords as lemma
use Rattle.igvm_jobs.proofs.laws.load_answers.Goals as goal

pub returns : goal.returns
returns g c = lemma.load_answers g.S.Shelf g.O.Sink g.E.Sink g.L.Launch
