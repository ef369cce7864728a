use Rattle.igvm_tool.proofs.SevMeasureLemmas as lemma
use Rattle.igvm_tool.proofs.laws.sev_measure_answers.Goals as goal

pub returns : goal.returns
returns g c = lemma.sev_measure_answers g.S.Shelf g.O.Sink g.E.Sink g.L.Launch
