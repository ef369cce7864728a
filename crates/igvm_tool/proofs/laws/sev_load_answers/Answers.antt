use Rattle.igvm_tool.proofs.SevLoadAnswerLemmas as lemma
use Rattle.igvm_tool.proofs.laws.sev_load_answers.Goals as goal

pub returns : goal.returns
returns g c = lemma.sev_load_answers g.S.Shelf g.O.Sink g.E.Sink g.M.SevLaunch
