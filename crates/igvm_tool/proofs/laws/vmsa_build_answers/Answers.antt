use Rattle.igvm_tool.proofs.VmsaAnswerLemmas as lemma
use Rattle.igvm_tool.proofs.laws.vmsa_build_answers.Goals as goal

pub returns : goal.returns
returns g c = lemma.vmsa_build_answers g.S.Shelf g.O.Sink g.E.Sink g.L.Launch
