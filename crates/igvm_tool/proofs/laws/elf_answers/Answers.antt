use Rattle.igvm_tool.proofs.ElfAnswerLemmas as lemma
use Rattle.igvm_tool.proofs.laws.elf_answers.Goals as goal

pub returns : goal.returns
returns g c = lemma.elf_answers g.S.Shelf g.O.Sink g.E.Sink g.L.Launch
