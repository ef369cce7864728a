use Rattle.igvm_tool.proofs.ElfLemmas.{refuses_on}
use Rattle.igvm_tool.proofs.elf_building.with_elf.Goals as goal

-- the file breaks a rule
pub returns-in_err-elf-clause-refused : goal.returns-in_err-elf-clause-refused
returns-in_err-elf-clause-refused c = λ words same.
    refuses_on _ _ _ c.from_residual.ensures.1 (c.in_err-elf.ensures.refused words c.args.list)
