use Rattle.elf_pages.proofs.FirstHeaderLaws.{first_header, only_header}
use Rattle.elf_pages.proofs.FaultOrder.{at_header}
use Rattle.elf_pages.proofs.laws.first_header_decides.Goals as goal

pub returns-clause-first : goal.returns-clause-first
returns-clause-first c = first_header

pub returns-clause-only : goal.returns-clause-only
returns-clause-only c = only_header

pub returns-clause-file : goal.returns-clause-file
returns-clause-file c = at_header
