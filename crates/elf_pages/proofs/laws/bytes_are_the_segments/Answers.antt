use Rattle.elf_pages.proofs.ByteLaws.{byte_held, byte_zero}
use Rattle.elf_pages.proofs.laws.bytes_are_the_segments.Goals as goal

pub returns-clause-held : goal.returns-clause-held
returns-clause-held c = byte_held

pub returns-clause-zero : goal.returns-clause-zero
returns-clause-zero c = byte_zero
