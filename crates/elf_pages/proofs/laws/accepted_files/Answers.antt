use Rattle.elf_pages.proofs.AcceptedFiles.{accepted_is}
use Rattle.elf_pages.proofs.laws.accepted_files.Goals as goal

pub returns : goal.returns
returns c = accepted_is
