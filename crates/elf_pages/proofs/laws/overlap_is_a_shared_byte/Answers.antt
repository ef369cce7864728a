use Rattle.elf_pages.proofs.AcceptedSegments.{overlap_is}
use Rattle.elf_pages.proofs.laws.overlap_is_a_shared_byte.Goals as goal

pub returns : goal.returns
returns c = overlap_is
