use Rattle.elf_pages.proofs.PageLaws.{filled_is}
use Rattle.elf_pages.proofs.laws.filled_pages.Goals as goal

pub returns : goal.returns
returns c = filled_is
