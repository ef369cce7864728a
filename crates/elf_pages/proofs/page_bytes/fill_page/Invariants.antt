use Rattle.elf_pages.proofs.FilledBytes.{FillWalk}
use Rattle.elf_pages.proofs.page_bytes.fill_page.Given as goal

abbrev pub invariant-segments : goal.invariant-segments
invariant-segments l = FillWalk l.file l.segments l.page l.out l.done l.segment-index
