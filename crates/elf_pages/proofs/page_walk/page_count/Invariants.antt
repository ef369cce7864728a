use Rattle.elf_pages.proofs.PageWalks.{PageWalk}
use Rattle.elf_pages.proofs.page_walk.page_count.Given as goal

abbrev pub invariant-segments : goal.invariant-segments
invariant-segments l = PageWalk l.segments l.next l.counted l.segment-index
