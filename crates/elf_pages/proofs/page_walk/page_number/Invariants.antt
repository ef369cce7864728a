use Rattle.std.proofs.Common.{◌≤◌}
use Rattle.elf_pages.proofs.PageWalks.{PageWalk}
use Rattle.elf_pages.proofs.page_walk.page_number.Given as goal

abbrev pub invariant-segments : goal.invariant-segments
invariant-segments l = record {
  walk : PageWalk l.segments l.next l.counted l.segment-index;
  behind : l.counted ≤ l.k;
}
