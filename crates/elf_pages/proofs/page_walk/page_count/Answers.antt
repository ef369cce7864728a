use Rattle.elf_pages.proofs.PageWalks.{walk_first, walk_step, walk_last}
use Rattle.elf_pages.proofs.page_walk.page_count.Goals as goal

pub segments-init : goal.segments-init
segments-init c = walk_first c.args.segments.now

pub segments-preserved : goal.segments-preserved
segments-preserved c =
    walk_step c.requires.0 c.args.segments.now c.segments.next c.segments.counted c.segments.segment-index c.first_page_from-from.result c.end_page_from-end.result _ c.requires.1 c.segments.invariant
    (record {
      within = c.segments-test.true;
      starts = c.first_page_from-from.ensures;
      stops = c.end_page_from-end.ensures;
    })

pub returns : goal.returns
returns c = walk_last c.args.segments.now c.segments.next c.segments.counted c.segments.segment-index c.segments.invariant c.segments-test.false
