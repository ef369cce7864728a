use Rattle.std.proofs.Common.{arith}
use Rattle.elf_pages.proofs.PageWalks.{walk_first, walk_step, walk_last, page_found}
use Rattle.elf_pages.proofs.page_walk.page_number.Goals as goal

pub segments-init : goal.segments-init
segments-init c = record { walk = walk_first c.args.segments.now; behind = omega arith }

pub returns-then-k-counted-clause-page : goal.returns-then-k-counted-clause-page
returns-then-k-counted-clause-page c =
    (page_found c.requires.sorted.0 c.args.segments.now c.segments.next c.segments.counted c.segments.segment-index c.first_page_from-from.result c.end_page_from-end.result c.args.k _ c.requires.sorted.1 c.segments.invariant.walk
    (record {
      within = c.segments-test.true;
      starts = c.first_page_from-from.ensures;
      stops = c.end_page_from-end.ensures;
    }) c.segments.invariant.behind c.if-k-counted.true).0

pub segments-preserved : goal.segments-preserved
segments-preserved c = record {
  walk = walk_step c.requires.sorted.0 c.args.segments.now c.segments.next c.segments.counted c.segments.segment-index c.first_page_from-from.result c.end_page_from-end.result _ c.requires.sorted.1 c.segments.invariant.walk
      (record {
        within = c.segments-test.true;
        starts = c.first_page_from-from.ensures;
        stops = c.end_page_from-end.ensures;
      });
  behind = let all = c.segments.invariant.behind in let last = c.if-k-counted.false in omega arith;
}

pub unreachable-requires : goal.unreachable-requires
unreachable-requires c =
    let all = walk_last c.args.segments.now c.segments.next c.segments.counted c.segments.segment-index c.segments.invariant.walk c.segments-test.false in
    omega (arith, all, c.segments.invariant.behind, c.requires.within)
