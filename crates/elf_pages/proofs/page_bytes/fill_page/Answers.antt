use Rattle.std.proofs.Common.{length}
use Rattle.elf_pages.proofs.FilledBytes.{fill_step, fill_last}
use Rattle.elf_pages.proofs.page_bytes.fill_page.Goals as goal

pub segments-preserved : goal.segments-preserved
segments-preserved c =
    let put = c.put_segment-done.ensures in
    fill_step c.args.file.now c.args.segments.now (length c.args.file.now) c.args.page c.segments.done c.put_segment-done.result c.segments.segment-index _ c.segments.out c.put_segment-done.new.out
    c.requires.sorted c.segments.invariant c.segments-test.true put.size put.more put.within put.below put.bytes put.reach put.rest

pub returns : goal.returns
returns c = λ i few.
    fill_last c.args.file.now c.args.segments.now c.args.page c.segments.done c.segments.segment-index i c.segments.out c.put_zeros.new.out
    c.segments.invariant c.segments-test.false few c.put_zeros.ensures.below c.put_zeros.ensures.zeros
