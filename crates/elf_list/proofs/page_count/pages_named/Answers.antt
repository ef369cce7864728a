use Rattle.std.proofs.Common.{arith}
use Rattle.elf_list.proofs.Counting.{counted_more, may_follow}
use Rattle.elf_list.proofs.page_count.pages_named.Goals as goal

pub push-requires : goal.push-requires
push-requires c =
    let parts = c.args.parts.now in
    let keeps = (c.first_fault_of_a_list.ensures.none parts).0 c.requires.kept in
    may_follow parts c.parts.seen c.parts.named c.parts.component-index c.component-item.result keeps c.parts.invariant (omega arith) c.component-item.is

pub parts-preserved : goal.parts-preserved
parts-preserved c =
    let parts = c.args.parts.now in
    let keeps = (c.first_fault_of_a_list.ensures.none parts).0 c.requires.kept in
    counted_more parts c.parts.seen c.push.new.self c.parts.named c.placed_pages-named.result c.parts.component-index c.component-item.result keeps c.parts.invariant
    (omega arith) c.component-item.is c.placed_pages-named.ensures.value c.push.ensures.value c.push.ensures.seen
