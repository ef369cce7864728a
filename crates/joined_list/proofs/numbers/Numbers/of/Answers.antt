use Rattle.std.proofs.Common.{arith}
use Rattle.joined_list.proofs.Counted.{counted_all, counted_more, counted_none, few_pages, may_follow}
use Rattle.joined_list.proofs.numbers.Numbers.of.Goals as goal

pub parts-init : goal.parts-init
parts-init c = counted_none c.args.parts.now c.new-seen.result c.new.result.items c.new-2.result.items c.new-seen.ensures c.new.ensures.items c.new-2.ensures.items

pub push-requires : goal.push-requires
push-requires c =
    let keeps = (c.first_fault_of_a_list.ensures.none c.args.parts.now).0 c.requires.kept in
    may_follow c.args.parts.now c.parts.seen _ _ _ c.parts.component-index c.component-item.result keeps c.parts.invariant c.parts-test.true c.component-item.is

pub invariant_of-numbers : goal.invariant_of-numbers
invariant_of-numbers c =
    let keeps = (c.first_fault_of_a_list.ensures.none c.args.parts.now).0 c.requires.kept in
    record {
      few = few_pages c.args.parts.now c.parts.seen _ _ _ c.placed_pages.result c.parts.component-index c.component-item.result keeps c.parts.invariant
          c.parts-test.true c.component-item.is c.placed_pages.ensures.value;
    }

pub parts-preserved : goal.parts-preserved
parts-preserved c =
    let keeps = (c.first_fault_of_a_list.ensures.none c.args.parts.now).0 c.requires.kept in
    let small = few_pages c.args.parts.now c.parts.seen _ _ _ c.placed_pages.result c.parts.component-index c.component-item.result keeps c.parts.invariant
    c.parts-test.true c.component-item.is c.placed_pages.ensures.value in
    counted_more c.args.parts.now c.parts.seen c.push.new.self _ _ c.declare.new.self.masks.items c.declare.new.self.areas.items _ c.placed_pages.result
    c.declare.new.self.pages c.parts.component-index c.component-item.result c.parts.invariant c.parts-test.true c.component-item.is c.push.ensures.value c.push.ensures.seen
    c.in_ok-declare.ensures.masks c.in_ok-declare.ensures.areas c.placed_pages.ensures.value c.declare.ensures.pages (omega (arith, c.declare.ensures.pages))

pub returns : goal.returns
returns c = counted_all c.args.parts.now c.parts.seen _ c.parts.component-index c.parts-test.false c.parts.invariant
