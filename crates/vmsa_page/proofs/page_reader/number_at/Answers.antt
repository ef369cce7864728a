use Rattle.std.proofs.Common.{◌<◌, arith, rules}
use Rattle.vmsa_page.proofs.PagesRead.{little_more, room_more, room_within}
use Rattle.vmsa_page.proofs.page_reader.number_at.Goals as goal

pub overflow_mul-number : goal.overflow_mul-number
overflow_mul-number c =
    omega (arith, room_within c.steps.left c.args.width c.steps.number 0 c.steps-test.true c.steps.invariant.within c.requires.width (omega arith) c.steps.invariant.bound)

pub overflow_add-number : goal.overflow_add-number
overflow_add-number c =
    let small : c.from.result < 256 = search rules in
    omega (arith, room_within c.steps.left c.args.width c.steps.number c.from.result c.steps-test.true c.steps.invariant.within c.requires.width small c.steps.invariant.bound)

pub steps-preserved : goal.steps-preserved
steps-preserved c =
    record {
      within = omega (arith, c.steps.invariant.within);
      value = little_more c.args.at c.steps.left c.args.width c.steps.number c.from.result c.args.page.now c.steps-test.true c.steps.invariant.within (search rules) c.steps.invariant.value;
      bound = room_more c.steps.left c.args.width c.steps.number c.from.result c.steps-test.true c.steps.invariant.within (search rules) c.steps.invariant.bound;
    }
