use Rattle.std.proofs.Common.{arith}
use Rattle.std.proofs.lemmas.Int.Digits.{digits_more, digits_value_more}
use Rattle.json_forms.proofs.FormLemmas.{fits, some_of}
use Rattle.json_forms.proofs.addresses.number_of.Goals as goal

pub overflow_add-number : goal.overflow_add-number
overflow_add-number c =
    let room = fits c.args.digits.now c.steps.digit-index c.steps-test.true c.requires c.steps.invariant.digits c.in-Some.ensures.0 in
    omega (arith, room, c.in-Some.ensures.1, c.steps.invariant.number)

pub overflow_mul-number : goal.overflow_mul-number
overflow_mul-number c =
    let room = fits c.args.digits.now c.steps.digit-index c.steps-test.true c.requires c.steps.invariant.digits c.in-Some.ensures.0 in
    omega (arith, room, c.steps.invariant.number)

pub steps-preserved : goal.steps-preserved
steps-preserved c =
    record {
      digits = digits_more 16 c.args.digits.now c.steps.digit-index c.steps-test.true c.steps.invariant.digits c.in-Some.ensures.0;
      number = omega (arith, c.steps.invariant.number, c.in-Some.ensures.1, digits_value_more 16 c.args.digits.now c.steps.digit-index c.steps-test.true);
    }

pub returns : goal.returns
returns c = some_of c.args.digits.now c.steps.digit-index c.steps.number (omega arith) c.steps.invariant.digits c.steps.invariant.number
