use Rattle.std.proofs.Common.{◌≡◌, ◌+◌, true, false, refl, arith}
use Rattle.std.proofs.lemmas.Grind.{common_steps}
use Rattle.igvm_outside.specs.Script.{is_failing, is_due}
use Rattle.igvm_outside.proofs.Calls.{failing_call, passing_call}
use Rattle.igvm_outside.proofs.fakes.fake_script.FakeScript.call.Goals as goal

-- the call was to fail, and no other fault is counted
pub returns-then-contains-clause-called : goal.returns-then-contains-clause-called
returns-then-contains-clause-called c =
    let failing : is_failing c.self.inside.failing.items (c.self.inside.calls + 1) ≡ true = grind arith in
    let one_more = failing_call c.self.inside.failing.items c.self.inside.calls failing in
    let is : is_due c.args.self.now ≡ true = grind (arith, common_steps) in
    record {
      calls = rw (← c.self.view_is) (omega arith);
      failing = rw (← c.self.view_is) refl;
      piece = rw (← c.self.view_is) refl;
      due = tt;
      others = tt;
      failed = record { due = λ _. rw (← c.self.view_is) refl; other = λ isnt. cc (is, isnt) };
      cause = rw (← c.self.view_is) (grind (arith, one_more));
      no_fault = tt;
      counted = rw (← c.self.view_is) (omega (arith, one_more));
    }

pub returns-clause-called : goal.returns-clause-called
returns-clause-called c =
    let passing : is_failing c.self.inside.failing.items (c.self.inside.calls + 1) ≡ false = grind arith in
    let same = passing_call c.self.inside.failing.items c.self.inside.calls passing in
    record {
      calls = rw (← c.self.view_is) (omega arith);
      failing = rw (← c.self.view_is) refl;
      piece = rw (← c.self.view_is) refl;
      due = grind (arith, common_steps);
      others = rw (← c.self.view_is) refl;
      failed = tt;
      cause = tt;
      no_fault = rw (← c.self.view_is) (omega (arith, same));
      counted = rw (← c.self.view_is) (omega (arith, same));
    }
