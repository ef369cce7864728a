use Rattle.std.proofs.Common.{◌≡◌, ◌+◌, true, false, refl, arith}
use Rattle.std.proofs.lemmas.Grind.{common_steps}
use Rattle.launch_platform.specs.FailingCommands.{is_failing, is_due}
use Rattle.launch_platform.proofs.FaultCount.{failed_one, failed_none}
use Rattle.launch_platform.proofs.command_faults.CommandFaults.command.Goals as goal

-- the command was to fail
pub returns-then-contains : goal.returns-then-contains
returns-then-contains c =
    let failing : is_failing c.self.inside.failing.items (c.self.inside.commands + 1) ≡ true = grind arith in
    let one_more = failed_one c.self.inside.failing.items c.self.inside.commands failing in
    let is : is_due c.args.self.now ≡ true = grind (arith, common_steps) in
    record {
      commands = rw (← c.self.view_is) (omega arith);
      failing = rw (← c.self.view_is) refl;
      exact = (λ _. is, λ _. refl);
      count = rw is (rw (← c.self.view_is) one_more);
    }

pub returns : goal.returns
returns c =
    let passing : is_failing c.self.inside.failing.items (c.self.inside.commands + 1) ≡ false = grind arith in
    let same = failed_none c.self.inside.failing.items c.self.inside.commands passing in
    let isnt : is_due c.args.self.now ≡ false = grind (arith, common_steps) in
    record {
      commands = rw (← c.self.view_is) (omega arith);
      failing = rw (← c.self.view_is) refl;
      exact = (λ fails. cc, λ due. cc (isnt, due));
      count = rw isnt (rw (← c.self.view_is) (omega (arith, same)));
    }
