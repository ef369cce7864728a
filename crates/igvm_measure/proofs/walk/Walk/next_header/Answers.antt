use Rattle.std.proofs.Common.{ap, arith, length}
use Rattle.igvm_image.specs.PlacedView.{placed_view}
use Rattle.igvm_measure.proofs.WalkLemmas.{moved_left, moved_walk, ended_left, ended_walk, no_page_left}
use Rattle.igvm_measure.proofs.walk.Walk.next_header.Goals as goal

pub returns-clause-walk : goal.returns-clause-walk
returns-clause-walk c = moved_walk c.args.self.now (placed_view c.in-Some.placed) c.next.new.self c.run_if-self.result c.in-Some.ensures.steps c.requires.walk c.run_if-self.ensures.run

pub returns-clause-left : goal.returns-clause-left
returns-clause-left c = moved_left c.args.self.now (placed_view c.in-Some.placed) c.next.new.self c.run_if-self.result c.in-Some.ensures.steps c.requires.over c.run_if-self.ensures.left

pub returns-clause-fewer : goal.returns-clause-fewer
returns-clause-fewer c = λ _. omega (arith, ap length c.in-Some.ensures.steps)

pub returns-in_default-clause-walk : goal.returns-in_default-clause-walk
returns-in_default-clause-walk c = ended_walk c.args.self.now c.next.new.self c.in_default.ensures.steps.1 c.requires.walk

pub returns-in_default-clause-left : goal.returns-in_default-clause-left
returns-in_default-clause-left c = ended_left c.args.self.now c.next.new.self c.in_default.ensures.steps.0 c.in_default.ensures.steps.1

pub returns-in_default-clause-end : goal.returns-in_default-clause-end
returns-in_default-clause-end c = λ _. no_page_left c.args.self.now c.in_default.ensures.steps.0 c.requires.over
