use Rattle.std.proofs.Common.{◌≡◌, sym, arith, subst, length, ◌+◌}
use Rattle.host_set.proofs.Covered.{Walk, walks_on, bare_at_last}
use Rattle.host_set.proofs.coverage.first_bare.Goals as goal

pub steps-preserved : goal.steps-preserved
steps-preserved c =
    subst (λ reached. Walk c.args.ranges.now c.args.gpa reached (c.steps.range-index + 1)) (sym c.past-reached.ensures)
    (walks_on c.args.ranges.now c.args.gpa c.steps.reached c.steps.range-index _ c.requires c.steps-test.true c.steps.invariant)

pub returns-clause-bare : goal.returns-clause-bare
returns-clause-bare c =
    let all : c.steps.range-index ≡ length c.args.ranges.now = omega arith in
    bare_at_last c.args.ranges.now c.args.gpa c.steps.reached (subst (Walk c.args.ranges.now c.args.gpa c.steps.reached) all c.steps.invariant)
