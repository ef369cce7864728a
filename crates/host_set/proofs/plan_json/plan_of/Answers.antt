use Rattle.std.proofs.Common.{◌≡◌, sym, ap, ◌∙◌, arith, length, Ok, Err}
use Rattle.host_set.proofs.PlanLemmas.{few_ranges, whole_plan, front_plan, bad_plan}
use Rattle.host_set.specs.declared.refusal.HostPart.TheVariants as part
use Rattle.host_set.specs.Descriptions.{field}
use Rattle.host_set.proofs.plan_json.plan_of.Goals as goal

pub overflow_cast-placed : goal.overflow_cast-placed
overflow_cast-placed c = omega (arith, few_ranges c.args.ranges.items c.in-Ok-2.ensures.accepted, c.len-placed.ensures)

pub returns-in-Ok-clause-read : goal.returns-in-Ok-clause-read
returns-in-Ok-clause-read c =
    whole_plan c.args.entries c.args.ranges.items c.in-Ok.ensures.accepted (omega (arith, c.len-placed.ensures, c.if-placed-entries.true))
    ∙ ap (λ ranges. Ok ranges) (sym c.in-Ok.ensures.plan)

pub returns-in-Ok-2-clause-refused : goal.returns-in-Ok-2-clause-refused
returns-in-Ok-2-clause-refused c =
    let size : length c.args.ranges.items ≡ c.len-placed.result = omega (arith, c.len-placed.ensures) in
    front_plan c.args.entries c.args.ranges.items c.in-Ok-2.ensures.accepted (λ all. c.if-placed-entries.false (sym size ∙ all))
    ∙ ap (λ e. Err e) (ap (field part.Memory) size ∙ sym c.bad_range.ensures)

pub returns-in-Err-clause-refused : goal.returns-in-Err-clause-refused
returns-in-Err-clause-refused c =
    bad_plan c.args.entries c.in-Err.bad.item c.args.ranges.items c.in-Err.ensures.refused c.requires ∙ ap (λ e. Err e) (sym c.bad_range-in-Err.ensures)
