use Rattle.std.proofs.Common.{◌≡◌, sym, ap, ◌∙◌, option_map, Option, length, Bor, Vec, Global, arith}
use Rattle.serde_json.specs.Data.{Items}
use Rattle.serde_json.specs.View.{items_view}
use Rattle.serde_json.specs.declared.value.Value.{Value}
use Rattle.host_set.specs.Descriptions.{front_ranges, plan_in, plan_of}
use Rattle.host_set.proofs.PlanLemmas.{plan_is}
use Rattle.host_set.proofs.ValueLemmas.{same_error, same_value}
use Rattle.host_set.proofs.plan_json.plan_in.Goals as goal

abbrev seen : Option (Bor (Vec Value Global)) → Option Items
seen found = option_map (λ (entries : Bor (Vec Value Global)). items_view entries.now.items) found

same : (c : goal.After-plan_of) → plan_of c.len.result c.in-Ok.ranges.items ≡ plan_in (seen c.args.found)
same c =
    let count : c.len.result ≡ length c.in-Some.entries.now.items = omega (arith, c.len.ensures) in
    plan_is c.in-Some.entries.now.items c.len.result c.in-Ok.ranges.items count
    (c.in-Ok.ensures.ranges ∙ ap (λ vs. front_ranges (items_view vs)) c.deref.ensures.value)
    ∙ ap (λ found. plan_in (seen found)) (sym c.in-Some.is)

pub returns-in-Ok-clause-read : goal.returns-in-Ok-clause-read
returns-in-Ok-clause-read c = same_value c.plan_of.result (λ plan. plan) _ _ (same c) c.plan_of.ensures.read

pub returns-in-Ok-clause-refused : goal.returns-in-Ok-clause-refused
returns-in-Ok-clause-refused c = same_error c.plan_of.result _ _ (same c) c.plan_of.ensures.refused
