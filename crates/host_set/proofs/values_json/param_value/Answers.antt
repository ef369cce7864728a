use Rattle.serde_json.specs.View.{view}
use Rattle.host_set.proofs.ValueLemmas.{value_is, same_refusal}
use Rattle.host_set.proofs.values_json.param_value.Goals as goal

pub returns-clause-refused : goal.returns-clause-refused
returns-clause-refused c =
    let same = value_is (view c.args.json.now) c.args.kind c.number.result c.param_name.result.now c.bad_value-refusal.result _ c.number.ensures.number c.param_name.ensures c.bad_value-refusal.ensures c.get.ensures in
    same_refusal c.bytes_at.result _ _ same c.bytes_at.ensures.refused
