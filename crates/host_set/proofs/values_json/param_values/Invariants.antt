use Rattle.std.proofs.Common.{◌≡◌, take, length}
use Rattle.serde_json.specs.View.{view}
use Rattle.host_set.specs.Hosts.{no_values}
use Rattle.host_set.specs.Descriptions.{param_values}
use Rattle.host_set.proofs.ValueLemmas.{with_front, values_from}
use Rattle.host_set.proofs.values_json.param_values.Given as goal

abbrev pub invariant-steps : goal.invariant-steps
invariant-steps l =
    record {
      rest : l.host ≡ record no_values { values = l.host.values };
      count : length l.host.values ≡ 10;
      same : with_front (take l.kind-index l.host.values) (values_from (view l.json) l.kind-index) ≡ param_values (view l.json);
    }
