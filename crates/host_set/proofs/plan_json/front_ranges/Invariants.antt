use Rattle.std.proofs.Common.{◌≡◌, ◌≤◌, ◌++◌, drop, length}
use Rattle.serde_json.specs.View.{items_view}
use Rattle.host_set.specs.Descriptions.{front_ranges}
use Rattle.host_set.proofs.plan_json.front_ranges.Given as goal

abbrev pub invariant-steps : goal.invariant-steps
invariant-steps l =
    record {
      same : l.ranges.items ++ front_ranges (items_view (drop l.entry-index l.entries)) ≡ front_ranges (items_view l.entries);
      few : length l.ranges.items ≤ l.entry-index;
    }
