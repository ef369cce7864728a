use Rattle.std.proofs.Common.{◌≡◌, ◌+◌, length, take, drop}
use Rattle.std.specs.List.{AllByRecursion}
use Rattle.vmsa_page.specs.Vmsas.{IsSegment}
use Rattle.serde_json.specs.View.{view}
use Rattle.vmsa_page.specs.Fields.{segments}
use Rattle.vmsa_page.specs.Texts.{zero_segment}
use Rattle.vmsa_page.specs.Sources.{all_at, segment_form}
use Rattle.vmsa_page.proofs.FieldsInOrder.{with_front}
use Rattle.vmsa_page.proofs.segments_json.segments_in.Given as goal

abbrev pub invariant-steps : goal.invariant-steps
invariant-steps l =
    record {
      fits : AllByRecursion IsSegment l.found;
      count : length l.found ≡ 10;
      same : with_front (take l.place l.found) (all_at segment_form zero_segment (view l.json) (l.place + 1) (drop l.place segments)) ≡ all_at segment_form zero_segment (view l.json) 1 segments;
    }
