use Rattle.std.proofs.Common.{◌≡◌, ◌+◌, length, take, drop}
use Rattle.serde_json.specs.View.{view}
use Rattle.vmsa_page.specs.Fields.{numbers}
use Rattle.vmsa_page.specs.Sources.{all_at}
use Rattle.json_forms.specs.Forms.{address}
use Rattle.vmsa_page.proofs.FieldsInOrder.{with_front}
use Rattle.vmsa_page.proofs.numbers_json.numbers_in.Given as goal

abbrev pub invariant-steps : goal.invariant-steps
invariant-steps l =
    record {
      count : length l.found ≡ 13;
      same : with_front (take l.place l.found) (all_at address 0 (view l.json) (l.place + 11) (drop l.place numbers)) ≡ all_at address 0 (view l.json) 11 numbers;
    }
