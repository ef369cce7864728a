use Rattle.std.proofs.Common.{◌≡◌, ◌<◌, ◌+◌, [], arith, refl, sym, ◌∙◌, length}
use Rattle.std.proofs.lemmas.List.{length-set}
use Rattle.serde_json.specs.View.{view}
use Rattle.vmsa_page.specs.Fields.{Field, numbers}
use Rattle.json_forms.specs.Forms.{address}
use Rattle.vmsa_page.proofs.FieldsInOrder.{no_front, one_read, one_refused}
use Rattle.vmsa_page.proofs.WrittenTokens.{number_named}
use Rattle.vmsa_page.proofs.numbers_json.numbers_in.Goals as goal

abbrev no_field : Field
no_field = record { name = []; offset = 0; width = 0 }

pub steps-init : goal.steps-init
steps-init c = record { count = refl; same = no_front _ }

pub steps-preserved : goal.steps-preserved
steps-preserved c =
    let below : c.steps.place < 13 = omega (arith, c.steps-test.true) in
    let count : length c.steps.found ≡ 13 = c.steps.invariant.count in
    record {
      count = length-set c.steps.found c.steps.place c.in-Some.number ∙ count;
      same = one_read address 0 (view c.args.json.now) numbers c.steps.place (c.steps.place + 11) (c.steps.place + 1) (c.steps.place + 1 + 11) no_field c.in-Some.number c.field_name.result.now c.steps.found _ below (omega (arith, count, below)) refl (omega arith)
          (c.field_name.ensures ∙ sym (number_named c.steps.place no_field below)) (sym c.address_at.ensures ∙ c.in-Some.is) c.steps.invariant.same;
    }

pub returns-in_default-clause-refused : goal.returns-in_default-clause-refused
returns-in_default-clause-refused c =
    let below : c.steps.place < 13 = omega (arith, c.steps-test.true) in
    one_refused address 0 (view c.args.json.now) numbers c.steps.place (c.steps.place + 11) no_field c.field_name.result.now _ _ below
    (c.field_name.ensures ∙ sym (number_named c.steps.place no_field below)) (sym c.address_at.ensures ∙ c.in_default.is) c.steps.invariant.same
