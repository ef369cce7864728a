use Rattle.std.proofs.Common.{◌≡◌, ◌<◌, ◌+◌, [], arith, refl, sym, ◌∙◌, length}
use Rattle.std.proofs.lemmas.List.{length-set}
use Rattle.serde_json.specs.View.{view}
use Rattle.vmsa_page.specs.Fields.{Field, segments}
use Rattle.vmsa_page.specs.Vmsas.{IsSegment}
use Rattle.vmsa_page.specs.Texts.{zero_segment}
use Rattle.vmsa_page.specs.Sources.{segment_form}
use Rattle.vmsa_page.proofs.FieldsInOrder.{no_front, one_read, one_refused, zeros_fit, all_set, some_holds}
use Rattle.vmsa_page.proofs.WrittenTokens.{segment_named}
use Rattle.vmsa_page.proofs.segments_json.segments_in.Goals as goal

abbrev no_field : Field
no_field = record { name = []; offset = 0; width = 0 }

pub steps-init : goal.steps-init
steps-init c = record { fits = zeros_fit 10; count = refl; same = no_front _ }

pub steps-preserved : goal.steps-preserved
steps-preserved c =
    let below : c.steps.place < 10 = omega (arith, c.steps-test.true) in
    let count : length c.steps.found ≡ 10 = c.steps.invariant.count in
    let good : IsSegment c.in-Some.segment = some_holds IsSegment c.segment_at.result c.in-Some.segment c.in-Some.is c.segment_at.ensures.fits in
    record {
      fits = all_set IsSegment c.steps.found c.steps.place c.in-Some.segment c.steps.invariant.fits good;
      count = length-set c.steps.found c.steps.place c.in-Some.segment ∙ count;
      same = one_read segment_form zero_segment (view c.args.json.now) segments c.steps.place (c.steps.place + 1) (c.steps.place + 1) (c.steps.place + 1 + 1) no_field c.in-Some.segment c.field_name.result.now c.steps.found _ below (omega (arith, count, below)) refl (omega arith)
          (c.field_name.ensures ∙ sym (segment_named c.steps.place no_field below)) (sym c.segment_at.ensures.form ∙ c.in-Some.is) c.steps.invariant.same;
    }

pub returns-in_default-clause-refused : goal.returns-in_default-clause-refused
returns-in_default-clause-refused c =
    let below : c.steps.place < 10 = omega (arith, c.steps-test.true) in
    one_refused segment_form zero_segment (view c.args.json.now) segments c.steps.place (c.steps.place + 1) no_field c.field_name.result.now _ _ below
    (c.field_name.ensures ∙ sym (segment_named c.steps.place no_field below)) (sym c.segment_at.ensures.form ∙ c.in_default.is) c.steps.invariant.same
