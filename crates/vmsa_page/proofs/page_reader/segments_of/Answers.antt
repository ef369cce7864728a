use Rattle.std.proofs.Common.{◌≡◌, ◌≤◌, [], arith, ◌∙◌, length}
use Rattle.std.proofs.lemmas.List.{length-set, get_or_default}
use Rattle.vmsa_page.specs.Fields.{segments}
use Rattle.vmsa_page.specs.Pages.{segment_of}
use Rattle.vmsa_page.specs.Fields.{field_of}
use Rattle.vmsa_page.specs.declared.fields.Field.{Field}
use Rattle.vmsa_page.proofs.FilledLists.{by_index, fill_more, same_count}
use Rattle.vmsa_page.proofs.page_reader.segments_of.Goals as goal

pub segment_of-requires : goal.segment_of-requires
segment_of-requires c =
    let fields = c.segments-fields.result in
    let count : length fields ≡ 10 = same_count field_of fields segments c.segments-fields.ensures.fields in
    let within = by_index (λ (f : Field). f.offset ≤ 4080) fields c.steps.place (record { name = record { ref_ptr = (0, 0); now = [] }; offset = 0; width = 0 }) c.segments-fields.ensures.within (omega (arith, count, c.steps-test.true)) in
    omega (arith, within)

pub steps-preserved : goal.steps-preserved
steps-preserved c =
    let fields = c.segments-fields.result in
    let count : length fields ≡ 10 = same_count field_of fields segments c.segments-fields.ensures.fields in
    let found : length c.steps.found ≡ 10 = c.steps.invariant.0 in (
      length-set c.steps.found c.steps.place c.segment_of.result ∙ found,
      fill_more (segment_of c.args.page.now) field_of fields segments c.steps.found c.steps.place _ c.segment_of.result c.segments-fields.ensures.fields
          (omega (arith, count, c.steps-test.true)) (omega (arith, c.steps-test.true)) (omega (arith, found, c.steps-test.true))
          (get_or_default fields c.steps.place _ _ (omega (arith, count, c.steps-test.true))) c.segment_of.ensures c.steps.invariant.1,
    )
