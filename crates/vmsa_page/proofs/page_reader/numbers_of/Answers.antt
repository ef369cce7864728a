use Rattle.std.proofs.Common.{◌≡◌, ◌≤◌, [], arith, ◌∙◌, length}
use Rattle.std.proofs.lemmas.List.{length-set, get_or_default}
use Rattle.byteorder.specs.Endian.{little_from}
use Rattle.vmsa_page.specs.Fields.{numbers}
use Rattle.vmsa_page.specs.Fields.{field_of}
use Rattle.vmsa_page.specs.declared.fields.Field.{Field}
use Rattle.vmsa_page.proofs.FilledLists.{by_index, fill_more, same_count}
use Rattle.vmsa_page.proofs.page_reader.numbers_of.Goals as goal

pub number_of-requires : goal.number_of-requires
number_of-requires c =
    let fields = c.numbers-fields.result in
    let count : length fields ≡ 13 = same_count field_of fields numbers c.numbers-fields.ensures.fields in
    let within = by_index (λ (f : Field). f.offset ≤ 4080) fields c.steps.place (record { name = record { ref_ptr = (0, 0); now = [] }; offset = 0; width = 0 }) c.numbers-fields.ensures.within (omega (arith, count, c.steps-test.true)) in
    omega (arith, within)

pub steps-preserved : goal.steps-preserved
steps-preserved c =
    let fields = c.numbers-fields.result in
    let count : length fields ≡ 13 = same_count field_of fields numbers c.numbers-fields.ensures.fields in
    let found : length c.steps.found ≡ 13 = c.steps.invariant.0 in (
      length-set c.steps.found c.steps.place c.number_of.result ∙ found,
      fill_more (λ f. little_from f.offset 8 c.args.page.now) field_of fields numbers c.steps.found c.steps.place _ c.number_of.result c.numbers-fields.ensures.fields
          (omega (arith, count, c.steps-test.true)) (omega (arith, c.steps-test.true)) (omega (arith, found, c.steps-test.true))
          (get_or_default fields c.steps.place _ _ (omega (arith, count, c.steps-test.true))) c.number_of.ensures c.steps.invariant.1,
    )
