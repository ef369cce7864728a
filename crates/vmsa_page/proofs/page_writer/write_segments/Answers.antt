use Rattle.std.proofs.Common.{◌≡◌, ◌<◌, ◌-◌, ℕ, List, [], arith, rules, refl, sym, ap, ◌∙◌, length, map, get_or}
use Rattle.vmsa_page.specs.declared.fields.Field.{Field}
use Rattle.vmsa_page.specs.Fields.{segments}
use Rattle.vmsa_page.specs.Fields as spec
use Rattle.vmsa_page.specs.Pages.{segment_bytes}
use Rattle.vmsa_page.specs.Fields.{field_of}
use Rattle.vmsa_page.proofs.FilledLists.{same_count, seen_at, length_seen}
use Rattle.vmsa_page.proofs.PagesWritten.{overlay_more, wide_at}
use Rattle.vmsa_page.proofs.page_writer.write_segments.Goals as goal

abbrev no_field : Field
no_field = record { name = record { ref_ptr = (0, 0); now = [] }; offset = 0; width = 0 }

pub steps-preserved : goal.steps-preserved
steps-preserved c =
    let k : ℕ = c.steps.left - 1 in
    let lits = c.segments-fields.result in
    let values = c.args.values.now in
    let below : k < 10 = omega (arith, c.steps-test.true, c.steps.invariant.within) in
    let count : length lits ≡ 10 = same_count field_of lits segments c.segments-fields.ensures.fields in
    let sized : length values ≡ 10 = search rules in
    let many : length (map segment_bytes values) ≡ 10 = length_seen segment_bytes values ∙ sized in
    let field : get_or segments k (field_of no_field) ≡ field_of (get_or lits k no_field) = ap (λ (l : List spec.Field). get_or l k (field_of no_field)) (sym c.segments-fields.ensures.fields) ∙ seen_at field_of lits k no_field (omega (arith, count, below)) in
    let bytes : c.to_le_bytes.result ≡ get_or (map segment_bytes values) k (segment_bytes (record { selector = 0; attributes = 0; limit = 0; base = 0 })) = c.to_le_bytes.ensures ∙ sym (seen_at segment_bytes values k (record { selector = 0; attributes = 0; limit = 0; base = 0 }) (omega (arith, below, sized))) in
    record {
      within = omega (arith, c.steps.invariant.within);
      overlay = overlay_more segments (map segment_bytes values) k c.steps.left (get_or lits k no_field).offset (field_of no_field) _ c.to_le_bytes.result c.args.out.now c.steps.out c.put.new.out
          (omega (arith, c.steps-test.true)) below (omega (arith, many, below)) (ap (λ (f : spec.Field). f.offset) (sym field)) bytes
          (wide_at 16 segments k (field_of no_field) refl below ∙ sym (ap length c.to_le_bytes.ensures)) c.steps.invariant.overlay c.put.ensures;
    }
