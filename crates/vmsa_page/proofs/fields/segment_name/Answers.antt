use Rattle.std.proofs.Common.{◌≡◌, [], List, arith, sym, ap, ◌∙◌, length, get_or}
use Rattle.vmsa_page.specs.Fields as spec
use Rattle.vmsa_page.specs.Fields.{segments}
use Rattle.vmsa_page.specs.Fields.{field_of}
use Rattle.vmsa_page.specs.declared.fields.Field.{Field}
use Rattle.vmsa_page.proofs.FilledLists.{same_count, seen_at}
use Rattle.vmsa_page.proofs.WrittenTokens.{segment_named}
use Rattle.vmsa_page.proofs.fields.segment_name.Goals as goal

pub returns : goal.returns
returns c =
    let lits = c.segments.result in
    let d : Field = record { name = record { ref_ptr = (0, 0); now = [] }; offset = 0; width = 0 } in
    let count : length lits ≡ 10 = same_count field_of lits segments c.segments.ensures.fields in
    ap (λ (f : spec.Field). f.name) (sym (seen_at field_of lits c.args.place d (omega (arith, count, c.requires))) ∙ ap (λ (l : List spec.Field). get_or l c.args.place (field_of d)) c.segments.ensures.fields)
    ∙ segment_named c.args.place (field_of d) c.requires
