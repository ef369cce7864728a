use Rattle.std.proofs.Common.{◌∙◌, sym, ap, length}
use Rattle.igvm_image.specs.HeaderRules.{seen_of}
use Rattle.igvm_image.specs.FileFault.{section_fault}
use Rattle.igvm_image.specs.AcceptedLaws.{fixed_form-fields}
use Rattle.igvm_image.proofs.HeadersLemmas.{fault_of-section, decoded-headers_of}
use Rattle.std.proofs.lemmas.List.{length-map}
use Rattle.igvm_image.specs.Headers.{PlacedHeader, placed_headers}
use Rattle.igvm_image.proofs.view.open_image.Goals as goal

pub returns-in-Err-clause-fault : goal.returns-in-Err-clause-fault
returns-in-Err-clause-fault c =
    let fixed = c.in_ok-fixed.fixed in
    fault_of-section c.args.file.now fixed c.in_ok-fixed.ensures.fields c.in_ok-fixed.ensures.kept
    ∙ ap (section_fault fixed.total fixed.var_offset) (sym c.section_of-section.ensures.value)
    ∙ c.in-Err.ensures.fault

pub invariant_of-result : goal.invariant_of-result
invariant_of-result c =
    let file = c.args.file.now in
    let fixed = c.in_ok-fixed.fixed in
    let headers = decoded-headers_of file _ fixed c.in_ok-fixed.ensures.fields c.section_of-section.ensures.value in
    record {
      accepted = fault_of-section file fixed c.in_ok-fixed.ensures.fields c.in_ok-fixed.ensures.kept
          ∙ ap (section_fault fixed.total fixed.var_offset) (sym c.section_of-section.ensures.value)
          ∙ c.in-Ok.ensures.accepted;
      fixed = fixed_form-fields file fixed c.in_ok-fixed.ensures.fields;
      seen = c.in-Ok.ensures.seen ∙ ap seen_of headers;
      count = c.in-Ok.ensures.count ∙ ap length headers ∙ length-map (placed_headers file) (λ (placed : PlacedHeader). placed.header);
      section = c.in_ok-fixed.ensures.section;
      total = c.in_ok-fixed.ensures.total;
      limit = c.requires;
    }

pub returns-clause-accepted : goal.returns-clause-accepted
returns-clause-accepted c =
    let fixed = c.in_ok-fixed.fixed in
    fault_of-section c.args.file.now fixed c.in_ok-fixed.ensures.fields c.in_ok-fixed.ensures.kept
    ∙ ap (section_fault fixed.total fixed.var_offset) (sym c.section_of-section.ensures.value)
    ∙ c.in-Ok.ensures.accepted
