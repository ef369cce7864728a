use Rattle.std.proofs.Common.{◌∙◌, sym, ap, ℕ, length, None, Some}
use Rattle.elf_pages.specs.Faults.{pages_fault}
use Rattle.elf_pages.specs.Pages.{pages_in}
use Rattle.std.proofs.lemmas.Result.{err_from_is_err_and}
use Rattle.elf_pages.specs.Segments.{segments_of}
use Rattle.elf_pages.proofs.TouchedPages.{same_pages}
use Rattle.elf_pages.proofs.FaultOrder.{at_file, at_header, at_pages, same_pages_fault}
use Rattle.elf_pages.proofs.view.open_elf.Goals as goal

pub returns-in-Some-clause-fault : goal.returns-in-Some-clause-fault
returns-in-Some-clause-fault c = at_file c.args.file.now c.in-Some.what (sym c.file_fault.ensures.fault ∙ c.in-Some.is)

pub returns-in_err-table-clause-fault : goal.returns-in_err-table-clause-fault
returns-in_err-table-clause-fault c =
    let p = err_from_is_err_and c.from_residual.result c.from_residual.ensures.1 in
    rw (p.1, p.2) (at_header c.args.file.now c.in_err-table.field-0.0 (sym c.file_fault.ensures.fault ∙ c.in_default.is) c.in_err-table.ensures.fault)

pub returns-in-Err-clause-fault : goal.returns-in-Err-clause-fault
returns-in-Err-clause-fault c =
    at_pages c.args.file.now (Some c.in-Err.what) (sym c.file_fault.ensures.fault ∙ c.in_default.is) c.in_ok-table.ensures.accepted
    (sym (ap pages_fault c.as_slice.ensures.value ∙ same_pages_fault c.args.file.now (segments_of c.args.file.now) _ c.in_ok-table.ensures.same) ∙ c.in-Err.ensures.fault)

pub returns-clause-accepted : goal.returns-clause-accepted
returns-clause-accepted c =
    at_pages c.args.file.now None (sym c.file_fault.ensures.fault ∙ c.in_default.is) c.in_ok-table.ensures.accepted
    (sym (ap pages_fault c.as_slice.ensures.value ∙ same_pages_fault c.args.file.now (segments_of c.args.file.now) _ c.in_ok-table.ensures.same) ∙ c.in-Ok.ensures.accepted)

pub invariant_of-result : goal.invariant_of-result
invariant_of-result c = record {
  accepted = returns-clause-accepted c;
  sorted = c.in_ok-table.ensures.sorted;
  same = c.in_ok-table.ensures.same;
  few = c.in-Ok.ensures.few;
  count = c.in-Ok.ensures.count ∙ ap (λ t. length (pages_in t)) c.as_slice.ensures.value
      ∙ ap (length {A = ℕ}) (same_pages c.args.file.now (segments_of c.args.file.now) _ c.in_ok-table.ensures.same);
}
