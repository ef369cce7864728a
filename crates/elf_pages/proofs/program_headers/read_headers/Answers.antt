use Rattle.std.proofs.Common.{◌<◌, sym, arith, length, subst}
use Rattle.std.proofs.lemmas.Result.{err_from_is_err_and}
use Rattle.elf_pages.specs.FileHeader.{header_count}
use Rattle.elf_pages.specs.SegmentTables.{AreSorted, HasSame}
use Rattle.elf_pages.specs.Segments.{segments_before}
use Rattle.elf_pages.proofs.HeaderSteps.{none_first, same_first, sorted_first, none_more, fault_found}
use Rattle.elf_pages.proofs.program_headers.read_headers.Goals as goal

pub headers-init : goal.headers-init
headers-init c = record {
  sorted = subst (AreSorted (length c.args.file.now)) (sym c.new-table.ensures) (sorted_first (length c.args.file.now));
  same = subst (HasSame c.args.file.now (segments_before c.args.file.now 0)) (sym c.new-table.ensures) (same_first c.args.file.now);
  none = none_first c.args.file.now;
}

pub returns-in_err-take_header-clause-fault : goal.returns-in_err-take_header-clause-fault
returns-in_err-take_header-clause-fault c =
    let less : c.headers.k < header_count c.args.file.now = (let test = c.headers-test.true in let count = c.requires.count in omega arith) in
    let p = err_from_is_err_and c.from_residual.result c.from_residual.ensures.1 in
    rw (p.1, p.2) (fault_found c.args.file.now c.headers.k _ c.in_err-take_header.field-0.0 c.headers.invariant.none c.in_err-take_header.ensures.fault less)

pub headers-preserved : goal.headers-preserved
headers-preserved c = record {
  sorted = c.in_ok-take_header.ensures.sorted;
  same = c.in_ok-take_header.ensures.same;
  none = none_more c.args.file.now c.headers.k c.headers.invariant.none c.in_ok-take_header.ensures.accepted;
}
