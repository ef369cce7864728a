use Rattle.std.proofs.Common.{◌≡◌, length, None}
use Rattle.elf_pages.specs.Faults.{headers_fault}
use Rattle.elf_pages.specs.SegmentTables.{AreSorted, HasSame}
use Rattle.elf_pages.specs.Segments.{segments_before}
use Rattle.elf_pages.proofs.program_headers.read_headers.Given as goal

abbrev pub invariant-headers : goal.invariant-headers
invariant-headers l = record {
  sorted : AreSorted (length l.file) l.table;
  same : HasSame l.file (segments_before l.file l.k) l.table;
  none : headers_fault l.file l.k ≡ None;
}
