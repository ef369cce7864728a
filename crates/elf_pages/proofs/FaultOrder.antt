-- The rules of a file in their order.
use Rattle.std.proofs.Common.{◌≡◌, ℕ, ◌<◌, ◌≤◌, ◌&&◌, ◌||◌, not, nat_lt, false, List, length, refl, ap, ◌∙◌, arith, Option, None, Some}
use Rattle.std.specs.Prelude.{◌==◌}
use Rattle.std.specs.Option.{option_or, option_map}
use Rattle.std.proofs.lemmas.Bool.Decides.{nat_tests}
use Rattle.igvm_headers.specs.Numbers.{number_at}
use Rattle.elf_pages.specs.declared.fault.ElfWhat.{ElfWhat}
use Rattle.elf_pages.specs.declared.fault.ElfFault.{ElfFault}
use Rattle.elf_pages.specs.declared.segment.Segment.{Segment}
use Rattle.elf_pages.specs.Faults.{breaks_table, elf_fault, fault_in, file_fault, headers_fault, pages_fault}
use Rattle.elf_pages.specs.FileHeader.{header_count, header_offset}
use Rattle.elf_pages.specs.SegmentTables.{HasSame}
use Rattle.elf_pages.specs.Segments.{segments_of}
use Rattle.elf_pages.proofs.TouchedPages.{same_pages}

lies : (count size most place : ℕ) → (not (count == 0) && (not (size == 56) || nat_lt most place)) ≡ false → 0 < count → place ≤ most
lies count size most place h some = grind (arith, nat_tests)

pub table_lies : (file : List ℕ) → breaks_table file ≡ false → 0 < header_count file → header_offset file (header_count file) ≤ length file
table_lies file h some = lies (header_count file) (number_at 2 54 file) (length file) (header_offset file (header_count file)) h some

pub at_file : (file : List ℕ) (what : ElfWhat) → file_fault file ≡ Some what → elf_fault file ≡ Some (fault_in 0 what)
unfolding elf_fault
at_file file what h = ap (λ o. option_or (option_map (fault_in 0) o) (option_or (headers_fault file (header_count file)) (option_map (fault_in 0) (pages_fault (segments_of file))))) h

pub at_header : (file : List ℕ) (e : ElfFault) → file_fault file ≡ None → headers_fault file (header_count file) ≡ Some e → elf_fault file ≡ Some e
unfolding elf_fault
at_header file e none h =
    ap (λ o. option_or (option_map (fault_in 0) o) (option_or (headers_fault file (header_count file)) (option_map (fault_in 0) (pages_fault (segments_of file))))) none
    ∙ ap (λ o. option_or o (option_map (fault_in 0) (pages_fault (segments_of file)))) h

pub at_pages : (file : List ℕ) (last : Option ElfWhat) → file_fault file ≡ None → headers_fault file (header_count file) ≡ None → pages_fault (segments_of file) ≡ last → elf_fault file ≡ option_map (fault_in 0) last
unfolding elf_fault
at_pages file last none kept h =
    ap (λ o. option_or (option_map (fault_in 0) o) (option_or (headers_fault file (header_count file)) (option_map (fault_in 0) (pages_fault (segments_of file))))) none
    ∙ ap (λ o. option_or o (option_map (fault_in 0) (pages_fault (segments_of file)))) kept
    ∙ ap (option_map (fault_in 0)) h

pub same_pages_fault : (file : List ℕ) (segments table : List Segment) → HasSame file segments table → pages_fault table ≡ pages_fault segments
unfolding pages_fault
same_pages_fault file segments table same = rw (same.size, same_pages file segments table same) refl
