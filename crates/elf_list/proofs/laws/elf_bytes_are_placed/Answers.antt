use Rattle.std.proofs.Common.{refl}
use Rattle.directive_rules.specs.FirstMisfit.{setting_of}
use Rattle.image_builder.specs.Layout.{layout}
use Rattle.image_loader.specs.Loads.{load_of}
use Rattle.elf_list.specs.ElfParts.{with_elf_pages}
use Rattle.elf_list.proofs.ElfHeaders.{Laws}
use Rattle.elf_list.proofs.PlacedBytes.{byte_is_placed, places_elf_page}
use Rattle.elf_list.proofs.OtherPages.{only_byte}
use Rattle.elf_list.proofs.laws.elf_bytes_are_placed.Goals as goal

pub returns-clause-placed : goal.returns-clause-placed
returns-clause-placed c = λ list file mask platform options host k i is size names within inside.
    let laws : Laws = record {
      accepted = c.built_is_read_back.ensures.accepted;
      back = c.built_is_read_back.ensures.list;
      headers = c.accepted_headers.ensures.each;
      filled = c.filled_pages.ensures;
      zero = c.bytes_are_the_segments.ensures.zero;
    } in
    byte_is_placed (load_of (layout (with_elf_pages list file mask)) platform options host) file mask k i
    (places_elf_page laws list file mask k platform options host is size names within) inside

pub returns-clause-alone : goal.returns-clause-alone
returns-clause-alone c = λ list file mask platform options host plan k i byte is size names within inside fits g.
    let image = layout (with_elf_pages list file mask) in
    let laws : Laws = record {
      accepted = c.built_is_read_back.ensures.accepted;
      back = c.built_is_read_back.ensures.list;
      headers = c.accepted_headers.ensures.each;
      filled = c.filled_pages.ensures;
      zero = c.bytes_are_the_segments.ensures.zero;
    } in
    only_byte c.fitting_pages_are_new.ensures c.accepted_headers.ensures.each (load_of image platform options host) (setting_of image platform plan host) file mask k i byte
    (places_elf_page laws list file mask k platform options host is size names within) (laws.accepted (with_elf_pages list file mask) is size)
    refl fits (c.pages_are_those_touched.ensures.each file k within).whole inside g
