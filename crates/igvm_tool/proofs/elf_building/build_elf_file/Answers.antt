use Rattle.std.proofs.Common.{refl, subst}
use Rattle.component_list.specs.Lists.{IsList}
use Rattle.further_words.specs.FurtherView.{elf_view}
use Rattle.igvm_jobs.proofs.EndingLemmas.{stopped}
use Rattle.igvm_jobs.proofs.ImageFileLemmas.{read_as}
use Rattle.igvm_tool.proofs.ElfLemmas.{next_of, list_stops, is_listed, elf_stops, file_stops, image_ends}
use Rattle.igvm_tool.proofs.elf_building.build_elf_file.Goals as goal

-- the list was refused
pub returns-in_err-list : goal.returns-in_err-list
returns-in_err-list g c =
    let words = elf_view c.args.words in
    stopped _ c.from_residual.ensures.1 (list_stops words (c.in_err-list.ensures.refused (next_of words (g.S.Shelf.told c.args.shelf.now))))

-- ELF was not read
pub returns-in_err-bytes : goal.returns-in_err-bytes
returns-in_err-bytes g c =
    let words = elf_view c.args.words in
    let h = is_listed words (subst IsList c.list.view_is c.list.invariant) c.in_ok-list.ensures.parts c.read_parts.ensures.only_reads in
    stopped _ c.from_residual-in_err-bytes.ensures.1 (elf_stops words _ h c.in_err-bytes.ensures.refused c.read_file.ensures.only_reads c.read_file.ensures.unwritten)

-- its bytes are refused, or the list has no room for its pages
pub returns-in_err-parts : goal.returns-in_err-parts
returns-in_err-parts g c =
    let words = elf_view c.args.words in
    let h = is_listed words (subst IsList c.list.view_is c.list.invariant) c.in_ok-list.ensures.parts c.read_parts.ensures.only_reads in
    stopped _ c.from_residual-in_err-parts.ensures.1
    (file_stops words _ h (read_as c.as_slice-file.ensures.value c.in_ok-bytes.ensures.read) c.note_bytes.ensures (c.in_err-parts.ensures.refused words refl))

-- the image was written, or not
pub returns : goal.returns
returns g c =
    let words = elf_view c.args.words in
    let h = is_listed words (subst IsList c.list.view_is c.list.invariant) c.in_ok-list.ensures.parts c.read_parts.ensures.only_reads in
    image_ends words _ c.reads_compose.ensures h (read_as c.as_slice-file.ensures.value c.in_ok-bytes.ensures.read) c.note_bytes.ensures (c.in_ok-parts.ensures.parts words refl) c.write_image.ensures
