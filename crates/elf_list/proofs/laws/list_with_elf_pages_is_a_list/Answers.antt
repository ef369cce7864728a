use Rattle.elf_list.proofs.Valid.{Laws, has_bytes, valid_with_pages}
use Rattle.elf_list.proofs.laws.list_with_elf_pages_is_a_list.Goals as goal

pub returns : goal.returns
returns c = λ list file mask is fine bytes small named count.
    let laws : Laws = record { kept = c.first_fault_of_a_list.ensures.none; accepted = c.accepted_files.ensures; pages = c.pages_are_those_touched.ensures.each } in
    record { known = is.known; valid = valid_with_pages laws list.parts file mask is.valid fine small (has_bytes file bytes) named count }
