use Rattle.std.proofs.Common.{◌≡◌, ◌++◌, sym, subst, ◌∙◌, ap, length, arith}
use Rattle.component_list.specs.Lists.{IsValid}
use Rattle.elf_list.specs.ElfParts.{elf_parts, pages_named}
use Rattle.elf_list.proofs.Valid.{Laws, valid_with_pages}
use Rattle.elf_list.proofs.adding.add_elf_pages.Goals as goal

pub of_valid-requires : goal.of_valid-requires
of_valid-requires c =
    let parts = c.args.list.parts in
    let file = c.args.elf.now in
    let mask = c.args.mask in
    let same = c.into_parts-parts.ensures.parts in
    let all : c.push_elf_pages.new.parts.items ≡ parts ++ elf_parts file mask = c.in_ok-push_elf_pages.ensures.pages ∙ ap (λ ps. ps ++ elf_parts file mask) same in
    let named : c.pages_named.result ≡ pages_named parts = c.pages_named.ensures.count ∙ ap pages_named (c.as_slice.ensures.value ∙ same) in
    let laws : Laws = record { kept = c.first_fault_of_a_list.ensures.none; accepted = c.accepted_files.ensures; pages = c.pages_are_those_touched.ensures.each } in
    subst IsValid (sym all)
    (valid_with_pages laws parts file mask c.into_parts-parts.ensures.valid c.pages.ensures.accepted c.ranges.mask.fits c.in_ok-push_elf_pages.ensures.bytes
    (omega arith) (omega (arith, ap length same)))
