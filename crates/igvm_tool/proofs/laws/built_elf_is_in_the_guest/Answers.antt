use Rattle.std.proofs.Common.{◌≤◌, subst}
use Rattle.component_list.specs.Lists.{IsList}
use Rattle.elf_list.specs.ElfParts.{with_elf_pages}
use Rattle.image_builder.specs.Layout.{layout_size}
use Rattle.igvm_tool.proofs.ElfGuestLemmas.{few_with_pages}
use Rattle.igvm_tool.proofs.laws.built_elf_is_in_the_guest.Goals as goal

pub returns : goal.returns
returns g c = λ words given told told' out out' mask built.
    let list = with_elf_pages built.parts built.file words.mask in
    let size : layout_size list ≤ 536870912 = subst (λ n. n ≤ 536870912) (c.layout_has_its_size.ensures.layout list) built.within in
    let few = few_with_pages built.parts built.file words.mask size in
    let valid : IsList list = c.list_with_elf_pages_is_a_list.ensures built.parts built.file words.mask built.list built.accepted built.bytes mask built.few few in
    λ platform options host plan shares fits.
    record {
      placed = λ k i page byte. c.elf_bytes_are_placed.ensures.placed built.parts built.file words.mask platform options host k i valid size shares page byte;
      alone = λ k i other page byte given.
          c.elf_bytes_are_placed.ensures.alone built.parts built.file words.mask platform options host plan k i other valid size shares page byte fits given;
    }
