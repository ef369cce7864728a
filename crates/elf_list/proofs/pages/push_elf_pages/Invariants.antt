use Rattle.std.proofs.Common.{◌≡◌, ◌<◌, ◌++◌, ℕ, map}
use Rattle.std.specs.List.{range_with_len}
use Rattle.component_list.specs.Ranges.{HoldsBytes}
use Rattle.elf_list.specs.ElfParts.{elf_page, page_content}
use Rattle.elf_list.proofs.pages.push_elf_pages.Given as goal

abbrev pub invariant-pages : goal.invariant-pages
invariant-pages l =
    (l.parts.items ≡ l.fn.parts.items ++ map (elf_page l.elf l.mask) (range_with_len 0 l.k))
    × ((k : ℕ) → k < l.k → HoldsBytes (page_content l.elf k))
