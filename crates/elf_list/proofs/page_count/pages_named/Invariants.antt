use Rattle.elf_list.proofs.Counting.{Counted}
use Rattle.elf_list.proofs.page_count.pages_named.Given as goal

abbrev pub invariant-parts : goal.invariant-parts
invariant-parts l = Counted l.parts l.seen l.named l.component-index
