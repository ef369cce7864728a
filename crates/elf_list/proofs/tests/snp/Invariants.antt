use Rattle.std.proofs.Common.{◌≡◌}
use Rattle.std.specs.List.{AllByRecursion}
use Rattle.igvm_headers.specs.HeaderFacts.{data_offset}
use Rattle.elf_list.proofs.tests.snp.Given as goal

abbrev pub invariant-loop-k : goal.invariant-loop-k
invariant-loop-k l = AllByRecursion (λ c. data_offset c.header ≡ 0) l.parts.items
