use Rattle.std.proofs.Common.{◌≡◌, ◌++◌}
use Rattle.component_list.specs.Expansion.{page_parts, all_zero}
use Rattle.component_list.proofs.pages.push_zeros.Given as goal

abbrev pub invariant-pages : goal.invariant-pages
invariant-pages l = l.parts.items ≡ l.fn.parts.items ++ page_parts l.run all_zero l.k
