use Rattle.std.proofs.Common.{◌≡◌, ◌++◌}
use Rattle.made_list.specs.MadeList.{made_pages}
use Rattle.made_list.proofs.pages.push_pages.Given as goal

abbrev pub invariant-pages : goal.invariant-pages
invariant-pages l = l.parts.items ≡ l.fn.parts.items ++ made_pages l.k
