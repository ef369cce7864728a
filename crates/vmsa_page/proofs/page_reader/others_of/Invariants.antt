use Rattle.std.proofs.Common.{◌≡◌, ◌++◌, drop}
use Rattle.vmsa_page.specs.Pages.{others_from}
use Rattle.vmsa_page.proofs.page_reader.others_of.Given as goal

abbrev pub invariant-steps : goal.invariant-steps
invariant-steps l = l.others.items ++ others_from l.at (drop l.at l.page) ≡ others_from 0 l.page
