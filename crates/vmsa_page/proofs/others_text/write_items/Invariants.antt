use Rattle.std.proofs.Common.{drop}
use Rattle.vmsa_page.proofs.WrittenTokens.{Leads, items_left}
use Rattle.vmsa_page.proofs.others_text.write_items.Given as goal

abbrev pub invariant-steps : goal.invariant-steps
invariant-steps l = Leads l.fn.out l.out (items_left (drop l.other-index l.others)) (items_left l.others)
