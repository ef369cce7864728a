use Rattle.std.proofs.Common.{◌≡◌, drop}
use Rattle.serde_json.specs.View.{items_view}
use Rattle.vmsa_page.specs.Sources.{others_in}
use Rattle.vmsa_page.proofs.OtherEntries.{with_others}
use Rattle.vmsa_page.proofs.others_json.others_in.Given as goal

abbrev pub invariant-steps : goal.invariant-steps
invariant-steps l = with_others l.others.items (others_in l.low (items_view (drop l.entry-index l.entries))) ≡ others_in 0 (items_view l.entries)
