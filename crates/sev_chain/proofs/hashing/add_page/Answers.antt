use Rattle.std.proofs.Common.{subst}
use Rattle.sha2.specs.Hashers.{Holds256}
use Rattle.sev_chain.proofs.PageBytes.{padded_behind}
use Rattle.sev_chain.proofs.hashing.add_page.Goals as goal

pub returns : goal.returns
returns c = λ m held.
    subst (Holds256 c.add_bytes-2.new.hasher)
    (padded_behind m c.lent-lent.result.now c.zeros.result.now c.args.page c.lent-lent.ensures.page c.zeros.ensures)
    (c.add_bytes-2.ensures _ (c.add_bytes.ensures m held))
