use Rattle.std.proofs.Common.{ap, ◌++◌, ◌∙◌, drop, replicate}
use Rattle.tdx_chain.proofs.Fronts.{front_at_zero}
use Rattle.tdx_chain.proofs.front.front_of.Goals as goal

-- the address is first 0
pub returns : goal.returns
returns c = c.set_address.ensures c.args.name.now 0 c.told-name
    (ap (λ name. name ++ drop 16 (replicate 128 0)) c.copy_from_slice.ensures.after ∙ front_at_zero c.args.name.now)
