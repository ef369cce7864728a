use Rattle.std.proofs.Common.{◌∙◌, sym}
use Rattle.igvm_image.specs.Headers.{placed_headers}
use Rattle.igvm_image.specs.PlacedView.{placed_view}
use Rattle.sev_chain.specs.SevBytes.{sev_bytes, sev_digest}
use Rattle.sev_chain.proofs.HashedHeaders.{hashing_none, hashing_more, hashing_all}
use Rattle.sev_chain.proofs.hashing.sev_digest.Goals as goal

pub headers-init : goal.headers-init
headers-init c =
    hashing_none c.args.platform.kind c.args.platform.mask c.args.view.now _ _
    (c.into_iter-placed-iterator.ensures.into_iter_gives ∙ c.headers-placed-items.ensures.placed) c.new-hasher.ensures

pub headers-preserved-then-applies : goal.headers-preserved-then-applies
headers-preserved-then-applies c =
    hashing_more c.args.platform.kind c.args.platform.mask (placed_headers c.args.view.now) _ _ (placed_view c.in-Some.placed) c.headers.hasher c.add_header.new.hasher
    c.headers.invariant c.in-Some.ensures.steps (sym c.applies.ensures ∙ c.if-applies.true) c.add_header.ensures

pub returns : goal.returns
unfolding sev_digest
returns c =
    c.of_bytes.ensures
    ∙ c.finalize.ensures (sev_bytes c.args.view.now c.args.platform)
    (hashing_all c.args.platform.kind c.args.platform.mask (placed_headers c.args.view.now) _ c.headers.hasher c.headers.invariant c.in-None.ensures.steps.0)
