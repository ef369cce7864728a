use Rattle.std.proofs.Common.{arith}
use Rattle.std.specs.Prelude.{vec_capacity}
use Rattle.launch_platform.proofs.PagesViews.{context_there, context_past}
use Rattle.launch_platform.proofs.guest_pages.GuestPages.context_at.Goals as goal

pub returns-then-k-len-clause-context : goal.returns-then-k-len-clause-context
returns-then-k-len-clause-context c =
    context_past c.self.inside.entry_slots c.self.inside.context_slots (vec_capacity c.self.inside.entries) (vec_capacity c.self.inside.contexts) c.self.inside.entries.items c.self.inside.contexts.items c.self.inside.region c.args.k _ c.self.invariant c.self.view_is (omega (arith, c.self.inside.contexts.ok.0))

pub returns-clause-context : goal.returns-clause-context
returns-clause-context c =
    context_there c.self.inside.entry_slots c.self.inside.context_slots (vec_capacity c.self.inside.entries) (vec_capacity c.self.inside.contexts) c.self.inside.entries.items c.self.inside.contexts.items c.self.inside.region c.args.k c.index-row.result.now c.page.result.now _ c.self.view_is (omega (arith, c.self.inside.contexts.ok.0)) c.index-row.ensures c.page.ensures.page
