use Rattle.std.proofs.Common.{refl, arith}
use Rattle.std.specs.Prelude.{vec_capacity}
use Rattle.launch_platform.proofs.PagesViews.{kept_entries, kept_change}
use Rattle.launch_platform.proofs.guest_pages.GuestPages.extend.Goals as goal

pub index_mut-requires : goal.index_mut-requires
index_mut-requires c =
    let size = kept_entries c.self.inside.entry_slots c.self.inside.context_slots (vec_capacity c.self.inside.entries) (vec_capacity c.self.inside.contexts) c.self.inside.entries.items c.self.inside.contexts.items c.self.inside.region _ c.self.invariant c.self.view_is in
    omega (arith, c.self.inside.entries.ok.0)

pub returns : goal.returns
returns c =
    kept_change c.self.inside.entry_slots c.self.inside.context_slots (vec_capacity c.self.inside.entries) (vec_capacity c.self.inside.contexts) c.self.inside.entries.items c.self.inside.contexts.items c.self.inside.region c.args.slot c.index_mut.result.now _ _ _ c.self.invariant c.self.view_is c.requires c.index_mut.ensures.value (λ _. refl)
