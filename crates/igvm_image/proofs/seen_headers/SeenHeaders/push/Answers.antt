use Rattle.std.proofs.Common.{sym, ◌∙◌, ap, subst}
use Rattle.igvm_image.specs.HeaderRules.{Seen, MayFollow, seen_after}
use Rattle.igvm_image.specs.contracts.seen_headers.SeenHeaders.{the_view}
use Rattle.igvm_image.proofs.RulesLemmas.{seen_of-push}
use Rattle.igvm_image.proofs.RoomLemmas.{has_room-push, has_room-platform, has_room-area}
use Rattle.igvm_image.proofs.seen_headers.SeenHeaders.push.Goals as goal

pub declare_platform-requires : goal.declare_platform-requires
declare_platform-requires c =
    has_room-platform (the_view c.self.inside) c.args.header.now c.self.invariant
    (subst (λ (s : Seen). MayFollow s c.args.header.now) (sym c.self.view_is) c.requires)

pub declare_area-requires : goal.declare_area-requires
declare_area-requires c =
    has_room-area (the_view c.self.inside) c.args.header.now
    (subst (λ (s : Seen). MayFollow s c.args.header.now) (sym c.self.view_is) c.requires)

pub invariant_of-self : goal.invariant_of-self
invariant_of-self c =
    rw (c.declare_platform.ensures, c.placed_pages-pages.ensures.value, ← c.self.view_is)
    (has_room-push (the_view c.self.inside) c.args.header.now c.self.invariant
    (subst (λ (s : Seen). MayFollow s c.args.header.now) (sym c.self.view_is) c.requires))

pub returns-clause-seen : goal.returns-clause-seen
returns-clause-seen c = λ before same.
    rw (c.max-self-inside.ensures, c.class.ensures.value, c.declare_platform.ensures, c.declare_area.ensures, c.placed_pages-pages.ensures.value, ← c.self.view_is)
    (ap (λ s. seen_after s c.args.header.now) (c.self.view_is ∙ same) ∙ sym (seen_of-push before c.args.header.now))
