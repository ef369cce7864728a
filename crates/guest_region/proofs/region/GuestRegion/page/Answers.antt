-- The part of the block that is lent is the slot's page.
use Rattle.std.proofs.Common.{Some, sym, ap, ◌∙◌, length}
use Rattle.guest_region.proofs.Regions.{page_within, page_at, length-part}
use Rattle.guest_region.proofs.region.GuestRegion.page.Goals as goal

pub part-requires : goal.part-requires
part-requires c = page_within _ _ _ _ c.self.view_is c.self.invariant.bytes c.requires

pub returns-clause-page : goal.returns-clause-page
returns-clause-page c = page_at _ _ _ _ c.self.view_is c.requires ∙ ap Some (sym c.part.ensures)

pub returns-clause-bytes : goal.returns-clause-bytes
returns-clause-bytes c =
    ap length c.part.ensures
    ∙ length-part _ _ _ (page_within _ _ _ _ c.self.view_is c.self.invariant.bytes c.requires)
