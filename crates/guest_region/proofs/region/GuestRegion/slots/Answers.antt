-- The region has as many pages as slots, and each is whole.
use Rattle.guest_region.proofs.Regions.{length-pages, pages_whole}
use Rattle.guest_region.proofs.region.GuestRegion.slots.Goals as goal

pub returns-clause-count : goal.returns-clause-count
returns-clause-count c = length-pages _ _ _ c.self.view_is

pub returns-clause-pages : goal.returns-clause-pages
returns-clause-pages c = pages_whole _ _ _ c.self.view_is c.self.invariant.bytes
