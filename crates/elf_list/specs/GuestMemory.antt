-- The bytes of guest memory that a load places.
use Rattle.std.specs.Prelude.{ℕ, ◌≡◌, ◌+◌, ◌-◌, ◌<◌, ◌≤◌, Some, slice_index}
use Rattle.std.specs.List.{slice_get}
use Rattle.image_loader.specs.Loads.{Load}
use Rattle.image_loader.specs.PlacedPages.{PlacedPage, placed}

-- some page that is placed has this byte at an address
pub record IsGuestByte (load : Load) (x byte : ℕ) : Type 0 where
  pub n : ℕ
  pub page : PlacedPage
  pub there : slice_get (placed load) n ≡ Some page
  pub from : page.gpa ≤ x
  pub to : x < page.gpa + 4096
  pub value : slice_index page.page (x - page.gpa) ≡ byte
