-- The pages of an image that are left of a walk over its headers.
use Rattle.std.specs.Prelude.{List, ◌++◌}
use Rattle.std.specs.List.{AllByRecursion}
use Rattle.igvm_image.specs.Areas.{areas_of}
use Rattle.igvm_image.specs.PagesFit.{PagesFit}
use Rattle.igvm_image.specs.Headers.{headers_of}
use Rattle.igvm_measure.specs.declared.walk.Walk.{Walk}
use Rattle.igvm_measure.specs.Measured.{Measured, counted}
use Rattle.igvm_measure.specs.Runs.{HasItsPages, IsRunIfAny, header_measured, option_left}

-- the pages of the header that the walk is at, and those of the headers behind it
unfoldable pub walk_left : Walk → List Measured
walk_left w =
    option_left w.run
    ++ counted (header_measured w.kind w.options (areas_of (headers_of w.view.now))) w.mask w.headers

-- what the headers that are left of a walk keep
pub record IsWalk (w : Walk) : Type 0 where
  pub run : IsRunIfAny w.run
  pub fit : AllByRecursion (λ p. PagesFit (areas_of (headers_of w.view.now)) p.header) w.headers
  pub pages : AllByRecursion HasItsPages w.headers
