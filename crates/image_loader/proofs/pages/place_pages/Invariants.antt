use Rattle.igvm_image.specs.PlacedView.{placed_view}
use Rattle.image_loader.specs.Sources.{load_in}
use Rattle.image_loader.specs.PlacedPages.{page_at}
use Rattle.image_loader.specs.Fitting.{page_in}
use Rattle.image_loader.specs.Carrying.{Placing}
use Rattle.image_loader.proofs.PlacedRow.{row}
use Rattle.image_loader.proofs.pages.place_pages.Given as goal

-- the first k pages are placed
abbrev pub invariant-pages : goal.invariant-pages
invariant-pages g l =
    let page = page_at (load_in l.source) (page_in l.areas) (placed_view l.placed) l.fn.tag in
    Placing g.C.Carrier (row page l.count) l.k l.fn.machine l.machine
