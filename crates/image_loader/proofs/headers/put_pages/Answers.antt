use Rattle.std.proofs.Common.{◌≤◌, ℕ, List, length, sym, subst}
use Rattle.std.proofs.lemmas.Result.{on_ok_weaker, on_err_weaker}
use Rattle.igvm_image.specs.PlacedView.{placed_view}
use Rattle.image_loader.specs.Sources.{load_in}
use Rattle.image_loader.specs.PlacedPages.{PlacedPage, page_at, header_pages}
use Rattle.image_loader.specs.LoadCommands.{Stopped, pages_commands}
use Rattle.image_loader.specs.Fitting.{AreFresh, page_in}
use Rattle.image_loader.proofs.TaggedPages.{some_pages, length_row, did_row, did_no_pages}
use Rattle.image_loader.proofs.headers.put_pages.Goals as goal

pub place_pages-requires-clause-spare : goal.place_pages-requires-clause-spare
place_pages-requires-clause-spare g c =
    let load = load_in c.args.source.now in
    let area_page : ℕ → ℕ → List ℕ = page_in c.args.areas.now in
    let p = placed_view c.args.placed.now in
    let count = c.placed_pages-count in
    let same = some_pages load area_page p c.in-Some.tag count.result (sym c.in-Some.ensures) count.ensures.value in
    subst (λ n. n ≤ (g.C.Carrier.spares c.args.machine.now).pages)
    (sym (length_row (page_at load area_page p c.in-Some.tag) count.result (header_pages load area_page p) same))
    c.requires.spare

pub place_pages-requires-clause-fresh : goal.place_pages-requires-clause-fresh
place_pages-requires-clause-fresh g c =
    let load = load_in c.args.source.now in
    let area_page : ℕ → ℕ → List ℕ = page_in c.args.areas.now in
    let p = placed_view c.args.placed.now in
    let count = c.placed_pages-count in
    let same = some_pages load area_page p c.in-Some.tag count.result (sym c.in-Some.ensures) count.ensures.value in
    subst (AreFresh (g.C.Carrier.state c.args.machine.now).entries) (sym same) c.requires.fresh

pub returns-in-Some-clause-done : goal.returns-in-Some-clause-done
returns-in-Some-clause-done g c =
    let load = load_in c.args.source.now in
    let area_page : ℕ → ℕ → List ℕ = page_in c.args.areas.now in
    let p = placed_view c.args.placed.now in
    let count = c.placed_pages-count in
    let page : ℕ → PlacedPage = page_at load area_page p c.in-Some.tag in
    let same = some_pages load area_page p c.in-Some.tag count.result (sym c.in-Some.ensures) count.ensures.value in
    on_ok_weaker c.place_pages.result
    (did_row g.C.Carrier _ page count.result (header_pages load area_page p) _ _ same)
    c.place_pages.ensures.done

pub returns-in-Some-clause-stopped : goal.returns-in-Some-clause-stopped
returns-in-Some-clause-stopped g c =
    let load = load_in c.args.source.now in
    let area_page : ℕ → ℕ → List ℕ = page_in c.args.areas.now in
    let p = placed_view c.args.placed.now in
    let count = c.placed_pages-count in
    let same = some_pages load area_page p c.in-Some.tag count.result (sym c.in-Some.ensures) count.ensures.value in
    let old = c.args.machine.now in
    let slot = length (g.C.Carrier.state old).entries in
    on_err_weaker c.place_pages.result
    (subst (λ qs. Stopped g.C.Carrier (pages_commands slot qs) old c.place_pages.new.machine) same)
    c.place_pages.ensures.stopped

pub returns-in-None-clause-done : goal.returns-in-None-clause-done
returns-in-None-clause-done g c =
    let p = placed_view c.args.placed.now in
    did_no_pages g.C.Carrier _ (load_in c.args.source.now) (page_in c.args.areas.now) p _ (sym c.in-None.ensures)
