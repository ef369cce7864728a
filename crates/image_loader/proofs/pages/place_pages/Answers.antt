use Rattle.std.proofs.Common.{◌≡◌, ◌+◌, ◌*◌, ℕ, List, sym, ap, subst, ◌∙◌, arith}
use Rattle.igvm_image.specs.PlacedView.{placed_view}
use Rattle.launch_platform.specs.Machine.{is_placed}
use Rattle.image_loader.specs.Sources.{load_in}
use Rattle.image_loader.specs.PlacedPages.{PlacedPage, page_at}
use Rattle.image_loader.specs.Fitting.{page_in}
use Rattle.image_loader.proofs.Carried.{on_err}
use Rattle.image_loader.proofs.PageTags.{extended_kind, extended_normal, tag_fits}
use Rattle.image_loader.proofs.PlacedRow.{row, placing_phase, placing_kind, row_new, row_more, row_stopped, row_done, page_made}
use Rattle.image_loader.proofs.pages.place_pages.Goals as goal

pub place_page-requires-clause-loading : goal.place_page-requires-clause-loading
place_page-requires-clause-loading g c =
    let page : ℕ → PlacedPage =
    page_at (load_in c.args.source.now) (page_in c.args.areas.now) (placed_view c.args.placed.now) c.args.tag in
    placing_phase g.C.Carrier (row page c.args.count) c.pages.k _ _ c.pages.invariant ∙ c.requires.loading

pub place_page-requires-clause-new : goal.place_page-requires-clause-new
place_page-requires-clause-new g c =
    let page : ℕ → PlacedPage =
    page_at (load_in c.args.source.now) (page_in c.args.areas.now) (placed_view c.args.placed.now) c.args.tag in
    ap (λ gpa. is_placed (gpa + 4096 * c.pages.k) (g.C.Carrier.state c.pages.machine).entries) c.gpa-gpa.ensures
    ∙ row_new g.C.Carrier page c.args.count c.pages.k _ _ c.pages.invariant c.pages-test.true

pub place_page-requires-clause-fits : goal.place_page-requires-clause-fits
place_page-requires-clause-fits g c =
    let load = load_in c.args.source.now in
    let area_page : ℕ → ℕ → List ℕ = page_in c.args.areas.now in
    let p = placed_view c.args.placed.now in
    let pages = row (page_at load area_page p c.args.tag) c.args.count in
    let kind = placing_kind g.C.Carrier pages c.pages.k _ _ c.pages.invariant ∙ c.requires.kind in
    tag_fits load area_page p c.args.tag c.pages.k _ _ _ kind c.header_page-page.ensures c.added_by-added.ensures
    c.requires.tag c.requires.own

pub place_page-requires-clause-kinds : goal.place_page-requires-clause-kinds
place_page-requires-clause-kinds g c =
    let page : ℕ → PlacedPage =
    page_at (load_in c.args.source.now) (page_in c.args.areas.now) (placed_view c.args.placed.now) c.args.tag in
    subst g.C.Carrier.kinds
    (sym (placing_kind g.C.Carrier (row page c.args.count) c.pages.k _ _ c.pages.invariant ∙ c.requires.kind))
    c.requires.kinds

pub place_page-requires-clause-kind : goal.place_page-requires-clause-kind
place_page-requires-clause-kind g c = λ is.
    let page : ℕ → PlacedPage =
    page_at (load_in c.args.source.now) (page_in c.args.areas.now) (placed_view c.args.placed.now) c.args.tag in
    placing_kind g.C.Carrier (row page c.args.count) c.pages.k _ _ c.pages.invariant
    ∙ c.requires.kind
    ∙ extended_kind c.args.source.now.platform.kind c.args.tag (sym c.is_extended-extended.ensures ∙ is)

pub place_page-requires-clause-normal : goal.place_page-requires-clause-normal
place_page-requires-clause-normal g c = λ is.
    c.added_by-added.ensures
    ∙ extended_normal c.args.source.now.platform.kind c.args.tag (sym c.is_extended-extended.ensures ∙ is)

pub returns-in_err-place_page-clause-stopped : goal.returns-in_err-place_page-clause-stopped
returns-in_err-place_page-clause-stopped g c =
    let load = load_in c.args.source.now in
    let area_page : ℕ → ℕ → List ℕ = page_in c.args.areas.now in
    let p = placed_view c.args.placed.now in
    on_err c.from_residual.result
    (row_stopped g.C.Carrier (page_at load area_page p c.args.tag) c.args.count c.pages.k _ _ _ _
    c.pages.invariant c.pages-test.true
    (page_made load area_page p c.args.tag c.pages.k _ _ _ _ c.gpa-gpa.ensures c.header_page-page.ensures
    c.added_by-added.ensures c.is_extended-extended.ensures)
    c.in_err-place_page.ensures.stopped)

pub pages-preserved : goal.pages-preserved
pages-preserved g c =
    let load = load_in c.args.source.now in
    let area_page : ℕ → ℕ → List ℕ = page_in c.args.areas.now in
    let p = placed_view c.args.placed.now in
    row_more g.C.Carrier (page_at load area_page p c.args.tag) c.args.count c.pages.k _ _ _ _
    c.pages.invariant c.pages-test.true
    (page_made load area_page p c.args.tag c.pages.k _ _ _ _ c.gpa-gpa.ensures c.header_page-page.ensures
    c.added_by-added.ensures c.is_extended-extended.ensures)
    c.in_ok-place_page.ensures.done

pub returns-clause-done : goal.returns-clause-done
returns-clause-done g c =
    let all : c.pages.k ≡ c.args.count = omega (arith, c.pages.auto.k-end, c.pages-test.false) in
    let page : ℕ → PlacedPage =
    page_at (load_in c.args.source.now) (page_in c.args.areas.now) (placed_view c.args.placed.now) c.args.tag in
    row_done g.C.Carrier page c.args.count c.pages.k _ _ c.pages.invariant all
