use Rattle.std.proofs.Common.{sym, ap, subst, ◌∙◌}
use Rattle.igvm_image.specs.PlacedView.{placed_view}
use Rattle.launch_platform.specs.Machine.{State}
use Rattle.image_loader.specs.Sources.{load_in}
use Rattle.image_loader.specs.PlacedPages.{header_pages, header_contexts}
use Rattle.image_loader.specs.LoadCommands.{context_commands}
use Rattle.image_loader.specs.Fitting.{ContextsFit, page_in}
use Rattle.image_loader.proofs.Carried.{stopped_before, stopped_after, on_err}
use Rattle.image_loader.proofs.Done.{pages_done}
use Rattle.image_loader.proofs.TaggedPages.{did_header}
use Rattle.image_loader.proofs.headers.put.Goals as goal

pub returns-in_err-put_pages-clause-stopped : goal.returns-in_err-put_pages-clause-stopped
returns-in_err-put_pages-clause-stopped g c =
    let contexts = context_commands (header_contexts (placed_view c.args.placed.now)) in
    on_err _ (stopped_before g.C.Carrier _ contexts _ _ c.in_err-put_pages.ensures.stopped)

pub put_context-requires-clause-loading : goal.put_context-requires-clause-loading
put_context-requires-clause-loading g c =
    let pages = header_pages (load_in c.args.source.now) (page_in c.args.areas.now) (placed_view c.args.placed.now) in
    let state = c.in_ok-put_pages.ensures.done.state ∙ pages_done (g.C.Carrier.state c.args.machine.now) pages in
    ap (λ (s : State). s.phase) state ∙ c.requires.loading

pub put_context-requires-clause-kind : goal.put_context-requires-clause-kind
put_context-requires-clause-kind g c =
    let pages = header_pages (load_in c.args.source.now) (page_in c.args.areas.now) (placed_view c.args.placed.now) in
    let state = c.in_ok-put_pages.ensures.done.state ∙ pages_done (g.C.Carrier.state c.args.machine.now) pages in
    ap (λ (s : State). s.kind) state ∙ c.requires.kind

pub put_context-requires-clause-fits : goal.put_context-requires-clause-fits
put_context-requires-clause-fits g c =
    let load = load_in c.args.source.now in
    let pages = header_pages load (page_in c.args.areas.now) (placed_view c.args.placed.now) in
    let state = c.in_ok-put_pages.ensures.done.state ∙ pages_done (g.C.Carrier.state c.args.machine.now) pages in
    subst (λ (s : State). ContextsFit load s.contexts c.args.placed.now.header) (sym state) c.requires.fits.context

pub returns-in_err-put_context-clause-stopped : goal.returns-in_err-put_context-clause-stopped
returns-in_err-put_context-clause-stopped g c =
    on_err _
    (stopped_after g.C.Carrier _ _ _ 0 _ _ _ c.in_ok-put_pages.ensures.done c.in_err-put_context.ensures.stopped)

pub returns-clause-done : goal.returns-clause-done
returns-clause-done g c =
    let p = placed_view c.args.placed.now in
    let pages = header_pages (load_in c.args.source.now) (page_in c.args.areas.now) p in
    did_header g.C.Carrier _ pages (header_contexts p) _ _ _
    c.in_ok-put_pages.ensures.done c.in_ok-put_context.ensures.done
