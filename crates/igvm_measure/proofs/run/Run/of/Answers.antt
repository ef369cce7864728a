use Rattle.std.proofs.Common.{◌≡◌, ◌+◌, ◌*◌, ◌%◌, ◌^◌, ◌<◌, ◌≤◌, ◌∙◌, ap, sym, subst, arith, true, None}
use Rattle.igvm_image.specs.Areas.{areas_of}
use Rattle.igvm_image.specs.Headers.{headers_of}
use Rattle.igvm_image.specs.PlacedView.{placed_view}
use Rattle.igvm_measure.specs.declared.page_row.PageRow.{PageRow}
use Rattle.igvm_measure.specs.Runs.{pages_from}
use Rattle.igvm_measure.proofs.RunLemmas.{header_run, row_fits, row_aligned, row_data}
use Rattle.igvm_measure.proofs.run.Run.of.Goals as goal

pub returns-clause-left : goal.returns-clause-left
returns-clause-left c =
    ap (λ (row : PageRow). pages_from 0 row c.args.placed.content) c.row_of-row.ensures
    ∙ header_run c.args.kind c.args.options (areas_of (headers_of c.args.view.now)) (placed_view c.args.placed)

pub returns-clause-run : goal.returns-clause-run
returns-clause-run c =
    let areas = areas_of (headers_of c.args.view.now) in
    let header = c.args.placed.header in
    record {
      within = omega arith;
      fits = subst (λ (row : PageRow). row.gpa + 4096 * row.count < 2 ^ 64 + 4096) (sym c.row_of-row.ensures)
          (row_fits c.args.kind c.args.options areas header c.requires.fits c.numbers_fit.ensures);
      aligned = subst (λ (row : PageRow). row.kind ≡ None → row.gpa % 4096 ≡ 0) (sym c.row_of-row.ensures)
          (row_aligned c.args.kind c.args.options areas header c.requires.fits);
      pages = subst (λ (row : PageRow). row.with_bytes ≡ true → row.count ≤ c.args.placed.content.pages) (sym c.row_of-row.ensures)
          (row_data c.args.kind c.args.options areas header c.args.placed.content.pages c.requires.pages);
    }
