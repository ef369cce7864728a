-- the answers of what is kept are those of the headers before
use Rattle.std.proofs.Common.{sym, refl}
use Rattle.igvm_image.specs.Areas.{areas_of}
use Rattle.igvm_image.specs.Headers.{headers_of}
use Rattle.igvm_image.specs.PlacedView.{placed_view}
use Rattle.directive_rules.specs.MisfitRows.{setting}
use Rattle.directive_rules.proofs.SummaryLemmas.{row_is, room_for, taken}
use Rattle.directive_rules.proofs.first_misfit.judge.Goals as goal

pub returns-in-Some-clause-refused : goal.returns-in-Some-clause-refused
returns-in-Some-clause-refused c = λ before summary.
    (row_is (setting c.args.kind c.args.plan.now c.args.host.now (areas_of (headers_of c.args.view.now))) c.args.earlier.now before c.args.placed.now.header _ c.requires c.in-Some.ensures summary, refl)

pub take-requires : goal.take-requires
take-requires c =
    let e = c.args.earlier.now in
    room_for (setting c.args.kind c.args.plan.now c.args.host.now (areas_of (headers_of c.args.view.now))) e c.args.placed.now.header
    (record { bytes = e.few_bytes; pages = e.few_pages }) (sym c.in_default.ensures)

pub returns-clause-fits : goal.returns-clause-fits
returns-clause-fits c =
    taken (setting c.args.kind c.args.plan.now c.args.host.now (areas_of (headers_of c.args.view.now))) c.args.earlier.now _ (placed_view c.args.placed.now)
    c.requires c.in_default.ensures c.in-Ok.ensures
