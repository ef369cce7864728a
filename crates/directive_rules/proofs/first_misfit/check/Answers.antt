-- the headers that are left, one after the other
use Rattle.std.proofs.Common.{◌∙◌, sym, subst}
use Rattle.std.specs.List.{AllByRecursion}
use Rattle.igvm_image.specs.Areas.{areas_of}
use Rattle.igvm_image.specs.PagesFit.{PagesFit}
use Rattle.igvm_image.specs.Headers.{PlacedHeader, headers_of, placed_headers}
use Rattle.igvm_image.specs.PlacedView.{placed_view}
use Rattle.directive_rules.specs.FirstMisfit.{setting_of}
use Rattle.directive_rules.proofs.HeaderWalk.{walk_none, next_fits, walk_more, walk_past, walk_refused, walk_ends, counts_at_end}
use Rattle.directive_rules.proofs.first_misfit.check.Goals as goal

pub headers-init : goal.headers-init
headers-init c =
    let file = c.args.view.now in
    let all = c.into_iter-placed-iterator.ensures.into_iter_gives ∙ c.headers-placed-items.ensures.placed in
    let fits = subst (AllByRecursion (λ (p : PlacedHeader). PagesFit (areas_of (headers_of file)) p.header)) c.headers-placed-items.ensures.placed c.headers-placed-items.ensures.fit in
    walk_none (setting_of file c.args.platform c.args.plan.now c.args.host.now) c.args.platform.mask c.new-earlier.result (placed_headers file) _ (sym all) (c.new-earlier.ensures _) fits

pub judge-requires : goal.judge-requires
judge-requires c =
    next_fits (setting_of c.args.view.now c.args.platform c.args.plan.now c.args.host.now) c.args.platform.mask c.headers.earlier (placed_headers c.args.view.now) _ _ (placed_view c.in-Some.placed) c.headers.invariant c.in-Some.ensures.steps

pub returns-in-Err-clause-refused : goal.returns-in-Err-clause-refused
returns-in-Err-clause-refused c =
    walk_refused (setting_of c.args.view.now c.args.platform c.args.plan.now c.args.host.now) c.args.platform.mask c.headers.earlier (placed_headers c.args.view.now) _ _ (placed_view c.in-Some.placed) c.in-Err.refusal c.headers.invariant c.in-Some.ensures.steps
    (sym c.applies.ensures ∙ c.if-applies.true) c.in-Err.ensures.refused

pub headers-preserved-in_default : goal.headers-preserved-in_default
headers-preserved-in_default c =
    walk_more (setting_of c.args.view.now c.args.platform c.args.plan.now c.args.host.now) c.args.platform.mask c.headers.earlier c.judge.new.earlier (placed_headers c.args.view.now) _ _ (placed_view c.in-Some.placed) c.headers.invariant c.in-Some.ensures.steps
    (sym c.applies.ensures ∙ c.if-applies.true) c.in_default.ensures.fits

pub headers-preserved : goal.headers-preserved
headers-preserved c =
    walk_past (setting_of c.args.view.now c.args.platform c.args.plan.now c.args.host.now) c.args.platform.mask c.headers.earlier (placed_headers c.args.view.now) _ _ (placed_view c.in-Some.placed) c.headers.invariant c.in-Some.ensures.steps
    (sym c.applies.ensures ∙ c.if-applies.false)

pub into_checked-requires : goal.into_checked-requires
into_checked-requires c = c.headers.invariant.summary.small

pub returns-clause-fits : goal.returns-clause-fits
returns-clause-fits c =
    (walk_ends (setting_of c.args.view.now c.args.platform c.args.plan.now c.args.host.now) c.args.platform.mask c.headers.earlier (placed_headers c.args.view.now) _ c.headers.invariant c.in-None.ensures.steps.0).none

pub returns-clause-counts : goal.returns-clause-counts
returns-clause-counts c =
    let s = setting_of c.args.view.now c.args.platform c.args.plan.now c.args.host.now in
    let all = placed_headers c.args.view.now in
    let e = c.into_checked.ensures in
    counts_at_end s c.args.platform.mask c.headers.earlier all c.into_checked.result (walk_ends s c.args.platform.mask c.headers.earlier all _ c.headers.invariant c.in-None.ensures.steps.0)
    e.pages e.contexts e.area_bytes e.id

pub returns-clause-within : goal.returns-clause-within
returns-clause-within c = c.into_checked.ensures.within
