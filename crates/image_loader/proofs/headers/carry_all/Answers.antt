use Rattle.std.proofs.Common.{◌∙◌, sym, refl}
use Rattle.directive_rules.specs.FirstMisfit.{headers_for}
use Rattle.igvm_image.specs.PlacedView.{placed_view}
use Rattle.image_loader.specs.Sources.{load_in}
use Rattle.image_loader.proofs.Carried.{on_err}
use Rattle.image_loader.proofs.Carries.{at_header, carries_none, carries_past, carries_more, carries_stopped, carries_all}
use Rattle.image_loader.proofs.headers.carry_all.Goals as goal

pub headers-init : goal.headers-init
headers-init g c =
    carries_none g.C.Carrier (load_in c.args.source.now) _ c.args.areas c.requires.fits c.args.machine.now
    (sym (c.into_iter-placed-iterator.ensures.into_iter_gives ∙ c.headers-placed-items.ensures.placed))
    c.requires.undeclared c.requires.room c.requires.begun c.requires.pages c.requires.contexts

pub put-requires : goal.put-requires
put-requires g c =
    let at = at_header c.next_is_ready.ensures.fits c.next_is_ready.ensures.filled g.C.Carrier (load_in c.args.source.now)
    _ _ (placed_view c.in-Some.placed) c.headers.areas c.args.machine.now c.headers.machine c.headers.invariant
    c.in-Some.ensures.steps c.fixed-fixed.ensures.accepted (sym c.applies.ensures ∙ c.if-applies.true)
    (c.pages_fit.ensures.numbers _ c.fixed-fixed.ensures.bytes) in
    record {
      loading = c.headers.invariant.loading;
      kind = c.headers.invariant.kind;
      kinds = c.requires.kinds;
      fits = at.fits;
      pages = at.room.pages;
      contexts = at.room.contexts;
    }

pub returns-in_err-put-clause-stopped : goal.returns-in_err-put-clause-stopped
returns-in_err-put-clause-stopped g c =
    let at = at_header c.next_is_ready.ensures.fits c.next_is_ready.ensures.filled g.C.Carrier (load_in c.args.source.now)
    _ _ (placed_view c.in-Some.placed) c.headers.areas c.args.machine.now c.headers.machine c.headers.invariant
    c.in-Some.ensures.steps c.fixed-fixed.ensures.accepted (sym c.applies.ensures ∙ c.if-applies.true)
    (c.pages_fit.ensures.numbers _ c.fixed-fixed.ensures.bytes) in
    on_err _
    (carries_stopped g.C.Carrier (load_in c.args.source.now) _ _ (placed_view c.in-Some.placed) c.headers.areas
    c.args.machine.now c.headers.machine c.put.new.machine c.headers.invariant c.in-Some.ensures.steps
    (sym c.applies.ensures ∙ c.if-applies.true)
    at.filled c.in_err-put.ensures.stopped)

pub same-areas : goal.same-areas
same-areas g c = refl

pub tell-requires : goal.tell-requires
tell-requires g c =
    let at = at_header c.next_is_ready.ensures.fits c.next_is_ready.ensures.filled g.C.Carrier (load_in c.args.source.now)
    _ _ (placed_view c.in-Some.placed) c.headers.areas c.args.machine.now c.headers.machine c.headers.invariant
    c.in-Some.ensures.steps c.fixed-fixed.ensures.accepted (sym c.applies.ensures ∙ c.if-applies.true)
    (c.pages_fit.ensures.numbers _ c.fixed-fixed.ensures.bytes) in
    at.fits.areas

pub headers-preserved-then-applies : goal.headers-preserved-then-applies
headers-preserved-then-applies g c =
    let at = at_header c.next_is_ready.ensures.fits c.next_is_ready.ensures.filled g.C.Carrier (load_in c.args.source.now)
    _ _ (placed_view c.in-Some.placed) c.headers.areas c.args.machine.now c.headers.machine c.headers.invariant
    c.in-Some.ensures.steps c.fixed-fixed.ensures.accepted (sym c.applies.ensures ∙ c.if-applies.true)
    (c.pages_fit.ensures.numbers _ c.fixed-fixed.ensures.bytes) in
    let before = headers_for c.args.source.now.platform.mask c.headers.invariant.done in
    let p = placed_view c.in-Some.placed in
    let s = g.C.Carrier.state c.headers.machine in
    carries_more g.C.Carrier (load_in c.args.source.now) _ _ p c.headers.areas c.tell.new.areas c.args.machine.now
    c.headers.machine c.put.new.machine c.headers.invariant c.in-Some.ensures.steps
    (sym c.applies.ensures ∙ c.if-applies.true) at.filled
    (c.next_is_done.ensures.areas (load_in c.args.source.now) before p c.headers.areas s c.headers.invariant.areas at.fits)
    (c.next_is_done.ensures.machine (load_in c.args.source.now) before p c.headers.areas s c.headers.invariant.machine at.fits)
    c.in_ok-put.ensures.done c.tell.ensures

pub headers-preserved : goal.headers-preserved
headers-preserved g c =
    carries_past g.C.Carrier (load_in c.args.source.now) _ _ (placed_view c.in-Some.placed) c.headers.areas
    c.args.machine.now c.headers.machine c.headers.invariant c.in-Some.ensures.steps
    (sym c.applies.ensures ∙ c.if-applies.false)

pub returns-clause-done : goal.returns-clause-done
returns-clause-done g c =
    carries_all g.C.Carrier (load_in c.args.source.now) _ c.headers.areas c.args.machine.now c.headers.machine c.headers.invariant c.in-None.ensures.steps.0
