use Rattle.std.proofs.Common.{◌∙◌, refl, sym, ap, Some}
use Rattle.igvm_c.proofs.HeaderLemmas.{pending_start, pending_next, pending_found, pending_other, pending_end, is_first, is_there, is_elsewhere}
use Rattle.igvm_c.proofs.headers.found_in.Goals.{then-at-eq0-via-then-at-eq0, then-at-eq0-via-else-at-eq0+then-placed-at}
use Rattle.igvm_c.proofs.headers.found_in.Goals as goal

pub headers-init : goal.headers-init
headers-init c = pending_start _ _ _ _ (c.into_iter-placed-iterator.ensures.into_iter_gives ∙ c.headers-placed-items.ensures.placed) refl

pub returns-in-Some-pending : goal.returns-in-Some-pending
returns-in-Some-pending c =
    ap Some c.with_next.ensures
    ∙ sym (pending_next _ _ _ _ _ _ _ c.headers.invariant c.in-Some-pending.is c.in-Some.ensures.steps)

pub headers-preserved-in-headers : goal.headers-preserved-in-headers
headers-preserved-in-headers c =
    pending_found _ _ _ _ _ _ _ c.headers.invariant c.in_default.is c.in-Some.ensures.steps c.last_header.ensures
    (elim c.then-at-eq0.branch [
      | then-at-eq0-via-then-at-eq0 w ↦ is_first _ _ w.if-at-eq0.true
      | then-at-eq0-via-else-at-eq0+then-placed-at w ↦ is_there _ _ w.if-placed-at.true
    ])

pub headers-preserved : goal.headers-preserved
headers-preserved c =
    pending_other _ _ _ _ _ _ c.headers.invariant c.in_default.is c.in-Some.ensures.steps
    (is_elsewhere _ _ c.if-at-eq0.false c.if-placed-at.false)

pub returns : goal.returns
returns c = sym (pending_end _ _ _ _ c.headers.invariant c.in-None.ensures.steps.0)
