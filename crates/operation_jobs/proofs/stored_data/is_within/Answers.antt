use Rattle.std.proofs.Common.{◌∙◌, refl, sym}
use Rattle.operation_jobs.proofs.StoredLemmas.{left_start, left_more, left_passed, left_none}
use Rattle.operation_jobs.proofs.stored_data.is_within.Goals as goal

pub headers-init : goal.headers-init
headers-init c = left_start _ _ _ (c.into_iter-placed-iterator.ensures.into_iter_gives ∙ c.headers-placed-items.ensures.placed) refl

pub headers-preserved : goal.headers-preserved
headers-preserved c = left_more _ _ _ _ _ _ c.headers.invariant c.in-Some.ensures.steps c.stored_size-size.ensures c.if-size-left.false

pub returns-then-size-left : goal.returns-then-size-left
returns-then-size-left c = sym (left_passed _ _ _ _ _ _ c.headers.invariant c.in-Some.ensures.steps c.stored_size-size.ensures c.if-size-left.true)

pub returns : goal.returns
returns c = sym (left_none _ _ _ c.headers.invariant c.in-None.ensures.steps.0)
