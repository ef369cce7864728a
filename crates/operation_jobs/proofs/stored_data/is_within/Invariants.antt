use Rattle.operation_jobs.proofs.StoredLemmas.{IsLeft}
use Rattle.operation_jobs.proofs.stored_data.is_within.Given as goal

abbrev pub invariant-headers : goal.invariant-headers
invariant-headers l = IsLeft l.view l.placed-iterator l.left
