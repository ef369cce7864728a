use Rattle.igvm_c.proofs.HeaderLemmas.{IsPending}
use Rattle.igvm_c.proofs.headers.found_in.Given as goal

abbrev pub invariant-headers : goal.invariant-headers
invariant-headers l = IsPending l.view l.at l.placed-iterator l.pending
