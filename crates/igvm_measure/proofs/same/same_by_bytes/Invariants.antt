use Rattle.std.proofs.Common.{◌≡◌, ℕ, ◌<◌}
use Rattle.std.specs.Prelude.{slice_index}
use Rattle.igvm_measure.proofs.same.same_by_bytes.Given as goal

-- the bytes so far are the same
abbrev pub invariant-bytes : goal.invariant-bytes
invariant-bytes l = (j : ℕ) → j < l.i → slice_index l.one j ≡ slice_index l.other j
