-- Facts on results that are handed on.
use Rattle.std.proofs.Common.{ℕ, ◌≤◌, inl, inr, arith, Result, Ok, Err, OnOk, OnErr}
use Rattle.igvm_headers.specs.FaultCounts.{Rose}

pub ok_then : {T E : Type 0} (r : Result T E) (P Q : Type 0) → (P → Q) → OnOk r P → OnOk r Q
ok_then (Ok x) P Q f h = f h
ok_then (Err e) P Q f h = tt

pub err_then : {T E : Type 0} (r : Result T E) (P Q : Type 0) → (P → Q) → OnErr r P → OnErr r Q
err_then (Ok x) P Q f h = tt
err_then (Err e) P Q f h = f h

pub err_anyway : {T E : Type 0} (r : Result T E) (P : Type 0) → P → OnErr r P
err_anyway (Ok x) P h = tt
err_anyway (Err e) P h = h

-- a count that rose later rose since before
pub rose_since : (before then now : ℕ) → before ≤ then → Rose then now → Rose before now
rose_since before then now h (inl rose) = inl (omega arith)
rose_since before then now h (inr end) = inr end
