-- What holds whatever was answered.
use Rattle.std.proofs.Common.{ℕ, ◌≡◌, ◌≤◌, ◌∙◌, arith, inl, inr}
use Rattle.std.specs.Prelude.{Result, Ok, Err, OnOk, OnErr}
use Rattle.igvm_headers.specs.FaultCounts.{Rose, HasCause}

pub on_ok : {A E : Type 0} {P : Type 0} (result : Result A E) → P → OnOk result P
on_ok (Ok value) p = p
on_ok (Err refusal) p = tt

pub on_err : {A E : Type 0} {P : Type 0} (result : Result A E) → P → OnErr result P
on_err (Ok value) p = tt
on_err (Err refusal) p = p

-- a count that rose has risen since an earlier time
pub rose_later : (first second third : ℕ) → first ≤ second → Rose second third → Rose first third
rose_later first second third before (inl rose) = inl (omega arith)
rose_later first second third before (inr last) = inr last

pub rose_of : {A E : Type 0} (first second third : ℕ) (result : Result A E) → first ≤ second → HasCause second third result → HasCause first third result
rose_of first second third (Ok value) before cause = tt
rose_of first second third (Err refusal) before cause = rose_later first second third before cause

-- an answer Ok that leaves the count, after others
pub no_fault_more : {A E : Type 0} (first second third : ℕ) (result : Result A E) → second ≡ first → OnOk result (third ≡ second) → OnOk result (third ≡ first)
no_fault_more first second third (Ok value) before same = same ∙ before
no_fault_more first second third (Err refusal) before same = tt
