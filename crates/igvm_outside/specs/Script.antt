-- How a fake behaves, and how many faults it has had.
use Rattle.std.specs.Prelude.{ℕ, zero, suc, ◌≡◌, ◌≤◌, ◌+◌, min, Bool, true, false, ◌&&◌, cond, List, nat_eq, nat_lt, Option, None, Some, Result, OnOk, OnErr}
use Rattle.std.specs.List.{list_any}
use Rattle.igvm_headers.specs.FaultCounts.{HasCause}

-- The script of a fake. `others` are the faults that no number asked for.
pub record Script : Type 0 where
  pub calls : ℕ
  pub failing : List ℕ
  pub others : ℕ
  pub piece : Option ℕ

-- whether the call of this number is to fail
abbrev pub is_failing : List ℕ → ℕ → Bool
is_failing numbers call = list_any (λ number. nat_eq number call) numbers

-- how many of the first calls are to fail, the first being number 1
unfoldable pub failed_calls : List ℕ → ℕ → ℕ
failed_calls numbers zero = 0
failed_calls numbers (suc calls) =
    failed_calls numbers calls + cond (is_failing numbers (suc calls)) 1 0

-- The count of faults: the calls so far that were to fail, and the others. It ends at 2^64 - 1.
abbrev pub fault_count : Script → ℕ
fault_count script =
    min (failed_calls script.failing script.calls + script.others) 18446744073709551615

-- how many bytes a call moves where there is room for so many
abbrev pub portion : Option ℕ → ℕ → ℕ
portion None room = room
portion (Some piece) room = min piece room

-- whether the next call is to fail
abbrev pub is_due : Script → Bool
is_due script =
    nat_lt script.calls 18446744073709551615 && is_failing script.failing (script.calls + 1)

-- What a call that failed adds: nothing where it was to fail, and else one fault that no number asked for.
pub record HasFailed (old new : Script) : Type 0 where
  pub due : is_due old ≡ true → new.others ≡ old.others
  pub other : is_due old ≡ false → new.others ≡ min (old.others + 1) 18446744073709551615

-- One call more. Where it was to fail it has failed, where it answered Ok no fault is counted, and else one.
pub record IsCalled {A E : Type 0} (old new : Script) (result : Result A E) : Type 0 where
  pub calls : new.calls ≡ min (old.calls + 1) 18446744073709551615
  pub failing : new.failing ≡ old.failing
  pub piece : new.piece ≡ old.piece
  pub due : OnOk result (is_due old ≡ false)
  pub others : OnOk result (new.others ≡ old.others)
  pub failed : OnErr result (HasFailed old new)
  pub cause : HasCause (fault_count old) (fault_count new) result
  pub no_fault : OnOk result (fault_count new ≡ fault_count old)
  pub counted : fault_count old ≤ fault_count new
