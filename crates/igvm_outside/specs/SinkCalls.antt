-- What a call leaves of an output. These words take the trait's record: at a bound `O: Sink` it is `O.Sink`.
use Rattle.std.specs.Prelude.{◌≡◌, ℕ, ◌≤◌, List, length, take, Result, OnOk, OnErr}
use Rattle.igvm_headers.specs.FaultCounts.{HasCause}
use Rattle.igvm_outside.specs.Outputs.{gained}
use Rattle.igvm_outside.specs.declared.sink.Sink as sinks

-- the output has gained a front of a text
abbrev pub GainsFront : {O : Type 0} → sinks.Ghosts O → List ℕ → O → O → Type 0
GainsFront o text old new = (n : ℕ) × (n ≤ length text) × (o.bytes new ≡ gained (o.bytes old) (take n text))

-- A text is put. After Ok the output has gained it, and there was no fault; else it has gained a front of it, and its
-- count of faults rose.
pub record Puts {O A E : Type 0} (o : sinks.Ghosts O) (text : List ℕ) (result : Result A E) (old new : O) : Type 0 where
  pub put : OnOk result (o.bytes new ≡ gained (o.bytes old) text)
  pub front : OnErr result (GainsFront o text old new)
  pub cause : HasCause (o.faults old) (o.faults new) result
  pub no_fault : OnOk result (o.faults new ≡ o.faults old)
  pub counted : o.faults old ≤ o.faults new
