-- Commands of a launch machine that can be made to fail, and how many have failed.
use Rattle.std.specs.Prelude.{ℕ, zero, suc, ◌≡◌, ◌↔◌, ◌+◌, min, Bool, true, ◌&&◌, cond, List, nat_eq, nat_lt}
use Rattle.std.specs.List.{list_any}

-- what contracts see: the numbers of the commands that are to fail, and how many commands there were
pub record FaultsView : Type 0 where
  pub failing : List ℕ
  pub commands : ℕ

-- whether the command of this number is to fail
abbrev pub is_failing : List ℕ → ℕ → Bool
is_failing numbers command = list_any (λ number. nat_eq number command) numbers

-- how many of the first commands are to fail, the first being number 1
unfoldable pub failed_commands : List ℕ → ℕ → ℕ
failed_commands numbers zero = 0
failed_commands numbers (suc commands) =
    failed_commands numbers commands + cond (is_failing numbers (suc commands)) 1 0

-- the count of faults: the commands so far that were to fail
abbrev pub fault_count : FaultsView → ℕ
fault_count faults = failed_commands faults.failing faults.commands

-- whether the next command is to fail
abbrev pub is_due : FaultsView → Bool
is_due faults =
    nat_lt faults.commands 18446744073709551615 && is_failing faults.failing (faults.commands + 1)

-- One command more, with the fact that it answered `Failed`: exactly where it was to fail, and then one fault more is
-- counted. Commands are counted up to 2^64 - 1.
pub record IsCounted (old new : FaultsView) (Fails : Type 0) : Type 0 where
  pub commands : new.commands ≡ min (old.commands + 1) 18446744073709551615
  pub failing : new.failing ≡ old.failing
  pub exact : Fails ↔ (is_due old ≡ true)
  pub count : fault_count new ≡ fault_count old + cond (is_due old) 1 0
