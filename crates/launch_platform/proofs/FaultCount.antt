-- One command more of a machine whose commands can be made to fail.
use Rattle.std.proofs.Common.{◌≡◌, ℕ, ◌+◌, List, true, false, cond, refl, ◌∙◌, ap, add-one, arith, Bool}
use Rattle.launch_platform.specs.FailingCommands.{is_failing, failed_commands}

failed_next : (numbers : List ℕ) (n : ℕ) → failed_commands numbers (n + 1) ≡ failed_commands numbers n + cond (is_failing numbers (n + 1)) 1 0
unfolding failed_commands
failed_next numbers n = rw add-one refl

pub failed_one : (numbers : List ℕ) (n : ℕ) → is_failing numbers (n + 1) ≡ true → failed_commands numbers (n + 1) ≡ failed_commands numbers n + 1
failed_one numbers n is = failed_next numbers n ∙ ap (λ (b : Bool). failed_commands numbers n + cond b 1 0) is

pub failed_none : (numbers : List ℕ) (n : ℕ) → is_failing numbers (n + 1) ≡ false → failed_commands numbers (n + 1) ≡ failed_commands numbers n
failed_none numbers n is = failed_next numbers n ∙ ap (λ (b : Bool). failed_commands numbers n + cond b 1 0) is ∙ omega arith
