-- One call more of a fake.
use Rattle.std.proofs.Common.{◌≡◌, ℕ, ◌+◌, List, true, false, cond, refl, ◌∙◌, ap, add-one, arith, Bool}
use Rattle.igvm_outside.specs.Script.{is_failing, failed_calls}

failed_next : (numbers : List ℕ) (calls : ℕ) → failed_calls numbers (calls + 1) ≡ failed_calls numbers calls + cond (is_failing numbers (calls + 1)) 1 0
unfolding failed_calls
failed_next numbers calls = rw add-one refl

pub failing_call : (numbers : List ℕ) (calls : ℕ) → is_failing numbers (calls + 1) ≡ true → failed_calls numbers (calls + 1) ≡ failed_calls numbers calls + 1
failing_call numbers calls is = failed_next numbers calls ∙ ap (λ (b : Bool). failed_calls numbers calls + cond b 1 0) is

pub passing_call : (numbers : List ℕ) (calls : ℕ) → is_failing numbers (calls + 1) ≡ false → failed_calls numbers (calls + 1) ≡ failed_calls numbers calls
passing_call numbers calls is = failed_next numbers calls ∙ ap (λ (b : Bool). failed_calls numbers calls + cond b 1 0) is ∙ omega arith
