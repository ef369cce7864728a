-- Truth values, and the tests of numbers that give them.
use Rattle.std.proofs.Common.{◌≡◌, ◌⊎◌, ◌==◌, ◌<◌, ℕ, Bool, true, false, not, inl, inr, refl, arith}
use Rattle.std.proofs.lemmas.Bool.Decides.{nat_tests}

-- a test holds, or it doesn't
pub bool_cases : (b : Bool) → (b ≡ true) ⊎ (b ≡ false)
bool_cases true = inl refl
bool_cases false = inr refl

pub true_false : true ≡ false → ⊥
true_false e = cc

pub not_true : (b : Bool) → not b ≡ true → b ≡ false
not_true true h = absurd cc
not_true false h = refl

pub eq_eqb : (a : ℕ) → (a == a) ≡ true
eq_eqb a = grind (arith, nat_tests)

pub eqb_eq : (a b : ℕ) → (a == b) ≡ true → a ≡ b
eqb_eq a b h = grind (arith, nat_tests)

pub above_zero : (x : ℕ) → (x == 0) ≡ false → 0 < x
above_zero x h = grind (arith, nat_tests)
