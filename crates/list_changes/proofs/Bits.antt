-- Masks of one bit.
use Rattle.std.proofs.Common.{◌≡◌, ◌≢◌, ℕ, zero, suc, ◌*◌, ◌^◌, ◌<◌, List, [], ◌∷◌, refl, sym, ◌∙◌, ap, ap₂, subst, arith, Bool, true, false}
use Rattle.std.specs.Prelude.{◌==◌, ◌||◌, ◌&&◌, bit_and, bit_or, max}
use Rattle.std.specs.Int.{bit_at}
use Rattle.std.specs.List.{list_any, AllByRecursion}
use Rattle.std.proofs.lemmas.Bool.{eqb-true}
use Rattle.std.proofs.lemmas.Nat.Bits.{and_pow, bit_at_or, bit_at-pow_same, bit_at-pow_other, bit_at-lt}
use Rattle.std.proofs.lemmas.Nat.{pow_pos}
use Rattle.igvm_image.specs.HeaderRules.{is_one_bit, one_bit_masks}

-- exactly one bit
abbrev pub IsBit : ℕ → Type 0
IsBit m = (k : ℕ) × (m ≡ 2 ^ k)

-- two numbers have no bit in common
abbrev pub apart : ℕ → ℕ → Bool
apart x y = bit_and x y == 0

pub one_of_bits : (xs : List ℕ) (m : ℕ) → AllByRecursion IsBit xs → list_any (λ x. x == m) xs ≡ true → IsBit m
one_of_bits [] m all found = cc
one_of_bits (x ∷ xs) m all found = cases (x == m) refl found (one_of_bits xs m all.1)
  where
    cases : (b : Bool) → (x == m) ≡ b → (b || list_any (λ x. x == m) xs) ≡ true
        → (list_any (λ x. x == m) xs ≡ true → IsBit m) → IsBit m
    cases true is found others = subst IsBit (eqb-true x m is) all.0
    cases false is found others = others found

pub masks_are_bits : AllByRecursion IsBit one_bit_masks
masks_are_bits =
    ((0, refl), ((1, refl), ((2, refl), ((3, refl), ((4, refl), ((5, refl), ((6, refl), ((7, refl), ((8, refl), ((9, refl), ((10, refl), ((11, refl), ((12, refl), ((13, refl), ((14, refl), ((15, refl), ((16, refl), ((17, refl), ((18, refl), ((19, refl), ((20, refl), ((21, refl), ((22, refl), ((23, refl), ((24, refl), ((25, refl), ((26, refl), ((27, refl), ((28, refl), ((29, refl), ((30, refl), ((31, refl), tt))))))))))))))))))))))))))))))))

pub one_bit-is : (m : ℕ) → is_one_bit m ≡ true → IsBit m
unfolding is_one_bit
one_bit-is m found = one_of_bits one_bit_masks m masks_are_bits found

-- ---- one bit of a number

bit_zero : (n k : ℕ) → n < 2 → (n * 2 ^ k == 0) ≡ (n == 0)
bit_zero zero k few = ap (λ x. x == 0) (let none : 0 * 2 ^ k ≡ 0 = omega arith in none)
bit_zero (suc zero) k few = cases (2 ^ k) (pow_pos k)
  where
    cases : (x : ℕ) → 0 < x → (1 * x == 0) ≡ (1 == 0)
    cases x some = grind arith
bit_zero (suc (suc n)) k few = absurd (omega arith)

pub apart_at : (n k : ℕ) → apart n (2 ^ k) ≡ (bit_at n k == 0)
apart_at n k = ap (λ x. x == 0) (and_pow n k) ∙ bit_zero (bit_at n k) k (bit_at-lt n k)

max_zero : (x y : ℕ) → (max x y == 0) ≡ ((x == 0) && (y == 0))
max_zero x y = grind arith

or_at : (x y k : ℕ) → apart (bit_or x y) (2 ^ k) ≡ (apart x (2 ^ k) && apart y (2 ^ k))
or_at x y k =
    apart_at (bit_or x y) k
    ∙ ap (λ n. n == 0) (bit_at_or x y k)
    ∙ max_zero (bit_at x k) (bit_at y k)
    ∙ ap₂ (λ b c. b && c) (sym (apart_at x k)) (sym (apart_at y k))

pub apart_or : (x y m : ℕ) → IsBit m → apart (bit_or x y) m ≡ (apart x m && apart y m)
apart_or x y m is = subst (λ n. apart (bit_or x y) n ≡ (apart x n && apart y n)) (sym is.1) (or_at x y is.0)

pub apart_self : (m : ℕ) → IsBit m → apart m m ≡ false
apart_self m is =
    subst (λ n. apart n n ≡ false) (sym is.1) (apart_at (2 ^ is.0) is.0 ∙ ap (λ n. n == 0) (bit_at-pow_same is.0))

other_at : (j k : ℕ) → (2 ^ j == 2 ^ k) ≡ false → apart (2 ^ j) (2 ^ k) ≡ true
other_at j k other = apart_at (2 ^ j) k ∙ ap (λ n. n == 0) (bit_at-pow_other j k differs)
  where
    same : (x y : ℕ) → (x == y) ≡ false → x ≡ y → ⊥
    same x y other is = grind arith

    differs : k ≢ j
    differs is = same (2 ^ j) (2 ^ k) other (ap (λ n. 2 ^ n) (sym is))

pub apart_other : (x y : ℕ) → IsBit x → IsBit y → (x == y) ≡ false → apart x y ≡ true
apart_other x y is also other =
    subst (λ n. apart n y ≡ true) (sym is.1)
    (subst (λ n. apart (2 ^ is.0) n ≡ true) (sym also.1)
    (other_at is.0 also.0 (ap₂ (λ p q. p == q) (sym is.1) (sym also.1) ∙ other)))

pub apart_zero : (m : ℕ) → apart 0 m ≡ true
apart_zero m = refl
