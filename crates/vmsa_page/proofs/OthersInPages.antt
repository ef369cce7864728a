-- The other bytes of a page.
use Rattle.std.proofs.Common.{◌≡◌, ◌≤◌, ◌<◌, ◌+◌, ◌&&◌, ◌==◌, ℕ, zero, suc, List, [], ◌∷◌, true, false, not, cond, length, map, slice_index, inl, inr, refl, sym, ap, ap₂, ◌∙◌, subst, arith}
use Rattle.std.proofs.lemmas.Bool.{cases_eq, ne_eqb}
use Rattle.std.specs.List.{range_with_len}
use Rattle.vmsa_page.proofs.Booleans.{bool_cases, true_false, eq_eqb}
use Rattle.vmsa_page.specs.declared.other_byte.OtherByte.{OtherByte}
use Rattle.vmsa_page.specs.Fields.{is_named}
use Rattle.vmsa_page.specs.Vmsas.{AreOther}
use Rattle.vmsa_page.specs.Pages.{other_at, others_from}

other_up : (low : ℕ) (os : List OtherByte) → AreOther low os → is_named low ≡ true → AreOther (low + 1) os
other_up low [] h named = tt
other_up low (o ∷ os) h named = elim (cases_eq o.at low) [
  | inl same ↦ absurd (true_false (sym named ∙ ap is_named (sym same) ∙ h.2))
  | inr other ↦ (omega (arith, h.0, other), h.1, h.2, h.3, h.4, h.5)
]

other_none : (low a : ℕ) (os : List OtherByte) → AreOther low os → a < low → other_at os a ≡ 0
other_none low a [] h below = refl
other_none low a (o ∷ os) h below = rw (ne_eqb o.at a (λ e. omega (arith, h.0, below, e))) (other_none (o.at + 1) a os h.5 (omega (arith, h.0, below)))

pass : (a x : ℕ) (bytes : List ℕ) → is_named a ≡ true → others_from a (x ∷ bytes) ≡ others_from (a + 1) bytes
pass a x bytes named = rw named refl

pass_zero : (a x : ℕ) (bytes : List ℕ) → x ≡ 0 → others_from a (x ∷ bytes) ≡ others_from (a + 1) bytes
pass_zero a x bytes zero_ = elim (bool_cases (is_named a)) [
  | inl is_so ↦ pass a x bytes is_so
  | inr isnt ↦ rw (isnt, zero_) refl
]

keep : (a x : ℕ) (bytes : List ℕ) → is_named a ≡ false → 0 < x → others_from a (x ∷ bytes) ≡ record { at = a; byte = x } ∷ others_from (a + 1) bytes
keep a x bytes isnt some = rw (isnt, ne_eqb x 0 (λ e. omega (arith, e, some))) refl

-- another byte and its place
other_by : ℕ → ℕ → OtherByte
other_by a x = record { at = a; byte = x }

same_other : (a x : ℕ) (o : OtherByte) → a ≡ o.at → x ≡ o.byte → record { at = a; byte = x } ≡ o
unfolding other_by
same_other a x o p q = ap₂ other_by p q

read_other : (n a : ℕ) (os : List OtherByte) (f : ℕ → ℕ) → AreOther a os → a + suc n ≡ 4096 → ((i : ℕ) → a ≤ i → i < 4096 → is_named i ≡ false → f i ≡ other_at os i)
    → is_named a ≡ false
    → ((rest : List OtherByte) (g : ℕ → ℕ) → AreOther (a + 1) rest → a + 1 + n ≡ 4096 → ((i : ℕ) → a + 1 ≤ i → i < 4096 → is_named i ≡ false → g i ≡ other_at rest i) → others_from (a + 1) (map g (range_with_len (a + 1) n)) ≡ rest)
    → others_from a (map f (range_with_len a (suc n))) ≡ os
read_other n a [] f h size same isnt later =
    pass_zero a (f a) (map f (range_with_len (a + 1) n)) (same a (omega arith) (omega (arith, size)) isnt)
    ∙ later [] f tt (omega (arith, size)) (λ i low high. same i (omega (arith, low)) high)
read_other n a (o ∷ os) f h size same isnt later = elim (cases_eq o.at a) [
  | inl here ↦
      let byte : f a ≡ o.byte = same a (omega arith) (omega (arith, size)) isnt ∙ rw here (rw (eq_eqb a) refl) in
      let above_ : AreOther (a + 1) os = subst (λ (x : ℕ). AreOther (x + 1) os) here h.5 in
      keep a (f a) (map f (range_with_len (a + 1) n)) isnt (omega (arith, byte, h.3))
      ∙ ap₂ (λ (x : OtherByte) (l : List OtherByte). x ∷ l) (same_other a (f a) o (sym here) byte)
      (later os f above_ (omega (arith, size)) (λ i low high not_named. same i (omega (arith, low)) high not_named ∙ rw (ne_eqb o.at i (λ e. omega (arith, low, e, here))) refl))
  | inr other ↦
      let low_ : a < o.at = omega (arith, h.0, other) in
      let none : f a ≡ 0 = same a (omega arith) (omega (arith, size)) isnt ∙ rw (ne_eqb o.at a other) (other_none (o.at + 1) a os h.5 (omega (arith, low_))) in
      pass_zero a (f a) (map f (range_with_len (a + 1) n)) none
      ∙ later (o ∷ os) f (omega (arith, low_), h.1, h.2, h.3, h.4, h.5) (omega (arith, size)) (λ i low high. same i (omega (arith, low)) high)
]

-- the other bytes of a page are those that it was made of
pub others_read : (n a : ℕ) (os : List OtherByte) (f : ℕ → ℕ) → AreOther a os → a + n ≡ 4096 → ((i : ℕ) → a ≤ i → i < 4096 → is_named i ≡ false → f i ≡ other_at os i)
    → others_from a (map f (range_with_len a n)) ≡ os
others_read zero a [] f h size same = refl
others_read zero a (o ∷ os) f h size same = absurd (omega (arith, h.0, h.1, size))
others_read (suc n) a os f h size same = elim (bool_cases (is_named a)) [
  | inl named ↦
      pass a (f a) (map f (range_with_len (a + 1) n)) named
      ∙ others_read n (a + 1) os f (other_up a os h named) (omega (arith, size)) (λ i low high. same i (omega (arith, low)) high)
  | inr not_named ↦ read_other n a os f h size same not_named (others_read n (a + 1))
]

others_below : (a i : ℕ) (bytes : List ℕ) → i < a → other_at (others_from a bytes) i ≡ 0
others_below a i [] below = refl
others_below a i (x ∷ bytes) below = elim (bool_cases (not (is_named a) && not (x == 0))) [
  | inl is_so ↦ rw is_so (rw (ne_eqb a i (λ e. omega (arith, e, below))) (others_below (a + 1) i bytes (omega (arith, below))))
  | inr isnt ↦ rw isnt (others_below (a + 1) i bytes (omega (arith, below)))
]

first_found : (a x : ℕ) (bytes : List ℕ) → other_at (others_from a (x ∷ bytes)) a ≡ cond (is_named a) 0 x
first_found a x bytes = elim (bool_cases (is_named a)) [
  | inl is_so ↦ rw is_so (others_below (a + 1) a bytes (omega arith))
  | inr isnt ↦ elim (cases_eq x 0) [
    | inl none ↦ rw (isnt, none) (others_below (a + 1) a bytes (omega arith))
    | inr some ↦ rw (isnt, ne_eqb x 0 some) (rw (eq_eqb a) refl)
  ]
]

pub later_found : (a x i : ℕ) (bytes : List ℕ) → a < i → other_at (others_from a (x ∷ bytes)) i ≡ other_at (others_from (a + 1) bytes) i
later_found a x i bytes above_ = elim (bool_cases (not (is_named a) && not (x == 0))) [
  | inl is_so ↦ rw is_so (rw (ne_eqb a i (λ e. omega (arith, e, above_))) refl)
  | inr isnt ↦ rw isnt refl
]

-- and a page has those that were read of it
pub others_found : (a i : ℕ) (bytes : List ℕ) → (k : ℕ) → k < length bytes → i ≡ a + k → other_at (others_from a bytes) i ≡ cond (is_named i) 0 (slice_index bytes k)
others_found a i [] k below is = absurd (omega (arith, below))
others_found a i (x ∷ bytes) zero below is =
    let here : i ≡ a = omega (arith, is) in
    subst (λ (j : ℕ). other_at (others_from a (x ∷ bytes)) j ≡ cond (is_named j) 0 x) (sym here) (first_found a x bytes)
others_found a i (x ∷ bytes) (suc k) below is =
    later_found a x i bytes (omega (arith, is)) ∙ others_found (a + 1) i bytes k (omega (arith, below)) (omega (arith, is))
