-- A section splits in exactly one way.
use Rattle.std.proofs.Common.{◌≡◌, ℕ, zero, suc, ◌+◌, ◌≤◌, List, [], ◌∷◌, length, drop, refl, sym, ◌∙◌, ap, ap₂, subst, arith, Option, Some, None, true, false, Bool, inl, inr}
use Rattle.std.specs.Prelude.{◌⊎◌, nat_le, ◌&&◌, if◌then◌else◌}
use Rattle.std.proofs.lemmas.List.{length-drop, length-take-le}
use Rattle.std.proofs.lemmas.Bool.{le-leb, leb-true, leb-false, lt-leb}
use Rattle.igvm_headers.specs.Numbers.{number_at, slice}
use Rattle.igvm_image.specs.Pieces.{Piece, piece_at, pieces, cut, begins, first_piece, padded_size}
use Rattle.igvm_image.specs.SectionSplit.{Split, IsCut, Begins, behind}
use Rattle.igvm_image.proofs.PiecesLemmas.{pieces-end, cut-end, pieces-step, cut-step, piece_at-shorter}
use Rattle.igvm_image.proofs.Walking.{piece_at-behind}

-- a choice that is something, or nothing
chosen : {X : Type 0} (b : Bool) (x y : X) → (if b then Some x else None) ≡ Some y → (b ≡ true) × (x ≡ y)
chosen true x y h = (refl, cc)
chosen false x y h = cc

not_chosen : {X : Type 0} (b : Bool) (x : X) → (if b then Some x else None) ≡ None → b ≡ false
not_chosen true x h = cc
not_chosen false x h = refl

-- two tests in a row
both_true : (a b : Bool) → a && b ≡ true → (a ≡ true) × (b ≡ true)
both_true true b h = (refl, h)
both_true false b h = cc

one_false : (a b : Bool) → a && b ≡ false → (a ≡ false) ⊎ (b ≡ false)
one_false true b h = inr h
one_false false b h = inl refl

second_false : (a : Bool) → a && false ≡ false
second_false true = refl
second_false false = refl

abbrev piece : ℕ → List ℕ → Piece
piece kind content = record { kind = kind; content = content }

-- where a header begins, the reader finds it
begins-found : (s : List ℕ) (p : Piece) → Begins s p → piece_at s ≡ Some (p, behind s p)
unfolding piece_at
begins-found s p h =
    let size = h.size in
    let whole = h.whole in
    let some : nat_le 8 (length s) ≡ true = le-leb 8 (length s) (omega arith) in
    let all : nat_le (8 + number_at 4 4 s) (length s) ≡ true = le-leb (8 + number_at 4 4 s) (length s) (omega arith) in
    let here : begins s ≡ true = ap₂ ◌&&◌ some all in
    let first : first_piece s ≡ p = ap₂ piece h.kind (ap (slice s 8) size ∙ h.content) in
    let rest : drop (padded_size (number_at 4 4 s)) s ≡ behind s p = ap (λ n. drop (padded_size n) s) size in
    ap (λ b. if b then Some (first_piece s, drop (padded_size (number_at 4 4 s)) s) else None) here
    ∙ ap₂ (λ (q : Piece) (r : List ℕ). Some (q, r)) first rest

-- where none stands whole, the reader finds none
cut-none : (s : List ℕ) → IsCut s → piece_at s ≡ None
unfolding piece_at
cut-none s (inl few) =
    let none : nat_le 8 (length s) ≡ false = lt-leb 8 (length s) few in
    ap (λ b. if b && nat_le (8 + number_at 4 4 s) (length s) then
    Some (first_piece s, drop (padded_size (number_at 4 4 s)) s) else None) none
cut-none s (inr few) =
    let none : nat_le (8 + number_at 4 4 s) (length s) ≡ false = lt-leb (8 + number_at 4 4 s) (length s) few in
    ap (λ b. if b then Some (first_piece s, drop (padded_size (number_at 4 4 s)) s) else None)
    (ap (λ b. nat_le 8 (length s) && b) none ∙ second_false (nat_le 8 (length s)))

-- what the reader finds begins there
first-begins : (s : List ℕ) → begins s ≡ true → Begins s (first_piece s)
first-begins s h =
    let both = both_true (nat_le 8 (length s)) (nat_le (8 + number_at 4 4 s) (length s)) h in
    let all : 8 + number_at 4 4 s ≤ length s = leb-true (8 + number_at 4 4 s) (length s) both.1 in
    let size : length (slice s 8 (number_at 4 4 s)) ≡ number_at 4 4 s =
    length-take-le (number_at 4 4 s) (drop 8 s) (omega (arith, length-drop 8 s)) in
    record {
      kind = refl;
      size = sym size;
      content = ap (slice s 8) size;
      whole = omega (arith, size);
    }

found-begins : (s : List ℕ) (p : Piece) (r : List ℕ) → piece_at s ≡ Some (p, r) → Begins s p
unfolding piece_at
found-begins s p r h =
    let found = chosen (begins s) _ (p, r) h in
    subst (Begins s) (ap (λ (q : Piece × List ℕ). q.0) found.1) (first-begins s found.0)

-- where the reader finds none, none stands whole
none-cut : (s : List ℕ) → piece_at s ≡ None → IsCut s
unfolding piece_at
none-cut s h =
    tests (one_false (nat_le 8 (length s)) (nat_le (8 + number_at 4 4 s) (length s)) (not_chosen (begins s) _ h))
  where
    tests : (nat_le 8 (length s) ≡ false) ⊎ (nat_le (8 + number_at 4 4 s) (length s) ≡ false) → IsCut s
    tests (inl few) = inl (leb-false 8 (length s) few)
    tests (inr few) = inr (leb-false (8 + number_at 4 4 s) (length s) few)

-- the pieces that the reader finds, for sections of at most n bytes
split-found : (n : ℕ) (s : List ℕ) (found : Option (Piece × List ℕ)) → piece_at s ≡ found → length s ≤ n → Split s (pieces s) (cut s)
unfolding Split
split-found n s None h few =
    subst (λ ps. Split s ps (cut s)) (sym (pieces-end s h)) (none-cut s h, cut-end s h)
split-found zero s (Some (p, r)) h few = absurd (omega (arith, piece_at-shorter s p r h))
split-found (suc n) s (Some (p, r)) h few =
    let less = piece_at-shorter s p r h in
    let rest = split-found n r (piece_at r) refl (omega arith) in
    let there = subst (λ b. Split b (pieces r) (cut r)) (piece_at-behind s p r h) rest in
    subst (λ ps. Split s ps (cut s)) (sym (pieces-step s p r h))
    (subst (λ c. Split s (p ∷ pieces r) c) (sym (cut-step s p r h)) (found-begins s p r h, there))

pub split_found : (s : List ℕ) → Split s (pieces s) (cut s)
split_found s = split-found (length s) s (piece_at s) refl (omega arith)

-- there is no other
pub split_one : (s rest : List ℕ) (ps : List Piece) → Split s ps rest → (ps ≡ pieces s) × (rest ≡ cut s)
unfolding Split
split_one s rest [] h =
    let none = cut-none s h.0 in
    (sym (pieces-end s none), h.1 ∙ sym (cut-end s none))
split_one s rest (p ∷ ps) h =
    let found = begins-found s p h.0 in
    let later = split_one (behind s p) rest ps h.1 in
    (ap (λ qs. p ∷ qs) later.0 ∙ sym (pieces-step s p (behind s p) found), later.1 ∙ sym (cut-step s p (behind s p) found))
