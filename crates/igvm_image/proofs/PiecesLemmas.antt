-- How the headers of a section go on: the number that bounds them does not matter.
use Rattle.std.proofs.Common.{◌≡◌, ℕ, zero, suc, ◌+◌, ◌≤◌, List, [], ◌∷◌, length, refl, sym, ◌∙◌, ap, arith, Option, Some, None}
use Rattle.std.proofs.lemmas.List.{length-drop}
use Rattle.igvm_image.specs.Pieces.{Piece, piece_at, pieces_within, cut_within, pieces, cut, piece_before, cut_before}

-- what stands behind a header is shorter
pub piece_at-shorter : (s : List ℕ) (p : Piece) (r : List ℕ) → piece_at s ≡ Some (p, r) → length r + 8 ≤ length s
unfolding piece_at
piece_at-shorter s p r h = grind (arith, length-drop)

-- no header stands in nothing
pub piece_at-empty : piece_at [] ≡ None
unfolding piece_at
piece_at-empty = refl

none_in_empty : (s : List ℕ) → length s ≤ 0 → piece_at s ≡ None
none_in_empty [] h = piece_at-empty
none_in_empty (b ∷ s) h = absurd (omega arith)

-- the headers where none stands whole
pub pieces_within-none : (n : ℕ) (s : List ℕ) → piece_at s ≡ None → pieces_within n s ≡ []
unfolding pieces_within
pieces_within-none zero s h = refl
pieces_within-none (suc n) s h = ap (λ found. piece_before found (pieces_within n)) h

cut_within-none : (n : ℕ) (s : List ℕ) → piece_at s ≡ None → cut_within n s ≡ s
unfolding cut_within
cut_within-none zero s h = refl
cut_within-none (suc n) s h = ap (λ found. cut_before s found (cut_within n)) h

pub pieces_within-some : (n : ℕ) (s : List ℕ) (p : Piece) (r : List ℕ) → piece_at s ≡ Some (p, r) → pieces_within (suc n) s ≡ p ∷ pieces_within n r
unfolding pieces_within
pieces_within-some n s p r h = ap (λ found. piece_before found (pieces_within n)) h

cut_within-some : (n : ℕ) (s : List ℕ) (p : Piece) (r : List ℕ) → piece_at s ≡ Some (p, r) → cut_within (suc n) s ≡ cut_within n r
unfolding cut_within
cut_within-some n s p r h = ap (λ found. cut_before s found (cut_within n)) h

-- The number of headers that are looked for does not matter where it is large enough.
pieces_within-enough : (n m : ℕ) (s : List ℕ) (found : Option (Piece × List ℕ)) → piece_at s ≡ found → length s ≤ n → length s ≤ m → pieces_within n s ≡ pieces_within m s
pieces_within-enough n m s None h a b = pieces_within-none n s h ∙ sym (pieces_within-none m s h)
pieces_within-enough zero m s (Some (p, r)) h a b = absurd (omega (arith, piece_at-shorter s p r h))
pieces_within-enough (suc n) zero s (Some (p, r)) h a b = absurd (omega (arith, piece_at-shorter s p r h))
pieces_within-enough (suc n) (suc m) s (Some (p, r)) h a b =
    let less = piece_at-shorter s p r h in
    pieces_within-some n s p r h
    ∙ ap (λ ps. p ∷ ps) (pieces_within-enough n m r (piece_at r) refl (omega arith) (omega arith))
    ∙ sym (pieces_within-some m s p r h)

cut_within-enough : (n m : ℕ) (s : List ℕ) (found : Option (Piece × List ℕ)) → piece_at s ≡ found → length s ≤ n → length s ≤ m → cut_within n s ≡ cut_within m s
cut_within-enough n m s None h a b = cut_within-none n s h ∙ sym (cut_within-none m s h)
cut_within-enough zero m s (Some (p, r)) h a b = absurd (omega (arith, piece_at-shorter s p r h))
cut_within-enough (suc n) zero s (Some (p, r)) h a b = absurd (omega (arith, piece_at-shorter s p r h))
cut_within-enough (suc n) (suc m) s (Some (p, r)) h a b =
    let less = piece_at-shorter s p r h in
    cut_within-some n s p r h
    ∙ cut_within-enough n m r (piece_at r) refl (omega arith) (omega arith)
    ∙ sym (cut_within-some m s p r h)

-- the last header is behind
pub pieces-end : (s : List ℕ) → piece_at s ≡ None → pieces s ≡ []
pieces-end s h = pieces_within-none (length s) s h

pub cut-end : (s : List ℕ) → piece_at s ≡ None → cut s ≡ s
cut-end s h = cut_within-none (length s) s h

-- one header, and then those behind it
pub pieces-step : (s : List ℕ) (p : Piece) (r : List ℕ) → piece_at s ≡ Some (p, r) → pieces s ≡ p ∷ pieces r
pieces-step s p r h =
    let less = piece_at-shorter s p r h in
    pieces_within-enough (length s) (suc (length s)) s (piece_at s) refl (omega arith) (omega arith)
    ∙ pieces_within-some (length s) s p r h
    ∙ ap (λ ps. p ∷ ps) (pieces_within-enough (length s) (length r) r (piece_at r) refl (omega arith) (omega arith))

pub cut-step : (s : List ℕ) (p : Piece) (r : List ℕ) → piece_at s ≡ Some (p, r) → cut s ≡ cut r
cut-step s p r h =
    let less = piece_at-shorter s p r h in
    cut_within-enough (length s) (suc (length s)) s (piece_at s) refl (omega arith) (omega arith)
    ∙ cut_within-some (length s) s p r h
    ∙ cut_within-enough (length s) (length r) r (piece_at r) refl (omega arith) (omega arith)
