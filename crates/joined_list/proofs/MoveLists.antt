-- Lists of moves, one number after the other.
use Rattle.std.proofs.Common.{◌≡◌, ℕ, zero, suc, ◌+◌, ◌*◌, ◌%◌, ◌^◌, ◌<◌, ◌≤◌, List, [], ◌∷◌, ◌++◌, length, map, get_or, drop, refl, sym, ◌∙◌, ap, ap₂, add-one, add-zero, zero-add, append-nil, drop-cons, arith, Option, Some, None, Bool, true, false}
use Rattle.std.specs.Prelude.{if◌then◌else◌, ◌==◌, not, find, bit_and, bit_or, slice_get}
use Rattle.std.specs.List.{list_any, range_with_len}
use Rattle.std.proofs.lemmas.List.{drop_all}
use Rattle.std.proofs.lemmas.List.Elements.{filter-append}
use Rattle.std.proofs.lemmas.Nat.{pow_below}
use Rattle.std.proofs.lemmas.Bool.{eq-eqb, eqb-true}
use Rattle.std.specs.Int.Bits.{or_zero_r}
use Rattle.std.proofs.lemmas.Nat.Bits.{bit_at_or, same_from_bits}
use Rattle.joined_list.specs.declared.moves.Move.{Move}
use Rattle.joined_list.specs.NewNumbers.{area_by, free, mask_by, moves}

-- ---- the new bits of a mask

or_assoc : (a b c : ℕ) → bit_or (bit_or a b) c ≡ bit_or a (bit_or b c)
or_assoc a b c = same_from_bits _ _ (λ i.
    let left = bit_at_or (bit_or a b) c i in let right = bit_at_or a (bit_or b c) i in
    let front = bit_at_or a b i in let back = bit_at_or b c i in
    omega arith)

-- the bits that a mask gets from one move
abbrev pub bits_from : Move → ℕ → ℕ
bits_from move mask = if bit_and mask move.old == 0 then 0 else move.new

pub bits_given : (move : Move) (mask : ℕ) → (bit_and mask move.old ≡ 0 → ⊥) → bits_from move mask ≡ move.new
bits_given move mask shares = cases (bit_and mask move.old == 0) refl
  where
    cases : (b : Bool) → (bit_and mask move.old == 0) ≡ b → (if b then 0 else move.new) ≡ move.new
    cases true none = absurd (shares (eqb-true (bit_and mask move.old) 0 none))
    cases false some = refl

pub bits_none : (move : Move) (mask : ℕ) → bit_and mask move.old ≡ 0 → bits_from move mask ≡ 0
bits_none move mask none = ap (λ b. if b then 0 else move.new) (eq-eqb (bit_and mask move.old) 0 none)

-- the bits from the moves before a place, and those from the others
pub mask_more : (ms : List Move) (i : ℕ) (m : Move) (mask bits more whole : ℕ) → i < length ms
    → more ≡ bit_or bits (bits_from (get_or ms i m) mask)
    → bit_or bits (mask_by (drop i ms) mask) ≡ whole → bit_or more (mask_by (drop (i + 1) ms) mask) ≡ whole
mask_more ms i m mask bits more whole within is kept =
    ap₂ (λ k n. bit_or k (mask_by (drop n ms) mask)) is (add-one i)
    ∙ or_assoc bits (bits_from (get_or ms i m) mask) (mask_by (drop (suc i) ms) mask)
    ∙ ap (λ rest. bit_or bits (mask_by rest mask)) (sym (drop-cons ms i m within))
    ∙ kept

pub mask_all : (ms : List Move) (i mask bits whole : ℕ) → length ms ≤ i → bit_or bits (mask_by (drop i ms) mask) ≡ whole → bits ≡ whole
mask_all ms i mask bits whole past kept =
    sym (or_zero_r bits) ∙ ap (λ rest. bit_or bits (mask_by rest mask)) (sym (drop_all i ms past)) ∙ kept

-- ---- the new number of an area

abbrev pub new_or : Option Move → ℕ → ℕ
new_or None area = area
new_or (Some move) area = move.new

pub area_by_found : (ms : List Move) (area : ℕ) → area_by ms area ≡ new_or (find (λ move. move.old == area) ms) area
area_by_found [] area = refl
area_by_found (move ∷ ms) area = cases (move.old == area) (area_by_found ms area)
  where
    cases : (b : Bool) → area_by ms area ≡ new_or (find (λ each. each.old == area) ms) area
        → (if b then move.new else area_by ms area) ≡ new_or (if b then Some move else find (λ each. each.old == area) ms) area
    cases true behind = refl
    cases false behind = behind

-- ---- moves of old numbers to free ones

pub moves-same : (numbers : List ℕ) → map (λ n. record { old = n; new = n }) numbers ≡ moves numbers numbers
moves-same [] = refl
moves-same (n ∷ ns) = ap (λ ms. record { old = n; new = n } ∷ ms) (moves-same ns)

pub moves-none : (olds : List ℕ) → moves olds [] ≡ []
moves-none [] = refl
moves-none (old ∷ olds) = refl

-- one new number more is for the first of the old ones that has none yet
pub moves_more : (olds news : List ℕ) (old new : ℕ) → slice_get olds (length (moves olds news)) ≡ Some old
    → moves olds (news ++ new ∷ []) ≡ moves olds news ++ record { old = old; new = new } ∷ []
moves_more [] news old new next = cc
moves_more (x ∷ olds) [] old new next =
    let is : x ≡ old = cc in
    ap₂ (λ y ms. record { old = y; new = new } ∷ ms) is (moves-none olds)
moves_more (x ∷ olds) (y ∷ news) old new next =
    ap (λ ms. record { old = x; new = y } ∷ ms) (moves_more olds news old new next)

-- and for none where all have one
pub moves_enough : (olds news : List ℕ) (new : ℕ) → slice_get olds (length (moves olds news)) ≡ None → moves olds (news ++ new ∷ []) ≡ moves olds news
moves_enough [] news new next = refl
moves_enough (x ∷ olds) [] new next = cc
moves_enough (x ∷ olds) (y ∷ news) new next = ap (λ ms. record { old = x; new = y } ∷ ms) (moves_enough olds news new next)

free_one : (taken : List ℕ) (n : ℕ) (b : Bool) → list_any (λ t. t == n) taken ≡ b → free taken (n ∷ []) ≡ (if b then [] else n ∷ [])
free_one taken n b is = ap (λ x. if not x then n ∷ [] else []) is ∙ cases b
  where
    cases : (b : Bool) → (if not b then n ∷ [] else []) ≡ (if b then [] else n ∷ [])
    cases true = refl
    cases false = refl

pub free_more : (taken before : List ℕ) (n : ℕ) → list_any (λ t. t == n) taken ≡ false → free taken (before ++ n ∷ []) ≡ free taken before ++ n ∷ []
free_more taken before n open' =
    filter-append (λ x. not (list_any (λ t. t == x) taken)) before (n ∷ [])
    ∙ ap (λ xs. free taken before ++ xs) (free_one taken n false open')

pub free_same : (taken before : List ℕ) (n : ℕ) → list_any (λ t. t == n) taken ≡ true → free taken (before ++ n ∷ []) ≡ free taken before
free_same taken before n there =
    filter-append (λ x. not (list_any (λ t. t == x) taken)) before (n ∷ [])
    ∙ ap (λ xs. free taken before ++ xs) (free_one taken n true there)
    ∙ append-nil (free taken before)

range_from : (a n : ℕ) → range_with_len a (suc n) ≡ range_with_len a n ++ (a + n) ∷ []
range_from a zero = ap (λ x. x ∷ []) (sym (add-zero a))
range_from a (suc n) =
    ap (λ xs. a ∷ xs) (range_from (a + 1) n ∙ ap (λ x. range_with_len (a + 1) n ++ x ∷ []) (omega arith))

pub range_more : (n : ℕ) → range_with_len 0 (n + 1) ≡ range_with_len 0 n ++ n ∷ []
range_more n = ap (range_with_len 0) (add-one n) ∙ range_from 0 n ∙ ap (λ x. range_with_len 0 n ++ x ∷ []) (zero-add n)

-- the mask of one bit, as the code computes it
pub bit_mask : (bit : ℕ) → bit < 32 → 1 * 2 ^ bit % 4294967296 ≡ 2 ^ bit
bit_mask bit low = (let small = pow_below bit 32 low in omega arith)
