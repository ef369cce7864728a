-- Masks that are renumbered bit by bit.
use Rattle.std.proofs.Common.{◌≡◌, ℕ, zero, suc, ◌≤◌, List, [], ◌∷◌, length, refl, sym, ◌∙◌, ap, ap₂, subst, arith, Some, Bool, true, false}
use Rattle.std.specs.Prelude.{if◌then◌else◌, ◌==◌, ◌||◌, ◌&&◌, bit_and, bit_or}
use Rattle.std.specs.List.{list_any, AllByRecursion, slice_get}
use Rattle.std.specs.Int.Bits.{or_zero_l, or_zero_r}
use Rattle.std.proofs.lemmas.Bool.{eq-eqb, eqb-true}
use Rattle.list_changes.proofs.Bits.{IsBit, one_of_bits, apart, apart_or, apart_self, apart_other, apart_zero}
use Rattle.list_changes.proofs.Kept.{has, AreDistinct, or_false}
use Rattle.joined_list.specs.NewNumbers.{moves, mask_by, area_by}
use Rattle.joined_list.specs.declared.moves.Move.{Move}
use Rattle.joined_list.proofs.FreeNumbers.{flipped, has_differs}

-- the new bits are bits, and no two of them are one
abbrev pub AreMoves : List Move → Type 0
AreMoves [] = Unit {0}
AreMoves (move ∷ others) = IsBit move.new × (list_any (λ (o : Move). o.new == move.new) others ≡ false) × AreMoves others

-- whether one of the new bits is this one
abbrev pub gives : List Move → ℕ → Bool
gives ms m = list_any (λ (o : Move). o.new == m) ms

either_apart : (b : Bool) (x m : ℕ) → (b ≡ false → apart x m ≡ true) → apart (if b then 0 else x) m ≡ true
either_apart true x m other = apart_zero m
either_apart false x m other = other refl

-- a bit that is none of the new ones is in no renumbered mask
pub none_given : (ms : List Move) (m mask : ℕ) → AreMoves ms → IsBit m → gives ms m ≡ false → apart (mask_by ms mask) m ≡ true
none_given [] m mask are is none = apart_zero m
none_given (move ∷ others) m mask are is none =
    let both = or_false (move.new == m) (gives others m) none in
    apart_or (if bit_and mask move.old == 0 then 0 else move.new) (mask_by others mask) m is
    ∙ ap₂ (λ b c. b && c)
    (either_apart (bit_and mask move.old == 0) move.new m (λ shared. apart_other move.new m are.0 is both.0))
    (none_given others m mask are.2 is both.1)

either_self : (b : Bool) (m : ℕ) → IsBit m → apart (if b then 0 else m) m ≡ b
either_self true m is = apart_zero m
either_self false m is = apart_self m is

and_true : (b : Bool) → (b && true) ≡ b
and_true true = refl
and_true false = refl

-- a renumbered mask has a new bit exactly where the mask has the old one
pub bit_given : (ms : List Move) (k : ℕ) (move : Move) (mask : ℕ) → AreMoves ms → slice_get ms k ≡ Some move
    → (apart (mask_by ms mask) move.new ≡ apart mask move.old) × IsBit move.new × (gives ms move.new ≡ true)
bit_given [] k move mask are here = cc
bit_given (first ∷ others) zero move mask are here =
    let is : first ≡ move = cc in
    subst (λ (m : Move). (apart (mask_by (first ∷ others) mask) m.new ≡ apart mask m.old) × IsBit m.new × (gives (first ∷ others) m.new ≡ true)) is (
      apart_or (if apart mask first.old then 0 else first.new) (mask_by others mask) first.new are.0
          ∙ ap₂ (λ b c. b && c) (either_self (apart mask first.old) first.new are.0) (none_given others first.new mask are.2 are.0 are.1)
          ∙ and_true (apart mask first.old),
      are.0,
      ap (λ b. b || gives others first.new) (eq-eqb first.new first.new refl),
    )
bit_given (first ∷ others) (suc k) move mask are here =
    let behind = bit_given others k move mask are.2 here in
    let other : (first.new == move.new) ≡ false = differs first.new move.new are.1 behind.2 in (
      apart_or (if apart mask first.old then 0 else first.new) (mask_by others mask) move.new behind.1
          ∙ ap₂ (λ b c. b && c) (either_apart (apart mask first.old) first.new move.new (λ shared. apart_other first.new move.new are.0 behind.1 other)) behind.0,
      behind.1,
      ap₂ (λ b c. b || c) other behind.2,
    )
  where
    differs : (x y : ℕ) → gives others x ≡ false → gives others y ≡ true → (x == y) ≡ false
    differs x y none some = cases (x == y) refl
      where
        cases : (b : Bool) → (x == y) ≡ b → b ≡ false
        cases false is = refl
        cases true is =
            let same : x ≡ y = eqb-true x y is in
            let both : false ≡ true = sym none ∙ ap (gives others) same ∙ some in
            cc

-- ---- moves from old masks to new ones

pub gives_none : (olds news : List ℕ) (x : ℕ) → has x news ≡ false → gives (moves olds news) x ≡ false
gives_none [] news x none = refl
gives_none (old ∷ olds) [] x none = refl
gives_none (old ∷ olds) (new ∷ news) x none =
    let both = or_false (new == x) (has x news) none in
    ap₂ (λ p q. p || q) both.0 (gives_none olds news x both.1)

pub are_moves : (olds news : List ℕ) → AllByRecursion IsBit news → AreDistinct news → AreMoves (moves olds news)
are_moves [] news bits apart = tt
are_moves (old ∷ olds) [] bits apart = tt
are_moves (old ∷ olds) (new ∷ news) bits apart =
    (bits.0, gives_none olds news new apart.0, are_moves olds news bits.1 apart.1)

pub move_at : (olds news : List ℕ) (k old : ℕ) → slice_get olds k ≡ Some old → length olds ≤ length news
    → (new : ℕ) × (slice_get (moves olds news) k ≡ Some (record { old = old; new = new })) × (slice_get news k ≡ Some new)
move_at [] news k old here enough = cc
move_at (x ∷ olds) [] k old here enough = absurd (omega arith)
move_at (x ∷ olds) (y ∷ news) zero old here enough =
    let is : x ≡ old = cc in
    (y, ap (λ o. Some (record { old = o; new = y })) is, refl)
move_at (x ∷ olds) (y ∷ news) (suc k) old here enough = move_at olds news k old here (omega arith)

-- ---- a mask of one bit that is an old one becomes the new one

none_of : (olds news : List ℕ) (m : ℕ) → IsBit m → AllByRecursion IsBit olds → has m olds ≡ false → mask_by (moves olds news) m ≡ 0
none_of [] news m is bits none = refl
none_of (old ∷ olds) [] m is bits none = refl
none_of (old ∷ olds) (new ∷ news) m is bits none =
    let both = or_false (old == m) (has m olds) none in
    ap₂ (λ b x. bit_or (if b then 0 else new) x) (apart_other m old is bits.0 (flipped old m both.0)) (none_of olds news m is bits.1 both.1)

pub mask_moves : (olds news : List ℕ) (k : ℕ) (move : Move) → AllByRecursion IsBit olds → AreDistinct olds
    → slice_get (moves olds news) k ≡ Some move → (mask_by (moves olds news) move.old ≡ move.new) × (has move.old olds ≡ true)
mask_moves [] news k move bits distinct here = cc
mask_moves (old ∷ olds) [] k move bits distinct here = cc
mask_moves (old ∷ olds) (new ∷ news) zero move bits distinct here =
    let is : record { old = old; new = new } ≡ move = cc in
    subst (λ (m : Move). (mask_by (moves (old ∷ olds) (new ∷ news)) m.old ≡ m.new) × (has m.old (old ∷ olds) ≡ true)) is (
      ap₂ (λ b x. bit_or (if b then 0 else new) x) (apart_self old bits.0) (none_of olds news old bits.0 bits.1 distinct.0)
          ∙ or_zero_r new,
      ap (λ b. b || has old olds) (eq-eqb old old refl),
    )
mask_moves (old ∷ olds) (new ∷ news) (suc k) move bits distinct here =
    let behind = mask_moves olds news k move bits.1 distinct.1 here in
    let other : (old == move.old) ≡ false = has_differs olds move.old old behind.1 distinct.0 in (
      ap₂ (λ b x. bit_or (if b then 0 else new) x)
          (apart_other move.old old (one_of_bits olds move.old bits.1 behind.1) bits.0 (flipped old move.old other)) behind.0
          ∙ or_zero_l move.new,
      ap₂ (λ b c. b || c) other behind.1,
    )

-- a mask that is an old one is renumbered as an area is
pub mask_is_area : (olds news : List ℕ) (x : ℕ) → AllByRecursion IsBit olds → AreDistinct olds → length olds ≤ length news → has x olds ≡ true
    → mask_by (moves olds news) x ≡ area_by (moves olds news) x
mask_is_area [] news x bits distinct enough is = cc
mask_is_area (old ∷ olds) [] x bits distinct enough is = absurd (omega arith)
mask_is_area (old ∷ olds) (new ∷ news) x bits distinct enough is =
    cases (old == x) refl is (λ here. mask_is_area olds news x bits.1 distinct.1 (omega arith) here)
  where
    cases : (b : Bool) → (old == x) ≡ b → (b || has x olds) ≡ true → (has x olds ≡ true → mask_by (moves olds news) x ≡ area_by (moves olds news) x)
        → bit_or (if apart x old then 0 else new) (mask_by (moves olds news) x) ≡ (if b then new else area_by (moves olds news) x)
    cases true same is behind =
        subst (λ y. bit_or (if apart y old then 0 else new) (mask_by (moves olds news) y) ≡ new) (eqb-true old x same)
        (ap₂ (λ b n. bit_or (if b then 0 else new) n) (apart_self old bits.0) (none_of olds news old bits.0 bits.1 distinct.0) ∙ or_zero_r new)
    cases false other is behind =
        ap₂ (λ b n. bit_or (if b then 0 else new) n) (apart_other x old (one_of_bits olds x bits.1 is) bits.0 (flipped old x other)) (behind is)
        ∙ or_zero_l (area_by (moves olds news) x)
