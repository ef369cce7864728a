-- Numbers that are not taken, and the new numbers of areas.
use Rattle.std.proofs.Common.{◌≡◌, ℕ, suc, ◌+◌, ◌≤◌, List, [], ◌∷◌, length, refl, sym, ◌∙◌, ap, ap₂, subst, arith, Bool, true, false}
use Rattle.std.specs.Prelude.{if◌then◌else◌, ◌==◌, ◌||◌, not}
use Rattle.std.specs.List.{AllByRecursion}
use Rattle.std.proofs.lemmas.Bool.{eq-eqb, eqb-true}
use Rattle.list_changes.proofs.Kept.{has, AreDistinct, or_false}
use Rattle.joined_list.specs.NewNumbers.{moves, free, area_by}

kept_has : (x y : ℕ) (b : Bool) (rest : List ℕ) → has x rest ≡ false → (b ≡ true → (y == x) ≡ false) → has x (if b then y ∷ rest else rest) ≡ false
kept_has x y true rest none other = ap₂ (λ p q. p || q) (other refl) none
kept_has x y false rest none other = none

not_true : (b : Bool) → not b ≡ true → b ≡ false
not_true true h = cc
not_true false h = refl

-- a number that is taken is not free
pub taken_not_free : (taken numbers : List ℕ) (x : ℕ) → has x taken ≡ true → has x (free taken numbers) ≡ false
taken_not_free taken [] x is = refl
taken_not_free taken (y ∷ ys) x is =
    kept_has x y (not (has y taken)) (free taken ys) (taken_not_free taken ys x is) (λ open'. differs (y == x) refl (not_true (has y taken) open'))
  where
    differs : (b : Bool) → (y == x) ≡ b → has y taken ≡ false → b ≡ false
    differs false same open' = refl
    differs true same open' =
        let one : has y taken ≡ has x taken = ap (λ n. has n taken) (eqb-true y x same) in
        let both : true ≡ false = sym is ∙ sym one ∙ open' in
        cc

-- a number that is none of these is no free one of them
none_free : (taken numbers : List ℕ) (x : ℕ) → has x numbers ≡ false → has x (free taken numbers) ≡ false
none_free taken [] x none = refl
none_free taken (y ∷ ys) x none =
    let both = or_false (y == x) (has x ys) none in
    kept_has x y (not (has y taken)) (free taken ys) (none_free taken ys x both.1) (λ open'. both.0)

pub free_distinct : (taken numbers : List ℕ) → AreDistinct numbers → AreDistinct (free taken numbers)
free_distinct taken [] apart = tt
free_distinct taken (y ∷ ys) apart = cases (not (has y taken)) (free_distinct taken ys apart.1)
  where
    cases : (b : Bool) → AreDistinct (free taken ys) → AreDistinct (if b then y ∷ free taken ys else free taken ys)
    cases true others = (none_free taken ys y apart.0, others)
    cases false others = others

pub free_all : (P : ℕ → Type 0) (taken numbers : List ℕ) → AllByRecursion P numbers → AllByRecursion P (free taken numbers)
free_all P taken [] all = tt
free_all P taken (y ∷ ys) all = cases (not (has y taken)) (free_all P taken ys all.1)
  where
    cases : (b : Bool) → AllByRecursion P (free taken ys) → AllByRecursion P (if b then y ∷ free taken ys else free taken ys)
    cases true others = (all.0, others)
    cases false others = others

-- ---- there are enough free numbers

pub flipped : (x y : ℕ) → (x == y) ≡ false → (y == x) ≡ false
flipped x y other = grind arith

free_none : (numbers : List ℕ) → free [] numbers ≡ numbers
free_none [] = refl
free_none (y ∷ ys) = ap (λ xs. y ∷ xs) (free_none ys)

-- one number that is taken, but is none of these
fewer_same : (t : ℕ) (ts ys : List ℕ) → has t ys ≡ false → free (t ∷ ts) ys ≡ free ts ys
fewer_same t ts [] none = refl
fewer_same t ts (y ∷ ys) none =
    let both = or_false (y == t) (has t ys) none in
    ap₂ (λ b xs. if not (b || has y ts) then y ∷ xs else xs) (flipped y t both.0) (fewer_same t ts ys both.1)

fewer_by_one : (t : ℕ) (ts ys : List ℕ) → AreDistinct ys → length (free ts ys) ≤ suc (length (free (t ∷ ts) ys))
fewer_by_one t ts [] apart = omega arith
fewer_by_one t ts (y ∷ ys) apart = cases (t == y) refl (fewer_by_one t ts ys apart.1)
  where
    longer : (b : Bool) (xs : List ℕ) → length (if b then y ∷ xs else xs) ≤ suc (length xs)
    longer true xs = omega arith
    longer false xs = omega arith

    either : (b : Bool) (xs zs : List ℕ) → length xs ≤ suc (length zs) → length (if b then y ∷ xs else xs) ≤ suc (length (if b then y ∷ zs else zs))
    either true xs zs few = omega arith
    either false xs zs few = few

    cases : (b : Bool) → (t == y) ≡ b → length (free ts ys) ≤ suc (length (free (t ∷ ts) ys))
        → length (if not (has y ts) then y ∷ free ts ys else free ts ys)
        ≤ suc (length (if not (b || has y ts) then y ∷ free (t ∷ ts) ys else free (t ∷ ts) ys))
    cases true is others =
        let same : free (t ∷ ts) ys ≡ free ts ys = fewer_same t ts ys (ap (λ n. has n ys) (eqb-true t y is) ∙ apart.0) in
        subst (λ xs. length (if not (has y ts) then y ∷ free ts ys else free ts ys) ≤ suc (length xs)) (sym same)
        (longer (not (has y ts)) (free ts ys))
    cases false is others = either (not (has y ts)) (free ts ys) (free (t ∷ ts) ys) others

pub enough_free : (taken numbers : List ℕ) → AreDistinct numbers → length numbers ≤ length (free taken numbers) + length taken
enough_free [] numbers apart = (let same = ap length (free_none numbers) in omega arith)
enough_free (t ∷ ts) numbers apart =
    (let others = enough_free ts numbers apart in let one = fewer_by_one t ts numbers apart in omega arith)

-- a free number is not taken
pub free_not_taken : (taken numbers : List ℕ) (x : ℕ) → has x (free taken numbers) ≡ true → has x taken ≡ false
free_not_taken taken numbers x is = cases (has x taken) refl
  where
    cases : (b : Bool) → has x taken ≡ b → b ≡ false
    cases false here = refl
    cases true here =
        let both : false ≡ true = sym (taken_not_free taken numbers x here) ∙ is in
        cc

-- a free number is one of the numbers
pub free_is_in : (taken numbers : List ℕ) (x : ℕ) → has x (free taken numbers) ≡ true → has x numbers ≡ true
free_is_in taken numbers x is = cases (has x numbers) refl
  where
    cases : (b : Bool) → has x numbers ≡ b → b ≡ true
    cases true here = refl
    cases false none = (let both : false ≡ true = sym (none_free taken numbers x none) ∙ is in cc)

-- a number that is among others is none that is not
pub has_differs : (xs : List ℕ) (x y : ℕ) → has x xs ≡ true → has y xs ≡ false → (y == x) ≡ false
has_differs xs x y some none = cases (y == x) refl
  where
    cases : (b : Bool) → (y == x) ≡ b → b ≡ false
    cases false is = refl
    cases true is =
        let both : true ≡ false = sym some ∙ ap (λ n. has n xs) (sym (eqb-true y x is)) ∙ none in
        cc

-- ---- new numbers of areas

pub area_is_new : (olds news : List ℕ) (x : ℕ) → has x olds ≡ true → length olds ≤ length news → has (area_by (moves olds news) x) news ≡ true
area_is_new [] news x is enough = cc
area_is_new (old ∷ olds) [] x is enough = absurd (omega arith)
area_is_new (old ∷ olds) (new ∷ news) x is enough = cases (old == x) is (λ here. area_is_new olds news x here (omega arith))
  where
    either : (b c : Bool) → c ≡ true → (b || c) ≡ true
    either true c h = refl
    either false c h = h

    cases : (b : Bool) → (b || has x olds) ≡ true → (has x olds ≡ true → has (area_by (moves olds news) x) news ≡ true)
        → has (if b then new else area_by (moves olds news) x) (new ∷ news) ≡ true
    cases true is behind = ap (λ b. b || has new news) (eq-eqb new new refl)
    cases false is behind = either (new == area_by (moves olds news) x) (has (area_by (moves olds news) x) news) (behind is)

-- two areas have one new number exactly where they are one
pub area_injective : (olds news : List ℕ) (x y : ℕ) → AreDistinct news → length olds ≤ length news → has x olds ≡ true → has y olds ≡ true
    → (y == x) ≡ false → (area_by (moves olds news) y == area_by (moves olds news) x) ≡ false
area_injective [] news x y apart enough here there other = cc
area_injective (old ∷ olds) [] x y apart enough here there other = absurd (omega arith)
area_injective (old ∷ olds) (new ∷ news) x y apart enough here there other =
    cases (old == x) (old == y) refl refl here there
    (λ is. area_is_new olds news x is (omega arith)) (λ is. area_is_new olds news y is (omega arith))
    (λ is also. area_injective olds news x y apart.1 (omega arith) is also other)
  where
    cases : (p q : Bool) → (old == x) ≡ p → (old == y) ≡ q → (p || has x olds) ≡ true → (q || has y olds) ≡ true
        → (has x olds ≡ true → has (area_by (moves olds news) x) news ≡ true)
        → (has y olds ≡ true → has (area_by (moves olds news) y) news ≡ true)
        → (has x olds ≡ true → has y olds ≡ true → (area_by (moves olds news) y == area_by (moves olds news) x) ≡ false)
        → ((if q then new else area_by (moves olds news) y) == (if p then new else area_by (moves olds news) x)) ≡ false
    cases true true is also here there first second both =
        let same : y ≡ x = sym (eqb-true old y also) ∙ eqb-true old x is in
        let clash : false ≡ true = sym other ∙ eq-eqb y x same in
        cc
    cases true false is also here there first second both =
        flipped new (area_by (moves olds news) y) (has_differs news (area_by (moves olds news) y) new (second there) apart.0)
    cases false true is also here there first second both =
        has_differs news (area_by (moves olds news) x) new (first here) apart.0
    cases false false is also here there first second both = both here there
