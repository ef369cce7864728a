-- Lists that are filled from the front, item by item.
use Rattle.std.proofs.Common.{◌≡◌, ◌<◌, ◌+◌, ℕ, zero, suc, List, [], ◌∷◌, ◌++◌, length, map, take, set, get_or, replicate, refl, sym, ap, ap₂, ◌∙◌, subst, arith}
use Rattle.std.proofs.Math.Seq.{take-suc-set}
use Rattle.std.specs.List.{AllByRecursion}

-- the items before the next, and that one
map_take : {B C : Type 0} (f : B → C) (xs : List B) (k : ℕ) (d : B) → k < length xs → map f (take (suc k) xs) ≡ map f (take k xs) ++ f (get_or xs k d) ∷ []
map_take f [] k d h = absurd (omega (arith, h))
map_take f (x ∷ xs) zero d h = refl
map_take f (x ∷ xs) (suc k) d h = ap (λ l. f x ∷ l) (map_take f xs k d (omega (arith, h)))

-- an item of a list that is seen in another way
pub seen_at : {A B : Type 0} (seen : A → B) (lits : List A) (k : ℕ) (a : A) → k < length lits → get_or (map seen lits) k (seen a) ≡ seen (get_or lits k a)
seen_at seen [] k a h = refl
seen_at seen (x ∷ xs) zero a h = refl
seen_at seen (x ∷ xs) (suc k) a h = seen_at seen xs k a (omega (arith, h))

-- the next item of a list that is made item by item from another
pub fill_more : {A B C : Type 0} (f : B → C) (seen : A → B) (lits : List A) (xs : List B) (ys : List C) (k : ℕ) (a : A) (y : C) → map seen lits ≡ xs → k < length lits → k < length xs → k < length ys → a ≡ get_or lits k a → y ≡ f (seen a)
    → take k ys ≡ map f (take k xs) → take (k + 1) (set ys k y) ≡ map f (take (k + 1) xs)
fill_more f seen lits xs ys k a y same in_lits below there is made front =
    let next : suc k ≡ k + 1 = omega arith in
    let here : y ≡ f (get_or xs k (seen a)) = made ∙ ap (λ e. f (seen e)) is ∙ ap f (sym (seen_at seen lits k a in_lits) ∙ ap (λ l. get_or l k (seen a)) same) in
    subst (λ (m : ℕ). take m (set ys k y) ≡ map f (take m xs)) next
    (take-suc-set ys k y there ∙ ap₂ (λ l e. l ++ e ∷ []) front here ∙ sym (map_take f xs k (seen a) below))

-- a list that is seen in another way is as long
pub length_seen : {A B : Type 0} (seen : A → B) (xs : List A) → length (map seen xs) ≡ length xs
length_seen seen [] = refl
length_seen seen (x ∷ xs) = ap suc (length_seen seen xs)

-- and so is one that it is seen as
pub same_count : {A B : Type 0} (seen : A → B) (lits : List A) (xs : List B) → map seen lits ≡ xs → length lits ≡ length xs
same_count seen lits xs same = sym (length_seen seen lits) ∙ ap length same

-- what holds of all items holds of each
pub by_index : {A : Type 0} (P : A → Type 0) (xs : List A) (k : ℕ) (d : A) → AllByRecursion P xs → k < length xs → P (get_or xs k d)
by_index P [] k d h below = absurd (omega (arith, below))
by_index P (x ∷ xs) zero d h below = h.0
by_index P (x ∷ xs) (suc k) d h below = by_index P xs k d h.1 (omega (arith, below))

-- a list of one value alone that is filled from the front
pub fill_seen : {A B : Type 0} (seen : A → B) (xs : List B) (ys : List A) (k m : ℕ) (x : A) (d e : B) → k < length xs → seen x ≡ get_or xs k e → map seen ys ≡ take k xs ++ replicate (suc m) d
    → map seen (set ys k x) ≡ take (suc k) xs ++ replicate m d
fill_seen seen [] ys k m x d e below is same = absurd (omega (arith, below))
fill_seen seen (z ∷ xs) [] zero m x d e below is same = absurd cc
fill_seen {B = B} seen (z ∷ xs) (y ∷ ys) zero m x d e below is same =
    let rest : map seen ys ≡ replicate m d = cc in
    ap₂ (λ (a : B) (l : List B). a ∷ l) is rest
fill_seen seen (z ∷ xs) [] (suc k) m x d e below is same = absurd cc
fill_seen {B = B} seen (z ∷ xs) (y ∷ ys) (suc k) m x d e below is same =
    let first : seen y ≡ z = cc in
    let rest : map seen ys ≡ take k xs ++ replicate (suc m) d = cc in
    ap₂ (λ (a : B) (l : List B). a ∷ l) first (fill_seen seen xs ys k m x d e (omega (arith, below)) is rest)
