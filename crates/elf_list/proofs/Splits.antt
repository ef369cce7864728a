-- Lists that are split at one of their elements.
use Rattle.std.proofs.Common.{◌≡◌, ℕ, zero, suc, ◌<◌, List, [], ◌∷◌, ◌++◌, length, map, get_or, take, drop, refl, sym, ◌∙◌, ap, subst, Bool, true, false, cond, Some, drop-cons}
use Rattle.std.specs.Prelude.{filter, slice_get}
use Rattle.std.specs.List.{AllByRecursion}
use Rattle.std.proofs.lemmas.List.{take-append-drop}

-- a list is split at an element that a function gives this of
pub record IsSplit {A B : Type 0} (f : A → B) (xs : List A) (y : B) : Type 0 where
  pub before : List A
  pub x : A
  pub behind : List A
  pub whole : xs ≡ before ++ x ∷ behind
  pub is : f x ≡ y

one_before : {A B : Type 0} (f : A → B) (x : A) (xs : List A) (y : B) → IsSplit f xs y → IsSplit f (x ∷ xs) y
one_before f x xs y rest = record { before = x ∷ rest.before; x = rest.x; behind = rest.behind; whole = ap (λ ys. x ∷ ys) rest.whole; is = rest.is }

-- where what a function gives is split, the list is split at the same place
pub split_back : {A B : Type 0} (f : A → B) (xs : List A) (front : List B) (y : B) (back : List B) → map f xs ≡ front ++ y ∷ back → IsSplit f xs y
split_back f [] [] y back same = cc
split_back f [] (z ∷ front) y back same = cc
split_back f (x ∷ xs) [] y back same = record { before = []; x = x; behind = xs; whole = refl; is = cc }
split_back f (x ∷ xs) (z ∷ front) y back same = one_before f x xs y (split_back f xs front y back cc)

-- a list is split at each of its places
pub split_at : {A : Type 0} (xs : List A) (k : ℕ) (x : A) → k < length xs → get_or xs k x ≡ x → xs ≡ take k xs ++ x ∷ drop (suc k) xs
split_at xs k x within is =
    sym (take-append-drop k xs) ∙ ap (λ ys. take k xs ++ ys) (drop-cons xs k x within ∙ ap (λ y. y ∷ drop (suc k) xs) is)

-- the element stands behind those before it
pub element_at : {A : Type 0} (xs : List A) (x : A) (ys : List A) → slice_get (xs ++ x ∷ ys) (length xs) ≡ Some x
element_at [] x ys = refl
element_at (y ∷ xs) x ys = element_at xs x ys

-- ---- what holds of each element

pub all_from_each : {A : Type 0} (P : A → Type 0) (xs : List A) → ((k : ℕ) (x : A) → slice_get xs k ≡ Some x → P x) → AllByRecursion P xs
all_from_each P [] each = tt
all_from_each P (x ∷ xs) each = (each 0 x refl, all_from_each P xs (λ k y is. each (suc k) y is))

pub all_at : {A : Type 0} (P : A → Type 0) (xs : List A) (k : ℕ) (x : A) → AllByRecursion P xs → slice_get xs k ≡ Some x → P x
all_at P [] k x all is = cc
all_at P (y ∷ xs) zero x all is = let same : y ≡ x = cc in subst P same all.0
all_at P (y ∷ xs) (suc k) x all is = all_at P xs k x all.1 is

pub all_join : {A : Type 0} (P : A → Type 0) (xs ys : List A) → AllByRecursion P xs → AllByRecursion P ys → AllByRecursion P (xs ++ ys)
all_join P [] ys first second = second
all_join P (x ∷ xs) ys first second = (first.0, all_join P xs ys first.1 second)

pub all_left : {A : Type 0} (P : A → Type 0) (xs ys : List A) → AllByRecursion P (xs ++ ys) → AllByRecursion P xs
all_left P [] ys all = tt
all_left P (x ∷ xs) ys all = (all.0, all_left P xs ys all.1)

pub all_right : {A : Type 0} (P : A → Type 0) (xs ys : List A) → AllByRecursion P (xs ++ ys) → AllByRecursion P ys
all_right P [] ys all = all
all_right P (x ∷ xs) ys all = all_right P xs ys all.1

pub all_weaker : {A : Type 0} (P Q : A → Type 0) (xs : List A) → ((x : A) → P x → Q x) → AllByRecursion P xs → AllByRecursion Q xs
all_weaker P Q [] weaker all = tt
all_weaker P Q (x ∷ xs) weaker all = (weaker x all.0, all_weaker P Q xs weaker all.1)

pub all_filter : {A : Type 0} (P : A → Type 0) (test : A → Bool) (xs : List A) → AllByRecursion P xs → AllByRecursion P (filter test xs)
all_filter P test [] all = tt
all_filter P test (x ∷ xs) all = kept (test x) (all_filter P test xs all.1)
  where
    kept : (b : Bool) → AllByRecursion P (filter test xs) → AllByRecursion P (cond b (x ∷ filter test xs) (filter test xs))
    kept true others = (all.0, others)
    kept false others = others
