-- The first element that passes, changed, and lists of which each element shows one of another's.
use Rattle.std.proofs.Common.{◌≡◌, ℕ, ◌<◌, List, [], ◌∷◌, Bool, true, false, cond, Some, None, length, get_or, map, find, refl, ap, sym, ◌∙◌, arith, zero, suc}
use Rattle.std.specs.Option.{option_map}
use Rattle.std.proofs.Math.ListN.{set}
use Rattle.param_areas.specs.AreaBytes.{change_first}

-- found among what is shown is what shows what is found
pub find_shown : {X Y : Type 0} (g : X → Y) (p : X → Bool) (q : Y → Bool) → ((x : X) → q (g x) ≡ p x) → (xs : List X) → find q (map g xs) ≡ option_map g (find p xs)
find_shown g p q same [] = refl
find_shown g p q same (x ∷ xs) =
    elim (p x) as (λ b. p x ≡ b → find q (g x ∷ map g xs) ≡ option_map g (cond b (Some x) (find p xs))) [
      | true ↦ λ is. ap (λ b. cond b (Some (g x)) (find q (map g xs))) (same x ∙ is)
      | false ↦ λ is. ap (λ b. cond b (Some (g x)) (find q (map g xs))) (same x ∙ is) ∙ find_shown g p q same xs
    ] refl

-- the change of what is shown shows the change
pub change_shown : {X Y : Type 0} (g : X → Y) (p : X → Bool) (q : Y → Bool) (f : X → X) (h : Y → Y) → ((x : X) → q (g x) ≡ p x) → (xs : List X) → ((x : X) → find p xs ≡ Some x → h (g x) ≡ g (f x)) → change_first q h (map g xs) ≡ map g (change_first p f xs)
change_shown g p q f h same [] each = refl
change_shown g p q f h same (x ∷ xs) each =
    elim (p x) as (λ b. p x ≡ b → ((y : _) → cond b (Some x) (find p xs) ≡ Some y → h (g y) ≡ g (f y)) → change_first q h (g x ∷ map g xs) ≡ map g (cond b (f x ∷ xs) (x ∷ change_first p f xs))) [
      | true ↦ λ is at. ap (λ b. cond b (h (g x) ∷ map g xs) (g x ∷ change_first q h (map g xs))) (same x ∙ is) ∙ ap (λ y. y ∷ map g xs) (at x refl)
      | false ↦ λ is at. ap (λ b. cond b (h (g x) ∷ map g xs) (g x ∷ change_first q h (map g xs))) (same x ∙ is) ∙ ap (λ ys. g x ∷ ys) (change_shown g p q f h same xs at)
    ] refl each

-- none passes
pub change_none : {X : Type 0} (p : X → Bool) (f : X → X) (d : X) → (xs : List X) → ((k : ℕ) → k < length xs → p (get_or xs k d) ≡ false) → change_first p f xs ≡ xs
change_none p f d [] none = refl
change_none p f d (x ∷ xs) none =
    ap (λ b. cond b (f x ∷ xs) (x ∷ change_first p f xs)) (none 0 (omega arith)) ∙ ap (λ ys. x ∷ ys) (change_none p f d xs (λ k h. none (suc k) (omega arith)))

-- the first that passes stands at i
pub change_at : {X : Type 0} (p : X → Bool) (f : X → X) (d : X) → (xs : List X) (i : ℕ) → i < length xs → p (get_or xs i d) ≡ true → ((k : ℕ) → k < i → p (get_or xs k d) ≡ false) → change_first p f xs ≡ set xs i (f (get_or xs i d))
change_at p f d [] i h passes before = absurd (omega arith)
change_at p f d (x ∷ xs) zero h passes before = ap (λ b. cond b (f x ∷ xs) (x ∷ change_first p f xs)) passes
change_at p f d (x ∷ xs) (suc i) h passes before =
    ap (λ b. cond b (f x ∷ xs) (x ∷ change_first p f xs)) (before 0 (omega arith))
    ∙ ap (λ ys. x ∷ ys) (change_at p f d xs i (omega arith) passes (λ k below. before (suc k) (omega arith)))

-- it is the one that is found
pub find_first : {X : Type 0} (p : X → Bool) (d : X) → (xs : List X) (i : ℕ) → i < length xs → p (get_or xs i d) ≡ true → ((k : ℕ) → k < i → p (get_or xs k d) ≡ false) → find p xs ≡ Some (get_or xs i d)
find_first p d [] i h passes before = absurd (omega arith)
find_first p d (x ∷ xs) zero h passes before = ap (λ b. cond b (Some x) (find p xs)) passes
find_first p d (x ∷ xs) (suc i) h passes before =
    ap (λ b. cond b (Some x) (find p xs)) (before 0 (omega arith))
    ∙ find_first p d xs i (omega arith) passes (λ k below. before (suc k) (omega arith))

-- none is found where none passes
pub find_none : {X : Type 0} (p : X → Bool) (d : X) → (xs : List X) → ((k : ℕ) → k < length xs → p (get_or xs k d) ≡ false) → find p xs ≡ None
find_none p d [] none = refl
find_none p d (x ∷ xs) none =
    ap (λ b. cond b (Some x) (find p xs)) (none 0 (omega arith)) ∙ find_none p d xs (λ k h. none (suc k) (omega arith))

-- found after a change that keeps what is tested
pub find_changed : {X : Type 0} (test : X → Bool) (f : X → X) → ((x : X) → test (f x) ≡ test x) → (xs : List X) → find test (change_first test f xs) ≡ option_map f (find test xs)
find_changed test f same [] = refl
find_changed test f same (x ∷ xs) =
    elim (test x) as (λ b. test x ≡ b → find test (cond b (f x ∷ xs) (x ∷ change_first test f xs)) ≡ option_map f (cond b (Some x) (find test xs))) [
      | true ↦ λ is. ap (λ b. cond b (Some (f x)) (find test xs)) (same x ∙ is)
      | false ↦ λ is. ap (λ b. cond b (Some x) (find test (change_first test f xs))) is ∙ find_changed test f same xs
    ] refl

-- what another test finds, that fails at what changes
pub find_other : {X : Type 0} (test other : X → Bool) (f : X → X) → ((x : X) → test x ≡ true → other x ≡ false) → ((x : X) → test x ≡ true → other (f x) ≡ false) → (xs : List X) → find other (change_first test f xs) ≡ find other xs
find_other test other f before after [] = refl
find_other test other f before after (x ∷ xs) =
    elim (test x) as (λ b. test x ≡ b → find other (cond b (f x ∷ xs) (x ∷ change_first test f xs)) ≡ cond (other x) (Some x) (find other xs)) [
      | true ↦ λ is. ap (λ b. cond b (Some (f x)) (find other xs)) (after x is) ∙ sym (ap (λ b. cond b (Some x) (find other xs)) (before x is))
      | false ↦ λ is. ap (λ o. cond (other x) (Some x) o) (find_other test other f before after xs)
    ] refl
