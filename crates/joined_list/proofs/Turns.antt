-- The parts of two lists by turns: what holds of each of them, and functions of lists that go through them.
use Rattle.std.proofs.Common.{◌≡◌, List, [], ◌++◌, map, sym, ◌∙◌, ap, ap₂, append-nil}
use Rattle.std.specs.List.{AllByRecursion}
use Rattle.component_list.specs.declared.component.Component.{Component}
use Rattle.joined_list.specs.Parts.{first_part, second_part, third_part}
use Rattle.joined_list.proofs.EachElement.{all_append, all_map}
use Rattle.joined_list.proofs.ThreeParts.{in_parts, parts_are_whole}

-- a function's values at the parts of the first list, and another's at those of the second
abbrev pub by_turns : {X : Type 0} → (Component → X) → (Component → X) → List Component → List Component → List X
by_turns f g a b =
    map f (first_part a) ++ map g (first_part b) ++ map f (second_part a) ++ map g (second_part b)
    ++ map f (third_part a) ++ map g (third_part b)

-- ---- what holds of all

pub all_turned : {X : Type 0} (P : X → Type 0) (f g : Component → X) (a b : List Component)
    → AllByRecursion (λ c. P (f c)) a → AllByRecursion (λ c. P (g c)) b → AllByRecursion P (by_turns f g a b)
all_turned P f g a b one other =
    let x = in_parts (λ c. P (f c)) a one in
    let y = in_parts (λ c. P (g c)) b other in
    all_append P _ _ (all_append P _ _ (all_append P _ _ (all_append P _ _ (all_append P _ _
    (all_map P f (first_part a) x.first) (all_map P g (first_part b) y.first))
    (all_map P f (second_part a) x.second)) (all_map P g (second_part b) y.second))
    (all_map P f (third_part a) x.third)) (all_map P g (third_part b) y.third)

-- ---- functions of lists that go through

-- a list's value is that of its front before that of the rest
abbrev pub GoesThrough : {X Y : Type 0} → (List X → List Y) → Type 0
GoesThrough {X} h = (xs ys : List X) → h (xs ++ ys) ≡ h xs ++ h ys

six : {X Y : Type 0} (h : List X → List Y) → GoesThrough h → (p q r s t u : List X)
    → h (p ++ q ++ r ++ s ++ t ++ u) ≡ h p ++ h q ++ h r ++ h s ++ h t ++ h u
six h through p q r s t u =
    through (p ++ q ++ r ++ s ++ t) u
    ∙ ap (λ x. x ++ h u) (through (p ++ q ++ r ++ s) t
    ∙ ap (λ x. x ++ h t) (through (p ++ q ++ r) s
    ∙ ap (λ x. x ++ h s) (through (p ++ q) r
    ∙ ap (λ x. x ++ h r) (through p q))))

six_same : {Y : Type 0} {p q r s t u v w x y z o : List Y} → p ≡ v → q ≡ w → r ≡ x → s ≡ y → t ≡ z → u ≡ o
    → p ++ q ++ r ++ s ++ t ++ u ≡ v ++ w ++ x ++ y ++ z ++ o
six_same e1 e2 e3 e4 e5 e6 =
    ap₂ (λ m n. m ++ n) (ap₂ (λ m n. m ++ n) (ap₂ (λ m n. m ++ n) (ap₂ (λ m n. m ++ n) (ap₂ (λ m n. m ++ n) e1 e2) e3) e4) e5) e6

-- each part goes through
pub turned : {X Y : Type 0} (h : List X → List Y) → GoesThrough h → (f g : Component → X) (new_f new_g : Component → Y)
    → ((cs : List Component) → h (map f cs) ≡ map new_f cs) → ((cs : List Component) → h (map g cs) ≡ map new_g cs)
    → (a b : List Component) → h (by_turns f g a b) ≡ by_turns new_f new_g a b
turned h through f g new_f new_g here there a b =
    six h through (map f (first_part a)) (map g (first_part b)) (map f (second_part a)) (map g (second_part b)) (map f (third_part a)) (map g (third_part b))
    ∙ six_same (here (first_part a)) (there (first_part b)) (here (second_part a)) (there (second_part b)) (here (third_part a)) (there (third_part b))

three : {Y : Type 0} (new : Component → Y) → GoesThrough (map new) → (parts : List Component)
    → map new (first_part parts) ++ map new (second_part parts) ++ map new (third_part parts) ≡ map new parts
three new through parts =
    ap (λ ys. ys ++ map new (third_part parts)) (sym (through (first_part parts) (second_part parts)))
    ∙ sym (through (first_part parts ++ second_part parts) (third_part parts))
    ∙ ap (map new) (parts_are_whole parts)

-- nothing is left of the second list
pub first_left : {X Y : Type 0} (h : List X → List Y) → GoesThrough h → (f g : Component → X) (new : Component → Y) → GoesThrough (map new)
    → ((cs : List Component) → h (map f cs) ≡ map new cs) → ((cs : List Component) → h (map g cs) ≡ [])
    → (a b : List Component) → h (by_turns f g a b) ≡ map new a
first_left h through f g new also here there a b =
    six h through (map f (first_part a)) (map g (first_part b)) (map f (second_part a)) (map g (second_part b)) (map f (third_part a)) (map g (third_part b))
    ∙ six_same (here (first_part a)) (there (first_part b)) (here (second_part a)) (there (second_part b)) (here (third_part a)) (there (third_part b))
    ∙ append-nil _ ∙ ap (λ m. m ++ map new (third_part a)) (append-nil _ ∙ ap (λ m. m ++ map new (second_part a)) (append-nil (map new (first_part a))))
    ∙ three new also a

-- nothing is left of the first list
pub second_left : {X Y : Type 0} (h : List X → List Y) → GoesThrough h → (f g : Component → X) (new : Component → Y) → GoesThrough (map new)
    → ((cs : List Component) → h (map f cs) ≡ []) → ((cs : List Component) → h (map g cs) ≡ map new cs)
    → (a b : List Component) → h (by_turns f g a b) ≡ map new b
second_left h through f g new also here there a b =
    six h through (map f (first_part a)) (map g (first_part b)) (map f (second_part a)) (map g (second_part b)) (map f (third_part a)) (map g (third_part b))
    ∙ six_same (here (first_part a)) (there (first_part b)) (here (second_part a)) (there (second_part b)) (here (third_part a)) (there (third_part b))
    ∙ ap (λ m. m ++ map new (third_part b)) (append-nil _ ∙ ap (λ m. m ++ map new (second_part b)) (append-nil (map new (first_part b))))
    ∙ three new also b
