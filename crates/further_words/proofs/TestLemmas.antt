-- What a test tells that was passed, and a choice that gave something.
use Rattle.std.proofs.Common.{◌≡◌, ℕ, List, [], ◌∷◌, refl, ◌∙◌, ap, arith, Bool, true, false, Option, Some, None}
use Rattle.std.specs.Prelude.{◌&&◌, ◌==◌, if◌then◌else◌}
use Rattle.std.specs.Option.{option_map}
use Rattle.igvm_words.specs.Words.{is_text}

pub both_left : (a b : Bool) → (a && b) ≡ true → a ≡ true
both_left true b h = refl
both_left false b h = h

pub both_right : (a b : Bool) → (a && b) ≡ true → b ≡ true
both_right true b h = h
both_right false b h = cc

same_number : (a b : ℕ) → (a == b) ≡ true → a ≡ b
same_number a b h = grind (arith, h)

pub text_same : (word text : List ℕ) → is_text word text ≡ true → word ≡ text
text_same [] [] h = refl
text_same [] (b ∷ text) h = cc
text_same (a ∷ word) [] h = cc
text_same (a ∷ word) (b ∷ text) h =
    ap (λ x. x ∷ word) (same_number a b (both_left _ _ h)) ∙ ap (λ xs. b ∷ xs) (text_same word text (both_right (a == b) _ h))

pub mapped : {T U : Type 0} (f : T → U) (o : Option T) (y : U) → option_map f o ≡ Some y → (x : T) × (o ≡ Some x) × (f x ≡ y)
mapped f None y h = cc
mapped f (Some x) y h = (x, refl, cc)

-- a choice that gave something took its first way
pub taken_if : {T : Type 0} (b : Bool) (o : Option T) (y : T) → (if b then o else None) ≡ Some y → (b ≡ true) × (o ≡ Some y)
taken_if true o y h = (refl, h)
taken_if false o y h = cc
