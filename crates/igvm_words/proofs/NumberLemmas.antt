-- A word of digits, read as a number.
use Rattle.std.proofs.Common.{◌≡◌, ℕ, ◌^◌, ◌<◌, List, [], ◌∷◌, length, refl, sym, ◌∙◌, ap, arith, Bool, true, false, Some, None, Result, Ok, Err}
use Rattle.std.specs.Prelude.{nat_lt, ◌&&◌, if◌then◌else◌}
use Rattle.std.specs.List.{list_all}
use Rattle.std.specs.Char.{is_ascii_digit}
use Rattle.std.specs.Str.{all_ascii_digits}
use Rattle.std.specs.Str.Parse.{digits_value, ParsesUnsigned}
use Rattle.std.specs.Result.{OkIff, result_ok}
use Rattle.std.proofs.lemmas.Str.Parse.{IsNumeralModel, numerals_by_value, tells_all_ascii_digits, parse_digits}
use Rattle.igvm_words.specs.Words.{is_decimal, number_of}

pub own : IsNumeralModel (λ ds. all_ascii_digits ds ≡ true) (digits_value 10)
own = numerals_by_value (λ ds. all_ascii_digits ds ≡ true) tells_all_ascii_digits

pub all_digits : (word : List ℕ) → list_all is_ascii_digit word ≡ all_ascii_digits word
all_digits [] = refl
all_digits (c ∷ cs) = ap (λ b. is_ascii_digit c && b) (all_digits cs)

pub both_left : (a b : Bool) → (a && b) ≡ true → a ≡ true
both_left true b h = refl
both_left false b h = h

pub digits_alone : (word : List ℕ) → is_decimal word ≡ true → all_ascii_digits word ≡ true
digits_alone [] h = cc
digits_alone (c ∷ cs) h = sym (all_digits (c ∷ cs)) ∙ both_left _ _ h

pub some_digit : (word : List ℕ) → is_decimal word ≡ true → 0 < length word
some_digit [] h = cc
some_digit (c ∷ cs) h = omega arith

judged : {E : Type 0} (word : List ℕ) (r : Result ℕ E) (small : Bool) → nat_lt (digits_value 10 word) (2 ^ 32) ≡ small
    → 0 < length word → OkIff r ((0 < length word) × (digits_value 10 word < 2 ^ 32)) (digits_value 10 word)
    → result_ok r ≡ (if small then Some (digits_value 10 word) else None)
judged word (Ok n) true s some h = ap (λ x. Some x) h.1
judged word (Ok n) false s some h = absurd (grind (arith, s, h.0.1))
judged word (Err e) true s some h = absurd (h (some, grind (arith, s)))
judged word (Err e) false s some h = refl

-- what `parse` gives for decimal digits
pub parsed : {E : Type 0} (word : List ℕ) (r : Result ℕ E) → is_decimal word ≡ true → ParsesUnsigned 32 10 word r → result_ok r ≡ number_of word
unfolding number_of
parsed word r d h =
    judged word r _ refl (some_digit word d) (parse_digits own 32 word r h (digits_alone word d))
    ∙ sym (ap (λ b. if b && nat_lt (digits_value 10 word) (2 ^ 32) then Some (digits_value 10 word) else None) d)

-- a word of other bytes is no number
pub other_word : (word : List ℕ) → is_decimal word ≡ false → number_of word ≡ None
unfolding number_of
other_word word d = ap (λ b. if b && nat_lt (digits_value 10 word) (2 ^ 32) then Some (digits_value 10 word) else None) d
