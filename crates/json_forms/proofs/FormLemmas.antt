-- Digits, keys and names.
use Rattle.std.proofs.Common.{◌≡◌, ℕ, ◌+◌, ◌*◌, ◌^◌, ◌<◌, ◌≤◌, ◌&&◌, List, [], ◌∷◌, length, get_or, take, map, refl, sym, ap, ◌∙◌, subst, arith, lit<, ltb, true, false, Bool, Bor, bytes_eq, string_bytes, Some, None}
use Rattle.std.proofs.lemmas.Bool.Decides.{nat_tests}
use Rattle.std.proofs.lemmas.Int.Digits.{digits_more, digits_value_more, digits_value-lt}
use Rattle.std.proofs.Math.Nat.{pow-le-pow_right}
use Rattle.std.proofs.lemmas.List.{length-take-le, take_all}
use Rattle.std.proofs.lemmas.List.Folds.{list_all_at}
use Rattle.std.specs.Char.{digit_value, is_digit}
use Rattle.std.specs.List.{list_all, list_any}
use Rattle.std.specs.Str.Parse.{AllDigits, digits_value}
use Rattle.serde_json.specs.View.{members_view}
use Rattle.serde_json.proofs.Views.{Entry}
use Rattle.json_forms.specs.Forms.{number_of, is_among, are_among}

-- a number of so many digits and one more has room
pub fits : (digits : List ℕ) (i : ℕ) → i < length digits → length digits ≤ 16 → AllDigits 16 (take i digits) → digit_value (get_or digits i 0) < 16
    → digits_value 16 (take i digits) * 16 + digit_value (get_or digits i 0) < 18446744073709551616
fits digits i within few all digit =
    let more = digits_more 16 digits i within all digit in
    let less = digits_value-lt 16 (take (i + 1) digits) more in
    let size : length (take (i + 1) digits) ≡ i + 1 = length-take-le (i + 1) digits (omega arith) in
    let short : length (take (i + 1) digits) ≤ 16 = omega (arith, size) in
    let most : 16 ^ length (take (i + 1) digits) ≤ 16 ^ 16 = pow-le-pow_right {n = 16} (lit< tt) short in
    omega (arith, less, most, digits_value_more 16 digits i within)

is_low : (n : ℕ) → n < 16 → ltb n 16 ≡ true
is_low n low = grind (arith, nat_tests)

both : (a b : Bool) → a ≡ true → b ≡ true → (a && b) ≡ true
both a b p q = grind arith

pub all_digits : (digits : List ℕ) → AllDigits 16 digits → list_all (λ c. is_digit c 16) digits ≡ true
all_digits [] all = refl
all_digits (c ∷ cs) all = both _ _ (is_low (digit_value c) all.0) (all_digits cs all.1)

-- no number where some byte is no digit
pub none_at : (digits : List ℕ) (i : ℕ) → i < length digits → 16 ≤ digit_value (get_or digits i 0) → None ≡ number_of digits
unfolding number_of
none_at digits i within no_digit =
    let fails : list_all (λ c. is_digit c 16) digits ≡ false = list_all_at (λ c. is_digit c 16) digits i 0 within (grind (arith, nat_tests)) in
    rw fails refl

pub some_of : (digits : List ℕ) (i number : ℕ) → length digits ≤ i → AllDigits 16 (take i digits) → number ≡ digits_value 16 (take i digits) → Some number ≡ number_of digits
unfolding number_of
some_of digits i number whole all is =
    let every : AllDigits 16 digits = subst (AllDigits 16) (take_all i digits whole) all in
    rw (all_digits digits every) (ap (λ n. Some n) (is ∙ ap (digits_value 16) (take_all i digits whole)))

-- names by what they refer to
pub among_is : (names : List (Bor (List ℕ))) (key : List ℕ) → is_among (map (λ (name : Bor (List ℕ)). name.now) names) key ≡ list_any (λ (name : Bor (List ℕ)). bytes_eq name.now key) names
among_is [] key = refl
among_is (name ∷ names) key = rw (among_is names key) refl

pub among_step : (names : List (List ℕ)) (e : Entry) (es all : List Entry) → is_among names (string_bytes e.0) ≡ true → are_among names (members_view (e ∷ es)) ≡ are_among names (members_view all)
    → are_among names (members_view es) ≡ are_among names (members_view all)
among_step names e es all known same = ap (λ b. b && are_among names (members_view es)) (sym known) ∙ same

pub not_among : (names : List (List ℕ)) (e : Entry) (es all : List Entry) → is_among names (string_bytes e.0) ≡ false → are_among names (members_view (e ∷ es)) ≡ are_among names (members_view all)
    → false ≡ are_among names (members_view all)
not_among names e es all unknown same = ap (λ b. b && are_among names (members_view es)) (sym unknown) ∙ same
