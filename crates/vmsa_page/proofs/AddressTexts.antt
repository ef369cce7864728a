-- Addresses that are printed and read again.
use Rattle.std.proofs.Common.{◌≡◌, ◌≤◌, ◌<◌, ◌^◌, ◌+◌, ◌*◌, ◌/◌, ◌%◌, ◌==◌, ℕ, zero, suc, List, [], ◌∷◌, true, false, length, Some, IsUtf8, inl, inr, refl, ap, arith}
use Rattle.std.proofs.lemmas.Bool.{and_from, le-leb, lt-ltb}
use Rattle.std.proofs.lemmas.Fmt.{digits_is_IsNumeral}
use Rattle.std.proofs.Math.Nat.{pow-succ'}
use Rattle.std.specs.Char.{digit_value, is_digit}
use Rattle.std.specs.Fmt.{digits, digits_onto, digit_glyph}
use Rattle.std.specs.List.{list_all}
use Rattle.std.specs.Str.Parse.{AllDigits}
use Rattle.json.proofs.Printed.Utf8.{are_ascii, IsUtf8-are_ascii}
use Rattle.json_forms.specs.Forms.{address_of, number_of}
use Rattle.vmsa_page.proofs.Booleans.{bool_cases}
use Rattle.vmsa_page.specs.Texts.{address_text}

power : (m : ℕ) → 16 ^ suc (suc m) ≡ 16 * 16 ^ suc m
power m = pow-succ' 16 (suc m)

length_onto : (m k n : ℕ) (acc : List ℕ) → n < 16 ^ suc m → length (digits_onto k 16 false n acc) ≤ suc m + length acc
length_onto m zero n acc h = omega arith
length_onto zero (suc k) n acc h =
    let none : n / 16 ≡ 0 = omega (arith, h) in
    rw none (omega arith)
length_onto (suc m) (suc k) n acc h =
    let less : n / 16 < 16 ^ suc m = omega (arith, h, power m) in
    elim (bool_cases (n / 16 == 0)) [
      | inl last ↦ rw last (omega arith)
      | inr more ↦ rw more (omega (arith, length_onto m k (n / 16) (digit_glyph false (n % 16) ∷ acc) less))
    ]

onto_more : (k n : ℕ) (acc : List ℕ) → 0 < length acc → 0 < length (digits_onto k 16 false n acc)
onto_more zero n acc h = h
onto_more (suc k) n acc h = elim (bool_cases (n / 16 == 0)) [
  | inl last ↦ rw last (omega arith)
  | inr more ↦ rw more (onto_more k (n / 16) (digit_glyph false (n % 16) ∷ acc) (omega arith))
]

onto_some : (k n : ℕ) → 0 < k → 0 < length (digits_onto k 16 false n [])
onto_some zero n h = absurd (omega (arith, h))
onto_some (suc k) n h = elim (bool_cases (n / 16 == 0)) [
  | inl last ↦ rw last (omega arith)
  | inr more ↦ rw more (onto_more k (n / 16) (digit_glyph false (n % 16) ∷ []) (omega arith))
]

pub hex_length : (n : ℕ) → n < 16 ^ 16 → length (digits 16 false n) ≤ 16
unfolding digits
hex_length n h = omega (arith, length_onto 15 64 n [] h)

hex_some : (n : ℕ) → 0 < length (digits 16 false n)
unfolding digits
hex_some n = onto_some 64 n (omega arith)

all_hex : (ds : List ℕ) → AllDigits 16 ds → list_all (λ c. is_digit c 16) ds ≡ true
all_hex [] all = refl
all_hex (c ∷ cs) all = and_from _ _ (lt-ltb (digit_value c) 16 all.0) (all_hex cs all.1)

pub address_back : (n : ℕ) → n < 2 ^ 64 → address_of (address_text n) ≡ Some n
unfolding address_of address_text number_of
address_back n h =
    let small : n < 16 ^ 64 = omega (arith, h) in
    let ds = digits 16 false n in
    let e = digits_is_IsNumeral 16 false (omega arith) (omega arith) n small in
    let few : length ds ≤ 16 = hex_length n (omega (arith, h)) in
    rw (lt-ltb 2 (suc (suc (length ds))) (omega (arith, hex_some n)), le-leb (suc (suc (length ds))) 18 (omega (arith, few)), all_hex ds e.0.1) (ap (λ (x : ℕ). Some x) e.1)

digit_low : (c : ℕ) → digit_value c < 16 → c < 128
digit_low c h = grind arith

ascii_digits : (ds : List ℕ) → AllDigits 16 ds → are_ascii ds ≡ true
ascii_digits [] h = refl
ascii_digits (d ∷ ds) h = and_from _ _ (lt-ltb d 128 (digit_low d h.0)) (ascii_digits ds h.1)

pub address_utf8 : (n : ℕ) → n < 2 ^ 64 → IsUtf8 (address_text n)
unfolding address_text
address_utf8 n h =
    let small : n < 16 ^ 64 = omega (arith, h) in
    let e = digits_is_IsNumeral 16 false (omega arith) (omega arith) n small in
    IsUtf8-are_ascii (48 ∷ 120 ∷ digits 16 false n) (ascii_digits (digits 16 false n) e.0.1)
