-- The bytes of a made file by their places.
use Rattle.std.proofs.Common.{◌≡◌, inl, inr, ℕ, zero, suc, ◌+◌, ◌-◌, ◌*◌, ◌/◌, ◌%◌, ◌<◌, ◌≤◌, List, length, get_or, take, drop, refl, sym, ◌∙◌, ap, arith, length-append, length-take, length-drop}
use Rattle.std.specs.List.{flat_map, range_with_len}
use Rattle.std.specs.Int.{to_le_bytes, w64}
use Rattle.std.proofs.lemmas.List.{ext_get_or, get_or_append_left, get_or-append_right, get_or-take, get_or-drop}
use Rattle.std.proofs.lemmas.Bool.{cases_lt}
use Rattle.igvm_outside.specs.MadeFiles.{made_bytes}

-- numbers of eight bytes each, joined
module _ (eight : ℕ → List ℕ) (size : (number : ℕ) → length (eight number) ≡ 8) where
  length-joined : (from count : ℕ) → length (flat_map eight (range_with_len from count)) ≡ 8 * count
  length-joined from zero = refl
  length-joined from (suc count) = omega (arith, length-append (eight from) (flat_map eight (range_with_len (from + 1) count)), length-joined (from + 1) count, size from)

  byte_of : (m n i j : ℕ) → m ≡ n → i ≡ j → get_or (eight m) i 0 ≡ get_or (eight n) j 0
  byte_of m n i j numbers places = ap (λ (k : ℕ). get_or (eight k) i 0) numbers ∙ ap (λ (k : ℕ). get_or (eight n) k 0) places

  joined_at : (from count at : ℕ) → at < 8 * count → get_or (flat_map eight (range_with_len from count)) at 0 ≡ get_or (eight (from + at / 8)) (at % 8) 0
  joined_at from zero at below = absurd (omega arith)
  joined_at from (suc count) at below = elim (cases_lt at 8) [
    | inl first ↦
        get_or_append_left (eight from) (flat_map eight (range_with_len (from + 1) count)) 0 at (omega (arith, size from))
        ∙ byte_of from (from + at / 8) at (at % 8) (omega arith) (omega arith)
    | inr later ↦
        get_or-append_right (eight from) (flat_map eight (range_with_len (from + 1) count)) 8 at 0 (size from) later
        ∙ joined_at (from + 1) count (at - 8) (omega arith)
        ∙ byte_of ((from + 1) + (at - 8) / 8) (from + at / 8) ((at - 8) % 8) (at % 8) (omega arith) (omega arith)
  ]

  cut_at : (whole at : ℕ) → at < whole → get_or (take whole (flat_map eight (range_with_len 0 whole))) at 0 ≡ get_or (eight (at / 8)) (at % 8) 0
  cut_at whole at below =
      get_or-take whole (flat_map eight (range_with_len 0 whole)) at 0 below
      ∙ joined_at 0 whole at (omega arith)
      ∙ byte_of (0 + at / 8) (at / 8) (at % 8) (at % 8) (omega arith) refl

  part_is : (part : List ℕ) (whole place count : ℕ) → length part ≡ count → place + count ≤ whole
      → ((k : ℕ) → k < length part → get_or part k 0 ≡ get_or (eight ((place + k) / 8)) ((place + k) % 8) 0)
      → part ≡ take count (drop place (take whole (flat_map eight (range_with_len 0 whole))))
  part_is part whole place count long inside bytes =
      let joined = flat_map eight (range_with_len 0 whole) in
      let file = take whole joined in
      let file_long : length file ≡ whole = omega (arith, length-take whole joined, length-joined 0 whole) in
      ext_get_or 0 part (take count (drop place file)) (omega (arith, length-take count (drop place file), length-drop place file))
      (λ k below.
      let near : k < count = omega arith in
      bytes k below
      ∙ sym (cut_at whole (place + k) (omega arith))
      ∙ sym (get_or-drop place file k 0)
      ∙ sym (get_or-take count (drop place file) k 0 near))

pub made_part : (part : List ℕ) (size place count : ℕ) → length part ≡ count → place + count ≤ size
    → ((k : ℕ) → k < length part → get_or part k 0 ≡ get_or (to_le_bytes w64 ((place + k) / 8)) ((place + k) % 8) 0)
    → part ≡ take count (drop place (made_bytes size))
made_part part size place count long inside bytes = part_is (λ number. to_le_bytes w64 number) (λ number. refl) part size place count long inside bytes
