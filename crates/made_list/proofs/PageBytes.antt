-- The bytes of a page and of the context: how many they are, and that they are bytes.
use Rattle.std.proofs.Common.{◌≡◌, ℕ, zero, suc, ◌+◌, ◌%◌, ◌<◌, ◌^◌, ◌++◌, length, map, ap, ◌∙◌, arith, length-append}
use Rattle.std.specs.List.{range_with_len}
use Rattle.std.proofs.lemmas.List.FromFn.{length-map-range_with_len}
use Rattle.byteorder.specs.Endian.{little_bytes}
use Rattle.igvm_headers.specs.SpellingConditions.{AreBytes}
use Rattle.made_list.specs.MadeList.{page_byte, page_bytes, context_bytes}

-- so many bytes behind a number of four
length_behind : (k n : ℕ) → length (little_bytes 4 k ++ map (page_byte k) (range_with_len 4 n)) ≡ 4 + n
length_behind k n =
    length-append (little_bytes 4 k) (map (page_byte k) (range_with_len 4 n)) ∙ ap (λ m. 4 + m) (length-map-range_with_len (page_byte k) 4 n)

pub length-page_bytes : (k : ℕ) → length (page_bytes k) ≡ 4096
unfolding page_bytes
length-page_bytes k = length_behind k 4092

pub length-context_bytes : length context_bytes ≡ 4096
unfolding context_bytes
length-context_bytes = length-map-range_with_len (λ (j : ℕ). j % 256) 0 4096

-- what a function gives that gives bytes
bytes_map : (f : ℕ → ℕ) → ((j : ℕ) → f j < 2 ^ 8) → (a n : ℕ) → AreBytes (map f (range_with_len a n))
bytes_map f small a zero = tt
bytes_map f small a (suc n) = (small a, bytes_map f small (a + 1) n)

bytes_behind : (k n : ℕ) → AreBytes (little_bytes 4 k ++ map (page_byte k) (range_with_len 4 n))
bytes_behind k n =
    (omega arith, (omega arith, (omega arith, (omega arith, bytes_map (page_byte k) (λ j. omega arith) 4 n))))

pub page_are_bytes : (k : ℕ) → AreBytes (page_bytes k)
unfolding page_bytes
page_are_bytes k = bytes_behind k 4092

pub context_are_bytes : AreBytes context_bytes
unfolding context_bytes
context_are_bytes = bytes_map (λ (j : ℕ). j % 256) (λ j. omega arith) 0 4096
