-- A walk over an image's headers that takes the data of each off a limit.
use Rattle.std.proofs.Common.{◌≡◌, ◌∙◌, ℕ, ◌+◌, ◌-◌, ◌<◌, ◌≤◌, List, [], ◌∷◌, map, refl, sym, ap, arith, true, false}
use Rattle.std.specs.Prelude.{nat_le, sum_by}
use Rattle.std.proofs.lemmas.List.Sums.{sum_by-cons}
use Rattle.igvm_image.specs.Headers.{PlacedHeader, placed_headers}
use Rattle.operation_jobs.specs.StoredData.{data_limit, stored_bytes, stored_size}

-- the data of headers in a file
unfoldable pub stored_in : List PlacedHeader → ℕ
stored_in ps = sum_by stored_size (map (λ p. p.header) ps)

-- What is left of the limit, with all data, is the limit with the data of the headers to come.
pub record IsLeft (file : List ℕ) (rest : List PlacedHeader) (left : ℕ) : Type 0 where
  pub same : stored_bytes file + left ≡ data_limit + stored_in rest

pub left_start : (file : List ℕ) (rest : List PlacedHeader) (left : ℕ) → rest ≡ placed_headers file → left ≡ data_limit → IsLeft file rest left
unfolding stored_bytes stored_in
left_start file rest left all whole =
    let stored : stored_bytes file ≡ stored_in rest = ap stored_in (sym all) in
    record { same = omega arith }

step_sum : (rest : List PlacedHeader) (p : PlacedHeader) (others : List PlacedHeader) → rest ≡ p ∷ others → stored_in rest ≡ stored_size p.header + stored_in others
unfolding stored_in
step_sum rest p others same = ap (λ ps. sum_by stored_size (map (λ (q : PlacedHeader). q.header) ps)) same ∙ sum_by-cons stored_size p.header (map (λ (q : PlacedHeader). q.header) others)

no_sum : stored_in [] ≡ 0
unfolding stored_in
no_sum = refl

-- the data of one more header are taken off
pub left_more : (file : List ℕ) (rest : List PlacedHeader) (p : PlacedHeader) (others : List PlacedHeader) (left size : ℕ) → IsLeft file rest left → rest ≡ p ∷ others → size ≡ stored_size p.header → size ≤ left
    → IsLeft file others (left - size)
left_more file rest p others left size h first is within =
    let sum = step_sum rest p others first in
    let before = h.same in
    record { same = omega arith }

-- they are more than is left
pub left_passed : (file : List ℕ) (rest : List PlacedHeader) (p : PlacedHeader) (others : List PlacedHeader) (left size : ℕ) → IsLeft file rest left → rest ≡ p ∷ others → size ≡ stored_size p.header → left < size
    → nat_le (stored_bytes file) data_limit ≡ false
left_passed file rest p others left size h first is past =
    let sum = step_sum rest p others first in
    let before = h.same in
    let large : data_limit < stored_bytes file = omega arith in
    refused (stored_bytes file) data_limit large
  where
    refused : (a b : ℕ) → b < a → nat_le a b ≡ false
    refused a b past = grind (arith, past)

-- none is left
pub left_none : (file : List ℕ) (rest : List PlacedHeader) (left : ℕ) → IsLeft file rest left → rest ≡ [] → nat_le (stored_bytes file) data_limit ≡ true
left_none file rest left h none =
    let before = h.same in
    let sum = ap stored_in none ∙ no_sum in
    let few : stored_bytes file ≤ data_limit = omega arith in
    passed (stored_bytes file) data_limit few
  where
    passed : (a b : ℕ) → a ≤ b → nat_le a b ≡ true
    passed a b few = grind (arith, few)
