-- New numbers are the least that are free.
use Rattle.std.proofs.Common.{◌≡◌, ℕ, zero, suc, ◌+◌, ◌^◌, ◌<◌, ◌≤◌, List, [], ◌∷◌, length, map, get_or, refl, sym, ◌∙◌, ap, zero-add, arith, Some, Bool, true, false, ◌⊎◌, inl, inr}
use Rattle.std.specs.Prelude.{if◌then◌else◌, ◌==◌, not}
use Rattle.std.specs.Option.{option_map}
use Rattle.std.specs.List.{range_with_len, slice_get}
use Rattle.std.proofs.lemmas.Bool.{eq-eqb, eqb-true}
use Rattle.std.proofs.lemmas.List.{length-map}
use Rattle.std.proofs.lemmas.List.Folds.{Any-from_list_any, list_any-from_Any}
use Rattle.std.proofs.lemmas.List.FromFn.{get_or-range_with_len, length-range_with_len}
use Rattle.std.proofs.lemmas.Option.{slice_get-get_or, slice_get-map, slice_get_within}
use Rattle.platform_masks.specs.declared.platform.Platform.{Platform}
use Rattle.igvm_image.specs.declared.area_table.AreaEntry.{AreaEntry}
use Rattle.component_list.specs.declared.component.Component.{Component}
use Rattle.list_changes.specs.ListPlatforms.{masks_in, platforms_in}
use Rattle.list_changes.proofs.Kept.{has, AreDistinct}
use Rattle.list_changes.proofs.Numbered.{has_at}
use Rattle.joined_list.specs.InWords.{IsAmong, IsEarlier, TakesLeastBit, TakesLeastIndex}
use Rattle.joined_list.specs.Joined.{all_areas, all_platforms}
use Rattle.joined_list.specs.NewNumbers.{areas_in, free, list_areas, moves, second_areas, second_masks}
use Rattle.joined_list.specs.declared.moves.Move.{Move}
use Rattle.joined_list.proofs.FreeNumbers.{enough_free, free_distinct}
use Rattle.joined_list.proofs.FreeSuffice.{one_bit_distinct, row_distinct}
use Rattle.joined_list.proofs.NewMasks.{move_at}

-- ---- a number among others

among : (x : ℕ) (xs : List ℕ) → has x xs ≡ true → IsAmong x xs
among x xs is = (let any = Any-from_list_any (λ y. y == x) xs is in (any.0, any.1, any.2, any.3, eqb-true any.1 x any.4))

not_among : (x : ℕ) (xs : List ℕ) → has x xs ≡ false → IsAmong x xs → ⊥
not_among x xs none any =
    let some = list_any-from_Any (λ y. y == x) xs (any.0, any.1, any.2, any.3, eq-eqb any.1 x any.4) in
    let both : false ≡ true = sym none ∙ some in
    cc

-- distinct numbers differ at two places
differ : (xs : List ℕ) (i j x : ℕ) → AreDistinct xs → i < j → slice_get xs i ≡ Some x → slice_get xs j ≡ Some x → ⊥
differ [] i j x apart less here there = cc
differ (y ∷ xs) i zero x apart less here there = omega arith
differ (y ∷ xs) zero (suc j) x apart less here there =
    let same : x ≡ y = cc in
    let both : true ≡ false = sym (has_at xs j x there) ∙ ap (λ n. has n xs) same ∙ apart.0 in
    cc
differ (y ∷ xs) (suc i) (suc j) x apart less here there = differ xs i j x apart.1 (omega arith) here there

-- ---- free numbers

-- what is before a place of the numbers is taken, or is a free one before place j of these
abbrev Before : List ℕ → List ℕ → List ℕ → ℕ → ℕ → Type 0
Before taken numbers frees j place =
    (q n : ℕ) → q < place → slice_get numbers q ≡ Some n → (has n taken ≡ true) ⊎ ((i : ℕ) × (i < j) × (slice_get frees i ≡ Some n))

record IsFreeAt (taken numbers frees : List ℕ) (j new : ℕ) : Type 0 where
  place : ℕ
  there : slice_get numbers place ≡ Some new
  not_taken : has new taken ≡ false
  before : Before taken numbers frees j place

past_taken : (taken ys frees : List ℕ) (j place y : ℕ) → has y taken ≡ true → Before taken ys frees j place → Before taken (y ∷ ys) frees j (suc place)
past_taken taken ys frees j place y is before zero n less here = inl (ap (λ x. has x taken) (let same : n ≡ y = cc in same) ∙ is)
past_taken taken ys frees j place y is before (suc q) n less here = before q n (omega arith) here

past_free : (taken ys frees : List ℕ) (j place y : ℕ) → Before taken ys frees j place → Before taken (y ∷ ys) (y ∷ frees) (suc j) (suc place)
past_free taken ys frees j place y before zero n less here = inr (0, omega arith, here)
past_free taken ys frees j place y before (suc q) n less here = further (before q n (omega arith) here)
  where
    further : (has n taken ≡ true) ⊎ ((i : ℕ) × (i < j) × (slice_get frees i ≡ Some n))
        → (has n taken ≡ true) ⊎ ((i : ℕ) × (i < suc j) × (slice_get (y ∷ frees) i ≡ Some n))
    further (inl is) = inl is
    further (inr early) = inr (suc early.0, (let less = early.1 in omega arith), early.2)

free_at : (taken numbers : List ℕ) (j new : ℕ) → slice_get (free taken numbers) j ≡ Some new → IsFreeAt taken numbers (free taken numbers) j new
free_at taken [] j new here = cc
free_at taken (y ∷ ys) j new here = cases (has y taken) refl j here (free_at taken ys)
  where
    cases : (b : Bool) → has y taken ≡ b → (j : ℕ) → slice_get (if not b then y ∷ free taken ys else free taken ys) j ≡ Some new
        → ((i n : ℕ) → slice_get (free taken ys) i ≡ Some n → IsFreeAt taken ys (free taken ys) i n)
        → IsFreeAt taken (y ∷ ys) (if not b then y ∷ free taken ys else free taken ys) j new
    cases true is j here behind =
        let rest = behind j new here in
        record {
          place = suc rest.place;
          there = rest.there;
          not_taken = rest.not_taken;
          before = past_taken taken ys (free taken ys) j rest.place y is rest.before;
        }
    cases false is zero here behind = record {
      place = 0;
      there = here;
      not_taken = ap (λ x. has x taken) (let same : new ≡ y = cc in same) ∙ is;
      before = λ q n less there. absurd (omega arith);
    }
    cases false is (suc j) here behind =
        let rest = behind j new here in
        record {
          place = suc rest.place;
          there = rest.there;
          not_taken = rest.not_taken;
          before = past_free taken ys (free taken ys) j rest.place y rest.before;
        }

-- ---- moves to free numbers

-- the move at place j takes an old number to the first of the numbers that is not taken and not given to an earlier one
record TakesFirst (taken numbers : List ℕ) (all : List Move) (j old : ℕ) : Type 0 where
  move : Move
  there : slice_get all j ≡ Some move
  from : move.old ≡ old
  place : ℕ
  is_number : slice_get numbers place ≡ Some move.new
  not_taken : IsAmong move.new taken → ⊥
  not_earlier : IsEarlier all j move.new → ⊥
  before : (q n : ℕ) → q < place → slice_get numbers q ≡ Some n → IsAmong n taken ⊎ IsEarlier all j n

new_at : (olds news : List ℕ) (i : ℕ) (move : Move) → slice_get (moves olds news) i ≡ Some move → slice_get news i ≡ Some move.new
new_at [] news i move here = cc
new_at (old ∷ olds) [] i move here = cc
new_at (old ∷ olds) (new ∷ news) zero move here =
    (let is : record { old = old; new = new } ≡ move = cc in ap (λ (m : Move). Some m.new) is)
new_at (old ∷ olds) (new ∷ news) (suc i) move here = new_at olds news i move here

-- no number is given twice
given_once : (olds news : List ℕ) (j new : ℕ) → AreDistinct news → slice_get news j ≡ Some new → IsEarlier (moves olds news) j new → ⊥
given_once olds news j new apart here early =
    differ news early.0 j new apart early.2 (new_at olds news early.0 early.1 early.3 ∙ ap (λ n. Some n) early.4) here

moved : (olds news : List ℕ) (i j old n : ℕ) → length olds ≤ length news → slice_get olds j ≡ Some old → i < j → slice_get news i ≡ Some n
    → IsEarlier (moves olds news) j n
moved olds news i j old n enough here less there =
    let within = slice_get_within olds j old here in
    let at = move_at olds news i (get_or olds i 0) (slice_get-get_or olds i 0 (omega arith)) enough in
    (i, record { old = get_or olds i 0; new = at.0 }, less, at.1, (let same : at.0 ≡ n = cc in same))

takes_first : (taken olds numbers : List ℕ) (j old : ℕ) → AreDistinct numbers → length olds + length taken ≤ length numbers → slice_get olds j ≡ Some old
    → TakesFirst taken numbers (moves olds (free taken numbers)) j old
takes_first taken olds numbers j old apart few here =
    let news = free taken numbers in
    let enough : length olds ≤ length (free taken numbers) = (let some = enough_free taken numbers apart in omega arith) in
    let at = move_at olds news j old here enough in
    let found = free_at taken numbers j at.0 at.2 in
    record {
      move = record { old = old; new = at.0 };
      there = at.1;
      from = refl;
      place = found.place;
      is_number = found.there;
      not_taken = not_among at.0 taken found.not_taken;
      not_earlier = given_once olds news j at.0 (free_distinct taken numbers apart) at.2;
      before = λ q n less there. either enough n (found.before q n less there);
    }
  where
    either : length olds ≤ length (free taken numbers) → (n : ℕ) → (has n taken ≡ true) ⊎ ((i : ℕ) × (i < j) × (slice_get (free taken numbers) i ≡ Some n))
        → IsAmong n taken ⊎ IsEarlier (moves olds (free taken numbers)) j n
    either enough n (inl is) = inl (among n taken is)
    either enough n (inr early) = inr (moved olds (free taken numbers) early.0 j old n enough here early.1 early.2)

-- ---- indices and bits

row_at : (n k : ℕ) → k < n → slice_get (range_with_len 0 n) k ≡ Some k
row_at n k less =
    slice_get-get_or (range_with_len 0 n) k 0 (let all = length-range_with_len 0 n in omega arith)
    ∙ ap (λ x. Some x) (get_or-range_with_len 0 n k 0 less ∙ zero-add k)

row_within : (n k x : ℕ) → slice_get (range_with_len 0 n) k ≡ Some x → k < n
row_within n k x here = (let within = slice_get_within (range_with_len 0 n) k x here in let all = length-range_with_len 0 n in omega arith)

takes_index : (taken olds : List ℕ) (n j old : ℕ) → length olds + length taken ≤ n → slice_get olds j ≡ Some old
    → TakesLeastIndex taken (moves olds (free taken (range_with_len 0 n))) j old
takes_index taken olds n j old few here =
    let first = takes_first taken olds (range_with_len 0 n) j old (row_distinct 0 n) (let all = length-range_with_len 0 n in omega arith) here in
    let within = row_within n first.place first.move.new first.is_number in
    let same : Some first.place ≡ Some first.move.new = sym (row_at n first.place within) ∙ first.is_number in
    record {
      move = first.move;
      there = first.there;
      from = first.from;
      free = first.not_taken;
      not_earlier = first.not_earlier;
      least = λ k less.
          let is : first.place ≡ first.move.new = cc in
          first.before k k (omega arith) (row_at n k (omega arith));
    }

abbrev bits : ℕ → List ℕ
bits n = map (λ bit. 2 ^ bit) (range_with_len 0 n)

bit_at : (n k : ℕ) → k < n → slice_get (bits n) k ≡ Some (2 ^ k)
bit_at n k less = slice_get-map (λ bit. 2 ^ bit) (range_with_len 0 n) k ∙ ap (option_map (λ bit. 2 ^ bit)) (row_at n k less)

bit_within : (n k x : ℕ) → slice_get (bits n) k ≡ Some x → k < n
bit_within n k x here =
    let within = slice_get_within (bits n) k x here in
    let row = length-map (range_with_len 0 n) (λ (bit : ℕ). 2 ^ bit) in
    let all = length-range_with_len 0 n in
    omega arith

takes_bit : (taken olds : List ℕ) (n j old : ℕ) → n ≤ 32 → AreDistinct (bits n) → length olds + length taken ≤ n → slice_get olds j ≡ Some old
    → TakesLeastBit taken (moves olds (free taken (bits n))) j old
takes_bit taken olds n j old fits apart few here =
    let row = length-map (range_with_len 0 n) (λ (bit : ℕ). 2 ^ bit) in
    let all = length-range_with_len 0 n in
    let first = takes_first taken olds (bits n) j old apart (omega arith) here in
    let within = bit_within n first.place first.move.new first.is_number in
    let same : Some (2 ^ first.place) ≡ Some first.move.new = sym (bit_at n first.place within) ∙ first.is_number in
    record {
      move = first.move;
      bit = first.place;
      there = first.there;
      from = first.from;
      is_bit = ((let is : first.move.new ≡ 2 ^ first.place = cc in is), omega arith);
      free = first.not_taken;
      not_earlier = first.not_earlier;
      least = λ k less. first.before k (2 ^ k) less (bit_at n k (omega arith));
    }

-- ---- the platforms and areas of a second list

pub least_bits : (a b : List Component) (j old : ℕ) → all_platforms a b ≤ 32 → slice_get (masks_in b) j ≡ Some old
    → TakesLeastBit (masks_in a) (second_masks a b) j old
unfolding second_masks
least_bits a b j old few here =
    let one = length-map (platforms_in a) (λ (p : Platform). p.mask) in
    let other = length-map (platforms_in b) (λ (p : Platform). p.mask) in
    takes_bit (masks_in a) (masks_in b) 32 j old (omega arith) one_bit_distinct (omega arith) here

pub least_indices : (a b : List Component) (j old : ℕ) → all_areas a b ≤ 256 → slice_get (areas_in b) j ≡ Some old
    → TakesLeastIndex (areas_in a) (second_areas a b) j old
unfolding second_areas
least_indices a b j old few here =
    let one = length-map (list_areas a) (λ (e : AreaEntry). e.area) in
    let other = length-map (list_areas b) (λ (e : AreaEntry). e.area) in
    takes_index (areas_in a) (areas_in b) 256 j old (omega arith) here
