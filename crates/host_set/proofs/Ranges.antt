-- What a list of ranges keeps that no rule refuses.
use Rattle.std.proofs.Common.{◌≡◌, ℕ, zero, suc, ◌<◌, ◌≤◌, List, [], ◌∷◌, length, get_or, take, drop, refl, sym, ap, ◌∙◌, arith, cond, true, false, None}
use Rattle.std.proofs.lemmas.Bool.Decides.{nat_tests}
use Rattle.std.proofs.Math.Seq.{drop-cons}
use Rattle.std.proofs.lemmas.List.{length-take, take_all}
use Rattle.host_set.specs.declared.range.PlanRange.{PlanRange}
use Rattle.host_set.specs.Plans.{end_of, is_placed, placed_behind, placed_count, unless_all, bad_range, ArePlaced}

pub placed_facts : (before : ℕ) (range : PlanRange) → is_placed before range ≡ true → (before ≤ range.start) × (end_of range ≤ 4503599627370496)
unfolding is_placed
placed_facts before range h = grind (arith, nat_tests)

pub placed_step : (before i : ℕ) (ranges : List PlanRange) (d : PlanRange) → i < length ranges
    → placed_behind before (drop i ranges) ≡ cond (is_placed before (get_or ranges i d)) (suc (placed_behind (end_of (get_or ranges i d)) (drop (suc i) ranges))) 0
placed_step before i ranges d within = ap (placed_behind before) (drop-cons ranges i d within)

-- the count is the length only where the first range is placed, and all behind it
first_placed : (before : ℕ) (range : PlanRange) (ranges : List PlanRange) → placed_behind before (range ∷ ranges) ≡ suc (length ranges)
    → (is_placed before range ≡ true) × (placed_behind (end_of range) ranges ≡ length ranges)
first_placed before range ranges h =
    elim (is_placed before range) as (λ b. is_placed before range ≡ b → cond b (suc (placed_behind (end_of range) ranges)) 0 ≡ suc (length ranges) → (is_placed before range ≡ true) × (placed_behind (end_of range) ranges ≡ length ranges)) [
      | true ↦ λ is all. (is, omega (arith, all))
      | false ↦ λ is all. absurd (omega (arith, all))
    ] refl h

starts_behind : (before : ℕ) (ranges : List PlanRange) → placed_behind before ranges ≡ length ranges → (place : ℕ) (d : PlanRange) → place < length ranges → before ≤ (get_or ranges place d).start
starts_behind before [] all place d within = absurd (omega arith)
starts_behind before (range ∷ ranges) all zero d within = (placed_facts before range (first_placed before range ranges all).0).0
starts_behind before (range ∷ ranges) all (suc place) d within =
    let head = placed_facts before range (first_placed before range ranges all).0 in
    let rest = starts_behind (end_of range) ranges (first_placed before range ranges all).1 place d (omega arith) in
    omega (arith, head.0, rest)

ends_within : (before : ℕ) (ranges : List PlanRange) → placed_behind before ranges ≡ length ranges → (place : ℕ) (d : PlanRange) → place < length ranges → end_of (get_or ranges place d) ≤ 4503599627370496
ends_within before [] all place d within = absurd (omega arith)
ends_within before (range ∷ ranges) all zero d within = (placed_facts before range (first_placed before range ranges all).0).1
ends_within before (range ∷ ranges) all (suc place) d within = ends_within (end_of range) ranges (first_placed before range ranges all).1 place d (omega arith)

in_order : (before : ℕ) (ranges : List PlanRange) → placed_behind before ranges ≡ length ranges → (first later : ℕ) (d : PlanRange) → first < later → later < length ranges → end_of (get_or ranges first d) ≤ (get_or ranges later d).start
in_order before [] all first later d less within = absurd (omega arith)
in_order before (range ∷ ranges) all first zero d less within = absurd (omega arith)
in_order before (range ∷ ranges) all zero (suc later) d less within = starts_behind (end_of range) ranges (first_placed before range ranges all).1 later d (omega arith)
in_order before (range ∷ ranges) all (suc first) (suc later) d less within = in_order (end_of range) ranges (first_placed before range ranges all).1 first later d (omega arith) (omega arith)

pub placed_count-le : (before : ℕ) (ranges : List PlanRange) → placed_behind before ranges ≤ length ranges
placed_count-le before [] = omega arith
placed_count-le before (range ∷ ranges) =
    elim (is_placed before range) as (λ b. cond b (suc (placed_behind (end_of range) ranges)) 0 ≤ suc (length ranges)) [
      | true ↦ omega (arith, placed_count-le (end_of range) ranges)
      | false ↦ omega arith
    ]

all_counted : (wanted placed : ℕ) → unless_all wanted placed ≡ None → placed ≡ wanted
all_counted wanted placed h = grind (arith, nat_tests)

pub are_placed : (ranges : List PlanRange) → bad_range ranges ≡ None → ArePlaced ranges
unfolding bad_range
are_placed ranges none =
    let all = all_counted (length ranges) (placed_count ranges) none in
    let front : placed_count ranges ≤ length (take 64 ranges) = placed_count-le 0 (take 64 ranges) in
    let few : length ranges ≤ 64 = omega (arith, front, all, length-take 64 ranges) in
    let placed : placed_behind 0 ranges ≡ length ranges = ap (placed_behind 0) (sym (take_all 64 ranges few)) ∙ all in
    record {
      ends = ends_within 0 ranges placed;
      order = in_order 0 ranges placed;
    }
