-- The first bad range, by the numbers of ranges.
use Rattle.std.proofs.Common.{◌≡◌, ℕ, zero, suc, ◌<◌, ◌≤◌, inl, inr, List, [], ◌∷◌, length, take, get_or, refl, sym, ap, ◌∙◌, subst, arith, cond, true, false, true≢false, Bool, None, Some}
use Rattle.std.proofs.lemmas.Bool.{cases_lt}
use Rattle.std.proofs.lemmas.Bool.Decides.{nat_tests}
use Rattle.std.proofs.lemmas.List.{take_all}
use Rattle.host_set.specs.declared.range.PlanRange.{PlanRange}
use Rattle.host_set.specs.Plans.{end_of, is_placed, placed_behind, placed_count, unless_all, bad_range}
use Rattle.host_set.specs.PlanRules.{no_range, IsPlan, IsFirstBad}
use Rattle.host_set.proofs.Ranges.{placed_count-le}
use Rattle.host_set.proofs.PlanLemmas.{all_there, count_of, few_ranges}

-- whether the range of a number is placed, where `prev` stands before the first
abbrev After : PlanRange → List PlanRange → ℕ → Bool → Type 0
After prev ranges number b =
    is_placed (end_of (get_or (prev ∷ ranges) number no_range)) (get_or ranges number no_range) ≡ b

head_counted : (b : Bool) (n : ℕ) → 0 < cond b (suc n) 0 → b ≡ true
head_counted true n less = refl
head_counted false n less = absurd (omega arith)

rest_counted : (b : Bool) (n number : ℕ) → suc number < cond b (suc n) 0 → number < n
rest_counted true n number less = omega arith
rest_counted false n number less = absurd (omega arith)

head_stopped : (b : Bool) (n : ℕ) → cond b (suc n) 0 ≡ 0 → b ≡ false
head_stopped true n is = absurd (omega arith)
head_stopped false n is = refl

rest_stopped : (b : Bool) (n number : ℕ) → cond b (suc n) 0 ≡ suc number → n ≡ number
rest_stopped true n number is = omega arith
rest_stopped false n number is = absurd (omega arith)

-- those that are counted are placed
counted : (prev : PlanRange) (ranges : List PlanRange) (number : ℕ) → number < placed_behind (end_of prev) ranges → After prev ranges number true
counted prev [] number less = absurd (omega arith)
counted prev (range ∷ ranges) zero less = head_counted (is_placed (end_of prev) range) (placed_behind (end_of range) ranges) less
counted prev (range ∷ ranges) (suc number) less =
    counted range ranges number (rest_counted (is_placed (end_of prev) range) (placed_behind (end_of range) ranges) number less)

-- the one behind them is not
stopped : (prev : PlanRange) (ranges : List PlanRange) (number : ℕ) → placed_behind (end_of prev) ranges ≡ number → number < length ranges → After prev ranges number false
stopped prev [] number is less = absurd (omega arith)
stopped prev (range ∷ ranges) zero is less = head_stopped (is_placed (end_of prev) range) (placed_behind (end_of range) ranges) is
stopped prev (range ∷ ranges) (suc number) is less =
    stopped range ranges number (rest_stopped (is_placed (end_of prev) range) (placed_behind (end_of range) ranges) number is) (omega arith)

pub plan_of_none : (ranges : List PlanRange) → bad_range ranges ≡ None → IsPlan ranges
plan_of_none ranges none =
    let count = count_of ranges none in
    let few = few_ranges ranges none in
    let whole : placed_behind 0 ranges ≡ length ranges = ap (placed_behind 0) (sym (take_all 64 ranges few)) ∙ count.0 in
    record {
      some = count.1;
      few = few;
      all = λ number less. counted no_range ranges number (subst (λ n. number < n) (sym whole) less);
    }

pub none_of_plan : (ranges : List PlanRange) → IsPlan ranges → bad_range ranges ≡ None
unfolding bad_range
none_of_plan ranges plan =
    let most : placed_behind 0 ranges ≤ length ranges = placed_count-le 0 ranges in
    let whole : placed_behind 0 ranges ≡ length ranges =
    elim (cases_lt (placed_behind 0 ranges) (length ranges)) [
      | inl less ↦ absurd (true≢false (sym (plan.all (placed_behind 0 ranges) less) ∙ stopped no_range ranges (placed_behind 0 ranges) refl less))
      | inr more ↦ omega (arith, most, more)
    ] in
    all_there (length ranges) (placed_count ranges) (ap (placed_behind 0) (take_all 64 ranges plan.few) ∙ whole) plan.some

count_is : (wanted placed number : ℕ) → unless_all wanted placed ≡ Some number → number ≡ placed
count_is wanted placed number bad = grind (arith, nat_tests)

differ : (wanted placed number : ℕ) → unless_all wanted placed ≡ Some number → placed ≡ wanted → wanted ≡ 0
differ wanted placed number bad same = grind (arith, nat_tests)

pub first_of_bad : (ranges : List PlanRange) (number : ℕ) → bad_range ranges ≡ Some number → IsFirstBad ranges number
unfolding bad_range
first_of_bad ranges number bad =
    let is : number ≡ placed_behind 0 (take 64 ranges) = count_is (length ranges) (placed_count ranges) number bad in
    let most : placed_behind 0 (take 64 ranges) ≤ length (take 64 ranges) = placed_count-le 0 (take 64 ranges) in
    record {
      before = λ other less. counted no_range (take 64 ranges) other (subst (λ n. other < n) is less);
      here = λ less placed. true≢false (sym placed ∙ stopped no_range (take 64 ranges) number (sym is) less);
      within = omega (arith, is, most);
      behind = λ all. elim (cases_lt 64 (length ranges)) [
        | inl more ↦ inr more
        | inr few ↦ inl (differ (length ranges) (placed_count ranges) number bad (sym is ∙ all ∙ ap length (take_all 64 ranges few)))
      ];
    }
