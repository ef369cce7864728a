-- Plans that are read, by the ranges of their entries.
use Rattle.std.proofs.Common.{◌≡◌, ◌≢◌, ℕ, suc, ◌<◌, ◌≤◌, List, [], ◌∷◌, ◌++◌, length, get_or, take, drop, refl, sym, ap, ◌∙◌, arith, None, Some, Ok, Err, append-nil, append_assoc}
use Rattle.std.proofs.lemmas.Bool.Decides.{nat_tests}
use Rattle.std.proofs.lemmas.List.{length-take}
use Rattle.std.proofs.Math.Seq.{drop-cons}
use Rattle.serde_json.specs.Events.{items_len}
use Rattle.serde_json.proofs.Views.{items_len-items_view}
use Rattle.serde_json.specs.View.{view, items_view}
use Rattle.serde_json.specs.declared.value.Value.{Value}
use Rattle.host_set.specs.declared.range.PlanRange.{PlanRange}
use Rattle.host_set.specs.declared.refusal.HostPart.TheVariants as part
use Rattle.host_set.specs.Plans.{placed_count, unless_all, bad_range}
use Rattle.host_set.specs.Descriptions.{field, and_then, front_ranges, plan_in, plan_of, range_of, unless_bad}
use Rattle.host_set.proofs.Ranges.{placed_count-le}

all_counted : (wanted placed : ℕ) → unless_all wanted placed ≡ None → (placed ≡ wanted) × (0 < wanted)
all_counted wanted placed h = grind (arith, nat_tests)

pub all_there : (wanted placed : ℕ) → placed ≡ wanted → 0 < wanted → unless_all wanted placed ≡ None
all_there wanted placed same some = grind (arith, nat_tests)

not_there : (wanted placed : ℕ) → placed ≢ wanted → unless_all wanted placed ≡ Some placed
not_there wanted placed differ = grind (arith, nat_tests)

none_there : (wanted : ℕ) → unless_all wanted 0 ≡ Some 0
none_there wanted = refl

more_wanted : (wanted entries placed number : ℕ) → unless_all wanted placed ≡ Some number → placed ≤ wanted → wanted ≤ entries → unless_all entries placed ≡ Some number
more_wanted wanted entries placed number bad few more = grind (arith, nat_tests)

pub count_of : (ranges : List PlanRange) → bad_range ranges ≡ None → (placed_count ranges ≡ length ranges) × (0 < length ranges)
unfolding bad_range
count_of ranges none = all_counted (length ranges) (placed_count ranges) none

pub placed_few : (ranges : List PlanRange) → (placed_count ranges ≤ length ranges) × (placed_count ranges ≤ 64)
placed_few ranges = (omega (arith, placed_count-le 0 (take 64 ranges), length-take 64 ranges), omega (arith, placed_count-le 0 (take 64 ranges), length-take 64 ranges))

pub few_ranges : (ranges : List PlanRange) → bad_range ranges ≡ None → length ranges ≤ 64
few_ranges ranges none = omega (arith, (count_of ranges none).0, (placed_few ranges).1)

pub whole_plan : (entries : ℕ) (ranges : List PlanRange) → bad_range ranges ≡ None → length ranges ≡ entries → plan_of entries ranges ≡ Ok ranges
unfolding plan_of
whole_plan entries ranges none all =
    ap (unless_bad ranges) (all_there entries (placed_count ranges) ((count_of ranges none).0 ∙ all) (omega (arith, all, (count_of ranges none).1)))

pub front_plan : (entries : ℕ) (ranges : List PlanRange) → bad_range ranges ≡ None → length ranges ≢ entries → plan_of entries ranges ≡ Err (field part.Memory (length ranges))
unfolding plan_of
front_plan entries ranges none differ =
    let count = (count_of ranges none).0 in
    ap (unless_bad ranges) (not_there entries (placed_count ranges) (λ same. differ (sym count ∙ same)) ∙ ap (λ n. Some n) count)

pub bad_plan : (entries number : ℕ) (ranges : List PlanRange) → bad_range ranges ≡ Some number → length ranges ≤ entries → plan_of entries ranges ≡ Err (field part.Memory number)
unfolding plan_of bad_range
bad_plan entries number ranges bad few =
    ap (unless_bad ranges) (more_wanted (length ranges) entries (placed_count ranges) number bad (placed_few ranges).0 few)

-- ---- the ranges of entries

at_entry : (entries : List Value) (i : ℕ) (d : Value) → i < length entries → front_ranges (items_view (drop i entries)) ≡ and_then (range_of (view (get_or entries i d))) (front_ranges (items_view (drop (suc i) entries)))
at_entry entries i d within = ap (λ vs. front_ranges (items_view vs)) (drop-cons entries i d within)

pub front_ends : (entries : List Value) (i : ℕ) (d : Value) (ranges all : List PlanRange) → i < length entries → None ≡ range_of (view (get_or entries i d)) → ranges ++ front_ranges (items_view (drop i entries)) ≡ all → ranges ≡ all
front_ends entries i d ranges all within none same =
    let rest : front_ranges (items_view (drop i entries)) ≡ [] = at_entry entries i d within ∙ ap (λ r. and_then r (front_ranges (items_view (drop (suc i) entries)))) (sym none) in
    sym (append-nil ranges) ∙ ap (λ rs. ranges ++ rs) (sym rest) ∙ same

pub front_goes_on : (entries : List Value) (i : ℕ) (d : Value) (range : PlanRange) (ranges all : List PlanRange) → i < length entries → Some range ≡ range_of (view (get_or entries i d)) → ranges ++ front_ranges (items_view (drop i entries)) ≡ all
    → (ranges ++ range ∷ []) ++ front_ranges (items_view (drop (suc i) entries)) ≡ all
front_goes_on entries i d range ranges all within some same =
    let rest : front_ranges (items_view (drop i entries)) ≡ range ∷ front_ranges (items_view (drop (suc i) entries)) = at_entry entries i d within ∙ ap (λ r. and_then r (front_ranges (items_view (drop (suc i) entries)))) (sym some) in
    append_assoc ranges (range ∷ []) _ ∙ ap (λ rs. ranges ++ rs) (sym rest) ∙ same

pub plan_is : (entries : List Value) (count : ℕ) (ranges : List PlanRange) → count ≡ length entries → ranges ≡ front_ranges (items_view entries) → plan_of count ranges ≡ plan_in (Some (items_view entries))
plan_is entries count ranges is front =
    ap (λ n. plan_of n ranges) (is ∙ sym (items_len-items_view entries)) ∙ ap (plan_of (items_len (items_view entries))) front
