-- The bytes that ranges cover, by the first address that none has.
use Rattle.std.proofs.Common.{◌≡◌, ℕ, zero, suc, ◌+◌, ◌-◌, ◌<◌, ◌≤◌, ◌↔◌, ◌&&◌, IsTrue, List, length, get_or, refl, sym, ap, ◌∙◌, subst, arith, true, false, true≢false, Bool, inl, inr}
use Rattle.std.proofs.lemmas.Bool.{cases_lt}
use Rattle.std.proofs.lemmas.Bool.Decides.{nat_tests}
use Rattle.std.proofs.lemmas.List.{get_or_default}
use Rattle.std.proofs.lemmas.List.Folds.{list_any_at, list_any_none}
use Rattle.host_set.specs.declared.range.PlanRange.{PlanRange}
use Rattle.host_set.specs.Plans.{Covers, ArePlaced, end_of, lies_in, is_in_some, is_covered, past}

both : (a b : Bool) → a ≡ true → b ≡ true → (a && b) ≡ true
both a b p q = grind arith

left : (a b : Bool) → (a && b) ≡ true → a ≡ true
left a b p = grind arith

right : (a b : Bool) → (a && b) ≡ true → b ≡ true
right a b p = grind arith

from_test : (ranges : List PlanRange) (gpa bytes : ℕ) → is_covered ranges gpa bytes ≡ true → Covers ranges gpa bytes
unfolding is_covered
from_test ranges gpa zero holds address behind before = absurd (omega arith)
from_test ranges gpa (suc bytes) holds address behind before =
    elim (cases_lt address (gpa + bytes)) [
      | inl less ↦ from_test ranges gpa bytes (right _ _ holds) address behind less
      | inr more ↦ let last : gpa + bytes ≡ address = omega arith in subst (λ a. is_in_some ranges a ≡ true) last (left _ _ holds)
    ]

to_test : (ranges : List PlanRange) (gpa bytes : ℕ) → Covers ranges gpa bytes → is_covered ranges gpa bytes ≡ true
unfolding is_covered
to_test ranges gpa zero covers = refl
to_test ranges gpa (suc bytes) covers =
    both _ _ (covers (gpa + bytes) (omega arith) (omega arith)) (to_test ranges gpa bytes (λ address behind before. covers address behind (omega arith)))

pub covered_is : (ranges : List PlanRange) (gpa bytes : ℕ) → (is_covered ranges gpa bytes ≡ true) ↔ Covers ranges gpa bytes
covered_is ranges gpa bytes = (from_test ranges gpa bytes, to_test ranges gpa bytes)

pub covers_up_to : (ranges : List PlanRange) (gpa reached bytes : ℕ) → gpa ≤ reached → ((address : ℕ) → gpa ≤ address → address < reached → is_in_some ranges address ≡ true)
    → is_in_some ranges reached ≡ false → (bytes ≤ reached - gpa) ↔ Covers ranges gpa bytes
covers_up_to ranges gpa reached bytes behind covered bare = (
  λ fits address from before. covered address from (omega arith),
  λ covers. elim (cases_lt (reached - gpa) bytes) [
    | inl less ↦ absurd (true≢false (sym (covers reached behind (omega arith)) ∙ bare))
    | inr fits ↦ fits
  ],
)

pub same_tests : (a b : Bool) (P : Type 0) → (IsTrue a ↔ P) → (b ≡ true) ↔ P → a ≡ b
same_tests true b P one other = sym (other.1 (one.0 refl))
same_tests false true P one other = absurd (true≢false (sym (one.1 (other.0 refl))))
same_tests false false P one other = refl

-- how far a walk over the first `count` ranges has come from `gpa`
pub record Walk (ranges : List PlanRange) (gpa reached count : ℕ) : Type 0 where
  pub behind : gpa ≤ reached
  pub covered : (address : ℕ) → gpa ≤ address → address < reached → is_in_some ranges address ≡ true
  pub bare : (place : ℕ) (d : PlanRange) → place < count → lies_in reached (get_or ranges place d) ≡ false

not_at_end : (address : ℕ) (range : PlanRange) → end_of range ≤ address → lies_in address range ≡ false
not_at_end address range behind = grind (arith, nat_tests)

lies_facts : (address : ℕ) (range : PlanRange) → lies_in address range ≡ true → (range.start ≤ address) × (address < end_of range)
lies_facts address range holds = grind (arith, nat_tests)

lies_from : (address : ℕ) (range : PlanRange) → range.start ≤ address → address < end_of range → lies_in address range ≡ true
lies_from address range behind before = grind (arith, nat_tests)

goes_on : (ranges : List PlanRange) (gpa reached i : ℕ) (d : PlanRange) → ArePlaced ranges → i < length ranges → Walk ranges gpa reached i
    → lies_in reached (get_or ranges i d) ≡ true → Walk ranges gpa (end_of (get_or ranges i d)) (i + 1)
goes_on ranges gpa reached i d placed within walk holds =
    let inside = lies_facts reached (get_or ranges i d) holds in
    record {
      behind = omega (arith, walk.behind, inside.1);
      covered = λ address from before. elim (cases_lt address reached) [
        | inl less ↦ walk.covered address from less
        | inr more ↦ list_any_at (lies_in address) ranges i d within (lies_from address (get_or ranges i d) (omega (arith, inside.0)) before)
      ];
      bare = λ place e few. elim (cases_lt place i) [
        | inl less ↦ not_at_end _ (get_or ranges place e) (omega (arith, placed.order place i e less within, ap (λ (r : PlanRange). r.start) (get_or_default ranges i d e within), inside.0, inside.1))
        | inr more ↦
            let last : place ≡ i = omega arith in
            not_at_end _ (get_or ranges place e) (subst (λ p. end_of (get_or ranges p e) ≤ end_of (get_or ranges i d)) (sym last) (omega (arith, ap end_of (get_or_default ranges i d e within))))
      ];
    }

stays : (ranges : List PlanRange) (gpa reached i : ℕ) (d : PlanRange) → i < length ranges → Walk ranges gpa reached i
    → lies_in reached (get_or ranges i d) ≡ false → Walk ranges gpa reached (i + 1)
stays ranges gpa reached i d within walk fails =
    record {
      behind = walk.behind;
      covered = walk.covered;
      bare = λ place e few. elim (cases_lt place i) [
        | inl less ↦ walk.bare place e less
        | inr more ↦
            let last : place ≡ i = omega arith in
            subst (λ p. lies_in reached (get_or ranges p e) ≡ false) (sym last) (ap (lies_in reached) (get_or_default ranges i e d within) ∙ fails)
      ];
    }

by_test : (ranges : List PlanRange) (gpa reached i : ℕ) (range : PlanRange) (b : Bool) → lies_in reached range ≡ b
    → (b ≡ true → Walk ranges gpa (end_of range) (i + 1)) → (b ≡ false → Walk ranges gpa reached (i + 1)) → Walk ranges gpa (past reached range) (i + 1)
by_test ranges gpa reached i range true is holds fails = rw is (holds refl)
by_test ranges gpa reached i range false is holds fails = rw is (fails refl)

pub walks_on : (ranges : List PlanRange) (gpa reached i : ℕ) (d : PlanRange) → ArePlaced ranges → i < length ranges → Walk ranges gpa reached i → Walk ranges gpa (past reached (get_or ranges i d)) (i + 1)
walks_on ranges gpa reached i d placed within walk =
    by_test ranges gpa reached i (get_or ranges i d) (lies_in reached (get_or ranges i d)) refl (goes_on ranges gpa reached i d placed within walk) (stays ranges gpa reached i d within walk)

pub bare_at_last : (ranges : List PlanRange) (gpa reached : ℕ) → Walk ranges gpa reached (length ranges) → is_in_some ranges reached ≡ false
bare_at_last ranges gpa reached walk = list_any_none (lies_in reached) ranges (λ place d few. walk.bare place d few)
