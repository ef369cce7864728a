-- Ranges that are apart: the last one that begins before an end decides whether any meets.
use Rattle.std.proofs.Common.{◌≡◌, ◌≢◌, ℕ, ◌<◌, ◌≤◌, List, [], ◌∷◌, refl, sym, ◌∙◌, ap, arith, Bool, true, false, ◌||◌, nat_lt, Some, None, inl, inr}
use Rattle.std.specs.Prelude.{IsSome, Option, if◌then◌else◌}
use Rattle.std.specs.declared.cmp.Ordering.{Ordering}
use Rattle.std.specs.declared.cmp.Ordering.TheVariants.{Less, Equal, Greater}
use Rattle.std.specs.Ordering.{nat_cmp, is_lt, is_eq, match_ordering}
use Rattle.std.specs.Cmp.{nat_cmp_total}
use Rattle.std.specs.List.{list_any}
use Rattle.std.specs.BTreeMap.{BTreeMap, get, is_at, insert_entry, IsOrdered}
use Rattle.std.specs.Map.{lookup}
use Rattle.std.proofs.lemmas.Bool.Decides.{nat_tests}
use Rattle.std.proofs.lemmas.Bool.{cases_lt, cases_eq}
use Rattle.std.proofs.lemmas.List.Elements.{All-weaker}
use Rattle.std.proofs.lemmas.List.Folds.{list_any_none, list_any_at}
use Rattle.std.proofs.lemmas.Map.Keys.{ge_from_not_lt}
use Rattle.std.proofs.lemmas.Map.Lookups.{exact_unsigned}
use Rattle.std.proofs.lemmas.Map.Views.{All-found, btree_map_get_iff}
use Rattle.directive_rules.specs.PageRanges.{meets, AreApart}

-- ---- the tests on numbers
meets_not : (start end first last : ℕ) → (first < end → last ≤ start) → meets start end (first, last) ≡ false
meets_not start end first last apart = grind (arith, nat_tests)

met_not : (start end first last : ℕ) → meets start end (first, last) ≡ false → start < last → end ≤ first
met_not start end first last apart within = grind (arith, nat_tests)

met_before : (start end first last : ℕ) → meets start end (first, last) ≡ false → first < end → last ≤ start
met_before start end first last apart within = grind (arith, nat_tests)

meets_before : (start end first last : ℕ) → first < end → meets start end (first, last) ≡ nat_lt start last
meets_before start end first last before = grind (arith, nat_tests)

less_is : (q end : ℕ) → q < end → nat_cmp q end ≡ Less
less_is q end less = grind (arith, nat_tests)

is_less : (q end : ℕ) → nat_cmp q end ≡ Less → q < end
is_less q end less = grind (arith, nat_tests)

lt_not : (a b : ℕ) → nat_lt a b ≡ false → b ≤ a
lt_not a b h = grind (arith, nat_tests)

-- ---- the entries of a map
pub any_entry : (test : ℕ × ℕ → Bool) (m : BTreeMap ℕ ℕ) (q f : ℕ) → IsOrdered nat_cmp m → get nat_cmp m q ≡ Some f → test (q, f) ≡ true → list_any test m.entries ≡ true
any_entry test m q f ordered found passes =
    let there = (btree_map_get_iff nat_cmp_total exact_unsigned m ordered q f).0 found in
    list_any_at test m.entries there.0 (q, f) there.1 (ap test there.2 ∙ passes)

pub no_entry : (test : ℕ × ℕ → Bool) (m : BTreeMap ℕ ℕ) → IsOrdered nat_cmp m → ((q f : ℕ) → get nat_cmp m q ≡ Some f → test (q, f) ≡ false) → list_any test m.entries ≡ false
no_entry test m ordered none =
    list_any_none test m.entries (All-weaker (λ (e : ℕ × ℕ). get nat_cmp m e.0 ≡ Some e.1) (λ e. test e ≡ false) (λ e found. none e.0 e.1 found) m.entries (All-found nat_cmp_total m ordered))

-- no entry passes: so none that is found does
each_not : (test : ℕ × ℕ → Bool) (m : BTreeMap ℕ ℕ) (q f : ℕ) → IsOrdered nat_cmp m → list_any test m.entries ≡ false → get nat_cmp m q ≡ Some f → test (q, f) ≡ false
each_not test m q f ordered none found = by (test (q, f)) refl
  where
    by : (b : Bool) → test (q, f) ≡ b → b ≡ false
    by true passes = sym (any_entry test m q f ordered found passes) ∙ none
    by false passes = refl

-- ---- whether a range meets one of a map
-- no range begins before the end
pub meets_none : (m : BTreeMap ℕ ℕ) (start end : ℕ) → IsOrdered nat_cmp m
    → ((q : ℕ) → nat_cmp q end ≡ Less → get nat_cmp m q ≡ None)
    → list_any (meets start end) m.entries ≡ false
meets_none m start end ordered none =
    no_entry (meets start end) m ordered (λ q f found. meets_not start end q f (λ before. absurd (differ (sym found ∙ none q (less_is q end before)))))
  where
    differ : {f : ℕ} → Some f ≡ None → ⊥
    differ h = cc

some_found : (m : BTreeMap ℕ ℕ) (q f : ℕ) → get nat_cmp m q ≡ Some f → IsSome (get nat_cmp m q)
some_found m q f found = rw found refl

-- the last range that begins before the end decides
pub meets_last : (m : BTreeMap ℕ ℕ) (start end first last : ℕ) → AreApart m → IsOrdered nat_cmp m
    → nat_cmp first end ≡ Less → get nat_cmp m first ≡ Some last
    → ((q : ℕ) → nat_cmp q end ≡ Less → IsSome (get nat_cmp m q) → is_lt (nat_cmp first q) ≡ false)
    → nat_lt start last ≡ list_any (meets start end) m.entries
meets_last m start end first last apart ordered before found greatest = by (nat_lt start last) refl
  where
    by : (b : Bool) → nat_lt start last ≡ b → b ≡ list_any (meets start end) m.entries
    by true h = sym (any_entry (meets start end) m first last ordered found (meets_before start end first last (is_less first end before) ∙ h))
    by false h = sym (no_entry (meets start end) m ordered (λ q f there. meets_not start end q f (λ less.
        let at_most : q ≤ first = ge_from_not_lt first q (greatest q (less_is q end less) (some_found m q f there)) in
        let behind : last ≤ start = lt_not start last h in
        let long : first < last = apart.some first last found in
        elim (cases_lt q first) [
          | inl lower ↦ (let ends : f ≤ first = apart.apart q f first last there found lower in omega arith)
          | inr upper ↦ (let same : q ≡ first = omega arith in
              let value : f ≡ last = same_value (sym (ap (get nat_cmp m) same ∙ found) ∙ there) in omega arith)
        ])))
      where
        same_value : {f g : ℕ} → Some g ≡ Some f → f ≡ g
        same_value h = cc

-- ---- a range more
or_swap : (a b c : Bool) → (a || (b || c)) ≡ ((b || c) || a)
or_swap true true c = refl
or_swap true false true = refl
or_swap true false false = refl
or_swap false b c = swap (b || c)
  where
    swap : (b : Bool) → (false || b) ≡ (b || false)
    swap true = refl
    swap false = refl

or_more : (a b c d : Bool) → d ≡ (b || c) → (a || d) ≡ ((a || b) || c)
or_more true b c d h = refl
or_more false b c d h = h

by_order : (test : ℕ × ℕ → Bool) (e : ℕ × ℕ) (es : List (ℕ × ℕ)) (k v : ℕ) (o : Ordering) → o ≢ Equal
    → list_any test (insert_entry nat_cmp es k v) ≡ (list_any test es || test (k, v))
    → list_any test (match_ordering o ((k, v) ∷ e ∷ es) ((e.0, v) ∷ es) (e ∷ insert_entry nat_cmp es k v)) ≡ (list_any test (e ∷ es) || test (k, v))
by_order test e es k v Less apart rest = or_swap (test (k, v)) (test e) (list_any test es)
by_order test e es k v Equal apart rest = absurd (apart refl)
by_order test e es k v Greater apart rest = or_more (test e) (list_any test es) (test (k, v)) _ rest

-- a key that is not found is not that of the first entry, nor found behind it
not_first : (k v : ℕ) (o : Ordering) (others : Option ℕ) → (if is_eq o then Some v else others) ≡ None → (o ≢ Equal) × (others ≡ None)
not_first k v Less others h = (λ same. cc, h)
not_first k v Equal others h = cc
not_first k v Greater others h = (λ same. cc, h)

pub any-insert : (test : ℕ × ℕ → Bool) (es : List (ℕ × ℕ)) (k v : ℕ) → lookup (is_at (nat_cmp k)) es ≡ None
    → list_any test (insert_entry nat_cmp es k v) ≡ (list_any test es || test (k, v))
any-insert test [] k v none = or_false (test (k, v))
  where
    or_false : (b : Bool) → (b || false) ≡ b
    or_false true = refl
    or_false false = refl
any-insert test (e ∷ es) k v none =
    let apart = not_first k e.1 (nat_cmp k e.0) (lookup (is_at (nat_cmp k)) es) none in
    by_order test e es k v (nat_cmp k e.0) apart.0 (any-insert test es k v apart.1)

-- a range that meets none has a start that is not there
pub start_absent : (m : BTreeMap ℕ ℕ) (start end : ℕ) → AreApart m → IsOrdered nat_cmp m → start < end
    → list_any (meets start end) m.entries ≡ false → get nat_cmp m start ≡ None
start_absent m start end apart ordered some none = by (get nat_cmp m start) refl
  where
    by : (r : Option ℕ) → get nat_cmp m start ≡ r → r ≡ None
    by None found = refl
    by (Some last) found =
        let clear = each_not (meets start end) m start last ordered none found in
        let before = met_before start end start last clear some in
        let long = apart.some start last found in
        absurd (omega arith)

-- the ranges with one more are apart
pub apart_more : (m n : BTreeMap ℕ ℕ) (start end : ℕ) → AreApart m → IsOrdered nat_cmp m → start < end
    → list_any (meets start end) m.entries ≡ false
    → ((q : ℕ) → q ≢ start → get nat_cmp n q ≡ get nat_cmp m q) → get nat_cmp n start ≡ Some end
    → AreApart n
apart_more m n start end apart ordered some none others here = record {
  some = λ q f found. elim (cases_eq q start) [
    | inl same ↦ (let value : f ≡ end = one_value (sym found ∙ ap (get nat_cmp n) same ∙ here) in omega arith)
    | inr other ↦ apart.some q f (sym (others q other) ∙ found)
  ];
  apart = λ q f r g first later less. elim (cases_eq q start) [
    | inl same ↦ (
        let value : f ≡ end = one_value (sym first ∙ ap (get nat_cmp n) same ∙ here) in
        let there : get nat_cmp m r ≡ Some g = sym (others r (omega arith)) ∙ later in
        let long = apart.some r g there in
        let clear = met_not start end r g (each_not (meets start end) m r g ordered none there) (omega arith) in
        omega arith)
    | inr other ↦ elim (cases_eq r start) [
      | inl same ↦ (
          let there : get nat_cmp m q ≡ Some f = sym (others q other) ∙ first in
          let clear = met_before start end q f (each_not (meets start end) m q f ordered none there) in
          let before : q < end = omega arith in
          let behind = clear before in
          omega arith)
      | inr apart' ↦ apart.apart q f r g (sym (others q other) ∙ first) (sym (others r apart') ∙ later) less
    ]
  ];
}
  where
    one_value : {f g : ℕ} → Some f ≡ Some g → f ≡ g
    one_value h = cc

-- the same where nothing changed
pub apart_same : (m n : BTreeMap ℕ ℕ) → AreApart m → n.entries ≡ m.entries → AreApart n
apart_same m n apart same = record {
  some = λ q f found. apart.some q f (sym (at q) ∙ found);
  apart = λ q f r g first later less. apart.apart q f r g (sym (at q) ∙ first) (sym (at r) ∙ later) less;
}
  where
    at : (q : ℕ) → get nat_cmp n q ≡ get nat_cmp m q
    at q = ap (λ es. lookup (is_at (nat_cmp q)) es) same

pub not_at : (start q : ℕ) → q ≢ start → is_at (nat_cmp start) q ≡ false
not_at start q other = grind (arith, nat_tests)
