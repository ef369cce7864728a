-- The members of a VMSA: their keys rise, are known, and lead to what was printed.
use Rattle.std.proofs.Common.{◌≡◌, ◌<◌, ◌&&◌, ◌||◌, ◌==◌, ℕ, zero, suc, List, [], ◌∷◌, Bool, true, false, Option, Some, None, Ordering, Less, Equal, Greater, nat_cmp, inl, inr, refl, sym, ap, ◌∙◌, arith}
use Rattle.std.proofs.lemmas.Bool.{and_parts, and_from, cases_eq, ne_eqb}
use Rattle.std.proofs.lemmas.Cmp.{nat_list_cmp_total, tied_itself}
use Rattle.std.specs.Cmp.Lexicographic.{slice_cmp}
use Rattle.std.specs.Ordering.{ordering_reverse}
use Rattle.serde_json.specs.Data.{Data, Members}
use Rattle.serde_json.specs.Find.{get, get_member}
use Rattle.json_forms.specs.Forms.{has_only, is_among, are_among}
use Rattle.json_forms.specs.Plain.{AreAbove, AreRising}
use Rattle.vmsa_page.specs.Fields.{key_name, key_names}
use Rattle.vmsa_page.specs.Vmsas.{VmsaParts}
use Rattle.vmsa_page.specs.Texts.{key_order, part_of, member_if, members_of, vmsa_data}

-- a test of all numbers below a bound
abbrev pub all_below : ℕ → (ℕ → Bool) → Bool
all_below zero f = true
all_below (suc n) f = f n && all_below n f

pub below_all : (n : ℕ) (f : ℕ → Bool) → all_below n f ≡ true → (k : ℕ) → k < n → f k ≡ true
below_all zero f h k below_ = absurd (omega arith)
below_all (suc n) f h k below_ =
    let p = and_parts (f n) (all_below n f) h in
    elim (cases_eq k n) [ inl same ↦ rw same p.0 | inr other ↦ below_all n f p.1 k (omega arith) ]

-- ---- the order of keys

-- the first is greater, as a test
is_greater : Ordering → Bool
is_greater Less = false
is_greater Equal = false
is_greater Greater = true

greater : (o : Ordering) → is_greater o ≡ true → o ≡ Greater
unfolding is_greater
greater Less h = absurd cc
greater Equal h = absurd cc
greater Greater h = refl

-- the order of two keys, by number
compare : ℕ → ℕ → Ordering
compare j k = slice_cmp nat_cmp (key_name j) (key_name k)

-- all these keys stand above one
all_above : ℕ → List ℕ → Bool
unfolding is_greater compare
all_above k [] = true
all_above k (j ∷ js) = is_greater (compare j k) && all_above k js

-- each key stands above those before
rises : List ℕ → Bool
unfolding all_above
rises [] = true
rises (k ∷ ks) = all_above k ks && rises ks

-- a number is among these
contains : List ℕ → ℕ → Bool
contains [] k = false
contains (j ∷ js) k = (j == k) || contains js k

order_rises : rises key_order ≡ true
unfolding rises all_above is_greater compare
order_rises = refl

order_contains : (k : ℕ) → k < 24 → contains key_order k ≡ true
unfolding contains
order_contains k h = below_all 24 (contains key_order) refl k h

above_if : (o : Option Data) (key other : List ℕ) (ms : Members) → slice_cmp nat_cmp other key ≡ Greater → AreAbove key ms → AreAbove key (member_if other o ms)
above_if None key other ms h rest = rest
above_if (Some d) key other ms h rest = (h, rest)

rising_if : (o : Option Data) (key : List ℕ) (ms : Members) → AreAbove key ms → AreRising ms → AreRising (member_if key o ms)
rising_if None key ms h rest = rest
rising_if (Some d) key ms h rest = (h, rest)

same_text : (xs : List ℕ) → slice_cmp nat_cmp xs xs ≡ Equal
same_text xs = tied_itself nat_list_cmp_total xs

skip_less : (o : Option Data) (key other : List ℕ) (ms : Members) → slice_cmp nat_cmp key other ≡ Less → get_member key (member_if other o ms) ≡ get_member key ms
skip_less None key other ms h = refl
skip_less (Some d) key other ms h = rw h refl

skip_greater : (o : Option Data) (key other : List ℕ) (ms : Members) → slice_cmp nat_cmp key other ≡ Greater → get_member key (member_if other o ms) ≡ get_member key ms
skip_greater None key other ms h = refl
skip_greater (Some d) key other ms h = rw h refl

at_key : (o : Option Data) (key : List ℕ) (ms : Members) → get_member key ms ≡ None → get_member key (member_if key o ms) ≡ o
at_key None key ms h = h
at_key (Some d) key ms h = rw (same_text key) refl

known_if : (o : Option Data) (key : List ℕ) (ms : Members) → is_among key_names key ≡ true → are_among key_names ms ≡ true → are_among key_names (member_if key o ms) ≡ true
known_if None key ms h rest = rest
known_if (Some d) key ms h rest = and_from _ _ h rest

above_members : (v : VmsaParts) (k : ℕ) (js : List ℕ) → all_above k js ≡ true → AreAbove (key_name k) (members_of v js)
unfolding all_above compare
above_members v k [] h = tt
above_members v k (j ∷ js) h =
    let p = and_parts (is_greater (compare j k)) (all_above k js) h in
    above_if (part_of v j) (key_name k) (key_name j) (members_of v js) (greater (compare j k) p.0) (above_members v k js p.1)

rising_members : (v : VmsaParts) (js : List ℕ) → rises js ≡ true → AreRising (members_of v js)
unfolding rises
rising_members v [] h = tt
rising_members v (j ∷ js) h =
    let p = and_parts (all_above j js) (rises js) h in
    rising_if (part_of v j) (key_name j) (members_of v js) (above_members v j js p.0) (rising_members v js p.1)

-- ---- what stands at a key

no_later : (v : VmsaParts) (k : ℕ) (js : List ℕ) → all_above k js ≡ true → get_member (key_name k) (members_of v js) ≡ None
unfolding all_above compare
no_later v k [] h = refl
no_later v k (j ∷ js) h =
    let p = and_parts (is_greater (compare j k)) (all_above k js) h in
    let less : slice_cmp nat_cmp (key_name k) (key_name j) ≡ Less = nat_list_cmp_total.antisymm (key_name k) (key_name j) ∙ ap ordering_reverse (greater (compare j k) p.0) in
    skip_less (part_of v j) (key_name k) (key_name j) (members_of v js) less ∙ no_later v k js p.1

above_in : (k j : ℕ) (js : List ℕ) → all_above j js ≡ true → contains js k ≡ true → slice_cmp nat_cmp (key_name k) (key_name j) ≡ Greater
unfolding all_above contains compare
above_in k j [] h c = absurd cc
above_in k j (i ∷ js) h c =
    let p = and_parts (is_greater (compare i j)) (all_above j js) h in
    elim (cases_eq i k) [
      | inl same ↦ ap (λ (x : ℕ). slice_cmp nat_cmp (key_name x) (key_name j)) (sym same) ∙ greater (compare i j) p.0
      | inr other ↦ above_in k j js p.1 (sym (ap (λ b. b || contains js k) (ne_eqb i k other)) ∙ c)
    ]

in_order : (v : VmsaParts) (k : ℕ) (js : List ℕ) → rises js ≡ true → contains js k ≡ true → get_member (key_name k) (members_of v js) ≡ part_of v k
unfolding rises contains
in_order v k [] h c = absurd cc
in_order v k (j ∷ js) h c =
    let p = and_parts (all_above j js) (rises js) h in
    elim (cases_eq j k) [
      | inl same ↦ ap (λ (x : ℕ). get_member (key_name x) (members_of v (j ∷ js))) (sym same) ∙ at_key (part_of v j) (key_name j) (members_of v js) (no_later v j js p.0) ∙ ap (part_of v) same
      | inr other ↦
          let later : contains js k ≡ true = sym (ap (λ b. b || contains js k) (ne_eqb j k other)) ∙ c in
          skip_greater (part_of v j) (key_name k) (key_name j) (members_of v js) (above_in k j js p.0 later) ∙ in_order v k js p.1 later
    ]

-- the keys of all members rise
pub members_rise : (v : VmsaParts) → AreRising (members_of v key_order)
members_rise v = rising_members v key_order order_rises

-- what is read at a key is what was printed there
pub get_part : (v : VmsaParts) (k : ℕ) → k < 24 → get (key_name k) (vmsa_data v) ≡ part_of v k
unfolding vmsa_data
get_part v k h = in_order v k key_order order_rises (order_contains k h)

-- ---- no other keys

-- the keys of these numbers are among all keys
all_known : List ℕ → Bool
all_known [] = true
all_known (k ∷ ks) = is_among key_names (key_name k) && all_known ks

known_members : (v : VmsaParts) (ks : List ℕ) → all_known ks ≡ true → are_among key_names (members_of v ks) ≡ true
unfolding all_known
known_members v [] h = refl
known_members v (k ∷ ks) h =
    let p = and_parts (is_among key_names (key_name k)) (all_known ks) h in
    known_if (part_of v k) (key_name k) (members_of v ks) p.0 (known_members v ks p.1)

pub known : (v : VmsaParts) → has_only key_names (vmsa_data v) ≡ true
unfolding vmsa_data all_known
known v = known_members v key_order refl
