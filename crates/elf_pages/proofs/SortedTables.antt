-- A segment put into its place in a sorted table.
use Rattle.std.proofs.Common.{◌≡◌, ℕ, ◌+◌, ◌-◌, ◌<◌, ◌≤◌, Bool, true, false, true≢false, List, length, get_or, take, refl, sym, ap, ◌∙◌, subst, arith, inl, inr}
use Rattle.std.proofs.Math.ListN.{set, length-set}
use Rattle.std.specs.List.{insert, list_any}
use Rattle.std.proofs.lemmas.Bool.{cases_lt}
use Rattle.std.proofs.lemmas.Bool.Decides.{nat_tests}
use Rattle.std.proofs.lemmas.List.{same_lists, get_or-take, get_or-set_same, get_or-set_other, length-take}
use Rattle.std.proofs.lemmas.List.Edits.{length-insert, get_or-insert_below, get_or-insert_at, get_or-insert_above}
use Rattle.std.proofs.lemmas.List.Folds.{list_any_at}
use Rattle.elf_pages.specs.declared.segment.Segment.{Segment}
use Rattle.elf_pages.specs.SegmentFacts.{IsSound}
use Rattle.elf_pages.specs.SegmentTables.{AreSorted}
use Rattle.elf_pages.specs.Segments.{end_of, overlaps}

-- ---- the code's move of the segments from the place on

inserted_above : (room moved : List Segment) (at count m : ℕ) (s d : Segment) → length moved ≡ length room → count < length room → at ≤ m → m < count
    → get_or moved (m + 1) d ≡ get_or room (at + ((m + 1) - (at + 1))) d
    → get_or (take (count + 1) (set moved at s)) (m + 1) d ≡ get_or (insert (take count room) at s) (m + 1) d
inserted_above room moved at count m s d same within behind few copied =
    let place : at + ((m + 1) - (at + 1)) ≡ m = omega arith in
    get_or-take (count + 1) (set moved at s) (m + 1) d (omega arith)
    ∙ get_or-set_other moved at (m + 1) s d (λ (e : m + 1 ≡ at). omega arith)
    ∙ copied ∙ ap (λ n. get_or room n d) place
    ∙ sym (get_or-take count room m d few)
    ∙ sym (get_or-insert_above (take count room) at s d m behind (omega (arith, length-take count room)))

inserted_below : (room moved : List Segment) (at count k : ℕ) (s d : Segment) → length moved ≡ length room → count < length room → at ≤ count → k < at
    → get_or moved k d ≡ get_or room k d
    → get_or (take (count + 1) (set moved at s)) k d ≡ get_or (insert (take count room) at s) k d
inserted_below room moved at count k s d same within fits less copied =
    get_or-take (count + 1) (set moved at s) k d (omega arith)
    ∙ get_or-set_other moved at k s d (λ (e : k ≡ at). omega arith)
    ∙ copied
    ∙ sym (get_or-take count room k d (omega arith))
    ∙ sym (get_or-insert_below (take count room) at s d k less (omega (arith, length-take count room)))

inserted_at : (room moved : List Segment) (at count : ℕ) (s d : Segment) → length moved ≡ length room → count < length room → at ≤ count
    → get_or (take (count + 1) (set moved at s)) at d ≡ get_or (insert (take count room) at s) at d
inserted_at room moved at count s d same within fits =
    get_or-take (count + 1) (set moved at s) at d (omega arith)
    ∙ get_or-set_same moved at s d (omega arith)
    ∙ sym (get_or-insert_at (take count room) at s d (omega (arith, length-take count room)))

pub inserted : (room moved : List Segment) (at count : ℕ) (s : Segment) → length moved ≡ length room → count < length room → at ≤ count
    → ((k : ℕ) (d : Segment) → at + 1 ≤ k → k < (at + 1) + (count - at) → get_or moved k d ≡ get_or room (at + (k - (at + 1))) d)
    → ((k : ℕ) (d : Segment) → k < at + 1 → get_or moved k d ≡ get_or room k d)
    → take (count + 1) (set moved at s) ≡ insert (take count room) at s
inserted room moved at count s same within fits copied below =
    let few : length (take count room) ≡ count = omega (arith, length-take count room) in
    let sized : length (take (count + 1) (set moved at s)) ≡ length (insert (take count room) at s) =
    omega (arith, length-take (count + 1) (set moved at s), length-set moved at s, length-insert (take count room) at s (omega arith)) in
    let most : length (take (count + 1) (set moved at s)) ≡ count + 1 = omega (arith, length-take (count + 1) (set moved at s), length-set moved at s) in
    same_lists _ _ sized (λ k d less. elim (cases_lt k at) [
      | inl before ↦ inserted_below room moved at count k s d same within fits before (below k d (omega arith))
      | inr behind ↦ elim (cases_lt at k) [
        | inl after ↦
            let m = k - 1 in
            let back : m + 1 ≡ k = omega arith in
            subst (λ n. get_or (take (count + 1) (set moved at s)) n d ≡ get_or (insert (take count room) at s) n d) back
            (inserted_above room moved at count m s d same within (omega arith) (omega arith) (copied (m + 1) d (omega arith) (omega arith)))
        | inr more ↦
            let here : at ≡ k = omega arith in
            subst (λ n. get_or (take (count + 1) (set moved at s)) n d ≡ get_or (insert (take count room) at s) n d) here
            (inserted_at room moved at count s d same within fits)
      ]
    ])

-- ---- the place of a segment

-- the place of a segment: those before it begin at its address or before it, those from it on begin after it
pub record IsPlace (table : List Segment) (at : ℕ) (s : Segment) : Type 0 where
  pub within : at ≤ length table
  pub before : (k : ℕ) (d : Segment) → k < at → (get_or table k d).address ≤ s.address
  pub behind : (k : ℕ) (d : Segment) → at ≤ k → k < length table → s.address < (get_or table k d).address

pub place_from : (size : ℕ) (table : List Segment) (at : ℕ) (s : Segment) → AreSorted size table → at ≤ length table
    → ((k : ℕ) (d : Segment) → k < at → (get_or table k d).address ≤ s.address)
    → ((d : Segment) → at < length table → s.address < (get_or table at d).address) → IsPlace table at s
place_from size table at s sorted within before behind = record {
  within = within;
  before = before;
  behind = λ k d from few. elim (cases_lt at k) [
    | inl after ↦ omega (arith, behind d (omega arith), sorted.order at k d after few, (sorted.each at d (omega arith)).some)
    | inr more ↦
        let here : at ≡ k = omega arith in
        subst (λ n. s.address < (get_or table n d).address) here (behind d (omega arith))
  ];
}

-- ---- the table with a segment more

pub none_at : (test : Segment → Bool) (table : List Segment) (k : ℕ) (d : Segment) → list_any test table ≡ false → k < length table → test (get_or table k d) ≡ false
none_at test table k d none few = elim (test (get_or table k d)) as (λ b. test (get_or table k d) ≡ b → b ≡ false) [
  | true ↦ λ is. absurd (true≢false (sym (list_any_at test table k d few is) ∙ none))
  | false ↦ λ is. refl
] refl

ends_before : (s t : Segment) → overlaps s t ≡ false → t.address ≤ s.address → 0 < s.memory_bytes → end_of t ≤ s.address
ends_before s t h before some = grind (arith, nat_tests)

begins_behind : (s t : Segment) → overlaps s t ≡ false → s.address < t.address → 0 < t.memory_bytes → end_of s ≤ t.address
begins_behind s t h behind some = grind (arith, nat_tests)

-- what stands at a place of the new table
at_place : (table : List Segment) (at k : ℕ) (s d : Segment) (P : Segment → Type 0) → at ≤ length table → k < length (insert table at s)
    → (k < at → P (get_or table k d)) → (k ≡ at → P s) → (at < k → P (get_or table (k - 1) d)) → P (get_or (insert table at s) k d)
at_place table at k s d P within few below here above = elim (cases_lt k at) [
  | inl before ↦ subst P (sym (get_or-insert_below table at s d k before within)) (below before)
  | inr behind ↦ elim (cases_lt at k) [
    | inl after ↦
        let back : (k - 1) + 1 ≡ k = omega arith in
        subst P (sym (get_or-insert_above table at s d (k - 1) (omega arith) within) ∙ ap (λ n. get_or (insert table at s) n d) back) (above after)
    | inr more ↦
        let same : at ≡ k = omega arith in
        subst P (sym (get_or-insert_at table at s d within) ∙ ap (λ n. get_or (insert table at s) n d) same) (here (sym same))
  ]
]

pub insert_sorted : (size : ℕ) (table : List Segment) (at : ℕ) (s : Segment) → AreSorted size table → IsPlace table at s → IsSound size s → list_any (overlaps s) table ≡ false
    → AreSorted size (insert table at s)
insert_sorted size table at s sorted place sound none =
    let grown : length (insert table at s) ≡ length table + 1 = length-insert table at s place.within in
    record {
      each = λ k d few. at_place table at k s d (IsSound size) place.within few
          (λ less. sorted.each k d (omega (arith, place.within))) (λ same. sound) (λ more. sorted.each (k - 1) d (omega arith));
      order = λ first later d less few.
          at_place table at first s d (λ t. end_of t ≤ (get_or (insert table at s) later d).address) place.within (omega arith)
          (λ before. at_place table at later s d (λ t. end_of (get_or table first d) ≤ t.address) place.within few
          (λ below. sorted.order first later d less (omega (arith, place.within)))
          (λ same. ends_before s (get_or table first d) (none_at (overlaps s) table first d none (omega (arith, place.within))) (place.before first d before) sound.some)
          (λ above. sorted.order first (later - 1) d (omega arith) (omega arith)))
          (λ here. at_place table at later s d (λ t. end_of s ≤ t.address) place.within few
          (λ below. absurd (omega arith))
          (λ same. absurd (omega arith))
          (λ above. begins_behind s (get_or table (later - 1) d) (none_at (overlaps s) table (later - 1) d none (omega arith)) (place.behind (later - 1) d (omega arith) (omega arith)) (sorted.each (later - 1) d (omega arith)).some))
          (λ after. at_place table at later s d (λ t. end_of (get_or table (first - 1) d) ≤ t.address) place.within few
          (λ below. absurd (omega arith))
          (λ same. absurd (omega arith))
          (λ above. sorted.order (first - 1) (later - 1) d (omega arith) (omega arith)));
    }
