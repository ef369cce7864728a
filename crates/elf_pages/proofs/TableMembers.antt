-- The table with a segment more has the segments of the list with a segment more.
use Rattle.std.proofs.Common.{◌≡◌, ℕ, ◌+◌, ◌-◌, ◌≤◌, ◌||◌, Bool, true, false, cond, List, [], ◌∷◌, ◌++◌, length, get_or, take, drop, refl, sym, ap, ◌∙◌, arith, append-nil, length-append}
use Rattle.std.specs.List.{insert, list_any}
use Rattle.std.proofs.lemmas.Bool.Decides.{nat_tests}
use Rattle.std.proofs.lemmas.List.{take-append-drop}
use Rattle.std.proofs.lemmas.List.Edits.{length-insert}
use Rattle.std.proofs.lemmas.List.Folds.{list_any_none, list_any-append}
use Rattle.elf_pages.specs.declared.segment.Segment.{Segment}
use Rattle.elf_pages.specs.GuestBytes.{byte_in, holds}
use Rattle.elf_pages.specs.SegmentFacts.{IsSound}
use Rattle.elf_pages.specs.SegmentTables.{AreSorted, HasSame}
use Rattle.elf_pages.specs.Segments.{overlaps}
use Rattle.elf_pages.proofs.SortedTables.{none_at}

neither : (a b : Bool) → (a || b) ≡ false → (a ≡ false) × (b ≡ false)
neither true b h = absurd cc
neither false b h = (refl, h)

middle : (a b d : Bool) → (a || (b || d)) ≡ ((a || d) || b)
middle true b d = refl
middle false true true = refl
middle false true false = refl
middle false false true = refl
middle false false false = refl

or_false : (b : Bool) → (b || false) ≡ b
or_false true = refl
or_false false = refl

byte_in_skip : (file : List ℕ) (xs ys : List Segment) (s : Segment) (x : ℕ) → holds x s ≡ false → byte_in file (xs ++ s ∷ ys) x ≡ byte_in file (xs ++ ys) x
byte_in_skip file [] ys s x h = rw h refl
byte_in_skip file (t ∷ xs) ys s x h = ap (cond (holds x t) _) (byte_in_skip file xs ys s x h)

byte_in_here : (file : List ℕ) (xs ys : List Segment) (s : Segment) (x : ℕ) → holds x s ≡ true → list_any (holds x) xs ≡ false → byte_in file (xs ++ s ∷ ys) x ≡ get_or file (s.offset + (x - s.address)) 0
byte_in_here file [] ys s x h none = rw h refl
byte_in_here file (t ∷ xs) ys s x h none =
    let parts = neither (holds x t) (list_any (holds x) xs) none in
    ap (λ b. cond b (get_or file (t.offset + (x - t.address)) 0) (byte_in file (xs ++ s ∷ ys) x)) parts.0 ∙ byte_in_here file xs ys s x h parts.1

pub none_other : (x size : ℕ) (s t : Segment) → holds x s ≡ true → IsSound size s → IsSound size t → overlaps s t ≡ false → holds x t ≡ false
none_other x size s t here sound other apart =
    let a = sound.sizes in
    let b = other.sizes in
    grind (arith, nat_tests)

-- no other segment holds an address that one holds
no_other : (x size : ℕ) (s : Segment) (table : List Segment) → holds x s ≡ true → IsSound size s → AreSorted size table → list_any (overlaps s) table ≡ false → list_any (holds x) table ≡ false
no_other x size s table here sound sorted apart =
    list_any_none (holds x) table (λ k d few. none_other x size s (get_or table k d) here sound (sorted.each k d few) (none_at (overlaps s) table k d apart few))

any_insert : (test : Segment → Bool) (table : List Segment) (at : ℕ) (s : Segment) → list_any test (insert table at s) ≡ (list_any test table || test s)
any_insert test table at s =
    let front = list_any-append test (take at table) (s ∷ drop at table) in
    let whole = ap (list_any test) (sym (take-append-drop at table)) ∙ list_any-append test (take at table) (drop at table) in
    front ∙ middle (list_any test (take at table)) (test s) (list_any test (drop at table)) ∙ ap (λ b. b || test s) (sym whole)

any_last : (test : Segment → Bool) (segments : List Segment) (s : Segment) → list_any test (segments ++ s ∷ []) ≡ (list_any test segments || test s)
any_last test segments s = list_any-append test segments (s ∷ []) ∙ ap (λ b. list_any test segments || b) (or_false (test s))

front_none : (test : Segment → Bool) (at : ℕ) (table : List Segment) → list_any test table ≡ false → list_any test (take at table) ≡ false
front_none test at table none =
    (neither _ _ (sym (list_any-append test (take at table) (drop at table)) ∙ ap (list_any test) (take-append-drop at table) ∙ none)).0

pub insert_same : (file : List ℕ) (segments table : List Segment) (size at : ℕ) (s : Segment) → HasSame file segments table → AreSorted size table → IsSound size s
    → list_any (overlaps s) table ≡ false → at ≤ length table → HasSame file (segments ++ s ∷ []) (insert table at s)
insert_same file segments table size at s same sorted sound apart within = record {
  size = omega (arith, length-insert table at s within, length-append segments (s ∷ []), same.size);
  any = λ test. any_insert test table at s ∙ ap (λ b. b || test s) (same.any test) ∙ sym (any_last test segments s);
  bytes = λ x. elim (holds x s) as (λ b. holds x s ≡ b → byte_in file (insert table at s) x ≡ byte_in file (segments ++ s ∷ []) x) [
    | true ↦ λ is.
        let none = no_other x size s table is sound sorted apart in
        byte_in_here file (take at table) (drop at table) s x is (front_none (holds x) at table none)
        ∙ sym (byte_in_here file segments [] s x is (sym (same.any (holds x)) ∙ none))
    | false ↦ λ is.
        byte_in_skip file (take at table) (drop at table) s x is
        ∙ ap (λ t. byte_in file t x) (take-append-drop at table)
        ∙ same.bytes x
        ∙ ap (λ t. byte_in file t x) (sym (append-nil segments))
        ∙ sym (byte_in_skip file segments [] s x is)
  ] refl;
}
