-- A made list is a list: its components are those of their types, and break no rule.
use Rattle.std.proofs.Common.{◌≡◌, ℕ, zero, suc, ◌+◌, ◌≤◌, List, [], ◌∷◌, ◌++◌, length, map, refl, arith, length-append}
use Rattle.std.specs.List.{range_with_len, AllByRecursion}
use Rattle.std.proofs.lemmas.List.FromFn.{length-map-range_with_len}
use Rattle.igvm_headers.specs.HeaderFacts.{data_offset}
use Rattle.igvm_headers.specs.SpellingConditions.{NumbersFit, ListsAreBytes}
use Rattle.igvm_headers.specs.declared.header.Header.{Header}
use Rattle.component_list.specs.declared.component.Component.{Component}
use Rattle.component_list.specs.declared.component.Content.{Content}
use Rattle.component_list.specs.Ranges.{HoldsBytes, IsComponent}
use Rattle.component_list.specs.Lists.{IsList, IsValid}
use Rattle.made_list.specs.MadeList.{part, made_head, made_page, made_pages, made_parts, made_tail, made_list}
use Rattle.made_list.proofs.Kept.{made_list_kept}
use Rattle.made_list.proofs.PageBytes.{page_are_bytes, context_are_bytes}

all_append : (xs ys : List Component) → AllByRecursion IsComponent xs → AllByRecursion IsComponent ys → AllByRecursion IsComponent (xs ++ ys)
all_append [] ys first second = second
all_append (x ∷ xs) ys (one, first) second = (one, all_append xs ys first second)

is_part : (h : Header) (content : Content) → NumbersFit h → ListsAreBytes h → HoldsBytes content → data_offset h ≡ 0 → IsComponent (part h content)
is_part h content numbers lists bytes offset = record { numbers = numbers; lists = lists; tail = tt; content = bytes; offset = offset }

is_head : (n : ℕ) → n ≤ 100000 → AllByRecursion IsComponent (made_head n)
unfolding made_head
is_head n few = (
  is_part _ _ (omega arith, omega arith, omega arith, omega arith) tt tt refl,
  (
    is_part _ _ (omega arith, omega arith, omega arith, omega arith) tt tt refl,
    (
      is_part _ _ (omega arith, omega arith, omega arith, omega arith) tt tt refl,
      (
        is_part _ _ (omega arith, omega arith) tt tt refl,
        (
          is_part _ _ (omega arith, omega arith, omega arith) tt tt refl,
          (
            is_part _ _ (omega arith, omega arith) tt tt refl,
            (is_part _ _ (omega arith, omega arith, omega arith, omega arith) tt tt refl, tt),
          ),
        ),
      ),
    ),
  ),
)

is_pages : (n first : ℕ) → first + n ≤ 100000 → AllByRecursion IsComponent (map made_page (range_with_len first n))
unfolding made_page
is_pages zero first few = tt
is_pages (suc n) first few =
    (is_part _ _ (omega arith, omega arith, omega arith) tt (page_are_bytes first) refl, is_pages n (first + 1) (omega arith))

is_tail : AllByRecursion IsComponent made_tail
unfolding made_tail
is_tail = (
  is_part _ _ (omega arith, omega arith, omega arith) tt tt refl,
  (
    is_part _ _ (omega arith, omega arith, omega arith) tt tt refl,
    (
      is_part _ _ (omega arith, omega arith, omega arith) tt tt refl,
      (is_part _ _ (omega arith, omega arith, omega arith, omega arith) tt context_are_bytes refl, tt),
    ),
  ),
)

head_count : (n : ℕ) → length (made_head n) ≡ 7
unfolding made_head
head_count n = refl

tail_count : length made_tail ≡ 4
unfolding made_tail
tail_count = refl

-- how many components there are
pub length-made_parts : (n : ℕ) → length (made_parts n) ≡ 11 + n
unfolding made_parts
length-made_parts n =
    omega (
      arith,
      length-append (made_head n ++ made_pages n) made_tail,
      length-append (made_head n) (made_pages n),
      length-map-range_with_len made_page 0 n,
      head_count n,
      tail_count,
    )

pub made_parts_valid : (n : ℕ) → n ≤ 100000 → IsValid (made_parts n)
unfolding made_parts
made_parts_valid n few = record {
  kept = made_list_kept n few;
  fits = record {
    few = omega (arith, length-made_parts n);
    each = all_append (made_head n ++ made_pages n) made_tail (all_append (made_head n) (made_pages n) (is_head n few) (is_pages n 0 (omega arith))) is_tail;
  };
}

pub made_list_is : (n : ℕ) → n ≤ 100000 → IsList (made_list n)
made_list_is n few = record { known = refl; valid = made_parts_valid n few }
