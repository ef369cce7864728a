-- The walk over sorted segments counts the pages that they touch.
use Rattle.std.proofs.Common.{◌≡◌, ℕ, ◌+◌, ◌-◌, ◌*◌, ◌<◌, ◌≤◌, max, true, false, List, length, get_or, refl, sym, ap, ◌∙◌, arith, inl, inr}
use Rattle.std.proofs.lemmas.Bool.{cases_lt}
use Rattle.std.proofs.lemmas.Bool.Decides.{nat_tests}
use Rattle.std.proofs.lemmas.List.{get_or_default}
use Rattle.std.proofs.lemmas.List.Folds.{list_any_at, list_any_none}
use Rattle.elf_pages.specs.declared.segment.Segment.{Segment}
use Rattle.elf_pages.specs.Pages.{end_page, first_page, is_touched, meets, pages_below, pages_in}
use Rattle.elf_pages.specs.SegmentTables.{AreSorted}
use Rattle.elf_pages.specs.Segments.{end_of}
use Rattle.elf_pages.proofs.TouchedPages.{none_between, all_between, page_of_rank}

-- how far a walk over the first `done` segments has come: the pages below `next` are counted
pub record PageWalk (segments : List Segment) (next counted done : ℕ) : Type 0 where
  pub counts : counted ≡ length (pages_below segments next)
  pub few : counted ≤ next
  pub low : next ≤ 1099511627776
  pub passed : (place : ℕ) (d : Segment) → place < done → end_of (get_or segments place d) ≤ 4096 * next

pub walk_first : (segments : List Segment) → PageWalk segments 0 0 0
unfolding pages_below
walk_first segments = record { counts = refl; few = omega arith; low = omega arith; passed = λ place d less. absurd (omega arith) }

before_page : (page from bytes : ℕ) → from + bytes ≤ 4096 * page → meets (4096 * page) from bytes ≡ false
before_page page from bytes h = grind (arith, nat_tests)

behind_page : (page from bytes : ℕ) → 4096 * page + 4096 ≤ from → meets (4096 * page) from bytes ≡ false
behind_page page from bytes h = grind (arith, nat_tests)

on_page : (page from bytes : ℕ) → 0 < bytes → from < 4096 * page + 4096 → 4096 * page < from + bytes → meets (4096 * page) from bytes ≡ true
on_page page from bytes some low high = grind (arith, nat_tests)

-- what a step has of the segment at its place
pub record Step (segments : List Segment) (next done from end : ℕ) (d : Segment) : Type 0 where
  pub within : done < length segments
  pub starts : from ≡ max (first_page (get_or segments done d)) next
  pub stops : end ≡ max (end_page (get_or segments done d)) next

pub order_of : (size : ℕ) (segments : List Segment) (next done from end : ℕ) (d : Segment) → AreSorted size segments → Step segments next done from end d
    → (next ≤ from) × (from ≤ end) × (end ≤ max 1099511627776 next)
order_of size segments next done from end d sorted step =
    let sound = sorted.each done d step.within in
    let some = sound.some in
    let ends = sound.ends in
    let a = step.starts in
    let b = step.stops in
    (omega arith, omega arith, omega arith)

none_new : (size : ℕ) (segments : List Segment) (next counted done from end : ℕ) (d : Segment) → AreSorted size segments → PageWalk segments next counted done → Step segments next done from end d
    → (page : ℕ) → next ≤ page → page < from → is_touched segments (4096 * page) ≡ false
none_new size segments next counted done from end d sorted walk step page low high =
    let is = step.starts in
    let first : 4096 * page + 4096 ≤ (get_or segments done d).address = omega arith in
    list_any_none (λ s. meets (4096 * page) s.address s.memory_bytes) segments (λ place e less. elim (cases_lt place done) [
      | inl before ↦ before_page page (get_or segments place e).address (get_or segments place e).memory_bytes (omega (arith, walk.passed place e before))
      | inr behind ↦
          elim (cases_lt done place) [
            | inl after ↦ behind_page page (get_or segments place e).address (get_or segments place e).memory_bytes
                (omega (arith, first, ap (λ (s : Segment). s.address) (get_or_default segments done d e step.within), sorted.order done place e after less))
            | inr more ↦
                let here : done ≡ place = omega arith in
                behind_page page (get_or segments place e).address (get_or segments place e).memory_bytes
                (omega (arith, first, ap (λ (s : Segment). s.address) (get_or_default segments done d e step.within), ap (λ n. (get_or segments n e).address) here))
          ]
    ])

all_new : (size : ℕ) (segments : List Segment) (next done from end : ℕ) (d : Segment) → AreSorted size segments → Step segments next done from end d
    → (page : ℕ) → from ≤ page → page < end → is_touched segments (4096 * page) ≡ true
all_new size segments next done from end d sorted step page low high =
    let a = step.starts in
    let b = step.stops in
    let some = (sorted.each done d step.within).some in
    list_any_at (λ s. meets (4096 * page) s.address s.memory_bytes) segments done d step.within
    (on_page page (get_or segments done d).address (get_or segments done d).memory_bytes some (omega arith) (omega arith))

pub walk_step : (size : ℕ) (segments : List Segment) (next counted done from end : ℕ) (d : Segment) → AreSorted size segments → PageWalk segments next counted done → Step segments next done from end d
    → PageWalk segments end (counted + (end - from)) (done + 1)
walk_step size segments next counted done from end d sorted walk step =
    let order = order_of size segments next done from end d sorted step in
    let none = none_between segments next from order.0 (none_new size segments next counted done from end d sorted walk step) in
    let all = all_between segments from end order.1 (all_new size segments next done from end d sorted step) in
    record {
      counts = omega (arith, walk.counts, none, all);
      few = omega (arith, walk.few, order.0, order.1);
      low = omega (arith, walk.low, order.2);
      passed = λ place e less. elim (cases_lt place done) [
        | inl before ↦ omega (arith, walk.passed place e before, order.0, order.1)
        | inr behind ↦
            let here : place ≡ done = omega arith in
            let same = ap (λ n. end_of (get_or segments n e)) here in
            let given = ap end_of (get_or_default segments done e d step.within) in
            let is = step.stops in
            omega arith
      ];
    }

-- where a page of a rank stands: among the new pages of the segment
pub page_found : (size : ℕ) (segments : List Segment) (next counted done from end k : ℕ) (d : Segment) → AreSorted size segments → PageWalk segments next counted done → Step segments next done from end d
    → counted ≤ k → k - counted < end - from → (4096 * (from + (k - counted)) ≡ get_or (pages_in segments) k 0) × (from + (k - counted) < 1099511627776)
unfolding pages_in
page_found size segments next counted done from end k d sorted walk step behind within =
    let order = order_of size segments next done from end d sorted step in
    let page = from + (k - counted) in
    let none = none_between segments next from order.0 (none_new size segments next counted done from end d sorted walk step) in
    let all = all_between segments from page (omega arith) (λ p low high. all_new size segments next done from end d sorted step p low (omega arith)) in
    let rank : length (pages_below segments page) ≡ k = omega (arith, walk.counts, none, all) in
    let low : page < 1099511627776 = omega (arith, walk.low, order.2) in
    (sym (page_of_rank segments page 1099511627776 (all_new size segments next done from end d sorted step page (omega arith) (omega arith)) low) ∙ ap (λ n. get_or (pages_below segments 1099511627776) n 0) rank, low)

none_left : (segments : List Segment) (next counted done : ℕ) → PageWalk segments next counted done → length segments ≤ done → (page : ℕ) → next ≤ page → is_touched segments (4096 * page) ≡ false
none_left segments next counted done walk all page low =
    list_any_none (λ s. meets (4096 * page) s.address s.memory_bytes) segments (λ place e less.
    before_page page (get_or segments place e).address (get_or segments place e).memory_bytes (omega (arith, walk.passed place e (omega arith))))

pub walk_last : (segments : List Segment) (next counted done : ℕ) → PageWalk segments next counted done → length segments ≤ done → counted ≡ length (pages_in segments)
unfolding pages_in
walk_last segments next counted done walk all =
    walk.counts ∙ sym (none_between segments next 1099511627776 walk.low (λ page low high. none_left segments next counted done walk all page low))
