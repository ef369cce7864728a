-- The pages that segments touch, in rising order: how many are below a number, and which has a rank.
use Rattle.std.proofs.Common.{◌≡◌, ℕ, zero, suc, ◌+◌, ◌-◌, ◌*◌, ◌<◌, ◌≤◌, true, false, cond, List, [], ◌∷◌, ◌++◌, length, get_or, refl, sym, ap, ◌∙◌, arith, length-append, append-nil, append_assoc}
use Rattle.std.proofs.lemmas.List.{get_or_at}
use Rattle.elf_pages.specs.declared.segment.Segment.{Segment}
use Rattle.elf_pages.specs.Pages.{is_touched, meets, pages_below, pages_in}
use Rattle.elf_pages.specs.SegmentTables.{HasSame}

-- ---- how many of the first pages are touched

pub one_none : (segments : List Segment) (page : ℕ) → is_touched segments (4096 * page) ≡ false → pages_below segments (suc page) ≡ pages_below segments page
unfolding pages_below
one_none segments page h = ap (λ b. pages_below segments page ++ cond b (4096 * page ∷ []) []) h ∙ append-nil (pages_below segments page)

pub one_more : (segments : List Segment) (page : ℕ) → is_touched segments (4096 * page) ≡ true → pages_below segments (suc page) ≡ pages_below segments page ++ 4096 * page ∷ []
unfolding pages_below
one_more segments page h = ap (λ b. pages_below segments page ++ cond b (4096 * page ∷ []) []) h

rank_none : (segments : List Segment) (a n : ℕ) → ((page : ℕ) → a ≤ page → page < a + n → is_touched segments (4096 * page) ≡ false) → length (pages_below segments (a + n)) ≡ length (pages_below segments a)
rank_none segments a zero h = let same : a + 0 ≡ a = omega arith in ap (λ m. length (pages_below segments m)) same
rank_none segments a (suc n) h =
    let next : a + suc n ≡ suc (a + n) = omega arith in
    ap (λ m. length (pages_below segments m)) next
    ∙ ap (length {A = ℕ}) (one_none segments (a + n) (h (a + n) (omega arith) (omega arith)))
    ∙ rank_none segments a n (λ page from to. h page from (omega arith))

rank_all : (segments : List Segment) (a n : ℕ) → ((page : ℕ) → a ≤ page → page < a + n → is_touched segments (4096 * page) ≡ true) → length (pages_below segments (a + n)) ≡ length (pages_below segments a) + n
rank_all segments a zero h = let same : a + 0 ≡ a = omega arith in omega (arith, ap (λ m. length (pages_below segments m)) same)
rank_all segments a (suc n) h =
    let next : a + suc n ≡ suc (a + n) = omega arith in
    let here = ap (λ m. length (pages_below segments m)) next
    ∙ ap (length {A = ℕ}) (one_more segments (a + n) (h (a + n) (omega arith) (omega arith)))
    ∙ length-append (pages_below segments (a + n)) (4096 * (a + n) ∷ []) in
    let rest = rank_all segments a n (λ page from to. h page from (omega arith)) in
    omega (arith, here, rest)

pub none_between : (segments : List Segment) (a b : ℕ) → a ≤ b → ((page : ℕ) → a ≤ page → page < b → is_touched segments (4096 * page) ≡ false) → length (pages_below segments b) ≡ length (pages_below segments a)
none_between segments a b order h =
    let same : a + (b - a) ≡ b = omega arith in
    ap (λ m. length (pages_below segments m)) (sym same) ∙ rank_none segments a (b - a) (λ page from to. h page from (omega arith))

pub all_between : (segments : List Segment) (a b : ℕ) → a ≤ b → ((page : ℕ) → a ≤ page → page < b → is_touched segments (4096 * page) ≡ true) → length (pages_below segments b) ≡ length (pages_below segments a) + (b - a)
all_between segments a b order h =
    let same : a + (b - a) ≡ b = omega arith in
    ap (λ m. length (pages_below segments m)) (sym same) ∙ rank_all segments a (b - a) (λ page from to. h page from (omega arith))

-- ---- the page of a rank

pub goes_on : (segments : List Segment) (a n : ℕ) → (rest : List ℕ) × (pages_below segments (a + n) ≡ pages_below segments a ++ rest)
unfolding pages_below
goes_on segments a zero = let same : a + 0 ≡ a = omega arith in ([], ap (pages_below segments) same ∙ sym (append-nil (pages_below segments a)))
goes_on segments a (suc n) =
    let next : a + suc n ≡ suc (a + n) = omega arith in
    let front = goes_on segments a n in
    let last = cond (is_touched segments (4096 * (a + n))) (4096 * (a + n) ∷ []) [] in
    (front.0 ++ last, ap (pages_below segments) next ∙ ap (λ xs. xs ++ last) front.1 ∙ append_assoc (pages_below segments a) front.0 last)

pub page_of_rank : (segments : List Segment) (page most : ℕ) → is_touched segments (4096 * page) ≡ true → page < most → get_or (pages_below segments most) (length (pages_below segments page)) 0 ≡ 4096 * page
page_of_rank segments page most touched less =
    let same : suc page + (most - suc page) ≡ most = omega arith in
    let rest = goes_on segments (suc page) (most - suc page) in
    let whole = ap (pages_below segments) (sym same) ∙ rest.1 ∙ ap (λ xs. xs ++ rest.0) (one_more segments page touched) ∙ append_assoc (pages_below segments page) (4096 * page ∷ []) rest.0 in
    ap (λ xs. get_or xs (length (pages_below segments page)) 0) whole ∙ get_or_at (pages_below segments page) (4096 * page) rest.0 0 (length (pages_below segments page)) refl

-- ---- the same pages, whatever the order of the segments

pub same_below : (file : List ℕ) (segments table : List Segment) (most : ℕ) → HasSame file segments table → pages_below table most ≡ pages_below segments most
unfolding pages_below
same_below file segments table zero same = refl
same_below file segments table (suc page) same =
    ap (λ xs. xs ++ cond (is_touched table (4096 * page)) (4096 * page ∷ []) []) (same_below file segments table page same)
    ∙ ap (λ b. pages_below segments page ++ cond b (4096 * page ∷ []) []) (same.any (λ s. meets (4096 * page) s.address s.memory_bytes))

pub same_pages : (file : List ℕ) (segments table : List Segment) → HasSame file segments table → pages_in table ≡ pages_in segments
unfolding pages_in
same_pages file segments table same = same_below file segments table 1099511627776 same
