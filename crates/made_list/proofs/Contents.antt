-- The contents of a made list: they differ, and so the file holds each of them.
use Rattle.std.proofs.Common.{◌≡◌, ℕ, zero, suc, ◌+◌, ◌*◌, ◌<◌, ◌≤◌, ◌^◌, List, [], ◌∷◌, ◌++◌, length, map, refl, ◌∙◌, ap, arith, Bool, true, false, not, bytes_eq}
use Rattle.std.specs.Prelude.{filter, if◌then◌else◌, sum_by}
use Rattle.std.specs.List.{range_with_len, flat_map}
use Rattle.std.specs.Cmp.Lexicographic.{bytes_decides}
use Rattle.std.proofs.lemmas.Grind.{flat_map-append}
use Rattle.std.proofs.lemmas.List.Sums.{sum_by-cons}
use Rattle.byteorder.specs.Endian.{little_number}
use Rattle.byteorder.specs.Numbers.{little_number-reads_back}
use Rattle.component_list.specs.declared.component.Component.{Component}
use Rattle.image_builder.specs.DistinctContents.{contents, stored, differs, distinct}
use Rattle.made_list.specs.MadeList.{made_head, made_page, made_pages, made_parts, made_tail, page_byte, page_bytes, context_bytes}
use Rattle.made_list.proofs.PageBytes.{length-page_bytes, length-context_bytes}

-- ---- each begins with a number of its own

number_of_page : (k : ℕ) → k < 2 ^ 32 → little_number 4 (page_bytes k) ≡ k
unfolding page_bytes
number_of_page k fits = little_number-reads_back 4 k (map (page_byte k) (range_with_len 4 4092)) (omega arith)

number_of_context : little_number 4 context_bytes ≡ 50462976
unfolding context_bytes
number_of_context = refl

-- contents that begin with two numbers differ
differ : (xs ys : List ℕ) → (little_number 4 xs ≡ little_number 4 ys → ⊥) → differs xs ys ≡ true
differ xs ys apart = cases (bytes_eq xs ys) refl
  where
    cases : (b : Bool) → bytes_eq xs ys ≡ b → not b ≡ true
    cases true same = absurd (apart (ap (little_number 4) ((bytes_decides xs ys).0 same)))
    cases false other = refl

pages_differ : (j k : ℕ) → j < k → k < 2 ^ 32 → differs (page_bytes j) (page_bytes k) ≡ true
pages_differ j k less fits =
    differ (page_bytes j) (page_bytes k) (λ same. omega (arith, same, number_of_page j (omega arith), number_of_page k fits))

context_differs : (k : ℕ) → k ≤ 100000 → differs (page_bytes k) context_bytes ≡ true
context_differs k few =
    differ (page_bytes k) context_bytes (λ same. omega (arith, same, number_of_page k (omega arith), number_of_context))

-- ---- so each of them is kept

-- the contents of pages in a row, and that of the context
abbrev pub row : ℕ → ℕ → List (List ℕ)
row first n = map page_bytes (range_with_len first n) ++ context_bytes ∷ []

-- one that passes the test stays in front
stay : (xs : List ℕ) (others kept : List (List ℕ)) (b : Bool) → b ≡ true → kept ≡ others → (if b then xs ∷ kept else kept) ≡ xs ∷ others
stay xs others kept true told same = ap (λ ks. xs ∷ ks) same
stay xs others kept false told same = cc

all_differ : (j first n : ℕ) → j < first → first + n ≤ 100000 → filter (differs (page_bytes j)) (row first n) ≡ row first n
all_differ j first zero less few = stay context_bytes [] [] (differs (page_bytes j) context_bytes) (context_differs j (omega arith)) refl
all_differ j first (suc n) less few =
    stay (page_bytes first) (row (first + 1) n) (filter (differs (page_bytes j)) (row (first + 1) n))
    (differs (page_bytes j) (page_bytes first)) (pages_differ j first less (omega arith)) (all_differ j (first + 1) n (omega arith) (omega arith))

distinct-row : (first n : ℕ) → first + n ≤ 100000 → distinct (row first n) ≡ row first n
unfolding distinct
distinct-row first zero few = refl
distinct-row first (suc n) few =
    ap (λ ks. page_bytes first ∷ filter (differs (page_bytes first)) ks) (distinct-row (first + 1) n (omega arith))
    ∙ ap (λ ks. page_bytes first ∷ ks) (all_differ first (first + 1) n (omega arith) (omega arith))

-- ---- they are the contents of the list

contents_of_head : (n : ℕ) → flat_map (λ (c : Component). stored c.content) (made_head n) ≡ []
unfolding made_head
contents_of_head n = refl

contents_of_tail : flat_map (λ (c : Component). stored c.content) made_tail ≡ context_bytes ∷ []
unfolding made_tail
contents_of_tail = refl

contents_of_pages : (first n : ℕ) → flat_map (λ (c : Component). stored c.content) (map made_page (range_with_len first n)) ≡ map page_bytes (range_with_len first n)
unfolding made_page
contents_of_pages first zero = refl
contents_of_pages first (suc n) = ap (λ ks. page_bytes first ∷ ks) (contents_of_pages (first + 1) n)

contents_are : (n : ℕ) → contents (made_parts n) ≡ row 0 n
unfolding contents made_parts
contents_are n =
    let held = λ (c : Component). stored c.content in
    flat_map-append held (made_head n ++ made_pages n) made_tail
    ∙ ap (λ ks. ks ++ flat_map held made_tail) (flat_map-append held (made_head n) (made_pages n))
    ∙ ap (λ ks. (ks ++ flat_map held (made_pages n)) ++ flat_map held made_tail) (contents_of_head n)
    ∙ ap (λ ks. ks ++ flat_map held made_tail) (contents_of_pages 0 n)
    ∙ ap (λ ks. map page_bytes (range_with_len 0 n) ++ ks) contents_of_tail

-- ---- and how many bytes they have

row_size : (first n : ℕ) → sum_by length (row first n) ≡ 4096 * n + 4096
row_size first zero = sum_by-cons length context_bytes [] ∙ omega (arith, length-context_bytes)
row_size first (suc n) =
    sum_by-cons length (page_bytes first) (row (first + 1) n) ∙ omega (arith, length-page_bytes first, row_size (first + 1) n)

pub contents_size : (n : ℕ) → n ≤ 100000 → sum_by length (distinct (contents (made_parts n))) ≡ 4096 * n + 4096
contents_size n few =
    ap (λ ks. sum_by length (distinct ks)) (contents_are n) ∙ ap (sum_by length) (distinct-row 0 n (omega arith)) ∙ row_size 0 n
