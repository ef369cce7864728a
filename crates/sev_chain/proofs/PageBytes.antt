-- The bytes of pages, behind others.
use Rattle.std.proofs.Common.{◌≡◌, ℕ, zero, suc, ◌+◌, ◌-◌, List, [], ◌∷◌, ◌++◌, length, replicate, ap, sym, ◌∙◌, append_assoc, add-one, zero-add, arith}
use Rattle.std.specs.List.{flat_map, range_with_len}
use Rattle.std.proofs.lemmas.List.{flat_map_more}
use Rattle.igvm_headers.specs.Pages.{padded_page}
use Rattle.igvm_image.specs.Data.{Data, data_page}

-- what is lent of a page, and its zeros
pub padded_behind : (m lent zeros page : List ℕ) → page ≡ padded_page lent → zeros ≡ replicate (4096 - length lent) 0
    → (m ++ lent) ++ zeros ≡ m ++ page
unfolding padded_page
padded_behind m lent zeros page is fills =
    append_assoc m lent zeros ∙ ap (λ xs. m ++ xs) (ap (λ xs. lent ++ xs) fills ∙ sym is)

-- the first n pages of a header's data
abbrev pub first_pages : Data → ℕ → List ℕ
first_pages content n = flat_map (data_page content) (range_with_len 0 n)

range_more : (a n : ℕ) → range_with_len a (suc n) ≡ range_with_len a n ++ (a + n) ∷ []
range_more a zero = ap (λ x. x ∷ []) (omega arith)
range_more a (suc n) = ap (λ xs. a ∷ xs) (range_more (a + 1) n ∙ ap (λ x. range_with_len (a + 1) n ++ x ∷ []) (omega arith))

-- one page more
pub page_more : (m : List ℕ) (content : Data) (k : ℕ) → (m ++ first_pages content k) ++ data_page content k ≡ m ++ first_pages content (k + 1)
page_more m content k =
    flat_map_more (data_page content) m (range_with_len 0 k) k
    ∙ ap (λ ks. m ++ flat_map (data_page content) ks)
    (ap (λ n. range_with_len 0 k ++ n ∷ []) (sym (zero-add k)) ∙ sym (range_more 0 k) ∙ ap (range_with_len 0) (sym (add-one k)))
