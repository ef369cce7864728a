-- Pages of a run, one after the other.
use Rattle.std.proofs.Common.{◌≡◌, ℕ, ◌+◌, List, [], ◌∷◌, ◌++◌, sym, ◌∙◌, ap, append_assoc, arith}
use Rattle.std.proofs.lemmas.List.FromFn.{map-range_with_len_more}
use Rattle.component_list.specs.declared.component.Component.{Component}
use Rattle.component_list.specs.declared.component.Content.{Content}
use Rattle.component_list.specs.declared.source.PageRun.{PageRun}
use Rattle.component_list.specs.Expansion.{page_at, page_parts}

-- one page more
pub parts_more : (run : PageRun) (content : ℕ → Content) (before made : List Component) (k : ℕ) (part : Component)
    → made ≡ before ++ page_parts run content k → part ≡ page_at run k (content k)
    → made ++ part ∷ [] ≡ before ++ page_parts run content (k + 1)
parts_more run content before made k part same is =
    ap (λ xs. xs ++ part ∷ []) same
    ∙ append_assoc before (page_parts run content k) (part ∷ [])
    ∙ ap (λ p. before ++ (page_parts run content k ++ p ∷ [])) is
    ∙ ap (λ xs. before ++ xs) (sym (map-range_with_len_more (λ n. page_at run n (content n)) 0 k k (omega arith)))
