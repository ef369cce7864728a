use Rattle.std.proofs.Common.{◌≡◌, ◌++◌, [], ◌∷◌, ◌∙◌, sym, ap, append_assoc, arith}
use Rattle.std.proofs.lemmas.List.FromFn.{map-range_with_len_more}
use Rattle.made_list.specs.MadeList.{made_page, made_pages}
use Rattle.made_list.proofs.pages.push_pages.Goals as goal

pub pages-preserved : goal.pages-preserved
pages-preserved c =
    let old = c.args.parts.now.items in
    let k = c.pages.k in
    let pushed : c.push_page.new.parts.items ≡ c.pages.parts.items ++ made_page k ∷ [] = c.in_ok-push_page.ensures in
    pushed
    ∙ ap (λ ps. ps ++ made_page k ∷ []) c.pages.invariant
    ∙ append_assoc old (made_pages k) (made_page k ∷ [])
    ∙ ap (λ ps. old ++ ps) (sym (map-range_with_len_more made_page 0 k k (omega arith)))
