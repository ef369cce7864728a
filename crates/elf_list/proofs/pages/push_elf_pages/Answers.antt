use Rattle.std.proofs.Common.{◌≡◌, ◌++◌, [], ◌∷◌, ◌∙◌, map, sym, ap, append_assoc, arith, below_more}
use Rattle.std.specs.List.{range_with_len}
use Rattle.std.proofs.lemmas.List.FromFn.{map-range_with_len_more}
use Rattle.elf_list.specs.ElfParts.{elf_page}
use Rattle.elf_list.proofs.pages.push_elf_pages.Goals as goal

pub pages-preserved : goal.pages-preserved
pages-preserved c =
    let old = c.args.parts.now.items in
    let k = c.pages.k in
    let page = elf_page c.args.elf.now c.args.mask in
    let pages = map page (range_with_len 0 k) in
    let pushed : c.push.new.self.items ≡ c.pages.parts.items ++ c.in_ok-page.page ∷ [] = c.in_ok-push.ensures.items in (
      pushed
          ∙ ap (λ p. c.pages.parts.items ++ p ∷ []) c.in_ok-page.ensures.page
          ∙ ap (λ ps. ps ++ page k ∷ []) c.pages.invariant.0
          ∙ append_assoc old pages (page k ∷ [])
          ∙ ap (λ ps. old ++ ps) (sym (map-range_with_len_more page 0 k k (omega arith))),
      below_more _ _ c.pages.invariant.1 c.in_ok-page.ensures.bytes,
    )
