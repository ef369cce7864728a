use Rattle.std.proofs.Common.{◌++◌, ap, ◌∙◌, subst}
use Rattle.sha2.specs.Hashers.{Holds256}
use Rattle.sev_chain.proofs.PageBytes.{first_pages, page_more}
use Rattle.sev_chain.proofs.hashing.add_pages.Goals as goal

pub pages-preserved : goal.pages-preserved
pages-preserved c = λ m held.
    let content = c.args.content.now in
    subst (Holds256 c.add_page.new.hasher)
    (ap (λ page. (m ++ first_pages content c.pages.k) ++ page) c.page.ensures ∙ page_more m content c.pages.k)
    (c.add_page.ensures _ (c.pages.invariant m held))
