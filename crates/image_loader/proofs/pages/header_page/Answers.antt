use Rattle.std.proofs.Common.{◌≡◌, ◌-◌, ℕ, List, ◌++◌, length, replicate, ap, ◌∙◌, append-nil}
use Rattle.igvm_headers.specs.Pages.{padded_page}
use Rattle.image_loader.proofs.pages.header_page.Goals as goal

-- a whole page is padded by nothing
padded_whole : (bytes : List ℕ) → length bytes ≡ 4096 → padded_page bytes ≡ bytes
unfolding padded_page
padded_whole bytes whole = ap (λ n. bytes ++ replicate (4096 - n) 0) whole ∙ append-nil bytes

pub returns-in-Insert : goal.returns-in-Insert
returns-in-Insert c =
    rw c.in-Insert.is (c.of_bytes.ensures ∙ padded_whole c.page.result.now c.page.ensures.size ∙ c.page.ensures.bytes)
