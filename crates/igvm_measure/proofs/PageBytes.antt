-- Pages, by what is lent of them.
use Rattle.std.proofs.Common.{◌≡◌, ℕ, ◌-◌, List, [], ◌∷◌, length, replicate, refl, arith}
use Rattle.igvm_headers.specs.Pages.{padded_page}
use Rattle.igvm_measure.proofs.Cuts.{cut_after}

-- as many bytes are lent of two pages
pub same_lent : (lent other : List ℕ) → length lent ≡ length other → padded_page lent ≡ padded_page other → lent ≡ other
unfolding padded_page
same_lent lent other size same = (cut_after lent other (replicate (4096 - length lent) 0) (replicate (4096 - length other) 0) size same).0

-- none is lent
pub empty_page : (lent : List ℕ) → length lent ≡ 0 → padded_page lent ≡ replicate 4096 0
unfolding padded_page
empty_page [] none = refl
empty_page (x ∷ lent) none = absurd (omega arith)
