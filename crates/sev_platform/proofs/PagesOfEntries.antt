-- The pages that entries in memory are, with one of them measured.
use Rattle.std.proofs.Common.{◌≡◌, ℕ, zero, suc, List, [], ◌∷◌, map, refl, ap}
use Rattle.igvm_headers.specs.declared.tag.Tag.TheVariants.{Normal}
use Rattle.launch_platform.specs.Machine.{Entry}
use Rattle.launch_platform.specs.Commands.{change_at, tagged}
use Rattle.sev_platform.specs.SevPages.{sev_page}
use Rattle.sev_platform.specs.SevCommands.{measured}

pub pages_measured : (es : List Entry) (slot : ℕ) → map sev_page (change_at slot (tagged Normal) es) ≡ change_at slot measured (map sev_page es)
pages_measured [] slot = refl
pages_measured (e ∷ es) zero = refl
pages_measured (e ∷ es) (suc slot) = ap (λ pages. sev_page e ∷ pages) (pages_measured es slot)
