-- Records of either kind, joined.
use Rattle.std.proofs.Common.{◌≡◌, ℕ, ◌-◌, List, [], ◌∷◌, ◌++◌, length, map, refl, ap, arith}
use Rattle.std.proofs.lemmas.List.{append-nil}
use Rattle.igvm_headers.specs.Pages.{padded_page}
use Rattle.snp_chain.specs.Chain.{PageRecord}
use Rattle.launch_platform.specs.Machine.{LaunchRecord, Info, Bytes, infos, streams}

pub infos_append : (a b : List LaunchRecord) → infos (a ++ b) ≡ infos a ++ infos b
infos_append [] b = refl
infos_append (Info page ∷ a) b = ap (λ ps. page ∷ ps) (infos_append a b)
infos_append (Bytes bytes ∷ a) b = infos_append a b

pub streams_append : (a b : List LaunchRecord) → streams (a ++ b) ≡ streams a ++ streams b
streams_append [] b = refl
streams_append (Info page ∷ a) b = streams_append a b
streams_append (Bytes bytes ∷ a) b = ap (λ bs. bytes ∷ bs) (streams_append a b)

pub infos_of : (ps : List PageRecord) → infos (map (λ p. Info p) ps) ≡ ps
infos_of [] = refl
infos_of (p ∷ ps) = ap (λ qs. p ∷ qs) (infos_of ps)

pub streams_of : (bs : List (List ℕ)) → streams (map (λ b. Bytes b) bs) ≡ bs
streams_of [] = refl
streams_of (b ∷ bs) = ap (λ cs. b ∷ cs) (streams_of bs)

-- a whole page is not padded
pub padded_whole : (page : List ℕ) → length page ≡ 4096 → padded_page page ≡ page
unfolding padded_page
padded_whole page size = let none : 4096 - length page ≡ 0 = omega arith in rw none (append-nil page)
