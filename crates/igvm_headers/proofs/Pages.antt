-- A padded page, byte by byte.
use Rattle.std.proofs.Common.{◌≡◌, ℕ, ◌+◌, ◌-◌, ◌<◌, ◌≤◌, List, ◌++◌, length, get_or, take, drop, replicate, arith, length-append, ◌∙◌}
use Rattle.std.proofs.lemmas.List.{length-replicate, get_or-replicate, get_or_append_left, append-nil}
use Rattle.std.proofs.Math.Seq.{get_or-append_right, take-append_seam, drop-append_seam, drop-length, take-length}
use borrow.Rule.Slice.PartMut.{put_mid}
use Rattle.igvm_headers.specs.Pages.{padded_page}

pub length_padded_page : (bytes : List ℕ) → length bytes ≤ 4096 → length (padded_page bytes) ≡ 4096
unfolding padded_page
length_padded_page bytes within = simp (length-append, length-replicate) (omega arith)

-- a byte that is lent
pub get_or_padded_page_lent : (bytes : List ℕ) (i : ℕ) → i < length bytes → get_or (padded_page bytes) i 0 ≡ get_or bytes i 0
unfolding padded_page
get_or_padded_page_lent bytes i h = get_or_append_left bytes _ 0 i h

-- a zero behind them
pub get_or_padded_page_past : (bytes : List ℕ) (i : ℕ) → length bytes ≤ i → i < 4096 → get_or (padded_page bytes) i 0 ≡ 0
unfolding padded_page
get_or_padded_page_past bytes i past h =
    get_or-append_right bytes (replicate (4096 - length bytes) 0) i 0 past ∙ get_or-replicate (4096 - length bytes) (i - length bytes) 0 0 (omega arith)

-- zeros written over all that follows the bytes
overwritten : (lent rest : List ℕ) → put_mid (length lent) (length rest) (lent ++ rest) (replicate (length rest) 0) ≡ lent ++ replicate (length rest) 0
overwritten lent rest = simp (take-append_seam, drop-append_seam, drop-length, append-nil)

-- as many as the rest of a page has
rest_size : (lent rest : List ℕ) → length (lent ++ rest) - length lent ≡ length rest
rest_size lent rest = omega (arith, length-append lent rest)

-- 4,096 bytes, the first of them lent, after zeros are written over the others
pub put_mid_padded : (lent front rest filled : List ℕ) → front ≡ lent → length lent + length rest ≡ 4096
    → filled ≡ replicate (length (take (length (front ++ rest) - length lent) (drop (length lent) (front ++ rest)))) 0
    → put_mid (length lent) (length (front ++ rest) - length lent) (front ++ rest) filled ≡ padded_page lent
unfolding padded_page
put_mid_padded lent front rest filled same size zeros =
    let count : 4096 - length lent ≡ length rest = omega arith in
    let zeros_lent = rw (same, drop-append_seam, rest_size, take-length) at zeros in
    rw (same, rest_size, count, zeros_lent) (overwritten lent rest)
