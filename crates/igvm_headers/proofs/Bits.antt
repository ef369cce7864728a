-- The least set bit, from the low end.
use Rattle.std.proofs.Common.{◌≡◌, ℕ, suc, ◌+◌, ◌-◌, ◌<◌, ◌≤◌, true, false, Some, None, refl, arith, add-one}
use Rattle.igvm_headers.specs.Records.Page.{least_set}
use Rattle.igvm_headers.specs.Records.Fields.{is_set}

-- the bit itself is set
pub least_set_here : (n bit flags : ℕ) → bit < n → is_set bit flags ≡ true → least_set (n - bit) bit flags ≡ Some bit
unfolding least_set
least_set_here n bit flags within set =
    let more : n - bit ≡ suc (n - bit - 1) = omega arith in
    rw (more, set) refl

-- it is another one, if any
pub least_set_behind : (n bit flags : ℕ) → bit < n → is_set bit flags ≡ false → least_set (n - bit) bit flags ≡ least_set (n - (bit + 1)) (bit + 1) flags
unfolding least_set
least_set_behind n bit flags within clear =
    let more : n - bit ≡ suc (n - (bit + 1)) = omega arith in
    rw (more, clear, add-one) refl

-- no bit is left
pub least_set_past : (n bit flags : ℕ) → n ≤ bit → least_set (n - bit) bit flags ≡ None
unfolding least_set
least_set_past n bit flags past =
    let none : n - bit ≡ 0 = omega arith in
    rw none refl
