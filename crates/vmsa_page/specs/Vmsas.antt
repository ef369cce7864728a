-- VMSAs: ten segments, thirteen numbers, and the other bytes of the page that are not 0.
use Rattle.std.specs.Prelude.{◌≡◌, ◌<◌, ◌≤◌, ◌^◌, ℕ, ◌+◌, ◌&&◌, nat_le, nat_lt, not, Bool, false, List, [], ◌∷◌, length, ⊤}
use Rattle.std.specs.List.{AllByRecursion}
use Rattle.vmsa_page.specs.declared.other_byte.OtherByte.{OtherByte}
use Rattle.vmsa_page.specs.declared.segment.Segment.{Segment}
use Rattle.vmsa_page.specs.Fields.{is_named}

-- the segments and the numbers in the order of the fields, and the other bytes with their places
pub record VmsaParts : Type 0 where
  pub segments : List Segment
  pub numbers : List ℕ
  pub other : List OtherByte

-- each number of a segment fits its bytes
pub record IsSegment (s : Segment) : Type 0 where
  pub selector : s.selector < 65536
  pub attributes : s.attributes < 65536
  pub limit : s.limit < 4294967296
  pub base : s.base < 18446744073709551616

-- bytes outside the named fields that are not 0, in rising order of their places, which begin at `low` or behind that
abbrev pub AreOther : ℕ → List OtherByte → Type 0
AreOther low [] = ⊤
AreOther low (o ∷ os) =
    (low ≤ o.at) × (o.at < 4096) × (is_named o.at ≡ false) × (0 < o.byte) × (o.byte < 256) × AreOther (o.at + 1) os

-- the first of such bytes, as a test
abbrev pub is_placed : ℕ → OtherByte → Bool
is_placed low o = nat_le low o.at && nat_lt o.at 4096 && not (is_named o.at) && nat_lt 0 o.byte

-- ten segments, thirteen numbers of 64 bits, and other bytes
pub record IsVmsa (v : VmsaParts) : Type 0 where
  pub ten : length v.segments ≡ 10
  pub segments : AllByRecursion IsSegment v.segments
  pub thirteen : length v.numbers ≡ 13
  pub numbers : AllByRecursion (λ n. n < 2 ^ 64) v.numbers
  pub other : AreOther 0 v.other
