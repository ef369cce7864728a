-- Plain data: values of JSON whose compact text is read again as the same value.
use Rattle.std.specs.Prelude.{◌≡◌, ◌≤◌, ◌<◌, ◌^◌, ℕ, List, IsUtf8, ⊤}
use Rattle.std.specs.Ordering.{nat_cmp}
use Rattle.std.specs.declared.cmp.Ordering.TheVariants.{Greater}
use Rattle.std.specs.Cmp.Lexicographic.{slice_cmp}
use Rattle.serde_json.specs.Data.{Num, unsigned, negative, float, Data, null, boolean, number, string, array, object, Items, no_items, item, Members, no_members, member, depth}

-- each of these keys stands above this one
abbrev pub AreAbove : List ℕ → Members → Type 0
AreAbove key no_members = ⊤
AreAbove key (member other json members) = (slice_cmp nat_cmp other key ≡ Greater) × AreAbove key members

-- the keys rise
abbrev pub AreRising : Members → Type 0
AreRising no_members = ⊤
AreRising (member key json members) = AreAbove key members × AreRising members

-- it is a whole number of 64 bits, written without a sign
abbrev pub IsWhole : Num → Type 0
IsWhole (unsigned n) = n < 2 ^ 64
IsWhole (negative z) = ⊥
IsWhole (float x) = ⊥

abbrev mutual
  -- its texts are UTF-8, its numbers whole and of 64 bits, and the keys of each object rise
  pub IsMade : Data → Type 0
  IsMade null = ⊤
  IsMade (boolean b) = ⊤
  IsMade (number n) = IsWhole n
  IsMade (string s) = IsUtf8 s
  IsMade (array ds) = AreMade ds
  IsMade (object ms) = AreRising ms × HasMade ms

  -- the same of each item
  pub AreMade : Items → Type 0
  AreMade no_items = ⊤
  AreMade (item d ds) = IsMade d × AreMade ds

  -- the same of each member, whose key is UTF-8, too
  pub HasMade : Members → Type 0
  HasMade no_members = ⊤
  HasMade (member key d ms) = IsUtf8 key × IsMade d × HasMade ms

-- such a value that nests no deeper than the reader goes
abbrev pub IsPlain : Data → Type 0
IsPlain json = IsMade json × (depth json ≤ 127)
