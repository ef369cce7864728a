use Rattle.std.proofs.Common.{◌≡◌, ◌++◌, ◌-◌, map}
use Rattle.std.specs.List.{range_with_len}
use Rattle.byteorder.specs.Endian.{little_bytes}
use Rattle.made_list.specs.MadeList.{page_byte}
use Rattle.made_list.proofs.page.page_bytes.Given as goal

abbrev pub invariant-bytes : goal.invariant-bytes
invariant-bytes l = l.bytes.items ≡ little_bytes 4 l.k ++ map (page_byte l.k) (range_with_len 4 (l.j - 4))
