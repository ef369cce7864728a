use Rattle.std.proofs.Common.{◌≡◌, ◌++◌, map, take}
use Rattle.component_list.specs.Expansion.{plain_part}
use Rattle.component_list.proofs.parts.push_headers.Given as goal

abbrev pub invariant-headers : goal.invariant-headers
invariant-headers l = l.parts.items ≡ l.fn.parts.items ++ map plain_part (take l.header-index l.headers)
