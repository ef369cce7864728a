-- A VMSA as its value.
use Rattle.vmsa_page.specs.Vmsas.{VmsaParts}
use Rattle.vmsa_page.specs.declared.vmsa.Vmsa.TheInside.{Inside}

-- the parts that the fields hold
abbrev pub view_of : Inside → VmsaParts
view_of v = record { segments = v.segments; numbers = v.numbers; other = v.other.items }
