-- A host set as its value.
use Rattle.std.specs.Prelude.{map}
use Rattle.host_set.specs.Hosts.{HostValues}
use Rattle.host_set.specs.declared.host.HostSet.TheInside.{Inside}

abbrev pub view_of : Inside → HostValues
view_of h =
    record {
      values = map (λ v. v.items) h.values;
      secrets = h.secrets.items;
      cpuid = h.cpuid.items;
    }
