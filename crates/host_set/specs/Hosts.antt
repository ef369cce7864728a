-- The values of a host.
use Rattle.std.specs.Prelude.{ℕ, ◌≤◌, ◌≡◌, List, [], length, slice_index_or, slice_set, map}
use Rattle.igvm_headers.specs.declared.param_kind.ParamKind.{ParamKind}
use Rattle.igvm_headers.specs.ParamKinds.{param_kinds, param_number}

-- the value of each parameter, in the order of their numbers, and what the pages of secrets and of
-- CPUID begin with
pub record HostValues : Type 0 where
  pub values : List (List ℕ)
  pub secrets : List ℕ
  pub cpuid : List ℕ

-- all are empty
abbrev pub no_values : HostValues
no_values = record { values = map (λ _. []) param_kinds; secrets = []; cpuid = [] }

-- the value of a parameter
abbrev pub value_of : HostValues → ParamKind → List ℕ
value_of host kind = slice_index_or host.values (param_number kind) []

-- the host with another value of a parameter
abbrev pub with_value : ParamKind → List ℕ → HostValues → HostValues
with_value kind value host =
    record host { values = slice_set host.values (param_number kind) value }

-- with other secrets
abbrev pub with_secrets : List ℕ → HostValues → HostValues
with_secrets value host = record host { secrets = value }

-- with other bytes of CPUID
abbrev pub with_cpuid : List ℕ → HostValues → HostValues
with_cpuid value host = record host { cpuid = value }

-- each parameter has a value, and all are within their limits
pub record AreWithin (host : HostValues) : Type 0 where
  pub count : length host.values ≡ 10
  pub values : (kind : ParamKind) → length (value_of host kind) ≤ 1048576
  pub secrets : length host.secrets ≤ 4096
  pub cpuid : length host.cpuid ≤ 4096
