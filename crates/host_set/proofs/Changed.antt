-- What is left after a value of a host is changed.
use Rattle.std.proofs.Common.{◌≡◌, ◌≢◌, ℕ, ◌<◌, ◌≤◌, List, [], length, get_or, set, refl, sym, ap, ◌∙◌, subst, arith, inl, inr}
use Rattle.std.proofs.lemmas.Bool.{cases_eq}
use Rattle.std.proofs.lemmas.List.{length-set, get_or-set_same, get_or-set_other}
use Rattle.igvm_headers.specs.declared.param_kind.ParamKind.{ParamKind}
use Rattle.igvm_headers.specs.declared.param_kind.ParamKind.TheVariants.{VpCount, Srat, Madt, MmioRanges, MemoryMap, CommandLine, Slit, Pptt, DeviceTree, EnvironmentInfo}
use Rattle.host_set.specs.Hosts.{HostValues, value_of, with_value, AreWithin}
use Rattle.igvm_headers.specs.ParamKinds.{param_kinds, param_number}

-- the kind of a number
numbered : (kind : ParamKind) → get_or param_kinds (param_number kind) VpCount ≡ kind
numbered VpCount = refl
numbered Srat = refl
numbered Madt = refl
numbered MmioRanges = refl
numbered MemoryMap = refl
numbered CommandLine = refl
numbered Slit = refl
numbered Pptt = refl
numbered DeviceTree = refl
numbered EnvironmentInfo = refl

-- kinds differ in their numbers
pub apart : (one other : ParamKind) → other ≢ one → param_number other ≢ param_number one
apart one other differ same = differ (sym (numbered other) ∙ ap (λ n. get_or param_kinds n VpCount) same ∙ numbered one)

pub value_put : (host : HostValues) (kind : ParamKind) (value : List ℕ) → param_number kind < length host.values → value_of (with_value kind value host) kind ≡ value
value_put host kind value within = get_or-set_same host.values (param_number kind) value [] within

pub others_stay : (host : HostValues) (kind other : ParamKind) (value : List ℕ) → other ≢ kind → value_of (with_value kind value host) other ≡ value_of host other
others_stay host kind other value differ = get_or-set_other host.values (param_number kind) (param_number other) value [] (apart kind other differ)

small_at : (values : List (List ℕ)) (at place limit : ℕ) (value : List ℕ) → at < length values → length value ≤ limit → length (get_or values place []) ≤ limit → length (get_or (set values at value) place []) ≤ limit
small_at values at place limit value within small old =
    elim (cases_eq place at) [
      | inl same ↦ subst (λ p. length (get_or (set values at value) p []) ≤ limit) (sym same) (subst (λ v. length v ≤ limit) (sym (get_or-set_same values at value [] within)) small)
      | inr differ ↦ subst (λ v. length v ≤ limit) (sym (get_or-set_other values at place value [] differ)) old
    ]

pub stays_within : (host : HostValues) (kind : ParamKind) (value : List ℕ) → param_number kind < 10 → length value ≤ 1048576 → AreWithin host → AreWithin (with_value kind value host)
stays_within host kind value few small within =
    let count : length host.values ≡ 10 = within.count in
    let there : param_number kind < length host.values = omega arith in
    record {
      count = length-set host.values (param_number kind) value ∙ count;
      values = λ other. small_at host.values (param_number kind) (param_number other) 1048576 value there small (within.values other);
      secrets = within.secrets;
      cpuid = within.cpuid;
    }
