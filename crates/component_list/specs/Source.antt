-- A component list's JSON as its version and its three lists of entries. An entry that is one header without data is that header.
use Rattle.std.specs.Prelude.{ℕ, List, ◌≡◌, ◌≤◌, length, true}
use Rattle.igvm_headers.specs.Fixed.{is_version}
use Rattle.igvm_headers.specs.declared.header.Header.{Header}
use Rattle.component_list.specs.declared.source.Directive.{Directive}
use Rattle.component_list.specs.declared.source.ListSource.TheInside.{Inside}

-- the version, the platforms and the policies as their headers, and the directives
pub record Source : Type 0 where
  pub version : ℕ
  pub platforms : List Header
  pub policies : List Header
  pub directives : List Directive

-- what a list's JSON says
abbrev pub source_view : Inside → Source
source_view s = record {
  version = s.version;
  platforms = s.platforms.items;
  policies = s.policies.items;
  directives = s.directives.items;
}

-- Each list has no more entries than a text of at most 16,777,216 bytes can hold.
pub record HasFew (platforms policies : List Header) (directives : List Directive) : Type 0 where
  pub platforms_few : length platforms ≤ 16777216
  pub policies_few : length policies ≤ 16777216
  pub directives_few : length directives ≤ 16777216

-- the version is 1 or 2, and the lists are short
pub record IsSource (s : Inside) : Type 0 where
  pub known : is_version s.version ≡ true
  pub few : HasFew s.platforms.items s.policies.items s.directives.items
