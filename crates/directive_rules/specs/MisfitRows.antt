-- Why a header doesn't fit a host, after the headers before it: a table with a row for each cause.
use Rattle.std.specs.Prelude.{ℕ, ◌+◌, ◌*◌, nat_lt, not, List, length, sum_by, unwrap_or, Bool, true, false, Option, None}
use Rattle.std.specs.Bool.{then_some}
use Rattle.std.specs.List.{list_any}
use Rattle.std.specs.Option.{option_or}
use Rattle.igvm_headers.specs.declared.header.Header.{Header}
use Rattle.igvm_headers.specs.declared.header.Header.TheVariants.{Policy, Area, Page, Insert, Param, Context, Required, ErrorRange, IdBlock}
use Rattle.igvm_headers.specs.declared.page_kind.PageKind.{PageKind}
use Rattle.igvm_headers.specs.declared.page_kind.PageKind.TheVariants.{Normal}
use Rattle.igvm_headers.specs.declared.platform_kind.PlatformKind.{PlatformKind}
use Rattle.igvm_headers.specs.declared.platform_kind.PlatformKind.TheVariants.{SevSnp, SevEs}
use Rattle.host_set.specs.declared.range.PlanRange.{PlanRange}
use Rattle.host_set.specs.Hosts.{HostValues, value_of}
use Rattle.host_set.specs.Plans.{is_covered}
use Rattle.igvm_image.specs.Areas.{area_size, placed_pages}
use Rattle.igvm_image.specs.RulesInWords.{declared_bytes}
use Rattle.igvm_image.specs.declared.area_table.AreaEntry.{AreaEntry}
use Rattle.directive_rules.specs.DirectiveFacts.{is_policy, is_context_of, is_id_block, inserts}
use Rattle.directive_rules.specs.Limits.{area_bytes_limit, placed_limit}
use Rattle.directive_rules.specs.PageAddresses.{share_page}
use Rattle.directive_rules.specs.declared.misfit.Why.{Why}
use Rattle.directive_rules.specs.declared.misfit.Why.TheVariants.{Outside, Repeated, TypeNotHere, ContextNotHere, ContextRepeated, PolicyRepeated, IdBlockNotHere, IdBlockRepeated, AreaGone, ValueTooLong, AreasTooLarge, TooManyPages}

-- what an image is judged by: the platform's kind, the host's memory and values, and the image's areas
pub record Setting : Type 0 where
  pub kind : PlatformKind
  pub plan : List PlanRange
  pub host : HostValues
  pub areas : List AreaEntry

-- the setting of these four
abbrev pub setting : PlatformKind → List PlanRange → HostValues → List AreaEntry → Setting
setting kind plan host areas = record { kind = kind; plan = plan; host = host; areas = areas }

-- ---- what the rows ask of the headers before one

-- one of them inserts the area that this header inserts or fills
abbrev pub gone_before : List Header → Header → Bool
gone_before before (Insert gpa mask area) = list_any (inserts area) before
gone_before before (Param kind area byte_offset) = list_any (inserts area) before
gone_before before _ = false

-- one of them is the context of the same virtual processor
abbrev pub context_before : List Header → Header → Bool
context_before before (Context gpa mask offset vp) = list_any (is_context_of vp) before
context_before before _ = false

-- A policy and an ID block among them, the bytes of the areas that they declare and the pages that they
-- place, and whether this header's area is gone, its pages are shared and its context is there.
pub record Before : Type 0 where
  pub policy : Bool
  pub area_bytes : ℕ
  pub gone : Bool
  pub shares : Bool
  pub pages : ℕ
  pub context : Bool
  pub id_block : Bool

-- the answers of a list of headers for the one after them
abbrev pub before_of : List AreaEntry → List Header → Header → Before
before_of areas before header = record {
  policy = list_any is_policy before;
  area_bytes = sum_by declared_bytes before;
  gone = gone_before before header;
  shares = list_any (share_page areas header) before;
  pages = sum_by (placed_pages areas) before;
  context = context_before before header;
  id_block = list_any is_id_block before;
}

-- ---- the rows

-- SEV-SNP alone has pages that the host fills; all other kinds have normal pages alone
abbrev pub type_not_here : PlatformKind → PageKind → Bool
type_not_here SevSnp kind = false
type_not_here _ Normal = false
type_not_here _ kind = true

-- the state of a virtual processor is part of the launch on SEV-SNP and SEV-ES
abbrev pub has_contexts : PlatformKind → Bool
has_contexts SevSnp = true
has_contexts SevEs = true
has_contexts _ = false

-- the platform is SEV-SNP, which alone has ID blocks
abbrev pub is_snp : PlatformKind → Bool
is_snp SevSnp = true
is_snp _ = false

-- some byte from `gpa` on, of so many, lies in no range of the plan
abbrev pub is_outside : List PlanRange → ℕ → ℕ → Bool
is_outside plan gpa bytes = not (is_covered plan gpa bytes)

-- why `count` pages from `gpa` on don't fit, by whether they share one and how many there are already
abbrev pub pages_why : List PlanRange → Bool → ℕ → ℕ → ℕ → Option Why
pages_why plan shares pages gpa count =
    option_or (then_some (is_outside plan gpa (4096 * count)) Outside)
    (option_or (then_some shares Repeated)
    (then_some (nat_lt placed_limit (pages + count)) TooManyPages))

-- why a header doesn't fit, by the answers of the headers before it: a line a type, its rows in order
unfoldable pub why_of : Setting → Before → Header → Option Why
why_of s before (Policy policy mask) = then_some before.policy PolicyRepeated
why_of s before (Area bytes area offset) =
    then_some (nat_lt area_bytes_limit (before.area_bytes + bytes)) AreasTooLarge
why_of s before (Param kind area byte_offset) =
    option_or (then_some before.gone AreaGone)
    (then_some (nat_lt (unwrap_or (area_size s.areas area) 0) (byte_offset + length (value_of s.host kind))) ValueTooLong)
why_of s before (Page gpa mask offset large unmeasured kind) =
    option_or (then_some (type_not_here s.kind kind) TypeNotHere)
    (pages_why s.plan before.shares before.pages gpa (placed_pages s.areas (Page gpa mask offset large unmeasured kind)))
why_of s before (Insert gpa mask area) =
    option_or (then_some before.gone AreaGone)
    (pages_why s.plan before.shares before.pages gpa (placed_pages s.areas (Insert gpa mask area)))
why_of s before (Context gpa mask offset vp) =
    option_or (then_some (not (has_contexts s.kind)) ContextNotHere)
    (then_some before.context ContextRepeated)
why_of s before (Required gpa mask bytes flags) = then_some (is_outside s.plan gpa bytes) Outside
why_of s before (ErrorRange gpa mask bytes) = then_some (is_outside s.plan gpa bytes) Outside
why_of s before (IdBlock mask author_enabled ld family_id image_id version guest_svn id_algorithm author_algorithm) =
    option_or (then_some (not (is_snp s.kind)) IdBlockNotHere)
    (then_some before.id_block IdBlockRepeated)
why_of s before _ = None

-- why a header doesn't fit after these headers, all of which count for the platform, as it does
abbrev pub row : Setting → List Header → Header → Option Why
row s before header = why_of s (before_of s.areas before header) header
