-- What is kept of the headers before one, and which lists of headers it summarizes.
use Rattle.std.specs.Prelude.{◌≡◌, ℕ, ◌+◌, ◌<◌, ◌≤◌, ◌&&◌, ◌||◌, ◌++◌, nat_lt, List, sum_by, count_by, Bool, true, false, if◌then◌else◌, is_some}
use Rattle.std.specs.BTreeSet.{BTreeSet, contains, btree_set_len}
use Rattle.std.specs.List.{list_any, filter_map, AllByRecursion}
use Rattle.std.specs.Option.{option_to_list}
use Rattle.std.specs.Ordering.{nat_cmp}
use Rattle.igvm_headers.specs.declared.header.Header.{Header}
use Rattle.igvm_headers.specs.declared.header.Header.TheVariants.{Insert, Param, Context}
use Rattle.igvm_image.specs.Areas.{placed_pages}
use Rattle.igvm_image.specs.Headers.{PlacedHeader}
use Rattle.igvm_image.specs.PagesFit.{PagesFit}
use Rattle.igvm_image.specs.RulesInWords.{declared_bytes}
use Rattle.igvm_image.specs.declared.area_table.AreaEntry.{AreaEntry}
use Rattle.directive_rules.specs.DirectiveFacts.{is_policy, is_context, is_context_of, is_id_block, inserts}
use Rattle.directive_rules.specs.FirstMisfit.{headers_in}
use Rattle.directive_rules.specs.Limits.{area_bytes_limit, placed_limit}
use Rattle.directive_rules.specs.LoadCounts.{wanted_of}
use Rattle.directive_rules.specs.MisfitRows.{Before}
use Rattle.directive_rules.specs.PageRanges.{meets, pages_range, range_passes}
use Rattle.directive_rules.specs.declared.earlier_headers.EarlierHeaders.{EarlierHeaders}

-- ---- its answers for a header

-- the area that it inserts or fills is among those that are gone
abbrev pub gone_in : BTreeSet ℕ → Header → Bool
gone_in gone (Insert gpa mask area) = contains nat_cmp gone area
gone_in gone (Param kind area byte_offset) = contains nat_cmp gone area
gone_in gone _ = false

-- its virtual processor is among those that have a context
abbrev pub context_in : BTreeSet ℕ → Header → Bool
context_in vps (Context gpa mask offset vp) = contains nat_cmp vps vp
context_in vps _ = false

-- one of `count` pages from the number `first` on is taken
abbrev pub shares_in : List (ℕ × ℕ) → ℕ → ℕ → Bool
shares_in ranges first count = nat_lt 0 count && list_any (meets first (first + count)) ranges

-- all answers
abbrev pub before_in : List AreaEntry → EarlierHeaders → Header → Before
before_in areas s header = record {
  policy = s.policy;
  area_bytes = s.area_bytes;
  gone = gone_in s.gone header;
  shares = shares_in s.ranges (pages_range areas header).0 (placed_pages areas header);
  pages = s.pages;
  context = context_in s.vps header;
  id_block = is_some s.id;
}

-- ---- what it stands for

-- it summarizes these headers, which fit: each of its answers is theirs
pub record Summarizes (s : EarlierHeaders) (areas : List AreaEntry) (placed : List PlacedHeader) : Type 0 where
  pub policy : s.policy ≡ list_any is_policy (headers_in placed)
  pub area_bytes : s.area_bytes ≡ sum_by declared_bytes (headers_in placed)
  pub gone : (area : ℕ) → contains nat_cmp s.gone area ≡ list_any (inserts area) (headers_in placed)
  pub ranges : (test : ℕ × ℕ → Bool) → list_any test s.ranges ≡ list_any (range_passes areas test) (headers_in placed)
  pub pages : s.pages ≡ sum_by (placed_pages areas) (headers_in placed)
  pub vps : (vp : ℕ) → contains nat_cmp s.vps vp ≡ list_any (is_context_of vp) (headers_in placed)
  pub small : (vp : ℕ) → contains nat_cmp s.vps vp ≡ true → vp < 65536
  pub contexts : btree_set_len s.vps ≡ count_by is_context (headers_in placed)
  pub id_block : is_some s.id ≡ list_any is_id_block (headers_in placed)
  pub ids : option_to_list s.id ≡ filter_map wanted_of placed
  pub fit : AllByRecursion (PagesFit areas) (headers_in placed)

-- ---- one header more

-- There is room for a header: its area's bytes and its pages are within the limits, and its pages, its
-- processor and an ID block are not there yet.
pub record HasRoom (s : EarlierHeaders) (areas : List AreaEntry) (header : Header) : Type 0 where
  pub area_bytes : s.area_bytes + declared_bytes header ≤ area_bytes_limit
  pub pages : s.pages + placed_pages areas header ≤ placed_limit
  pub apart : shares_in s.ranges (pages_range areas header).0 (placed_pages areas header) ≡ false
  pub context : context_in s.vps header ≡ false
  pub id_block : is_id_block header && is_some s.id ≡ false

-- what one header more adds to it
pub record TakesIn (old new : EarlierHeaders) (areas : List AreaEntry) (p : PlacedHeader) : Type 0 where
  pub policy : new.policy ≡ (old.policy || is_policy p.header)
  pub area_bytes : new.area_bytes ≡ old.area_bytes + declared_bytes p.header
  pub gone : (area : ℕ) → contains nat_cmp new.gone area ≡ (contains nat_cmp old.gone area || inserts area p.header)
  pub ranges : (test : ℕ × ℕ → Bool) → list_any test new.ranges ≡ (list_any test old.ranges || range_passes areas test p.header)
  pub pages : new.pages ≡ old.pages + placed_pages areas p.header
  pub vps : (vp : ℕ) → contains nat_cmp new.vps vp ≡ (contains nat_cmp old.vps vp || is_context_of vp p.header)
  pub small : (vp : ℕ) → is_context_of vp p.header ≡ true → vp < 65536
  pub contexts : btree_set_len new.vps ≡ btree_set_len old.vps + (if is_context p.header then 1 else 0)
  pub id_block : is_some new.id ≡ (is_some old.id || is_id_block p.header)
  pub ids : option_to_list new.id ≡ option_to_list old.id ++ option_to_list (wanted_of p)
