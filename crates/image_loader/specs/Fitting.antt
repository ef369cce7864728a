-- What the machine and the areas need of a header, as far as both have come.
use Rattle.std.specs.Prelude.{ℕ, ◌≡◌, ◌+◌, ◌*◌, ◌%◌, ◌^◌, ◌<◌, ◌≤◌, ◌==◌, List, [], ◌∷◌, ◌++◌, length, true, false, None, IsSome}
use Rattle.std.specs.List.{list_any, flat_map}
use Rattle.igvm_headers.specs.HeaderFacts.{gpa_of, data_pages, data_offset}
use Rattle.igvm_headers.specs.Numbers.{slice}
use Rattle.igvm_headers.specs.declared.header.Header.{Header}
use Rattle.igvm_headers.specs.declared.header.Header.TheVariants.{Area, Page, Insert, Param, Context}
use Rattle.directive_rules.specs.DirectiveFacts.{is_context_of}
use Rattle.directive_rules.specs.FirstMisfit.{headers_in, headers_for, misfit_after, setting_of}
use Rattle.directive_rules.specs.MisfitRows.{has_contexts}
use Rattle.directive_rules.specs.PageAddresses.{addresses}
use Rattle.directive_rules.specs.Tags.{tag_of}
use Rattle.host_set.specs.Hosts.{HostValues, value_of}
use Rattle.igvm_image.specs.Areas.{placed_pages}
use Rattle.igvm_image.specs.Data.{Data}
use Rattle.igvm_image.specs.Headers.{PlacedHeader, IsAccepted, placed_headers}
use Rattle.igvm_headers.specs.SpellingConditions.{NumbersFit}
use Rattle.host_set.specs.declared.range.PlanRange.{PlanRange}
use Rattle.platform_masks.specs.Masks.{applies}
use Rattle.launch_platform.specs.Machine as machine
use Rattle.param_areas.specs.AreaBytes.{Space, IsNew, IsOpen, bytes_of, size_of_all, with_area, with_change, with_value, with_taken}
use Rattle.param_areas.specs.AreaHistory.{Shows, content_bytes}
use Rattle.param_areas.specs.Calls.{AreInOrder, told_by}
use Rattle.image_loader.specs.FilledAreas.{calls_of}
use Rattle.image_loader.specs.Loads.{Load, areas_in}
use Rattle.image_loader.specs.PlacedPages.{PlacedPage, entry_of, header_pages}

-- ---- the areas as they stand

-- page k of an area as it stands
abbrev pub page_in : Space → ℕ → ℕ → List ℕ
page_in space area k = slice (bytes_of space.areas area) (4096 * k) 4096

-- the areas after a header that counts, with its data
abbrev pub space_by : HostValues → Header → Data → Space → Space
space_by host (Area bytes area offset) content space = with_area space area (content_bytes content)
space_by host (Param kind area byte_offset) content space =
    with_change (with_value byte_offset (value_of host kind)) area space
space_by host (Insert gpa mask area) content space = with_change with_taken area space
space_by host _ content space = space

-- the areas after a placed header that counts
unfoldable pub space_after : HostValues → PlacedHeader → Space → Space
space_after host p space = space_by host p.header p.content space

-- ---- what a header keeps

-- no page of these has the address of an entry or of a page before it
abbrev pub AreFresh : List machine.Entry → List PlacedPage → Type 0
AreFresh entries [] = Unit {0}
AreFresh entries (q ∷ qs) = (machine.is_placed q.gpa entries ≡ false) × AreFresh (entries ++ entry_of q ∷ []) qs

-- its pages have a tag and an aligned address, and end within the address space
pub record PagesAre (load : Load) (header : Header) : Type 0 where
  pub tagged : IsSome (tag_of header load.platform.kind load.options)
  pub aligned : gpa_of header % 4096 ≡ 0
  pub within : gpa_of header + 4096 * placed_pages (areas_in load) header ≤ 2 ^ 64

-- the area that it puts into the guest is open, and has as many bytes as its pages
pub record InsertFits (load : Load) (space : Space) (header : Header) (area : ℕ) : Type 0 where
  pub opened : IsOpen space.areas area
  pub size : length (bytes_of space.areas area) ≡ 4096 * placed_pages (areas_in load) header

-- its value ends within its area, which is open
pub record ParamFits (space : Space) (area end : ℕ) : Type 0 where
  pub opened : IsOpen space.areas area
  pub within : end ≤ length (bytes_of space.areas area)

-- the area that it declares is new, of whole pages, and there is room for it
pub record AreaFits (space : Space) (area bytes : ℕ) (content : Data) : Type 0 where
  pub new : IsNew space.areas area
  pub few : length space.areas < 256
  pub size : bytes ≡ 4096 * content.pages
  pub room : size_of_all space.areas + bytes ≤ space.total

-- its context is of a platform that has contexts, and new
pub record ContextFits (load : Load) (contexts : List machine.Context) (vp : ℕ) : Type 0 where
  pub kind : has_contexts load.platform.kind ≡ true
  pub new : machine.has_context vp contexts ≡ false

-- what the machine needs of the pages of a header
abbrev pub PagesEnter : Load → Header → Type 0
PagesEnter load (Page gpa mask offset large unmeasured kind) =
    PagesAre load (Page gpa mask offset large unmeasured kind)
PagesEnter load (Insert gpa mask area) = PagesAre load (Insert gpa mask area)
PagesEnter load _ = Unit {0}

-- what the machine needs of the area that a header puts into the guest
abbrev pub InsertsFit : Load → Space → Header → Type 0
InsertsFit load space (Insert gpa mask area) = InsertFits load space (Insert gpa mask area) area
InsertsFit load space _ = Unit {0}

-- what the machine needs of the context of a header
abbrev pub ContextsFit : Load → List machine.Context → Header → Type 0
ContextsFit load contexts (Context gpa mask offset vp) = ContextFits load contexts vp
ContextsFit load contexts _ = Unit {0}

-- what the areas need of a header
abbrev pub AreasFit : HostValues → Space → Header → Data → Type 0
AreasFit host space (Area bytes area offset) content = AreaFits space area bytes content
AreasFit host space (Param kind area byte_offset) content =
    ParamFits space area (byte_offset + length (value_of host kind))
AreasFit host space (Insert gpa mask area) content = IsOpen space.areas area
AreasFit host space _ content = Unit {0}

-- its data are those of its record
pub record HasOwnData (p : PlacedHeader) : Type 0 where
  pub pages : p.content.pages ≡ data_pages p.header
  pub offset : p.content.offset ≡ data_offset p.header

-- A header fits: all that is needed of it, and that its pages are new.
pub record Fits (load : Load) (space : Space) (entries : List machine.Entry) (contexts : List machine.Context)
    (p : PlacedHeader) : Type 0 where
  pub own : HasOwnData p
  pub fresh : AreFresh entries (header_pages load (page_in space) p)
  pub pages : PagesEnter load p.header
  pub inserted : InsertsFit load space p.header
  pub context : ContextsFit load contexts p.header
  pub areas : AreasFit load.host space p.header p.content

-- ---- a page of a header

-- so many pages are there: in the file, or in an area that is open
abbrev pub HasPages : Space → Header → Data → ℕ → Type 0
HasPages space (Page gpa mask offset large unmeasured kind) content count = count ≤ content.pages
HasPages space (Insert gpa mask area) content count =
    IsOpen space.areas area × (4096 * count ≤ length (bytes_of space.areas area))
HasPages space _ content count = ⊥

-- ---- behind some headers

-- the areas are as these headers leave them, which count: they were told what these tell, in an order that may be
pub record AreasAreBehind (load : Load) (before : List PlacedHeader) (space : Space) : Type 0 where
  pub told : Shows space (told_by (calls_of load.host before))
  pub order : AreInOrder [] (calls_of load.host before)

-- A machine is as these headers leave it, which count: the addresses that have a page, and the processors that have a
-- context.
pub record MachineIsBehind (load : Load) (before : List PlacedHeader) (s : machine.State) : Type 0 where
  pub placed : (gpa : ℕ) → machine.is_placed gpa s.entries
      ≡ list_any (λ x. x == gpa) (flat_map (addresses (areas_in load)) (headers_in before))
  pub contexts : (vp : ℕ) → machine.has_context vp s.contexts ≡ list_any (is_context_of vp) (headers_in before)

-- A header of an accepted file, behind those that were gone through: it counts for the platform, and it and those that
-- are left have no misfit.
pub record IsNext (load : Load) (plan : List PlanRange) (done : List PlacedHeader) (p : PlacedHeader)
    (left : List PlacedHeader) : Type 0 where
  pub whole : done ++ p ∷ left ≡ placed_headers load.file
  pub accepted : IsAccepted load.file
  pub counts : applies p.header load.platform.mask ≡ true
  pub fits : misfit_after (setting_of load.file load.platform plan load.host)
      (headers_for load.platform.mask done) (headers_for load.platform.mask (p ∷ left)) ≡ None
  pub numbers : NumbersFit p.header
