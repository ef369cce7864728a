-- The list of n pages that is made for trials: docs/FORMAT.md has the headers' fields.
use Rattle.std.specs.Prelude.{ℕ, ◌+◌, ◌*◌, ◌%◌, ◌==◌, List, [], ◌∷◌, ◌++◌, map, false}
use Rattle.std.specs.List.{range_with_len}
use Rattle.byteorder.specs.Endian.{little_bytes}
use Rattle.igvm_headers.specs.declared.header.Header.{Header}
use Rattle.igvm_headers.specs.declared.header.Header.TheVariants.{Platform, Policy, Area, Page, Insert, Param, Context, Required}
use Rattle.igvm_headers.specs.declared.page_kind.PageKind.TheVariants.{Normal, Secrets, Cpuid}
use Rattle.igvm_headers.specs.declared.param_kind.ParamKind.TheVariants.{CommandLine}
use Rattle.igvm_headers.specs.declared.platform_kind.PlatformKind.{PlatformKind}
use Rattle.igvm_headers.specs.declared.platform_kind.PlatformKind.TheVariants.{SevSnp, Tdx, Native}
use Rattle.component_list.specs.declared.component.Component.{Component}
use Rattle.component_list.specs.declared.component.Content.{Content}
use Rattle.component_list.specs.declared.component.Content.TheVariants.{Nothing, Zero, Bytes}
use Rattle.component_list.specs.Lists.{ImageParts}

-- a header with its data, of which nothing is carried unread
abbrev pub part : Header → Content → Component
part header content = record { header = header; tail = []; content = content }

-- ---- what stands before the pages

-- a platform of a mask: of version 1, its highest VTL and its shared address 0
abbrev pub made_platform : ℕ → PlatformKind → Component
made_platform mask kind = part (Platform mask 0 kind 1 0) Nothing

-- the platforms, the policy, an area of one page of zeros with the command line at its begin, and the memory of n pages
unfoldable pub made_head : ℕ → List Component
made_head n =
    made_platform 1 SevSnp ∷ made_platform 2 Tdx ∷ made_platform 4 Native
    ∷ part (Policy 0x30000 1) Nothing
    ∷ part (Area 4096 0 0) Zero
    ∷ part (Param CommandLine 0 0) Nothing
    ∷ part (Required 0x100000 7 (4096 * n) 0) Nothing
    ∷ []

-- ---- the pages

-- byte j of page k, behind its number
abbrev pub page_byte : ℕ → ℕ → ℕ
page_byte k j = (k + j) % 251

-- the bytes of page k: its number in four bytes, and then bytes 4 to 4,095
unfoldable pub page_bytes : ℕ → List ℕ
page_bytes k = little_bytes 4 k ++ map (page_byte k) (range_with_len 4 4092)

-- the header of page k: each fifth page is not measured
abbrev pub page_header : ℕ → Header
page_header k = Page (0x100000 + 4096 * k) 7 0 false (k % 5 == 4) Normal

-- page k
unfoldable pub made_page : ℕ → Component
made_page k = part (page_header k) (Bytes (page_bytes k))

-- pages 0 to n - 1
abbrev pub made_pages : ℕ → List Component
made_pages n = map made_page (range_with_len 0 n)

-- ---- what stands behind them

-- the bytes of the context: byte j is the lowest byte of j
unfoldable pub context_bytes : List ℕ
context_bytes = map (λ j. j % 256) (range_with_len 0 4096)

-- the pages of secrets and of CPUID, the area, and the context of processor 0
unfoldable pub made_tail : List Component
made_tail =
    part (Page 0xF1000 1 0 false false Secrets) Zero
    ∷ part (Page 0xF2000 1 0 false false Cpuid) Zero
    ∷ part (Insert 0xF0000 3 0) Nothing
    ∷ part (Context 0xFFFFFFFFF000 1 0 0) (Bytes context_bytes)
    ∷ []

-- ---- all

-- the components of the list of n pages, in order
unfoldable pub made_parts : ℕ → List Component
made_parts n = made_head n ++ made_pages n ++ made_tail

-- the list of n pages, in version 1 of the format
abbrev pub made_list : ℕ → ImageParts
made_list n = record { version = 1; parts = made_parts n }
