-- The pages of a file keep the rules of a list behind others that do.
use Rattle.std.proofs.Common.{◌≡◌, ℕ, zero, suc, ◌+◌, ◌%◌, ◌<◌, ◌≤◌, List, [], ◌∷◌, ◌++◌, length, map, fold, max, refl, sym, ◌∙◌, ap, subst, arith, Bool, true, false, Option, Some, None, append_assoc, append-nil, add_assoc}
use Rattle.std.specs.Prelude.{if◌then◌else◌, ◌==◌, not}
use Rattle.std.specs.List.{range_with_len}
use Rattle.std.specs.Option.{option_to_list}
use Rattle.std.proofs.Math.Dec.{eqb-suc-zero}
use Rattle.std.proofs.lemmas.Bool.{le-ltb, eq-eqb}
use Rattle.igvm_headers.specs.HeaderFacts.{class_of}
use Rattle.igvm_headers.specs.Records.Fields.{is_set}
use Rattle.igvm_headers.specs.declared.header.Header.{Header}
use Rattle.igvm_headers.specs.declared.header.Header.TheVariants.{Platform, Policy, Page, Carried}
use Rattle.igvm_headers.specs.declared.fault.ReadWhat.{ReadWhat}
use Rattle.igvm_headers.specs.declared.fault.ReadWhat.TheVariants.{NoPlatform}
use Rattle.igvm_headers.specs.declared.page_kind.PageKind.TheVariants.{Normal}
use Rattle.platform_masks.specs.Platforms.{platforms_of}
use Rattle.platform_masks.specs.PlatformsLaws.{platforms_of-push}
use Rattle.platform_masks.specs.declared.platform.Platform as platform
use Rattle.igvm_image.specs.Areas.{area_entry, placed_pages}
use Rattle.igvm_image.specs.declared.area_table.AreaEntry.{AreaEntry}
use Rattle.igvm_image.specs.HeaderRules.{latest_class, named_from, named_pages, seen_of}
use Rattle.igvm_image.specs.RulesLaws.{rule_fault-none}
use Rattle.elf_pages.specs.Pages.{page_address}
use Rattle.component_list.specs.declared.component.Component.{Component}
use Rattle.component_list.specs.declared.list_fault.ListFault.{ListFault}
use Rattle.component_list.specs.FirstFault.{headers_in}
use Rattle.component_list.specs.Lists.{component_fault, fault_behind, fault_in, list_fault, unless_broken}
use Rattle.elf_list.specs.ElfParts.{elf_page, pages_named}
use Rattle.elf_list.proofs.PageBytes.{page_is_full}
use Rattle.elf_list.proofs.RuleParts.{kept_by_parts}

-- the header of a page
abbrev pub page_header : List ℕ → ℕ → ℕ → Header
page_header file mask k = Page (page_address file k) mask 0 false false Normal

-- ---- the headers before a page

carried_low : (a b : Bool) → (if a then 0 else if b then 3 else 2) ≤ 3
carried_low true b = omega arith
carried_low false true = omega arith
carried_low false false = omega arith

class_low : (h : Header) → class_of h ≤ 3
class_low (Carried kind size) = carried_low (is_set 31 kind) (kind == 0x311)
class_low (Platform mask highest_vtl kind version shared_gpa) = omega arith
class_low (Policy policy mask) = omega arith
class_low h = omega arith

latest_low : (n : ℕ) (hs : List Header) → n ≤ 3 → fold (λ latest header. max latest (class_of header)) n hs ≤ 3
latest_low n [] low = low
latest_low n (h ∷ hs) low = latest_low (max n (class_of h)) hs (omega (arith, class_low h))

-- a page names one page more
named_more : (areas : List AreaEntry) (before : List Header) (file : List ℕ) (mask k : ℕ)
    → named_from areas (before ++ page_header file mask k ∷ []) ≡ named_from areas before + 1
named_more areas [] file mask k = omega arith
named_more areas (h ∷ hs) file mask k =
    let later = named_more (areas ++ option_to_list (area_entry h)) hs file mask k in
    ap (λ n. placed_pages areas h + n) later ∙ sym (add_assoc (placed_pages areas h) (named_from (areas ++ option_to_list (area_entry h)) hs) 1)

-- and declares no platform
platforms_same : (before : List Header) (file : List ℕ) (mask k : ℕ) → platforms_of (before ++ page_header file mask k ∷ []) ≡ platforms_of before
platforms_same before file mask k = platforms_of-push before (page_header file mask k) ∙ append-nil (platforms_of before)

-- ---- a page behind them

page_kept : (file : List ℕ) (mask k : ℕ) (before : List Header) → named_pages before < 4194304 → page_address file k % 4096 ≡ 0
    → component_fault (seen_of before) (elf_page file mask k) ≡ None
unfolding elf_page
page_kept file mask k before few aligned =
    kept_by_parts (seen_of before) (elf_page file mask k) refl (ap not (page_is_full file k)) refl
    (rule_fault-none 0 (seen_of before) (page_header file mask k) (record {
      order = le-ltb 3 (latest_class before) (latest_low 0 before (omega arith));
      mask = refl;
      align = ap not (eq-eqb (page_address file k % 4096) 0 aligned);
      limit = refl;
      repeated = refl;
      unknown = refl;
      size = refl;
      wrap = refl;
      outside = refl;
      pages = le-ltb 4194304 (named_pages before + 1) (omega arith);
    }))

-- behind components among which there is a platform, nothing is wrong
at_end : (n : ℕ) (ps : List platform.Platform) → 0 < length ps → (if length ps == 0 then Some (fault_in n NoPlatform) else None) ≡ None
at_end n [] some = absurd (omega arith)
at_end n (p ∷ ps) some = ap (λ b. if b then Some (fault_in n NoPlatform) else None) (eqb-suc-zero (length ps))

pages_kept : (file : List ℕ) (mask n first : ℕ) (before : List Header) → 0 < length (platforms_of before) → named_pages before + n ≤ 4194304
    → ((k : ℕ) → k < first + n → page_address file k % 4096 ≡ 0) → fault_behind before (map (elf_page file mask) (range_with_len first n)) ≡ None
unfolding fault_behind elf_page
pages_kept file mask zero first before platform few aligned = at_end (length before) (platforms_of before) platform
pages_kept file mask (suc n) first before platform few aligned =
    let h = page_header file mask first in
    ap (λ f. unless_broken (length before) f (fault_behind (before ++ h ∷ []) (map (elf_page file mask) (range_with_len (first + 1) n))))
    (page_kept file mask first before (omega arith) (aligned first (omega arith)))
    ∙ pages_kept file mask n (first + 1) (before ++ h ∷ []) (omega (arith, ap length (platforms_same before file mask first)))
    (omega (arith, named_more [] before file mask first)) (λ k less. aligned k (omega arith))

-- ---- all

-- a rule that the first of these components breaks
first_kept : (place : ℕ) (what : Option ReadWhat) (others : Option ListFault) → unless_broken place what others ≡ None → (what ≡ None) × (others ≡ None)
first_kept place None others none = (refl, none)
first_kept place (Some what) others none = cc

-- components that break none, and others that break none behind them
kept_joined : (before : List Header) (xs ys : List Component) → fault_behind before xs ≡ None → fault_behind (before ++ headers_in xs) ys ≡ None
    → fault_behind before (xs ++ ys) ≡ None
unfolding fault_behind
kept_joined before [] ys first second = subst (λ hs. fault_behind hs ys ≡ None) (append-nil before) second
kept_joined before (x ∷ xs) ys first second =
    let here = first_kept (length before) (component_fault (seen_of before) x) (fault_behind (before ++ x.header ∷ []) xs) first in
    ap (λ f. unless_broken (length before) f (fault_behind (before ++ x.header ∷ []) (xs ++ ys))) here.0
    ∙ kept_joined (before ++ x.header ∷ []) xs ys here.1
    (subst (λ hs. fault_behind hs ys ≡ None) (sym (append_assoc before (x.header ∷ []) (headers_in xs))) second)

-- the pages of a file behind a list
pub list_kept : (file : List ℕ) (mask n : ℕ) (parts : List Component) → list_fault parts ≡ None → 0 < length (platforms_of (headers_in parts))
    → pages_named parts + n ≤ 4194304 → ((k : ℕ) → k < n → page_address file k % 4096 ≡ 0)
    → list_fault (parts ++ map (elf_page file mask) (range_with_len 0 n)) ≡ None
list_kept file mask n parts kept platform few aligned =
    kept_joined [] parts (map (elf_page file mask) (range_with_len 0 n)) kept
    (pages_kept file mask n 0 (headers_in parts) platform few (λ k less. aligned k (omega arith)))
