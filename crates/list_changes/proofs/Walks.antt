-- A list judged header by header, over what the rules ask of the headers before.
use Rattle.std.proofs.Common.{◌≡◌, ℕ, zero, suc, ◌<◌, List, [], ◌∷◌, ◌++◌, length, refl, sym, ◌∙◌, ap, ap₂, subst, append_assoc, append-nil, arith, Option, Some, None, Bool, true, false}
use Rattle.std.specs.Prelude.{if◌then◌else◌, ◌==◌, ◌&&◌, not}
use Rattle.igvm_headers.specs.declared.header.Header.{Header}
use Rattle.igvm_headers.specs.declared.header.Header.TheVariants.{Platform, Policy, Area, Page, Context}
use Rattle.igvm_headers.specs.HeaderFacts.{class_of, tail_size}
use Rattle.igvm_headers.specs.declared.fault.ReadWhat.{ReadWhat}
use Rattle.igvm_headers.specs.declared.fault.ReadWhat.TheVariants.{UnknownType, Length, DataType, NoPlatform}
use Rattle.platform_masks.specs.Platforms.{platforms_of}
use Rattle.igvm_image.specs.HeaderRules.{Seen, seen_of, seen_after, breaks_order, breaks_mask, breaks_align, breaks_area_limit, breaks_area_repeated, breaks_area_unknown, breaks_area_size, breaks_wrap, breaks_data, breaks_pages}
use Rattle.igvm_image.specs.RulesLaws.{KeepsRules, keeps_rules, rule_fault-none}
use Rattle.igvm_image.proofs.RulesLemmas.{seen_of-push}
use Rattle.component_list.specs.declared.component.Component.{Component}
use Rattle.component_list.specs.Components.{is_unknown, carried_kind, breaks_length, breaks_data_type, fits_content}
use Rattle.component_list.specs.Lists.{component_fault, list_fault, fault_in}
use Rattle.component_list.specs.FirstFault.{headers_in}
use Rattle.list_changes.specs.Changes.{changed, changed_part}
use Rattle.list_changes.proofs.Kept.{Kept, kept_behind, fault_none}

abbrev pub Follows : Seen → List Component → Type 0
Follows seen [] = Unit {0}
Follows seen (c ∷ cs) = (component_fault seen c ≡ None) × Follows (seen_after seen c.header) cs

abbrev pub seen_all : Seen → List Component → Seen
seen_all seen [] = seen
seen_all seen (c ∷ cs) = seen_all (seen_after seen c.header) cs

follows : (before : List Header) (cs : List Component) → Kept before cs → Follows (seen_of before) cs
follows before [] kept = tt
follows before (c ∷ cs) kept =
    (kept.0, subst (λ seen. Follows seen cs) (seen_of-push before c.header) (follows (before ++ c.header ∷ []) cs kept.1))

followed : (before : List Header) (cs : List Component) → Follows (seen_of before) cs → Kept before cs
followed before [] all = tt
followed before (c ∷ cs) all =
    (all.0, followed (before ++ c.header ∷ []) cs (subst (λ seen. Follows seen cs) (sym (seen_of-push before c.header)) all.1))

pub seen_end : (before : List Header) (cs : List Component) → seen_of (before ++ headers_in cs) ≡ seen_all (seen_of before) cs
seen_end before [] = ap seen_of (append-nil before)
seen_end before (c ∷ cs) =
    ap seen_of (sym (append_assoc before (c.header ∷ []) (headers_in cs)))
    ∙ seen_end (before ++ c.header ∷ []) cs
    ∙ ap (λ seen. seen_all seen cs) (seen_of-push before c.header)

-- each header follows those before it, and one is a platform
pub record Walks (parts : List Component) : Type 0 where
  pub each : Follows (seen_of []) parts
  pub some : 0 < length (seen_all (seen_of []) parts).platforms

pub walks : (parts : List Component) → list_fault parts ≡ None → Walks parts
walks parts none =
    let both = kept_behind [] parts none in
    record {
      each = follows [] parts both.0;
      some = subst (λ (seen : Seen). 0 < length seen.platforms) (seen_end [] parts)
          (some (length (platforms_of (headers_in parts))) both.1);
    }
  where
    some : (n : ℕ) → (if n == 0 then Some (fault_in (length (headers_in parts)) NoPlatform) else None) ≡ None → 0 < n
    some zero h = cc
    some (suc n) h = omega arith

pub walked : (parts : List Component) → Walks parts → list_fault parts ≡ None
walked parts w =
    fault_none [] parts (followed [] parts w.each)
    (none (length (platforms_of (headers_in parts))) (subst (λ (seen : Seen). 0 < length seen.platforms) (sym (seen_end [] parts)) w.some))
  where
    none : (n : ℕ) → 0 < n → (if n == 0 then Some (fault_in (length (headers_in parts)) NoPlatform) else None) ≡ None
    none zero h = absurd (omega arith)
    none (suc n) h = grind arith

-- ---- one component

pub record KeepsAll (seen : Seen) (c : Component) : Type 0 where
  pub known : is_unknown c.header ≡ false
  pub sized : breaks_length c ≡ false
  pub normal : breaks_data_type c.header ≡ false
  pub rules : KeepsRules 0 seen c.header

first_kept : (b : Bool) (what : ReadWhat) (others : Option ReadWhat) → (if b then Some what else others) ≡ None → (b ≡ false) × (others ≡ None)
first_kept true what others h = cc
first_kept false what others h = (refl, h)

passed : (b : Bool) (what : ReadWhat) (others : Option ReadWhat) → b ≡ false → others ≡ None → (if b then Some what else others) ≡ None
passed true what others kept none = cc
passed false what others kept none = none

pub keeps_all : (seen : Seen) (c : Component) → component_fault seen c ≡ None → KeepsAll seen c
unfolding component_fault
keeps_all seen c none =
    let known = first_kept (is_unknown c.header) (UnknownType (carried_kind c.header)) _ none in
    let sized = first_kept (breaks_length c) Length _ known.1 in
    let normal = first_kept (breaks_data_type c.header) DataType _ sized.1 in
    record { known = known.0; sized = sized.0; normal = normal.0; rules = keeps_rules 0 seen c.header normal.1 }

pub all_kept : (seen : Seen) (c : Component) → KeepsAll seen c → component_fault seen c ≡ None
unfolding component_fault
all_kept seen c k =
    passed _ _ _ k.known (passed _ _ _ k.sized (passed _ _ _ k.normal (rule_fault-none 0 seen c.header k.rules)))

-- ---- a changed component

-- what a change of masks and indices leaves
pub record SameHeader (mask_to area_to : ℕ → ℕ) (h : Header) : Type 0 where
  pub unknown : is_unknown (changed mask_to area_to h) ≡ is_unknown h
  pub tail : tail_size (changed mask_to area_to h) ≡ tail_size h
  pub normal : breaks_data_type (changed mask_to area_to h) ≡ breaks_data_type h
  pub class : class_of (changed mask_to area_to h) ≡ class_of h
  pub align : breaks_align (changed mask_to area_to h) ≡ breaks_align h
  pub size : breaks_area_size (changed mask_to area_to h) ≡ breaks_area_size h
  pub outside : breaks_data 0 (changed mask_to area_to h) ≡ breaks_data 0 h

pub same_header : (mask_to area_to : ℕ → ℕ) (h : Header) → SameHeader mask_to area_to h
same_header mask_to area_to (Platform mask highest_vtl kind version shared_gpa) = record { unknown = refl; tail = refl; normal = refl; class = refl; align = refl; size = refl; outside = refl }
same_header mask_to area_to (Policy policy mask) = record { unknown = refl; tail = refl; normal = refl; class = refl; align = refl; size = refl; outside = refl }
same_header mask_to area_to (Area bytes area offset) = record { unknown = refl; tail = refl; normal = refl; class = refl; align = refl; size = refl; outside = refl }
same_header mask_to area_to h = record { unknown = refl; tail = refl; normal = refl; class = refl; align = refl; size = refl; outside = refl }

same_content : (mask_to area_to : ℕ → ℕ) (c : Component) (h : Header) → fits_content (changed mask_to area_to h) c.content ≡ fits_content h c.content
same_content mask_to area_to c (Area bytes area offset) = refl
same_content mask_to area_to c (Page gpa mask offset large unmeasured kind) = refl
same_content mask_to area_to c (Context gpa mask offset vp) = refl
same_content mask_to area_to c h = refl

-- the rules that look at the headers before
pub record KeepsOthers (seen : Seen) (h : Header) : Type 0 where
  pub order : breaks_order seen h ≡ false
  pub mask : breaks_mask seen h ≡ false
  pub limit : breaks_area_limit seen h ≡ false
  pub repeated : breaks_area_repeated seen h ≡ false
  pub unknown : breaks_area_unknown seen h ≡ false
  pub wrap : breaks_wrap seen h ≡ false
  pub pages : breaks_pages seen h ≡ false

pub changed_follows : (seen new : Seen) (mask_to area_to : ℕ → ℕ) (c : Component) → KeepsAll seen c → KeepsOthers new (changed mask_to area_to c.header)
    → component_fault new (changed_part mask_to area_to c) ≡ None
changed_follows seen new mask_to area_to c all others =
    let same = same_header mask_to area_to c.header in
    all_kept new (changed_part mask_to area_to c) (record {
      known = same.unknown ∙ all.known;
      sized = ap₂ (λ n b. not ((length c.tail == n) && b)) same.tail (same_content mask_to area_to c c.header) ∙ all.sized;
      normal = same.normal ∙ all.normal;
      rules = record {
        order = others.order;
        mask = others.mask;
        align = same.align ∙ all.rules.align;
        limit = others.limit;
        repeated = others.repeated;
        unknown = others.unknown;
        size = same.size ∙ all.rules.size;
        wrap = others.wrap;
        outside = same.outside ∙ all.rules.outside;
        pages = others.pages;
      };
    })
