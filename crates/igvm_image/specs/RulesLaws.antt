-- A header has no fault exactly where it keeps each of the ten rules.
use Rattle.std.proofs.Common.{◌≡◌, ℕ, refl, Option, Some, None, Bool, true, false}
use Rattle.std.specs.Prelude.{if◌then◌else◌}
use Rattle.igvm_headers.specs.declared.header.Header.{Header}
use Rattle.igvm_headers.specs.declared.fault.ReadWhat.{ReadWhat}
use Rattle.igvm_headers.specs.declared.fault.ReadWhat.TheVariants.{Order, Mask, Align, AreaLimit, AreaRepeated, AreaUnknown, AreaSize, Wrap, DataOutside, TooManyPages}
use Rattle.igvm_image.specs.HeaderRules.{Seen, rule_fault, breaks_order, breaks_mask, breaks_align, breaks_area_limit, breaks_area_repeated, breaks_area_unknown, breaks_area_size, breaks_wrap, breaks_data, breaks_pages}

-- a header breaks none of the rules behind those, in a file of this total size
pub record KeepsRules (total : ℕ) (seen : Seen) (h : Header) : Type 0 where
  pub order : breaks_order seen h ≡ false
  pub mask : breaks_mask seen h ≡ false
  pub align : breaks_align h ≡ false
  pub limit : breaks_area_limit seen h ≡ false
  pub repeated : breaks_area_repeated seen h ≡ false
  pub unknown : breaks_area_unknown seen h ≡ false
  pub size : breaks_area_size h ≡ false
  pub wrap : breaks_wrap seen h ≡ false
  pub outside : breaks_data total h ≡ false
  pub pages : breaks_pages seen h ≡ false

-- one rule in front of others
kept_first : (b : Bool) (what : ReadWhat) (others : Option ReadWhat)
    → (if b then Some what else others) ≡ None → (b ≡ false) × (others ≡ None)
kept_first true what others h = cc
kept_first false what others h = (refl, h)

pass_first : (b : Bool) (what : ReadWhat) (others : Option ReadWhat)
    → b ≡ false → others ≡ None → (if b then Some what else others) ≡ None
pass_first true what others kept none = cc
pass_first false what others kept none = none

pub keeps_rules : (total : ℕ) (seen : Seen) (h : Header)
    → rule_fault total seen h ≡ None → KeepsRules total seen h
unfolding rule_fault
keeps_rules total seen h none =
    let order = kept_first (breaks_order seen h) Order _ none in
    let mask = kept_first (breaks_mask seen h) Mask _ order.1 in
    let align = kept_first (breaks_align h) Align _ mask.1 in
    let limit = kept_first (breaks_area_limit seen h) AreaLimit _ align.1 in
    let repeated = kept_first (breaks_area_repeated seen h) AreaRepeated _ limit.1 in
    let unknown = kept_first (breaks_area_unknown seen h) AreaUnknown _ repeated.1 in
    let size = kept_first (breaks_area_size h) AreaSize _ unknown.1 in
    let wrap = kept_first (breaks_wrap seen h) Wrap _ size.1 in
    let outside = kept_first (breaks_data total h) DataOutside _ wrap.1 in
    let pages = kept_first (breaks_pages seen h) TooManyPages None outside.1 in
    record {
      order = order.0;
      mask = mask.0;
      align = align.0;
      limit = limit.0;
      repeated = repeated.0;
      unknown = unknown.0;
      size = size.0;
      wrap = wrap.0;
      outside = outside.0;
      pages = pages.0;
    }

pub rule_fault-none : (total : ℕ) (seen : Seen) (h : Header)
    → KeepsRules total seen h → rule_fault total seen h ≡ None
unfolding rule_fault
rule_fault-none total seen h k =
    pass_first _ _ _ k.order
    (pass_first _ _ _ k.mask
    (pass_first _ _ _ k.align
    (pass_first _ _ _ k.limit
    (pass_first _ _ _ k.repeated
    (pass_first _ _ _ k.unknown
    (pass_first _ _ _ k.size
    (pass_first _ _ _ k.wrap
    (pass_first _ _ _ k.outside
    (pass_first _ _ _ k.pages refl)))))))))
