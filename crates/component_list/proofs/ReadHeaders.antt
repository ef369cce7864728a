-- What the rules on a component find of a header that is read from a content.
use Rattle.std.proofs.Common.{◌≡◌, ℕ, List, length, refl, ap, Ok, true, false, not}
use Rattle.igvm_headers.specs.HeaderFacts.{tail_size, header_tail}
use Rattle.igvm_headers.specs.HeaderForm.{header_form}
use Rattle.igvm_headers.specs.SpellingConditions.{TailFits, LargeIsNormal, KindIsCarried}
use Rattle.igvm_headers.specs.declared.header.Header.{Header}
use Rattle.igvm_headers.specs.declared.header.Header.TheVariants.{Page, Carried}
use Rattle.component_list.specs.Components.{breaks_data_type, is_normal, is_unknown}

-- what is read, whatever the content
pub record WhatIsRead : Type 0 where
  pub tail : (kind : ℕ) (content : List ℕ) (h : Header) → header_form kind content ≡ Ok h → TailFits h (header_tail h content)
  pub large : (kind : ℕ) (content : List ℕ) (h : Header) → header_form kind content ≡ Ok h → LargeIsNormal h
  pub carried : (kind : ℕ) (content : List ℕ) (h : Header) → header_form kind content ≡ Ok h → KindIsCarried h

-- a header that is read is known, its tail is of its size, and a 2 MB page is a normal one
pub record IsRead (content : List ℕ) (h : Header) : Type 0 where
  pub known : is_unknown h ≡ false
  pub tail : length (header_tail h content) ≡ tail_size h
  pub normal : breaks_data_type h ≡ false

known_of : (h : Header) → KindIsCarried h → is_unknown h ≡ false
known_of (Carried kind length) carried = ap not carried
known_of h carried = refl

normal_of : (h : Header) → LargeIsNormal h → breaks_data_type h ≡ false
normal_of (Page gpa mask offset true unmeasured kind) large = ap (λ k. not (is_normal k)) (large refl)
normal_of (Page gpa mask offset false unmeasured kind) large = refl
normal_of h large = refl

pub read_is : WhatIsRead → (kind : ℕ) (content : List ℕ) (h : Header) → header_form kind content ≡ Ok h → IsRead content h
read_is law kind content h form = record {
  known = known_of h (law.carried kind content h form);
  tail = law.tail kind content h form;
  normal = normal_of h (law.large kind content h form);
}
