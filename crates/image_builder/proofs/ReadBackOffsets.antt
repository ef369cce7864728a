-- Headers whose data stand elsewhere.
use Rattle.std.proofs.Common.{◌≡◌, ℕ, ◌^◌, ◌<◌, List, ◌∙◌, ap, sym}
use Rattle.igvm_headers.specs.HeaderFacts.{data_offset, with_offset}
use Rattle.igvm_headers.specs.SpellingConditions.{IsSpellable, ListsAreBytes}
use Rattle.igvm_headers.specs.declared.header.Header.{Header}
use Rattle.image_builder.proofs.Lengths.{KeepsSize}

-- what another file offset keeps of a header
pub record OffsetKeeps : Type 0 where
  pub size : KeepsSize
  pub spellable : (at : ℕ) (h : Header) (tail : List ℕ) → at < 2 ^ 32 → IsSpellable h tail → IsSpellable (with_offset at h) tail
  pub lists : (at : ℕ) (h : Header) → ListsAreBytes h → ListsAreBytes (with_offset at h)
  pub last : (first second : ℕ) (h : Header) → with_offset second (with_offset first h) ≡ with_offset second h
  pub own : (h : Header) → with_offset (data_offset h) h ≡ h

-- at file offset 0 a header that had it is as before, wherever its data stood
pub offset_gone : OffsetKeeps → (at : ℕ) (h : Header) → data_offset h ≡ 0 → with_offset 0 (with_offset at h) ≡ h
offset_gone keeps at h none = keeps.last at 0 h ∙ ap (λ o. with_offset o h) (sym none) ∙ keeps.own h
