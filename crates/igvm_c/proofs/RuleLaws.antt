-- Each rule is found by its number.
use Rattle.std.proofs.Common.{◌≡◌, refl}
use Rattle.igvm_headers.specs.declared.fault.ReadWhat.{ReadWhat}
use Rattle.igvm_headers.specs.declared.fault.ReadWhat.TheVariants.{TooShort, Magic, Version, Aarch64, Architecture, PageSize, TotalSize, Section, Checksum, HeaderCut, UnknownType, Length, Flags, DataType, PlatformType, Order, Mask, Align, AreaLimit, AreaRepeated, AreaUnknown, AreaSize, Wrap, DataOutside, TooManyPages, NoPlatform}
use Rattle.igvm_c.specs.Rules.{rule_number}
use Rattle.igvm_c.specs.Texts.{rule_text}
use Rattle.rule_texts.specs.RuleTexts.{rule_words}

pub words : (what : ReadWhat) → rule_text (rule_number what) ≡ rule_words what
words TooShort = refl
words Magic = refl
words Version = refl
words Aarch64 = refl
words Architecture = refl
words PageSize = refl
words TotalSize = refl
words Section = refl
words Checksum = refl
words HeaderCut = refl
words (UnknownType kind) = refl
words Length = refl
words (Flags bit) = refl
words DataType = refl
words PlatformType = refl
words Order = refl
words Mask = refl
words Align = refl
words AreaLimit = refl
words AreaRepeated = refl
words AreaUnknown = refl
words AreaSize = refl
words Wrap = refl
words DataOutside = refl
words TooManyPages = refl
words NoPlatform = refl
