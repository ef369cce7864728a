-- The words for each rule that a file can break: docs/FORMAT.md, docs/PROGRAM.md.
use Rattle.std.specs.Prelude.{ℕ, List, codes}
use Rattle.igvm_headers.specs.declared.fault.ReadWhat.{ReadWhat}
use Rattle.igvm_headers.specs.declared.fault.ReadWhat.TheVariants.{TooShort, Magic, Version, Aarch64, Architecture, PageSize, TotalSize, Section, Checksum, HeaderCut, UnknownType, Length, Flags, DataType, PlatformType, Order, Mask, Align, AreaLimit, AreaRepeated, AreaUnknown, AreaSize, Wrap, DataOutside, TooManyPages, NoPlatform}

-- the words for a rule, before the number that two of them have
abbrev pub rule_words : ReadWhat → List ℕ
rule_words TooShort = codes "too short"
rule_words Magic = codes "magic"
rule_words Version = codes "version"
rule_words Aarch64 = codes "architecture aarch64"
rule_words Architecture = codes "architecture"
rule_words PageSize = codes "page size"
rule_words TotalSize = codes "total size"
rule_words Section = codes "section"
rule_words Checksum = codes "checksum"
rule_words HeaderCut = codes "header cut"
rule_words (UnknownType kind) = codes "unknown type "
rule_words Length = codes "length"
rule_words (Flags bit) = codes "flag bit "
rule_words DataType = codes "data type"
rule_words PlatformType = codes "platform type"
rule_words Order = codes "order"
rule_words Mask = codes "mask"
rule_words Align = codes "alignment"
rule_words AreaLimit = codes "too many areas"
rule_words AreaRepeated = codes "area repeated"
rule_words AreaUnknown = codes "area unknown"
rule_words AreaSize = codes "area size"
rule_words Wrap = codes "address wraps"
rule_words DataOutside = codes "data outside"
rule_words TooManyPages = codes "too many pages"
rule_words NoPlatform = codes "no platform"
