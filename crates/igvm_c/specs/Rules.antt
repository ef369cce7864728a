-- The rules of the reader as numbers.
use Rattle.std.specs.Prelude.{ℕ, List, [], ◌∷◌, ◌==◌, Option, find}
use Rattle.igvm_headers.specs.declared.fault.ReadWhat.{ReadWhat}
use Rattle.igvm_headers.specs.declared.fault.ReadWhat.TheVariants.{TooShort, Magic, Version, Aarch64, Architecture, PageSize, TotalSize, Section, Checksum, HeaderCut, UnknownType, Length, Flags, DataType, PlatformType, Order, Mask, Align, AreaLimit, AreaRepeated, AreaUnknown, AreaSize, Wrap, DataOutside, TooManyPages, NoPlatform}

-- the number of a rule
abbrev pub rule_number : ReadWhat → ℕ
rule_number TooShort = 1
rule_number Magic = 2
rule_number Version = 3
rule_number Aarch64 = 4
rule_number Architecture = 5
rule_number PageSize = 6
rule_number TotalSize = 7
rule_number Section = 8
rule_number Checksum = 9
rule_number HeaderCut = 10
rule_number (UnknownType kind) = 11
rule_number Length = 12
rule_number (Flags bit) = 13
rule_number DataType = 14
rule_number PlatformType = 15
rule_number Order = 16
rule_number Mask = 17
rule_number Align = 18
rule_number AreaLimit = 19
rule_number AreaRepeated = 20
rule_number AreaUnknown = 21
rule_number AreaSize = 22
rule_number Wrap = 23
rule_number DataOutside = 24
rule_number TooManyPages = 25
rule_number NoPlatform = 26

-- the number that a rule names
abbrev pub number_named : ReadWhat → ℕ
number_named (UnknownType kind) = kind
number_named (Flags bit) = bit
number_named _ = 0

-- all rules; what one names is 0
abbrev pub all_rules : List ReadWhat
all_rules =
    TooShort ∷ Magic ∷ Version ∷ Aarch64 ∷ Architecture ∷ PageSize ∷ TotalSize ∷ Section ∷ Checksum ∷ HeaderCut
    ∷ UnknownType 0 ∷ Length ∷ Flags 0 ∷ DataType ∷ PlatformType ∷ Order ∷ Mask ∷ Align ∷ AreaLimit ∷ AreaRepeated
    ∷ AreaUnknown ∷ AreaSize ∷ Wrap ∷ DataOutside ∷ TooManyPages ∷ NoPlatform ∷ []

-- the rule of a number
abbrev pub rule_of : ℕ → Option ReadWhat
rule_of number = find (λ rule. rule_number rule == number) all_rules
