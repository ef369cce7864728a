-- The texts that the program prints: docs/PROGRAM.md. Each line ends with a newline.
use Rattle.std.specs.Prelude.{ℕ, false, List, [], ◌∷◌, ◌++◌, codes}
use Rattle.igvm_headers.specs.declared.fault.ReadFault.{ReadFault}
use Rattle.igvm_headers.specs.declared.fault.ReadWhat.{ReadWhat}
use Rattle.igvm_headers.specs.declared.fault.ReadWhat.TheVariants.{UnknownType, Flags}
use Rattle.igvm_headers.specs.declared.platform_kind.PlatformKind.{PlatformKind}
use Rattle.igvm_headers.specs.PlatformKinds.{kind_text}
use Rattle.rule_texts.specs.RuleTexts.{rule_words}
use Rattle.igvm_words.specs.Words.{PlatformChoice, choice_text}
use Rattle.host_set.specs.declared.refusal.HostPart.{HostPart}
use Rattle.host_set.specs.declared.refusal.HostPart.TheVariants as host
use Rattle.directive_rules.specs.declared.misfit.Misfit.{Misfit}
use Rattle.directive_rules.specs.declared.misfit.Why.{Why}
use Rattle.directive_rules.specs.declared.misfit.Why.TheVariants as why
use Rattle.component_list.specs.declared.refusal.ListPart.{ListPart}
use Rattle.component_list.specs.declared.refusal.ListPart.TheVariants.{Top, Platforms, Policies, Directives}
use Rattle.std.specs.Fmt.{decimal, format_spec, padded_integral, digits}
use Rattle.hex.specs.Hex.{encode_lower}

-- a text and a newline
abbrev pub line : List ℕ → List ℕ
line text = text ++ 10 ∷ []

-- a number of 32 bits as 8 lower-case hexadecimal digits
abbrev pub eight_digits : ℕ → List ℕ
eight_digits n = padded_integral (format_spec 32 0 4 8 18446744073709551615) false [] (digits 16 false n)

-- the number of a rule that has one
abbrev pub rule_number : ReadWhat → List ℕ
rule_number (UnknownType kind) = eight_digits kind
rule_number (Flags bit) = decimal bit
rule_number _ = []

-- the text of a rule, with its number where it has one
abbrev pub what_text : ReadWhat → List ℕ
what_text what = rule_words what ++ rule_number what

-- a file that breaks a rule of the reader
abbrev pub fault_text : ReadFault → List ℕ
fault_text fault =
    codes "igvm: file refused at " ++ (decimal fault.at ++ (codes ": " ++ (what_text fault.what ++ 10 ∷ [])))

-- a file could not be read or written
abbrev pub shelf_text : List ℕ
shelf_text = line (codes "igvm: outside fault: shelf")

-- the output could not be written
abbrev pub output_text : List ℕ
output_text = line (codes "igvm: outside fault: output")

-- the launch machine failed
abbrev pub machine_text : List ℕ
machine_text = line (codes "igvm: outside fault: machine")

-- memory ran out
abbrev pub memory_text : List ℕ
memory_text = line (codes "igvm: want of memory")

-- an image has no platform that is asked for
abbrev pub no_platform_text : PlatformChoice → List ℕ
no_platform_text wanted = codes "igvm: no platform " ++ (choice_text wanted ++ 10 ∷ [])

-- platforms of a kind have no digest
abbrev pub no_digest_text : PlatformKind → List ℕ
no_digest_text kind = codes "igvm: no digest for " ++ (kind_text kind ++ 10 ∷ [])

-- an image file is longer than its limit
abbrev pub long_file_text : List ℕ
long_file_text = line (codes "igvm: limit: file")

-- a digest's 96 digits, and a newline
abbrev pub digest_text : List ℕ → List ℕ
digest_text digest = line (encode_lower digest)

-- a component list's text is longer than its limit
abbrev pub long_list_text : List ℕ
long_list_text = line (codes "igvm: limit: list")

-- a file that a list names is longer than its limit
abbrev pub long_blob_text : List ℕ
long_blob_text = line (codes "igvm: limit: blob")

-- the contents of a list are larger together than their limit
abbrev pub large_data_text : List ℕ
large_data_text = line (codes "igvm: limit: data")

-- a built image would be larger than its limit
abbrev pub large_image_text : List ℕ
large_image_text = line (codes "igvm: limit: image")

-- a VMSA's text or page is longer than its limit
abbrev pub long_vmsa_text : List ℕ
long_vmsa_text = line (codes "igvm: limit: vmsa")

-- an ELF file is longer than its limit
abbrev pub long_elf_text : List ℕ
long_elf_text = line (codes "igvm: limit: elf")

-- an image would name more pages than its limit
abbrev pub many_pages_text : List ℕ
many_pages_text = line (codes "igvm: limit: pages")

-- an image would have more platforms than its limit
abbrev pub many_platforms_text : List ℕ
many_platforms_text = line (codes "igvm: limit: platforms")

-- an image would declare more parameter areas than its limit
abbrev pub many_areas_text : List ℕ
many_areas_text = line (codes "igvm: limit: areas")

-- a host description is longer than its limit
abbrev pub long_host_text : List ℕ
long_host_text = line (codes "igvm: limit: host")

-- a text is no JSON
abbrev pub not_json_text : List ℕ
not_json_text = line (codes "igvm: json refused")

-- the word for a part of a list
abbrev pub part_text : ListPart → List ℕ
part_text Top = codes "top"
part_text Platforms = codes "platforms"
part_text Policies = codes "policies"
part_text Directives = codes "directives"

-- the word for a part of a host description
abbrev pub host_part_text : HostPart → List ℕ
host_part_text host.Top = codes "top"
host_part_text host.Memory = codes "memory"
host_part_text host.Values = codes "values"
host_part_text host.Secrets = codes "secrets"
host_part_text host.Cpuid = codes "cpuid"

-- an entry of this part that has not its form
abbrev pub field_text : List ℕ → ℕ → List ℕ
field_text part item = codes "igvm: json refused: " ++ (part ++ (codes " " ++ (decimal item ++ 10 ∷ [])))

-- an entry that breaks a rule of images
abbrev pub entry_text : ListPart → ℕ → ReadWhat → List ℕ
entry_text part item what =
    codes "igvm: json refused: "
    ++ (part_text part ++ (codes " " ++ (decimal item ++ (codes ": " ++ (what_text what ++ 10 ∷ [])))))

-- how many bytes were written
abbrev pub built_text : ℕ → List ℕ
built_text bytes = codes "built " ++ (decimal bytes ++ (codes " bytes" ++ 10 ∷ []))

-- ---- `load` and `make`

-- how many pages and contexts a machine was given, and its digest
abbrev pub load_text : ℕ → ℕ → List ℕ → List ℕ
load_text pages contexts digest =
    line (codes "loaded " ++ decimal pages ++ codes " pages, " ++ decimal contexts ++ codes " contexts")
    ++ line (codes "digest " ++ encode_lower digest)

-- the words for why a header does not fit
abbrev pub why_words : Why → List ℕ
why_words why.Outside = codes "outside"
why_words why.Repeated = codes "repeated"
why_words why.TypeNotHere = codes "type not here"
why_words why.ContextNotHere = codes "context not here"
why_words why.ContextRepeated = codes "context repeated"
why_words why.PolicyRepeated = codes "policy repeated"
why_words why.IdBlockNotHere = codes "id block not here"
why_words why.IdBlockRepeated = codes "id block repeated"
why_words why.AreaGone = codes "area gone"
why_words why.ValueTooLong = codes "value too long"
why_words why.AreasTooLarge = codes "areas too large"
why_words why.TooManyPages = codes "too many pages"
why_words (why.BadDigest wanted found) = codes "bad digest"

-- the digests that one of them names
abbrev pub why_digests : Why → List ℕ
why_digests (why.BadDigest wanted found) = codes " wanted " ++ encode_lower wanted ++ codes " found " ++ encode_lower found
why_digests _ = []

-- an image does not fit: the first header that does not, and why
abbrev pub misfit_text : Misfit → List ℕ
misfit_text misfit =
    line (codes "does not fit: header " ++ decimal misfit.index ++ codes ": " ++ why_words misfit.why ++ why_digests misfit.why)

-- how many pages an image was made of, its bytes, what a machine was given of it, and its digests on SEV-SNP and TDX
abbrev pub make_text : ℕ → ℕ → List ℕ → ℕ → ℕ → List ℕ → List ℕ
make_text count bytes snp pages contexts tdx =
    line (codes "made " ++ decimal count ++ codes " pages, " ++ decimal bytes ++ codes " bytes")
    ++ line (codes "snp " ++ encode_lower snp ++ codes " loaded " ++ decimal pages ++ codes " pages, " ++ decimal contexts
    ++ codes " contexts") ++ line (codes "tdx " ++ encode_lower tdx)
