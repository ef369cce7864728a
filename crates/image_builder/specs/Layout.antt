-- The file that a list is built into: the fixed header, the headers, and each content once; docs/FORMAT.md.
use Rattle.std.specs.Prelude.{ℕ, ◌+◌, ◌==◌, List, [], ◌∷◌, ◌++◌, length, sum_by, replicate, if◌then◌else◌}
use Rattle.std.specs.List.{concat, flat_map}
use Rattle.byteorder.specs.Endian.{little_bytes}
use Rattle.igvm_headers.specs.Checksum.{crc}
use Rattle.igvm_headers.specs.Fixed.{fixed_size}
use Rattle.igvm_headers.specs.HeaderFacts.{with_offset}
use Rattle.igvm_headers.specs.Spelling.{spelled}
use Rattle.component_list.specs.declared.component.Component.{Component}
use Rattle.component_list.specs.declared.component.Content.{Content}
use Rattle.component_list.specs.declared.component.Content.TheVariants.{Nothing, Zero, Bytes}
use Rattle.component_list.specs.Lists.{ImageParts}
use Rattle.image_builder.specs.DistinctContents.{contents, distinct, place_of}

-- the bytes that a header takes in the section; where its data stand changes nothing of it
abbrev pub spelled_size : Component → ℕ
spelled_size c = length (spelled c.header c.tail)

-- how many bytes the headers take
unfoldable pub section_size : List Component → ℕ
section_size parts = sum_by spelled_size parts

-- the data stand after the fixed header and the section
abbrev pub data_start : ImageParts → ℕ
data_start list = fixed_size list.version + section_size list.parts

-- each content once, in the order of first use
abbrev pub kept_contents : List Component → List (List ℕ)
kept_contents parts = distinct (contents parts)

-- where a content stands in a file whose data begin here with these contents; 0 where the file holds none of it
abbrev pub offset_among : ℕ → List (List ℕ) → Content → ℕ
offset_among start kept Nothing = 0
offset_among start kept Zero = 0
offset_among start kept (Bytes bytes) = start + place_of bytes kept

-- a component's header with its place, as it is written
abbrev pub written : ℕ → List (List ℕ) → Component → List ℕ
written start kept c = spelled (with_offset (offset_among start kept c.content) c.header) c.tail

-- the headers in order, each with the place of its content
unfoldable pub section : ImageParts → List ℕ
section list = flat_map (written (data_start list) (kept_contents list.parts)) list.parts

-- the contents one behind the other, without gaps
unfoldable pub data_bytes : List Component → List ℕ
data_bytes parts = concat (kept_contents parts)

-- the bytes of `IGVM`
abbrev pub magic : List ℕ
magic = 0x49 ∷ 0x47 ∷ 0x56 ∷ 0x4D ∷ []

-- the fixed header before its checksum: magic, version, the section's offset and size, the total size
abbrev pub fixed_front : ℕ → ℕ → ℕ → List ℕ
fixed_front version size total =
    magic ++ little_bytes 4 version ++ little_bytes 4 (fixed_size version) ++ little_bytes 4 size ++ little_bytes 4 total

-- the fixed header after its checksum: in version 2 the architecture, which is X64, and the page size
abbrev pub fixed_rest : ℕ → List ℕ
fixed_rest version = if version == 2 then little_bytes 4 0 ++ little_bytes 4 4096 else []

-- the checksum is taken over the fixed header, with zeros in its own place, and the section
abbrev pub checksum_of : ℕ → List ℕ → List ℕ → ℕ
checksum_of version front headers = crc (front ++ replicate 4 0 ++ fixed_rest version ++ headers)

-- how many bytes the file has
unfoldable pub layout_size : ImageParts → ℕ
layout_size list = data_start list + sum_by length (kept_contents list.parts)

-- a file of these parts
abbrev pub put_together : ℕ → List ℕ → List ℕ → List ℕ → List ℕ
put_together version front headers bytes =
    front ++ little_bytes 4 (checksum_of version front headers) ++ fixed_rest version ++ headers ++ bytes

-- the file that a list is built into
unfoldable pub layout : ImageParts → List ℕ
layout list =
    put_together list.version (fixed_front list.version (section_size list.parts) (layout_size list)) (section list)
    (data_bytes list.parts)
