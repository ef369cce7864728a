-- The listing of an image: a line for the whole, and a line a header.
use Rattle.std.specs.Prelude.{ℕ, List, [], ◌++◌, ◌==◌, if◌then◌else◌, length, take, codes}
use Rattle.std.specs.List.{flat_map}
use Rattle.std.specs.Fmt.{decimal}
use Rattle.igvm_headers.specs.Fixed.{fixed_fields}
use Rattle.igvm_headers.specs.declared.fixed.FixedHeader.{FixedHeader}
use Rattle.platform_masks.specs.Platforms.{platforms_of}
use Rattle.igvm_image.specs.Headers.{PlacedHeader, placed_headers, headers_of}
use Rattle.dump_text.specs.Lines.{header_text}

-- what the line for the whole has besides in version 2: the one architecture and the one page size that are read
abbrev pub added_text : ℕ → List ℕ
added_text version = if version == 2 then codes " architecture x64 page 4096" else []

-- The line for the whole: the fixed header's fields, and how many headers follow.
unfoldable pub fixed_line : FixedHeader → ℕ → List ℕ
fixed_line fixed count =
    codes "igvm version " ++ decimal fixed.version ++ codes " section " ++ decimal fixed.var_offset
    ++ codes " " ++ decimal fixed.var_size ++ codes " total " ++ decimal fixed.total
    ++ codes " headers " ++ decimal count ++ added_text fixed.version ++ codes "\n"

-- the line for the whole of a file
abbrev pub first_line : List ℕ → List ℕ
first_line file = fixed_line (fixed_fields file) (length (placed_headers file))

-- how many platforms stand before the header of an index
abbrev pub platforms_before : List ℕ → ℕ → ℕ
platforms_before file index = length (platforms_of (take index (headers_of file)))

-- a header's line, where so many platforms stand before it: its number, its file offset, its text
unfoldable pub numbered_line : ℕ → PlacedHeader → List ℕ
numbered_line number p =
    decimal p.index ++ codes " at " ++ decimal p.at ++ codes " "
    ++ header_text number p.header ++ codes "\n"

-- the line of a file's header
abbrev pub line_of : List ℕ → PlacedHeader → List ℕ
line_of file p = numbered_line (platforms_before file p.index) p

-- all of it
unfoldable pub print_text : List ℕ → List ℕ
print_text file = first_line file ++ flat_map (line_of file) (placed_headers file)
