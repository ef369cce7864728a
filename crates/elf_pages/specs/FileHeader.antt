-- The fields of an ELF-64 file header that are looked at (ELF-64 Object File Format, "File header"; System V
-- ABI, "ELF Header").
use Rattle.std.specs.Prelude.{ℕ, ◌+◌, ◌*◌, List, slice_index}
use Rattle.igvm_headers.specs.Numbers.{number_at}

-- the first four bytes of e_ident, as one number
abbrev pub magic_of : List ℕ → ℕ
magic_of file = number_at 4 0 file

-- e_ident[EI_CLASS]: 2 for a file of 64 bits
abbrev pub class_of : List ℕ → ℕ
class_of file = slice_index file 4

-- e_ident[EI_DATA]: 1 for little-endian numbers
abbrev pub encoding_of : List ℕ → ℕ
encoding_of file = slice_index file 5

-- e_machine: the processor that the file is for
abbrev pub machine_of : List ℕ → ℕ
machine_of file = number_at 2 18 file

-- e_phoff: the file offset of the program header table
abbrev pub table_offset : List ℕ → ℕ
table_offset file = number_at 8 32 file

-- e_phentsize: the size of a program header in bytes
abbrev pub header_size : List ℕ → ℕ
header_size file = number_at 2 54 file

-- e_phnum: how many program headers there are, as it stands, without extended numbering
abbrev pub header_count : List ℕ → ℕ
header_count file = number_at 2 56 file

-- the file offset of program header k, where each has 56 bytes
abbrev pub header_offset : List ℕ → ℕ → ℕ
header_offset file k = table_offset file + 56 * k
