-- SNP_ID_BLOCK: mask u32, author key enabled u8, 3 reserved bytes, ld 48 bytes, family id 16 bytes, image id 16 bytes,
-- version u32, guest SVN u32, id key algorithm u32, author key algorithm u32, and 592 bytes that are carried unread.
use Rattle.std.specs.Prelude.{ℕ, List, ◌++◌, Result}
use Rattle.byteorder.specs.Endian.{little_bytes}
use Rattle.igvm_headers.specs.Numbers.{number_at, slice}
use Rattle.igvm_headers.specs.Records.Fields.{of_length, reserved}
use Rattle.igvm_headers.specs.declared.fault.HeaderFault.{HeaderFault}
use Rattle.igvm_headers.specs.declared.header.Header.{Header}
use Rattle.igvm_headers.specs.declared.header.Header.TheVariants as header

-- the header of a content
unfoldable pub id_block_form : List ℕ → Result Header HeaderFault
id_block_form content =
    of_length 696 content
    (header.IdBlock (number_at 4 0 content) (number_at 1 4 content) (slice content 8 48) (slice content 56 16)
    (slice content 72 16) (number_at 4 88 content) (number_at 4 92 content) (number_at 4 96 content)
    (number_at 4 100 content))

-- the content of a header, up to what is carried unread
unfoldable pub id_block_fields : ℕ → ℕ → List ℕ → List ℕ → List ℕ → ℕ → ℕ → ℕ → ℕ → List ℕ
id_block_fields mask author_enabled ld family_id image_id version guest_svn id_algorithm author_algorithm =
    little_bytes 4 mask ++ little_bytes 1 author_enabled ++ reserved 3 ++ ld ++ family_id ++ image_id
    ++ little_bytes 4 version ++ little_bytes 4 guest_svn
    ++ little_bytes 4 id_algorithm ++ little_bytes 4 author_algorithm
