-- A header's fields are bytes, and so is what is spelled.
use Rattle.std.proofs.Common.{ℕ, List, ◌++◌, length, replicate}
use Rattle.byteorder.specs.Endian.{little_bytes}
use Rattle.igvm_headers.specs.PlatformKinds.{kind_number}
use Rattle.igvm_headers.specs.Spelling.{header_fields, header_content, padding_size, spelled}
use Rattle.igvm_headers.specs.SpellingConditions.{AreBytes, ListsAreBytes}
use Rattle.igvm_headers.specs.PageKinds.{data_type}
use Rattle.igvm_headers.specs.HeaderFacts.{header_type}
use Rattle.igvm_headers.specs.Records.Fields.{reserved}
use Rattle.igvm_headers.specs.Records.Platform.{platform_fields}
use Rattle.igvm_headers.specs.Records.Policy.{policy_fields}
use Rattle.igvm_headers.specs.Records.Area.{area_fields}
use Rattle.igvm_headers.specs.Records.Page.{page_fields, page_flags}
use Rattle.igvm_headers.specs.Records.Insert.{insert_fields}
use Rattle.igvm_headers.specs.Records.Param.{param_fields}
use Rattle.igvm_headers.specs.Records.Context.{context_fields}
use Rattle.igvm_headers.specs.Records.Required.{required_fields}
use Rattle.igvm_headers.specs.Records.ErrorRange.{error_range_fields}
use Rattle.igvm_headers.specs.Records.IdBlock.{id_block_fields}
use Rattle.igvm_headers.specs.declared.header.Header.{Header}
use Rattle.igvm_headers.specs.declared.header.Header.TheVariants.{Platform, Policy, Area, Page, Insert, Param, Context, Required, ErrorRange, IdBlock, Carried}
use Rattle.igvm_headers.proofs.Bytes.{joined, behind, number_bytes, zero_bytes}

-- a reserved field behind others
zeros_behind : (xs : List ℕ) (n : ℕ) → AreBytes xs → AreBytes (xs ++ reserved n)
zeros_behind xs n all = joined xs (reserved n) all (zero_bytes n)

-- a header's fields are bytes where its lists are
pub fields_bytes : (h : Header) → ListsAreBytes h → AreBytes (header_fields h)
unfolding header_fields platform_fields policy_fields area_fields page_fields insert_fields param_fields context_fields required_fields error_range_fields id_block_fields
fields_bytes (Platform mask highest_vtl kind version shared_gpa) fits =
    behind (little_bytes 4 mask ++ little_bytes 1 highest_vtl ++ little_bytes 1 (kind_number kind) ++ little_bytes 2 version) 8 shared_gpa
    (behind (little_bytes 4 mask ++ little_bytes 1 highest_vtl ++ little_bytes 1 (kind_number kind)) 2 version
    (behind (little_bytes 4 mask ++ little_bytes 1 highest_vtl) 1 (kind_number kind)
    (behind (little_bytes 4 mask) 1 highest_vtl (number_bytes 4 mask))))
fields_bytes (Policy policy mask) fits =
    zeros_behind (little_bytes 8 policy ++ little_bytes 4 mask) 4
    (behind (little_bytes 8 policy) 4 mask (number_bytes 8 policy))
fields_bytes (Area bytes area offset) fits =
    behind (little_bytes 8 bytes ++ little_bytes 4 area) 4 offset
    (behind (little_bytes 8 bytes) 4 area (number_bytes 8 bytes))
fields_bytes (Page gpa mask offset large unmeasured kind) fits =
    let placed = little_bytes 8 gpa ++ little_bytes 4 mask ++ little_bytes 4 offset in
    zeros_behind (placed ++ little_bytes 4 (page_flags large unmeasured) ++ little_bytes 2 (data_type kind)) 2
    (behind (placed ++ little_bytes 4 (page_flags large unmeasured)) 2 (data_type kind)
    (behind placed 4 (page_flags large unmeasured)
    (behind (little_bytes 8 gpa ++ little_bytes 4 mask) 4 offset
    (behind (little_bytes 8 gpa) 4 mask (number_bytes 8 gpa)))))
fields_bytes (Insert gpa mask area) fits =
    behind (little_bytes 8 gpa ++ little_bytes 4 mask) 4 area
    (behind (little_bytes 8 gpa) 4 mask (number_bytes 8 gpa))
fields_bytes (Param kind area byte_offset) fits = behind (little_bytes 4 area) 4 byte_offset (number_bytes 4 area)
fields_bytes (Context gpa mask offset vp) fits =
    let placed = little_bytes 8 gpa ++ little_bytes 4 mask ++ little_bytes 4 offset in
    zeros_behind (placed ++ little_bytes 2 vp) 2
    (behind placed 2 vp
    (behind (little_bytes 8 gpa ++ little_bytes 4 mask) 4 offset
    (behind (little_bytes 8 gpa) 4 mask (number_bytes 8 gpa))))
fields_bytes (Required gpa mask bytes flags) fits =
    let placed = little_bytes 8 gpa ++ little_bytes 4 mask ++ little_bytes 4 bytes in
    zeros_behind (placed ++ little_bytes 4 flags) 4
    (behind placed 4 flags
    (behind (little_bytes 8 gpa ++ little_bytes 4 mask) 4 bytes
    (behind (little_bytes 8 gpa) 4 mask (number_bytes 8 gpa))))
fields_bytes (ErrorRange gpa mask bytes) fits =
    behind (little_bytes 8 gpa ++ little_bytes 4 mask) 4 bytes
    (behind (little_bytes 8 gpa) 4 mask (number_bytes 8 gpa))
fields_bytes (IdBlock mask author_enabled ld family_id image_id version guest_svn id_algorithm author_algorithm) fits =
    let head = little_bytes 4 mask ++ little_bytes 1 author_enabled ++ reserved 3 in
    let named = head ++ ld ++ family_id ++ image_id in
    behind (named ++ little_bytes 4 version ++ little_bytes 4 guest_svn ++ little_bytes 4 id_algorithm) 4 author_algorithm
    (behind (named ++ little_bytes 4 version ++ little_bytes 4 guest_svn) 4 id_algorithm
    (behind (named ++ little_bytes 4 version) 4 guest_svn
    (behind named 4 version
    (joined (head ++ ld ++ family_id) image_id
    (joined (head ++ ld) family_id
    (joined head ld
    (zeros_behind (little_bytes 4 mask ++ little_bytes 1 author_enabled) 3
    (behind (little_bytes 4 mask) 1 author_enabled (number_bytes 4 mask)))
    fits.0) fits.1) fits.2))))
fields_bytes (Carried kind length') fits = tt

pub spelled_bytes : (h : Header) (tail : List ℕ) → ListsAreBytes h → AreBytes tail → AreBytes (spelled h tail)
unfolding spelled
spelled_bytes h tail fits all =
    let front = little_bytes 4 (header_type h) ++ little_bytes 4 (length (header_content h tail)) in
    joined (front ++ header_content h tail) (replicate (padding_size (length (header_content h tail))) 0)
    (joined front (header_content h tail)
    (behind (little_bytes 4 (header_type h)) 4 (length (header_content h tail)) (number_bytes 4 (header_type h)))
    (joined (header_fields h) tail (fields_bytes h fits) all))
    (zero_bytes (padding_size (length (header_content h tail))))
