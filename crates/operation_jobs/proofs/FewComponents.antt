-- An image file has fewer components than 2^31: each header takes at least 8 of its bytes.
use Rattle.std.proofs.Common.{◌≡◌, ℕ, ◌+◌, ◌*◌, ◌^◌, ◌<◌, ◌≤◌, List, length, ap, drop, arith}
use Rattle.std.proofs.lemmas.List.{length-drop, length-map, length-take}
use Rattle.igvm_headers.specs.Fixed.{fixed_fields}
use Rattle.igvm_headers.specs.Pages.{file_body}
use Rattle.igvm_image.specs.FileFault.{section_of}
use Rattle.igvm_image.specs.Headers.{placed_headers}
use Rattle.igvm_image.proofs.HeadersLemmas.{placed_few}
use Rattle.component_list.specs.ImageList.{component_of, components_in, list_of}
use Rattle.component_list.specs.Lists.{ImageParts}
use Rattle.igvm_jobs.specs.ImageFiles.{file_limit}

few_headers : (file : List ℕ) → 8 * length (placed_headers file) ≤ length file
few_headers file =
    let fixed = fixed_fields file in
    let placed = placed_few (file_body file) 0 fixed.var_offset (section_of file fixed) in
    let front = length-take fixed.var_size (drop fixed.var_offset file) in
    let behind = length-drop fixed.var_offset file in
    omega arith

few_components : (file : List ℕ) → length file ≤ file_limit → length (components_in file) ≤ 67108864
few_components file within =
    let few = few_headers file in
    let same = length-map (placed_headers file) component_of in
    omega arith

-- those of two files
pub few_together : (first second : List ℕ) (a b : ImageParts) → length first ≤ file_limit → length second ≤ file_limit → a ≡ list_of first → b ≡ list_of second → length a.parts + length b.parts < 2 ^ 32
few_together first second a b one two is also =
    let few = few_components first one in
    let fewer = few_components second two in
    let same = ap (λ (list : ImageParts). length list.parts) is in
    let alike = ap (λ (list : ImageParts). length list.parts) also in
    omega arith
