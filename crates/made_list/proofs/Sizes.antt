-- How many bytes the image of a made list has.
use Rattle.std.proofs.Common.{◌≡◌, ℕ, zero, suc, ◌+◌, ◌*◌, ◌≤◌, ◌++◌, map, refl, ◌∙◌, arith}
use Rattle.std.specs.Prelude.{sum_by}
use Rattle.std.specs.List.{range_with_len}
use Rattle.std.proofs.lemmas.List.Sums.{sum_by-append, sum_by-cons}
use Rattle.igvm_headers.specs.Spelling.{spelled, header_fields}
use Rattle.igvm_headers.specs.Records.Platform.{platform_fields}
use Rattle.igvm_headers.specs.Records.Policy.{policy_fields}
use Rattle.igvm_headers.specs.Records.Area.{area_fields}
use Rattle.igvm_headers.specs.Records.Page.{page_fields}
use Rattle.igvm_headers.specs.Records.Insert.{insert_fields}
use Rattle.igvm_headers.specs.Records.Param.{param_fields}
use Rattle.igvm_headers.specs.Records.Context.{context_fields}
use Rattle.igvm_headers.specs.Records.Required.{required_fields}
use Rattle.image_builder.specs.Layout.{layout_size, section_size, spelled_size}
use Rattle.made_list.specs.MadeList.{made_head, made_page, made_pages, made_parts, made_tail, made_list}
use Rattle.made_list.proofs.Contents.{contents_size}

head_size : (n : ℕ) → sum_by spelled_size (made_head n) ≡ 168
unfolding made_head spelled header_fields platform_fields policy_fields area_fields param_fields required_fields
head_size n = refl

tail_size : sum_by spelled_size made_tail ≡ 120
unfolding made_tail spelled header_fields page_fields insert_fields context_fields
tail_size = refl

page_size : (k : ℕ) → spelled_size (made_page k) ≡ 32
unfolding made_page spelled header_fields page_fields
page_size k = refl

pages_size : (first n : ℕ) → sum_by spelled_size (map made_page (range_with_len first n)) ≡ 32 * n
pages_size first zero = refl
pages_size first (suc n) =
    sum_by-cons spelled_size (made_page first) (map made_page (range_with_len (first + 1) n)) ∙ omega (arith, page_size first, pages_size (first + 1) n)

section_is : (n : ℕ) → section_size (made_parts n) ≡ 288 + 32 * n
unfolding section_size made_parts
section_is n =
    omega (
      arith,
      sum_by-append spelled_size (made_head n ++ made_pages n) made_tail,
      sum_by-append spelled_size (made_head n) (made_pages n),
      head_size n,
      pages_size 0 n,
      tail_size,
    )

pub made_size : (n : ℕ) → n ≤ 100000 → layout_size (made_list n) ≡ 4408 + 4128 * n
unfolding layout_size
made_size n few = omega (arith, section_is n, contents_size n few)
