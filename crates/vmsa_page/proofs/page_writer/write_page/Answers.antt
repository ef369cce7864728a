use Rattle.std.proofs.Common.{◌≡◌, ap, ◌∙◌, length, map}
use Rattle.vmsa_page.specs.Pages.{page_of, segment_bytes}
use Rattle.vmsa_page.proofs.FilledLists.{length_seen}
use Rattle.vmsa_page.proofs.PagesWritten.{others_in_page, others_over, page_written}
use Rattle.vmsa_page.proofs.page_writer.write_page.Goals as goal

pub write_others-requires : goal.write_others-requires
write_others-requires c =
    others_in_page c.vmsa.inside.other.items c.as_slice.result.now _ c.as_slice.ensures.value c.vmsa.invariant.other (c.clear.ensures.0 ∙ c.requires)

pub returns : goal.returns
returns c =
    let v = c.vmsa.inside in
    let ten : length (map segment_bytes v.segments) ≡ 10 = length_seen segment_bytes v.segments ∙ c.vmsa.invariant.ten in
    page_written (record { segments = v.segments; numbers = v.numbers; other = v.other.items }) c.args.out.now c.clear.new.out c.write_others.new.out c.write_numbers.new.out c.write_segments.new.out
    c.requires c.clear.ensures ten (others_over c.as_slice.result.now v.other.items _ _ c.as_slice.ensures.value c.write_others.ensures) c.write_numbers.ensures c.write_segments.ensures
    ∙ ap page_of c.vmsa.view_is
