use Rattle.std.proofs.Common.{◌≡◌, ℕ, List, ◌∙◌, sym, ap, ap₂, subst, take, arith}
use Rattle.std.specs.List.{AllByRecursion}
use Rattle.igvm_headers.specs.declared.fixed.FixedHeader.{FixedHeader}
use Rattle.igvm_headers.specs.Fixed.{fixed_fields}
use Rattle.igvm_headers.specs.Pages.{file_body}
use Rattle.igvm_image.specs.Areas.{areas_of}
use Rattle.igvm_image.specs.PagesFit.{PagesFit}
use Rattle.igvm_image.specs.Pieces.{pieces}
use Rattle.igvm_image.specs.FileFault.{section_of}
use Rattle.igvm_image.specs.Headers.{PlacedHeader, headers_of, placed_from, placed_headers, pieces_of}
use Rattle.igvm_image.proofs.FitsLemmas.{headers_fit}
use Rattle.igvm_image.proofs.view.ImageView.headers.Goals as goal

pub returns-clause-fit : goal.returns-clause-fit
returns-clause-fit c =
    let file = c.self.inside.file.now in
    let fields = c.self.invariant.fixed in
    let body : c.body_of-body.result.now ≡ file_body file =
    c.body_of-body.ensures ∙ ap (λ (f : FixedHeader). take f.total file) fields in
    let section : c.section_of-section.result.now ≡ section_of file (fixed_fields file) =
    c.section_of-section.ensures.value ∙ ap (section_of file) fields in
    let same : c.new.result ≡ placed_headers file =
    c.new.ensures.placed
    ∙ ap₂ (λ b s. placed_from b 0 c.self.inside.fixed.var_offset (pieces s)) body section
    ∙ ap (λ (f : FixedHeader). placed_from (file_body file) 0 f.var_offset (pieces_of file)) fields in
    subst (λ (hs : List PlacedHeader). AllByRecursion (λ p. PagesFit (areas_of (headers_of c.args.self.now)) p.header) hs) (sym same)
    (subst (λ (f : List ℕ). AllByRecursion (λ p. PagesFit (areas_of (headers_of f)) p.header) (placed_headers file)) c.self.view_is
    (headers_fit file c.self.invariant.accepted))

pub returns-clause-placed : goal.returns-clause-placed
returns-clause-placed c =
    let file = c.self.inside.file.now in
    let fields = c.self.invariant.fixed in
    let body : c.body_of-body.result.now ≡ file_body file =
    c.body_of-body.ensures ∙ ap (λ (f : FixedHeader). take f.total file) fields in
    let section : c.section_of-section.result.now ≡ section_of file (fixed_fields file) =
    c.section_of-section.ensures.value ∙ ap (section_of file) fields in
    c.new.ensures.placed
    ∙ ap₂ (λ b s. placed_from b 0 c.self.inside.fixed.var_offset (pieces s)) body section
    ∙ ap (λ (f : FixedHeader). placed_from (file_body file) 0 f.var_offset (pieces_of file)) fields
    ∙ ap placed_headers c.self.view_is

pub returns-clause-few : goal.returns-clause-few
returns-clause-few c = c.new.ensures.few

pub new-requires : goal.new-requires
new-requires c =
    let size = c.section_of-section.ensures.size in
    let section = c.self.invariant.section in
    let total = c.self.invariant.total in
    let limit = c.self.invariant.limit in
    omega arith
