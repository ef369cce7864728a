use Rattle.std.proofs.Common.{ap, ◌∙◌}
use Rattle.std.specs.List.{flat_map}
use Rattle.igvm_headers.specs.declared.platform_kind.PlatformKind.{PlatformKind}
use Rattle.tdx_chain.specs.Held.{Holds}
use Rattle.igvm_measure.specs.Digests.{tdx_digest}
use Rattle.igvm_measure.specs.Measured.{Measured, on_tdx, tdx_measured, measured_by}
use Rattle.igvm_measure.specs.Records.{tdx_records_of}
use Rattle.igvm_measure.specs.Runs.{page_view}
use Rattle.igvm_measure.specs.Walks.{walk_left}
use Rattle.igvm_measure.proofs.Adding.{adding_none, adding_more, adding_all, first_left}
use Rattle.igvm_measure.proofs.tdx.tdx_digest.Goals as goal

pub pages-init : goal.pages-init
pages-init c = record {
  walk = c.new-walk.ensures.walk;
  added = adding_none on_tdx tdx_records_of (tdx_measured c.args.view.now c.args.platform.mask) (walk_left c.new-walk.result) (Holds c.new-chain.result)
      (c.new-walk.ensures.left ∙ ap (λ (kind : PlatformKind). measured_by kind c.plain.result c.args.view.now c.args.platform.mask) c.requires) c.new-chain.ensures;
}

pub pages-preserved : goal.pages-preserved
pages-preserved c = record {
  walk = c.in-Some.ensures.walk;
  added = adding_more on_tdx tdx_records_of (tdx_measured c.args.view.now c.args.platform.mask) (walk_left c.pages.walk) (page_view c.in-Some.page) (walk_left c.next.new.self)
      (Holds c.pages.chain) (Holds c.add_page.new.chain) c.pages.invariant.added c.in-Some.ensures.some c.add_page.ensures;
}

-- on TDX a page has no page type
pub add_page-requires : goal.add_page-requires
add_page-requires c =
    let first = first_left on_tdx tdx_records_of (tdx_measured c.args.view.now c.args.platform.mask) (walk_left c.pages.walk) (page_view c.in-Some.page) (walk_left c.next.new.self)
    (Holds c.pages.chain) c.pages.invariant.added c.in-Some.ensures.some in
    c.in-Some.ensures.aligned (ap (λ (m : Measured). m.kind) first.is)

pub returns : goal.returns
unfolding tdx_digest
returns c =
    let all = tdx_measured c.args.view.now c.args.platform.mask in
    c.finish.ensures (flat_map tdx_records_of all)
    (adding_all on_tdx tdx_records_of all (walk_left c.pages.walk) (Holds c.pages.chain) c.pages.invariant.added c.in_default.ensures.none)
