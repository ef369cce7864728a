use Rattle.std.proofs.Common.{[], ◌∷◌, ap, ◌∙◌}
use Rattle.std.proofs.lemmas.List.Concat.{flat_map_single}
use Rattle.igvm_headers.specs.declared.platform_kind.PlatformKind.{PlatformKind}
use Rattle.snp_chain.specs.Chain.{Holds, snp}
use Rattle.igvm_measure.specs.Digests.{snp_digest}
use Rattle.igvm_measure.specs.Measured.{SnpMeasured, on_snp, snp_measured, measured_by}
use Rattle.igvm_measure.specs.Records.{snp_record}
use Rattle.igvm_measure.specs.Runs.{page_view}
use Rattle.igvm_measure.specs.Walks.{walk_left}
use Rattle.igvm_measure.proofs.Adding.{adding_none, adding_more, adding_all}
use Rattle.igvm_measure.proofs.snp.snp_digest.Goals as goal

pub pages-init : goal.pages-init
pages-init c = record {
  walk = c.new-walk.ensures.walk;
  added = adding_none on_snp (λ (m : SnpMeasured). snp_record m ∷ []) (snp_measured c.args.options c.args.view.now c.args.platform.mask) (walk_left c.new-walk.result) (Holds c.new-chain.result)
      (c.new-walk.ensures.left ∙ ap (λ (kind : PlatformKind). measured_by kind c.args.options c.args.view.now c.args.platform.mask) c.requires) c.new-chain.ensures;
}

pub pages-preserved : goal.pages-preserved
pages-preserved c = record {
  walk = c.in-Some.ensures.walk;
  added = adding_more on_snp (λ (m : SnpMeasured). snp_record m ∷ []) (snp_measured c.args.options c.args.view.now c.args.platform.mask) (walk_left c.pages.walk) (page_view c.in-Some.page) (walk_left c.next.new.self)
      (Holds c.pages.chain) (Holds c.add_page.new.chain) c.pages.invariant.added c.in-Some.ensures.some c.add_page.ensures;
}

pub returns : goal.returns
unfolding snp_digest
returns c =
    let all = snp_measured c.args.options c.args.view.now c.args.platform.mask in
    c.digest.ensures
    ∙ adding_all on_snp (λ (m : SnpMeasured). snp_record m ∷ []) all (walk_left c.pages.walk) (Holds c.pages.chain) c.pages.invariant.added c.in_default.ensures.none
    ∙ ap snp (flat_map_single snp_record all)
