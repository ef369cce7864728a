use Rattle.std.proofs.Common.{[], ◌∷◌, length}
use Rattle.snp_chain.specs.Chain.{Holds}
use Rattle.igvm_measure.specs.Measured.{SnpMeasured, on_snp, snp_measured}
use Rattle.igvm_measure.specs.Records.{snp_record}
use Rattle.igvm_measure.specs.Walks.{IsWalk, walk_left}
use Rattle.igvm_measure.proofs.Adding.{Adding}
use Rattle.igvm_measure.proofs.snp.snp_digest.Given as goal

abbrev pub invariant-pages : goal.invariant-pages
invariant-pages l = record {
  walk : IsWalk l.walk;
  added : Adding on_snp (λ (m : SnpMeasured). snp_record m ∷ []) (snp_measured l.fn.options l.fn.view l.fn.platform.mask) (walk_left l.walk) (Holds l.chain);
}

abbrev pub decreases-pages : goal.decreases-pages
decreases-pages l = length (walk_left l.walk)
