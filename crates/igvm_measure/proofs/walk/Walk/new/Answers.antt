use Rattle.std.proofs.Common.{refl, sym, subst, List}
use Rattle.std.specs.List.{AllByRecursion}
use Rattle.igvm_image.specs.Headers.{PlacedHeader}
use Rattle.igvm_measure.specs.Runs.{HasItsPages}
use Rattle.igvm_measure.proofs.WalkLemmas.{at_first, placed_from-pages}
use Rattle.igvm_measure.proofs.walk.Walk.new.Goals as goal

pub returns-clause-left : goal.returns-clause-left
returns-clause-left c = at_first _ c.args.view.now refl refl c.headers.ensures.placed c.requires

pub returns-clause-walk : goal.returns-clause-walk
returns-clause-walk c = record {
  run = tt;
  fit = c.headers.ensures.fit;
  pages = subst (λ (hs : List PlacedHeader). AllByRecursion HasItsPages hs) (sym c.headers.ensures.placed) (placed_from-pages _ _ _ _);
}
