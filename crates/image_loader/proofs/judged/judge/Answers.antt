use Rattle.std.proofs.Common.{◌≤◌, length, refl, sym, ap, subst, ◌∙◌, arith}
use Rattle.param_areas.specs.AreaBytes.{Space}
use Rattle.image_loader.specs.Loads.{Load, load_of}
use Rattle.image_loader.specs.PlacedPages.{placed, contexts}
use Rattle.image_loader.proofs.judged.judge.Goals as goal

pub reserve-requires : goal.reserve-requires
reserve-requires c = c.in-Ok.ensures.within.area_bytes

pub invariant_of-result : goal.invariant_of-result
invariant_of-result c =
    let load : Load = load_of c.args.view.now c.args.platform c.args.options c.args.host.now in
    record {
      fits = record { plan = c.args.plan.now; fits = c.in-Ok.ensures.fits };
      undeclared = ap (λ (s : Space). s.areas) c.in-Ok-reserve.ensures;
      total = ap (λ (s : Space). s.total) c.in-Ok-reserve.ensures ∙ c.in-Ok.ensures.counts.area_bytes;
      pages = subst (λ n. length (placed load) ≤ n) (sym c.in-Ok.ensures.counts.pages)
          (c.counts_suffice.ensures.pages load);
      contexts = subst (λ n. length (contexts load) ≤ n)
          (c.counts_suffice.ensures.contexts load ∙ sym c.in-Ok.ensures.counts.contexts) (omega arith);
      few_pages = c.in-Ok.ensures.within.pages;
      few_contexts = c.in-Ok.ensures.within.contexts;
      ids = c.in-Ok.ensures.counts.ids;
    }

pub returns-clause-load : goal.returns-clause-load
returns-clause-load c = refl

pub returns-clause-fits : goal.returns-clause-fits
returns-clause-fits c = c.in-Ok.ensures.fits
