use Rattle.image_loader.proofs.AreasBehind.{ToldIsShown}
use Rattle.image_loader.proofs.FittingAreas.{next_areas_fit, next_inserts_fit}
use Rattle.image_loader.proofs.area_laws.areas_fit.Goals as goal

shown : (c : goal.After-told_is_shown) → ToldIsShown
shown c = record {
  opened = c.told_is_shown.ensures.open;
  size = c.told_is_shown.ensures.size;
  new = c.told_is_shown.ensures.new;
  count = c.told_is_shown.ensures.count;
  all = c.told_is_shown.ensures.all;
}

pub returns-clause-areas : goal.returns-clause-areas
returns-clause-areas c =
    next_areas_fit c.accepted_headers.ensures.each c.last_value_stands.ensures.told (shown c)

pub returns-clause-inserted : goal.returns-clause-inserted
returns-clause-inserted c =
    next_inserts_fit c.accepted_headers.ensures.each c.last_value_stands.ensures.told (shown c)
