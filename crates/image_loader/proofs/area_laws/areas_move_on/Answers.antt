use Rattle.image_loader.proofs.MovingAreas.{MoreIsShown, areas_moved}
use Rattle.image_loader.proofs.area_laws.areas_move_on.Goals as goal

shown : (c : goal.After-told_is_shown) → MoreIsShown
shown c = record {
  step = c.last_value_stands.ensures.step;
  opened = c.told_is_shown.ensures.open;
  added = c.told_is_shown.ensures.declare;
  set = c.told_is_shown.ensures.set;
  taken = c.told_is_shown.ensures.take;
}

pub returns : goal.returns
returns c = areas_moved c.last_value_stands.ensures.told (shown c)
