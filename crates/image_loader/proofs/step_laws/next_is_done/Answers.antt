use Rattle.image_loader.proofs.step_laws.next_is_done.Goals as goal

pub returns : goal.returns
returns c = record {
  areas = λ load before p space s areas fits. c.areas_move_on.ensures load before p space areas fits.areas;
  machine = λ load before p space s machine fits. c.machine_moves_on.ensures load before p s _ machine fits.pages;
}
