use Rattle.image_loader.proofs.step_laws.next_is_ready.Goals as goal

pub returns : goal.returns
returns c = record {
  fits = λ load plan done left p space s is total areas machine. record {
    own = c.next_fits.ensures.own load plan done left p is;
    fresh = c.next_fits.ensures.fresh load plan done left p s _ is machine;
    pages = c.next_fits.ensures.pages load plan done left p is;
    inserted = c.areas_fit.ensures.inserted load plan done left p space is areas;
    context = c.next_fits.ensures.context load plan done left p s is machine;
    areas = c.areas_fit.ensures.areas load plan done left p space is total areas;
  };
  filled = λ load before p space s areas fits. c.pages_are_filled.ensures load before p space areas fits.inserted;
}
