use Rattle.image_loader.proofs.NewPages.{next_is_fresh}
use Rattle.image_loader.proofs.NextHeaders.{own_data, pages_enter, next_context}
use Rattle.image_loader.proofs.page_laws.next_fits.Goals as goal

pub returns-clause-own : goal.returns-clause-own
returns-clause-own c = own_data c.accepted_headers.ensures.each

pub returns-clause-pages : goal.returns-clause-pages
returns-clause-pages c = pages_enter c.pages_fit.ensures.fit

pub returns-clause-fresh : goal.returns-clause-fresh
returns-clause-fresh c = next_is_fresh c.fitting_pages_are_new.ensures

pub returns-clause-context : goal.returns-clause-context
returns-clause-context c = next_context
