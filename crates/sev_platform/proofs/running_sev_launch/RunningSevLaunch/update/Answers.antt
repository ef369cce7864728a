use Rattle.std.proofs.Common.{◌≡◌, ◌∙◌, map, sym, ap, Some, refl}
use Rattle.std.specs.Prelude.{slice_get}
use Rattle.std.specs.Option.{option_map}
use Rattle.std.proofs.lemmas.Option.{slice_get-map}
use Rattle.launch_platform.specs.Views.{entry_in}
use Rattle.sev_platform.specs.SevPages.{sev_page}
use Rattle.sev_platform.proofs.PagesOfEntries.{pages_measured}
use Rattle.sev_platform.proofs.running_sev_launch.RunningSevLaunch.update.Goals as goal

pub returns : goal.returns
returns c =
    let there : slice_get (map sev_page c.args.self.now.pages.entries) c.args.slot ≡ Some (sev_page (entry_in c.in-Some.entry)) =
    slice_get-map sev_page c.args.self.now.pages.entries c.args.slot ∙ ap (option_map sev_page) (sym c.in-Some.ensures.entry) in
    let entries = pages_measured c.args.self.now.pages.entries c.args.slot in
    record {
      state = rw c.tag.ensures (rw entries refl);
      spares = rw c.tag.ensures refl;
      held = λ bytes held. rw there (c.update.ensures bytes held);
    }
