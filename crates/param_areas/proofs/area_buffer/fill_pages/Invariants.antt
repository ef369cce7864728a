use Rattle.std.proofs.Common.{◌≡◌, ◌*◌, ℕ, ◌<◌, get_or}
use Rattle.param_areas.specs.AreaHistory.{content_byte}
use Rattle.param_areas.proofs.area_buffer.fill_pages.Given as goal

abbrev pub invariant-pages : goal.invariant-pages
invariant-pages l = (q : ℕ) → q < 4096 * l.k → get_or l.out q 0 ≡ content_byte l.content q
