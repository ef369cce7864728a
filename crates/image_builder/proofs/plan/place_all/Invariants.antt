-- the components so far are placed, in the row that was handed in
use Rattle.std.proofs.Common.{◌≡◌}
use Rattle.image_builder.proofs.Places.{Placing}
use Rattle.image_builder.proofs.plan.place_all.Given as goal

abbrev pub invariant-parts : goal.invariant-parts
invariant-parts l = record {
  placing : Placing l.fn.row.start l.parts l.row.kept l.offsets.items l.component-index;
  start : l.row.start ≡ l.fn.row.start;
}
