use Rattle.std.proofs.Common.{[]}
use Rattle.image_builder.proofs.Writes.{spellable_behind}
use Rattle.image_builder.proofs.spellable.note_spellable.Goals as goal

pub returns : goal.returns
returns c = spellable_behind [] c.args.parts.now c.requires.kept c.requires.fits.each
