use Rattle.image_builder.proofs.Lengths.{length-section, length-layout}
use Rattle.image_builder.proofs.laws.layout_has_its_size.Goals as goal

pub returns-clause-section : goal.returns-clause-section
returns-clause-section c = length-section c.spelled_is_a_piece.ensures.padded c.offset_keeps.ensures.size

pub returns-clause-layout : goal.returns-clause-layout
returns-clause-layout c = length-layout c.spelled_is_a_piece.ensures.padded c.offset_keeps.ensures.size
