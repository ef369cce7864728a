use Rattle.image_builder.proofs.ReadBack.{Laws, accepted_back, list_is_back}
use Rattle.image_builder.proofs.read_back.built_is_read_back.Goals as goal

laws : goal.After-offsets_do_not_count → Laws
laws c = record {
  piece = record {
    kind = c.spelled_is_a_piece.ensures.kind;
    size = c.spelled_is_a_piece.ensures.size;
    content = c.spelled_is_a_piece.ensures.content;
    padded = c.spelled_is_a_piece.ensures.padded;
    behind = c.spelled_is_a_piece.ensures.behind;
  };
  read = record { header = c.spelled_is_read.ensures.header; tail = c.spelled_is_read.ensures.tail };
  bytes = c.fields_are_bytes.ensures.spelled;
  keeps = record {
    size = c.offset_keeps.ensures.size;
    spellable = c.offset_keeps.ensures.spellable;
    lists = c.offset_keeps.ensures.lists;
    last = c.offset_keeps.ensures.last;
    own = c.offset_keeps.ensures.own;
  };
  offsets = record {
    seen = c.offsets_do_not_count.ensures.seen;
    rules = c.offsets_do_not_count.ensures.rules;
    inside = c.offsets_do_not_count.ensures.inside;
  };
  split = c.one_split.ensures.one;
}

pub returns-clause-accepted : goal.returns-clause-accepted
returns-clause-accepted c = λ list is within. accepted_back (laws c) list (record { is = is; within = within })

pub returns-clause-list : goal.returns-clause-list
returns-clause-list c = λ list is within. list_is_back (laws c) list (record { is = is; within = within })
