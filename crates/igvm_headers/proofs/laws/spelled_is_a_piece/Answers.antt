use Rattle.igvm_headers.proofs.Spelled.{piece_kind, piece_size, piece_content, piece_padding, padding-few, spelled_length, piece_behind}
use Rattle.igvm_headers.proofs.laws.spelled_is_a_piece.Goals as goal

pub returns-clause-kind : goal.returns-clause-kind
returns-clause-kind c = piece_kind

pub returns-clause-size : goal.returns-clause-size
returns-clause-size c = piece_size

pub returns-clause-content : goal.returns-clause-content
returns-clause-content c = piece_content

pub returns-clause-padding : goal.returns-clause-padding
returns-clause-padding c = piece_padding

pub returns-clause-least : goal.returns-clause-least
returns-clause-least c = padding-few

pub returns-clause-padded : goal.returns-clause-padded
returns-clause-padded c = spelled_length

pub returns-clause-behind : goal.returns-clause-behind
returns-clause-behind c = piece_behind
