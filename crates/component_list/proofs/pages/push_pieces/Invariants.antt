use Rattle.std.proofs.Common.{◌≡◌, ◌++◌}
use Rattle.std.specs.Rc.{rc_slice_items}
use Rattle.igvm_headers.specs.Pages.{page_bytes}
use Rattle.component_list.specs.Expansion.{page_parts, piece_of}
use Rattle.component_list.proofs.pages.push_pieces.Given as goal

abbrev pub invariant-pages : goal.invariant-pages
invariant-pages l = l.parts.items ≡ l.fn.parts.items ++ page_parts l.run (piece_of (page_bytes l.run.large) (rc_slice_items l.file)) l.k
