use Rattle.std.proofs.Common.{◌≡◌, ◌<◌, length, arith, below_more, ◌∙◌}
use Rattle.std.proofs.lemmas.Slice.Eq.{bytes_eq-Decides}
use Rattle.igvm_outside.specs.MemFiles.{name_at}
use Rattle.igvm_outside.proofs.Entries.{name_read, none_there}
use Rattle.igvm_outside.proofs.fakes.mem_files.index_of.Goals as goal

pub returns-then-eq : goal.returns-then-eq
returns-then-eq c =
    let below : c.files.at < length c.args.files.now = omega arith in
    let equal : c.as_slice.result.now ≡ c.as_bytes.result.now = grind (arith, bytes_eq-Decides) in
    let named : name_at c.args.files.now c.files.at ≡ c.args.name.now = name_read c.args.files.now c.files.at c.index-files-at.result below ∙ grind (arith, equal) in
    record { within = below; named = named; first = c.files.invariant }

pub files-preserved : goal.files-preserved
files-preserved c =
    let below : c.files.at < length c.args.files.now = omega arith in
    let read = name_read c.args.files.now c.files.at c.index-files-at.result below in
    below_more _ _ c.files.invariant (λ is.
    let equal : c.as_slice.result.now ≡ c.as_bytes.result.now = grind (arith, read, is) in
    let yes = (bytes_eq-Decides c.as_slice.result.now c.as_bytes.result.now).1 equal in
    cc yes)

pub returns : goal.returns
returns c = none_there c.args.files.now c.args.name.now (λ k below. c.files.invariant k (omega arith))
