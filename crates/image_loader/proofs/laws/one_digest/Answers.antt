use Rattle.image_loader.proofs.laws.one_digest.Goals as goal

pub returns : goal.returns
returns c = λ first second s t file platform options holds other.
    let one = holds.digest in
    let two = other.digest in
    cc
