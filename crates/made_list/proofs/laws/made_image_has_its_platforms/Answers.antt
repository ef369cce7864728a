use Rattle.std.proofs.Common.{arith, ap}
use Rattle.std.specs.List.{slice_get}
use Rattle.made_list.specs.MadeList.{made_list}
use Rattle.made_list.proofs.ReadHeaders.{platforms_of_image}
use Rattle.made_list.proofs.Sizes.{made_size}
use Rattle.made_list.proofs.Valid.{made_list_is}
use Rattle.made_list.proofs.laws.made_image_has_its_platforms.Goals as goal

pub returns-clause-accepted : goal.returns-clause-accepted
returns-clause-accepted c = λ n some few.
    c.built_is_read_back.ensures.accepted (made_list n) (made_list_is n few) (omega (arith, made_size n few))

pub returns-clause-platforms : goal.returns-clause-platforms
returns-clause-platforms c = λ n some few.
    platforms_of_image (record { back = c.built_is_read_back.ensures.list; seen = c.offsets_do_not_count.ensures.seen }) n few

pub returns-clause-snp : goal.returns-clause-snp
returns-clause-snp c = λ n some few.
    ap (λ platforms. slice_get platforms 0)
    (platforms_of_image (record { back = c.built_is_read_back.ensures.list; seen = c.offsets_do_not_count.ensures.seen }) n few)

pub returns-clause-tdx : goal.returns-clause-tdx
returns-clause-tdx c = λ n some few.
    ap (λ platforms. slice_get platforms 1)
    (platforms_of_image (record { back = c.built_is_read_back.ensures.list; seen = c.offsets_do_not_count.ensures.seen }) n few)
