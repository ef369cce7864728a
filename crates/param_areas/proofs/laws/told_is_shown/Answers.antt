use Rattle.std.proofs.Common.{◌∙◌, sym}
use Rattle.param_areas.proofs.Histories.{declare_told, lent_told, set_told, take_told}
use Rattle.param_areas.proofs.ByCalls.{open_shown, size_shown, new_shown, count_shown, sizes_shown}
use Rattle.param_areas.proofs.laws.told_is_shown.Goals as goal

pub returns-clause-open : goal.returns-clause-open
returns-clause-open c =
    λ space told area shows. (λ is. sym (open_shown space told area shows) ∙ is, λ is. open_shown space told area shows ∙ is)

pub returns-clause-size : goal.returns-clause-size
returns-clause-size c = size_shown

pub returns-clause-new : goal.returns-clause-new
returns-clause-new c = new_shown

pub returns-clause-count : goal.returns-clause-count
returns-clause-count c = count_shown

pub returns-clause-all : goal.returns-clause-all
returns-clause-all c = sizes_shown

pub returns-clause-page : goal.returns-clause-page
returns-clause-page c =
    λ space told area k j shows within few. lent_told space told area k j within shows few

pub returns-clause-declare : goal.returns-clause-declare
returns-clause-declare c = declare_told

pub returns-clause-set : goal.returns-clause-set
returns-clause-set c = λ space told area place value shows fits. set_told space told area place value fits shows

pub returns-clause-take : goal.returns-clause-take
returns-clause-take c = take_told
