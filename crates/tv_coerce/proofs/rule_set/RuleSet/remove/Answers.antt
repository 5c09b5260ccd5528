use Rattle.std.proofs.Common.{◌≡◌, false, slice_set, subst}
use Rattle.tv_coerce.proofs.SetLaws.{one_gone}
use Rattle.tv_coerce.proofs.rule_set.RuleSet.remove.Goals as goal

pub returns : goal.returns
returns c =
    one_gone c.args.number c.args.self.now c.put.new.self c.requires
    (subst (λ flags. c.put.new.self ≡ slice_set flags c.args.number false) c.self.view_is c.put.ensures)
