use Rattle.std.proofs.Common.{ℕ, ◌↔◌, List, IsTrue, subst}
use Rattle.tv_model.specs.Truth.{Assignment}
use Rattle.tv_concrete.specs.Assignments.{IsTrueFrom}
use Rattle.tv_concrete.specs.Lists.{assignment_of}
use Rattle.tv_concrete.proofs.Lists.{first-and-rest}
use Rattle.tv_concrete.proofs.rules.+meets.Goals as goal

pub meets_for_each-returns-in-len1-up : goal.meets_for_each-returns-in-len1-up
meets_for_each-returns-in-len1-up t c =
    let P : List ℕ → Type 0 = λ vars. IsTrue c.meets_for_each_of.result
    ↔ IsTrueFrom c.args.trial.now vars (assignment_of c.args.values)
    in subst P (first-and-rest c.args.vars.now c.in-len1-up.len_at_least) c.meets_for_each_of.ensures

pub meets_with-returns : goal.meets_with-returns
meets_with-returns t c =
    let P : Assignment → Type 0 = λ a. IsTrue c.meets_for_each.result ↔ IsTrueFrom c.args.trial.now c.args.rest.now a
    in subst P c.with.ensures c.meets_for_each.ensures
