use Rattle.std.proofs.Common.{Some, arith, subst}
use Rattle.tv_rules.specs.EntryForms.{rules_of}
use Rattle.tv_step.specs.Changed.{IsFew}
use Rattle.tv_step.specs.Setting.{form_in}
use Rattle.tv_step.proofs.Redefining.{few-still}
use Rattle.tv_step.proofs.changed.waiting_in.Goals as goal

pub returns-in-Some : goal.returns-in-Some
returns-in-Some c =
    let p = form_in c.args.x.now
    in let rules = rules_of c.args.x.now.closed.now
    in let few : IsFew p rules c.args.s.now (Some c.in-Some.set)
    = subst (IsFew p rules c.args.s.now) c.in-Some.is c.in_ok-waiting_by_changes.ensures
    in few-still p rules c.args.s.now c.args.parent.now.redefined c.in-Some.set c.remove_met.new.set few c.requires.met
    c.remove_met.ensures

pub remove_met-requires : goal.remove_met-requires
remove_met-requires c =
    let p = form_in c.args.x.now
    in let rules = rules_of c.args.x.now.closed.now
    in let few : IsFew p rules c.args.s.now (Some c.in-Some.set)
    = subst (IsFew p rules c.args.s.now) c.in-Some.is c.in_ok-waiting_by_changes.ensures
    in λ n of. omega (arith, few.0, (c.requires.met n of).0)
