use Rattle.std.proofs.Common.{List, subst}
use Rattle.tv_kleene.specs.declared.K3.{K3}
use Rattle.tv_join.specs.Values.{AreValuesAsBefore}
use Rattle.tv_join.proofs.Keeping.{put-here, put-others}
use Rattle.tv_join.proofs.values.ValuesByPlace.put.Goals as goal

pub returns-clause-here : goal.returns-clause-here
returns-clause-here c =
    put-here c.args.self.now c.reach.new.places.items c.args.place c.args.values
    (subst (λ (row : List (List K3)). AreValuesAsBefore row c.reach.new.places.items) c.self.view_is c.in_ok-reach.ensures.same)
    c.in_ok-reach.ensures.long

pub returns-clause-others : goal.returns-clause-others
returns-clause-others c =
    put-others c.args.self.now c.reach.new.places.items c.args.place c.args.values
    (subst (λ (row : List (List K3)). AreValuesAsBefore row c.reach.new.places.items) c.self.view_is c.in_ok-reach.ensures.same)
    c.in_ok-reach.ensures.long
