use Rattle.std.proofs.Common.{◌≡◌, ◌∙◌, ◌++◌, ◌∷◌, [], ap, subst}
use Rattle.std.specs.Prelude.{All}
use Rattle.std.specs.Prelude.{option_to_list}
use Rattle.tv_eval.specs.Formulas.{sizes_of}
use Rattle.tv_eval.proofs.Rooms.{front-sizes, last-size}
use Rattle.tv_eval.proofs.evaluator.Evaluator.take_room.Goals as goal

pub invariant_of-self : goal.invariant_of-self
invariant_of-self c = (
  c.self.invariant.0,
  front-sizes c.self.inside.size c.pop.new.self.items (option_to_list c.pop.result)
      (subst (λ xs. All (λ room. room ≡ c.self.inside.size) (sizes_of xs)) c.pop.ensures.items c.self.invariant.1),
)

pub returns-clause-size : goal.returns-clause-size
returns-clause-size c =
    last-size c.self.inside.size c.pop.new.self.items c.unwrap.result
    (subst (λ xs. All (λ room. room ≡ c.self.inside.size) (sizes_of xs))
    (c.pop.ensures.items ∙ ap (λ o. c.pop.new.self.items ++ option_to_list o) c.unwrap.ensures)
    c.self.invariant.1)
    ∙ ap (λ e. e.room.size) c.self.view_is
