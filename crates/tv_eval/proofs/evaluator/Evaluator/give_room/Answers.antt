use Rattle.std.proofs.Common.{◌≡◌, ◌∙◌, sym, ap, subst}
use Rattle.std.specs.Prelude.{All}
use Rattle.tv_eval.specs.Formulas.{sizes_of}
use Rattle.tv_eval.proofs.Rooms.{one-more-size}
use Rattle.tv_eval.proofs.evaluator.Evaluator.give_room.Goals as goal

pub invariant_of-self : goal.invariant_of-self
invariant_of-self c = (
  c.self.invariant.0,
  subst (λ xs. All (λ room. room ≡ c.self.inside.size) (sizes_of xs)) (sym c.push_reserved.ensures.items)
      (one-more-size c.self.inside.size c.self.inside.rooms.items c.args.room c.self.invariant.1
      (c.requires.size ∙ sym (ap (λ e. e.room.size) c.self.view_is))),
)
