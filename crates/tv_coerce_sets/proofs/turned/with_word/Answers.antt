use Rattle.std.proofs.Common.{get_or, subst}
use Rattle.tv_kleene.specs.declared.K3.TheVariants.{No}
use Rattle.tv_coerce_sets.specs.Turned.{Tells}
use Rattle.tv_coerce_sets.proofs.Turning.{tells-same}
use Rattle.tv_coerce_sets.proofs.turned.with_word.Goals as goal

pub returns-then-are_equal-clause-here : goal.returns-then-are_equal-clause-here
returns-then-are_equal-clause-here c = λ i lt.
    subst (λ word. Tells c.args.turned (get_or c.args.before i No) (get_or word i No))
    (c.are_equal.ensures c.if-are_equal.true) (tells-same c.args.turned (get_or c.args.before i No))
