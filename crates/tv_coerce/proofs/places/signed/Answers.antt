use Rattle.std.proofs.Common.{ap, min, subst, sym, ◌∙◌, ◌-◌, ◌*◌}
use Rattle.tv_kleene.specs.Kleene.{negation_of}
use Rattle.tv_eval.specs.Along.{IsWordOf}
use Rattle.tv_eval.proofs.AlongWords.{of-mapped}
use Rattle.tv_coerce.specs.Counting.{signed_value}
use Rattle.tv_coerce.proofs.places.signed.Goals as goal

pub returns-else-flag : goal.returns-else-flag
returns-else-flag c = λ g along.
    subst (λ flag. IsWordOf c.args.s.now.size c.args.chunk (λ u. signed_value flag (g u)) c.not.result) (sym c.if-flag.false)
    (of-mapped c.args.s.now.size c.args.chunk c.places.result negation_of g c.args.word c.not.result along
    (c.places.ensures.value ∙ ap (λ n. min 64 (n - 64 * c.args.chunk)) c.size.ensures.size) c.not.ensures)
