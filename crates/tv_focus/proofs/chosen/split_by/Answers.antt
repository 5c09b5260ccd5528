use Rattle.std.proofs.Common.{◌≡◌, ◌∙◌, ap}
use Rattle.std.proofs.lemmas.Result.{IfOk-weaker}
use Rattle.tv_structure_form.specs.StructureForm.{arities_of, split}
use Rattle.tv_focus.proofs.Whole.{whole_stays}
use Rattle.tv_focus.proofs.chosen.split_by.Goals as goal

pub returns-then-are_once-clause-value : goal.returns-then-are_once-clause-value
returns-then-are_once-clause-value c =
    IfOk-weaker c.copy.result (λ t. t ≡ c.args.s.now) (λ t. t ≡ split c.args.s.now c.args.parts.now)
    (λ t is. is ∙ whole_stays c.args.s.now c.args.parts.now c.size.ensures.kept c.requires.individuals
    (c.are_once.ensures c.if-are_once.true))
    c.copy.ensures.value

pub returns-then-are_once-clause-over : goal.returns-then-are_once-clause-over
returns-then-are_once-clause-over c =
    IfOk-weaker c.copy.result (λ t. t ≡ c.args.s.now) (λ t. arities_of t ≡ arities_of c.args.s.now)
    (λ t is. ap arities_of is) c.copy.ensures.value
