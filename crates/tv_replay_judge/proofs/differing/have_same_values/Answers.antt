use Rattle.std.proofs.Common.{◌∙◌, ◌↔◌, IsTrue, length, sym, ap, subst}
use Rattle.tv_model.specs.Form.{vars_of}
use Rattle.tv_model.specs.declared.formula.Terms.{Terms}
use Rattle.tv_replay_judge.specs.Same.{HasSameValues}
use Rattle.tv_replay_judge.proofs.Compared.{same-unary}
use Rattle.tv_replay_judge.proofs.differing.have_same_values.Goals as goal

pub returns-in-One : goal.returns-in-One
returns-in-One c =
    let both = same-unary c.args.s.now c.args.t.now c.args.p.0 c.requires.size
    in subst (λ n. IsTrue c.equals.result ↔ HasSameValues c.args.s.now c.args.t.now c.args.p.0 n)
    (sym (ap (λ (vs : Terms). length (vars_of vs)) c.in-One.is)) (
      λ t. both.0 (sym c.unary_row.ensures ∙ c.equals.ensures.0 t ∙ c.unary_row-in-One.ensures),
      λ same. c.equals.ensures.1 (c.unary_row.ensures ∙ both.1 same ∙ sym c.unary_row-in-One.ensures),
    )
