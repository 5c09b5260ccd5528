use Rattle.std.proofs.Common.{◌∙◌, ⊎_elim, sym, subst, arith}
use Rattle.std.proofs.lemmas.Bool.{cases_eq}
use Rattle.tv_model.specs.Form.{form_of, IsFree}
use Rattle.tv_quantifiers.proofs.parts.lone.Goals.{then-free+else-found-ne32, else-free}
use Rattle.tv_quantifiers.proofs.parts.lone.Goals as goal

pub loop-v-preserved : goal.loop-v-preserved
loop-v-preserved c = elim c.if-free.branch [
  | then-free+else-found-ne32 h ↦ λ w lt free. ⊎_elim
      (λ e. e ∙ sym h.found-is)
      (λ ne. absurd (omega (arith, c.loop-v.invariant w (omega arith) free, h.if-found-ne32.false)))
      (cases_eq w c.loop-v.v)
  | else-free h ↦ λ w lt free. ⊎_elim
      (λ e. absurd (cc (c.free.ensures.1 (subst (λ n. IsFree n (form_of c.args.f.now)) e free), h.if-free.false)))
      (λ ne. c.loop-v.invariant w (omega arith) free ∙ sym h.found-is)
      (cases_eq w c.loop-v.v)
]

pub returns : goal.returns
returns c = λ v lt free. c.loop-v.invariant v (omega arith) free
