-- One individual more.
use Rattle.std.proofs.Common.{◌+◌, length, ap, subst, sym, ◌∙◌, arith}
use Rattle.std.proofs.lemmas.List.{length-set}
use Rattle.tv_eval.specs.AssignmentForm.{assignment_of}
use Rattle.tv_coerce.proofs.Reading.{ReadUpTo, read-more}
use Rattle.tv_coerce.proofs.places.Along.read_each.Goals as goal

pub loop-i-preserved : goal.loop-i-preserved
loop-i-preserved c =
    let s = c.args.self.now.trial.now.structure.now
    in let a = assignment_of c.args.self.now.a.now
    in let i = c.in-Some.i
    in let k = c.value_with-k.result
    in (
      c.value_with-k.ensures.same ∙ c.loop-i.invariant.0,
      (ap length c.with-values.ensures ∙ length-set c.loop-i.values i k) ∙ c.loop-i.invariant.1,
      omega (arith, c.in-Some.ensures.1),
      λ m at. subst (λ ws. ReadUpTo s a c.args.self.now.span.v.0 c.args.self.now.span.chunk m.form c.args.word ws (i
          + 1)) (sym c.with-values.ensures)
          (read-more s a c.args.self.now.span.v.0 c.args.self.now.span.chunk m.form c.args.word c.loop-i.values
          c.loop-i.from i k (c.loop-i.invariant.3 m at)
          c.loop-i.invariant.1 c.in-Some.ensures.1 c.in-Some.ensures.3 (c.value_with-k.ensures.exact m at)),
    )
