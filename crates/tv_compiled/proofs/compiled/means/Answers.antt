use Rattle.std.proofs.Common.{◌≡◌, ◌↔◌, Ok, subst, sym}
use Rattle.std.specs.Prelude.{IsTrue, IfOk, IfErr}
use Rattle.tv_texts.specs.Meaning.{MeansProgram}
use Rattle.tv_compiled.specs.declared.error.CompiledError.TheVariants.{Memory}
use Rattle.tv_compiled.proofs.Meanings.{same_means, refused_value, refused_fault}
use Rattle.tv_compiled.proofs.compiled.means.Goals as goal

pub returns-in-Ok-clause-value : goal.returns-in-Ok-clause-value
returns-in-Ok-clause-value c =
    let same = same_means c.args.text.now (c.one_meaning_each.ensures.program c.args.text.now) c.in-Ok.read
    c.args.program.now c.in-Ok.ensures.means in
    ((λ yes. same.0 (c.is_same_program.ensures.0 yes)), (λ means. c.is_same_program.ensures.1 (same.1 means)))

pub returns-in-Err : goal.returns-in-Err
returns-in-Err c = record {
  value = subst (λ r. IfOk r (λ yes. IsTrue yes ↔ MeansProgram c.args.text.now (Ok c.args.program.now)))
      (sym c.refused.ensures)
      (refused_value c.args.text.now (c.one_meaning_each.ensures.program c.args.text.now) c.in-Err.fault
      c.args.program.now c.in-Err.ensures.cause);
  fault = subst (λ r. IfErr r (λ e. e ≡ Memory)) (sym c.refused.ensures) (refused_fault c.in-Err.fault);
}
