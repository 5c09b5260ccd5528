use Rattle.std.proofs.Common.{◌≡◌, ◌↔◌, Ok, subst, sym}
use Rattle.std.specs.Prelude.{IsTrue, IfOk, IfErr}
use Rattle.std.proofs.lemmas.Result.{IfOk-weaker}
use Rattle.tv_lex.specs.Token.{spec_tokens}
use Rattle.tv_tvs.specs.Meaning.{MeansStructs}
use Rattle.tv_complete_text.specs.Text.{ReadsAsStructures}
use Rattle.tv_complete_text.specs.declared.error.CompletionError.TheVariants.{Memory}
use Rattle.tv_complete_text.proofs.Comparing.{read-text, unlexed-value, unlexed-fault}
use Rattle.tv_complete_text.proofs.read_again.is_read_as.Goals as goal

pub returns-in-Ok-clause-value : goal.returns-in-Ok-clause-value
returns-in-Ok-clause-value c =
    let same = read-text c.one_reading.ensures c.args.vocab.now c.args.text.now c.args.structures.now
    c.in-Ok.tokens.list.items
    c.in-Ok.ensures.tokens
    in IfOk-weaker c.are_tokens_of.result
    (λ yes. IsTrue yes ↔ MeansStructs c.args.vocab.now (spec_tokens c.args.text.now c.in-Ok.tokens.list.items)
    (Ok c.args.structures.now))
    (λ yes. IsTrue yes ↔ ReadsAsStructures c.args.vocab.now c.args.text.now c.args.structures.now)
    (λ yes is. (λ true. same.0 (is.0 true), λ read. is.1 (same.1 read))) c.are_tokens_of.ensures.value

pub returns-in-Err : goal.returns-in-Err
returns-in-Err c = record {
  value = subst (λ r. IfOk r (λ yes. IsTrue yes ↔ ReadsAsStructures c.args.vocab.now c.args.text.now
      c.args.structures.now))
      (sym c.unlexed.ensures)
      (unlexed-value c.one_reading.ensures c.args.vocab.now c.args.text.now c.args.structures.now c.in-Err.error
      c.in-Err.ensures.fault);
  fault = subst (λ r. IfErr r (λ e. e ≡ Memory)) (sym c.unlexed.ensures) (unlexed-fault c.in-Err.error);
}
