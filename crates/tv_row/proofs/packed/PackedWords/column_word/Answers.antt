use Rattle.std.proofs.Common.{◌∙◌, ◌≡◌, ◌+◌, ◌-◌, ◌*◌, length, get_or, ap, sym, arith, ⊎_elim}
use Rattle.std.proofs.lemmas.Bool.{cases_eq}
use Rattle.tv_kleene.specs.declared.K3.TheVariants.{No}
use Rattle.tv_row.specs.Places.{value_in}
use Rattle.tv_row.proofs.RowOps.{no_word}
use Rattle.tv_row.proofs.packed.PackedWords.column_word.Goals as goal

pub loop-u-init : goal.loop-u-init
loop-u-init c = (ap length c.of-word.ensures ∙ no_word, λ v lt. absurd (omega arith))

pub loop-u-preserved : goal.loop-u-preserved
loop-u-preserved c = (
  c.pushed_cell-word.ensures.long,
  λ v lt.
      ⊎_elim
      (λ here.
      let at : 64 - (c.loop-u.u + 1) + v ≡ 63 = omega arith
      in ap (λ n. get_or c.pushed_cell-word.result n No) at ∙ c.pushed_cell-word.ensures.last
      ∙ sym (ap (λ n. value_in c.args.self.now.words (c.args.start + n * c.args.width) c.args.column) here))
      (λ other.
      let at : 1 + (64 - (c.loop-u.u + 1) + v) ≡ 64 - c.loop-u.u + v = omega arith
      in c.pushed_cell-word.ensures.moved (64 - (c.loop-u.u + 1) + v) (omega arith) ∙ ap (λ n. get_or c.loop-u.word n No) at
      ∙ c.loop-u.invariant.1 v (omega arith))
      (cases_eq v c.loop-u.u),
)

pub returns-clause-values : goal.returns-clause-values
returns-clause-values c = λ v lt.
    let at : 64 - c.args.rows + v ≡ 64 - c.loop-u.u + v = omega arith
    in c.from.ensures.values v (omega arith) ∙ ap (λ n. get_or c.loop-u.word n No) at ∙ c.loop-u.invariant.1 v (omega arith)
