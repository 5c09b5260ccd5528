use Rattle.std.proofs.Common.{◌∙◌, refl, sym}
use Rattle.std.proofs.lemmas.Bool.{false≢true}
use Rattle.tv_row.proofs.Compare.{rows_exact, rows_tie}
use Rattle.tv_row.proofs.row.Row.equals.Goals as goal

pub returns-in-Equal : goal.returns-in-Equal
returns-in-Equal c = (λ t. rows_exact c.args.self.now c.args.other.now (sym c.compare.ensures ∙ c.in-Equal.is), λ same. refl)

pub returns-in_default : goal.returns-in_default
returns-in_default c = (
  λ t. absurd (false≢true t),
  λ same. absurd (c.in_default.not-Equal (c.compare.ensures ∙ rows_tie c.args.self.now c.args.other.now same)),
)
