-- What values of the program's types say.
use Rattle.std.specs.Prelude.{ℕ, List, Option, Some, None, map}
use Rattle.std.specs.Borrow.{Bor}
use Rattle.tv_lex.specs.Token.{SpecToken, spec_tokens}
use Rattle.tv_lex.specs.declared.token.Token.{Token}
use Rattle.tv_trace.specs.declared.syntax.StepText.{StepText}
use Rattle.tv_trace.specs.Reading.{StepMark}

abbrev pub values_mark : List ℕ → Option (Bor (List Token)) → Option (List SpecToken)
values_mark bytes None = None
values_mark bytes (Some tokens) = Some (spec_tokens bytes tokens.now)

abbrev pub step_mark : List ℕ → StepText → StepMark
step_mark bytes step = record { edge = step.edge; picks = step.picks; values = values_mark bytes step.values }

abbrev pub step_marks : List ℕ → List StepText → List StepMark
step_marks bytes steps = map (step_mark bytes) steps
