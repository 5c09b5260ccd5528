-- Programs are read as the grammar says.
use Rattle.std.proofs.Common.{◌≡◌, List, Some, None, sym, ◌∙◌}
use Rattle.std.proofs.lemmas.Option.{same_Some}
use Rattle.tv_lex.specs.Token.{SpecToken}
use Rattle.tv_tree.specs.Forms.{ProgramForm}
use Rattle.tv_formula.specs.Grammar.{Whole}
use Rattle.tv_formula.proofs.FormulaLaws.{formula_is_read, read_is_formula}
use Rattle.tv_formula.proofs.Complete.{shorter}
use Rattle.tv_parse.specs.Grammar.{IsProgram}
use Rattle.tv_parse.specs.Reading.{program_reading}
use Rattle.tv_parse.proofs.GrammarLaws.{program_sound}
use Rattle.tv_parse.proofs.GrammarRead.{program_read}

pub read_is_program : (ts : List SpecToken) (t : ProgramForm) → program_reading ts ≡ Some t → IsProgram ts t
read_is_program ts t e = program_sound read_is_formula ts t e

pub program_is_read : (ts : List SpecToken) (t : ProgramForm) → IsProgram ts t → program_reading ts ≡ Some t
program_is_read ts t h = program_read formula_is_read (λ vs us f i. shorter Whole vs us f i) ts t h

pub unread_is_none : (ts : List SpecToken) → program_reading ts ≡ None → (t : ProgramForm) → ¬ IsProgram ts t
unread_is_none ts none t h = let e : None ≡ Some t = sym none ∙ program_is_read ts t h in absurd cc

pub one_tree : (ts : List SpecToken) (t u : ProgramForm) → IsProgram ts t → IsProgram ts u → t ≡ u
one_tree ts t u a b = same_Some t u (sym (program_is_read ts t a) ∙ program_is_read ts u b)
