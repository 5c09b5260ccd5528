-- The reader of traces, as functions on lists of tokens. Structures are passed over at first, and their
-- tokens kept. That the functions read what the grammar says is proved.
use Rattle.std.specs.Prelude.{ℕ, List, [], ◌∷◌, Option, Some, None, length, nat_lt, ◌==◌, if◌then◌else◌}
use Rattle.std.specs.Prelude.{codes}
use Rattle.tv_lex.specs.Token.{SpecToken}
use Rattle.tv_model.specs.declared.program.Program.{Program}
use Rattle.tv_model.specs.declared.program.Vocab.{Vocab}
use Rattle.tv_phrases.specs.Reading.{Reading, ◌>>=◌, choose}
use Rattle.tv_phrases.specs.Tokens.{after, first, number_item}
use Rattle.tv_phrases.specs.Lists.{optional_list}
use Rattle.tv_phrases.specs.Repeated.{begins_with, all_of}
use Rattle.tv_structure_form.specs.StructureForm.{StructureForm}
use Rattle.tv_tvs.specs.Reading.{struct_end, structure_at}
use Rattle.tv_trace.specs.declared.trace.Move.{Move}

-- a step whose structure wasn't read yet: the tokens from it on, if there is one
pub record StepMark : Type 0 where
  pub edge : ℕ
  pub picks : List ℕ
  pub values : Option (List SpecToken)

-- ---- the grammar

unfoldable pub closed_numbers_at : List SpecToken → Reading (List ℕ)
closed_numbers_at ts = do
  numbers ← optional_list number_item ts
  rest ← after (codes ")") numbers.1
  Some (numbers.0, rest)

unfoldable pub picks_at : List SpecToken → Reading (List ℕ)
picks_at ts = choose (after (codes "(") ts) (Some ([], ts)) closed_numbers_at

unfoldable pub passed_at : List SpecToken → Reading (Option (List SpecToken))
passed_at ts = struct_end ts >>= λ rest. Some (Some ts, rest)

unfoldable pub values_at : List SpecToken → Reading (Option (List SpecToken))
values_at ts = choose (after (codes "free") ts) (Some (None, ts)) passed_at

unfoldable pub step_at : List SpecToken → Reading StepMark
step_at ts = do
  us ← after (codes "step") ts
  edge ← first number_item us
  picks ← picks_at edge.1
  values ← values_at picks.1
  Some (record { edge = edge.0; picks = picks.0; values = values.0 }, values.1)

abbrev pub steps_at : List SpecToken → Reading (List StepMark)
steps_at ts = all_of (begins_with (codes "step")) step_at ts

-- all the tokens
unfoldable pub trace_at : List SpecToken → Option (List StepMark)
trace_at ts = steps_at ts >>= λ x. if length x.1 == 0 then Some x.0 else None

-- ---- the moves

unfoldable pub structure_meant : Vocab → List SpecToken → Option StructureForm
structure_meant vocab ts = structure_at vocab ts >>= λ x. Some x.0

unfoldable pub values_meant : Vocab → Option (List SpecToken) → Option (Option StructureForm)
values_meant vocab None = Some None
values_meant vocab (Some ts) = structure_meant vocab ts >>= λ s. Some (Some s)

unfoldable pub move_meant : Program → Vocab → StepMark → Option Move
move_meant program vocab m =
    if nat_lt m.edge (length program.edges)
    then (values_meant vocab m.values >>= λ values. Some
    (record { edge = m.edge; picks = m.picks; values = values })) else None

unfoldable pub moves_meant : Program → Vocab → List StepMark → Option (List Move)
moves_meant program vocab [] = Some []
moves_meant program vocab (m ∷ marks) =
    move_meant program vocab m >>= λ move. moves_meant program vocab marks >>= λ moves. Some (move ∷ moves)
