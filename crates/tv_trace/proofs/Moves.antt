-- Steps to moves.
use Rattle.std.proofs.Common.{◌≡◌, ℕ, ◌<◌, true, List, [], ◌∷◌, ◌++◌, length, Option, Some, None, Result, Ok}
use Rattle.std.proofs.Common.{Err, refl, sym, ap, ◌∙◌, subst, inl, inr}
use Rattle.std.specs.Iterator.{Yields}
use Rattle.std.specs.Prelude.{nat_lt}
use Rattle.std.specs.Result.{result_ok}
use Rattle.std.proofs.lemmas.Bool.{ltb-true, lt-ltb}
use Rattle.std.proofs.lemmas.Option.{same_Some}
use Rattle.tv_lex.specs.Token.{SpecToken, HaveOneMeaning}
use Rattle.tv_model.specs.declared.program.Program.{Program}
use Rattle.tv_model.specs.declared.program.Vocab.{Vocab}
use Rattle.tv_phrases.specs.Reading.{taken, ◌>>=◌, Told}
use Rattle.tv_phrases.specs.declared.error.PhraseError.{PhraseError}
use Rattle.tv_phrases.specs.declared.error.PhraseError.TheVariants.{Unexpected, Memory}
use Rattle.tv_phrases.proofs.Values.{bind_some, tested}
use Rattle.tv_structure_form.specs.StructureForm.{StructureForm}
use Rattle.tv_tvs.specs.Meaning.{struct_meant}
use Rattle.tv_tvs.specs.Grammar.{IsStruct}
use Rattle.tv_tvs.specs.Reading.{structure_at}
use Rattle.tv_tvs.specs.Tree.{StructTree}
use Rattle.tv_tvs.specs.declared.error.TvsError.{TvsError}
use Rattle.tv_tvs.proofs.Complete.{struct_complete}
use Rattle.tv_trace.specs.Meaning.{AreMeant, IsMove, AreMoves, MeansTrace, IsNoTrace}
use Rattle.tv_trace.specs.Reading.{StepMark, structure_meant, values_meant, move_meant, moves_meant, trace_at}
use Rattle.tv_trace.specs.Tree.{StepTree}
use Rattle.tv_trace.specs.declared.trace.Move.{Move}
use Rattle.tv_trace.specs.declared.trace.Trace.{Trace}
use Rattle.tv_trace.proofs.Marks.{IsMarked, AreMarked, MarksValues}
use Rattle.tv_trace.proofs.Traces.{trace_sound, trace_read, one_trace}

-- ---- lists of moves

module _ (program : Program) (vocab : Vocab) where
  pub meant_nil : moves_meant program vocab [] ≡ Some []
  unfolding moves_meant
  meant_nil = refl

  meant_cons : (m : StepMark) (marks : List StepMark)
      → moves_meant program vocab (m ∷ marks) ≡ (move_meant program vocab m >>= λ move. moves_meant program vocab marks >>= λ moves. Some (move ∷ moves))
  unfolding moves_meant
  meant_cons m marks = refl

  pub moves_more : (before : List StepMark) (m : StepMark) (moves : List Move) (move : Move) → moves_meant program vocab before ≡ Some moves
      → move_meant program vocab m ≡ Some move → moves_meant program vocab (before ++ m ∷ []) ≡ Some (moves ++ move ∷ [])
  moves_more [] m moves move so_far is =
      let none : [] ≡ moves = same_Some [] moves (sym meant_nil ∙ so_far)
      in meant_cons m [] ∙ rw (is, meant_nil) (ap (λ ms. Some (ms ++ move ∷ [])) none)
  moves_more (b ∷ before) m moves move so_far is =
      let a = bind_some (move_meant program vocab b) _ moves (sym (meant_cons b before) ∙ so_far)
      in let c = bind_some (moves_meant program vocab before) _ moves a.2
      in let others = moves_more before m c.0 move c.1 is
      in meant_cons b (before ++ m ∷ []) ∙ rw (a.1, others) (ap (λ ms. Some (ms ++ move ∷ [])) (same_Some (a.0 ∷ c.0) moves c.2))

  pub moves_break : (before after : List StepMark) (m : StepMark) → move_meant program vocab m ≡ None → moves_meant program vocab (before ++ m ∷ after) ≡ None
  moves_break [] after m none = meant_cons m after ∙ rw none refl
  moves_break (b ∷ before) after m none = meant_cons b (before ++ m ∷ after) ∙ none_behind (move_meant program vocab b) (moves_break before after m none)
    where
      none_behind : (o : Option Move) → moves_meant program vocab (before ++ m ∷ after) ≡ None
          → (o >>= λ move. moves_meant program vocab (before ++ m ∷ after) >>= λ moves. Some (move ∷ moves)) ≡ None
      none_behind None e = refl
      none_behind (Some x) e = rw e refl

-- ---- what marks mean, and what steps mean

structure_found : (vocab : Vocab) (ts rest : List SpecToken) (t : StructTree) → IsStruct ts t rest
    → structure_meant vocab ts ≡ result_ok (struct_meant vocab.preds t)
unfolding structure_meant structure_at
structure_found vocab ts rest t is = rw (struct_complete ts t rest is) (at (struct_meant vocab.preds t))
  where
    at : (m : Result StructureForm TvsError) → ((result_ok m >>= λ s. taken s rest) >>= λ x. Some x.0) ≡ result_ok m
    at (Ok s) = refl
    at (Err e) = refl

ok_meant : (m : Result StructureForm TvsError) (s : StructureForm) → result_ok m ≡ Some s → m ≡ Ok s
ok_meant (Ok x) s e = ap Ok (same_Some x s e)
ok_meant (Err x) s e = absurd cc

values_none : (vocab : Vocab) → values_meant vocab None ≡ Some None
unfolding values_meant
values_none vocab = refl

values_some : (vocab : Vocab) (ts : List SpecToken) → values_meant vocab (Some ts) ≡ (structure_meant vocab ts >>= λ s. Some (Some s))
unfolding values_meant
values_some vocab ts = refl

none_some : (A B : Type 0) (x : A) → None ≡ Some x → B
none_some A B x e = absurd cc

-- what a mark means is what its step means
values_agree : (vocab : Vocab) (m : Option (List SpecToken)) (t : Option StructTree) (v : Option StructureForm) → MarksValues m t
    → values_meant vocab m ≡ Some v → AreMeant vocab t v
values_agree vocab None None v marks is = at v (same_Some None v (sym (values_none vocab) ∙ is))
  where
    at : (v : Option StructureForm) → None ≡ v → AreMeant vocab None v
    at None e = tt
    at (Some s) e = none_some StructureForm _ s e
values_agree vocab None (Some t) v marks is = elim marks [ ]
values_agree vocab (Some ts) None v marks is = elim marks [ ]
values_agree vocab (Some ts) (Some t) v marks is =
    let a = bind_some (structure_meant vocab ts) _ v (sym (values_some vocab ts) ∙ is)
    in let meant : struct_meant vocab.preds t ≡ Ok a.0
    = ok_meant (struct_meant vocab.preds t) a.0 (sym (structure_found vocab ts marks.0 t marks.1) ∙ a.1)
    in subst (AreMeant vocab (Some t)) (same_Some (Some a.0) v a.2) meant

values_back : (vocab : Vocab) (m : Option (List SpecToken)) (t : Option StructTree) (v : Option StructureForm) → MarksValues m t
    → AreMeant vocab t v → values_meant vocab m ≡ Some v
values_back vocab None None None marks meant = values_none vocab
values_back vocab None None (Some s) marks meant = elim meant [ ]
values_back vocab None (Some t) v marks meant = elim marks [ ]
values_back vocab (Some ts) None v marks meant = elim marks [ ]
values_back vocab (Some ts) (Some t) None marks meant = elim meant [ ]
values_back vocab (Some ts) (Some t) (Some s) marks meant =
    let found : structure_meant vocab ts ≡ Some s = structure_found vocab ts marks.0 t marks.1 ∙ ap result_ok meant
    in values_some vocab ts ∙ rw found refl

abbrev move_with : ℕ → List ℕ → Option StructureForm → Move
move_with edge picks values = record { edge = edge; picks = picks; values = values }

pub move_agrees : (program : Program) (m : StepMark) (t : StepTree) (move : Move) → IsMarked m t → move_meant program program.vocab m ≡ Some move
    → IsMove program t move
unfolding move_meant
move_agrees program m t move marked is =
    elim (tested (nat_lt m.edge (length program.edges)) (values_meant program.vocab m.values >>= λ v. Some (move_with m.edge m.picks v)) None (Some move) is) [
      | inl h ↦
          let a = bind_some (values_meant program.vocab m.values) _ move h.1
          in let same : move_with m.edge m.picks a.0 ≡ move = same_Some (move_with m.edge m.picks a.0) move a.2
          in subst (IsMove program t) same
          (record {
            known = subst (λ n. n < length program.edges) marked.edge (ltb-true m.edge (length program.edges) h.0);
            edge = marked.edge;
            picks = marked.picks;
            values = values_agree program.vocab m.values t.values a.0 marked.values a.1;
          })
      | inr h ↦ none_some Move _ move h.1
    ]

move_back : (program : Program) (m : StepMark) (t : StepTree) (move : Move) → IsMarked m t → IsMove program t move
    → move_meant program program.vocab m ≡ Some move
unfolding move_meant
move_back program m t move marked is =
    let known : nat_lt m.edge (length program.edges) ≡ true
    = lt-ltb m.edge (length program.edges) (subst (λ n. n < length program.edges) (sym marked.edge) is.known)
    in let values : values_meant program.vocab m.values ≡ Some move.values
    = values_back program.vocab m.values t.values move.values marked.values is.values
    in let edge : m.edge ≡ move.edge = marked.edge ∙ sym is.edge
    in let picks : m.picks ≡ move.picks = marked.picks ∙ sym is.picks
    in rw (known, values) (ap (λ n. Some (move_with n m.picks move.values)) edge ∙ ap (λ ns. Some (move_with move.edge ns move.values)) picks)

moves_agree : (program : Program) (marks : List StepMark) (steps : List StepTree) (moves : List Move) → AreMarked marks steps
    → moves_meant program program.vocab marks ≡ Some moves → AreMoves program steps moves
moves_agree program [] [] [] marked is = tt
moves_agree program [] [] (move ∷ moves) marked is = absurd (apart (sym (meant_nil program program.vocab) ∙ is))
  where
    apart : Some [] ≡ Some (move ∷ moves) → ⊥
    apart e = cc
moves_agree program [] (t ∷ steps) moves marked is = elim marked [ ]
moves_agree program (m ∷ marks) [] moves marked is = elim marked [ ]
moves_agree program (m ∷ marks) (t ∷ steps) moves marked is =
    let a = bind_some (move_meant program program.vocab m) _ moves (sym (meant_cons program program.vocab m marks) ∙ is)
    in let b = bind_some (moves_meant program program.vocab marks) _ moves a.2
    in subst (AreMoves program (t ∷ steps)) (same_Some (a.0 ∷ b.0) moves b.2)
    (move_agrees program m t a.0 marked.0 a.1, moves_agree program marks steps b.0 marked.1 b.1)

moves_back : (program : Program) (marks : List StepMark) (steps : List StepTree) (moves : List Move) → AreMarked marks steps
    → AreMoves program steps moves → moves_meant program program.vocab marks ≡ Some moves
moves_back program [] [] [] marked are = meant_nil program program.vocab
moves_back program [] [] (move ∷ moves) marked are = elim are [ ]
moves_back program [] (t ∷ steps) moves marked are = elim marked [ ]
moves_back program (m ∷ marks) [] moves marked are = elim marked [ ]
moves_back program (m ∷ marks) (t ∷ steps) [] marked are = elim are [ ]
moves_back program (m ∷ marks) (t ∷ steps) (move ∷ moves) marked are =
    meant_cons program program.vocab m marks
    ∙ rw (move_back program m t move marked.0 are.0, moves_back program marks steps moves marked.1 are.1) refl

-- ---- traces

pub trace_meant : (program : Program) (ts : List SpecToken) (marks : List StepMark) (trace : Trace) → trace_at ts ≡ Some marks
    → moves_meant program program.vocab marks ≡ Some trace.moves → MeansTrace program ts trace
trace_meant program ts marks trace is meant =
    let found = trace_sound ts marks is
    in record { steps = found.0; are = found.1; moves = moves_agree program marks found.0 trace.moves found.2 meant }

pub no_trace : (program : Program) (ts : List SpecToken) → trace_at ts ≡ None → IsNoTrace program ts
no_trace program ts none trace means =
    let read = trace_read ts means.steps means.are
    in none_some (List StepMark) ⊥ read.0 (sym none ∙ read.1)

pub no_moves : (program : Program) (ts : List SpecToken) (marks : List StepMark) → trace_at ts ≡ Some marks
    → moves_meant program program.vocab marks ≡ None → IsNoTrace program ts
no_moves program ts marks is none trace means =
    let read = trace_read ts means.steps means.are
    in let same : read.0 ≡ marks = same_Some read.0 marks (sym read.1 ∙ is)
    in let marked : AreMarked marks means.steps = subst (λ ms. AreMarked ms means.steps) same read.2
    in none_some (List Move) ⊥ trace.moves (sym none ∙ moves_back program marks means.steps trace.moves marked means.moves)

pub one_meaning : (program : Program) → HaveOneMeaning (MeansTrace program)
one_meaning program tokens a b left right =
    let read = trace_read tokens left.steps left.are
    in let same : left.steps ≡ right.steps = one_trace tokens left.steps right.steps left.are right.are
    in let marked : AreMarked read.0 right.steps = subst (AreMarked read.0) same read.2
    in let first = moves_back program read.0 left.steps a.moves read.2 left.moves
    in let second = moves_back program read.0 right.steps b.moves marked right.moves
    in ap (λ (ms : List Move). record { moves = ms }) (same_Some a.moves b.moves (sym first ∙ second))
