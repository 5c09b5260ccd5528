-- What is written of moves is read as these moves.
use Rattle.std.proofs.Common.{ℕ, suc, ◌≡◌, ◌<◌, ◌^◌, ◌⊎◌, inl, inr, List, [], ◌∷◌, ◌++◌, length, map, Option}
use Rattle.std.proofs.Common.{Some, None}
use Rattle.std.proofs.Common.{Ok, true, false, refl, sym, ap, subst, ◌∙◌, append_assoc, arith}
use Rattle.std.specs.Prelude.{All, IfSome, codes, decimal}
use Rattle.std.specs.List.{AllByRecursion}
use Rattle.std.proofs.lemmas.List.{append-nil}
use Rattle.tv_lex.specs.Pieces.{Fits, Stands, joined_pieces}
use Rattle.tv_lex.specs.Front.{front}
use Rattle.tv_lex.specs.Token.{SpecToken, spec_tokens}
use Rattle.tv_lex.specs.declared.token.TokenKind.TheVariants as kind
use Rattle.tv_lex.proofs.PieceTokens.{Lexes, fits_as_taken, lexes_read, read_lexes}
use Rattle.tv_model.specs.declared.program.Program.{Program}
use Rattle.tv_model.specs.declared.program.Vocab.{Vocab}
use Rattle.tv_phrases.specs.Lists.{items_from, optional_list, with_front}
use Rattle.tv_phrases.specs.Reading.{taken}
use Rattle.tv_phrases.specs.Repeated.{begins_with}
use Rattle.tv_phrases.specs.Tokens.{after, first, number_item}
use Rattle.tv_phrases.proofs.Numerals.{number_written}
use Rattle.tv_report.proofs.WordTexts.{ended, number_first, number_word, spaced}
use Rattle.tv_structure_form.specs.StructureForm.{StructureForm, unmarked}
use Rattle.tv_trace.specs.Grammar.{ArePicks, AreValues, IsStep, IsTrace}
use Rattle.tv_trace.specs.Meaning.{AreMeant, AreMoves, MeansTrace}
use Rattle.tv_trace.specs.Tree.{StepTree}
use Rattle.tv_trace.specs.declared.trace.Move.{Move}
use Rattle.tv_tvs.specs.Canonical.{canonical_text, comma_text}
use Rattle.tv_tvs.specs.Laws.{IsWritable}
use Rattle.tv_tvs.specs.Meaning.{MeansStruct}
use Rattle.tv_tvs.specs.Targets.{IsRead}
use Rattle.tv_tvs.specs.Tree.{StructTree}
use Rattle.tv_tvs.proofs.LaidOut.{comma_items, comma_lexes, more_items, spell_word}
use Rattle.tv_tvs.proofs.Lexing.{Clear, mark, word, word_first, space_first, feed_first}
use Rattle.tv_tvs.proofs.RoundTrip as structures
use Rattle.tv_tvs.proofs.Valid.{valid_fits}
use Rattle.tv_trace_text.specs.Laws.{IsWrittenMove, TracesAreReadAgain}
use Rattle.tv_trace_text.specs.Text.{picks_text, move_text, trace_text, all_values_text}

-- ---- parentheses

mark_first : (bytes rest : List ℕ) (ts : List SpecToken) → Stands (Some kind.Punct) bytes rest
    → front (bytes ++ rest) ≡ Ok (record { kind = Some kind.Punct; len = length bytes }) → Lexes rest ts
    → Lexes (bytes ++ rest) (mark bytes ∷ ts)
mark_first bytes rest ts stands is l =
    let behind : rest ≡ joined_pieces l.pieces ++ [] = sym l.whole ∙ sym (append-nil (joined_pieces l.pieces))
    in record {
      pieces = record { kind = Some kind.Punct; bytes = bytes } ∷ l.pieces;
      fit = (
        subst (Fits (record { kind = Some kind.Punct; bytes = bytes })) behind
            (fits_as_taken (Some kind.Punct) bytes rest stands is),
        l.fit,
      );
      whole = ap (λ t. bytes ++ t) l.whole;
      are = ap (λ us. mark bytes ∷ us) l.are;
    }

open_first : (rest : List ℕ) (ts : List SpecToken) → Lexes rest ts → Lexes (40 ∷ rest) (mark (codes "(") ∷ ts)
unfolding front
open_first rest ts l = mark_first (40 ∷ []) rest ts (inr (inr (inr (inr (inr (inl refl)))))) refl l

close_first : (rest : List ℕ) (ts : List SpecToken) → Lexes rest ts → Lexes (41 ∷ rest) (mark (codes ")") ∷ ts)
unfolding front
close_first rest ts l = mark_first (41 ∷ []) rest ts (inr (inr (inr (inr (inr (inr (inl refl))))))) refl l

-- ---- what stands behind a step

-- nothing, or another step
abbrev Starts : List SpecToken → Type 0
Starts ts = (ts ≡ []) ⊎ ((inside : List SpecToken) × (ts ≡ word (codes "step") ∷ inside))

no_free : (ts : List SpecToken) → Starts ts → after (codes "free") ts ≡ None
unfolding after
no_free ts (inl e) = rw e refl
no_free ts (inr (inside, e)) = rw e refl

no_picks : (ts : List SpecToken) → Starts ts → after (codes "(") ts ≡ None
unfolding after
no_picks ts (inl e) = rw e refl
no_picks ts (inr (inside, e)) = rw e refl

-- ---- values

unmarked_same : (s : StructureForm) → s.fresh ≡ None → unmarked s ≡ s
unmarked_same s e =
    ap (λ f. record { size = s.size; summaries = s.summaries; planes = s.planes; fresh = f }) (sym e)

record Valued (vocab : Vocab) (values : Option StructureForm) (behind : List ℕ) (ts : List SpecToken) : Type 0 where
  tokens : List SpecToken
  lexes : Lexes (all_values_text vocab values ++ behind) tokens
  tree : Option StructTree
  are : AreValues tokens tree ts
  meant : AreMeant vocab tree values
  none_picked : after (codes "(") tokens ≡ None

structure_first : (vocab : Vocab) → IsWritable vocab → (s : StructureForm) → IsRead vocab s → (behind : List ℕ)
    (ts : List SpecToken) → Lexes behind ts
    → (us : List SpecToken) × Lexes (canonical_text vocab s ++ behind) us × MeansStruct vocab us ts (Ok (unmarked s))
structure_first vocab fits s is behind ts l =
    let read = lexes_read behind ts l
    in let again = (structures.read_again vocab s fits.vocabulary fits.spelled is.structure is.over).in_front
    behind read.0
    read.1
    in let us : List SpecToken = spec_tokens (canonical_text vocab s ++ behind) again.0
    in (
      us,
      read_lexes (canonical_text vocab s ++ behind) again.0 again.1,
      subst (λ vs. MeansStruct vocab us vs (Ok (unmarked s))) read.2 again.2,
    )

valued : (vocab : Vocab) → IsWritable vocab → (values : Option StructureForm)
    → ((s : StructureForm) → values ≡ Some s → IsRead vocab s) → (behind : List ℕ) (ts : List SpecToken) → Starts ts
    → Lexes behind ts → Valued vocab values behind ts
unfolding after
valued vocab fits None reads behind ts starts l = record {
  tokens = ts;
  lexes = l;
  tree = None;
  are = (no_free ts starts, refl);
  meant = tt;
  none_picked = no_picks ts starts;
}
valued vocab fits (Some s) reads behind ts starts l =
    let is = reads s refl
    in let one = structure_first vocab fits s is behind ts l
    in record {
      tokens = word (codes "free") ∷ one.0;
      lexes = ended (codes "free") (canonical_text vocab s ++ behind) one.0 (omega arith, refl) one.1;
      tree = Some one.2.tree;
      are = (one.0, refl, one.2.is);
      meant = one.2.meant ∙ ap Ok (unmarked_same s is.fresh);
      none_picked = refl;
    }

-- ---- picked individuals

abbrev IsShort : ℕ → Type 0
IsShort n = n < 2 ^ 32

by_recursion : (ns : List ℕ) → All IsShort ns → AllByRecursion IsShort ns
by_recursion [] all = tt
by_recursion (n ∷ ns) all =
    (all 0 n (omega arith), by_recursion ns (λ k d lt. all (suc k) d (omega (arith, lt))))

numbers_behind : (ns : List ℕ) → AllByRecursion IsShort ns → (ts : List SpecToken)
    → items_from number_item false (more_items (λ n. spell_word (decimal n)) ns ++ mark (codes ")") ∷ ts)
    ≡ taken ns (mark (codes ")") ∷ ts)
unfolding items_from with_front after
numbers_behind [] good ts = refl
numbers_behind (n ∷ ns) good ts = rw (number_written n good.0, numbers_behind ns good.1 ts) refl

numbers_are : (n : ℕ) (ns : List ℕ) → AllByRecursion IsShort (n ∷ ns) → (ts : List SpecToken)
    → optional_list number_item (comma_items (λ n. spell_word (decimal n)) (n ∷ ns) ++ mark (codes ")") ∷ ts)
    ≡ taken (n ∷ ns) (mark (codes ")") ∷ ts)
unfolding optional_list first items_from with_front
numbers_are n ns good ts = rw (number_written n good.0, numbers_behind ns good.1 ts) refl

record Picked (picks behind : List ℕ) (ts : List SpecToken) : Type 0 where
  tokens : List SpecToken
  lexes : Lexes (picks_text picks ++ 10 ∷ behind) tokens
  are : ArePicks tokens picks ts
  clear : Clear (picks_text picks ++ 10 ∷ behind)

picked : (picks : List ℕ) → AllByRecursion IsShort picks → (behind : List ℕ) (ts : List SpecToken)
    → after (codes "(") ts ≡ None → Lexes behind ts → Picked picks behind ts
unfolding after
picked [] short behind ts none l = record {
  tokens = ts;
  lexes = feed_first behind ts l;
  are = inl (none, refl, refl);
  clear = (refl, refl);
}
picked (u ∷ us) short behind ts none l =
    let ts_2 : List SpecToken = mark (codes ")") ∷ ts
    in let close : Lexes (41 ∷ 10 ∷ behind) ts_2 = close_first (10 ∷ behind) ts (feed_first behind ts l)
    in let ts_1 : List SpecToken = comma_items (λ n. spell_word (decimal n)) (u ∷ us) ++ ts_2
    in let text_1 : List ℕ = comma_text (map decimal (u ∷ us)) ++ 41 ∷ 10 ∷ behind
    in let numbers : Lexes text_1 ts_1
    = comma_lexes decimal (λ n. spell_word (decimal n)) IsShort
    (λ n small more vs is k. word_first (decimal n) more vs (number_word n small) is k) (u ∷ us) short
    (41 ∷ 10 ∷ behind)
    ts_2 (refl, refl) close
    in let whole = space_first (40 ∷ text_1) (mark (codes "(") ∷ ts_1) (open_first text_1 ts_1 numbers)
    in let text : picks_text (u ∷ us) ++ 10 ∷ behind ≡ 32 ∷ 40 ∷ text_1
    = ap (λ t. 32 ∷ 40 ∷ t) (append_assoc (comma_text (map decimal (u ∷ us))) (codes ")") (10 ∷ behind))
    in record {
      tokens = mark (codes "(") ∷ ts_1;
      lexes = subst (λ t. Lexes t (mark (codes "(") ∷ ts_1)) (sym text) whole;
      are = inr (ts_1, ts_2, refl, numbers_are u us short ts, refl);
      clear = subst Clear (sym text) (refl, refl);
    }

-- ---- steps

record Traced (program : Program) (moves : List Move) : Type 0 where
  tokens : List SpecToken
  lexes : Lexes (trace_text program.vocab moves) tokens
  steps : List StepTree
  are : IsTrace tokens steps
  meant : AreMoves program steps moves
  starts : Starts tokens

step_whole : (edge picks values rest : List ℕ)
    → (codes "step " ++ (edge ++ (picks ++ (codes "\n" ++ values)))) ++ rest
    ≡ codes "step " ++ (edge ++ (picks ++ 10 ∷ (values ++ rest)))
step_whole edge picks values rest =
    ap (λ t. codes "step " ++ t)
    (append_assoc edge (picks ++ (codes "\n" ++ values)) rest
    ∙ ap (λ t. edge ++ t) (append_assoc picks (codes "\n" ++ values) rest))

values_read : (program : Program) (move : Move) → IsWrittenMove program move → (s : StructureForm)
    → move.values ≡ Some s → IsRead program.vocab s
values_read program move is s e = subst (λ (o : Option StructureForm). IfSome o (IsRead program.vocab)) e is.on.1

traced : (program : Program) → IsWritable program.vocab → (moves : List Move) → All (IsWrittenMove program) moves
    → Traced program moves
unfolding after first
traced program fits [] all = record {
  tokens = [];
  lexes = record { pieces = []; fit = tt; whole = refl; are = refl };
  steps = [];
  are = (refl, refl);
  meant = tt;
  starts = inl refl;
}
traced program fits (move ∷ moves) all =
    let is = all 0 move (omega arith)
    in let later = traced program fits moves (λ k d lt. all (suc k) d (omega (arith, lt)))
    in let rest : List ℕ = trace_text program.vocab moves
    in let values = valued program.vocab fits move.values (values_read program move is) rest later.tokens later.starts
    later.lexes
    in let behind : List ℕ = all_values_text program.vocab move.values ++ rest
    in let picks = picked move.picks (by_recursion move.picks is.picks) behind values.tokens values.none_picked
    values.lexes
    in let number : Lexes (decimal move.edge ++ (picks_text move.picks ++ 10 ∷ behind))
    (word (decimal move.edge) ∷ picks.tokens)
    = word_first (decimal move.edge) (picks_text move.picks ++ 10 ∷ behind) picks.tokens
    (number_word move.edge is.edge) picks.clear picks.lexes
    in let tokens : List SpecToken = word (codes "step") ∷ word (decimal move.edge) ∷ picks.tokens
    in let whole = spaced (codes "step") (decimal move.edge ++ (picks_text move.picks ++ 10 ∷ behind))
    (word (decimal move.edge) ∷ picks.tokens) (omega arith, refl) number
    in record {
      tokens = tokens;
      lexes = subst (λ t. Lexes t tokens)
          (sym (step_whole (decimal move.edge) (picks_text move.picks)
          (all_values_text program.vocab move.values) rest)) whole;
      steps = record { edge = move.edge; picks = move.picks; values = values.tree } ∷ later.steps;
      are = (
        later.tokens,
        refl,
        (
          word (decimal move.edge) ∷ picks.tokens,
          picks.tokens,
          values.tokens,
          refl,
          number_first move.edge picks.tokens is.edge,
          picks.are,
          values.are,
        ),
        later.are,
      );
      meant = (
        record { known = is.on.0; edge = refl; picks = refl; values = values.meant },
        later.meant,
      );
      starts = inr (word (decimal move.edge) ∷ picks.tokens, refl);
    }

pub read_again : TracesAreReadAgain
read_again program valid moves all =
    let one = traced program (valid_fits program valid) moves all
    in let read = lexes_read (trace_text program.vocab moves) one.tokens one.lexes
    in (
      read.0,
      read.1,
      record {
        steps = one.steps;
        are = subst (λ ts. IsTrace ts one.steps) (sym read.2) one.are;
        moves = one.meant;
      },
    )
