-- A text means one thing at most.
use Rattle.std.proofs.Common.{◌≡◌, ◌≢◌, ℕ, ◌<◌, ◌≤◌, ◌⊎◌, List, [], ◌∷◌, Result, Ok, Err, refl, sym, ap}
use Rattle.std.proofs.Common.{subst, inl, inr, ◌∙◌, arith}
use Rattle.std.specs.Prelude.{length}
use Rattle.tv_front.specs.Meaning.{Means, IsRefused, without_place}
use Rattle.tv_front.specs.declared.fault.ProgramFault.{ProgramFault}
use Rattle.tv_lex.specs.Bytes.{longest_text}
use Rattle.tv_lex.specs.Gather.{longest_gathered}
use Rattle.tv_lex.specs.Pieces.{Reads}
use Rattle.tv_lex.specs.Token.{SpecToken, spec_tokens}
use Rattle.tv_lex.specs.declared.token.LexError.{LexError}
use Rattle.tv_lex.specs.declared.token.LexError.TheVariants as lexing
use Rattle.tv_lex.specs.declared.token.Token.{Token}
use Rattle.tv_listing.specs.declared.analysis.Analysis.{Analysis}
use Rattle.tv_model.specs.Program.{ProgramForm, program_of}
use Rattle.tv_model.specs.declared.program.Program.{Program}
use Rattle.tv_model.specs.declared.program.Vocab.{Vocab}
use Rattle.tv_plang.specs.Laws.{HaveOneProgram as HaveOneSource, HaveOneRefusal as HaveOneSourceRefusal}
use Rattle.tv_plang.specs.Meaning.{IsSourceCause, MeansProgram as MeansSourceProgram}
use Rattle.tv_plang.specs.declared.error.SourceError.{SourceError}
use Rattle.tv_plang.specs.declared.error.SourceError.TheVariants as source
use Rattle.tv_report.specs.Meaning.{IsNoReport, MeansReport as MeansReportTokens}
use Rattle.tv_status.specs.declared.status.FileKind.{FileKind}
use Rattle.tv_status.specs.declared.status.FileKind.TheVariants as kind
use Rattle.tv_structure_form.specs.StructureForm.{StructureForm}
use Rattle.tv_texts.specs.Agreement.{Agree, GiveOne, SameProgram, placeless, at_start}
use Rattle.tv_texts.specs.Meaning.{IsUnlexed, IsNoInitial, IsNoSource, AreOneHeap, MeansProgram, MeansInitial}
use Rattle.tv_texts.specs.Meaning.{MeansStart, MeansMoves, MeansReport, MeansSource}
use Rattle.tv_trace.specs.Meaning.{MeansTrace, IsNoTrace}
use Rattle.tv_trace.specs.declared.trace.Trace.{Trace}
use Rattle.tv_tvs.specs.Grammar.{AreStructs}
use Rattle.tv_tvs.specs.Meaning.{MeansStructs, IsNoText, structs_meant}
use Rattle.tv_tvs.specs.Tree.{StructTree}
use Rattle.tv_tvs.specs.declared.error.TvsError.{TvsError}
use Rattle.tv_tvs.specs.declared.error.TvsError.TheVariants as refusal
use Rattle.tv_lemmas.proofs.Options.{same_Ok, same_Err}

-- the first of a list
abbrev head_or : List StructureForm → StructureForm → StructureForm
head_or [] s = s
head_or (t ∷ ts) s = t

-- ---- programs

-- a refusal of a program is one of the front end
refusal_of : (text : List ℕ) (k : FileKind) → MeansProgram text (Err k)
    → (fault : ProgramFault) × (k ≡ kind.Program fault) × IsRefused text fault
refusal_of text (kind.Program fault) h = (fault, refl, h.0)
refusal_of text other h = absurd h

module _
    (one : (text : List ℕ) (p q : ProgramForm) → Means text p → Means text q → p ≡ q)
    (unrefused : (text : List ℕ) (p : ProgramForm) (fault : ProgramFault) → Means text p → ¬ IsRefused text fault)
    (one_refusal : (text : List ℕ) (d e : ProgramFault) → IsRefused text d → IsRefused text e → without_place d ≡ without_place e)
  where
    pub one_program : (text : List ℕ) → GiveOne SameProgram (MeansProgram text) (MeansProgram text)
    one_program text (Ok p) (Ok q) h k = one text (program_of p) (program_of q) h k
    one_program text (Ok p) (Err e) h k =
        let r = refusal_of text e k in absurd (unrefused text (program_of p) r.0 h r.2)
    one_program text (Err e) (Ok q) h k =
        let r = refusal_of text e h in absurd (unrefused text (program_of q) r.0 k r.2)
    one_program text (Err d) (Err e) h k =
        let r = refusal_of text d h in let s = refusal_of text e k in
        rw (r.1, s.1) (ap kind.Program (one_refusal text r.0 s.0 r.2 s.2))

-- ---- texts with a limit and tokens

-- what the text gives, step by step: it is too long; or it has no tokens; or this is so of its tokens
abbrev View : {A : Type 0} → (limit : ℕ) → (text : List ℕ) → (Of : List Token → Result A FileKind → Type 0)
    → Result A FileKind → Type 0
View limit text Of answer = ((limit < length text) × (answer ≡ Err kind.TooLong))
    ⊎ ((length text ≤ limit) × (((e : LexError) × Reads text (Err e) × (answer ≡ Err (kind.Lexing e)))
    ⊎ ((tokens : List Token) × Reads text (Ok tokens) × Of tokens answer)))

module _ (reading : (text : List ℕ) (a b : Result (List Token) LexError) → Reads text a → Reads text b → a ≡ b) where
  lexed_not_refused : (text : List ℕ) (e : LexError) (tokens : List Token) → Reads text (Err e) → Reads text (Ok tokens) → ⊥
  lexed_not_refused text e tokens h k = no_ok (reading text (Err e) (Ok tokens) h k)
    where
      no_ok : (let r : Result (List Token) LexError = Err e in r) ≡ Ok tokens → ⊥
      no_ok same = absurd cc

  same_tokens : (text : List ℕ) (ts us : List Token) → Reads text (Ok ts) → Reads text (Ok us) → ts ≡ us
  same_tokens text ts us h k = same_Ok {X = List Token} {E = LexError} ts us (reading text (Ok ts) (Ok us) h k)

  same_refusal : (text : List ℕ) (d e : LexError) → Reads text (Err d) → Reads text (Err e) → d ≡ e
  same_refusal text d e h k = same_Err {X = List Token} {E = LexError} d e (reading text (Err d) (Err e) h k)

  one_view : {A : Type 0} (Same : A → A → Type 0) (limit : ℕ) (text : List ℕ) (Of : List Token → Result A FileKind → Type 0)
      → ((tokens : List Token) → GiveOne {A = A} Same (Of tokens) (Of tokens))
      → (a b : Result A FileKind) → View limit text Of a → View limit text Of b → Agree Same a b
  one_view Same limit text Of one a b (inl long) (inl also) = rw (long.1, also.1) refl
  one_view Same limit text Of one a b (inl long) (inr short) = absurd (omega (arith, long.0, short.0))
  one_view Same limit text Of one a b (inr short) (inl long) = absurd (omega (arith, long.0, short.0))
  one_view {A = A} Same limit text Of one a b (inr x) (inr y) = lexed x.1 y.1
    where
      lexed : (((e : LexError) × Reads text (Err e) × (a ≡ Err (kind.Lexing e))) ⊎ ((tokens : List Token) × Reads text (Ok tokens) × Of tokens a))
          → (((e : LexError) × Reads text (Err e) × (b ≡ Err (kind.Lexing e))) ⊎ ((tokens : List Token) × Reads text (Ok tokens) × Of tokens b))
          → Agree Same a b
      lexed (inl d) (inl e) = rw (d.2, e.2) (ap kind.Lexing (same_refusal text d.0 e.0 d.1 e.1))
      lexed (inl d) (inr e) = absurd (lexed_not_refused text d.0 e.0 d.1 e.1)
      lexed (inr d) (inl e) = absurd (lexed_not_refused text e.0 d.0 e.1 d.1)
      lexed (inr d) (inr e) =
          one e.0 a b (subst (λ ts. Of ts a) (same_tokens text d.0 e.0 d.1 e.1) d.2) e.2

-- ---- initial structures

-- what tokens give as initial structures
OfStructs : Vocab → (text : List ℕ) → List Token → Result (List StructureForm) FileKind → Type 0
OfStructs vocab text tokens (Ok ss) = MeansStructs vocab (spec_tokens text tokens) (Ok ss)
OfStructs vocab text tokens (Err (kind.Structures e)) = IsNoInitial vocab text e tokens (spec_tokens text tokens)
OfStructs vocab text tokens (Err other) = ⊥

unlexed_reads : (text : List ℕ) (e : LexError) → IsUnlexed text (kind.Lexing e) → Reads text (Err e)
unlexed_reads text lexing.BadByte h = h
unlexed_reads text lexing.Unended h = h
unlexed_reads text lexing.Memory h = absurd h

initial_view : (p : Program) (text : List ℕ) (a : Result (List StructureForm) FileKind) → MeansInitial p text a
    → View longest_gathered text (OfStructs p.vocab text) a
unfolding OfStructs
initial_view p text (Ok ss) h = inr (h.0, inr (h.1.0, h.1.1, h.1.2))
initial_view p text (Err kind.TooLong) h = inl (h, refl)
initial_view p text (Err (kind.Lexing e)) h = inr (h.0, inl (e, unlexed_reads text e h.1, refl))
initial_view p text (Err (kind.Structures e)) h = inr (h.0, inr (h.1.0, h.1.1, h.1.2))
initial_view p text (Err other) h = absurd h

-- the refusal is one of the tokens as structures, or of what they mean
refusal_view : (vocab : Vocab) (text : List ℕ) (tokens : List Token) (e : TvsError) (ts : List SpecToken)
    → IsNoInitial vocab text e tokens ts
    → (IsNoText ts × (at_start e ≡ at_start (refusal.Syntax (record { line = 1; column = 1 })))) ⊎ MeansStructs vocab ts (Err e)
refusal_view vocab text tokens (refusal.Syntax place) ts h = inl (h.0, refl)
refusal_view vocab text tokens refusal.Memory ts h = absurd h
refusal_view vocab text tokens other ts h = inr h

refused_structs : (vocab : Vocab) (text : List ℕ) (tokens : List Token) (k : FileKind) → OfStructs vocab text tokens (Err k)
    → (e : TvsError) × (k ≡ kind.Structures e) × IsNoInitial vocab text e tokens (spec_tokens text tokens)
unfolding OfStructs
refused_structs vocab text tokens (kind.Structures e) h = (e, refl, h)
refused_structs vocab text tokens other h = absurd h

module _ (trees : (tokens : List SpecToken) (a b : List StructTree) → AreStructs tokens a → AreStructs tokens b → a ≡ b) where
  same_meaning : (vocab : Vocab) (ts : List SpecToken) (a b : Result (List StructureForm) TvsError)
      → MeansStructs vocab ts a → MeansStructs vocab ts b → a ≡ b
  same_meaning vocab ts a b h k =
      sym h.meant ∙ ap (structs_meant vocab.preds) (trees ts h.trees k.trees h.are k.are) ∙ k.meant

  structs_not_refused : (vocab : Vocab) (text : List ℕ) (tokens : List Token) (ss : List StructureForm) (e : TvsError)
      → MeansStructs vocab (spec_tokens text tokens) (Ok ss) → IsNoInitial vocab text e tokens (spec_tokens text tokens) → ⊥
  structs_not_refused vocab text tokens ss e h k = elim (refusal_view vocab text tokens e (spec_tokens text tokens) k) [
    | inl none ↦ none.0 h.trees h.are
    | inr also ↦ no_ok (same_meaning vocab (spec_tokens text tokens) (Ok ss) (Err e) h also)
  ]
    where
      no_ok : (let r : Result (List StructureForm) TvsError = Ok ss in r) ≡ Err e → ⊥
      no_ok same = absurd cc

  one_structs_refusal : (vocab : Vocab) (text : List ℕ) (tokens : List Token) (d e : TvsError)
      → IsNoInitial vocab text d tokens (spec_tokens text tokens) → IsNoInitial vocab text e tokens (spec_tokens text tokens)
      → at_start d ≡ at_start e
  one_structs_refusal vocab text tokens d e h k = both
      (refusal_view vocab text tokens d (spec_tokens text tokens) h) (refusal_view vocab text tokens e (spec_tokens text tokens) k)
    where
      both : ((IsNoText (spec_tokens text tokens) × (at_start d ≡ at_start (refusal.Syntax (record { line = 1; column = 1 })))) ⊎ MeansStructs vocab (spec_tokens text tokens) (Err d))
          → ((IsNoText (spec_tokens text tokens) × (at_start e ≡ at_start (refusal.Syntax (record { line = 1; column = 1 })))) ⊎ MeansStructs vocab (spec_tokens text tokens) (Err e))
          → at_start d ≡ at_start e
      both (inl a) (inl b) = a.1 ∙ sym b.1
      both (inl a) (inr b) = absurd (a.0 b.trees b.are)
      both (inr a) (inl b) = absurd (b.0 a.trees a.are)
      both (inr a) (inr b) = ap at_start
          (same_Err {X = List StructureForm} {E = TvsError} d e (same_meaning vocab (spec_tokens text tokens) (Err d) (Err e) a b))

  one_structs : (vocab : Vocab) (text : List ℕ) (tokens : List Token)
      → GiveOne {A = List StructureForm} ◌≡◌ (OfStructs vocab text tokens) (OfStructs vocab text tokens)
  unfolding OfStructs
  one_structs vocab text tokens (Ok ss) (Ok us) h k =
      same_Ok {X = List StructureForm} {E = TvsError} ss us (same_meaning vocab (spec_tokens text tokens) (Ok ss) (Ok us) h k)
  one_structs vocab text tokens (Ok ss) (Err e) h k =
      let r = refused_structs vocab text tokens e k in absurd (structs_not_refused vocab text tokens ss r.0 h r.2)
  one_structs vocab text tokens (Err e) (Ok ss) h k =
      let r = refused_structs vocab text tokens e h in absurd (structs_not_refused vocab text tokens ss r.0 k r.2)
  one_structs vocab text tokens (Err d) (Err e) h k =
      let r = refused_structs vocab text tokens d h in let s = refused_structs vocab text tokens e k in
      rw (r.1, s.1) (ap kind.Structures (one_structs_refusal vocab text tokens r.0 s.0 r.2 s.2))

  pub one_initial : ((text : List ℕ) (a b : Result (List Token) LexError) → Reads text a → Reads text b → a ≡ b)
      → (p : Program) (text : List ℕ) → GiveOne {A = List StructureForm} ◌≡◌ (MeansInitial p text) (MeansInitial p text)
  one_initial reading p text a b h k = one_view reading ◌≡◌ longest_gathered text (OfStructs p.vocab text)
      (one_structs p.vocab text) a b (initial_view p text a h) (initial_view p text b k)

-- ---- heaps

-- a refusal of a heap: the text means other structures, or none
start_refusal : (p : Program) (text : List ℕ) (k : FileKind) → MeansStart p text (Err k)
    → ((k ≡ kind.NotHeap) × ((ss : List StructureForm) × MeansInitial p text (Ok ss) × (¬ AreOneHeap ss)))
    ⊎ MeansInitial p text (Err k)
start_refusal p text kind.NotHeap h = inl (refl, h)
start_refusal p text other h = inr h

module _ (p : Program) (text : List ℕ) (one : GiveOne {A = List StructureForm} ◌≡◌ (MeansInitial p text) (MeansInitial p text)) where
  heap_not_refused : (s : StructureForm) (k : FileKind) → MeansStart p text (Ok s) → MeansStart p text (Err k) → ⊥
  heap_not_refused s k h refused = elim (start_refusal p text k refused) [
    | inl other ↦ other.1.2 (subst AreOneHeap (one (Ok (s ∷ [])) (Ok other.1.0) h.0 other.1.1) h.1)
    | inr none ↦ one (Ok (s ∷ [])) (Err k) h.0 none
  ]

  both_refused : (d e : FileKind)
      → (((d ≡ kind.NotHeap) × ((ss : List StructureForm) × MeansInitial p text (Ok ss) × (¬ AreOneHeap ss))) ⊎ MeansInitial p text (Err d))
      → (((e ≡ kind.NotHeap) × ((ss : List StructureForm) × MeansInitial p text (Ok ss) × (¬ AreOneHeap ss))) ⊎ MeansInitial p text (Err e))
      → placeless d ≡ placeless e
  both_refused d e (inl a) (inl b) = rw (a.0, b.0) refl
  both_refused d e (inl a) (inr b) = absurd (one (Ok a.1.0) (Err e) a.1.1 b)
  both_refused d e (inr a) (inl b) = absurd (one (Err d) (Ok b.1.0) a b.1.1)
  both_refused d e (inr a) (inr b) = one (Err d) (Err e) a b

  pub one_start : GiveOne {A = StructureForm} ◌≡◌ (MeansStart p text) (MeansStart p text)
  one_start (Ok s) (Ok t) h k = ap (λ ss. head_or ss s) (one (Ok (s ∷ [])) (Ok (t ∷ [])) h.0 k.0)
  one_start (Ok s) (Err e) h k = heap_not_refused s e h k
  one_start (Err d) (Ok t) h k = heap_not_refused t d k h
  one_start (Err d) (Err e) h k = both_refused d e (start_refusal p text d h) (start_refusal p text e k)

-- ---- traces

OfMoves : Program → (text : List ℕ) → List Token → Result Trace FileKind → Type 0
OfMoves p text tokens (Ok t) = MeansTrace p (spec_tokens text tokens) t
OfMoves p text tokens (Err (kind.TraceForm place)) = IsNoTrace p (spec_tokens text tokens)
OfMoves p text tokens (Err other) = ⊥

moves_view : (p : Program) (text : List ℕ) (a : Result Trace FileKind) → MeansMoves p text a
    → View longest_gathered text (OfMoves p text) a
unfolding OfMoves
moves_view p text (Ok t) h = inr (h.0, inr (h.1.0, h.1.1, h.1.2))
moves_view p text (Err kind.TooLong) h = inl (h, refl)
moves_view p text (Err (kind.Lexing e)) h = inr (h.0, inl (e, unlexed_reads text e h.1, refl))
moves_view p text (Err (kind.TraceForm place)) h = inr (h.0, inr (h.1.0, h.1.1, h.1.2.0))
moves_view p text (Err other) h = absurd h

refused_moves : (p : Program) (text : List ℕ) (tokens : List Token) (k : FileKind) → OfMoves p text tokens (Err k)
    → (placeless k ≡ placeless (kind.TraceForm (record { line = 1; column = 1 }))) × IsNoTrace p (spec_tokens text tokens)
unfolding OfMoves
refused_moves p text tokens (kind.TraceForm place) h = (refl, h)
refused_moves p text tokens other h = absurd h

module _ (one : (p : Program) (ts : List SpecToken) (a b : Trace) → MeansTrace p ts a → MeansTrace p ts b → a ≡ b) where
  one_of_moves : (p : Program) (text : List ℕ) (tokens : List Token)
      → GiveOne {A = Trace} ◌≡◌ (OfMoves p text tokens) (OfMoves p text tokens)
  unfolding OfMoves
  one_of_moves p text tokens (Ok a) (Ok b) h k = one p (spec_tokens text tokens) a b h k
  one_of_moves p text tokens (Ok a) (Err e) h k =
      let r = refused_moves p text tokens e k in absurd (r.1 a h)
  one_of_moves p text tokens (Err e) (Ok b) h k =
      let r = refused_moves p text tokens e h in absurd (r.1 b k)
  one_of_moves p text tokens (Err d) (Err e) h k =
      let r = refused_moves p text tokens d h in let s = refused_moves p text tokens e k in r.0 ∙ sym s.0

  pub one_moves : ((text : List ℕ) (a b : Result (List Token) LexError) → Reads text a → Reads text b → a ≡ b)
      → (p : Program) (text : List ℕ) → GiveOne {A = Trace} ◌≡◌ (MeansMoves p text) (MeansMoves p text)
  one_moves reading p text a b h k = one_view reading ◌≡◌ longest_gathered text (OfMoves p text)
      (one_of_moves p text) a b (moves_view p text a h) (moves_view p text b k)

-- ---- reports

OfReport : Program → (text : List ℕ) → List Token → Result Analysis FileKind → Type 0
OfReport p text tokens (Ok a) = MeansReportTokens p (spec_tokens text tokens) a
OfReport p text tokens (Err (kind.ReportForm place)) = IsNoReport p (spec_tokens text tokens)
OfReport p text tokens (Err other) = ⊥

report_view : (p : Program) (text : List ℕ) (a : Result Analysis FileKind) → MeansReport p text a
    → View longest_text text (OfReport p text) a
unfolding OfReport
report_view p text (Ok report) h = inr (h.0, inr (h.1.0, h.1.1, h.1.2))
report_view p text (Err kind.TooLong) h = inl (h, refl)
report_view p text (Err (kind.Lexing e)) h = inr (h.0, inl (e, unlexed_reads text e h.1, refl))
report_view p text (Err (kind.ReportForm place)) h = inr (h.0, inr (h.1.0, h.1.1, h.1.2.0))
report_view p text (Err other) h = absurd h

refused_report : (p : Program) (text : List ℕ) (tokens : List Token) (k : FileKind) → OfReport p text tokens (Err k)
    → (placeless k ≡ placeless (kind.ReportForm (record { line = 1; column = 1 }))) × IsNoReport p (spec_tokens text tokens)
unfolding OfReport
refused_report p text tokens (kind.ReportForm place) h = (refl, h)
refused_report p text tokens other h = absurd h

module _ (one : (p : Program) (ts : List SpecToken) (a b : Analysis) → MeansReportTokens p ts a → MeansReportTokens p ts b → a ≡ b) where
  one_of_report : (p : Program) (text : List ℕ) (tokens : List Token)
      → GiveOne {A = Analysis} ◌≡◌ (OfReport p text tokens) (OfReport p text tokens)
  unfolding OfReport
  one_of_report p text tokens (Ok a) (Ok b) h k = one p (spec_tokens text tokens) a b h k
  one_of_report p text tokens (Ok a) (Err e) h k =
      let r = refused_report p text tokens e k in absurd (r.1 a h)
  one_of_report p text tokens (Err e) (Ok b) h k =
      let r = refused_report p text tokens e h in absurd (r.1 b k)
  one_of_report p text tokens (Err d) (Err e) h k =
      let r = refused_report p text tokens d h in let s = refused_report p text tokens e k in r.0 ∙ sym s.0

  pub one_report : ((text : List ℕ) (a b : Result (List Token) LexError) → Reads text a → Reads text b → a ≡ b)
      → (p : Program) (text : List ℕ) → GiveOne {A = Analysis} ◌≡◌ (MeansReport p text) (MeansReport p text)
  one_report reading p text a b h k = one_view reading ◌≡◌ longest_text text (OfReport p text)
      (one_of_report p text) a b (report_view p text a h) (report_view p text b k)

-- ---- source programs

OfSource : (text : List ℕ) → List Token → Result Program FileKind → Type 0
OfSource text tokens (Ok p) = MeansSourceProgram (spec_tokens text tokens) (program_of p)
OfSource text tokens (Err (kind.Source e)) = IsNoSource text e tokens (spec_tokens text tokens)
OfSource text tokens (Err other) = ⊥

source_view : (text : List ℕ) (a : Result Program FileKind) → MeansSource text a → View longest_gathered text (OfSource text) a
unfolding OfSource
source_view text (Ok p) h = inr (h.0, inr (h.1.0, h.1.1, h.1.2))
source_view text (Err kind.TooLong) h = inl (h, refl)
source_view text (Err (kind.Lexing e)) h = inr (h.0, inl (e, unlexed_reads text e h.1, refl))
source_view text (Err (kind.Source e)) h = inr (h.0, inr (h.1.0, h.1.1, h.1.2))
source_view text (Err other) h = absurd h

-- a refusal of tokens is one of the compiler, and not lack of memory
no_source : (text : List ℕ) (tokens : List Token) (e : SourceError) → IsNoSource text e tokens (spec_tokens text tokens)
    → (e ≢ source.Memory) × IsSourceCause (spec_tokens text tokens) e
no_source text tokens source.Memory h = absurd h
no_source text tokens other h = (λ same. absurd cc, h.0)

refused_source : (text : List ℕ) (tokens : List Token) (k : FileKind) → OfSource text tokens (Err k)
    → (e : SourceError) × (k ≡ kind.Source e) × (e ≢ source.Memory) × IsSourceCause (spec_tokens text tokens) e
unfolding OfSource
refused_source text tokens (kind.Source e) h =
    let n = no_source text tokens e h in (e, refl, n.0, n.1)
refused_source text tokens other h = absurd h

module _ (one : HaveOneSource) (refusal : HaveOneSourceRefusal) where
  one_of_source : (text : List ℕ) (tokens : List Token) → GiveOne SameProgram (OfSource text tokens) (OfSource text tokens)
  unfolding OfSource
  one_of_source text tokens (Ok p) (Ok q) h k = one.one (spec_tokens text tokens) (program_of p) (program_of q) h k
  one_of_source text tokens (Ok p) (Err e) h k =
      let r = refused_source text tokens e k in
      absurd (one.unrefused (spec_tokens text tokens) (program_of p) r.0 h r.2 r.3)
  one_of_source text tokens (Err e) (Ok q) h k =
      let r = refused_source text tokens e h in
      absurd (one.unrefused (spec_tokens text tokens) (program_of q) r.0 k r.2 r.3)
  one_of_source text tokens (Err d) (Err e) h k =
      let r = refused_source text tokens d h in let s = refused_source text tokens e k in
      rw (r.1, s.1) (ap kind.Source (refusal (spec_tokens text tokens) r.0 s.0 r.2 s.2 r.3 s.3))

  pub one_source : ((text : List ℕ) (a b : Result (List Token) LexError) → Reads text a → Reads text b → a ≡ b)
      → (text : List ℕ) → GiveOne SameProgram (MeansSource text) (MeansSource text)
  one_source reading text a b h k = one_view reading SameProgram longest_gathered text (OfSource text)
      (one_of_source text) a b (source_view text a h) (source_view text b k)
