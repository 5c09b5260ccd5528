-- What texts of structures and reports mean depends on what a program says alone, wherever its parts lie.
use Rattle.std.proofs.Common.{◌≡◌, ◌<◌, ℕ, List, [], ◌∷◌, map, Option, None, Some, Result, Ok, Err, refl, sym}
use Rattle.std.proofs.Common.{ap, subst, ◌∙◌}
use Rattle.std.specs.Prelude.{slice_index, slice_get, length, All, Contains}
use Rattle.tv_model.proofs.Parts.{names-same}
use Rattle.tv_lex.specs.Token.{SpecToken, spec_tokens}
use Rattle.tv_lex.specs.declared.token.Token.{Token}
use Rattle.tv_listing.specs.declared.analysis.Analysis.{Analysis}
use Rattle.tv_model.specs.Program.{PredForm, ProgramForm, pred_of}
use Rattle.tv_model.specs.declared.program.Pred.{Pred}
use Rattle.tv_model.specs.declared.program.Program.{Program}
use Rattle.tv_report.specs.Lines.{AreMessageLines, AreMapLines}
use Rattle.tv_report.specs.Meaning.{MeansReport, IsNoReport, ListsNodes, NamedNode, named_node}
use Rattle.tv_report.specs.Tree.{NodeTree}
use Rattle.tv_status.specs.declared.status.FileKind.{FileKind}
use Rattle.tv_status.specs.declared.status.FileKind.TheVariants as kind
use Rattle.tv_structure_form.specs.StructureForm.{StructureForm}
use Rattle.tv_texts.specs.Agreement.{SameProgram}
use Rattle.tv_texts.specs.Meaning.{IsNoInitial, MeansInitial, MeansStart, MeansMoves}
use Rattle.tv_texts.specs.Meaning.{MeansReport as MeansReportIn}
use Rattle.tv_trace.specs.Meaning.{AreMeant, AreMoves, MeansTrace, IsNoTrace}
use Rattle.tv_trace.specs.Tree.{StepTree}
use Rattle.tv_trace.specs.declared.trace.Move.{Move}
use Rattle.tv_trace.specs.declared.trace.Trace.{Trace}
use Rattle.tv_tree.specs.Steps.{◌>>=◌, or_refused}
use Rattle.tv_tvs.specs.Meaning.{number_of, predicate_at, subject_of, fitting_put, entry_put, entries_put}
use Rattle.tv_tvs.specs.Meaning.{blank, all_different, struct_meant, structs_meant, arity_at, Subject}
use Rattle.tv_tvs.specs.Meaning.{MeansStructs}
use Rattle.tv_tvs.specs.Tree.{EntryTree, StructTree, name_text}
use Rattle.tv_tvs.specs.declared.error.TvsError.{TvsError}
use Rattle.tv_tvs.specs.declared.error.TvsError.TheVariants.{Syntax, IndividualUnknown, IndividualTwice}
use Rattle.tv_tvs.specs.declared.error.TvsError.TheVariants.{NameUnknown, ArityWrong, BadSm}
use Rattle.tv_tvs.specs.declared.error.TvsError.TheVariants.{TooManyIndividuals, Memory}

names : List Pred → List (List ℕ)
names preds = map (λ pred. pred.name) preds

arities : List Pred → List ℕ
arities preds = map (λ pred. pred.arity) preds

-- what is done next agrees, and so does the whole
then_same : {A B E : Type 0} (r : Result A E) (f g : A → Result B E) → ((x : A) → f x ≡ g x) → (r >>= f) ≡ (r >>= g)
then_same (Ok x) f g same = same x
then_same (Err e) f g same = refl

module _ (preds others : List Pred)
    (same_names : map (λ (pred : Pred). pred.name) preds ≡ map (λ (pred : Pred). pred.name) others)
    (same_arities : map (λ (pred : Pred). pred.arity) preds ≡ map (λ (pred : Pred). pred.arity) others)
  where
    arity_same : (p : ℕ) → arity_at preds p ≡ arity_at others p
    arity_same p = ap (λ ns. slice_index ns p) same_arities

    predicate_same : (o : Option ℕ) → predicate_at preds o ≡ predicate_at others o
    predicate_same None = refl
    predicate_same (Some p) = ap (λ a. Some (Subject.Predicate p a)) (arity_same p)

    number_same : (name : List ℕ) → predicate_at preds (number_of (map (λ (pred : Pred). pred.name) preds) name)
        ≡ predicate_at others (number_of (map (λ (pred : Pred). pred.name) others) name)
    number_same name = ap (λ ns. predicate_at preds (number_of ns name)) same_names
        ∙ predicate_same (number_of (map (λ (pred : Pred). pred.name) others) name)

    subject_same : (name : List ℕ) → subject_of preds name ≡ subject_of others name
    subject_same name = rw (number_same name) refl

    entry_same : (individuals : List (List ℕ)) (s : StructureForm) (entry : EntryTree)
        → entry_put preds individuals s entry ≡ entry_put others individuals s entry
    entry_same individuals s entry =
        ap (λ o. or_refused o NameUnknown >>= λ subject. fitting_put individuals subject s entry.content)
        (subject_same (name_text entry.name))

    entries_same : (individuals : List (List ℕ)) (s : StructureForm) (entries : List EntryTree)
        → entries_put preds individuals s entries ≡ entries_put others individuals s entries
    entries_same individuals s [] = refl
    entries_same individuals s (entry ∷ entries) =
        ap (λ r. r >>= λ t. entries_put preds individuals t entries) (entry_same individuals s entry)
        ∙ then_same (entry_put others individuals s entry) _ _ (λ t. entries_same individuals t entries)

    blank_same : (individuals : List (List ℕ)) → blank preds individuals ≡ blank others individuals
    blank_same individuals = rw same_arities refl

    filled_same : (individuals : List (List ℕ)) (entries : List EntryTree)
        → entries_put preds individuals (blank preds individuals) entries
        ≡ entries_put others individuals (blank others individuals) entries
    filled_same individuals entries = ap (λ s. entries_put preds individuals s entries) (blank_same individuals)
        ∙ entries_same individuals (blank others individuals) entries

    struct_same : (t : StructTree) → struct_meant preds t ≡ struct_meant others t
    struct_same t = rw (then_same (all_different t.individuals) (λ individuals. entries_put preds individuals (blank preds individuals) t.entries)
        (λ individuals. entries_put others individuals (blank others individuals) t.entries)
        (λ individuals. filled_same individuals t.entries)) refl

    pub structs_same : (ts : List StructTree) → structs_meant preds ts ≡ structs_meant others ts
    structs_same [] = refl
    structs_same (t ∷ ts) =
        ap (λ r. r >>= λ s. structs_meant preds ts >>= λ ss. Ok (s ∷ ss)) (struct_same t)
        ∙ then_same (struct_meant others t) _ _ (λ s. ap (λ r. r >>= λ ss. Ok (s ∷ ss)) (structs_same ts))

-- ---- the vocabulary of a program

arities_said : (preds : List Pred) → map (λ (d : PredForm). d.arity) (map pred_of preds) ≡ map (λ (pred : Pred). pred.arity) preds
arities_said [] = refl
arities_said (pred ∷ preds) = ap (λ ns. pred.arity ∷ ns) (arities_said preds)

pub same_names : (p q : Program) → SameProgram p q
    → map (λ (pred : Pred). pred.name) p.vocab.preds ≡ map (λ (pred : Pred). pred.name) q.vocab.preds
same_names p q same = sym (names-same p.vocab.preds)
    ∙ ap (λ (f : ProgramForm). map (λ (d : PredForm). d.name) f.preds) same ∙ names-same q.vocab.preds

pub same_arities : (p q : Program) → SameProgram p q
    → map (λ (pred : Pred). pred.arity) p.vocab.preds ≡ map (λ (pred : Pred). pred.arity) q.vocab.preds
same_arities p q same = sym (arities_said p.vocab.preds)
    ∙ ap (λ (f : ProgramForm). map (λ (d : PredForm). d.arity) f.preds) same ∙ arities_said q.vocab.preds

pub same_structs : (p q : Program) → SameProgram p q → (ts : List StructTree)
    → structs_meant p.vocab.preds ts ≡ structs_meant q.vocab.preds ts
same_structs p q same = structs_same p.vocab.preds q.vocab.preds (same_names p q same) (same_arities p q same)

-- structures in a text mean the same
pub structures_also : (p q : Program) (ts : List SpecToken) (meaning : Result (List StructureForm) TvsError) → SameProgram p q
    → MeansStructs q.vocab ts meaning → MeansStructs p.vocab ts meaning
structures_also p q ts meaning same means = record {
  trees = means.trees;
  are = means.are;
  meant = same_structs p q same means.trees ∙ means.meant;
}

named_same : (p q : Program) → SameProgram p q → (nodes : List NodeTree)
    → map (named_node p.vocab) nodes ≡ map (named_node q.vocab) nodes
named_same p q same [] = refl
named_same p q same (node ∷ nodes) = rw (same_structs p q same node.structures, named_same p q same nodes) refl

-- a report on the one is a report on the other
pub report_also : (p q : Program) (ts : List SpecToken) (a : Analysis) → SameProgram p q
    → MeansReport q ts a → MeansReport p ts a
report_also p q ts a same means = record {
  tree = means.tree;
  is = means.is;
  listing = subst (λ ns. ListsNodes p ns a.listing) (sym (named_same p q same means.tree.nodes)) listed;
  messages = subst (λ f. AreMessageLines f a.messages) (sym same) means.messages;
  maps = subst (λ f. AreMapLines f a.listing a.maps) (sym same) means.maps;
  same_messages = means.same_messages;
  same_maps = means.same_maps;
}
  where
    nodes : q.nodes ≡ p.nodes
    nodes = ap (λ (f : ProgramForm). f.nodes) (sym same)

    listed : ListsNodes p (map (named_node q.vocab) means.tree.nodes) a.listing
    listed = record {
      names = (
        subst (λ ns. All (λ (node : NamedNode). Contains ns node.name) (map (named_node q.vocab) means.tree.nodes)) nodes
            means.listing.names.0,
        means.listing.names.1,
      );
      count = means.listing.count ∙ ap length nodes;
      named = λ number k d lt at. means.listing.named number k d lt (ap (λ ns. slice_get ns number) nodes ∙ at);
      others = λ number name at. means.listing.others number name (ap (λ ns. slice_get ns number) nodes ∙ at);
    }

refusal_also : (p q : Program) → SameProgram p q → (text : List ℕ) (e : TvsError) (tokens : List Token) (ts : List SpecToken)
    → IsNoInitial q.vocab text e tokens ts → IsNoInitial p.vocab text e tokens ts
refusal_also p q same text (Syntax place) tokens ts h = h
refusal_also p q same text IndividualUnknown tokens ts h = structures_also p q ts (Err IndividualUnknown) same h
refusal_also p q same text IndividualTwice tokens ts h = structures_also p q ts (Err IndividualTwice) same h
refusal_also p q same text NameUnknown tokens ts h = structures_also p q ts (Err NameUnknown) same h
refusal_also p q same text ArityWrong tokens ts h = structures_also p q ts (Err ArityWrong) same h
refusal_also p q same text BadSm tokens ts h = structures_also p q ts (Err BadSm) same h
refusal_also p q same text TooManyIndividuals tokens ts h = structures_also p q ts (Err TooManyIndividuals) same h
refusal_also p q same text Memory tokens ts h = absurd h

-- a text of initial structures means the same
pub initial_also : (p q : Program) → SameProgram p q → (text : List ℕ) (a : Result (List StructureForm) FileKind)
    → MeansInitial q text a → MeansInitial p text a
initial_also p q same text (Ok ss) h = (h.0, (h.1.0, h.1.1, structures_also p q (spec_tokens text h.1.0) (Ok ss) same h.1.2))
initial_also p q same text (Err kind.TooLong) h = h
initial_also p q same text (Err (kind.Lexing e)) h = h
initial_also p q same text (Err (kind.Structures e)) h =
    (h.0, (h.1.0, h.1.1, refusal_also p q same text e h.1.0 (spec_tokens text h.1.0) h.1.2))
initial_also p q same text (Err other) h = absurd h

no_report_also : (p q : Program) (ts : List SpecToken) → SameProgram p q → IsNoReport q ts → IsNoReport p ts
no_report_also p q ts same none a means = none a (report_also q p ts a (sym same) means)

-- and so does a report
pub report_text_also : (p q : Program) → SameProgram p q → (text : List ℕ) (a : Result Analysis FileKind)
    → MeansReportIn q text a → MeansReportIn p text a
report_text_also p q same text (Ok report) h =
    (h.0, (h.1.0, h.1.1, report_also p q (spec_tokens text h.1.0) report same h.1.2))
report_text_also p q same text (Err kind.TooLong) h = h
report_text_also p q same text (Err (kind.Lexing e)) h = h
report_text_also p q same text (Err (kind.ReportForm place)) h =
    (h.0, (h.1.0, h.1.1, (no_report_also p q (spec_tokens text h.1.0) same h.1.2.0, h.1.2.1)))
report_text_also p q same text (Err other) h = absurd h

-- ---- a heap, and a trace

-- a text of one heap means the same
pub start_also : (p q : Program) → SameProgram p q → (text : List ℕ) (a : Result StructureForm FileKind)
    → MeansStart q text a → MeansStart p text a
start_also p q same text (Ok s) h = (initial_also p q same text (Ok (s ∷ [])) h.0, h.1)
start_also p q same text (Err kind.NotHeap) h = (h.0, initial_also p q same text (Ok h.0) h.1, h.2)
start_also p q same text (Err kind.TooLong) h = initial_also p q same text (Err kind.TooLong) h
start_also p q same text (Err (kind.Lexing e)) h = initial_also p q same text (Err (kind.Lexing e)) h
start_also p q same text (Err (kind.Structures e)) h = initial_also p q same text (Err (kind.Structures e)) h
start_also p q same text (Err other) h = absurd h

values_also : (p q : Program) → SameProgram p q → (tree : Option StructTree) (values : Option StructureForm)
    → AreMeant q.vocab tree values → AreMeant p.vocab tree values
values_also p q same None None h = h
values_also p q same None (Some s) h = absurd h
values_also p q same (Some t) None h = absurd h
values_also p q same (Some t) (Some s) h =
    struct_same p.vocab.preds q.vocab.preds (same_names p q same) (same_arities p q same) t ∙ h

moves_also : (p q : Program) → SameProgram p q → (steps : List StepTree) (moves : List Move)
    → AreMoves q steps moves → AreMoves p steps moves
moves_also p q same [] [] h = h
moves_also p q same [] (move ∷ moves) h = absurd h
moves_also p q same (step ∷ steps) [] h = absurd h
moves_also p q same (step ∷ steps) (move ∷ moves) h = (
  record {
    known = subst (λ es. step.edge < length es) (sym (ap (λ (f : ProgramForm). f.edges) same)) h.0.known;
    edge = h.0.edge;
    picks = h.0.picks;
    values = values_also p q same step.values move.values h.0.values;
  },
  moves_also p q same steps moves h.1,
)

trace_also : (p q : Program) (ts : List SpecToken) (t : Trace) → SameProgram p q → MeansTrace q ts t → MeansTrace p ts t
trace_also p q ts t same means = record {
  steps = means.steps;
  are = means.are;
  moves = moves_also p q same means.steps t.moves means.moves;
}

no_trace_also : (p q : Program) (ts : List SpecToken) → SameProgram p q → IsNoTrace q ts → IsNoTrace p ts
no_trace_also p q ts same none t means = none t (trace_also q p ts t (sym same) means)

-- a text of a trace means the same
pub trace_text_also : (p q : Program) → SameProgram p q → (text : List ℕ) (a : Result Trace FileKind)
    → MeansMoves q text a → MeansMoves p text a
trace_text_also p q same text (Ok t) h =
    (h.0, (h.1.0, h.1.1, trace_also p q (spec_tokens text h.1.0) t same h.1.2))
trace_text_also p q same text (Err kind.TooLong) h = h
trace_text_also p q same text (Err (kind.Lexing e)) h = h
trace_text_also p q same text (Err (kind.TraceForm place)) h =
    (h.0, (h.1.0, h.1.1, (no_trace_also p q (spec_tokens text h.1.0) same h.1.2.0, h.1.2.1)))
trace_text_also p q same text (Err other) h = absurd h
