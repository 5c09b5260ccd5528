-- What structures in texts mean: structures over a vocabulary, or the first refusal.
use Rattle.std.specs.Prelude.{ℕ, ◌≡◌, ◌≢◌, ◌≤◌, List, [], ◌∷◌, ◌++◌, Bool, true, false, not, ◌&&◌, ◌||◌, ◌==◌}
use Rattle.std.specs.Prelude.{nat_lt, Option, Some, None, Result, Ok, Err, length, map, is_some, unwrap_or}
use Rattle.std.specs.Prelude.{slice_index, All, AllPairs, if◌then◌else◌, codes}
use Rattle.std.specs.List.{list_all}
use Rattle.std.specs.Str.{bytes_eq}
use Rattle.tv_kleene.specs.declared.K3.{K3}
use Rattle.tv_kleene.specs.declared.K3.TheVariants.{No, Half, Yes}
use Rattle.tv_model.specs.declared.program.Pred.{Pred}
use Rattle.tv_model.specs.declared.program.Vocab.{Vocab}
use Rattle.tv_tree.specs.Names.{is_among}
pub use Rattle.tv_tree.specs.Names.{number_of}
use Rattle.tv_tree.specs.Steps.{◌>>=◌, or_refused}
use Rattle.tv_structure_form.specs.StructureForm.{StructureForm, structure_of_no, with_value, with_summary}
use Rattle.tv_lex.specs.Token.{SpecToken}
use Rattle.tv_lex.specs.declared.token.Place.{Place}
use Rattle.tv_phrases.specs.declared.error.PhraseError.{PhraseError}
use Rattle.tv_phrases.specs.declared.error.PhraseError.TheVariants as phrase
use Rattle.tv_tvs.specs.declared.error.TvsError.{TvsError}
use Rattle.tv_tvs.specs.declared.error.TvsError.TheVariants.{Syntax, IndividualUnknown, IndividualTwice}
use Rattle.tv_tvs.specs.declared.error.TvsError.TheVariants.{NameUnknown, ArityWrong, BadSm}
use Rattle.tv_tvs.specs.declared.error.TvsError.TheVariants.{TooManyIndividuals, Memory}
use Rattle.tv_tvs.specs.Tree.{ItemTree, ContentTree, OneValue, Listed, EntryTree, StructTree, name_text}
use Rattle.tv_tvs.specs.Grammar.{AreStructs, IsStruct}

-- a vocabulary: at most 512 predicates with different names, of arity 0, 1 or 2
pub record IsVocabulary (vocab : Vocab) : Type 0 where
  pub names : AllPairs ◌≢◌ (map (λ pred. pred.name) vocab.preds)
  pub arities : All (λ pred. pred.arity ≤ 2) vocab.preds
  pub count : length vocab.preds ≤ 512

-- ---- names

-- a name stands among those that were seen or twice
abbrev pub has_twice : (seen names : List (List ℕ)) → Bool
has_twice seen [] = false
has_twice seen (name ∷ names) = is_among seen name || has_twice (seen ++ name ∷ []) names

-- the names, if none stands twice
abbrev pub all_different : List (List ℕ) → Result (List (List ℕ)) TvsError
all_different names = if has_twice [] names then Err IndividualTwice else Ok names

-- ---- entries

-- what an entry speaks of: the summaries, or a predicate, by number, of an arity
pub data Subject : Type 0 where
  Summaries : Subject
  Predicate : (pred arity : ℕ) → Subject

abbrev pub subject_arity : Subject → ℕ
subject_arity Summaries = 1
subject_arity (Predicate pred arity) = arity

abbrev pub arity_at : List Pred → ℕ → ℕ
arity_at preds p = slice_index (map (λ pred. pred.arity) preds) p

abbrev pub predicate_at : List Pred → Option ℕ → Option Subject
predicate_at preds None = None
predicate_at preds (Some p) = Some (Predicate p (arity_at preds p))

abbrev pub subject_of : List Pred → (name : List ℕ) → Option Subject
subject_of preds name =
    if bytes_eq name (codes "sm") then Some Summaries
    else predicate_at preds (number_of (map (λ pred. pred.name) preds) name)

abbrev pub item_arity : ItemTree → ℕ
item_arity item = if is_some item.second then 2 else 1

-- a value fits arity 0, and items of the arity fit another
abbrev pub fits : (arity : ℕ) → ContentTree → Bool
fits arity (OneValue k) = arity == 0
fits arity (Listed items) = not (arity == 0) && list_all (λ item. item_arity item == arity) items

-- an item without a value has 1
abbrev pub item_value : ItemTree → K3
item_value item = unwrap_or item.value Yes

abbrev pub pair_of : (individuals : List (List ℕ)) → (u : ℕ) → Option (List ℕ) → Result (List ℕ) TvsError
pair_of individuals u None = Ok (u ∷ [])
pair_of individuals u (Some w) =
    or_refused (number_of individuals w) IndividualUnknown >>= λ v. Ok (u ∷ v ∷ [])

-- the individuals of an item, by number
abbrev pub tuple_of_item : (individuals : List (List ℕ)) → ItemTree → Result (List ℕ) TvsError
tuple_of_item individuals item =
    or_refused (number_of individuals item.first) IndividualUnknown >>= λ u. pair_of individuals u item.second

-- an individual is a summary or isn't, which is 1/2 or 0
abbrev pub summary_put : StructureForm → ℕ → K3 → Result StructureForm TvsError
summary_put s u No = Ok (with_summary s u false)
summary_put s u Half = Ok (with_summary s u true)
summary_put s u Yes = Err BadSm

abbrev pub value_put : Subject → StructureForm → (tuple : List ℕ) → K3 → Result StructureForm TvsError
value_put Summaries s tuple k = summary_put s (slice_index tuple 0) k
value_put (Predicate p arity) s tuple k = Ok (with_value s p tuple k)

abbrev pub item_put : (individuals : List (List ℕ)) → Subject → StructureForm → ItemTree
    → Result StructureForm TvsError
item_put individuals subject s item =
    tuple_of_item individuals item >>= λ tuple. value_put subject s tuple (item_value item)

-- items in order: of several for one tuple, the last counts
abbrev pub items_put : (individuals : List (List ℕ)) → Subject → StructureForm → List ItemTree
    → Result StructureForm TvsError
items_put individuals subject s [] = Ok s
items_put individuals subject s (item ∷ items) =
    item_put individuals subject s item >>= λ t. items_put individuals subject t items

abbrev pub content_put : (individuals : List (List ℕ)) → Subject → StructureForm → ContentTree
    → Result StructureForm TvsError
content_put individuals subject s (OneValue k) = value_put subject s [] k
content_put individuals subject s (Listed items) = items_put individuals subject s items

abbrev pub fitting_put : (individuals : List (List ℕ)) → Subject → StructureForm → ContentTree
    → Result StructureForm TvsError
fitting_put individuals subject s content =
    if fits (subject_arity subject) content then content_put individuals subject s content else Err ArityWrong

abbrev pub entry_put : List Pred → (individuals : List (List ℕ)) → StructureForm → EntryTree
    → Result StructureForm TvsError
entry_put preds individuals s entry =
    or_refused (subject_of preds (name_text entry.name)) NameUnknown >>= λ subject.
    fitting_put individuals subject s entry.content

abbrev pub entries_put : List Pred → (individuals : List (List ℕ)) → StructureForm → List EntryTree
    → Result StructureForm TvsError
entries_put preds individuals s [] = Ok s
entries_put preds individuals s (entry ∷ entries) =
    entry_put preds individuals s entry >>= λ t. entries_put preds individuals t entries

-- ---- structures

-- the structure that is No everywhere and has no summary
abbrev pub blank : List Pred → (individuals : List (List ℕ)) → StructureForm
blank preds individuals = structure_of_no (length individuals) (map (λ pred. pred.arity) preds)

-- what a structure in a text means: 0 for each tuple and no summary, but for its entries
abbrev pub struct_meant : List Pred → StructTree → Result StructureForm TvsError
struct_meant preds t =
    if nat_lt 256 (length t.individuals) then Err TooManyIndividuals
    else (all_different t.individuals >>= λ individuals. entries_put preds individuals
    (blank preds individuals) t.entries)

abbrev pub structs_meant : List Pred → List StructTree → Result (List StructureForm) TvsError
structs_meant preds [] = Ok []
structs_meant preds (t ∷ ts) = struct_meant preds t >>= λ s. structs_meant preds ts >>= λ ss. Ok (s ∷ ss)

-- ---- what the readers answer

-- the tokens are structures, and this is what they mean
pub record MeansStructs (vocab : Vocab) (tokens : List SpecToken)
    (meaning : Result (List StructureForm) TvsError) : Type 0 where
  pub trees : List StructTree
  pub are : AreStructs tokens trees
  pub meant : structs_meant vocab.preds trees ≡ meaning

-- the tokens are no structures
abbrev pub IsNoText : List SpecToken → Type 0
IsNoText tokens = (trees : List StructTree) → ¬ AreStructs tokens trees

-- why there are no structures
abbrev pub IsStructuresCause : Vocab → List SpecToken → TvsError → Type 0
IsStructuresCause vocab tokens (Syntax place) = IsNoText tokens
IsStructuresCause vocab tokens IndividualUnknown = MeansStructs vocab tokens (Err IndividualUnknown)
IsStructuresCause vocab tokens IndividualTwice = MeansStructs vocab tokens (Err IndividualTwice)
IsStructuresCause vocab tokens NameUnknown = MeansStructs vocab tokens (Err NameUnknown)
IsStructuresCause vocab tokens ArityWrong = MeansStructs vocab tokens (Err ArityWrong)
IsStructuresCause vocab tokens BadSm = MeansStructs vocab tokens (Err BadSm)
IsStructuresCause vocab tokens TooManyIndividuals = MeansStructs vocab tokens (Err TooManyIndividuals)
IsStructuresCause vocab tokens Memory = Unit {0}

-- the place that the error tells
abbrev pub structures_place : TvsError → Option Place
structures_place (Syntax place) = Some place
structures_place other = None

-- the tokens begin with a structure with these behind it, and this is what it means
pub record MeansStruct (vocab : Vocab) (tokens rest : List SpecToken)
    (meaning : Result StructureForm TvsError) : Type 0 where
  pub tree : StructTree
  pub is : IsStruct tokens tree rest
  pub meant : struct_meant vocab.preds tree ≡ meaning

-- no structure begins the tokens
abbrev pub BeginsNone : List SpecToken → Type 0
BeginsNone tokens = (tree : StructTree) (rest : List SpecToken) → ¬ IsStruct tokens tree rest

abbrev pub IsRefusedOne : Vocab → List SpecToken → TvsError → Type 0
IsRefusedOne vocab tokens e = (rest : List SpecToken) × MeansStruct vocab tokens rest (Err e)

-- why there is no first structure
abbrev pub IsCauseOfOne : Vocab → List SpecToken → TvsError → Type 0
IsCauseOfOne vocab tokens (Syntax place) = BeginsNone tokens
IsCauseOfOne vocab tokens IndividualUnknown = IsRefusedOne vocab tokens IndividualUnknown
IsCauseOfOne vocab tokens IndividualTwice = IsRefusedOne vocab tokens IndividualTwice
IsCauseOfOne vocab tokens NameUnknown = IsRefusedOne vocab tokens NameUnknown
IsCauseOfOne vocab tokens ArityWrong = IsRefusedOne vocab tokens ArityWrong
IsCauseOfOne vocab tokens BadSm = IsRefusedOne vocab tokens BadSm
IsCauseOfOne vocab tokens TooManyIndividuals = IsRefusedOne vocab tokens TooManyIndividuals
IsCauseOfOne vocab tokens Memory = Unit {0}

-- ---- what the parts of the reader answer

-- what an answer, seen by view, says of a meaning: the same value, or the same refusal; lack of memory says
-- nothing
abbrev pub RefusesStructures : {X : Type 0} → TvsError → Result X TvsError → Type 0
RefusesStructures (Syntax place) meaning = ⊥
RefusesStructures IndividualUnknown meaning = meaning ≡ Err IndividualUnknown
RefusesStructures IndividualTwice meaning = meaning ≡ Err IndividualTwice
RefusesStructures NameUnknown meaning = meaning ≡ Err NameUnknown
RefusesStructures ArityWrong meaning = meaning ≡ Err ArityWrong
RefusesStructures BadSm meaning = meaning ≡ Err BadSm
RefusesStructures TooManyIndividuals meaning = meaning ≡ Err TooManyIndividuals
RefusesStructures Memory meaning = Unit {0}

-- what becomes of a phrase that wasn't read
abbrev pub Refused : PhraseError → TvsError → Type 0
Refused (phrase.Unexpected at) e = (place : Place) × (e ≡ Syntax place)
Refused phrase.Memory e = e ≡ Memory

abbrev pub Answers : {R X : Type 0} → (R → X) → Result R TvsError → Result X TvsError → Type 0
Answers view (Ok x) meaning = meaning ≡ Ok (view x)
Answers view (Err e) meaning = RefusesStructures e meaning
