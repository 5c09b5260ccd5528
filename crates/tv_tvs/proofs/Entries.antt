-- The canonical tree of a structure means that structure.
use Rattle.std.proofs.Common.{ℕ, zero, suc, ◌≡◌, ◌≢◌, ◌<◌, ◌≤◌, ◌+◌, inl, inr, true, false, not, List, []}
use Rattle.std.proofs.Common.{◌∷◌, ◌++◌, length, map, get_or, Option, Some, None, Result, Ok, Err, refl, sym}
use Rattle.std.proofs.Common.{ap, subst, ◌∙◌, arith, append_assoc, length-append, eqb, ltb}
use Rattle.std.specs.Prelude.{codes, slice_get, slice_index, All, AllPairs}
use Rattle.std.specs.List.{list_all}
use Rattle.std.specs.Str.{bytes_eq}
use Rattle.std.proofs.lemmas.Bool.{ne_eqb, cases_lt, le-ltb, and_from, cond-true}
use Rattle.std.proofs.lemmas.List.{length-map, get_or-map, get_or_at, length-replicate, get_or_append_left}
use Rattle.std.proofs.lemmas.List.FromFn.{length-map-range_with_len, get_or-map-range_with_len}
use Rattle.std.proofs.lemmas.Option.{slice_get-get_or, slice_get_within, get_or_from_slice_get}
use Rattle.tv_lemmas.proofs.Texts.{texts_differ}
use Rattle.tv_kleene.specs.declared.K3.{K3}
use Rattle.tv_kleene.specs.declared.K3.TheVariants.{No, Half, Yes}
use Rattle.tv_model.specs.declared.program.Pred.{Pred}
use Rattle.tv_structure_form.specs.TableForm.{PlaneForm, HasEntry, AreIndividuals}
use Rattle.tv_structure_form.specs.StructureForm.{StructureForm, IsStructure, table_of, arities_of, value_at}
use Rattle.tv_structure_form.specs.StructureForm.{summary_at, with_value, unmarked}
use Rattle.tv_structure_form.proofs.TableLaws.{IsTable-of_no}
use Rattle.tv_structure_form.proofs.StructureLaws.{new_is_no}
use Rattle.tv_tvs.specs.declared.error.TvsError.{TvsError}
use Rattle.tv_tvs.specs.declared.error.TvsError.TheVariants.{NameUnknown, ArityWrong}
use Rattle.tv_tvs.specs.Tree.{NameTree, ItemTree, ContentTree, OneValue, Listed, EntryTree, StructTree}
use Rattle.tv_tvs.specs.Tree.{name_text}
use Rattle.tv_tvs.specs.Canonical.{individual, individuals, tuples, written_items, if_some, value_content}
use Rattle.tv_tvs.specs.Canonical.{content_of, summary_value}
use Rattle.tv_tree.specs.Steps.{◌>>=◌, or_refused}
use Rattle.tv_tree.specs.Names.{number_of}
use Rattle.tv_tvs.specs.Meaning.{Subject, Summaries, Predicate, subject_arity, subject_of, arity_at}
use Rattle.tv_tvs.specs.Meaning.{item_arity, fits, items_put, fitting_put, entry_put, entries_put}
use Rattle.tv_tvs.specs.Meaning.{has_twice, blank, struct_meant}
use Rattle.tv_tvs.proofs.WrittenNumbers.{number_is, not_among, individual_injective}
use Rattle.tv_tvs.proofs.Filled.{IsPart, Grows-same, Grows-then, Step, value_put_again, filled}
use Rattle.tv_tvs.proofs.Again.{IsTuple, tuples_all, items_fit, part_no, has_entry, values_again, marks_again}
use Rattle.tv_tvs.proofs.Again.{tuples_are}

-- ---- the canonical tree

abbrev pub entry_if : NameTree → Option ContentTree → List EntryTree
entry_if n None = []
entry_if n (Some content) = record { name = n; content = content } ∷ []

-- the entries of predicates from a number on, with names for them
abbrev pub pred_entries : StructureForm → ℕ → List Pred → List NameTree → List EntryTree
pred_entries s p [] ns = []
pred_entries s p (pred ∷ preds) [] = []
pred_entries s p (pred ∷ preds) (n ∷ ns) = entry_if n (content_of s.size pred.arity (value_at s p)) ++ pred_entries s (p + 1) preds ns

abbrev pub sm_name : NameTree
sm_name = (codes "sm", [])

abbrev pub canonical_tree : StructureForm → List Pred → List NameTree → StructTree
canonical_tree s preds ns = record {
  individuals = individuals s.size;
  entries = pred_entries s 0 preds ns ++ entry_if sm_name (content_of s.size 1 (summary_value s));
}

-- these are the names of the predicates
abbrev pub AreNames : List NameTree → List Pred → Type 0
AreNames [] [] = Unit {0}
AreNames [] (pred ∷ preds) = ⊥
AreNames (n ∷ ns) [] = ⊥
AreNames (n ∷ ns) (pred ∷ preds) = (name_text n ≡ pred.name) × AreNames ns preds

-- ---- entries

ok_same : {A : Type 0} (x y : A) → ◌≡◌ {A = Result A TvsError} (Ok x) (Ok y) → x ≡ y
ok_same x y e = cc

-- an entry with items, or none where there is no item
listed_put : (all : List Pred) (inds : List (List ℕ)) (c to : StructureForm) (n : NameTree) (subject : Subject) (arity : ℕ) (items : List ItemTree) (es : List EntryTree)
    → subject_of all (name_text n) ≡ Some subject → subject_arity subject ≡ arity → 1 ≤ arity
    → list_all (λ item. eqb (item_arity item) arity) items ≡ true → items_put inds subject c items ≡ Ok to
    → entries_put all inds c (entry_if n (if_some items) ++ es) ≡ entries_put all inds to es
listed_put all inds c to n subject arity [] es known is low fit put = ap (λ d. entries_put all inds d es) (ok_same c to put)
listed_put all inds c to n subject arity (item ∷ items) es known is low fit put =
    let some : eqb arity 0 ≡ false = ne_eqb arity 0 (λ e. omega (arith, e, low))
    in let entry : EntryTree = record { name = n; content = Listed (item ∷ items) }
    in let fitting : fits (subject_arity subject) (Listed (item ∷ items)) ≡ true
    = ap (λ a. fits a (Listed (item ∷ items))) is ∙ and_from (not (eqb arity 0)) (list_all (λ i. eqb (item_arity i) arity) (item ∷ items)) (ap not some) fit
    in let one : entry_put all inds c entry ≡ Ok to
    = ap (λ o. or_refused o NameUnknown >>= λ found. fitting_put inds found c (Listed (item ∷ items))) known
    ∙ cond-true (fits (subject_arity subject) (Listed (item ∷ items))) (items_put inds subject c (item ∷ items)) (Err ArityWrong) fitting ∙ put
    in ap (λ r. r >>= λ d. entries_put all inds d es) one

-- what putting entries comes to
pub record PutEntries (all : List Pred) (inds : List (List ℕ)) (c s : StructureForm) (entries : List EntryTree) (Done : StructureForm → Type 0) : Type 0 where
  pub to : StructureForm
  pub put : (es : List EntryTree) → entries_put all inds c (entries ++ es) ≡ entries_put all inds to es
  pub step : Step c to s
  pub done : Done to

abbrev PredDone : StructureForm → ℕ → ℕ → StructureForm → Type 0
PredDone s p arity d = (t : List ℕ) → IsTuple arity s.size t → value_at d p t ≡ value_at s p t

nullary_again : (all : List Pred) (s : StructureForm) (p : ℕ) (n : NameTree) → subject_of all (name_text n) ≡ Some (Predicate p 0)
    → slice_get (arities_of s) p ≡ Some 0 → (c : StructureForm) → IsPart c s
    → PutEntries all (individuals s.size) c s (entry_if n (value_content (value_at s p []))) (PredDone s p 0)
nullary_again all s p n known has c part = at (value_at s p []) refl
  where
    written : (k : K3) → value_at s p [] ≡ k → PutEntries all (individuals s.size) c s (record { name = n; content = OneValue k } ∷ []) (PredDone s p 0)
    written k e =
        let again = value_put_again c s p [] k part (has_entry c s p [] 0 part has (refl, tt)) (sym e)
        in record {
          to = with_value c p [] k;
          put = λ es. rw known refl;
          step = again.0;
          done = λ t is. tuples_all 0 s.size (λ r. value_at (with_value c p [] k) p r ≡ value_at s p r) (again.1, tt) t is;
        }

    at : (k : K3) → value_at s p [] ≡ k → PutEntries all (individuals s.size) c s (entry_if n (value_content k)) (PredDone s p 0)
    at No e = record {
      to = c;
      put = λ es. refl;
      step = record { part = part; grows = Grows-same c s };
      done = λ t is. tuples_all 0 s.size (λ r. value_at c p r ≡ value_at s p r) (part_no c s p [] part e, tt) t is;
    }
    at Half e = written Half e
    at Yes e = written Yes e

listed_again : (all : List Pred) (s : StructureForm) (p arity : ℕ) (n : NameTree) → subject_of all (name_text n) ≡ Some (Predicate p arity)
    → s.size ≤ 256 → slice_get (arities_of s) p ≡ Some arity → 1 ≤ arity → arity ≤ 2 → (c : StructureForm) → IsPart c s
    → PutEntries all (individuals s.size) c s (entry_if n (if_some (written_items (value_at s p) (tuples arity s.size)))) (PredDone s p arity)
listed_again all s p arity n known small has low high c part =
    let put = values_again s p arity small has low high c part
    in record {
      to = put.to;
      put = λ es. listed_put all (individuals s.size) c put.to n (Predicate p arity) arity (written_items (value_at s p) (tuples arity s.size)) es known refl low
          (items_fit s.size arity (value_at s p) small low high (tuples arity s.size) (tuples_are arity s.size)) put.put;
      step = put.step;
      done = λ t is. tuples_all arity s.size (λ r. value_at put.to p r ≡ value_at s p r) put.done t is;
    }

pred_again : (all : List Pred) (s : StructureForm) (p arity : ℕ) (n : NameTree) → subject_of all (name_text n) ≡ Some (Predicate p arity)
    → s.size ≤ 256 → slice_get (arities_of s) p ≡ Some arity → arity ≤ 2 → (c : StructureForm) → IsPart c s
    → PutEntries all (individuals s.size) c s (entry_if n (content_of s.size arity (value_at s p))) (PredDone s p arity)
pred_again all s p zero n known small has high c part = nullary_again all s p n known has c part
pred_again all s p (suc m) n known small has high c part = listed_again all s p (suc m) n known small has (omega arith) high c part

-- a vocabulary in which no predicate is named `sm`
pub record IsPlain (all : List Pred) : Type 0 where
  pub names : AllPairs ◌≢◌ (map (λ pred. pred.name) all)
  pub arities : All (λ pred. pred.arity ≤ 2) all
  pub no_sm : All (λ pred. pred.name ≢ codes "sm") all

-- a predicate is found by its name
subject_again : (all before preds : List Pred) (pred : Pred) (p : ℕ) → IsPlain all → all ≡ before ++ pred ∷ preds → length before ≡ p
    → subject_of all pred.name ≡ Some (Predicate p pred.arity)
subject_again all before preds pred p plain split count =
    let lt : p < length all = rw (split, length-append before (pred ∷ preds)) (omega (arith, count))
    in let here : get_or all p pred ≡ pred = ap (λ ps. get_or ps p pred) split ∙ get_or_at before pred preds pred p count
    in let named : get_or (map (λ q. q.name) all) p [] ≡ pred.name = get_or-map (λ q. q.name) all p pred [] lt ∙ ap (λ q. q.name) here
    in let within : p < length (map (λ q. q.name) all) = rw (length-map all (λ q. q.name)) lt
    in let not_sm : bytes_eq pred.name (codes "sm") ≡ false = texts_differ pred.name (codes "sm") (subst (λ q. q.name ≢ codes "sm") here (plain.no_sm p pred lt))
    in let number : number_of (map (λ q. q.name) all) pred.name ≡ Some p = number_is (map (λ q. q.name) all) p pred.name within named (λ k less e. plain.names k p [] less within (e ∙ sym named))
    in let arity : arity_at all p ≡ pred.arity = get_or-map (λ q. q.arity) all p pred 0 lt ∙ ap (λ q. q.arity) here
    in rw (not_sm, number, arity) refl

abbrev FromDone : List Pred → StructureForm → ℕ → StructureForm → Type 0
FromDone all s p d = (i : ℕ) → p ≤ i → i < length all → (t : List ℕ) → IsTuple (arity_at all i) s.size t → value_at d i t ≡ value_at s i t

-- the entries of all predicates from one on
preds_again : (all before preds : List Pred) (ns : List NameTree) (s : StructureForm) (p : ℕ) → IsPlain all → s.size ≤ 256
    → arities_of s ≡ map (λ pred. pred.arity) all → AreNames ns preds → all ≡ before ++ preds → length before ≡ p
    → (c : StructureForm) → IsPart c s
    → PutEntries all (individuals s.size) c s (pred_entries s p preds ns) (FromDone all s p)
preds_again all before [] ns s p plain small over named split count c part = record {
  to = c;
  put = λ es. refl;
  step = record { part = part; grows = Grows-same c s };
  done = λ i low high t is. absurd (let e : length all ≡ length before = ap length split ∙ length-append before [] ∙ omega arith in omega (arith, e, count, low, high));
}
preds_again all before (pred ∷ preds) [] s p plain small over named split count c part = absurd named
preds_again all before (pred ∷ preds) (n ∷ ns) s p plain small over named split count c part =
    let lt : p < length all = rw (split, length-append before (pred ∷ preds)) (omega (arith, count))
    in let here : get_or all p pred ≡ pred = ap (λ ps. get_or ps p pred) split ∙ get_or_at before pred preds pred p count
    in let arity : arity_at all p ≡ pred.arity = get_or-map (λ q. q.arity) all p pred 0 lt ∙ ap (λ q. q.arity) here
    in let high : pred.arity ≤ 2 = subst (λ q. q.arity ≤ 2) here (plain.arities p pred lt)
    in let has : slice_get (arities_of s) p ≡ Some pred.arity
    = ap (λ as'. slice_get as' p) over ∙ slice_get-get_or (map (λ q. q.arity) all) p 0 (rw (length-map all (λ q. q.arity)) lt) ∙ ap Some arity
    in let known : subject_of all (name_text n) ≡ Some (Predicate p pred.arity) = ap (subject_of all) named.0 ∙ subject_again all before preds pred p plain split count
    in let first = pred_again all s p pred.arity n known small has high c part
    in let next : length (before ++ pred ∷ []) ≡ p + 1 = length-append before (pred ∷ []) ∙ omega (arith, count)
    in let later = preds_again all (before ++ pred ∷ []) preds ns s (p + 1) plain small over named.1 (split ∙ sym (append_assoc before (pred ∷ []) preds)) next first.to first.step.part
    in record {
      to = later.to;
      put = λ es. ap (entries_put all (individuals s.size) c) (append_assoc (entry_if n (content_of s.size pred.arity (value_at s p))) (pred_entries s (p + 1) preds ns) es)
          ∙ first.put (pred_entries s (p + 1) preds ns ++ es) ∙ later.put es;
      step = record { part = later.step.part; grows = Grows-then c first.to later.to s first.step.grows later.step.grows };
      done = λ i low within t is. elim (cases_lt p i) [
        | inl less ↦ later.done i (omega (arith, less)) within t is
        | inr ge ↦
            let same : i ≡ p = omega (arith, low, ge)
            in let is_p : IsTuple pred.arity s.size t = subst (λ a. IsTuple a s.size t) (ap (arity_at all) same ∙ arity) is
            in ap (λ j. value_at later.to j t) same ∙ later.step.grows.values p t (first.done t is_p) ∙ sym (ap (λ j. value_at s j t) same)
      ];
    }

-- the entry of the summaries
sm_again : (all : List Pred) (s : StructureForm) → s.size ≤ 256 → (c : StructureForm) → IsPart c s
    → PutEntries all (individuals s.size) c s (entry_if sm_name (content_of s.size 1 (summary_value s))) (λ d. (u : ℕ) → u < s.size → summary_at d u ≡ summary_at s u)
sm_again all s small c part =
    let put = marks_again s small c part
    in record {
      to = put.to;
      put = λ es. listed_put all (individuals s.size) c put.to sm_name Summaries 1 (written_items (summary_value s) (tuples 1 s.size)) es refl refl (omega arith)
          (items_fit s.size 1 (summary_value s) small (omega arith) (omega arith) (tuples 1 s.size) (tuples_are 1 s.size)) put.put;
      step = put.step;
      done = λ u lt. tuples_all 1 s.size (λ r. summary_at put.to (slice_index r 0) ≡ summary_at s (slice_index r 0)) put.done (u ∷ []) (refl, (lt, tt));
    }

-- ---- individuals

twice_none : (all seen names : List (List ℕ)) → all ≡ seen ++ names → ((i j : ℕ) → i < j → j < length all → get_or all i [] ≡ get_or all j [] → ⊥) → has_twice seen names ≡ false
twice_none all seen [] split apart = refl
twice_none all seen (name ∷ names) split apart =
    let lt : length seen < length all = rw (split, length-append seen (name ∷ names)) (omega arith)
    in let here : get_or all (length seen) [] ≡ name = ap (λ xs. get_or xs (length seen) []) split ∙ get_or_at seen name names [] (length seen) refl
    in let new = not_among seen name (λ k less e.
    apart k (length seen) less lt (ap (λ xs. get_or xs k []) split ∙ get_or_append_left seen (name ∷ names) [] k less ∙ e ∙ sym here))
    in rw (new) (twice_none all (seen ++ name ∷ []) names (split ∙ sym (append_assoc seen (name ∷ []) names)) apart)

individuals_differ : (size : ℕ) → size ≤ 256 → has_twice [] (individuals size) ≡ false
individuals_differ size small =
    twice_none (individuals size) [] (individuals size) refl
    (λ i j less lt e.
    let within : j < size = rw (← length-map-range_with_len individual 0 size) lt
    in let same : i ≡ j = individual_injective i j (omega (arith, less, within, small)) (omega (arith, within, small))
    (sym (get_or-map-range_with_len individual 0 size i i [] (omega (arith, less, within)) (omega arith)) ∙ e
    ∙ get_or-map-range_with_len individual 0 size j j [] within (omega arith))
    in omega (arith, same, less))

-- ---- the whole tree

blank_part : (s : StructureForm) (all : List Pred) → IsStructure s → All (λ pred. pred.arity ≤ 2) all → arities_of s ≡ map (λ pred. pred.arity) all
    → IsPart (blank all (individuals s.size)) s
blank_part s all is high over =
    let count : length (individuals s.size) ≡ s.size = length-map-range_with_len individual 0 s.size
    in let few : length (map (λ (pred : Pred). pred.arity) all) ≤ 4294967295
    = omega (arith, is.table.predicates, ap length over, length-map s.planes (λ (plane : PlaneForm). plane.arity))
    in let no = new_is_no (length (individuals s.size)) (map (λ pred. pred.arity) all)
    in record {
      is = record {
        table = IsTable-of_no (length (individuals s.size)) (map (λ pred. pred.arity) all) (rw count is.table.size) few (mapped all high);
        summaries = length-replicate (length (individuals s.size)) false;
        fresh = tt;
      };
      size = count;
      arities = no.over ∙ sym over;
      fresh = refl;
      values = λ p t. inl (no.values p t);
      marks = λ u. inl (no.summaries u);
    }
  where
    mapped : (all : List Pred) → All (λ pred. pred.arity ≤ 2) all → All (λ arity. arity ≤ 2) (map (λ pred. pred.arity) all)
    mapped all high k d lt =
        let within : k < length all = rw (← length-map all (λ (pred : Pred). pred.arity)) lt
        in at all high k d within
      where
        at : (all : List Pred) → All (λ pred. pred.arity ≤ 2) all → (k d : ℕ) → k < length all → get_or (map (λ pred. pred.arity) all) k d ≤ 2
        at [] high k d lt = absurd (omega arith)
        at (pred ∷ preds) high zero d lt = high 0 pred (omega arith)
        at (pred ∷ preds) high (suc k) d lt = at preds (λ i e within. high (suc i) e (omega (arith, within))) k d (omega arith)

pub tree_again : (s : StructureForm) (all : List Pred) (ns : List NameTree) → IsStructure s → IsPlain all → arities_of s ≡ map (λ pred. pred.arity) all
    → AreNames ns all → struct_meant all (canonical_tree s all ns) ≡ Ok (unmarked s)
tree_again s all ns is plain over named =
    let inds : List (List ℕ) = individuals s.size
    in let start : StructureForm = blank all inds
    in let part = blank_part s all is plain.arities over
    in let preds = preds_again all [] all ns s 0 plain is.table.size over named refl refl start part
    in let sm = sm_again all s is.table.size preds.to preds.step.part
    in let sm_entries : List EntryTree = entry_if sm_name (content_of s.size 1 (summary_value s))
    in let put : entries_put all inds start (pred_entries s 0 all ns ++ sm_entries) ≡ Ok sm.to
    = preds.put sm_entries ∙ ap (entries_put all inds preds.to) (sym (append_nil sm_entries)) ∙ sm.put []
    in let same : sm.to ≡ unmarked s = filled sm.to s is sm.step.part
    (λ p t has. values preds.to sm.to preds.done sm.step p t has) (λ u lt. sm.done u (rw (← sm.step.part.size) lt))
    in let few : ltb 256 (length inds) ≡ false = not_lt (length inds) (rw (length-map-range_with_len individual 0 s.size) is.table.size)
    in rw (few, individuals_differ s.size is.table.size, put) (ap Ok same)
  where
    append_nil : {X : Type 0} (xs : List X) → xs ++ [] ≡ xs
    append_nil [] = refl
    append_nil (x ∷ xs) = ap (λ ys. x ∷ ys) (append_nil xs)

    not_lt : (n : ℕ) → n ≤ 256 → ltb 256 n ≡ false
    not_lt n le = le-ltb 256 n le

    values : (c d : StructureForm) → FromDone all s 0 c → Step c d s → (p : ℕ) (t : List ℕ) → HasEntry (table_of d) p t → value_at d p t ≡ value_at s p t
    values c d done step p t has =
        let known : slice_get (map (λ pred. pred.arity) all) p ≡ Some (length t) = ap (λ as'. slice_get as' p) (sym over ∙ sym step.part.arities) ∙ has.arity
        in let lt : p < length all = rw (← length-map all (λ (pred : Pred). pred.arity)) (slice_get_within (map (λ pred. pred.arity) all) p (length t) known)
        in let arity : arity_at all p ≡ length t = get_or_from_slice_get (map (λ pred. pred.arity) all) p (length t) 0 known
        in step.grows.values p t (done p (omega arith) lt t (sym arity, subst (λ n. AreIndividuals n t) step.part.size has.individuals))
