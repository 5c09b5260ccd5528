-- A line tells the structure.
use Rattle.std.proofs.Common.{◌≡◌, ◌≢◌, ℕ, zero, suc, ◌<◌, ◌≤◌, ◌+◌, Bool, true, false, List, [], ◌∷◌, ◌++◌}
use Rattle.std.proofs.Common.{map, length}
use Rattle.std.proofs.Common.{Option, Some, None, refl, sym, ap, subst, ◌∙◌, inl, arith, get_or, append_assoc}
use Rattle.std.specs.Prelude.{codes, All, AllPairs, Contains, slice_get}
use Rattle.std.specs.List.{AllByRecursion, range_with_len}
use Rattle.std.proofs.lemmas.List.FromFn.{length-map-range_with_len, get_or-map-range_with_len}
use Rattle.std.proofs.lemmas.List.Elements.{recursion_from_All}
use Rattle.tv_kleene.specs.declared.K3.{K3}
use Rattle.tv_lemmas.proofs.Lists.{range_below}
use Rattle.tv_model.proofs.Lists.{All-from_contains, Contains-map_back, Contains-flat_map_back}
use Rattle.tv_model.specs.Program.{PredForm, pred_of, program_of}
use Rattle.tv_model.specs.Valid.{IsPred, IsValid}
use Rattle.tv_model.specs.declared.program.Pred.{Pred}
use Rattle.tv_model.specs.declared.program.Program.{Program}
use Rattle.tv_model.proofs.Parts.{names-same}
use Rattle.tv_structure_form.specs.TableForm.{HasEntry}
use Rattle.tv_structure_form.specs.StructureForm.{StructureForm, IsStructure, arities_of, table_of, value_at}
use Rattle.tv_structure_form.specs.StructureForm.{summary_at, unmarked}
use Rattle.tv_struct.specs.StructureRows.{unary_row}
use Rattle.tv_structure_form.proofs.StructureLaws.{same_structure}
use Rattle.tv_show.specs.Texts.{marked, joined, valued, arrow_text, of_arity}
use Rattle.tv_show.specs.Line.{opening, closing, telling, called, numbered, unary_texts, node_text}
use Rattle.tv_show.specs.Line.{target_text, row_texts, arrow_texts, individual_text, nullary_texts}
use Rattle.tv_show.specs.Laws.{LinesTellStructures}
use Rattle.tv_show.proofs.Parted.{FreeOf, AllFreeOf, IsFull, Opens, free_append, free_shut, all_append}
use Rattle.tv_show.proofs.Parted.{joined_free, marked_tells, joined_tells, sections, cut}
use Rattle.tv_show.proofs.Spelt.{IsOther, name_free, name_full, decimal_free}
use Rattle.tv_show.proofs.Told.{AreNamed, Saying, of_arity_out, valued_free, valued_full, values_tell}
use Rattle.tv_show.proofs.Told.{arrows_tell, row_said}
use Rattle.tv_show.proofs.Callings.{told_free, called_tells, rows_same, telling_same}

-- ---- the predicates of a valid program

all_at : (P : PredForm → Type 0) (preds : List Pred) → All P (map pred_of preds) → (k : ℕ) (pred : Pred) → slice_get preds k ≡ Some pred
    → P (pred_of pred)
all_at P [] all k pred at = absurd (cc at)
all_at P (x ∷ preds) all zero pred at =
    let same : x ≡ pred = cc at
    in let At : Pred → Type 0 = λ y. P (pred_of y)
    in subst At same (all 0 (pred_of x) (omega arith))
all_at P (x ∷ preds) all (suc k) pred at = all_at P preds (λ j d lt. all (suc j) d (omega (arith, lt))) k pred at

named : (p : Program) → IsValid (program_of p) → AreNamed p.vocab.preds
named p valid = record {
  differ = subst (AllPairs ◌≢◌) (names-same p.vocab.preds) valid.pred_names_differ;
  named = λ k pred at. (all_at (IsPred (program_of p)) p.vocab.preds valid.preds k pred at).name.0;
  low = λ k pred at. (all_at (IsPred (program_of p)) p.vocab.preds valid.preds k pred at).arity;
}

-- the predicate at a place whose arity is known
arity_at : (preds : List Pred) (k n : ℕ) → slice_get (map (λ (pred : Pred). pred.arity) preds) k ≡ Some n
    → (pred : Pred) × (slice_get preds k ≡ Some pred) × (pred.arity ≡ n)
arity_at [] k n at = absurd (cc at)
arity_at (x ∷ preds) zero n at = let same : x.arity ≡ n = cc at in (x, refl, same)
arity_at (x ∷ preds) (suc k) n at = arity_at preds k n at

-- ---- the bytes of what is said

-- a byte that parts the texts of a line
abbrev IsParting : ℕ → Type 0
IsParting c = (c < 40) × (35 ≡ c → ⊥)

parting_other : (c : ℕ) → IsParting c → IsOther c
parting_other c parts = inl (inl (omega (arith, parts.0)))

opening_free : (c : ℕ) → (40 ≡ c → ⊥) → (b : Bool) → FreeOf c (opening b)
opening_free c apart true = (apart, (apart, tt))
opening_free c apart false = (apart, tt)

closing_free : (c : ℕ) → (41 ≡ c → ⊥) → (b : Bool) → FreeOf c (closing b)
closing_free c apart true = (apart, (apart, tt))
closing_free c apart false = (apart, tt)

numbered_free : (c : ℕ) → IsOther c → (35 ≡ c → ⊥) → (u : ℕ) → u < 256 → (o : Option (List ℕ)) → AllFreeOf c (numbered u o)
numbered_free c other hash u small None = ((hash, decimal_free c other u (omega (arith, small))), tt)
numbered_free c other hash u small (Some name) = tt

numbered_full : (u : ℕ) (o : Option (List ℕ)) → AllByRecursion IsFull (numbered u o)
numbered_full u None = (tt, tt)
numbered_full u (Some name) = tt

numbered_open : (u : ℕ) (o : Option (List ℕ)) → AllByRecursion (Opens 35) (numbered u o)
numbered_open u None = (refl, tt)
numbered_open u (Some name) = tt

all_mapped : {X : Type 0} (P : X → Type 0) (f : ℕ → X) (n : ℕ) → ((u : ℕ) → u < n → P (f u))
    → AllByRecursion P (map f (range_with_len 0 n))
all_mapped P f n each =
    recursion_from_All P (map f (range_with_len 0 n))
    (All-from_contains P (map f (range_with_len 0 n)) (λ x there.
    let from = Contains-map_back f (range_with_len 0 n) x there
    in let below = range_below 0 n from.0 from.1
    in subst P from.2 (each from.0 (omega (arith, below)))))

-- the texts of a line
abbrev texts_of : List Pred → StructureForm → List (List ℕ)
texts_of preds s = map (individual_text preds s) (range_with_len 0 s.size) ++ nullary_texts preds s

opens_40 : (b : Bool) (x y : List ℕ) → Opens 40 ((opening b ++ x) ++ y)
opens_40 true x y = refl
opens_40 false x y = refl

-- what stands in parentheses, and behind them
closed_tells : (j k a b : List ℕ) → FreeOf 41 j → FreeOf 41 k → (c : List ℕ) → (j ++ 41 ∷ c) ++ a ≡ (k ++ 41 ∷ c) ++ b
    → (j ≡ k) × ((41 ∷ c) ++ a ≡ (41 ∷ c) ++ b)
closed_tells j k a b fj fk c same =
    cut (λ x. x ≡ 41) j k ((41 ∷ c) ++ a) ((41 ∷ c) ++ b) fj fk refl refl
    (sym (append_assoc j (41 ∷ c) a) ∙ same ∙ append_assoc k (41 ∷ c) b)

one_open : (j a c : List ℕ) (rest : List ℕ) → FreeOf 40 j → (j ++ 41 ∷ c) ++ a ≡ 40 ∷ rest → ⊥
one_open [] a c rest free same = let e : ◌≡◌ {A = ℕ} 41 40 = cc same in omega (arith, e)
one_open (x ∷ j) a c rest free same = let e : x ≡ 40 = cc same in free.0 e

enclosed_tells : (f g : Bool) (j k a b : List ℕ) → FreeOf 40 j → FreeOf 40 k → FreeOf 41 j → FreeOf 41 k
    → (opening f ++ (j ++ closing f)) ++ a ≡ (opening g ++ (k ++ closing g)) ++ b → (f ≡ g) × (j ≡ k) × (a ≡ b)
enclosed_tells false false j k a b oj ok fj fk same =
    let inner : (j ++ 41 ∷ []) ++ a ≡ (k ++ 41 ∷ []) ++ b = cc same
    in let parts = closed_tells j k a b fj fk [] inner
    in let behind : a ≡ b = cc parts.1
    in (refl, parts.0, behind)
enclosed_tells false true j k a b oj ok fj fk same =
    let inner : (j ++ 41 ∷ []) ++ a ≡ 40 ∷ ((k ++ 41 ∷ 41 ∷ []) ++ b) = cc same
    in absurd (one_open j a [] ((k ++ 41 ∷ 41 ∷ []) ++ b) oj inner)
enclosed_tells true false j k a b oj ok fj fk same =
    let inner : (k ++ 41 ∷ []) ++ b ≡ 40 ∷ ((j ++ 41 ∷ 41 ∷ []) ++ a) = cc same
    in absurd (one_open k b [] ((j ++ 41 ∷ 41 ∷ []) ++ a) ok inner)
enclosed_tells true true j k a b oj ok fj fk same =
    let inner : (j ++ 41 ∷ 41 ∷ []) ++ a ≡ (k ++ 41 ∷ 41 ∷ []) ++ b = cc same
    in let parts = closed_tells j k a b fj fk (41 ∷ []) inner
    in let behind : a ≡ b = cc parts.1
    in (refl, parts.0, behind)

module _ (preds : List Pred) (are : AreNamed preds) where
  all_said : (P : List ℕ → Type 0) (arity : ℕ) (say : Saying)
      → ((n : ℕ) (pred : Pred) (place : ℕ) → slice_get preds place ≡ Some pred → (text : List ℕ) → Contains (say n pred.name) text → P text)
      → AllByRecursion P (of_arity arity say 0 preds)
  all_said P arity say each =
      recursion_from_All P (of_arity arity say 0 preds)
      (All-from_contains P (of_arity arity say 0 preds) (λ text there.
      let said = of_arity_out arity say 0 preds text there
      in each (0 + said.place) said.pred said.place said.at text said.says))

  values_free : (c : ℕ) → IsOther c → (63 ≡ c → ⊥) → (arity : ℕ) (v : ℕ → K3)
      → AllFreeOf c (of_arity arity (λ p name. valued name (v p)) 0 preds)
  values_free c other mark arity v =
      all_said (FreeOf c) arity (λ p name. valued name (v p))
      (λ n pred place at text there. valued_free c pred.name (v n) text (name_free c other pred.name (are.named place pred at)) mark there)

  values_shut : (c : ℕ) → IsOther c → (63 ≡ c → ⊥) → (arity : ℕ) (v : ℕ → K3)
      → AllByRecursion (λ t. Opens c t → ⊥) (of_arity arity (λ p name. valued name (v p)) 0 preds)
  values_shut c other mark arity v =
      all_said (λ t. Opens c t → ⊥) arity (λ p name. valued name (v p))
      (λ n pred place at text there.
      free_shut c text (valued_free c pred.name (v n) text (name_free c other pred.name (are.named place pred at)) mark there))

  values_full : (arity : ℕ) (v : ℕ → K3) → AllByRecursion IsFull (of_arity arity (λ p name. valued name (v p)) 0 preds)
  values_full arity v =
      all_said IsFull arity (λ p name. valued name (v p))
      (λ n pred place at text there. valued_full pred.name (v n) text (name_full pred.name (are.named place pred at)) there)

  -- ---- individuals

  called_free : (c : ℕ) → IsOther c → (35 ≡ c → ⊥) → (s : StructureForm) (u : ℕ) → u < 256
      → FreeOf c (called u (telling s u 0 preds))
  called_free c other hash s u small = go (telling s u 0 preds) refl
    where
      go : (o : Option (List ℕ)) → telling s u 0 preds ≡ o → FreeOf c (called u o)
      go None is = (hash, decimal_free c other u (omega (arith, small)))
      go (Some name) is = told_free preds are c other s u name is

  items_free : (c : ℕ) → IsOther c → (35 ≡ c → ⊥) → (63 ≡ c → ⊥) → (s : StructureForm) (u : ℕ) → u < 256
      → AllFreeOf c (numbered u (telling s u 0 preds) ++ unary_texts preds s u)
  items_free c other hash mark s u small =
      all_append (FreeOf c) (numbered u (telling s u 0 preds)) (unary_texts preds s u)
      (numbered_free c other hash u small (telling s u 0 preds))
      (values_free c other mark 1 (λ p. value_at s p (u ∷ [])))

  items_full : (s : StructureForm) (u : ℕ) → AllByRecursion IsFull (numbered u (telling s u 0 preds) ++ unary_texts preds s u)
  items_full s u =
      all_append IsFull (numbered u (telling s u 0 preds)) (unary_texts preds s u) (numbered_full u (telling s u 0 preds))
      (values_full 1 (λ p. value_at s p (u ∷ [])))

  target_free : (c : ℕ) → IsParting c → (s : StructureForm) (u : ℕ) → u < 256 → FreeOf c (target_text preds s u)
  target_free c parts s u small =
      free_append (λ b. b ≡ c) (opening (summary_at s u)) (called u (telling s u 0 preds) ++ closing (summary_at s u))
      (opening_free c (λ e. omega (arith, e, parts.0)) (summary_at s u))
      (free_append (λ b. b ≡ c) (called u (telling s u 0 preds)) (closing (summary_at s u))
      (called_free c (parting_other c parts) parts.1 s u small) (closing_free c (λ e. omega (arith, e, parts.0)) (summary_at s u)))

  -- ---- arrows

  each_arrow : (P : List ℕ → Type 0) (s : StructureForm) (u : ℕ)
      → ((n : ℕ) (pred : Pred) (place : ℕ) → slice_get preds place ≡ Some pred → (w : ℕ) → w < s.size → (m : List ℕ)
      → Contains (valued pred.name (value_at s n (u ∷ w ∷ []))) m → P (arrow_text m (target_text preds s w)))
      → AllByRecursion P (arrow_texts preds s u)
  each_arrow P s u each =
      all_said P 2 (row_texts preds s u) (λ n pred place at text there.
      let row = Contains-flat_map_back (λ w. map (λ m. arrow_text m (target_text preds s w)) (valued pred.name (value_at s n (u ∷ w ∷ []))))
      (range_with_len 0 s.size) text there
      in let w = row.0
      in let below = range_below 0 s.size w row.1
      in let arrow = Contains-map_back (λ m. arrow_text m (target_text preds s w)) (valued pred.name (value_at s n (u ∷ w ∷ []))) text row.2
      in subst P arrow.2 (each n pred place at w (omega (arith, below)) arrow.0 arrow.1))

  arrows_free : (c : ℕ) → IsParting c → (s : StructureForm) → s.size ≤ 256 → (u : ℕ) → AllFreeOf c (arrow_texts preds s u)
  arrows_free c parts s few u =
      each_arrow (FreeOf c) s u (λ n pred place at w lt m there. (
        (λ e. omega (arith, e, parts.0)),
        free_append (λ b. b ≡ c) m (codes "->" ++ target_text preds s w)
            (valued_free c pred.name (value_at s n (u ∷ w ∷ [])) m (name_free c (parting_other c parts) pred.name (are.named place pred at))
            (λ e. omega (arith, e, parts.0)) there)
            ((λ e. omega (arith, e, parts.0)), ((λ e. omega (arith, e, parts.0)), target_free c parts s w (omega (arith, lt, few)))),
      ))

  arrows_full : (s : StructureForm) (u : ℕ) → AllByRecursion IsFull (arrow_texts preds s u)
  arrows_full s u = each_arrow IsFull s u (λ n pred place at w lt m there. tt)

  individual_free : (s : StructureForm) → s.size ≤ 256 → (u : ℕ) → u < s.size → FreeOf 32 (individual_text preds s u)
  individual_free s few u lt =
      let items = numbered u (telling s u 0 preds) ++ unary_texts preds s u
      in free_append (λ b. b ≡ 32) (node_text preds s u) (joined (arrow_texts preds s u))
      (free_append (λ b. b ≡ 32) (opening (summary_at s u)) (joined items ++ closing (summary_at s u))
      (opening_free 32 (λ e. omega (arith, e)) (summary_at s u))
      (free_append (λ b. b ≡ 32) (joined items) (closing (summary_at s u))
      (joined_free 32 items ((λ e. omega (arith, e)), tt)
      (items_free 32 (inl (inl (omega arith))) (λ e. omega (arith, e)) (λ e. omega (arith, e)) s u (omega (arith, lt, few))))
      (closing_free 32 (λ e. omega (arith, e)) (summary_at s u))))
      (joined_free 32 (arrow_texts preds s u) ((λ e. omega (arith, e)), tt) (arrows_free 32 (omega arith, (λ e. omega (arith, e))) s few u))

  -- ---- the parts of a line

  line_free : (s : StructureForm) → s.size ≤ 256 → AllFreeOf 32 (texts_of preds s)
  line_free s few =
      all_append (FreeOf 32) (map (individual_text preds s) (range_with_len 0 s.size)) (nullary_texts preds s)
      (all_mapped (FreeOf 32) (individual_text preds s) s.size (individual_free s few))
      (values_free 32 (inl (inl (omega arith))) (λ e. omega (arith, e)) 0 (λ p. value_at s p []))

  -- what stands in an individual's parentheses
  said_free : (c : ℕ) → IsOther c → (35 ≡ c → ⊥) → (63 ≡ c → ⊥) → (38 ≡ c → ⊥) → (s : StructureForm) (u : ℕ) → u < 256
      → FreeOf c (joined (numbered u (telling s u 0 preds) ++ unary_texts preds s u))
  said_free c other hash mark amp s u small =
      joined_free c (numbered u (telling s u 0 preds) ++ unary_texts preds s u) (amp, tt) (items_free c other hash mark s u small)

  said_plain : (s : StructureForm) (u : ℕ) → u < 256
      → FreeOf 40 (joined (numbered u (telling s u 0 preds) ++ unary_texts preds s u))
      × FreeOf 41 (joined (numbered u (telling s u 0 preds) ++ unary_texts preds s u))
  said_plain s u small = (
    said_free 40 (inl (inl (omega arith))) (λ e. omega (arith, e)) (λ e. omega (arith, e)) (λ e. omega (arith, e)) s u small,
    said_free 41 (inl (inl (omega arith))) (λ e. omega (arith, e)) (λ e. omega (arith, e)) (λ e. omega (arith, e)) s u small,
  )

  called_plain : (s : StructureForm) (u : ℕ) → u < 256
      → FreeOf 40 (called u (telling s u 0 preds)) × FreeOf 41 (called u (telling s u 0 preds))
  called_plain s u small = (
    called_free 40 (inl (inl (omega arith))) (λ e. omega (arith, e)) s u small,
    called_free 41 (inl (inl (omega arith))) (λ e. omega (arith, e)) s u small,
  )

-- ---- two structures with one line

module _ (preds : List Pred) (are : AreNamed preds) (s t : StructureForm) (few_s : s.size ≤ 256) (few_t : t.size ≤ 256)
    (line : marked (codes "  ") (texts_of preds s) ≡ marked (codes "  ") (texts_of preds t)) where
  both : (map (individual_text preds s) (range_with_len 0 s.size) ≡ map (individual_text preds t) (range_with_len 0 t.size))
      × (nullary_texts preds s ≡ nullary_texts preds t)
  both =
      sections 40 (map (individual_text preds s) (range_with_len 0 s.size)) (map (individual_text preds t) (range_with_len 0 t.size))
      (nullary_texts preds s) (nullary_texts preds t)
      (all_mapped (Opens 40) (individual_text preds s) s.size (λ u lt. opens_40 (summary_at s u) _ (joined (arrow_texts preds s u))))
      (all_mapped (Opens 40) (individual_text preds t) t.size (λ u lt. opens_40 (summary_at t u) _ (joined (arrow_texts preds t u))))
      (values_shut preds are 40 (inl (inl (omega arith))) (λ e. omega (arith, e)) 0 (λ p. value_at s p []))
      (values_shut preds are 40 (inl (inl (omega arith))) (λ e. omega (arith, e)) 0 (λ p. value_at t p []))
      (marked_tells 32 (32 ∷ []) (texts_of preds s) (texts_of preds t) (line_free preds are s few_s) (line_free preds are t few_t) line)

  sizes : s.size ≡ t.size
  sizes =
      sym (length-map-range_with_len (individual_text preds s) 0 s.size) ∙ ap length both.0
      ∙ length-map-range_with_len (individual_text preds t) 0 t.size

  individuals : (u : ℕ) → u < s.size → individual_text preds s u ≡ individual_text preds t u
  individuals u lt =
      sym (get_or-map-range_with_len (individual_text preds s) 0 s.size u u [] lt (omega arith))
      ∙ ap (λ texts. get_or texts u []) both.0
      ∙ get_or-map-range_with_len (individual_text preds t) 0 t.size u u [] (omega (arith, lt, sizes)) (omega arith)

  parts : (u : ℕ) → u < s.size → (summary_at s u ≡ summary_at t u)
      × (joined (numbered u (telling s u 0 preds) ++ unary_texts preds s u) ≡ joined (numbered u (telling t u 0 preds) ++ unary_texts preds t u))
      × (joined (arrow_texts preds s u) ≡ joined (arrow_texts preds t u))
  parts u lt =
      let small : u < 256 = omega (arith, lt, few_s)
      in enclosed_tells (summary_at s u) (summary_at t u) (joined (numbered u (telling s u 0 preds) ++ unary_texts preds s u))
      (joined (numbered u (telling t u 0 preds) ++ unary_texts preds t u)) (joined (arrow_texts preds s u)) (joined (arrow_texts preds t u))
      (said_plain preds are s u small).0 (said_plain preds are t u small).0 (said_plain preds are s u small).1 (said_plain preds are t u small).1
      (individuals u lt)

  unaries : (u : ℕ) → u < s.size → unary_texts preds s u ≡ unary_texts preds t u
  unaries u lt =
      let small : u < 256 = omega (arith, lt, few_s)
      in let items = joined_tells (numbered u (telling s u 0 preds) ++ unary_texts preds s u) (numbered u (telling t u 0 preds) ++ unary_texts preds t u)
      (items_free preds are 38 (inl (inl (omega arith))) (λ e. omega (arith, e)) (λ e. omega (arith, e)) s u small)
      (items_free preds are 38 (inl (inl (omega arith))) (λ e. omega (arith, e)) (λ e. omega (arith, e)) t u small)
      (items_full preds are s u) (items_full preds are t u) (parts u lt).1
      in (sections 35 (numbered u (telling s u 0 preds)) (numbered u (telling t u 0 preds)) (unary_texts preds s u) (unary_texts preds t u)
      (numbered_open u (telling s u 0 preds)) (numbered_open u (telling t u 0 preds))
      (values_shut preds are 35 (inl (inl (omega arith))) (λ e. omega (arith, e)) 1 (λ p. value_at s p (u ∷ [])))
      (values_shut preds are 35 (inl (inl (omega arith))) (λ e. omega (arith, e)) 1 (λ p. value_at t p (u ∷ []))) items).1

  unary_value : (k : ℕ) (pred : Pred) → slice_get preds k ≡ Some pred → pred.arity ≡ 1 → (u : ℕ) → u < s.size
      → value_at s k (u ∷ []) ≡ value_at t k (u ∷ [])
  unary_value k pred at is u lt =
      values_tell preds are 1 (λ p. value_at s p (u ∷ [])) (λ p. value_at t p (u ∷ [])) (unaries u lt) k pred at is

  called_same : (u : ℕ) → telling s u 0 preds ≡ telling t u 0 preds
  called_same u =
      telling_same s t u 0 preds (λ place pred at is.
      let number : place ≡ 0 + place = omega arith
      in subst (λ n. unary_row s n ≡ unary_row t n) number (rows_same s t place sizes (unary_value place pred at is)))

  target_same : (u : ℕ) → u < s.size → target_text preds s u ≡ target_text preds t u
  target_same u lt =
      let marks = (parts u lt).0
      in let names = called_same u
      in (λ i. opening (marks i) ++ (called u (names i) ++ closing (marks i)))

  apart : (x y : ℕ) → x < s.size → y < s.size → target_text preds s x ≡ target_text preds t y → x ≡ y
  apart x y below_x below_y same =
      let small_x : x < 256 = omega (arith, below_x, few_s)
      in let small_y : y < 256 = omega (arith, below_y, few_s)
      in let one : target_text preds s x ≡ target_text preds s y = same ∙ sym (target_same y below_y)
      in let names = enclosed_tells (summary_at s x) (summary_at s y) (called x (telling s x 0 preds)) (called y (telling s y 0 preds)) [] []
      (called_plain preds are s x small_x).0 (called_plain preds are s y small_y).0 (called_plain preds are s x small_x).1
      (called_plain preds are s y small_y).1 (ap (λ text. text ++ []) one)
      in called_tells preds are s x y small_x small_y names.1

  arrows : (u : ℕ) → u < s.size → arrow_texts preds s u ≡ arrow_texts preds t u
  arrows u lt =
      joined_tells (arrow_texts preds s u) (arrow_texts preds t u) (arrows_free preds are 38 (omega arith, (λ e. omega (arith, e))) s few_s u)
      (arrows_free preds are 38 (omega arith, (λ e. omega (arith, e))) t few_t u) (arrows_full preds are s u) (arrows_full preds are t u)
      (parts u lt).2

  binary_value : (k : ℕ) (pred : Pred) → slice_get preds k ≡ Some pred → pred.arity ≡ 2 → (u : ℕ) → u < s.size → (x : ℕ) → x < s.size
      → value_at s k (u ∷ x ∷ []) ≡ value_at t k (u ∷ x ∷ [])
  binary_value k pred at is u lt x below =
      arrows_tell preds are s.size (target_text preds s) (target_text preds t) apart (λ p y. value_at s p (u ∷ y ∷ []))
      (λ p y. value_at t p (u ∷ y ∷ []))
      (arrows u lt ∙ ap (λ n. of_arity 2 (row_said n (target_text preds t) (λ p y. value_at t p (u ∷ y ∷ []))) 0 preds) (sym sizes))
      k pred at is x below

  nullary_value : (k : ℕ) (pred : Pred) → slice_get preds k ≡ Some pred → pred.arity ≡ 0 → value_at s k [] ≡ value_at t k []
  nullary_value k pred at is = values_tell preds are 0 (λ p. value_at s p []) (λ p. value_at t p []) both.1 k pred at is

  values_same : arities_of s ≡ map (λ pred. pred.arity) preds → (k : ℕ) (tuple : List ℕ) → HasEntry (table_of s) k tuple
      → value_at s k tuple ≡ value_at t k tuple
  values_same over k [] has =
      let at = arity_at preds k 0 (subst (λ arities. slice_get arities k ≡ Some 0) over has.arity)
      in nullary_value k at.0 at.1 at.2
  values_same over k (u ∷ []) has =
      let at = arity_at preds k 1 (subst (λ arities. slice_get arities k ≡ Some 1) over has.arity)
      in unary_value k at.0 at.1 at.2 u has.individuals.0
  values_same over k (u ∷ w ∷ []) has =
      let at = arity_at preds k 2 (subst (λ arities. slice_get arities k ≡ Some 2) over has.arity)
      in binary_value k at.0 at.1 at.2 u has.individuals.0 w has.individuals.1.0
  values_same over k (u ∷ w ∷ x ∷ tuple) has =
      let at = arity_at preds k (length (u ∷ w ∷ x ∷ tuple))
      (subst (λ arities. slice_get arities k ≡ Some (length (u ∷ w ∷ x ∷ tuple))) over has.arity)
      in let low = are.low k at.0 at.1
      in absurd (omega (arith, low, at.2))

unmarked_is : (s : StructureForm) → IsStructure s → IsStructure (unmarked s)
unmarked_is s is = record { table = is.table; summaries = is.summaries; fresh = tt }

pub lines_tell : LinesTellStructures
lines_tell p s t valid s_is t_is over_s over_t line =
    let preds = p.vocab.preds
    in let are = named p valid
    in let few_s = s_is.table.size
    in let few_t = t_is.table.size
    in same_structure (unmarked s) (unmarked t) (unmarked_is s s_is) (unmarked_is t t_is) (sizes preds are s t few_s few_t line)
    (over_s ∙ sym over_t) (λ k tuple has. values_same preds are s t few_s few_t line over_s k tuple has)
    (λ u lt. (parts preds are s t few_s few_t line u lt).0) refl
