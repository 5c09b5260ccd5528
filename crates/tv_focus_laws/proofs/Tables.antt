-- Tables that show structures.
use Rattle.std.proofs.Common.{ℕ, ◌≡◌, ◌≤◌, ◌+◌, zero, suc, Bool, true, false, cond, eqb, List, []}
use Rattle.std.proofs.Common.{◌∷◌, ◌++◌, ◌⊎◌, inl, inr, ⊎_elim, Option, Some, None, length, get_or, map, refl}
use Rattle.std.proofs.Common.{sym, ap, subst, ◌∙◌, arith, All, Contains, IsTrue, eq-eqb, ne_eqb}
use Rattle.std.specs.Prelude.{Any, slice_get}
use Rattle.std.specs.List.{AllZip}
use Rattle.std.proofs.lemmas.Bool.{cases_Bool, cases_eq, cases_lt, cond-true, cond-false, false≢true}
use Rattle.std.proofs.lemmas.Bool.{eqb-true}
use Rattle.std.proofs.lemmas.List.{length-map, get_or-map, get_or_past}
use Rattle.std.proofs.lemmas.Option.{slice_get-get_or}
use Rattle.std.proofs.lemmas.List.FromFn.{length-range_with_len}
use Rattle.tv_lemmas.proofs.Lists.{range_differs, All-map_into}
use Rattle.tv_kleene.specs.declared.K3.{K3}
use Rattle.tv_kleene.specs.declared.K3.TheVariants.{No, Half, Yes}
use Rattle.tv_kleene.specs.Kleene.{LiesUnder}
use Rattle.tv_model.specs.Form.{Form}
use Rattle.tv_model.specs.Heap.{Heap}
use Rattle.tv_embedding_laws.specs.LogicalStructure.{LogicalStructure, heap_structure}
use Rattle.tv_embedding_laws.specs.Embedding.{Embeds, IsHeapOf}
use Rattle.tv_kleene.proofs.Thresholds.{No-below}
use Rattle.tv_model.proofs.Lists.{Contains-none}
use Rattle.tv_structure_form.specs.TableForm.{PlaneForm, AreIndividuals, HasEntry, no_plane, value_in, cell}
use Rattle.tv_structure_form.specs.TableForm.{row_of}
use Rattle.tv_structure_form.specs.TableForm.{column_of}
use Rattle.tv_structure_form.specs.StructureForm.{StructureForm, IsStructure, table_of, value_at, summary_at}
use Rattle.tv_structure_form.specs.StructureForm.{structure_of, arities_of}
use Rattle.tv_structure_form.proofs.StructureLaws.{value_in-no_plane, same_structure}
use Rattle.tv_structure_form.proofs.Library.{AreIndividuals-range, below-range}
use Rattle.tv_focus_laws.specs.Stages.{stage}
use Rattle.tv_focus_laws.specs.Tables.{Shows, ShowsOver, AreStage, StageKeepsHeaps, TablesLoseNoHeap}
use Rattle.tv_focus_laws.proofs.Stages.{stages_lose_no_heap}

-- the tuple has the predicate's arity
abbrev pub Fits : StructureForm → ℕ → List ℕ → Type 0
Fits t pred tuple = slice_get (arities_of t) pred ≡ Some (length tuple)

-- at a tuple of another length there is No
pub fits-or_No : (t : StructureForm) (pred : ℕ) (tuple : List ℕ) → Fits t pred tuple ⊎ (value_at t pred tuple ≡ No)
fits-or_No t pred tuple =
    ⊎_elim
    (λ lt. let plane : PlaneForm = get_or t.planes pred no_plane
    in let known : slice_get (arities_of t) pred ≡ Some plane.arity
    = slice_get-get_or (arities_of t) pred 0 (omega (arith, length-map t.planes (λ p. p.arity), lt))
    ∙ ap Some (get_or-map (λ p. p.arity) t.planes pred no_plane 0 lt)
    in ⊎_elim
    (λ e. inl (known ∙ ap Some (sym e)))
    (λ ne. inr (cond-false (eqb (length tuple) plane.arity) (cell plane.rows (row_of tuple) (column_of tuple)) No
    (ne_eqb (length tuple) plane.arity ne)))
    (cases_eq (length tuple) plane.arity))
    (λ past. inr (ap (λ plane. value_in plane tuple) (get_or_past t.planes pred no_plane past) ∙ value_in-no_plane tuple))
    (cases_lt pred (length t.planes))

-- a heap of s that embeds in what a table shows embeds in the table
shown-embeds : (f g : ℕ → ℕ) (r : LogicalStructure) (s t : StructureForm) (l : LogicalStructure) → ((u : ℕ) → r.is_summary u ≡ false)
    → Embeds f r (structure_of s) → Embeds g r l → ShowsOver s t l → Embeds g r (structure_of t)
shown-embeds f g r s t l plain e d shows = record {
  into = λ u at. subst (λ us. Contains us (g u)) (sym shows.shows.individuals) (d.into u at);
  onto = λ w at. d.onto w (subst (λ us. Contains us w) shows.shows.individuals at);
  values = λ pred any tuple all. at-each pred tuple all;
  summaries = λ u at summary. absurd (false≢true (sym (plain u) ∙ summary));
  several = λ u w hu hw ne same. shown-summary (g u)
      (subst (λ us. Contains us (g u)) (sym shows.shows.individuals) (d.into u hu)) (d.several u w hu hw ne same);
}
  where
    shown-summary : (x : ℕ) → Contains (structure_of t).individuals x → IsTrue (l.is_summary x) → IsTrue (summary_at t x)
    shown-summary x at summary = shows.shows.summaries x (below-range t.size x at) ∙ summary

    at-each : (pred : ℕ) (tuple : List ℕ) → All (Contains r.individuals) tuple
        → LiesUnder (r.value pred tuple) (value_at t pred (map g tuple))
    at-each pred tuple all =
        let At : K3 → Type 0 = λ y. LiesUnder (r.value pred tuple) y
        in let inside : All (Contains (structure_of t).individuals) (map g tuple)
        = All-map_into g r.individuals (structure_of t).individuals tuple
        (λ u at. subst (λ us. Contains us (g u)) (sym shows.shows.individuals) (d.into u at)) all
        in ⊎_elim
        (λ fits. subst At (sym (shows.shows.values pred (map g tuple)
        (record { arity = fits; individuals = AreIndividuals-range t.size (map g tuple) inside })))
        (d.values pred tt tuple all))
        (λ none. ⊎_elim
        (λ fits. let long : Fits t pred (map g tuple)
        = ap (λ xs. slice_get xs pred) shows.over ∙ fits ∙ ap Some (length-map tuple f ∙ sym (length-map tuple g))
        in subst At (sym (shows.shows.values pred (map g tuple)
        (record { arity = long; individuals = AreIndividuals-range t.size (map g tuple) inside })))
        (d.values pred tt tuple all))
        (λ above. inl (No-below (r.value pred tuple) (value_at s pred (map f tuple)) (e.values pred tt tuple all) above ∙ sym none))
        (fits-or_No s pred (map f tuple)))
        (fits-or_No t pred (map g tuple))

-- ---- one table shows a structure

shown-once : (s t u : StructureForm) (l : LogicalStructure) → ShowsOver s t l → ShowsOver s u l → t ≡ u
shown-once s t u l a b =
    let size : t.size ≡ u.size
    = sym (length-range_with_len 0 t.size) ∙ ap length (a.shows.individuals ∙ sym b.shows.individuals) ∙ length-range_with_len 0 u.size
    in let arities : arities_of t ≡ arities_of u = a.over ∙ sym b.over
    in same_structure t u a.is b.is size arities
    (λ pred tuple has. a.shows.values pred tuple has
    ∙ sym (b.shows.values pred tuple (record {
      arity = ap (λ xs. slice_get xs pred) (sym arities) ∙ has.arity;
      individuals = subst (λ n. AreIndividuals n tuple) size has.individuals;
    })))
    (λ x lt. a.shows.summaries x lt ∙ sym (b.shows.summaries x (omega (arith, size, lt))))
    (a.shows.fresh ∙ sym b.shows.fresh)

shown-lists : (s : StructureForm) (ts us : List StructureForm) (ls : List LogicalStructure) → AllZip (ShowsOver s) ts ls
    → AllZip (ShowsOver s) us ls → us ≡ ts
shown-lists s [] [] [] a b = refl
shown-lists s [] [] (l ∷ ls) a b = absurd a
shown-lists s [] (u ∷ us) [] a b = absurd b
shown-lists s [] (u ∷ us) (l ∷ ls) a b = absurd a
shown-lists s (t ∷ ts) [] [] a b = absurd a
shown-lists s (t ∷ ts) [] (l ∷ ls) a b = absurd b
shown-lists s (t ∷ ts) (u ∷ us) [] a b = absurd a
shown-lists s (t ∷ ts) (u ∷ us) (l ∷ ls) a b =
    let first : u ≡ t = shown-once s u t l b.0 a.0
    in let rest : us ≡ ts = shown-lists s ts us ls a.1 b.1
    in ap (λ (x : StructureForm). x ∷ us) first ∙ ap (λ (xs : List StructureForm). t ∷ xs) rest

-- ---- heaps

any-shown : (s : StructureForm) (P : LogicalStructure → Type 0) (Q : StructureForm → Type 0)
    → ((t : StructureForm) (l : LogicalStructure) → ShowsOver s t l → P l → Q t)
    → (ts : List StructureForm) (ls : List LogicalStructure) → AllZip (ShowsOver s) ts ls → Any P ls → Any Q ts
any-shown s P Q each ts [] zip (k, l, lt, is, p) = absurd (omega (arith, lt))
any-shown s P Q each [] (l ∷ ls) zip any = absurd zip
any-shown s P Q each (t ∷ ts) (l ∷ ls) zip (zero, x, lt, is, p) =
    (0, t, omega arith, refl, each t l zip.0 (subst P (sym is) p))
any-shown s P Q each (t ∷ ts) (l ∷ ls) zip (suc k, x, lt, is, p) =
    let rest : Any Q ts = any-shown s P Q each ts ls zip.1 (k, x, omega (arith, lt), is, p)
    in (suc rest.0, rest.1, omega (arith, rest.2), rest.3, rest.4)

heap-plain : (h : Heap) (u : ℕ) → (heap_structure h).is_summary u ≡ false
heap-plain h u = refl

pub tables_lose_no_heap : TablesLoseNoHeap
tables_lose_no_heap s f k ts are = record {
  one = λ us other. shown-lists s ts us (stage (structure_of s) f k) are other;
  heaps = λ h is. any-shown s (IsHeapOf h) (λ t. IsHeapOf h (structure_of t))
      (λ t l shows (g, d). (g, shown-embeds is.0 g (heap_structure h) s t l (heap-plain h) is.1 d shows)) ts
      (stage (structure_of s) f k) are
      (stages_lose_no_heap h (structure_of s) f k (range_differs s.size) is);
}
