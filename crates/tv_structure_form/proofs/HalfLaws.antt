-- How much a structure leaves open, and what lies below it.
use Rattle.std.proofs.Common.{ℕ, ◌≡◌, ◌≢◌, ◌<◌, ◌+◌, ◌⊎◌, inl, inr, Bool, false, List, [], ◌∷◌, length}
use Rattle.std.proofs.Common.{get_or, set, refl, sym, ap, ◌∙◌, arith, true≢false}
use Rattle.std.specs.Prelude.{IsTrue}
use Rattle.std.specs.List.{sum_by}
use Rattle.std.proofs.lemmas.Bool.{cases_eq}
use Rattle.std.proofs.lemmas.List.Sums.{sum_by-set}
use Rattle.tv_kleene.specs.declared.K3.{K3}
use Rattle.tv_kleene.specs.declared.K3.TheVariants.{No}
use Rattle.tv_kleene.specs.Kleene.{LiesUnder}
use Rattle.tv_embedding_laws.specs.Embedding.{IsBelow}
use Rattle.tv_embedding_laws.proofs.EmbeddingLaws.{IsBelow-values}
use Rattle.tv_structure_form.specs.Halves.{half_of, half_of_flag, row_halves, plane_halves, half_count}
use Rattle.tv_structure_form.specs.TableForm.{PlaneForm, HasEntry, plane_at, no_plane, row_of, column_of}
use Rattle.tv_structure_form.specs.TableForm.{cell}
use Rattle.tv_structure_form.specs.TableForm.{with_cell}
use Rattle.tv_structure_form.specs.StructureForm.{StructureForm, IsStructure, table_of, value_at, summary_at}
use Rattle.tv_structure_form.specs.StructureForm.{with_value, with_summary, structure_of}
use Rattle.tv_structure_form.specs.Laws.{WritesOneEntry, WritesOneSummary}
use Rattle.tv_structure_form.proofs.TableLaws.{HasEntry-lt, HasEntry-arity, entry_row-lt, entry_column-lt}
use Rattle.tv_structure_form.proofs.StructureLaws.{value_in-fits, writes_one_entry, writes_one_summary}

cell_halves : (rows : List (List K3)) (row column : ℕ) (k : K3) → row < length rows → column < length (get_or rows row [])
    → sum_by row_halves (with_cell rows row column k) + half_of (cell rows row column) ≡ sum_by row_halves rows + half_of k
cell_halves rows row column k lr lc =
    let line : List K3 = get_or rows row []
    in let inside : sum_by half_of (set line column k) + half_of (get_or line column No) ≡ sum_by half_of line + half_of k
    = sum_by-set half_of line column k No lc
    in let outside : sum_by row_halves (set rows row (set line column k)) + row_halves line ≡ sum_by row_halves rows + row_halves (set line column k)
    = sum_by-set row_halves rows row (set line column k) [] lr
    in omega (arith, inside, outside)

pub entry_halves : (s : StructureForm) (pred : ℕ) (tuple : List ℕ) (k : K3) → IsStructure s → HasEntry (table_of s) pred tuple
    → half_count (with_value s pred tuple k) + half_of (value_at s pred tuple) ≡ half_count s + half_of k
entry_halves s pred tuple k is has =
    let plane : PlaneForm = plane_at (table_of s) pred
    in let new : PlaneForm = record plane { rows = with_cell plane.rows (row_of tuple) (column_of tuple) k }
    in let read : half_of (value_at s pred tuple) ≡ half_of (cell plane.rows (row_of tuple) (column_of tuple))
    = ap half_of (value_in-fits plane tuple (HasEntry-arity (table_of s) pred tuple has))
    in let inside : plane_halves new + half_of (cell plane.rows (row_of tuple) (column_of tuple)) ≡ plane_halves plane + half_of k
    = cell_halves plane.rows (row_of tuple) (column_of tuple) k (entry_row-lt (table_of s) pred tuple is.table has)
    (entry_column-lt (table_of s) pred tuple is.table has)
    in let outside : sum_by plane_halves (set s.planes pred new) + plane_halves plane ≡ sum_by plane_halves s.planes + plane_halves new
    = sum_by-set plane_halves s.planes pred new no_plane (HasEntry-lt (table_of s) pred tuple has)
    in omega (arith, read, inside, outside)

pub summary_halves : (s : StructureForm) (u : ℕ) (on : Bool) → IsStructure s → u < s.size
    → half_count (with_summary s u on) + half_of_flag (summary_at s u) ≡ half_count s + half_of_flag on
summary_halves s u on is lt =
    let flags : sum_by half_of_flag (set s.summaries u on) + half_of_flag (get_or s.summaries u false) ≡ sum_by half_of_flag s.summaries + half_of_flag on
    = sum_by-set half_of_flag s.summaries u on false (rw is.summaries lt)
    in omega (arith, flags)

-- ---- what lies below

pub tuples_decided : (xs ys : List ℕ) → (xs ≡ ys) ⊎ (xs ≢ ys)
tuples_decided [] [] = inl refl
tuples_decided [] (y ∷ ys) = inr (λ e. cc)
tuples_decided (x ∷ xs) [] = inr (λ e. cc)
tuples_decided (x ∷ xs) (y ∷ ys) = at (cases_eq x y) (tuples_decided xs ys)
  where
    at : (x ≡ y) ⊎ (x ≢ y) → (xs ≡ ys) ⊎ (xs ≢ ys) → (x ∷ xs ≡ y ∷ ys) ⊎ (x ∷ xs ≢ y ∷ ys)
    at (inl e) (inl es) = inl cc
    at (inl e) (inr ne) = inr (λ all. let rest : xs ≡ ys = cc in ne rest)
    at (inr ne) other = inr (λ all. let first : x ≡ y = cc in ne first)

pub entry_below : (s : StructureForm) (pred : ℕ) (tuple : List ℕ) (k : K3) → IsStructure s → HasEntry (table_of s) pred tuple
    → LiesUnder k (value_at s pred tuple) → IsBelow (structure_of (with_value s pred tuple k)) (structure_of s)
entry_below s pred tuple k is has under =
    (IsBelow-values (structure_of (with_value s pred tuple k)) (structure_of s)).1 (record {
      individuals = refl;
      values = λ q other all. at q other (cases_eq q pred) (tuples_decided other tuple);
      summaries = λ u h sm. sm;
    })
  where
    one : WritesOneEntry s pred tuple k
    one = writes_one_entry s pred tuple k is has

    at : (q : ℕ) (other : List ℕ) → (q ≡ pred) ⊎ (q ≢ pred) → (other ≡ tuple) ⊎ (other ≢ tuple)
        → LiesUnder (value_at (with_value s pred tuple k) q other) (value_at s q other)
    at q other (inl e) (inl f) = rw (e, f, one.written) under
    at q other (inl e) (inr ne) = inl (one.others q other (λ both. ne both.1))
    at q other (inr ne) f = inl (one.others q other (λ both. ne both.0))

pub summary_below : (s : StructureForm) (u : ℕ) → IsStructure s → u < s.size
    → IsBelow (structure_of (with_summary s u false)) (structure_of s)
summary_below s u is lt =
    (IsBelow-values (structure_of (with_summary s u false)) (structure_of s)).1 (record {
      individuals = refl;
      values = λ q other all. inl refl;
      summaries = λ w h sm. at w sm (cases_eq w u);
    })
  where
    one : WritesOneSummary s u false
    one = writes_one_summary s u false is lt

    at : (w : ℕ) → IsTrue (summary_at (with_summary s u false) w) → (w ≡ u) ⊎ (w ≢ u) → IsTrue (summary_at s w)
    at w sm (inl e) =
        let new : summary_at (with_summary s u false) w ≡ false = ap (summary_at (with_summary s u false)) e ∙ one.written
        in absurd (true≢false (sym sm ∙ new))
    at w sm (inr ne) = sym (one.others w ne) ∙ sm
