-- Structures that are filled with what another has, entry by entry.
use Rattle.std.proofs.Common.{ℕ, ◌≡◌, ◌<◌, ◌⊎◌, inl, inr, true, false, List, None, sym, ap, subst, ◌∙◌}
use Rattle.std.specs.Str.{bytes_eq}
use Rattle.std.proofs.lemmas.Bool.{cases_eq, cases_Bool, both_ways}
use Rattle.std.proofs.lemmas.List.{length-set}
use Rattle.std.proofs.lemmas.Slice.Eq.{bytes_eq-Decides}
use Rattle.tv_kleene.specs.declared.K3.{K3}
use Rattle.tv_kleene.specs.declared.K3.TheVariants.{No}
use Rattle.tv_structure_form.specs.TableForm.{HasEntry}
use Rattle.tv_structure_form.specs.StructureForm.{StructureForm, IsStructure, IsMark, table_of, arities_of}
use Rattle.tv_structure_form.specs.StructureForm.{value_at}
use Rattle.tv_structure_form.specs.StructureForm.{summary_at, with_value, with_summary, unmarked}
use Rattle.tv_structure_form.specs.Laws.{WritesOneEntry, WritesOneSummary}
use Rattle.tv_structure_form.proofs.TableLaws.{IsTable-with_entry}
use Rattle.tv_structure_form.proofs.StructureLaws.{writes_one_entry, writes_one_summary, same_structure}

-- each value of c is No or that of s, and each summary of c is one of s
pub record IsPart (c s : StructureForm) : Type 0 where
  pub is : IsStructure c
  pub size : c.size ≡ s.size
  pub arities : arities_of c ≡ arities_of s
  pub fresh : c.fresh ≡ None
  pub values : (p : ℕ) (t : List ℕ) → (value_at c p t ≡ No) ⊎ (value_at c p t ≡ value_at s p t)
  pub marks : (u : ℕ) → (summary_at c u ≡ false) ⊎ (summary_at c u ≡ summary_at s u)

-- what c has of s, d has too
pub record Grows (c d s : StructureForm) : Type 0 where
  pub values : (p : ℕ) (t : List ℕ) → value_at c p t ≡ value_at s p t → value_at d p t ≡ value_at s p t
  pub marks : (u : ℕ) → summary_at c u ≡ summary_at s u → summary_at d u ≡ summary_at s u

pub Grows-same : (c s : StructureForm) → Grows c c s
Grows-same c s = record { values = λ p t e. e; marks = λ u e. e }

pub Grows-then : (b c d s : StructureForm) → Grows b c s → Grows c d s → Grows b d s
Grows-then b c d s g h = record {
  values = λ p t e. h.values p t (g.values p t e);
  marks = λ u e. h.marks u (g.marks u e);
}

abbrev Place : Type 0
Place = ℕ × List ℕ

same_place : (q p : ℕ) (o t : List ℕ) → ((q ≡ p) × (o ≡ t)) ⊎ (¬ ((q ≡ p) × (o ≡ t)))
same_place q p o t = at (cases_eq q p) (cases_Bool (bytes_eq o t))
  where
    at : (q ≡ p) ⊎ (q ≡ p → ⊥) → (bytes_eq o t ≡ true) ⊎ (bytes_eq o t ≡ false) → ((q ≡ p) × (o ≡ t)) ⊎ (¬ ((q ≡ p) × (o ≡ t)))
    at (inl e) (inl h) = inl (e, (bytes_eq-Decides o t).0 h)
    at (inl e) (inr h) = inr (λ both. both_ways (bytes_eq o t) h ((bytes_eq-Decides o t).1 both.1))
    at (inr e) other = inr (λ both. e both.0)

module _ (c d s : StructureForm) (p : ℕ) (t : List ℕ) (written : value_at d p t ≡ value_at s p t) (others : (q : ℕ) (o : List ℕ) → ¬ ((q ≡ p) × (o ≡ t)) → value_at d q o ≡ value_at c q o) where
  -- an entry that was written, or one as before
  written_or : (q : ℕ) (o : List ℕ) → (value_at d q o ≡ value_at s q o) ⊎ (value_at d q o ≡ value_at c q o)
  written_or q o = elim (same_place q p o t) [
    | inl both ↦ inl (ap (λ r. value_at d r o) both.0 ∙ ap (value_at d p) both.1 ∙ written ∙ sym (ap (λ r. value_at s r o) both.0 ∙ ap (value_at s p) both.1))
    | inr apart ↦ inr (others q o apart)
  ]

  pub values_after : (q : ℕ) (o : List ℕ) → (value_at c q o ≡ No) ⊎ (value_at c q o ≡ value_at s q o) → (value_at d q o ≡ No) ⊎ (value_at d q o ≡ value_at s q o)
  values_after q o before = elim (written_or q o) [
    | inl e ↦ inr e
    | inr e ↦ elim before [ inl is_no ↦ inl (e ∙ is_no) | inr same ↦ inr (e ∙ same) ]
  ]

  pub values_grow : (q : ℕ) (o : List ℕ) → value_at c q o ≡ value_at s q o → value_at d q o ≡ value_at s q o
  values_grow q o before = elim (written_or q o) [ inl e ↦ e | inr e ↦ e ∙ before ]

-- one more step
pub record Step (c d s : StructureForm) : Type 0 where
  pub part : IsPart d s
  pub grows : Grows c d s

-- a value of s that is put is there, and all else stays
pub value_put_again : (c s : StructureForm) (p : ℕ) (t : List ℕ) (k : K3) → IsPart c s → HasEntry (table_of c) p t → k ≡ value_at s p t
    → Step c (with_value c p t k) s × (value_at (with_value c p t k) p t ≡ value_at s p t)
value_put_again c s p t k part has e =
    let d : StructureForm = with_value c p t k
    in let w : WritesOneEntry c p t k = writes_one_entry c p t k part.is has
    in let written : value_at d p t ≡ value_at s p t = w.written ∙ e
    in (
      record {
        part = record {
          is = record {
            table = IsTable-with_entry (table_of c) p t k part.is.table has;
            summaries = part.is.summaries;
            fresh = subst (IsMark d) (sym part.fresh) tt;
          };
          size = part.size;
          arities = w.arities ∙ part.arities;
          fresh = part.fresh;
          values = λ q o. values_after c d s p t written w.others q o (part.values q o);
          marks = part.marks;
        };
        grows = record { values = values_grow c d s p t written w.others; marks = λ u same. same };
      },
      written,
    )

-- a summary of s that is put is there, and all else stays
pub mark_put_again : (c s : StructureForm) (u : ℕ) → IsPart c s → u < c.size → summary_at s u ≡ true
    → Step c (with_summary c u true) s × (summary_at (with_summary c u true) u ≡ summary_at s u)
mark_put_again c s u part lt e =
    let d : StructureForm = with_summary c u true
    in let w : WritesOneSummary c u true = writes_one_summary c u true part.is lt
    in let written : summary_at d u ≡ summary_at s u = w.written ∙ sym e
    in (
      record {
        part = record {
          is = record {
            table = part.is.table;
            summaries = length-set c.summaries u true ∙ part.is.summaries;
            fresh = subst (IsMark d) (sym part.fresh) tt;
          };
          size = part.size;
          arities = part.arities;
          fresh = part.fresh;
          values = part.values;
          marks = λ v. elim (cases_eq v u) [
            | inl same ↦ inr (ap (summary_at d) same ∙ written ∙ sym (ap (summary_at s) same))
            | inr apart ↦ elim (part.marks v) [
              | inl is_no ↦ inl (w.others v apart ∙ is_no)
              | inr is ↦ inr (w.others v apart ∙ is)
            ]
          ];
        };
        grows = record {
          values = λ p t same. same;
          marks = λ v before. elim (cases_eq v u) [
            | inl same ↦ ap (summary_at d) same ∙ written ∙ sym (ap (summary_at s) same)
            | inr apart ↦ w.others v apart ∙ before
          ];
        };
      },
      written,
    )

-- what has each value and each summary of s is s without its mark
pub filled : (d s : StructureForm) → IsStructure s → IsPart d s
    → ((p : ℕ) (t : List ℕ) → HasEntry (table_of d) p t → value_at d p t ≡ value_at s p t)
    → ((u : ℕ) → u < d.size → summary_at d u ≡ summary_at s u) → d ≡ unmarked s
filled d s is part values marks =
    let is_unmarked : IsStructure (unmarked s) = record { table = is.table; summaries = is.summaries; fresh = tt }
    in same_structure d (unmarked s) part.is is_unmarked part.size part.arities values marks part.fresh
