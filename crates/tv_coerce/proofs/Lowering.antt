-- What making a change does.
use Rattle.std.proofs.Common.{ℕ, ◌≡◌, ◌≢◌, ◌<◌, ◌≤◌, ◌+◌, ◌⊎◌, inl, inr, false, true≢false, List, refl, sym}
use Rattle.std.proofs.Common.{ap, subst, ◌∙◌, arith}
use Rattle.std.specs.Prelude.{All, Contains, IsTrue}
use Rattle.std.proofs.lemmas.Bool.{cases_eq}
use Rattle.tv_kleene.specs.declared.K3.{K3}
use Rattle.tv_kleene.specs.declared.K3.TheVariants.{No, Half, Yes}
use Rattle.tv_kleene.specs.Kleene.{LiesUnder}
use Rattle.tv_model.specs.declared.formula.PredId.{PredId}
use Rattle.tv_embedding_laws.specs.LogicalStructure.{LogicalStructure}
use Rattle.tv_embedding_laws.specs.Embedding.{IsBelow, IsBelowByValues}
use Rattle.tv_embedding_laws.proofs.EmbeddingLaws.{EmbedsOn-id, IsBelow-values}
use Rattle.tv_structure_form.specs.Halves.{half_count, half_of, half_of_flag}
use Rattle.tv_structure_form.specs.StructureForm.{StructureForm, IsStructure, table_of, structure_of}
use Rattle.tv_structure_form.specs.StructureForm.{value_at}
use Rattle.tv_structure_form.specs.StructureForm.{summary_at, with_value, with_summary}
use Rattle.tv_structure_form.specs.TableForm.{HasEntry}
use Rattle.tv_struct.specs.TupleForm.{tuple_of}
use Rattle.tv_structure_form.specs.Laws.{WritesOneEntry, WritesOneSummary}
use Rattle.tv_struct.specs.declared.table.Tuple.{Tuple}
use Rattle.tv_structure_form.proofs.HalfLaws.{entry_halves, summary_halves, entry_below, summary_below}
use Rattle.tv_structure_form.proofs.HalfLaws.{tuples_decided}
use Rattle.tv_structure_form.proofs.StructureLaws.{writes_one_entry, writes_one_summary}
use Rattle.tv_coerce.specs.Changes.{Has, IsLowered}
use Rattle.tv_coerce.specs.declared.change.Change.TheVariants.{Value, Ordinary}

pub below-itself : (s : LogicalStructure) → IsBelow s s
below-itself s = (refl, EmbedsOn-id (λ pred. Unit {0}) s)

half-definite : (k : K3) → k ≢ Half → half_of k ≡ 0
half-definite No h = refl
half-definite Half h = absurd (h refl)
half-definite Yes h = refl

half-most : (k : K3) → half_of k ≤ 1
half-most No = omega arith
half-most Half = omega arith
half-most Yes = omega arith

pub lowered_none : (s : StructureForm) (p : PredId) (t : Tuple) (k : K3) → IsStructure s
    → value_at s p.0 (tuple_of t) ≢ Half → IsLowered (Value p t k) s s
lowered_none s p t k is known = record {
  is = inl refl;
  kept = is;
  size = refl;
  arities = refl;
  mark = refl;
  below = below-itself (structure_of s);
  loses_none = λ u has below. below;
  halves = omega arith;
  fewer = λ open'. absurd (known open'.0);
}

pub lowered_value : (s new : StructureForm) (p : PredId) (t : Tuple) (k : K3) → IsStructure s → HasEntry (table_of s) p.0 (tuple_of t)
    → value_at s p.0 (tuple_of t) ≡ Half → new ≡ with_value s p.0 (tuple_of t) k → IsStructure new → IsLowered (Value p t k) s new
lowered_value s new p t k is has half e kept =
    subst (IsLowered (Value p t k) s) (sym e) (record {
      is = inr refl;
      kept = subst IsStructure e kept;
      size = refl;
      arities = one.arities;
      mark = refl;
      below = entry_below s p.0 (tuple_of t) k is has (inr half);
      loses_none = loses-none;
      halves = omega (arith, count, was, half-most k);
      fewer = λ open'. omega (arith, count, was, half-definite k open'.1);
    })
  where
    tuple : List ℕ
    tuple = tuple_of t

    one : WritesOneEntry s p.0 (tuple_of t) k
    one = writes_one_entry s p.0 (tuple_of t) k is has

    count : half_count (with_value s p.0 (tuple_of t) k) + half_of (value_at s p.0 (tuple_of t)) ≡ half_count s + half_of k
    count = entry_halves s p.0 (tuple_of t) k is has

    was : half_of (value_at s p.0 (tuple_of t)) ≡ 1
    was = ap half_of half

    loses-none : (u : LogicalStructure) → Has (Value p t k) u → IsBelow u (structure_of s)
        → IsBelow u (structure_of (with_value s p.0 (tuple_of t) k))
    loses-none u has' below = (IsBelow-values u (structure_of (with_value s p.0 (tuple_of t) k))).1 (record {
      individuals = by.individuals;
      values = λ q other all. at q other all (cases_eq q p.0) (tuples_decided other (tuple_of t));
      summaries = by.summaries;
    })
      where
        by : IsBelowByValues u (structure_of s)
        by = (IsBelow-values u (structure_of s)).0 below

        at : (q : ℕ) (other : List ℕ) → All (Contains u.individuals) other → (q ≡ p.0) ⊎ (q ≢ p.0) → (other ≡ tuple_of t) ⊎ (other ≢ tuple_of t)
            → LiesUnder (u.value q other) (value_at (with_value s p.0 (tuple_of t) k) q other)
        at q other all (inl d) (inl f) = rw (d, f, one.written) (inl has')
        at q other all (inl d) (inr ne) = rw (one.others q other (λ both. ne both.1)) (by.values q other all)
        at q other all (inr ne) f = rw (one.others q other (λ both. ne both.0)) (by.values q other all)

pub lowered_summary : (s new : StructureForm) (x : ℕ) → IsStructure s → x < s.size → new ≡ with_summary s x false → IsStructure new
    → IsLowered (Ordinary x) s new
lowered_summary s new x is lt e kept =
    subst (IsLowered (Ordinary x) s) (sym e) (record {
      is = inr refl;
      kept = subst IsStructure e kept;
      size = refl;
      arities = refl;
      mark = refl;
      below = summary_below s x is lt;
      loses_none = loses-none;
      halves = omega (arith, count);
      fewer = λ open'. omega (arith, count, ap half_of_flag open');
    })
  where
    one : WritesOneSummary s x false
    one = writes_one_summary s x false is lt

    count : half_count (with_summary s x false) + half_of_flag (summary_at s x) ≡ half_count s + 0
    count = summary_halves s x false is lt

    loses-none : (u : LogicalStructure) → Has (Ordinary x) u → IsBelow u (structure_of s) → IsBelow u (structure_of (with_summary s x false))
    loses-none u has' below = (IsBelow-values u (structure_of (with_summary s x false))).1 (record {
      individuals = by.individuals;
      values = by.values;
      summaries = λ w h sm. at w h sm (cases_eq w x);
    })
      where
        by : IsBelowByValues u (structure_of s)
        by = (IsBelow-values u (structure_of s)).0 below

        at : (w : ℕ) → Contains u.individuals w → IsTrue (u.is_summary w) → (w ≡ x) ⊎ (w ≢ x) → IsTrue (summary_at (with_summary s x false) w)
        at w h sm (inl d) = absurd (true≢false (sym sm ∙ ap u.is_summary d ∙ has'))
        at w h sm (inr ne) = one.others w ne ∙ by.summaries w h sm
