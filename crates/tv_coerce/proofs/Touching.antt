-- Changes of one kind touch only what rules of that kind see.
use Rattle.std.proofs.Common.{ℕ, ◌≡◌, ◌≢◌, ◌∙◌, ◌⊎◌, Bool, true, false, true≢false, List, Some, slice_get}
use Rattle.std.proofs.Common.{Contains, ⊎_elim, inl, inr, refl, sym, ap, subst}
use Rattle.std.specs.List.{range_with_len}
use Rattle.std.proofs.lemmas.Bool.{cases_eq}
use Rattle.tv_kleene.specs.declared.K3.{K3}
use Rattle.tv_kleene.specs.declared.K3.TheVariants.{No, Half, Yes}
use Rattle.tv_kleene.specs.Kleene.{IsAtMost}
use Rattle.tv_kleene.proofs.Lattice.{smaller-yes}
use Rattle.tv_kleene.proofs.Thresholds.{Yes-below}
use Rattle.tv_model.specs.Program.{HeadForm, HNever, HAtom, HSame, RuleForm}
use Rattle.tv_model.specs.Rules.{IsOfIndividuals, head_formula}
use Rattle.tv_model.proofs.Heads.{free-in_head, head-unmarked}
use Rattle.tv_embedding_laws.specs.Embedding.{IsBelow}
use Rattle.tv_eval_laws.proofs.Embedded.{values_are_monotone}
use Rattle.tv_rules.specs.Standing.{IsEquality, IsHeadOf, HasTwice}
use Rattle.tv_stable_laws.specs.Stable.{IsHeadMet, IsStableUnder}
use Rattle.tv_stable_laws.specs.Laws.{IsPlainRule}
use Rattle.tv_structure_form.specs.StructureForm.{StructureForm, IsStructure, structure_of, value_at}
use Rattle.tv_structure_form.specs.StructureForm.{summary_at}
use Rattle.tv_structure_form.specs.StructureForm.{with_value, with_summary}
use Rattle.tv_structure_form.specs.Laws.{WritesOneEntry, WritesOneSummary}
use Rattle.tv_struct.specs.TupleForm.{tuple_of}
use Rattle.tv_structure_form.proofs.HalfLaws.{tuples_decided}
use Rattle.tv_structure_form.proofs.StructureLaws.{writes_one_entry, writes_one_summary}
use Rattle.tv_coerce.specs.declared.change.Change.{Change}
use Rattle.tv_coerce.specs.declared.change.Change.TheVariants.{Value, Ordinary}
use Rattle.tv_coerce.specs.Changes.{IsPlace, IsLowered, changed}
use Rattle.tv_coerce.specs.RuleSets.{HasLost, IsStableBut}
use Rattle.tv_coerce.specs.Touched.{HasNotMoved, IsChangeOf, IsTouched}
use Rattle.tv_coerce_moves.specs.Moves.{MayMove}
use Rattle.tv_rules.specs.Seen.{Sees, SeesTwice}
use Rattle.tv_coerce_moves.proofs.MoveLaws.{moves-shows}
use Rattle.tv_coerce.proofs.Signs.{still, still-whole, still-yes}

-- ---- what is touched

at-most-itself : (x : K3) → IsAtMost x x
at-most-itself No = refl
at-most-itself Half = refl
at-most-itself Yes = refl

not-moved : (up : Bool) (x y : K3) → y ≡ x → HasNotMoved up x y
not-moved true x y e = subst (λ k. IsAtMost k x) (sym e) (at-most-itself x)
not-moved false x y e = subst (IsAtMost x) (sym e) (at-most-itself x)

pub touched-none : (head : HeadForm) (s : StructureForm) → IsTouched head s s
touched-none head s = record {
  size = refl;
  values = λ q not_head tuple. refl;
  moved = λ up q none tuple. not-moved up (value_at s q tuple) (value_at s q tuple) refl;
  summaries = λ not_same u. refl;
  fewer = λ u on. on;
}

-- a value that meets the head
module _ (s : StructureForm) (p : ℕ) (tuple : List ℕ) (k : K3) (one : WritesOneEntry s p tuple k) where
  moved-at : (flag up : Bool) (q : ℕ) (other : List ℕ) → HasNotMoved up (value_at s p tuple) k
      → HasNotMoved up (value_at s q other) (value_at (with_value s p tuple k) q other)
  moved-at flag up q other here = at (cases_eq q p) (tuples_decided other tuple)
    where
      at : (q ≡ p) ⊎ (q ≢ p) → (other ≡ tuple) ⊎ (other ≢ tuple)
          → HasNotMoved up (value_at s q other) (value_at (with_value s p tuple k) q other)
      at (inl d) (inl f) = rw (d, f, one.written) here
      at (inl d) (inr ne) = not-moved up _ _ (one.others q other (λ both. ne both.1))
      at (inr ne) f = not-moved up _ _ (one.others q other (λ both. ne both.0))

  moved-value : (flag up : Bool) (q : ℕ) (other : List ℕ) → (flag ≡ true → k ≡ Yes) → (flag ≡ false → k ≡ No) → ¬ ((q ≡ p) × (flag ≡ up))
      → HasNotMoved up (value_at s q other) (value_at (with_value s p tuple k) q other)
  moved-value flag up q other if-true if-false none = by (cases_eq q p)
    where
      here : (f u : Bool) → (f ≡ true → k ≡ Yes) → (f ≡ false → k ≡ No) → f ≢ u → HasNotMoved u (value_at s p tuple) k
      here true true if-true' if-false' apart = absurd (apart refl)
      here true false if-true' if-false' apart = subst (IsAtMost (value_at s p tuple)) (sym (if-true' refl)) (smaller-yes (value_at s p tuple))
      here false true if-true' if-false' apart = subst (λ x. IsAtMost x (value_at s p tuple)) (sym (if-false' refl)) refl
      here false false if-true' if-false' apart = absurd (apart refl)

      by : (q ≡ p) ⊎ (q ≢ p) → HasNotMoved up (value_at s q other) (value_at (with_value s p tuple k) q other)
      by (inl d) = moved-at flag up q other (here flag up if-true if-false (λ e. none (d, e)))
      by (inr ne) = not-moved up _ _ (one.others q other (λ both. ne both.0))

touched-value : (flag : Bool) (pred : ℕ) (vars : List ℕ) (s : StructureForm) (p : ℕ) (tuple : List ℕ) (k : K3) → WritesOneEntry s p tuple k
    → p ≡ pred → (flag ≡ true → k ≡ Yes) → (flag ≡ false → k ≡ No) → IsTouched (HAtom flag pred vars) s (with_value s p tuple k)
touched-value flag pred vars s p tuple k one of if-true if-false = record {
  size = refl;
  values = λ q not_head other. one.others q other (λ both. not_head (both.0 ∙ of));
  moved = λ up q none other. moved-value s p tuple k one flag up q other if-true if-false (λ both. none (both.0 ∙ of, both.1));
  summaries = λ not_same u. refl;
  fewer = λ u on. on;
}

pub touched-changed : (head : HeadForm) (s : StructureForm) (c : Change) → IsStructure s → IsPlace s c → IsChangeOf head c
    → IsTouched head s (changed s c)
touched-changed HNever s c is place of = absurd of
touched-changed (HAtom true pred vars) s (Value p tuple k) is place of =
    touched-value true pred vars s p.0 (tuple_of tuple) k (writes_one_entry s p.0 (tuple_of tuple) k is place) of.0 (λ e. of.1) (λ e. absurd (cc e))
touched-changed (HAtom false pred vars) s (Value p tuple k) is place of =
    touched-value false pred vars s p.0 (tuple_of tuple) k (writes_one_entry s p.0 (tuple_of tuple) k is place) of.0 (λ e. absurd (cc e)) (λ e. of.1)
touched-changed (HAtom true pred vars) s (Ordinary x) is place of = absurd of
touched-changed (HAtom false pred vars) s (Ordinary x) is place of = absurd of
touched-changed (HSame flag v w) s (Value p tuple k) is place of = absurd of
touched-changed (HSame flag v w) s (Ordinary x) is place of = record {
  size = refl;
  values = λ q not_head other. refl;
  moved = λ up q none other. not-moved up _ _ refl;
  summaries = λ not_same u. absurd (not_same tt);
  fewer = λ u on. at u on (cases_eq u x);
}
  where
    one : WritesOneSummary s x false
    one = writes_one_summary s x false is place

    at : (u : ℕ) → summary_at (with_summary s x false) u ≡ true → (u ≡ x) ⊎ (u ≢ x) → summary_at s u ≡ true
    at u on (inl e) = absurd (true≢false (sym on ∙ ap (summary_at (with_summary s x false)) e ∙ one.written))
    at u on (inr ne) = sym (one.others u ne) ∙ on

pub touched-lowered : (head : HeadForm) (s t : StructureForm) (c : Change) → IsStructure s → IsPlace s c → IsChangeOf head c
    → IsLowered c s t → IsTouched head s t
touched-lowered head s t c is place of low =
    ⊎_elim (λ e. subst (IsTouched head s) (sym e) (touched-none head s))
    (λ e. subst (IsTouched head s) (sym e) (touched-changed head s c is place of)) low.is

-- ---- rules that don't see it stay stable

module _ (head : HeadForm) (s t : StructureForm) (rule : RuleForm) (touched : IsTouched head s t) (fresh : t.fresh ≡ s.fresh)
    (below : IsBelow (structure_of t) (structure_of s)) (plain : IsPlainRule rule) (unseen : ¬ Sees head rule) where
  -- a head that was met by a value that isn't known has that value still
  kept-half : (h : HeadForm) → HasTwice h → ¬ SeesTwice head h → ((up : Bool) → ¬ MayMove head up (head_formula h)) × ((u : ℕ) → summary_at t u ≡ summary_at s u)
  kept-half h twice none = at head refl
    where
      moves-head : (flag : Bool) (pred : ℕ) (vars : List ℕ) (other : HeadForm) (up : Bool)
          → MayMove (HAtom flag pred vars) up (head_formula other) → IsHeadOf pred other
      moves-head flag pred vars HNever up k = k
      moves-head flag pred vars (HAtom true q us) up k = sym k.0
      moves-head flag pred vars (HAtom false q us) up k = sym k.0
      moves-head flag pred vars (HSame true v w) up k = absurd k.0
      moves-head flag pred vars (HSame false v w) up k = absurd k.0

      at : (own : HeadForm) → head ≡ own → ((up : Bool) → ¬ MayMove head up (head_formula h)) × ((u : ℕ) → summary_at t u ≡ summary_at s u)
      at HNever e = (
        λ up k. moves-shows HNever (head_formula h) up (subst (λ o. MayMove o up (head_formula h)) e k),
        touched.summaries (λ same. subst IsEquality e same),
      )
      at (HAtom flag pred vars) e = (
        λ up k. none (subst (λ o. SeesTwice o h) (sym e)
            (moves-head flag pred vars h up (subst (λ o. MayMove o up (head_formula h)) e k), twice)),
        touched.summaries (λ same. subst IsEquality e same),
      )
      at (HSame flag v w) e = absurd (none (subst (λ o. SeesTwice o h) (sym e) (tt, twice)))

  pub stays-stable : IsStableUnder (structure_of s) rule → IsStableUnder (structure_of t) rule
  stays-stable stable a individuals body = met (stable a inside (still-yes _ _ (still head s t touched fresh rule.body true a (λ k. unseen (inl k))) body))
    where
      inside : IsOfIndividuals (range_with_len 0 s.size) rule a
      inside v free = subst (λ n. Contains (range_with_len 0 n) (a v)) touched.size (individuals v free)

      met : IsHeadMet (structure_of s) a rule.head → IsHeadMet (structure_of t) a rule.head
      met (inl is) = inl (Yes-below _ _
          (values_are_monotone (head_formula rule.head) (structure_of t) (structure_of s) a below
          (λ new. absurd (head-unmarked rule.head new)) (λ v free. individuals v (inr (free-in_head v rule.head free)))) is)
      met (inr may) =
          let kept = kept-half rule.head (may.var, may.twice) (λ k. unseen (inr k))
          in inr (record {
            var = may.var;
            twice = may.twice;
            summary = kept.1 (a may.var) ∙ may.summary;
            half = sym (still-whole head s t touched fresh (head_formula rule.head) a kept.0) ∙ may.half;
          })

-- ---- a rule that was taken out and tried

-- a rule under which the structure is stable need not wait
pub stable-without : (s : StructureForm) (rules : List RuleForm) (n : ℕ) (old new : List Bool) → IsStableBut rules old s
    → HasLost n old new → ((rule : RuleForm) → slice_get rules n ≡ Some rule → IsStableUnder (structure_of s) rule)
    → IsStableBut rules new s
stable-without s rules n old new stable lost here m rule found out =
    ⊎_elim (λ e. here rule (subst (λ k. slice_get rules k ≡ Some rule) e found))
    (λ ne. stable m rule found (λ was. out ((lost.others m ne).1 was)))
    (cases_eq m n)
