-- Rows of values: what holds of the individuals that are passed over.
use Rattle.std.proofs.Common.{ℕ, ◌≡◌, ◌≢◌, ◌<◌, ◌≤◌, ◌+◌, ◌⊎◌, inl, inr, ⊎_elim, List, ◌∷◌, length, map}
use Rattle.std.proofs.Common.{get_or, replicate, Option, refl, sym, ap, subst, ◌∙◌, arith, Contains}
use Rattle.std.proofs.lemmas.Bool.{cases_eq, cases_lt}
use Rattle.std.proofs.lemmas.List.{get_or-map, get_or-replicate, length-map, length-replicate}
use Rattle.std.proofs.lemmas.List.FromFn.{length-map-range_with_len, get_or-map-range_with_len}
use Rattle.std.specs.List.{range_with_len}
use Rattle.tv_kleene.specs.declared.K3.{K3}
use Rattle.tv_kleene.specs.declared.K3.TheVariants.{No, Half, Yes}
use Rattle.tv_kleene.specs.Kleene.{smaller_of, negation_of}
use Rattle.tv_row.specs.Bits.{paired}
use Rattle.tv_row.proofs.WordOps.{length-paired, get_or-paired}
use Rattle.tv_model.specs.Form.{Form, FAnd, FExists, IsFree}
use Rattle.tv_model.specs.Truth.{Assignment, Truth, put}
use Rattle.tv_model.proofs.Assignments.{put-same, put-other}
use Rattle.tv_model.proofs.Lists.{Contains-cases}
use Rattle.tv_eval.specs.Along.{values_along}
use Rattle.tv_eval.specs.AssignmentForm.{IsAssigned, assignment_of, individual_for}
use Rattle.tv_eval.specs.Formulas.{AreAssigned}
use Rattle.tv_eval.specs.ScratchForm.{ScratchForm}
use Rattle.tv_structure_form.specs.StructureForm.{StructureForm, structure_of}
use Rattle.tv_structure_form.proofs.Library.{Contains-range}
use Rattle.tv_two_valued.specs.Laws.{TellsTruthOf}
use Rattle.tv_two_valued.specs.TwoValued.{heap_of}
use Rattle.tv_two_valued.proofs.Truths.{from-assigned, truth_is_told}
use Rattle.tv_eval_laws.specs.Laws.{GivesIndividuals}
use Rattle.tv_eval_laws.specs.Value.{value}
use Rattle.tv_replay_judge.specs.Trying.{ImplicationForm, CanTell, ArePlaced, IsGranted, IsMetFrom, IsRowOf}
use Rattle.tv_replay_judge.specs.Trying.{IsRuledOut}
use Rattle.tv_replay_judge.proofs.Tried.{settled-out, settled-granted, and-left, and-right, met-out}
use Rattle.tv_replay_judge.proofs.Tried.{met-granted}

-- ---- values

not-both : (x y : K3) → smaller_of x y ≢ Yes → (x ≢ Yes) ⊎ (y ≢ Yes)
not-both No y ne = inl (λ e. absurd (cc e))
not-both Half y ne = inl (λ e. absurd (cc e))
not-both Yes y ne = inr (λ e. ne e)

not-no : (x : K3) → negation_of x ≢ Yes → x ≢ No
not-no x ne e = ne (ap negation_of e)

-- ---- rows

-- where one of two rows isn't Yes
both-rows : (size : ℕ) (P Q R : ℕ → Type 0) (x y : List K3) → IsRowOf size P x → IsRowOf size Q y → ((u : ℕ) → P u → R u)
    → ((u : ℕ) → Q u → R u) → IsRowOf size R (paired smaller_of x y)
both-rows size P Q R x y left right from_left from_right = record {
  size = length-paired smaller_of x y (left.size ∙ sym right.size) ∙ left.size;
  passed = λ u within ne.
      ⊎_elim (λ no. from_left u (left.passed u within no)) (λ no. from_right u (right.passed u within no))
      (not-both (get_or x u No) (get_or y u No) (λ e. ne
      (get_or-paired smaller_of x y u (omega (arith, within, left.size)) (omega (arith, within, right.size)) ∙ e)));
}

-- ---- the values of one formula

module _ (s : StructureForm) (room : ScratchForm) (places : List (Option ℕ)) (v : ℕ) (rest : List ℕ) (f : Form) (can : CanTell s room f)
    (placed : ArePlaced s.size (v ∷ rest) places f) (settled : (w : ℕ) → Contains rest w → ¬ IsFree w f) where
  others : (w : ℕ) → w ≢ v → IsFree w f → IsAssigned s.size places w
  others w ne free =
      ⊎_elim
      (λ at. ⊎_elim (λ e. absurd (ne (sym e))) (λ there. absurd (settled w there free)) (Contains-cases v w rest at))
      (λ assigned. assigned)
      (placed w free)

  pub row-assigned : AreAssigned s.size places (FExists v f)
  row-assigned w free = others w free.0 free.1

  gives : (u : ℕ) → u < s.size → GivesIndividuals (heap_of s).individuals f (put (assignment_of places) v u)
  gives u within w free =
      ⊎_elim
      (λ e. subst (Contains (range_with_len 0 s.size)) (sym (put-same (assignment_of places) v u w e)) (Contains-range s.size u within))
      (λ ne. subst (Contains (range_with_len 0 s.size)) (sym (put-other (assignment_of places) v u w ne))
      (from-assigned s.size (individual_for places w) (others w ne free)))
      (cases_eq w v)

  tells : (u : ℕ) → u < s.size → TellsTruthOf s (put (assignment_of places) v u) f
  tells u within = truth_is_told s (put (assignment_of places) v u) f can.structure can.two_valued (gives u within)

  along-value : (u : ℕ) → u < s.size
      → get_or (values_along s (assignment_of places) v f) u No ≡ value (structure_of s) (put (assignment_of places) v u) f
  along-value u within =
      get_or-map-range_with_len (λ x. value (structure_of s) (put (assignment_of places) v x) f) 0 s.size u u No within (omega arith)

  along-length : length (values_along s (assignment_of places) v f) ≡ s.size
  along-length = length-map-range_with_len (λ u. value (structure_of s) (put (assignment_of places) v u) f) 0 s.size

  pub row-out : IsRowOf s.size (λ u. IsRuledOut (heap_of s) rest (put (assignment_of places) v u) f) (values_along s (assignment_of places) v f)
  row-out = record {
    size = along-length;
    passed = λ u within ne.
        settled-out (heap_of s) rest (put (assignment_of places) v u) f settled
        (λ truth. ne (along-value u within ∙ (tells u within).yes.1 truth));
  }

  pub row-granted : IsRowOf s.size (λ u. IsGranted (heap_of s) rest (put (assignment_of places) v u) f)
      (map negation_of (values_along s (assignment_of places) v f))
  row-granted = record {
    size = length-map (values_along s (assignment_of places) v f) negation_of ∙ along-length;
    passed = λ u within ne.
        settled-granted (heap_of s) rest (put (assignment_of places) v u) f settled (truth u within (not-no _ (λ e. ne
        (get_or-map negation_of (values_along s (assignment_of places) v f) u No No (omega (arith, within, along-length)) ∙ e))));
  }
    where
      truth : (u : ℕ) → u < s.size → get_or (values_along s (assignment_of places) v f) u No ≢ No
          → Truth (heap_of s) (put (assignment_of places) v u) f
      truth u within ne = at (value (structure_of s) (put (assignment_of places) v u) f) refl
        where
          at : (k : K3) → value (structure_of s) (put (assignment_of places) v u) f ≡ k → Truth (heap_of s) (put (assignment_of places) v u) f
          at No is = absurd (ne (along-value u within ∙ is))
          at Half is = absurd (ne (along-value u within ∙ (tells u within).no.1 (λ holds. clash (sym is ∙ (tells u within).yes.1 holds))))
            where
              clash : Half ≡ Yes → ⊥
              clash e = cc
          at Yes is = (tells u within).yes.0 is

-- ---- bodies, and places to be tried

module _ (s : StructureForm) (rest : List ℕ) (a : Assignment) (v : ℕ) where
  pub and-row : (f g : Form) (x y : List K3) → IsRowOf s.size (λ u. IsRuledOut (heap_of s) rest (put a v u) f) x
      → IsRowOf s.size (λ u. IsRuledOut (heap_of s) rest (put a v u) g) y
      → IsRowOf s.size (λ u. IsRuledOut (heap_of s) rest (put a v u) (FAnd f g)) (paired smaller_of x y)
  and-row f g x y left right =
      both-rows s.size _ _ (λ u. IsRuledOut (heap_of s) rest (put a v u) (FAnd f g)) x y left right
      (λ u out. and-left (heap_of s) rest (put a v u) f g out) (λ u out. and-right (heap_of s) rest (put a v u) f g out)

  pub body-places : (t : ImplicationForm) (x : List K3) → IsRowOf s.size (λ u. IsRuledOut (heap_of s) rest (put a v u) t.body) x
      → IsRowOf s.size (λ u. IsMetFrom (heap_of s) t rest (put a v u)) x
  body-places t x body = record { size = body.size; passed = λ u within ne. met-out (heap_of s) t rest (put a v u) (body.passed u within ne) }

  pub both-places : (t : ImplicationForm) (x y : List K3) → IsRowOf s.size (λ u. IsRuledOut (heap_of s) rest (put a v u) t.body) x
      → IsRowOf s.size (λ u. IsGranted (heap_of s) rest (put a v u) t.head) y
      → IsRowOf s.size (λ u. IsMetFrom (heap_of s) t rest (put a v u)) (paired smaller_of x y)
  both-places t x y body head =
      both-rows s.size _ _ (λ u. IsMetFrom (heap_of s) t rest (put a v u)) x y body head
      (λ u out. met-out (heap_of s) t rest (put a v u) out) (λ u granted. met-granted (heap_of s) t rest (put a v u) granted)

-- ---- one individual after the other, as the rows leave them

pub walked-more : (size : ℕ) (P : ℕ → Type 0) (row : List K3) (from u : ℕ) → IsRowOf size P row → u < size → ((k : ℕ) → k < from → P k)
    → ((w : ℕ) → from ≤ w → w < u → get_or row w No ≢ Yes) → P u → (k : ℕ) → k < u + 1 → P k
walked-more size P row from u is within before skipped here k less = at (cases_lt k from) (cases_lt k u)
  where
    at : (k < from) ⊎ (from ≤ k) → (k < u) ⊎ (u ≤ k) → P k
    at (inl lt) other = before k lt
    at (inr ge) (inl lt) = is.passed k (omega (arith, lt, within)) (skipped k ge lt)
    at (inr ge) (inr le) = let e : u ≡ k = omega (arith, less, le) in subst P e here

pub walked-all : (size : ℕ) (P : ℕ → Type 0) (row : List K3) (from : ℕ) → IsRowOf size P row → ((k : ℕ) → k < from → P k)
    → ((w : ℕ) → from ≤ w → w < length row → get_or row w No ≢ Yes) → (k : ℕ) → k < size → P k
walked-all size P row from is before skipped k less = at (cases_lt k from)
  where
    at : (k < from) ⊎ (from ≤ k) → P k
    at (inl lt) = before k lt
    at (inr ge) = is.passed k less (skipped k ge (omega (arith, less, is.size)))
