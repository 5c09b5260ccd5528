-- Values of predicates, row by row.
use Rattle.std.proofs.Common.{ℕ, ◌≡◌, ◌<◌, ◌↔◌, inl, ⊎_elim, eq-eqb, List, [], ◌∷◌, length, map, get_or}
use Rattle.std.proofs.Common.{Option, Some, None, unwrap_or, refl, sym, ap, subst, ◌∙◌, arith}
use Rattle.std.specs.Prelude.{Contains, IsSomeAnd, if◌then◌else◌, ◌==◌}
use Rattle.std.specs.List.{range_with_len}
use Rattle.std.proofs.lemmas.List.FromFn.{get_or-map-range_with_len}
use Rattle.tv_kleene.specs.declared.K3.{K3}
use Rattle.tv_kleene.specs.declared.K3.TheVariants.{No, Half, Yes}
use Rattle.tv_kleene.proofs.Lattice.{same-definite}
use Rattle.tv_two_valued.proofs.Tuples.{no-members, one-member, two-members}
use Rattle.tv_update_laws.proofs.Puts.{put_all-goes}
use Rattle.tv_eval.specs.Along.{values_along}
use Rattle.tv_eval.specs.AssignmentForm.{IsAssigned, assignment_of, individual_for}
use Rattle.tv_eval.specs.Formulas.{AreAssigned}
use Rattle.tv_eval.specs.ScratchForm.{ScratchForm}
use Rattle.tv_model.specs.Form.{Form, FExists}
use Rattle.tv_model.specs.Heap.{Holds, IsTuple}
use Rattle.tv_model.specs.Rules.{blank}
use Rattle.tv_model.specs.Truth.{Truth, put, put_all}
use Rattle.tv_model.specs.Valid.{IsOver}
use Rattle.tv_model.proofs.Lists.{map-agreed, Contains-cases, Contains-none}
use Rattle.tv_structure_form.specs.StructureForm.{StructureForm, structure_of, value_at}
use Rattle.tv_struct.specs.StructureRows.{unary_row, row_at}
use Rattle.tv_structure_form.specs.TableForm.{AreIndividuals}
use Rattle.tv_structure_form.proofs.Library.{below-range, AreIndividuals-range, All-individuals}
use Rattle.tv_two_valued.specs.Laws.{TellsTruthOf}
use Rattle.tv_two_valued.specs.TwoValued.{heap_of}
use Rattle.tv_two_valued.proofs.Heaps.{heap-told}
use Rattle.tv_two_valued.proofs.Truths.{truth_is_told}
use Rattle.tv_eval_laws.specs.Laws.{GivesIndividuals}
use Rattle.tv_eval_laws.specs.Value.{value}
use Rattle.tv_replay_judge.specs.Same.{HasSameValues, HasValuesOf, CanCompare}

-- ---- equal rows

-- two rows are equal where they agree at each place
same-row : (n : ℕ) (f g : ℕ → K3) → map f (range_with_len 0 n) ≡ map g (range_with_len 0 n) ↔ ((u : ℕ) → u < n → f u ≡ g u)
same-row n f g = (
  λ e u lt. sym (get_or-map-range_with_len f 0 n u u No lt (omega arith)) ∙ ap (λ row. get_or row u No) e
      ∙ get_or-map-range_with_len g 0 n u u No lt (omega arith),
  λ each. map-agreed f g (range_with_len 0 n) (λ u at. each u (below-range n u at)),
)

-- ---- the same values in two structures

-- the first rows are equal
abbrev pub SameRows : (s t : StructureForm) → (pred count : ℕ) → Type 0
SameRows s t q count = (u : ℕ) → u < count → row_at s q u ≡ row_at t q u

module _ (s t : StructureForm) (q : ℕ) (size : s.size ≡ t.size) where
  pub same-unary : (unary_row s q ≡ unary_row t q) ↔ HasSameValues s t q 1
  same-unary = (
    λ e tuple long. one-member (λ us. AreIndividuals t.size us → value_at s q us ≡ value_at t q us)
        (λ u all. (both t.size).0 (at_size e) u all.0) tuple long,
    λ same. ap (λ n. map (λ u. value_at s q (u ∷ [])) (range_with_len 0 n)) size
        ∙ (both t.size).1 (λ u lt. same (u ∷ []) refl (lt, tt)),
  )
    where
      both : (n : ℕ) → map (λ u. value_at s q (u ∷ [])) (range_with_len 0 n) ≡ map (λ u. value_at t q (u ∷ [])) (range_with_len 0 n)
          ↔ ((u : ℕ) → u < n → value_at s q (u ∷ []) ≡ value_at t q (u ∷ []))
      both n = same-row n (λ u. value_at s q (u ∷ [])) (λ u. value_at t q (u ∷ []))

      at_size : unary_row s q ≡ unary_row t q
          → map (λ u. value_at s q (u ∷ [])) (range_with_len 0 t.size) ≡ map (λ u. value_at t q (u ∷ [])) (range_with_len 0 t.size)
      at_size e = sym (ap (λ n. map (λ u. value_at s q (u ∷ [])) (range_with_len 0 n)) size) ∙ e

  pub same-pairs : SameRows s t q t.size ↔ HasSameValues s t q 2
  same-pairs = (
    λ rows tuple long. two-members (λ us. AreIndividuals t.size us → value_at s q us ≡ value_at t q us)
        (λ u w all. (both u t.size).0 (at_size u (rows u all.0)) w all.1.0) tuple long,
    λ same u lt. ap (λ n. map (λ w. value_at s q (u ∷ w ∷ [])) (range_with_len 0 n)) size
        ∙ (both u t.size).1 (λ w below. same (u ∷ w ∷ []) refl (lt, (below, tt))),
  )
    where
      both : (u n : ℕ) → map (λ w. value_at s q (u ∷ w ∷ [])) (range_with_len 0 n) ≡ map (λ w. value_at t q (u ∷ w ∷ [])) (range_with_len 0 n)
          ↔ ((w : ℕ) → w < n → value_at s q (u ∷ w ∷ []) ≡ value_at t q (u ∷ w ∷ []))
      both u n = same-row n (λ w. value_at s q (u ∷ w ∷ [])) (λ w. value_at t q (u ∷ w ∷ []))

      at_size : (u : ℕ) → row_at s q u ≡ row_at t q u
          → map (λ w. value_at s q (u ∷ w ∷ [])) (range_with_len 0 t.size) ≡ map (λ w. value_at t q (u ∷ w ∷ [])) (range_with_len 0 t.size)
      at_size u e = sym (ap (λ n. map (λ w. value_at s q (u ∷ w ∷ [])) (range_with_len 0 n)) size) ∙ e

-- ---- the values of a formula

-- the assignment of no variable gives what the blank one gives
pub none-blank : (places : List (Option ℕ)) → ((v : ℕ) → individual_for places v ≡ None) → assignment_of places ≡ blank
none-blank places none i v = ap (λ o. unwrap_or o 0) (none v) i

-- the first rows are those of the formula
abbrev pub ValueRows : StructureForm → (pred : ℕ) → Form → (v w count : ℕ) → Type 0
ValueRows s q f v w count = (u : ℕ) → u < count → values_along s (put blank v u) w f ≡ row_at s q u

-- without variables, and with one or two that stand for individuals, the formula can be evaluated
pub none-assigned : (size : ℕ) (places : List (Option ℕ)) (f : Form) → IsOver [] f → AreAssigned size places f
none-assigned size places f over v free = absurd (Contains-none v (over v free))

pub one-assigned : (size : ℕ) (places : List (Option ℕ)) (v : ℕ) (f : Form) → IsOver (v ∷ []) f → AreAssigned size places (FExists v f)
one-assigned size places v f over w free =
    ⊎_elim (λ e. absurd (free.0 (sym e))) (λ at. absurd (Contains-none w at)) (Contains-cases v w [] (over w free.1))

pub two-assigned : (size : ℕ) (old new : List (Option ℕ)) (v w u : ℕ) (f : Form) → IsOver (v ∷ w ∷ []) f → u < size
    → ((x : ℕ) → individual_for new x ≡ (if x == v then Some u else individual_for old x)) → AreAssigned size new (FExists w f)
two-assigned size old new v w u f over lt with_u x free =
    ⊎_elim (λ e. first (sym e))
    (λ at. ⊎_elim (λ e. absurd (free.0 (sym e))) (λ none. absurd (Contains-none x none)) (Contains-cases w x [] at))
    (Contains-cases v x (w ∷ []) (over x free.1))
  where
    assigned-same : (o : Option ℕ) → o ≡ Some u → IsSomeAnd o (λ y. y < size)
    assigned-same o e = subst (λ p. IsSomeAnd p (λ y. y < size)) (sym e) lt

    first : x ≡ v → IsAssigned size new x
    first e = assigned-same (individual_for new x) (with_u x ∙ rw (e, eq-eqb v v refl) refl)

module _ (s : StructureForm) (q : ℕ) (f : Form) where
  pub values-nullary : (value (structure_of s) blank f ≡ value_at s q []) ↔ HasValuesOf s q [] f
  values-nullary = (
    λ e tuple long all. no-members (λ us. value (structure_of s) (put_all blank [] us) f ≡ value_at s q us) e tuple long,
    λ same. same [] refl tt,
  )

  pub values-unary : (v : ℕ) → values_along s blank v f ≡ unary_row s q ↔ HasValuesOf s q (v ∷ []) f
  values-unary v =
      let both = same-row s.size (λ u. value (structure_of s) (put blank v u) f) (λ u. value_at s q (u ∷ []))
      in (
        λ e tuple long. one-member
            (λ us. AreIndividuals s.size us → value (structure_of s) (put_all blank (v ∷ []) us) f ≡ value_at s q us)
            (λ u all. both.0 e u all.0) tuple long,
        λ same. both.1 (λ u lt. same (u ∷ []) refl (lt, tt)),
      )

  pub values-pairs : (v w : ℕ) → ValueRows s q f v w s.size ↔ HasValuesOf s q (v ∷ w ∷ []) f
  values-pairs v w = (
    λ rows tuple long. two-members
        (λ us. AreIndividuals s.size us → value (structure_of s) (put_all blank (v ∷ w ∷ []) us) f ≡ value_at s q us)
        (λ u x all. (both u).0 (rows u all.0) x all.1.0) tuple long,
    λ same u lt. (both u).1 (λ x below. same (u ∷ x ∷ []) refl (lt, (below, tt))),
  )
    where
      both : (u : ℕ) → values_along s (put blank v u) w f ≡ row_at s q u
          ↔ ((x : ℕ) → x < s.size → value (structure_of s) (put (put blank v u) w x) f ≡ value_at s q (u ∷ x ∷ []))
      both u = same-row s.size (λ x. value (structure_of s) (put (put blank v u) w x) f) (λ x. value_at s q (u ∷ x ∷ []))

-- ---- a definition's values, and where it is true

module _ (s : StructureForm) (room : ScratchForm) (q : ℕ) (vars : List ℕ) (f : Form) (can : CanCompare s room q vars f) where
  tells : (tuple : List ℕ) → length tuple ≡ length vars → AreIndividuals s.size tuple → TellsTruthOf s (put_all blank vars tuple) f
  tells tuple long all =
      truth_is_told s (put_all blank vars tuple) f can.tell.structure can.tell.two_valued (gives tuple long all)
    where
      gives : (tuple : List ℕ) → length tuple ≡ length vars → AreIndividuals s.size tuple
          → GivesIndividuals (heap_of s).individuals f (put_all blank vars tuple)
      gives tuple long all v free =
          put_all-goes (λ u w. Contains (range_with_len 0 s.size) u) (λ u. u) vars tuple long (All-individuals s.size tuple all)
          (λ x. ⊥) blank blank (λ x never. absurd never) v (inl (can.over v free))

  never-half : (tuple : List ℕ) → length tuple ≡ length vars → AreIndividuals s.size tuple
      → value (structure_of s) (put_all blank vars tuple) f ≡ Half → ⊥
  never-half tuple long all half =
      let t = tells tuple long all
      in clash (sym half ∙ t.no.1 (λ truth. apart (sym half ∙ t.yes.1 truth)))
    where
      clash : Half ≡ No → ⊥
      clash e = cc

      apart : Half ≡ Yes → ⊥
      apart e = cc

  pub as-defined : HasValuesOf s q vars f
      ↔ ((tuple : List ℕ) → IsTuple (heap_of s) (length vars) tuple
      → Holds (heap_of s) q tuple ↔ Truth (heap_of s) (put_all blank vars tuple) f)
  as-defined = (
    λ has tuple is.
        let all = AreIndividuals-range s.size tuple is.1
        in let t = tells tuple is.0 all
        in let told = (heap-told s can.tell.structure).holds q tuple
        in let same = has tuple is.0 all
        in (λ holds. t.yes.0 (same ∙ told.0 holds), λ truth. told.1 (sym same ∙ t.yes.1 truth)),
    λ agrees tuple long all.
        let t = tells tuple long all
        in let told = (heap-told s can.tell.structure).holds q tuple
        in let here = agrees tuple (long, All-individuals s.size tuple all)
        in same-definite (value (structure_of s) (put_all blank vars tuple) f) (value_at s q tuple) (never-half tuple long all)
        (can.tell.two_valued.values q tuple)
        (λ yes_. told.0 (here.1 (t.yes.0 yes_)), λ yes_. t.yes.1 (here.0 (told.1 yes_))),
  )
