-- What can be evaluated can be evaluated part by part.
use Rattle.std.proofs.Common.{ℕ, ◌≡◌, ◌≢◌, ◌<◌, ◌≤◌, ◌+◌, ◌==◌, inl, inr, ⊎_elim, zero, suc, List, [], ◌∷◌}
use Rattle.std.proofs.Common.{◌++◌, length, get_or, max, ap, Option, Some, None, replicate, refl, sym, subst}
use Rattle.std.proofs.Common.{◌∙◌, arith, if◌then◌else◌, eqb, eq-eqb, ne_eqb}
use mathlib.Core.Path.{fun_ext}
use Rattle.std.specs.Prelude.{IsSomeAnd, unwrap_or}
use Rattle.std.proofs.lemmas.Bool.{cases_eq, cond-true, cond-false}
use Rattle.tv_kleene.specs.declared.K3.{K3}
use Rattle.tv_model.specs.Form.{Form, FAtom, FNot, FAnd, FOr, FIff, FCond, FExists, FForall, FClosure, IsFree}
use Rattle.tv_model.proofs.Assignments.{put-same, put-other}
use Rattle.tv_model.specs.Truth.{put}
use Rattle.tv_model.proofs.Lists.{Contains-here, Contains-there}
use Rattle.tv_structure_form.specs.TableForm.{HasEntry}
use Rattle.tv_structure_form.specs.StructureForm.{StructureForm, table_of, arities_of}
use Rattle.tv_eval.specs.AssignmentForm.{individual_for, assignment_of, IsAssigned}
use Rattle.tv_eval.specs.Formulas.{HasRooms, nesting, sizes_of}
use Rattle.tv_model.specs.Valid.{IsFormulaOver}
use Rattle.tv_eval.specs.CanEvaluate.{CanEvaluate}

-- a list of None has None at each place
pub nones : (n v : ℕ) → get_or {A = Option ℕ} (replicate n None) v None ≡ None
nones zero v = refl
nones (suc n) zero = refl
nones (suc n) (suc v) = nones n v

-- what an assigned variable stands for is an individual
some-below : (n : ℕ) (o : Option ℕ) → IsSomeAnd o (λ u. u < n) → unwrap_or o 0 < n
some-below n None h = absurd h
some-below n (Some u) h = h

pub individual_of : (n : ℕ) (places : List (Option ℕ)) (v : ℕ) → IsAssigned n places v → assignment_of places v < n
individual_of n places v h = some-below n (individual_for places v) h

pub fewer_levels : (size few many : ℕ) (sizes : List ℕ) → few ≤ many → HasRooms size many sizes → HasRooms size
    few sizes
fewer_levels size few many sizes le h = let l : many ≤ length sizes = h.count in record
    { count = omega arith; each = h.each }

pub can-not : (s : StructureForm) (places : List (Option ℕ)) (sizes : List ℕ) (f : Form)
    → CanEvaluate s places sizes (FNot f) → CanEvaluate s places sizes f
can-not s places sizes f h = record { formula = h.formula; assigned = h.assigned; rooms = h.rooms }

pub can-and : (s : StructureForm) (places : List (Option ℕ)) (sizes : List ℕ) (f g : Form)
    → CanEvaluate s places sizes (FAnd f g) → CanEvaluate s places sizes f × CanEvaluate s places sizes g
can-and s places sizes f g h = (
  record {
    formula = h.formula.0;
    assigned = λ v free. h.assigned v (inl free);
    rooms = fewer_levels s.size (nesting f) (max (nesting f) (nesting g)) sizes (omega arith) h.rooms;
  },
  record {
    formula = h.formula.1;
    assigned = λ v free. h.assigned v (inr free);
    rooms = fewer_levels s.size (nesting g) (max (nesting f) (nesting g)) sizes (omega arith) h.rooms;
  },
)

pub can-or : (s : StructureForm) (places : List (Option ℕ)) (sizes : List ℕ) (f g : Form)
    → CanEvaluate s places sizes (FOr f g) → CanEvaluate s places sizes f × CanEvaluate s places sizes g
can-or s places sizes f g h =
    can-and s places sizes f g (record { formula = h.formula; assigned = h.assigned; rooms = h.rooms })

pub can-iff : (s : StructureForm) (places : List (Option ℕ)) (sizes : List ℕ) (f g : Form)
    → CanEvaluate s places sizes (FIff f g) → CanEvaluate s places sizes f × CanEvaluate s places sizes g
can-iff s places sizes f g h =
    can-and s places sizes f g (record { formula = h.formula; assigned = h.assigned; rooms = h.rooms })

-- one part of a formula of several parts
can-part : (s : StructureForm) (places : List (Option ℕ)) (sizes : List ℕ) (whole part : Form)
    → IsFormulaOver (arities_of s) part → ((v : ℕ) → IsFree v part → IsFree v whole) → nesting part ≤ nesting whole
    → CanEvaluate s places sizes whole → CanEvaluate s places sizes part
can-part s places sizes whole part over free le h = record {
  formula = over;
  assigned = λ v fv. h.assigned v (free v fv);
  rooms = fewer_levels s.size (nesting part) (nesting whole) sizes le h.rooms;
}

pub can-cond : (s : StructureForm) (places : List (Option ℕ)) (sizes : List ℕ) (c f g : Form)
    → CanEvaluate s places sizes (FCond c f g)
    → CanEvaluate s places sizes c × CanEvaluate s places sizes f × CanEvaluate s places sizes g
can-cond s places sizes c f g h = (
  can-part s places sizes (FCond c f g) c h.formula.0 (λ v free. inl free) (omega arith) h,
  can-part s places sizes (FCond c f g) f h.formula.1 (λ v free. inr (inl free)) (omega arith) h,
  can-part s places sizes (FCond c f g) g h.formula.2 (λ v free. inr (inr free)) (omega arith) h,
)

-- b is a with the individual u put for v
pub record IsPut (a : List (Option ℕ)) (v u : ℕ) (b : List (Option ℕ)) : Type 0 where
  pub places : (w : ℕ) → individual_for b w ≡ (if w == v then Some u else individual_for a w)

assigned-put : (n : ℕ) (a b : List (Option ℕ)) (v u w : ℕ) → IsPut a v u b → u < n
    → (w ≢ v → IsAssigned n a w) → IsAssigned n b w
assigned-put n a b v u w put lt h =
    let At : Option ℕ → Type 0 = λ o. IsSomeAnd o (λ x. x < n)
    in ⊎_elim
    (λ e. subst At (sym (put.places w ∙ cond-true (eqb w v) (Some u) (individual_for a w) (eq-eqb w v e))) lt)
    (λ ne. subst At (sym (put.places w ∙ cond-false (eqb w v) (Some u) (individual_for a w) (ne_eqb w v ne))) (h ne))
    (cases_eq w v)

-- b is a, or differs from it in what v stands for
pub record IsLike (a : List (Option ℕ)) (v : ℕ) (b : List (Option ℕ)) : Type 0 where
  pub others : (w : ℕ) → w ≢ v → individual_for b w ≡ individual_for a w

pub like-itself : (a : List (Option ℕ)) (v : ℕ) → IsLike a v a
like-itself a v = record { others = λ w ne. refl }

-- b is here with the individual u put for v, and here is like a: b is a with u put for v
module _ (a here b : List (Option ℕ)) (v u : ℕ) (like : IsLike a v here)
    (places : (w : ℕ) → individual_for b w ≡ (if w == v then Some u else individual_for here w)) where
  pub put-again : IsPut a v u b
  put-again = record {
    places = λ w. ⊎_elim
        (λ e. places w ∙ cond-true (eqb w v) (Some u) (individual_for here w) (eq-eqb w v e) ∙ sym
        (cond-true (eqb w v) (Some u) (individual_for a w) (eq-eqb w v e)))
        (λ ne. places w ∙ cond-false (eqb w v) (Some u) (individual_for here w) (ne_eqb w v ne) ∙ like.others w ne ∙ sym
        (cond-false (eqb w v) (Some u) (individual_for a w) (ne_eqb w v ne)))
        (cases_eq w v);
  }

  pub like-again : IsLike a v b
  like-again = record {
    others = λ w ne. places w ∙ cond-false (eqb w v) (Some u) (individual_for here w) (ne_eqb w v ne) ∙ like.others w ne;
  }

  pub total-again : assignment_of b ≡ put (assignment_of a) v u
  total-again = fun_ext (λ w. ap (λ o. unwrap_or o 0) (put-again.places w) ∙ total_at w)
    where
      total_at : (w : ℕ) → unwrap_or (if w == v then Some u else individual_for a w) 0 ≡ put (assignment_of a) v u w
      total_at w =
          ⊎_elim
          (λ e. ap (λ o. unwrap_or o 0) (cond-true (eqb w v) (Some u) (individual_for a w) (eq-eqb w v e)) ∙ sym
          (put-same (assignment_of a) v u w e))
          (λ ne. ap (λ o. unwrap_or o 0) (cond-false (eqb w v) (Some u) (individual_for a w) (ne_eqb w v ne)) ∙ sym
          (put-other (assignment_of a) v u w ne))
          (cases_eq w v)

pub can-put : (s : StructureForm) (a b : List (Option ℕ)) (sizes : List ℕ) (v u : ℕ) (f : Form)
    → CanEvaluate s a sizes (FExists v f) → u < s.size → IsPut a v u b → CanEvaluate s b sizes f
can-put s a b sizes v u f h lt put = record {
  formula = h.formula.1;
  assigned = λ w free. assigned-put s.size a b v u w put lt (λ ne. h.assigned w (ne, free));
  rooms = h.rooms;
}

pub can-forall : (s : StructureForm) (a : List (Option ℕ)) (sizes : List ℕ) (v : ℕ) (f : Form)
    → CanEvaluate s a sizes (FForall v f) → CanEvaluate s a sizes (FExists v f)
can-forall s a sizes v f h = record { formula = h.formula; assigned = h.assigned; rooms = h.rooms }

-- what a closure's body needs, in the rooms behind the first
pub can-fill : (s : StructureForm) (a : List (Option ℕ)) (sizes inner : List ℕ) (from to left right : ℕ) (f : Form)
    → CanEvaluate s a sizes (FClosure from to left right f) → HasRooms s.size (nesting f) inner
    → CanEvaluate s a inner (FExists left (FExists right f))
can-fill s a sizes inner from to left right f h rooms = record {
  formula = (h.formula.2, (h.formula.3, h.formula.5));
  assigned = λ w free. h.assigned w (inr (inr (free.0, free.1.0, free.1.1)));
  rooms = rooms;
}

-- the entry of an atom
pub entry_of_none : (s : StructureForm) (a : List (Option ℕ)) (sizes : List ℕ) (pred : ℕ)
    → CanEvaluate s a sizes (FAtom pred []) → HasEntry (table_of s) pred []
entry_of_none s a sizes pred h = record { arity = h.formula.0; individuals = tt }

pub entry_of_one : (s : StructureForm) (a : List (Option ℕ)) (sizes : List ℕ) (pred v : ℕ)
    → CanEvaluate s a sizes (FAtom pred (v ∷ [])) → HasEntry (table_of s) pred (assignment_of a v ∷ [])
entry_of_one s a sizes pred v h = record {
  arity = h.formula.0;
  individuals = (individual_of s.size a v (h.assigned v (Contains-here v [])), tt);
}

pub entry_of_two : (s : StructureForm) (a : List (Option ℕ)) (sizes : List ℕ) (pred v w : ℕ)
    → CanEvaluate s a sizes (FAtom pred (v ∷ w ∷ [])) → HasEntry (table_of s) pred
    (assignment_of a v ∷ assignment_of a w ∷ [])
entry_of_two s a sizes pred v w h = record {
  arity = h.formula.0;
  individuals = (
    individual_of s.size a v (h.assigned v (Contains-here v (w ∷ []))),
    (individual_of s.size a w (h.assigned w (Contains-there v w (w ∷ []) (Contains-here w []))), tt),
  );
}

-- ---- rows: a variable is put for all individuals

pub row-and : (s : StructureForm) (a : List (Option ℕ)) (sizes : List ℕ) (v : ℕ) (f g : Form)
    → CanEvaluate s a sizes (FExists v (FAnd f g)) → CanEvaluate s a sizes (FExists v f) × CanEvaluate s a sizes
    (FExists v g)
row-and s a sizes v f g h = (
  record {
    formula = (h.formula.0, h.formula.1.0);
    assigned = λ w free. h.assigned w (free.0, inl free.1);
    rooms = fewer_levels s.size (nesting f) (max (nesting f) (nesting g)) sizes (omega arith) h.rooms;
  },
  record {
    formula = (h.formula.0, h.formula.1.1);
    assigned = λ w free. h.assigned w (free.0, inr free.1);
    rooms = fewer_levels s.size (nesting g) (max (nesting f) (nesting g)) sizes (omega arith) h.rooms;
  },
)

pub row-or : (s : StructureForm) (a : List (Option ℕ)) (sizes : List ℕ) (v : ℕ) (f g : Form)
    → CanEvaluate s a sizes (FExists v (FOr f g)) → CanEvaluate s a sizes (FExists v f) × CanEvaluate s a sizes
    (FExists v g)
row-or s a sizes v f g h = row-and s a sizes v f g
    (record { formula = h.formula; assigned = h.assigned; rooms = h.rooms })

pub row-iff : (s : StructureForm) (a : List (Option ℕ)) (sizes : List ℕ) (v : ℕ) (f g : Form)
    → CanEvaluate s a sizes (FExists v (FIff f g)) → CanEvaluate s a sizes (FExists v f) × CanEvaluate s a sizes
    (FExists v g)
row-iff s a sizes v f g h = row-and s a sizes v f g
    (record { formula = h.formula; assigned = h.assigned; rooms = h.rooms })

pub row-cond : (s : StructureForm) (a : List (Option ℕ)) (sizes : List ℕ) (v : ℕ) (c f g : Form)
    → CanEvaluate s a sizes (FExists v (FCond c f g))
    → CanEvaluate s a sizes (FExists v c) × CanEvaluate s a sizes (FExists v f) × CanEvaluate s a sizes (FExists v g)
row-cond s a sizes v c f g h =
    let deepest : ℕ = max (nesting c) (max (nesting f) (nesting g))
    in (
      record {
        formula = (h.formula.0, h.formula.1.0);
        assigned = λ w free. h.assigned w (free.0, inl free.1);
        rooms = fewer_levels s.size (nesting c) deepest sizes (omega arith) h.rooms;
      },
      record {
        formula = (h.formula.0, h.formula.1.1);
        assigned = λ w free. h.assigned w (free.0, inr (inl free.1));
        rooms = fewer_levels s.size (nesting f) deepest sizes (omega arith) h.rooms;
      },
      record {
        formula = (h.formula.0, h.formula.1.2);
        assigned = λ w free. h.assigned w (free.0, inr (inr free.1));
        rooms = fewer_levels s.size (nesting g) deepest sizes (omega arith) h.rooms;
      },
    )

-- the body under a quantifier, with an individual put for its variable
pub row-put : (s : StructureForm) (a b : List (Option ℕ)) (sizes : List ℕ) (v w x : ℕ) (f : Form)
    → CanEvaluate s a sizes (FExists v (FExists w f)) → x < s.size → IsPut a w x b → CanEvaluate s b sizes
    (FExists v f)
row-put s a b sizes v w x f h lt put = record {
  formula = (h.formula.0, h.formula.1.1);
  assigned = λ y free. assigned-put s.size a b w x y put lt (λ ne. h.assigned y (free.0, (ne, free.1)));
  rooms = h.rooms;
}

-- a formula that the variable isn't free in
pub row-steady : (s : StructureForm) (a : List (Option ℕ)) (sizes : List ℕ) (v : ℕ) (f : Form)
    → CanEvaluate s a sizes (FExists v f) → (¬ IsFree v f) → CanEvaluate s a sizes f
row-steady s a sizes v f h steady = record {
  formula = h.formula.1;
  assigned = λ w free. h.assigned w (λ e. steady (subst (λ n. IsFree n f) e free), free);
  rooms = h.rooms;
}

-- what a closure's body needs where its edges don't depend on the variable
pub row-close : (s : StructureForm) (a : List (Option ℕ)) (sizes : List ℕ) (v from to left right : ℕ) (f : Form)
    → CanEvaluate s a sizes (FExists v (FClosure from to left right f)) → (¬ ((v ≢ left) × (v ≢ right) × IsFree v f))
    → CanEvaluate s a sizes (FExists left (FExists right f))
row-close s a sizes v from to left right f h steady = record {
  formula = (h.formula.1.2, (h.formula.1.3, h.formula.1.5));
  assigned = λ w free. h.assigned w (
    λ e. steady (λ l. free.0 (e ∙ l), λ r. free.1.0 (e ∙ r), subst (λ n. IsFree n f) e free.1.1),
    inr (inr (free.0, free.1.0, free.1.1)),
  );
  rooms = fewer_levels s.size (nesting f) (nesting f + 1) sizes (omega arith) h.rooms;
}
