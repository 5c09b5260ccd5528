-- Updates that are made one after the other.
use Rattle.std.proofs.Common.{ℕ, ◌≡◌, ◌≢◌, ◌≤◌, ◌⊎◌, ◌-◌, List, [], ◌∷◌, length, get_or, take, take_all, drop}
use Rattle.std.proofs.Common.{map, Option, None, Some, slice_get, inl, inr, ⊎_elim, refl, sym, ap, subst, ◌∙◌}
use Rattle.std.proofs.Common.{eqb, eq-eqb, ne_eqb, arith}
use Rattle.std.specs.List.{AllByRecursion}
use Rattle.std.proofs.lemmas.Bool.{cases_eq, cond-true, cond-false}
use Rattle.tv_kleene.specs.declared.K3.TheVariants.{No}
use Rattle.tv_model.specs.declared.program.Mode.{Mode}
use Rattle.tv_model.specs.declared.program.Mode.TheVariants.{Given, Recompute}
use Rattle.tv_model.specs.declared.program.Update.{Update}
use Rattle.tv_model.specs.Form.{vars_of}
use Rattle.tv_model.specs.Program.{change_of, update_of, ProgramForm, KindForm, KCore, KDefined, UpdateForm}
use Rattle.tv_model.specs.Step.{update_for}
use Rattle.tv_model.specs.Truth.{Assignment}
use Rattle.tv_structure_form.specs.TableForm.{AreIndividuals}
use Rattle.tv_structure_form.specs.StructureForm.{StructureForm, structure_of, arities_of, value_at}
use Rattle.tv_struct.specs.StructureRows.{HasArity}
use Rattle.tv_structure_form.proofs.Library.{value_at-misfit}
use Rattle.tv_eval.specs.ScratchForm.{ScratchForm}
use Rattle.tv_update_laws.specs.Applied.{changed_value, updated_value, used_update, kind_at}
use Rattle.tv_update_laws.proofs.Updates.{none-used}
use Rattle.tv_update.specs.Rows.{IsLike, HasRows, change_rows}
use Rattle.tv_update.specs.Updated.{used_in, updated_or, AreMade, CanMake}
use Rattle.tv_update.proofs.RowLaws.{change_rows_values, few_vars}

pub like-itself : (s : StructureForm) → IsLike s s
like-itself s = record { size = refl; summaries = refl; over = refl; fresh = refl }

pub like-after : (s t u : StructureForm) → IsLike s t → IsLike t u → IsLike s u
like-after s t u a b = record {
  size = b.size ∙ a.size;
  summaries = b.summaries ∙ a.summaries;
  over = b.over ∙ a.over;
  fresh = b.fresh ∙ a.fresh;
}

pub none_made : (p : ProgramForm) (mode : Mode) (middle : StructureForm) (picks : Assignment)
    (s : StructureForm) → AreMade p mode middle picks [] s s
none_made p mode middle picks s = record {
  like = like-itself s;
  values = λ q tuple within.
      ap (λ o. updated_or (structure_of middle) picks o tuple (value_at s q tuple))
      (sym (none-used mode (kind_at p q)));
}

-- a predicate of other rows keeps its update
other-used : (p : ProgramForm) (mode : Mode) (w : UpdateForm) (rest : List UpdateForm) (q : ℕ) → w.pred ≢ q
    → used_in p mode (w ∷ rest) q ≡ used_in p mode rest q
other-used p mode w rest q ne =
    ap (used_update mode (kind_at p q))
    (cond-false (eqb w.pred q) (Some w) (update_for q rest) (ne_eqb w.pred q ne))

own-used : (p : ProgramForm) (mode : Mode) (w : UpdateForm) (rest : List UpdateForm) (q : ℕ) → w.pred ≡ q
    → used_in p mode (w ∷ rest) q ≡ used_update mode (kind_at p q) (Some w)
own-used p mode w rest q e =
    ap (used_update mode (kind_at p q))
    (cond-true (eqb w.pred q) (Some w) (update_for q rest) (eq-eqb w.pred q e))

-- one more update, which doesn't count
pub passed_over : (p : ProgramForm) (mode : Mode) (middle : StructureForm) (picks : Assignment)
    (w : UpdateForm)
    (rest : List UpdateForm) (s t : StructureForm) → used_update mode (kind_at p w.pred) (Some w) ≡ None
    → AreMade p mode middle picks rest s t → AreMade p mode middle picks (w ∷ rest) s t
passed_over p mode middle picks w rest s t none made = record {
  like = made.like;
  values = λ q tuple within.
      made.values q tuple within
      ∙ ap (λ o. updated_or (structure_of middle) picks o tuple (value_at s q tuple))
      (same q (cases_eq w.pred q));
}
  where
    -- where an update of the predicate doesn't count, no other does
    never : (m : Mode) (kind : KindForm) (o : Option UpdateForm) → used_update m kind (Some w) ≡ None
        → used_update m kind o ≡ None
    never Given kind o e = absurd (cc e)
    never Recompute KCore o e = absurd (cc e)
    never Recompute (KDefined vars body) o e = refl

    same : (q : ℕ) → (w.pred ≡ q) ⊎ (w.pred ≢ q) → used_in p mode rest q ≡ used_in p mode (w ∷ rest) q
    same q (inl e) =
        let here : used_update mode (kind_at p q) (Some w) ≡ None =
        subst (λ n. used_update mode (kind_at p n) (Some w) ≡ None) e none
        in never mode (kind_at p q) (update_for q rest) here ∙ sym here ∙ sym (own-used p mode w rest q e)
    same q (inr ne) = sym (other-used p mode w rest q ne)

-- one more update, which counts
pub one_more_made : (p : ProgramForm) (mode : Mode) (middle : StructureForm) (picks : Assignment)
    (w : UpdateForm)
    (rest : List UpdateForm) (s t u : StructureForm) → used_update mode (kind_at p w.pred) (Some w) ≡ Some w
    → HasArity middle w.pred (length w.vars) → length w.vars ≤ 2 → IsLike middle s
    → AreMade p mode middle picks rest s t
    → HasRows t u w.pred (length w.vars) (change_rows middle picks w.vars w.change)
    → AreMade p mode middle picks (w ∷ rest) s u
one_more_made p mode middle picks w rest s t u counts arity few like made has = record {
  like = like-after s t u made.like has.like;
  values = λ q tuple within. ⊎_elim (own q tuple within) (other q tuple within) (cases_eq w.pred q);
}
  where
    other : (q : ℕ) (tuple : List ℕ) → AreIndividuals s.size tuple → w.pred ≢ q
        → value_at u q tuple ≡ updated_or (structure_of middle) picks (used_in p mode (w ∷ rest) q) tuple
        (value_at s q tuple)
    other q tuple within ne =
        has.others q tuple (λ e. ne (sym e)) ∙ made.values q tuple within
        ∙ ap (λ o. updated_or (structure_of middle) picks o tuple (value_at s q tuple))
        (sym (other-used p mode w rest q ne))

    size : s.size ≡ middle.size
    size = like.size

    over : arities_of u ≡ arities_of middle
    over = has.like.over ∙ made.like.over ∙ like.over

    updated : (tuple : List ℕ) → AreIndividuals s.size tuple
        → value_at u w.pred tuple ≡ updated_value (structure_of middle) picks w tuple
    updated tuple within =
        ⊎_elim
        (λ fits.
        has.values tuple fits (subst (λ n. AreIndividuals n tuple) (sym made.like.size) within)
        ∙ change_rows_values middle picks w.vars w.change tuple few fits
        (subst (λ n. AreIndividuals n tuple) size within)
        ∙ sym (cond-true (eqb (length tuple) (length w.vars))
        (changed_value (structure_of middle) picks w.vars w.change tuple) No (eq-eqb _ _ fits)))
        (λ misfit.
        value_at-misfit u w.pred tuple (λ known.
        let both : Some (length tuple) ≡ Some (length w.vars) =
        sym known ∙ ap (λ ns. slice_get ns w.pred) over ∙ arity
        in misfit (cc))
        ∙ sym (cond-false (eqb (length tuple) (length w.vars))
        (changed_value (structure_of middle) picks w.vars w.change tuple) No (ne_eqb _ _ misfit)))
        (cases_eq (length tuple) (length w.vars))

    own : (q : ℕ) (tuple : List ℕ) → AreIndividuals s.size tuple → w.pred ≡ q
        → value_at u q tuple ≡ updated_or (structure_of middle) picks (used_in p mode (w ∷ rest) q) tuple
        (value_at s q tuple)
    own q tuple within e =
        ap (λ n. value_at u n tuple) (sym e) ∙ updated tuple within
        ∙ ap (λ o. updated_or (structure_of middle) picks o tuple (value_at s q tuple))
        (sym (own-used p mode w rest q e
        ∙ subst (λ n. used_update mode (kind_at p n) (Some w) ≡ Some w) e counts))

-- the first of the updates of a slice, which counts
pub first_made : (p : ProgramForm) (mode : Mode) (middle seen : StructureForm) (picks : Assignment)
    (places : List (Option ℕ))
    (room : ScratchForm) (ws : List Update) (w : Update) (s t u : StructureForm) → 1 ≤ length ws
    → w ≡ get_or ws 0 w → used_update mode (kind_at p w.pred.0) (Some (update_of w)) ≡ Some (update_of w)
    → AllByRecursion (λ x. CanMake middle places room (update_of x)) ws → IsLike middle s
    → AreMade p mode middle picks (map update_of (take (length ws - 1) (drop 1 ws))) s t → seen ≡ middle
    → HasRows t u w.pred.0 (length (vars_of w.vars))
    (change_rows seen picks (vars_of w.vars) (change_of w.change))
    → AreMade p mode middle picks (map update_of ws) s u
first_made p mode middle seen picks places room [] w s t u some first counts can like made same has =
    absurd (omega (arith, some))
first_made p mode middle seen picks places room (x ∷ xs) w s t u some first counts can like made same has =
    let all : take (length (x ∷ xs) - 1) xs ≡ xs = take_all (length (x ∷ xs) - 1) xs (omega arith)
    in let rest : AreMade p mode middle picks (map update_of xs) s t
    = subst (λ ys. AreMade p mode middle picks (map update_of ys) s t) all made
    in let rows : HasRows t u w.pred.0 (length (vars_of w.vars))
    (change_rows middle picks (vars_of w.vars) (change_of w.change))
    = subst (λ m. HasRows t u w.pred.0 (length (vars_of w.vars))
    (change_rows m picks (vars_of w.vars) (change_of w.change))) same has
    in let canw : CanMake middle places room (update_of w) =
    subst (λ y. CanMake middle places room (update_of y)) (sym first) can.0
    in subst (λ y. AreMade p mode middle picks (update_of y ∷ map update_of xs) s u) first
    (one_more_made p mode middle picks (update_of w) (map update_of xs) s t u counts canw.arity
    (few_vars w.vars) like rest rows)
