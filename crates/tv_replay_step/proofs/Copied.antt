-- Values of a predicate, put into another structure.
use Rattle.std.proofs.Common.{ℕ, ◌≡◌, ◌≢◌, ◌<◌, ◌≤◌, ◌+◌, ◌-◌, ◌⊎◌, List, [], ◌∷◌, length, map, take}
use Rattle.std.proofs.Common.{take_all, drop, get_or, Some, inl, inr, ⊎_elim, refl, sym, ap, subst, ◌∙◌}
use Rattle.std.proofs.Common.{arith, Contains}
use Rattle.std.specs.Prelude.{slice_get}
use Rattle.std.specs.List.{AllByRecursion, range_with_len}
use Rattle.std.proofs.lemmas.Bool.{cases_eq}
use Rattle.std.proofs.lemmas.List.FromFn.{get_or-map-range_with_len}
use Rattle.std.proofs.lemmas.Option.{same_Some}
use Rattle.tv_kleene.specs.declared.K3.{K3}
use Rattle.tv_kleene.specs.declared.K3.TheVariants.{No}
use Rattle.tv_model.specs.Program.{UpdateForm, update_of}
use Rattle.tv_model.specs.declared.program.Update.{Update}
use Rattle.tv_model.proofs.Lists.{Contains-cases, Contains-here, Contains-none, Contains-there}
use Rattle.tv_structure_form.specs.StructureForm.{StructureForm, IsStructure, arities_of, value_at}
use Rattle.tv_structure_form.specs.StructureForm.{with_value}
use Rattle.tv_struct.specs.StructureRows.{row_at, unary_row, with_row}
use Rattle.tv_structure_form.specs.TableForm.{AreIndividuals, row_of}
use Rattle.tv_structure_form.proofs.Library.{fits_or_No}
use Rattle.tv_structure_form.proofs.StructureLaws.{writes_one_entry}
use Rattle.tv_replay_step.specs.Free.{CanCopy, HasCopied, HasFree, IsShaped, IsntFree}
use Rattle.tv_replay_step.specs.Free as free

-- ---- shapes

pub shaped-same : (s : StructureForm) → IsShaped s s
shaped-same s = record { size = refl; summaries = refl; over = refl; fresh = refl }

pub shaped-on : (s t u : StructureForm) → IsShaped s t → IsShaped t u → IsShaped s u
shaped-on s t u one two = record {
  size = two.size ∙ one.size;
  summaries = two.summaries ∙ one.summaries;
  over = two.over ∙ one.over;
  fresh = two.fresh ∙ one.fresh;
}

pub shaped-row : (s t : StructureForm) (q row : ℕ) (values : List K3) → t ≡ with_row s q row values → arities_of t ≡ arities_of s → IsShaped s t
shaped-row s t q row values is over = record {
  size = ap (λ (x : StructureForm). x.size) is;
  summaries = ap (λ (x : StructureForm). x.summaries) is;
  over = over;
  fresh = ap (λ (x : StructureForm). x.fresh) is;
}

pub shaped-value : (s t : StructureForm) (q : ℕ) (tuple : List ℕ) (k : K3) → t ≡ with_value s q tuple k → arities_of t ≡ arities_of s → IsShaped s t
shaped-value s t q tuple k is over = record {
  size = ap (λ (x : StructureForm). x.size) is;
  summaries = ap (λ (x : StructureForm). x.summaries) is;
  over = over;
  fresh = ap (λ (x : StructureForm). x.fresh) is;
}

pub can-on : (values s t : StructureForm) (q : ℕ) → CanCopy values s q → IsShaped s t → CanCopy values t q
can-on values s t q can shaped = record {
  over = can.over ∙ sym shaped.over;
  size = can.size ∙ sym shaped.size;
  pred = subst (λ n. q < n) (ap length (sym shaped.over)) can.pred;
}

-- ---- one predicate

-- tuples of the predicate's arity suffice
pub copied-where : (values s t : StructureForm) (q n : ℕ) → CanCopy values s q → IsShaped s t → slice_get (arities_of s) q ≡ Some n
    → ((tuple : List ℕ) → length tuple ≡ n → AreIndividuals s.size tuple → value_at t q tuple ≡ value_at values q tuple)
    → ((r : ℕ) (tuple : List ℕ) → r ≢ q → value_at t r tuple ≡ value_at s r tuple) → HasCopied values s t q
copied-where values s t q n can shaped arity same others = record {
  shaped = shaped;
  copied = λ tuple within. at tuple within (fits_or_No t q tuple) (fits_or_No values q tuple);
  others = others;
}
  where
    long : (tuple : List ℕ) (x : StructureForm) → arities_of x ≡ arities_of s → slice_get (arities_of x) q ≡ Some (length tuple) → length tuple ≡ n
    long tuple x over fits = same_Some (length tuple) n (sym fits ∙ ap (λ ns. slice_get ns q) over ∙ arity)

    at : (tuple : List ℕ) → AreIndividuals s.size tuple → (slice_get (arities_of t) q ≡ Some (length tuple)) ⊎ (value_at t q tuple ≡ No)
        → (slice_get (arities_of values) q ≡ Some (length tuple)) ⊎ (value_at values q tuple ≡ No) → value_at t q tuple ≡ value_at values q tuple
    at tuple within (inl fits) other = same tuple (long tuple t shaped.over fits) within
    at tuple within (inr none) (inl fits) = same tuple (long tuple values can.over fits) within
    at tuple within (inr none) (inr none_too) = none ∙ sym none_too

pub copied-nullary : (values s t : StructureForm) (q : ℕ) → CanCopy values s q → IsShaped s t → slice_get (arities_of s) q ≡ Some 0
    → value_at t q [] ≡ value_at values q [] → ((r : ℕ) (tuple : List ℕ) → r ≢ q → value_at t r tuple ≡ value_at s r tuple)
    → HasCopied values s t q
copied-nullary values s t q can shaped arity same others = copied-where values s t q 0 can shaped arity at others
  where
    at : (tuple : List ℕ) → length tuple ≡ 0 → AreIndividuals s.size tuple → value_at t q tuple ≡ value_at values q tuple
    at [] long within = same
    at (u ∷ tuple) long within = absurd (omega (arith, long))

pub copied-set : (values s t : StructureForm) (q : ℕ) (k : K3) → IsStructure s → CanCopy values s q → slice_get (arities_of s) q ≡ Some 0
    → t ≡ with_value s q [] k → arities_of t ≡ arities_of s → k ≡ value_at values q [] → HasCopied values s t q
copied-set values s t q k is can arity same over from =
    let writes = writes_one_entry s q [] k is (record { arity = arity; individuals = tt })
    in copied-nullary values s t q can (shaped-value s t q [] k same over) arity
    (ap (λ x. value_at x q []) same ∙ writes.written ∙ from)
    (λ r tuple ne. ap (λ x. value_at x r tuple) same ∙ writes.others r tuple (λ both. ne both.0))

row-entry : (f g : ℕ → K3) (m n u : ℕ) → map f (range_with_len 0 m) ≡ map g (range_with_len 0 n) → m ≡ n → u < m → f u ≡ g u
row-entry f g m n u same sizes lt =
    sym (get_or-map-range_with_len f 0 m u u No lt (omega arith)) ∙ ap (λ ks. get_or ks u No) same
    ∙ get_or-map-range_with_len g 0 n u u No (omega (arith, lt, sizes)) (omega arith)

pub copied-unary : (values s t : StructureForm) (q : ℕ) → CanCopy values s q → IsShaped s t → slice_get (arities_of s) q ≡ Some 1
    → unary_row t q ≡ unary_row values q → ((r : ℕ) (tuple : List ℕ) → r ≢ q → value_at t r tuple ≡ value_at s r tuple)
    → HasCopied values s t q
copied-unary values s t q can shaped arity same others = copied-where values s t q 1 can shaped arity at others
  where
    at : (tuple : List ℕ) → length tuple ≡ 1 → AreIndividuals s.size tuple → value_at t q tuple ≡ value_at values q tuple
    at [] long within = absurd (omega (arith, long))
    at (u ∷ []) long within =
        row-entry (λ w. value_at t q (w ∷ [])) (λ w. value_at values q (w ∷ [])) t.size values.size u same (shaped.size ∙ sym can.size)
        (subst (λ n. u < n) (sym shaped.size) within.0)
    at (u ∷ w ∷ tuple) long within = absurd (omega (arith, long))

-- the rows of a binary predicate, those of the first n individuals
pub record HasRowsOf (values s t : StructureForm) (q n : ℕ) : Type 0 where
  pub shaped : IsShaped s t
  pub rows : (u w : ℕ) → u < n → w < s.size → value_at t q (u ∷ w ∷ []) ≡ value_at values q (u ∷ w ∷ [])
  pub others : (r : ℕ) (tuple : List ℕ) → r ≢ q → value_at t r tuple ≡ value_at s r tuple

pub rows-none : (values s : StructureForm) (q : ℕ) → HasRowsOf values s s q 0
rows-none values s q = record {
  shaped = shaped-same s;
  rows = λ u w lt within. absurd (omega (arith, lt));
  others = λ r tuple ne. refl;
}

pub rows-more : (values s t x : StructureForm) (q n : ℕ) (ks : List K3) → CanCopy values s q → HasRowsOf values s t q n
    → x ≡ with_row t q n ks → arities_of x ≡ arities_of t → row_at x q n ≡ ks → ks ≡ row_at values q n
    → ((r : ℕ) (tuple : List ℕ) → ¬ ((r ≡ q) × (row_of tuple ≡ n)) → value_at x r tuple ≡ value_at t r tuple) → HasRowsOf values s x q (n + 1)
rows-more values s t x q n ks can before is over row from others = record {
  shaped = shaped;
  rows = λ u w lt within. at u w (cases_eq u n) lt within;
  others = λ r tuple ne. others r tuple (λ both. ne both.0) ∙ before.others r tuple ne;
}
  where
    shaped : IsShaped s x
    shaped = shaped-on s t x before.shaped (shaped-row t x q n ks is over)

    at : (u w : ℕ) → (u ≡ n) ⊎ (u ≢ n) → u < n + 1 → w < s.size → value_at x q (u ∷ w ∷ []) ≡ value_at values q (u ∷ w ∷ [])
    at u w (inl e) lt within =
        ap (λ v. value_at x q (v ∷ w ∷ [])) e
        ∙ row-entry (λ v. value_at x q (n ∷ v ∷ [])) (λ v. value_at values q (n ∷ v ∷ [])) x.size values.size w (row ∙ from) (shaped.size ∙ sym can.size)
        (subst (λ m. w < m) (sym shaped.size) within)
        ∙ ap (λ v. value_at values q (v ∷ w ∷ [])) (sym e)
    at u w (inr ne) lt within = others q (u ∷ w ∷ []) (λ both. ne both.1) ∙ before.rows u w (omega (arith, lt, ne)) within

pub rows-all : (values s t : StructureForm) (q n : ℕ) → CanCopy values s q → slice_get (arities_of s) q ≡ Some 2 → HasRowsOf values s t q n → s.size ≤ n
    → HasCopied values s t q
rows-all values s t q n can arity has whole = copied-where values s t q 2 can has.shaped arity at has.others
  where
    at : (tuple : List ℕ) → length tuple ≡ 2 → AreIndividuals s.size tuple → value_at t q tuple ≡ value_at values q tuple
    at [] long within = absurd (omega (arith, long))
    at (u ∷ []) long within = absurd (omega (arith, long))
    at (u ∷ w ∷ []) long within = let lt = within.0 in has.rows u w (omega (arith, lt, whole)) within.1.0
    at (u ∷ w ∷ v ∷ tuple) long within = absurd (omega (arith, long))

-- ---- all that is left free

pub free-none : (values s : StructureForm) → HasFree values [] s s
free-none values s = record {
  shaped = shaped-same s;
  free = λ w at. absurd (Contains-none w at);
  others = λ q tuple isnt. refl;
}

pub free-more : (values s t x : StructureForm) (w : UpdateForm) (rest : List UpdateForm) → free.IsFree w → HasFree values rest s t
    → HasCopied values t x w.pred → HasFree values (w ∷ rest) s x
free-more values s t x w rest is_free has copied = record {
  shaped = shaped-on s t x has.shaped copied.shaped;
  free = λ v at v_free tuple within. at_one v at v_free tuple within (cases_eq v.pred w.pred);
  others = λ q tuple isnt.
      copied.others q tuple (λ e. isnt w (Contains-here w rest) is_free (sym e))
      ∙ has.others q tuple (λ v at v_free. isnt v (Contains-there w v rest at) v_free);
}
  where
    here : (q : ℕ) → q ≡ w.pred → (tuple : List ℕ) → AreIndividuals s.size tuple → value_at x q tuple ≡ value_at values q tuple
    here q e tuple within =
        let Same : ℕ → Type 0 = λ r. value_at x r tuple ≡ value_at values r tuple
        in subst Same (sym e) (copied.copied tuple (subst (λ n. AreIndividuals n tuple) (sym has.shaped.size) within))

    at_one : (v : UpdateForm) → Contains (w ∷ rest) v → free.IsFree v → (tuple : List ℕ) → AreIndividuals s.size tuple
        → (v.pred ≡ w.pred) ⊎ (v.pred ≢ w.pred) → value_at x v.pred tuple ≡ value_at values v.pred tuple
    at_one v at v_free tuple within (inl e) = here v.pred e tuple within
    at_one v at v_free tuple within (inr ne) =
        ⊎_elim (λ e. absurd (ne (ap (λ (y : UpdateForm). y.pred) (sym e))))
        (λ later. copied.others v.pred tuple ne ∙ has.free v later v_free tuple within)
        (Contains-cases w v rest at)

pub free-skip : (values s t : StructureForm) (w : UpdateForm) (rest : List UpdateForm) → ¬ free.IsFree w → HasFree values rest s t
    → HasFree values (w ∷ rest) s t
free-skip values s t w rest isnt_free has = record {
  shaped = has.shaped;
  free = λ v at v_free tuple within.
      ⊎_elim (λ e. absurd (isnt_free (subst free.IsFree (sym e) v_free))) (λ later. has.free v later v_free tuple within)
      (Contains-cases w v rest at);
  others = λ q tuple isnt. has.others q tuple (λ v at v_free. isnt v (Contains-there w v rest at) v_free);
}

-- ---- the first update of a list

pub first-free : (values : StructureForm) (ws : List Update) (w : Update) (s t x : StructureForm) → 1 ≤ length ws → w ≡ get_or ws 0 w
    → free.IsFree (update_of w) → HasFree values (map update_of (take (length ws - 1) (drop 1 ws))) s t → HasCopied values t x w.pred.0
    → HasFree values (map update_of ws) s x
first-free values [] w s t x some first is_free has copied = absurd (omega (arith, some))
first-free values (y ∷ ws) w s t x some first is_free has copied =
    let all : take (length (y ∷ ws) - 1) ws ≡ ws = take_all (length (y ∷ ws) - 1) ws (omega arith)
    in let rest : HasFree values (map update_of ws) s t = subst (λ vs. HasFree values (map update_of vs) s t) all has
    in subst (λ v. HasFree values (update_of v ∷ map update_of ws) s x) first
    (free-more values s t x (update_of w) (map update_of ws) is_free rest copied)

pub first-skipped : (values : StructureForm) (ws : List Update) (w : Update) (s t : StructureForm) → 1 ≤ length ws → w ≡ get_or ws 0 w
    → ¬ free.IsFree (update_of w) → HasFree values (map update_of (take (length ws - 1) (drop 1 ws))) s t → HasFree values (map update_of ws) s t
first-skipped values [] w s t some first isnt has = absurd (omega (arith, some))
first-skipped values (y ∷ ws) w s t some first isnt has =
    let all : take (length (y ∷ ws) - 1) ws ≡ ws = take_all (length (y ∷ ws) - 1) ws (omega arith)
    in let rest : HasFree values (map update_of ws) s t = subst (λ vs. HasFree values (map update_of vs) s t) all has
    in subst (λ v. HasFree values (update_of v ∷ map update_of ws) s t) first
    (free-skip values s t (update_of w) (map update_of ws) isnt rest)

pub first-can : (values : StructureForm) (ws : List Update) (w : Update) (s : StructureForm) → 1 ≤ length ws → w ≡ get_or ws 0 w
    → free.IsFree (update_of w) → AllByRecursion (λ (v : Update). free.IsFree (update_of v) → CanCopy values s v.pred.0) ws → CanCopy values s w.pred.0
first-can values [] w s some first is_free can = absurd (omega (arith, some))
first-can values (y ∷ ws) w s some first is_free can =
    subst (λ (v : Update). free.IsFree (update_of v) → CanCopy values s v.pred.0) (sym first) can.0 is_free
