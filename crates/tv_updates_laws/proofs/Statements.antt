-- The updates of what is reached are exact, statement by statement.
use Rattle.std.proofs.Common.{ℕ, ◌≡◌, ◌≢◌, ◌⊎◌, ◌↔◌, ◌∙◌, [], ◌∷◌, Bool, true, false}
use Rattle.std.proofs.Common.{◌&&◌, cond, eqb, Option, Some, None, inl, inr, ⊎_elim, refl, sym, ap, subst}
use Rattle.std.proofs.Common.{arith}
use Rattle.std.proofs.Common.{Contains, eq-eqb, ne_eqb}
use Rattle.std.proofs.lemmas.Bool.{cases_eq, cond-true, cond-false}
use Rattle.tv_model.specs.Form.{Form, FZero, FIsNew, FNot, FAnd, FOr, FExists}
use Rattle.tv_model.specs.Heap.{Heap, extent}
use Rattle.tv_model.specs.Program.{ActionForm, RetainForm, UpdateForm}
use Rattle.tv_model.specs.Step.{Keeps, StepsThrough, update_for, with_new}
use Rattle.tv_model.specs.Truth.{Assignment, Truth, put}
use Rattle.tv_model.proofs.Lists.{pushed-last}
use Rattle.tv_model.proofs.Decided.{IsDecided, tuple-decided}
use Rattle.tv_source.specs.Forms.{SourceForm, AssignForm, ANull, ANew, ACopy, ALoad, AStore, AClear}
use Rattle.tv_source.specs.Valid.{IsVariableOf, IsFieldOf, IsAssignOf}
use Rattle.tv_plang_laws.specs.Compiled.{assign_action, compiled, field_number, kept_elsewhere, leads, points}
use Rattle.tv_updates_laws.specs.Updated.{reach_change, reached_around, reached_behind, reaches, reaches_cell}
use Rattle.tv_updates_laws.specs.Updated.{still_reached}
use Rattle.tv_updates_laws.proofs.Cores.{field-becomes, field-stays, to_field, to_variable, variable-becomes}
use Rattle.tv_updates_laws.proofs.Cores.{variable-stays}
use Rattle.tv_updates_laws.proofs.Faithful.{Has, IsFaithful, Leads, Reached, middle-faithful}
use Rattle.tv_updates_laws.proofs.Paths.{Around, Behind, Linked, Reach, along, from-star, reach-around}
use Rattle.tv_updates_laws.proofs.Paths.{reach-around_self, reach-behind, reach-linked, reach-same}
use Rattle.tv_updates_laws.proofs.Paths.{reach-stays, to-star}

-- ---- equivalences

through : (A B C : Type 0) → A ↔ B → B ↔ C → A ↔ C
through A B C first second = (λ a. second.0 (first.0 a), λ c. first.1 (second.1 c))

itself : (A : Type 0) → A ↔ A
itself A = (λ a. a, λ a. a)

-- ---- one update among the statement's own

own : (w : UpdateForm) (q : ℕ) → w.pred ≡ q → update_for q (w ∷ []) ≡ Some w
own w q e = cond-true (eqb w.pred q) (Some w) None (eq-eqb w.pred q e)

not-own : (w : UpdateForm) (q : ℕ) → ¬ (w.pred ≡ q) → update_for q (w ∷ []) ≡ None
not-own w q ne = cond-false (eqb w.pred q) (Some w) None (ne_eqb w.pred q ne)

-- ---- formulas

has-decided : (h : Heap) (x u : ℕ) → IsDecided (Has h x u)
has-decided h x u = tuple-decided (extent h x) (u ∷ [])

-- an edge of the closure in `reached_around`
abbrev AroundEdge : SourceForm → Heap → (x f u w : ℕ) → Type 0
AroundEdge p m x f u w = Contains m.individuals u × Contains m.individuals w × Around (Has m x) (Leads p m f) u w

-- what z reaches without leaving the cell of x
abbrev pub Still : SourceForm → Heap → (x f z v : ℕ) → Type 0
Still p m x f z v = Reach (Has m z) (Around (Has m x) (Leads p m f)) v

-- the formula for another variable than x
abbrev still_other : SourceForm → (x f z : ℕ) → Form
still_other p x f z = FAnd (reaches p f z 0) (FOr (FNot (reaches_cell p f z x))
    (FOr (FNot (reaches p f x 0)) (FOr (points x 0) (reached_around p x f z))))

-- z reaches the cell of x
abbrev pub Comes : SourceForm → Heap → (x f z : ℕ) → Type 0
Comes p m x f z = (c : ℕ) × Has m x c × Reach (Has m z) (Leads p m f) c

-- what it says
abbrev Remains : SourceForm → Heap → (x f z v : ℕ) → Type 0
Remains p m x f z v = Reach (Has m z) (Leads p m f) v
    × ((¬ Comes p m x f z) ⊎ (¬ Reach (Has m x) (Leads p m f) v) ⊎ Has m x v ⊎ Still p m x f z v)

either-way : {C D A B X R S : Type 0} → (D → C) → (B → A) → (R → S) → (¬ C) ⊎ (¬ A) ⊎ X ⊎ R → (¬ D) ⊎ (¬ B) ⊎ X ⊎ S
either-way comes back on (inl n) = inl (λ d. n (comes d))
either-way comes back on (inr (inl n)) = inr (inl (λ b. n (back b)))
either-way comes back on (inr (inr (inl x))) = inr (inr (inl x))
either-way comes back on (inr (inr (inr r))) = inr (inr (inr (on r)))

module _ (p : SourceForm) (m : Heap) (is : IsFaithful p m) (picked : Assignment) where
  around-truly : (x f z v : ℕ) → Truth m (put picked 0 v) (reached_around p x f z) ↔ Still p m x f z v
  around-truly x f z v = (
    λ t. (
      t.0,
      t.2.0,
      along (AroundEdge p m x f) (Around (Has m x) (Leads p m f)) (λ u w e. e.2) t.0 v
          (from-star (AroundEdge p m x f) t.0 v t.2.1),
    ),
    λ t. (
      t.0,
      is.has_individual z t.0 t.1,
      (
        t.1,
        to-star (AroundEdge p m x f) t.0 v
            (along (Around (Has m x) (Leads p m f)) (AroundEdge p m x f)
            (λ u w e. ((is.leads_between f u w e.1).0, (is.leads_between f u w e.1).1, e)) t.0 v t.2),
      ),
    ),
  )

  -- what `reaches_cell` says
  pub cell-truly : (f z x : ℕ) → IsVariableOf p z → IsFieldOf p f → (a : Assignment)
      → Truth m a (reaches_cell p f z x) ↔ Comes p m x f z
  cell-truly f z x z_declared declared a =
      let from_z = λ (w : ℕ). is.reached f z w declared z_declared
      in (
        λ t. (t.0, t.2.0, (from_z t.0).0 t.2.1),
        λ t. (t.0, is.has_individual x t.0 t.1, (t.1, (from_z t.0).1 t.2)),
      )

  other-truly : (x f z v : ℕ) → IsVariableOf p x → IsVariableOf p z → IsFieldOf p f
      → Truth m (put picked 0 v) (still_other p x f z) ↔ Remains p m x f z v
  other-truly x f z v x_declared z_declared declared =
      let from_z = is.reached f z v declared z_declared
      in let from_x = is.reached f x v declared x_declared
      in let around = around-truly x f z v
      in let cell = cell-truly f z x z_declared declared (put picked 0 v)
      in (
        λ t. (from_z.0 t.0, either-way cell.1 from_x.1 around.0 t.1),
        λ t. (from_z.1 t.0, either-way cell.0 from_x.0 around.1 t.1),
      )

  -- what `still_reached` says
  pub still-truly : (x f z v : ℕ) → IsVariableOf p x → IsVariableOf p z → IsFieldOf p f
      → Truth m (put picked 0 v) (still_reached p x f z) ↔ Still p m x f z v
  still-truly x f z v x_declared z_declared declared = by (cases_eq z x)
    where
      by : (z ≡ x) ⊎ (z ≡ x → ⊥) → Truth m (put picked 0 v) (still_reached p x f z) ↔ Still p m x f z v
      by (inl e) =
          let Says : Form → Type 0 = λ g. Truth m (put picked 0 v) g ↔ Still p m x f z v
          in let At : ℕ → Type 0 = λ y. Has m x v ↔ Still p m x f y v
          in let alone = reach-around_self (Has m x) (Leads p m f) v
          in subst Says (sym (cond-true (eqb z x) (points x 0) (still_other p x f z) (eq-eqb z x e)))
          (subst At (sym e) (alone.1, alone.0))
      by (inr ne) =
          let Says : Form → Type 0 = λ g. Truth m (put picked 0 v) g ↔ Still p m x f z v
          in let both = reach-around (Has m z) (Has m x) (Leads p m f) (has-decided m x)
          (λ u w. is.one x u w x_declared) v
          in subst Says (sym (cond-false (eqb z x) (points x 0) (still_other p x f z) (ne_eqb z x ne)))
          (through (Truth m (put picked 0 v) (still_other p x f z)) (Remains p m x f z v) (Still p m x f z v)
          (other-truly x f z v x_declared z_declared declared) (both.1, both.0))

  -- what `reached_behind` says
  pub behind-truly : (f y v : ℕ) → IsVariableOf p y → IsFieldOf p f
      → Truth m (put picked 0 v) (reached_behind p f y) ↔ Reach (Behind (Has m y) (Leads p m f)) (Leads p m f) v
  behind-truly f y v y_declared declared =
      let both = reach-behind (Has m y) (Leads p m f) (has-decided m y) v
      in let from_y = λ (w : ℕ). is.reached f y w declared y_declared
      in (
        λ t. both.1 ((from_y v).0 t.0, ⊎_elim (λ n. inl n) (λ s. inr (s.0, (from_y s.0).0 s.2.0, s.2.1)) t.1),
        λ r. let t = both.0 r
            in (
              (from_y v).1 t.0,
              ⊎_elim (λ n. inl n)
                  (λ s. inr (s.0, (is.leads_between f s.0 v s.2).0, ((from_y s.0).1 s.1, s.2))) t.1,
            ),
      )

-- ---- what is said

-- a formula that is said under a condition
said-when : (b : Bool) (f g : Form) → cond b (Some f) None ≡ Some g → (b ≡ true) × (f ≡ g)
said-when true f g e = (refl, cc e)
said-when false f g e = absurd (cc e)

same-number : (m n : ℕ) → eqb m n ≡ true → m ≡ n
same-number m n e = ⊎_elim (λ same. same) (λ ne. absurd (cc (sym (ne_eqb m n ne) ∙ e))) (cases_eq m n)

both-true : (a b : Bool) → (a && b) ≡ true → (a ≡ true) × (b ≡ true)
both-true true true e = (refl, refl)
both-true true false e = absurd (cc e)
both-true false b e = absurd (cc e)

-- ---- statements

-- the predicate of what z reaches along f holds of v where the formula is true
abbrev pub Agrees : SourceForm → (picked : Assignment) → (middle new : Heap) → (f z v : ℕ) → Form → Type 0
Agrees p picked middle new f z v g = Reached p new f z v ↔ Truth middle (put picked 0 v) g

module _ (p : SourceForm) (picked : Assignment) (old middle new : Heap) (was : IsFaithful p old)
    (becomes : IsFaithful p new)
    (action : ActionForm) (step : StepsThrough (compiled p) action picked old middle new)
    (retains : (u : ℕ) → Contains new.individuals u ↔ Contains middle.individuals u)
  where
    is : IsFaithful p middle
    is = middle-faithful p action.fresh old middle step.is_middle was

    -- what is reached after the step, by variables and fields before
    reached-so : (f z v : ℕ) → IsFieldOf p f → IsVariableOf p z → (P : ℕ → Type 0) (E : ℕ → ℕ → Type 0)
        → ((u : ℕ) → Has new z u ↔ P u) → ((u w : ℕ) → Leads p new f u w ↔ E u w) → Reached p new f z v ↔ Reach P E v
    reached-so f z v f_declared z_declared P E has leads_so =
        through (Reached p new f z v) (Reach (Has new z) (Leads p new f) v) (Reach P E v)
        (becomes.reached f z v f_declared z_declared) (reach-same (Has new z) P (Leads p new f) E has leads_so v)

    has-stays : (z : ℕ) → IsVariableOf p z → update_for z action.updates ≡ None → (u : ℕ)
        → Has new z u ↔ Has middle z u
    has-stays z declared no_update = variable-stays p action picked old middle new step retains is becomes z
        declared no_update

    leads-stay : (f : ℕ) → IsFieldOf p f → update_for (field_number p f) action.updates ≡ None
        → (u w : ℕ) → Leads p new f u w ↔ Leads p middle f u w
    leads-stay f declared no_update = field-stays p action picked old middle new step retains is becomes f
        declared no_update

    has-becomes : (x : ℕ) → IsVariableOf p x → (g : Form) → action.updates ≡ to_variable x g ∷ []
        → ((c : ℕ) → Truth middle (put picked 0 c) g → Contains middle.individuals c)
        → (c : ℕ) → Has new x c ↔ Truth middle (put picked 0 c) g
    has-becomes x declared g e inside =
        variable-becomes p action picked old middle new step retains is becomes x declared g
        (ap (update_for x) e ∙ own (to_variable x g) x refl) inside

    leads-become : (f : ℕ) → IsFieldOf p f → (g : Form) → action.updates ≡ to_field p f g ∷ []
        → ((c d : ℕ) → Truth middle (put (put picked 0 c) 1 d) g → Contains middle.individuals c × Contains
        middle.individuals d)
        → (c d : ℕ) → Leads p new f c d ↔ Truth middle (put (put picked 0 c) 1 d) g
    leads-become f declared g e inside =
        field-becomes p action picked old middle new step retains is becomes f declared g
        (ap (update_for (field_number p f)) e ∙ own (to_field p f g) (field_number p f) refl) inside

    -- where a variable is set, fields stay, and other variables
    fields-kept : (x : ℕ) → IsVariableOf p x → (g : Form) → action.updates ≡ to_variable x g ∷ []
        → (f : ℕ) → IsFieldOf p f → (u w : ℕ) → Leads p new f u w ↔ Leads p middle f u w
    fields-kept x declared g e f f_declared =
        leads-stay f f_declared
        (ap (update_for (field_number p f)) e ∙ not-own (to_variable x g) (field_number p f)
        (λ same. omega (arith, same, declared)))

    -- where a field is set, variables stay
    variables-kept : (f : ℕ) → IsFieldOf p f → (g : Form) → action.updates ≡ to_field p f g ∷ []
        → (z : ℕ) → IsVariableOf p z → (u : ℕ) → Has new z u ↔ Has middle z u
    variables-kept f declared g e z z_declared =
        has-stays z z_declared (ap (update_for z) e
        ∙ not-own (to_field p f g) z (λ same. omega (arith, same, z_declared)))

    -- ---- x = null

    null-exact : (x f v : ℕ) → IsVariableOf p x → IsFieldOf p f → action.updates ≡ to_variable x FZero ∷ []
        → Agrees p picked middle new f x v FZero
    null-exact x f v declared f_declared e =
        let gone : (u : ℕ) → Has new x u ↔ ⊥ = has-becomes x declared FZero e (λ c t. absurd t)
        in (
          λ holds. (gone ((becomes.reached f x v f_declared declared).0 holds).0).0
              ((becomes.reached f x v f_declared declared).0 holds).1,
          λ t. absurd t,
        )

    -- ---- x = y

    copy-exact : (x y f v : ℕ) → IsVariableOf p x → IsVariableOf p y → IsFieldOf p f
        → action.updates ≡ to_variable x (points y 0) ∷ []
        → Agrees p picked middle new f x v (reaches p f y 0)
    copy-exact x y f v declared y_declared f_declared e =
        let before = is.reached f y v f_declared y_declared
        in through (Reached p new f x v) (Reach (Has middle y) (Leads p middle f) v) (Reached p middle f y v)
        (reached-so f x v f_declared declared (Has middle y) (Leads p middle f)
        (has-becomes x declared (points y 0) e (λ c t. is.has_individual y c t))
        (fields-kept x declared (points y 0) e f f_declared))
        (before.1, before.0)

    -- ---- x = new

    new-exact : (x f v : ℕ) → IsVariableOf p x → IsFieldOf p f → action.updates ≡ to_variable x (FIsNew 0) ∷ []
        → (c : ℕ) → ¬ Contains old.individuals c → middle ≡ with_new old c → Agrees p picked middle new f x v
        (FIsNew 0)
    new-exact x f v declared f_declared e c wasnt e_middle =
        let Fresh : ℕ → Type 0 = λ u. middle.fresh ≡ Some u
        in let marked : middle.fresh ≡ Some c = ap (λ (h : Heap). h.fresh) e_middle
        in let In : Heap → Type 0 = λ h. Contains h.individuals c
        in let there : Contains middle.individuals c = subst In (sym e_middle) (pushed-last old.individuals c c refl)
        in let same : (u : ℕ) → Fresh u → c ≡ u = λ u is_fresh. cc (sym marked ∙ is_fresh)
        in let In_middle : ℕ → Type 0 = λ u. Contains middle.individuals u
        in let Lead : (u w : ℕ) → Heap → Type 0 = λ u w h. Leads p h f u w
        in let none : (u w : ℕ) → Fresh u → Leads p middle f u w → ⊥
        = λ u w is_fresh leads.
        let leads_old : Leads p old f u w = subst (Lead u w) e_middle leads
        in let Out : ℕ → Type 0 = λ z. ¬ Contains old.individuals z
        in subst Out (same u is_fresh) wasnt (was.leads_between f u w leads_old).0
        in through (Reached p new f x v) (Reach Fresh (Leads p middle f) v) (Fresh v)
        (reached-so f x v f_declared declared Fresh (Leads p middle f)
        (has-becomes x declared (FIsNew 0) e (λ u is_fresh. subst In_middle (same u is_fresh) there))
        (fields-kept x declared (FIsNew 0) e f f_declared))
        (reach-stays Fresh (Leads p middle f) none v)

    -- what another variable reaches stays
    other-exact : (x z f v : ℕ) (g : Form) → IsVariableOf p x → IsVariableOf p z → IsFieldOf p f
        → action.updates ≡ to_variable x g ∷ []
        → z ≢ x → Agrees p picked middle new f z v (reaches p f z 0)
    other-exact x z f v g declared z_declared f_declared e ne =
        let before = is.reached f z v f_declared z_declared
        in through (Reached p new f z v) (Reach (Has middle z) (Leads p middle f) v) (Reached p middle f z v)
        (reached-so f z v f_declared z_declared (Has middle z) (Leads p middle f)
        (has-stays z z_declared (ap (update_for z) e ∙ not-own (to_variable x g) z (λ same. ne (sym same))))
        (fields-kept x declared g e f f_declared))
        (before.1, before.0)

    -- ---- x = y->f

    load-exact : (x y f v : ℕ) → IsVariableOf p x → IsVariableOf p y → IsFieldOf p f
        → action.updates ≡ to_variable x (FExists 1 (FAnd (points y 1) (leads p f 1 0))) ∷ []
        → Agrees p picked middle new f x v (reached_behind p f y)
    load-exact x y f v declared y_declared f_declared e =
        let g : Form = FExists 1 (FAnd (points y 1) (leads p f 1 0))
        in let becomes_so = has-becomes x declared g e (λ c t. (is.leads_between f t.0 c t.2.1).1)
        in let says = behind-truly p middle is picked f y v y_declared f_declared
        in through (Reached p new f x v) (Reach (Behind (Has middle y) (Leads p middle f)) (Leads p middle f) v)
        (Truth middle (put picked 0 v) (reached_behind p f y))
        (reached-so f x v f_declared declared (Behind (Has middle y) (Leads p middle f)) (Leads p middle f)
        (λ c. (
          λ has. let t = (becomes_so c).0 has in (t.0, t.2.0, t.2.1),
          λ t. (becomes_so c).1 (t.0, is.has_individual y t.0 t.1, (t.1, t.2)),
        ))
        (fields-kept x declared g e f f_declared))
        (says.1, says.0)

    -- ---- x->f = null

    clear-exact : (x f z v : ℕ) → IsVariableOf p x → IsFieldOf p f → IsVariableOf p z
        → action.updates ≡ to_field p f (kept_elsewhere p x f) ∷ []
        → Agrees p picked middle new f z v (still_reached p x f z)
    clear-exact x f z v declared f_declared z_declared e =
        let says = still-truly p middle is picked x f z v declared z_declared f_declared
        in through (Reached p new f z v) (Still p middle x f z v)
        (Truth middle (put picked 0 v) (still_reached p x f z))
        (reached-so f z v f_declared z_declared (Has middle z) (Around (Has middle x) (Leads p middle f))
        (variables-kept f f_declared (kept_elsewhere p x f) e z z_declared)
        (leads-become f f_declared (kept_elsewhere p x f) e (λ c d t. is.leads_between f c d t.1)))
        (says.1, says.0)

    -- ---- x->f = y

    store-exact : (x f y z v : ℕ) → IsVariableOf p x → IsFieldOf p f → IsVariableOf p y → IsVariableOf p z
        → action.updates ≡ to_field p f (FOr (FAnd (points x 0) (points y 1)) (kept_elsewhere p x f)) ∷ []
        → Agrees p picked middle new f z v
        (FOr (still_reached p x f z) (FAnd (reaches_cell p f z x) (still_reached p x f y)))
    store-exact x f y z v declared f_declared y_declared z_declared e =
        let g : Form = FOr (FAnd (points x 0) (points y 1)) (kept_elsewhere p x f)
        in let said : Form = FOr (still_reached p x f z) (FAnd (reaches_cell p f z x) (still_reached p x f y))
        in let of_z = still-truly p middle is picked x f z v declared z_declared f_declared
        in let of_y = still-truly p middle is picked x f y v declared y_declared f_declared
        in let cell = cell-truly p middle is picked f z x z_declared f_declared (put picked 0 v)
        in let both = reach-linked (Has middle z) (Has middle x) (Leads p middle f) (has-decided middle x)
        (λ u w. is.one x u w declared) (Has middle y) v
        in through (Reached p new f z v)
        (Reach (Has middle z) (Linked (Has middle x) (Leads p middle f) (Has middle y)) v)
        (Truth middle (put picked 0 v) said)
        (reached-so f z v f_declared z_declared (Has middle z) (Linked (Has middle x) (Leads p middle f)
        (Has middle y))
        (variables-kept f f_declared g e z z_declared)
        (leads-become f f_declared g e
        (λ c d t. ⊎_elim (λ s. (is.has_individual x c s.0, is.has_individual y d s.1))
        (λ s. is.leads_between f c d s.1) t))) (
          λ r. ⊎_elim (λ s. inl (of_z.1 s)) (λ s. inr (cell.1 s.0, of_y.1 s.1)) (both.0 r),
          λ t. both.1 (⊎_elim (λ s. inl (of_z.0 s)) (λ s. inr (cell.0 s.0, of_y.0 s.1)) t),
        )

-- ---- all of them

retains-all : (p : SourceForm) (a : AssignForm) → (assign_action p a).retain ≡ None
retains-all p (ANull x) = refl
retains-all p (ANew x) = refl
retains-all p (ACopy x y) = refl
retains-all p (ALoad x y f) = refl
retains-all p (AStore x f y) = refl
retains-all p (AClear x f) = refl

all-kept : (p : SourceForm) (a : AssignForm) (picked : Assignment) (old middle new : Heap)
    → StepsThrough (compiled p) (assign_action p a) picked old middle new
    → (u : ℕ) → Contains new.individuals u ↔ Contains middle.individuals u
all-kept p a picked old middle new step u =
    let Kept : Option RetainForm → Type 0 = λ o. Keeps middle picked o u
    in (λ at. ((step.keeps u).0 at).0, λ at. (step.keeps u).1 (at, subst Kept (sym (retains-all p a)) tt))

module _ (p : SourceForm) (picked : Assignment) (old middle new : Heap) (was : IsFaithful p old)
    (becomes : IsFaithful p new) where
  -- the formula of r[f,z] at the statement is true where z reaches along f behind it
  pub exact : (a : AssignForm) → IsAssignOf p a → StepsThrough (compiled p) (assign_action p a) picked old middle new
      → (f z : ℕ) → IsFieldOf p f → IsVariableOf p z → (g : Form) → reach_change p a f z ≡ Some g → (v : ℕ)
      → Agrees p picked middle new f z v g
  exact (ANull x) declared step f z f_declared z_declared g said v =
      let when = said-when (eqb z x) FZero g said
      in let At : ℕ → Type 0 = λ y. Agrees p picked middle new f y v FZero
      in subst (Agrees p picked middle new f z v) when.1
      (subst At (sym (same-number z x when.0))
      (null-exact p picked old middle new was becomes (assign_action p (ANull x)) step
      (all-kept p (ANull x) picked old middle new step) x f v declared f_declared refl))
  exact (ANew x) declared step f z f_declared z_declared g said v = by (cases_eq z x)
    where
      chosen : (b : Bool) (l r : Form) → Some (cond b l r) ≡ Some g → cond b l r ≡ g
      chosen b l r e = cc e

      by : (z ≡ x) ⊎ (z ≡ x → ⊥) → Agrees p picked middle new f z v g
      by (inl e) =
          let At : ℕ → Type 0 = λ y. Agrees p picked middle new f y v (FIsNew 0)
          in let is_new : FIsNew 0 ≡ g
          = sym (cond-true (eqb z x) (FIsNew 0) (reaches p f z 0) (eq-eqb z x e))
          ∙ chosen (eqb z x) (FIsNew 0) (reaches p f z 0) said
          in subst (Agrees p picked middle new f z v) is_new
          (subst At (sym e)
          (new-exact p picked old middle new was becomes (assign_action p (ANew x)) step
          (all-kept p (ANew x) picked old middle new step) x f v declared f_declared refl
          step.is_middle.0 step.is_middle.1 step.is_middle.2))
      by (inr ne) =
          let is_kept : reaches p f z 0 ≡ g
          = sym (cond-false (eqb z x) (FIsNew 0) (reaches p f z 0) (ne_eqb z x ne))
          ∙ chosen (eqb z x) (FIsNew 0) (reaches p f z 0) said
          in subst (Agrees p picked middle new f z v) is_kept
          (other-exact p picked old middle new was becomes (assign_action p (ANew x)) step
          (all-kept p (ANew x) picked old middle new step) x z f v (FIsNew 0)
          declared z_declared f_declared refl ne)
  exact (ACopy x y) declared step f z f_declared z_declared g said v =
      let when = said-when (eqb z x) (reaches p f y 0) g said
      in let At : ℕ → Type 0 = λ w. Agrees p picked middle new f w v (reaches p f y 0)
      in subst (Agrees p picked middle new f z v) when.1
      (subst At (sym (same-number z x when.0))
      (copy-exact p picked old middle new was becomes (assign_action p (ACopy x y)) step
      (all-kept p (ACopy x y) picked old middle new step) x y f v
      declared.0 declared.1 f_declared refl))
  exact (ALoad x y k) declared step f z f_declared z_declared g said v =
      let when = said-when ((eqb z x) && (eqb f k)) (reached_behind p k y) g said
      in let flags = both-true (eqb z x) (eqb f k) when.0
      in let At : ℕ → Type 0 = λ w. Agrees p picked middle new f w v (reached_behind p k y)
      in let On : ℕ → Type 0 = λ l. Agrees p picked middle new l x v (reached_behind p k y)
      in subst (Agrees p picked middle new f z v) when.1
      (subst At (sym (same-number z x flags.0)) (subst On (sym (same-number f k flags.1))
      (load-exact p picked old middle new was becomes (assign_action p (ALoad x y k)) step
      (all-kept p (ALoad x y k) picked old middle new step) x y k v
      declared.0 declared.1 declared.2 refl)))
  exact (AStore x k y) declared step f z f_declared z_declared g said v =
      let formula : Form = FOr (still_reached p x k z) (FAnd (reaches_cell p k z x) (still_reached p x k y))
      in let when = said-when (eqb f k) formula g said
      in let On : ℕ → Type 0 = λ l. Agrees p picked middle new l z v formula
      in subst (Agrees p picked middle new f z v) when.1
      (subst On (sym (same-number f k when.0))
      (store-exact p picked old middle new was becomes (assign_action p (AStore x k y)) step
      (all-kept p (AStore x k y) picked old middle new step) x k y z v
      declared.0 declared.1 declared.2 z_declared refl))
  exact (AClear x k) declared step f z f_declared z_declared g said v =
      let when = said-when (eqb f k) (still_reached p x k z) g said
      in let On : ℕ → Type 0 = λ l. Agrees p picked middle new l z v (still_reached p x k z)
      in subst (Agrees p picked middle new f z v) when.1
      (subst On (sym (same-number f k when.0))
      (clear-exact p picked old middle new was becomes (assign_action p (AClear x k)) step
      (all-kept p (AClear x k) picked old middle new step) x k z v
      declared.0 declared.1 z_declared refl))
