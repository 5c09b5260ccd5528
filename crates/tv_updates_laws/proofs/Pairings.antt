-- Each action of the program with updates comes from one of the compiled program.
use Rattle.std.proofs.Common.{ℕ, zero, suc, ◌≡◌, ◌≢◌, ◌<◌, ◌+◌, ◌⊎◌, ◌∙◌, List, [], ◌∷◌, ◌++◌, length, map}
use Rattle.std.proofs.Common.{Option, Some, None, slice_get, eqb, cond, inl, inr, ⊎_elim, refl, sym, ap}
use Rattle.std.proofs.Common.{subst, arith}
use Rattle.std.proofs.Common.{Contains, eq-eqb, ne_eqb}
use Rattle.std.proofs.lemmas.Bool.{cases_eq, cond-true, cond-false}
use Rattle.tv_model.specs.Form.{Form, FZero, FIsNew, FAnd, FOr, FExists}
use Rattle.tv_model.specs.Program.{ActionForm, CTo, UpdateForm}
use Rattle.tv_model.specs.Step.{update_for}
use Rattle.tv_model.proofs.Lists.{Contains-cases, Contains-flat_map_back, Contains-here, Contains-none}
use Rattle.tv_model.proofs.Lists.{Contains-there}
use Rattle.tv_source.specs.Forms.{AssignForm, ANull, ANew, ACopy, ALoad, AStore, AClear, SourceForm, Stmt}
use Rattle.tv_source.specs.Forms.{SAssign}
use Rattle.tv_source.specs.Forms.{SIf, SWhile, Stmts, no_stmts, with_stmt}
use Rattle.tv_source.specs.Valid.{AreStmtsOf, IsAssignOf, IsFieldOf, IsStmtOf, IsVariableOf}
use Rattle.tv_plang_laws.specs.Compiled.{Arc, arcs, assign_action, block_arcs, entry, kept_elsewhere, leads}
use Rattle.tv_plang_laws.specs.Compiled.{numbers_below, points}
use Rattle.tv_plang_laws.specs.Positions.{count, count_all}
use Rattle.tv_plang_laws.proofs.Predicates.{range-below}
use Rattle.tv_updates_laws.proofs.Cores.{to_field, to_variable}
use Rattle.tv_updates_laws.specs.Updated.{all_assigned, all_with_reaches, assigned, field_updates}
use Rattle.tv_updates_laws.specs.Updated.{reach_change}
use Rattle.tv_updates_laws.specs.Updated.{reach_number, reach_updates, sets_reach, with_reaches}

-- ---- actions and assignments, side by side

-- the action of an assignment is that which the compiled program has for it
abbrev pub IsPaired : SourceForm → Option AssignForm → ActionForm → Type 0
IsPaired p None action = Unit {0}
IsPaired p (Some a) action = IsAssignOf p a × (action ≡ assign_action p a)

abbrev pub ArePaired : SourceForm → List (Option AssignForm) → List ActionForm → Type 0
ArePaired p [] [] = Unit {0}
ArePaired p (o ∷ more) (action ∷ actions) = IsPaired p o action × ArePaired p more actions
ArePaired p [] (action ∷ actions) = ⊥
ArePaired p (o ∷ more) [] = ⊥

paired-append : (p : SourceForm) (os more : List (Option AssignForm)) (actions further : List ActionForm)
    → ArePaired p os actions
    → ArePaired p more further → ArePaired p (os ++ more) (actions ++ further)
paired-append p [] more [] further first second = second
paired-append p [] more (action ∷ actions) further first second = absurd first
paired-append p (o ∷ os) more [] further first second = absurd first
paired-append p (o ∷ os) more (action ∷ actions) further first second = (
  first.0,
  paired-append p os more
      actions further first.1 second,
)

abbrev actions_of : List Arc → List ActionForm
actions_of all = map (λ (a : Arc). a.action) all

actions-append : (xs ys : List Arc) → actions_of (xs ++ ys) ≡ actions_of xs ++ actions_of ys
actions-append [] ys = refl
actions-append (x ∷ xs) ys = ap (λ rest. x.action ∷ rest) (actions-append xs ys)

paired-arcs : (p : SourceForm) (os more : List (Option AssignForm)) (xs ys : List Arc)
    → ArePaired p os (actions_of xs)
    → ArePaired p more (actions_of ys) → ArePaired p (os ++ more) (actions_of (xs ++ ys))
paired-arcs p os more xs ys first second =
    subst (ArePaired p (os ++ more)) (sym (actions-append xs ys)) (paired-append p os more (actions_of xs)
    (actions_of ys) first second)

mutual
  stmt-paired : (p : SourceForm) (k : ℕ) (s : Stmt) (behind : ℕ) → IsStmtOf p s
      → ArePaired p (assigned s) (actions_of (arcs p k s behind))
  stmt-paired p k (SAssign a) behind declared = ((declared, refl), tt)
  stmt-paired p k (SIf t then_ else_) behind declared = (
    tt,
    (
      tt,
      paired-arcs p (all_assigned then_) (all_assigned else_) (block_arcs p (k + 1) then_ behind)
          (block_arcs p (k + 1 + count_all then_) else_ behind)
          (block-paired p (k + 1) then_ behind declared.1) (block-paired p (k + 1 + count_all then_) else_
          behind declared.2),
    ),
  )
  stmt-paired p k (SWhile t body) behind declared = (tt, (tt, block-paired p (k + 1) body k declared.1))

  pub block-paired : (p : SourceForm) (k : ℕ) (body : Stmts) (behind : ℕ) → AreStmtsOf p body
      → ArePaired p (all_assigned body) (actions_of (block_arcs p k body behind))
  block-paired p k no_stmts behind declared = tt
  block-paired p k (with_stmt s more) behind declared =
      paired-arcs p (assigned s) (all_assigned more) (arcs p k s (entry (k + count s) more behind))
      (block_arcs p (k + count s) more behind)
      (stmt-paired p k s (entry (k + count s) more behind) declared.0) (block-paired p (k + count s) more behind
      declared.1)

-- the action at a place of the one program, and that of the other
pub record HasPair (p : SourceForm) (os : List (Option AssignForm)) (actions : List ActionForm) (i : ℕ) : Type 0 where
  pub assign : Option AssignForm
  pub action : ActionForm
  pub paired : IsPaired p assign action
  pub before : slice_get actions i ≡ Some action
  pub after : slice_get (all_with_reaches p os actions) i ≡ Some (with_reaches p assign action)

pub pair-at : (p : SourceForm) (os : List (Option AssignForm)) (actions : List ActionForm)
    → ArePaired p os actions → (i : ℕ)
    → ((slice_get actions i ≡ None) × (slice_get (all_with_reaches p os actions) i ≡ None)) ⊎ HasPair p os actions i
pair-at p [] [] paired i = inl (refl, refl)
pair-at p [] (action ∷ actions) paired i = absurd paired
pair-at p (o ∷ os) [] paired i = absurd paired
pair-at p (o ∷ os) (action ∷ actions) paired zero =
    inr (record { assign = o; action = action; paired = paired.0; before = refl; after = refl })
pair-at p (o ∷ os) (action ∷ actions) paired (suc i) =
    ⊎_elim
    (λ none. inl none)
    (λ has. inr (record {
      assign = has.assign;
      action = has.action;
      paired = has.paired;
      before = has.before;
      after = has.after;
    }))
    (pair-at p os actions paired.1 i)

-- ---- the further updates

-- an update of the list gives r[f,z] what is said of it
pub record IsOfReach (p : SourceForm) (a : AssignForm) (w : UpdateForm) : Type 0 where
  pub f : ℕ
  pub z : ℕ
  pub change : Form
  pub f_declared : IsFieldOf p f
  pub z_declared : IsVariableOf p z
  pub said : reach_change p a f z ≡ Some change
  pub is : w ≡ record { pred = reach_number p f z; vars = 0 ∷ []; change = CTo change }

pub reach-update : (p : SourceForm) (a : AssignForm) (w : UpdateForm) → Contains (reach_updates p a) w
    → IsOfReach p a w
reach-update p a w at =
    let of_f = Contains-flat_map_back (field_updates p a) (numbers_below (length p.fields)) w at
    in let of_z = Contains-flat_map_back (λ z. sets_reach p of_f.0 z (reach_change p a of_f.0 z))
    (numbers_below (length p.variables)) w of_f.2
    in told of_f.0 of_z.0 (omega (arith, range-below 0 (length p.fields) of_f.0 of_f.1))
    (omega (arith, range-below 0 (length p.variables) of_z.0 of_z.1)) (reach_change p a of_f.0 of_z.0) refl of_z.2
  where
    told : (f z : ℕ) → IsFieldOf p f → IsVariableOf p z → (o : Option Form) → reach_change p a f z ≡ o
        → Contains (sets_reach p f z o) w
        → IsOfReach p a w
    told f z f_declared z_declared None e at = absurd (Contains-none w at)
    told f z f_declared z_declared (Some g) e at = record {
      f = f;
      z = z;
      change = g;
      f_declared = f_declared;
      z_declared = z_declared;
      said = e;
      is = ⊎_elim (λ same. sym same) (λ none. absurd (Contains-none w none))
          (Contains-cases (record { pred = reach_number p f z; vars = 0 ∷ []; change = CTo g }) w [] at);
    }

-- the one update of a list of one
only : (p : SourceForm) (n : ℕ) (u w : UpdateForm) → u.pred ≡ n → n < length p.variables + length p.fields
    → Contains (u ∷ []) w
    → w.pred < length p.variables + length p.fields
only p n u w is below at =
    let Below : UpdateForm → Type 0 = λ (v : UpdateForm). v.pred < length p.variables + length p.fields
    in let u_below : Below u = omega (arith, is, below)
    in ⊎_elim (λ e. subst Below e u_below) (λ none. absurd (Contains-none w none)) (Contains-cases u w [] at)

-- the statement's own update is of a variable or a field
pub own-below : (p : SourceForm) (a : AssignForm) → IsAssignOf p a → (w : UpdateForm)
    → Contains (assign_action p a).updates w
    → w.pred < length p.variables + length p.fields
own-below p (ANull x) declared w at =
    only p x (to_variable x FZero) w refl (omega (arith, declared)) at
own-below p (ANew x) declared w at =
    only p x (to_variable x (FIsNew 0)) w refl (omega (arith, declared)) at
own-below p (ACopy x y) declared w at =
    only p x (to_variable x (points y 0)) w refl (omega (arith, declared.0)) at
own-below p (ALoad x y f) declared w at =
    only p x (to_variable x (FExists 1 (FAnd (points y 1) (leads p f 1 0)))) w refl (omega (arith, declared.0)) at
own-below p (AStore x f y) declared w at =
    only p (length p.variables + f) (to_field p f (FOr (FAnd (points x 0) (points y 1)) (kept_elsewhere p x f)))
    w refl
    (omega (arith, declared.1)) at
own-below p (AClear x f) declared w at =
    only p (length p.variables + f) (to_field p f (kept_elsewhere p x f)) w refl (omega (arith, declared.1)) at

-- ---- the update of a predicate

none-found : (q : ℕ) (us : List UpdateForm) → ((w : UpdateForm) → Contains us w → w.pred ≢ q) → update_for q us ≡ None
none-found q [] never = refl
none-found q (w ∷ us) never =
    cond-false (eqb w.pred q) (Some w) (update_for q us) (ne_eqb w.pred q (never w (Contains-here w us)))
    ∙ none-found q us (λ v at. never v (Contains-there w v us at))

-- further updates of other predicates make no difference
pub found-front : (q : ℕ) (us more : List UpdateForm) → ((w : UpdateForm) → Contains more w → w.pred ≢ q)
    → update_for q (us ++ more) ≡ update_for q us
found-front q [] more never = none-found q more never
found-front q (w ∷ us) more never = ap (λ o. cond (eqb w.pred q) (Some w) o) (found-front q us more never)

-- what is found is of the list, and of the predicate
pub found-among : (q : ℕ) (us : List UpdateForm) (w : UpdateForm) → update_for q us ≡ Some w
    → Contains us w × (w.pred ≡ q)
found-among q [] w e = absurd (cc e)
found-among q (u ∷ us) w e = by (cases_eq u.pred q) (λ behind. found-among q us w behind)
  where
    first : (x y : UpdateForm) → Some x ≡ Some y → x ≡ y
    first x y same = cc same

    by : (u.pred ≡ q) ⊎ (u.pred ≡ q → ⊥) → (update_for q us ≡ Some w → Contains us w × (w.pred ≡ q))
        → Contains (u ∷ us) w × (w.pred ≡ q)
    by (inl same) later =
        let is_u : u ≡ w = first u w
        (sym (cond-true (eqb u.pred q) (Some u) (update_for q us) (eq-eqb u.pred q same)) ∙ e)
        in let In : UpdateForm → Type 0 = λ v. Contains (u ∷ us) v
        in (subst In is_u (Contains-here u us), ap (λ (v : UpdateForm). v.pred) (sym is_u) ∙ same)
    by (inr ne) later =
        let found = later (sym (cond-false (eqb u.pred q) (Some u) (update_for q us) (ne_eqb u.pred q ne)) ∙ e)
        in (Contains-there u w us found.0, found.1)
