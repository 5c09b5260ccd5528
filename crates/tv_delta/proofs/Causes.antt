-- A cause that is read off the program leaves no update.
use Rattle.std.proofs.Common.{ℕ, ◌≡◌, ◌≢◌, ◌∙◌, ◌⊎◌, ◌++◌, Bool, true, false, List, [], ◌∷◌, length, Option}
use Rattle.std.proofs.Common.{Some}
use Rattle.std.proofs.Common.{None, zero, suc, inl, inr, ⊎_elim, refl, sym, ap, subst, cond}
use Rattle.std.specs.Prelude.{◌||◌, IfSome, slice_get, is_some, option_map, option_and_then}
use Rattle.std.specs.List.{zip}
use Rattle.std.proofs.lemmas.Bool.{false≢true}
use Rattle.tv_model.specs.Form.{Form, FZero, FOne, FAtom, FIsNew, FSame, FNot, FAnd, FOr, FIff, FCond}
use Rattle.tv_model.specs.Form.{FExists, FForall, FClosure, Mentions}
use Rattle.tv_model.specs.Program.{ProgramForm, PredForm, KCore, KDefined, ActionForm, RetainForm}
use Rattle.tv_model.specs.Truth.{IsWalk}
use Rattle.tv_delta_laws.specs.Deltas.{Delta, delta_of, negated, both, either, some, every, unchanged}
use Rattle.tv_delta_laws.specs.Deltas.{is_flagged, touches, atom_delta, delta_by_kind, delta_of_defined}
use Rattle.tv_delta_laws.specs.Deltas.{delta_by_update, delta_by_change, small_put}
use Rattle.tv_delta_laws.specs.Putting.{Reserved, Arguments, put_in, bound_number, under_bound, with_own}
use Rattle.tv_delta_laws.specs.Putting.{argument_for, option_both, own_variables, variables}
use Rattle.tv_delta_laws.specs.Simple.{is_small}
use Rattle.tv_delta_laws.specs.Differences.{IsAffected, DefinedBy, Answer, DKeep}
use Rattle.tv_delta_laws.specs.Differences.{DEvaluate, answer_for, formed, or_evaluate, update_by}
use Rattle.tv_delta_laws.proofs.Options.{if-mapped, if-bound, if-both, if-some}
use Rattle.tv_delta_laws.proofs.StepTruths.{rests-affected}
use Rattle.tv_delta.specs.declared.kinds.Difference.{Difference}
use Rattle.tv_delta.specs.declared.kinds.Difference.TheVariants.{Keep, Evaluate, To}
use Rattle.tv_delta.specs.Answers.{SaysAnswer, IsDifference}
use Rattle.tv_delta.specs.Causes.{IsFreed, ClosesOver, IsClosedOver, IsObstacle, MeetsObstacle}
use Rattle.tv_delta.specs.Causes.{MovesIndividuals, EvaluatesAt, EvaluatesWhere}
use Rattle.tv_delta.proofs.Touches.{or-first, or-second}
use Rattle.tv_lemmas.proofs.Options.{IfSome-any}

-- ---- formulas that have no delta

-- an atom of the formula has a predicate of which A holds, or stands under a closure and has one of which P
-- holds
abbrev pub IsBlocked : (A P : ℕ → Type 0) → Form → Type 0
IsBlocked A P FZero = ⊥
IsBlocked A P FOne = ⊥
IsBlocked A P (FAtom q vars) = A q
IsBlocked A P (FIsNew v) = ⊥
IsBlocked A P (FSame v w) = ⊥
IsBlocked A P (FNot f) = IsBlocked A P f
IsBlocked A P (FAnd f g) = IsBlocked A P f ⊎ IsBlocked A P g
IsBlocked A P (FOr f g) = IsBlocked A P f ⊎ IsBlocked A P g
IsBlocked A P (FIff f g) = IsBlocked A P f ⊎ IsBlocked A P g
IsBlocked A P (FCond c f g) = IsBlocked A P c ⊎ (IsBlocked A P f ⊎ IsBlocked A P g)
IsBlocked A P (FExists v f) = IsBlocked A P f
IsBlocked A P (FForall v f) = IsBlocked A P f
IsBlocked A P (FClosure from to left right f) = IsBlocked P P f

mentions-blocked : (A P : ℕ → Type 0) (q : ℕ) → A q → P q → (f : Form) → Mentions q f → IsBlocked A P f
mentions-blocked A P q a p FZero m = absurd m
mentions-blocked A P q a p FOne m = absurd m
mentions-blocked A P q a p (FAtom s vars) m = subst A m a
mentions-blocked A P q a p (FIsNew v) m = absurd m
mentions-blocked A P q a p (FSame v w) m = absurd m
mentions-blocked A P q a p (FNot f) m = mentions-blocked A P q a p f m
mentions-blocked A P q a p (FAnd f g) m =
    ⊎_elim (λ l. inl (mentions-blocked A P q a p f l)) (λ r. inr (mentions-blocked A P q a p g r)) m
mentions-blocked A P q a p (FOr f g) m =
    ⊎_elim (λ l. inl (mentions-blocked A P q a p f l)) (λ r. inr (mentions-blocked A P q a p g r)) m
mentions-blocked A P q a p (FIff f g) m =
    ⊎_elim (λ l. inl (mentions-blocked A P q a p f l)) (λ r. inr (mentions-blocked A P q a p g r)) m
mentions-blocked A P q a p (FCond c f g) m =
    ⊎_elim (λ l. inl (mentions-blocked A P q a p c l))
    (λ t. inr (⊎_elim (λ l. inl (mentions-blocked A P q a p f l)) (λ r. inr (mentions-blocked A P q a p g r)) t)) m
mentions-blocked A P q a p (FExists v f) m = mentions-blocked A P q a p f m
mentions-blocked A P q a p (FForall v f) m = mentions-blocked A P q a p f m
mentions-blocked A P q a p (FClosure from to left right f) m = mentions-blocked P P q p p f m

closes-blocked : (A P Q : ℕ → Type 0) → ((q : ℕ) → Q q → P q) → (f : Form) → ClosesOver Q f → IsBlocked A P f
closes-blocked A P Q so FZero m = absurd m
closes-blocked A P Q so FOne m = absurd m
closes-blocked A P Q so (FAtom s vars) m = absurd m
closes-blocked A P Q so (FIsNew v) m = absurd m
closes-blocked A P Q so (FSame v w) m = absurd m
closes-blocked A P Q so (FNot f) m = closes-blocked A P Q so f m
closes-blocked A P Q so (FAnd f g) m =
    ⊎_elim (λ l. inl (closes-blocked A P Q so f l)) (λ r. inr (closes-blocked A P Q so g r)) m
closes-blocked A P Q so (FOr f g) m =
    ⊎_elim (λ l. inl (closes-blocked A P Q so f l)) (λ r. inr (closes-blocked A P Q so g r)) m
closes-blocked A P Q so (FIff f g) m =
    ⊎_elim (λ l. inl (closes-blocked A P Q so f l)) (λ r. inr (closes-blocked A P Q so g r)) m
closes-blocked A P Q so (FCond c f g) m =
    ⊎_elim (λ l. inl (closes-blocked A P Q so c l))
    (λ t. inr (⊎_elim (λ l. inl (closes-blocked A P Q so f l)) (λ r. inr (closes-blocked A P Q so g r)) t)) m
closes-blocked A P Q so (FExists v f) m = closes-blocked A P Q so f m
closes-blocked A P Q so (FForall v f) m = closes-blocked A P Q so f m
closes-blocked A P Q so (FClosure from to left right f) m = mentions-blocked P P m.0 (so m.0 m.2) (so m.0 m.2) f m.1

abbrev pub Mentioned : (ℕ → Type 0) → Form → Type 0
Mentioned Q f = (q : ℕ) × Mentions q f × Q q

closes-mentions : (Q : ℕ → Type 0) (f : Form) → ClosesOver Q f → (q : ℕ) × Mentions q f × Q q
closes-mentions Q FZero m = absurd m
closes-mentions Q FOne m = absurd m
closes-mentions Q (FAtom s vars) m = absurd m
closes-mentions Q (FIsNew v) m = absurd m
closes-mentions Q (FSame v w) m = absurd m
closes-mentions Q (FNot f) m = closes-mentions Q f m
closes-mentions Q (FAnd f g) m =
    ⊎_elim (λ l. let t : Mentioned Q f = closes-mentions Q f l in (t.0, inl t.1, t.2))
    (λ r. let t : Mentioned Q g = closes-mentions Q g r in (t.0, inr t.1, t.2)) m
closes-mentions Q (FOr f g) m =
    ⊎_elim (λ l. let t : Mentioned Q f = closes-mentions Q f l in (t.0, inl t.1, t.2))
    (λ r. let t : Mentioned Q g = closes-mentions Q g r in (t.0, inr t.1, t.2)) m
closes-mentions Q (FIff f g) m =
    ⊎_elim (λ l. let t : Mentioned Q f = closes-mentions Q f l in (t.0, inl t.1, t.2))
    (λ r. let t : Mentioned Q g = closes-mentions Q g r in (t.0, inr t.1, t.2)) m
closes-mentions Q (FCond c f g) m =
    ⊎_elim (λ l. let t : Mentioned Q c = closes-mentions Q c l in (t.0, inl t.1, t.2))
    (λ s. ⊎_elim (λ l. let t : Mentioned Q f = closes-mentions Q f l in (t.0, inr (inl t.1), t.2))
    (λ r. let t : Mentioned Q g = closes-mentions Q g r in (t.0, inr (inr t.1), t.2)) s) m
closes-mentions Q (FExists v f) m = closes-mentions Q f m
closes-mentions Q (FForall v f) m = closes-mentions Q f m
closes-mentions Q (FClosure from to left right f) m = m

abbrev pub Flagged : List Bool → ℕ → Type 0
Flagged flags q = is_flagged flags q ≡ true

blocked-touches : (flags : List Bool) (f : Form) → IsBlocked (Flagged flags) (Flagged flags) f → touches flags f ≡ true
blocked-touches flags FZero b = absurd b
blocked-touches flags FOne b = absurd b
blocked-touches flags (FAtom s vars) b = b
blocked-touches flags (FIsNew v) b = absurd b
blocked-touches flags (FSame v w) b = absurd b
blocked-touches flags (FNot f) b = blocked-touches flags f b
blocked-touches flags (FAnd f g) b =
    ⊎_elim (λ l. or-first (touches flags f) (touches flags g) (blocked-touches flags f l))
    (λ r. or-second (touches flags f) (touches flags g) (blocked-touches flags g r)) b
blocked-touches flags (FOr f g) b =
    ⊎_elim (λ l. or-first (touches flags f) (touches flags g) (blocked-touches flags f l))
    (λ r. or-second (touches flags f) (touches flags g) (blocked-touches flags g r)) b
blocked-touches flags (FIff f g) b =
    ⊎_elim (λ l. or-first (touches flags f) (touches flags g) (blocked-touches flags f l))
    (λ r. or-second (touches flags f) (touches flags g) (blocked-touches flags g r)) b
blocked-touches flags (FCond c f g) b =
    ⊎_elim (λ l. or-first (touches flags c) (touches flags f || touches flags g) (blocked-touches flags c l))
    (λ s. or-second (touches flags c) (touches flags f || touches flags g)
    (⊎_elim (λ l. or-first (touches flags f) (touches flags g) (blocked-touches flags f l))
    (λ r. or-second (touches flags f) (touches flags g) (blocked-touches flags g r)) s)) b
blocked-touches flags (FExists v f) b = blocked-touches flags f b
blocked-touches flags (FForall v f) b = blocked-touches flags f b
blocked-touches flags (FClosure from to left right f) b = blocked-touches flags f b

both-left : (a b : Option Delta) → a ≡ None → both a b ≡ None
both-left None b e = refl
both-left (Some x) b e = absurd (cc e)

both-right : (a b : Option Delta) → b ≡ None → both a b ≡ None
both-right None b e = refl
both-right (Some x) None e = refl
both-right (Some x) (Some y) e = absurd (cc e)

either-left : (a b : Option Delta) → a ≡ None → either a b ≡ None
either-left None b e = refl
either-left (Some x) b e = absurd (cc e)

either-right : (a b : Option Delta) → b ≡ None → either a b ≡ None
either-right None b e = refl
either-right (Some x) None e = refl
either-right (Some x) (Some y) e = absurd (cc e)

abbrev pub Atoms : Type 0
Atoms = ℕ → List ℕ → Option Delta

-- the atoms of the predicate have no delta
abbrev pub Undone : Atoms → ℕ → Type 0
Undone atoms q = (args : List ℕ) → atoms q args ≡ None

no-delta : (atoms : Atoms) (flags : List Bool) (f : Form) → IsBlocked (Undone atoms) (Flagged flags) f
    → delta_of atoms flags f ≡ None
no-delta atoms flags FZero b = absurd b
no-delta atoms flags FOne b = absurd b
no-delta atoms flags (FAtom q vars) b = b vars
no-delta atoms flags (FIsNew v) b = absurd b
no-delta atoms flags (FSame v w) b = absurd b
no-delta atoms flags (FNot f) b = ap negated (no-delta atoms flags f b)
no-delta atoms flags (FAnd f g) b =
    let x = delta_of atoms flags f
    in let y = delta_of atoms flags g
    in ⊎_elim (λ l. both-left x y (no-delta atoms flags f l)) (λ r. both-right x y (no-delta atoms flags g r)) b
no-delta atoms flags (FOr f g) b =
    let x = delta_of atoms flags f
    in let y = delta_of atoms flags g
    in ⊎_elim (λ l. either-left x y (no-delta atoms flags f l)) (λ r. either-right x y (no-delta atoms flags g r)) b
no-delta atoms flags (FIff f g) b =
    let x = delta_of atoms flags f
    in let y = delta_of atoms flags g
    in let there = either (negated x) y
    in let back = either (negated y) x
    in ⊎_elim
    (λ l. both-left there back (either-left (negated x) y (ap negated (no-delta atoms flags f l))))
    (λ r. both-left there back (either-right (negated x) y (no-delta atoms flags g r))) b
no-delta atoms flags (FCond c f g) b =
    let x = delta_of atoms flags c
    in let y = delta_of atoms flags f
    in let z = delta_of atoms flags g
    in let first = both x y
    in let second = both (negated x) z
    in ⊎_elim
    (λ l. either-left first second (both-left x y (no-delta atoms flags c l)))
    (λ s. ⊎_elim
    (λ l. either-left first second (both-right x y (no-delta atoms flags f l)))
    (λ r. either-right first second (both-right (negated x) z (no-delta atoms flags g r))) s) b
no-delta atoms flags (FExists v f) b = ap (some v) (no-delta atoms flags f b)
no-delta atoms flags (FForall v f) b = ap (every v) (no-delta atoms flags f b)
no-delta atoms flags (FClosure from to left right f) b =
    ap (λ t. cond t None (unchanged (FClosure from to left right f))) (blocked-touches flags f b)

-- ---- arguments put in

-- where one of two parts is blocked
two-blocked : (A P : ℕ → Type 0) (f g : Form) (o u : Option Form) (make : Form → Form → Form)
    → (IsBlocked A P f → IfSome o (IsBlocked A P)) → (IsBlocked A P g → IfSome u (IsBlocked A P))
    → ((x y : Form) → IsBlocked A P x ⊎ IsBlocked A P y → IsBlocked A P (make x y))
    → IsBlocked A P f ⊎ IsBlocked A P g → IfSome (option_both make o u) (IsBlocked A P)
two-blocked A P f g o u make one two joins b =
    ⊎_elim
    (λ l. if-both (IsBlocked A P) (λ y. Unit {0}) (IsBlocked A P) make o u (one l) (IfSome-any u)
    (λ x y is t. joins x y (inl is)))
    (λ r. if-both (λ x. Unit {0}) (IsBlocked A P) (IsBlocked A P) make o u (IfSome-any o) (two r)
    (λ x y t is. joins x y (inr is))) b

put-blocked : (A P : ℕ → Type 0) (r : Reserved) (f : Form) (m : Arguments) → IsBlocked A P f
    → IfSome (put_in r f m) (IsBlocked A P)
put-blocked A P r FZero m b = absurd b
put-blocked A P r FOne m b = absurd b
put-blocked A P r (FAtom q vars) m b = b
put-blocked A P r (FIsNew v) m b = absurd b
put-blocked A P r (FSame v w) m b = absurd b
put-blocked A P r (FNot f) m b =
    if-mapped (IsBlocked A P) (IsBlocked A P) (λ g. FNot g) (put_in r f m) (put-blocked A P r f m b) (λ g is. is)
put-blocked A P r (FAnd f g) m b =
    two-blocked A P f g (put_in r f m) (put_in r g m) (λ x y. FAnd x y) (put-blocked A P r f m)
    (put-blocked A P r g m) (λ x y is. is) b
put-blocked A P r (FOr f g) m b =
    two-blocked A P f g (put_in r f m) (put_in r g m) (λ x y. FOr x y) (put-blocked A P r f m)
    (put-blocked A P r g m) (λ x y is. is) b
put-blocked A P r (FIff f g) m b =
    two-blocked A P f g (put_in r f m) (put_in r g m) (λ x y. FIff x y) (put-blocked A P r f m)
    (put-blocked A P r g m) (λ x y is. is) b
put-blocked A P r (FCond c f g) m b =
    ⊎_elim
    (λ l. if-bound (IsBlocked A P) (IsBlocked A P)
    (λ x. option_both (λ y z. FCond x y z) (put_in r f m) (put_in r g m)) (put_in r c m)
    (put-blocked A P r c m l)
    (λ x is. if-both (λ y. Unit {0}) (λ z. Unit {0}) (IsBlocked A P) (λ y z. FCond x y z) (put_in r f m)
    (put_in r g m) (IfSome-any (put_in r f m)) (IfSome-any (put_in r g m)) (λ y z s t. inl is)))
    (λ s. if-bound (λ x. Unit {0}) (IsBlocked A P)
    (λ x. option_both (λ y z. FCond x y z) (put_in r f m) (put_in r g m)) (put_in r c m)
    (IfSome-any (put_in r c m))
    (λ x t. two-blocked A P f g (put_in r f m) (put_in r g m) (λ y z. FCond x y z) (put-blocked A P r f m)
    (put-blocked A P r g m) (λ y z is. inr is) s)) b
put-blocked A P r (FExists v f) m b =
    if-bound (λ w. Unit {0}) (IsBlocked A P)
    (λ w. option_map (λ g. FExists w g) (put_in r f (under_bound m v w f))) (bound_number r m v f)
    (IfSome-any (bound_number r m v f))
    (λ w t. if-mapped (IsBlocked A P) (IsBlocked A P) (λ g. FExists w g) (put_in r f (under_bound m v w f))
    (put-blocked A P r f (under_bound m v w f) b) (λ g is. is))
put-blocked A P r (FForall v f) m b =
    if-bound (λ w. Unit {0}) (IsBlocked A P)
    (λ w. option_map (λ g. FForall w g) (put_in r f (under_bound m v w f))) (bound_number r m v f)
    (IfSome-any (bound_number r m v f))
    (λ w t. if-mapped (IsBlocked A P) (IsBlocked A P) (λ g. FForall w g) (put_in r f (under_bound m v w f))
    (put-blocked A P r f (under_bound m v w f) b) (λ g is. is))
put-blocked A P r (FClosure from to left right f) m b =
    if-bound (λ l. Unit {0}) (IsBlocked A P)
    (λ l. option_and_then (λ k. option_map (λ g. FClosure (argument_for m from) (argument_for m to) l k g)
    (put_in r f (under_bound (under_bound m left l (FExists right f)) right k f)))
    (bound_number (with_own r l) (under_bound m left l (FExists right f)) right f))
    (bound_number r m left (FExists right f))
    (IfSome-any (bound_number r m left (FExists right f)))
    (λ l t. if-bound (λ k. Unit {0}) (IsBlocked A P)
    (λ k. option_map (λ g. FClosure (argument_for m from) (argument_for m to) l k g)
    (put_in r f (under_bound (under_bound m left l (FExists right f)) right k f)))
    (bound_number (with_own r l) (under_bound m left l (FExists right f)) right f)
    (IfSome-any (bound_number (with_own r l) (under_bound m left l (FExists right f)) right f))
    (λ k u. if-mapped (IsBlocked P P) (IsBlocked A P)
    (λ g. FClosure (argument_for m from) (argument_for m to) l k g)
    (put_in r f (under_bound (under_bound m left l (FExists right f)) right k f))
    (put-blocked P P r f (under_bound (under_bound m left l (FExists right f)) right k f) b) (λ g is. is)))

-- a blocked formula has no delta, whatever is put in
put-none : (atoms : Atoms) (flags : List Bool) (r : Reserved) (f : Form) (m : Arguments)
    → IsBlocked (Undone atoms) (Flagged flags) f
    → option_and_then (delta_of atoms flags) (small_put r f m) ≡ None
put-none atoms flags r f m blocked = go (is_small f) (put_in r f m) refl
  where
    go : (b : Bool) (o : Option Form) → put_in r f m ≡ o
        → option_and_then (delta_of atoms flags) (cond b o None) ≡ None
    go false o put = refl
    go true None put = refl
    go true (Some x) put =
        no-delta atoms flags x
        (if-some (IsBlocked (Undone atoms) (Flagged flags)) (put_in r f m) x
        (put-blocked (Undone atoms) (Flagged flags) r f m blocked) put)

-- ---- what rests on an affected predicate is affected

obstacle-affected : (p : ProgramForm) (action : ActionForm) (q : ℕ) → IsObstacle p action q → IsAffected p action q
obstacle-affected p action q (inl freed) =
    inl (record {
      pred = freed.pred;
      found = freed.found;
      core = freed.core;
      update = freed.update;
      updated = freed.updated;
    })
obstacle-affected p action q (inr closed) =
    let its : Mentioned (IsAffected p action) closed.body = closes-mentions (IsAffected p action) closed.body closed.closes
    in let rests : DefinedBy p q its.0 = record {
      pred = closed.pred;
      vars = closed.vars;
      body = closed.body;
      found = closed.found;
      defined = closed.defined;
      mentions = its.1;
    }
    in rests-affected p action q its.0 rests its.2

walk-affected : (p : ProgramForm) (action : ActionForm) (q : ℕ) (stops : List ℕ) (r : ℕ) → IsWalk (DefinedBy p) q stops r
    → IsAffected p action r → IsAffected p action q
walk-affected p action q [] r rests there = rests-affected p action q r rests there
walk-affected p action q (s ∷ stops) r walk there =
    rests-affected p action q s walk.0 (walk-affected p action s stops r walk.1 there)

pub met-affected : (p : ProgramForm) (action : ActionForm) (q : ℕ) → MeetsObstacle p action q → IsAffected p action q
met-affected p action q (inl it) = obstacle-affected p action q it
met-affected p action q (inr (r, stops, it, walk)) = walk-affected p action q stops r walk (obstacle-affected p action r it)

-- ---- no update across an obstacle

-- what stands in a definition that meets an obstacle: it is one by itself, or rests on what meets one
abbrev pub Passes : ProgramForm → ActionForm → ℕ → Type 0
Passes p action q =
    IsFreed p action q ⊎ (IsClosedOver p action q ⊎ ((s : ℕ) × DefinedBy p q s × MeetsObstacle p action s))

passes : (p : ProgramForm) (action : ActionForm) (q : ℕ) → MeetsObstacle p action q → Passes p action q
passes p action q (inl (inl freed)) = inl freed
passes p action q (inl (inr closed)) = inr (inl closed)
passes p action q (inr (r, [], it, rests)) = inr (inr (r, rests, inl it))
passes p action q (inr (r, s ∷ stops, it, walk)) = inr (inr (s, walk.0, inr (r, stops, it, walk.1)))

-- a definition that is found
pub record IsBlockedAt (p : ProgramForm) (A P : ℕ → Type 0) (q : ℕ) : Type 0 where
  pub pred : PredForm
  pub vars : List ℕ
  pub body : Form
  pub found : slice_get p.preds q ≡ Some pred
  pub defined : pred.kind ≡ KDefined vars body
  pub blocked : IsBlocked A P body

blocked-at : (p : ProgramForm) (action : ActionForm) (A P : ℕ → Type 0) → ((q : ℕ) → IsAffected p action q → P q)
    → ((s : ℕ) → MeetsObstacle p action s → A s) → (q : ℕ) → Passes p action q
    → IsFreed p action q ⊎ IsBlockedAt p A P q
blocked-at p action A P marks within q (inl freed) = inl freed
blocked-at p action A P marks within q (inr (inl closed)) =
    inr (record {
      pred = closed.pred;
      vars = closed.vars;
      body = closed.body;
      found = closed.found;
      defined = closed.defined;
      blocked = closes-blocked A P (IsAffected p action) marks closed.body closed.closes;
    })
blocked-at p action A P marks within q (inr (inr (s, rests, meets))) =
    inr (record {
      pred = rests.pred;
      vars = rests.vars;
      body = rests.body;
      found = rests.found;
      defined = rests.defined;
      blocked = mentions-blocked A P s (within s meets) (marks s (met-affected p action s meets)) rests.body
          rests.mentions;
    })

no-atom : (p : ProgramForm) (action : ActionForm) (r : Reserved) (flags : List Bool)
    → ((q : ℕ) → IsAffected p action q → is_flagged flags q ≡ true) → (n q : ℕ) (args : List ℕ)
    → MeetsObstacle p action q → atom_delta n p action r flags q args ≡ None
no-atom p action r flags marks zero q args meets = refl
no-atom p action r flags marks (suc n) q args meets =
    ap (λ b. cond b (option_and_then by (slice_get p.preds q)) (unchanged (FAtom q args)))
    (marks q (met-affected p action q meets))
    ∙ ⊎_elim freed blocked
    (blocked-at p action (Undone inner) (Flagged flags) marks
    (λ s it given. no-atom p action r flags marks n s given it) q (passes p action q meets))
  where
    inner : Atoms
    inner = atom_delta n p action r flags

    by : PredForm → Option Delta
    by d = delta_by_kind r flags action inner q args d.kind

    freed : IsFreed p action q → option_and_then by (slice_get p.preds q) ≡ None
    freed it =
        ap (option_and_then by) it.found
        ∙ ap (delta_by_kind r flags action inner q args) it.core
        ∙ ap (delta_by_update r (FAtom q args) args) it.updated
        ∙ ap (delta_by_change r (FAtom q args) it.update.vars args) it.free

    blocked : IsBlockedAt p (Undone inner) (Flagged flags) q → option_and_then by (slice_get p.preds q) ≡ None
    blocked it =
        ap (option_and_then by) it.found
        ∙ ap (delta_by_kind r flags action inner q args) it.defined
        ∙ ap (option_and_then (delta_of_defined (FAtom q args)))
        (put-none inner flags r it.body (zip it.vars args) it.blocked)

-- ---- the answer

no-update : (p : ProgramForm) (action : ActionForm) (flags : List Bool) (q : ℕ) (vars : List ℕ) (body : Form)
    → ((r : Reserved) → IsBlocked (Undone (atom_delta (length p.preds) p action r flags)) (Flagged flags) body)
    → formed p action flags q vars body ≡ DEvaluate
no-update p action flags q vars body blocked =
    go (own_variables action.picks (action.picks ++ (vars ++ variables body)) vars)
  where
    taken : List ℕ → Reserved
    taken own = record { picks = action.picks; own = own }

    delta : List ℕ → Option Delta
    delta own =
        option_and_then
        (delta_of (atom_delta (length p.preds) p action (taken own) flags) flags)
        (small_put (taken own) body (zip vars own))

    go : (o : Option (List ℕ))
        → or_evaluate (option_and_then (λ own. option_and_then (λ d. Some (update_by q own d)) (delta own)) o) ≡ DEvaluate
    go None = refl
    go (Some own) =
        ap (λ d. or_evaluate (option_and_then (λ d. Some (update_by q own d)) d))
        (put-none (atom_delta (length p.preds) p action (taken own) flags) flags (taken own) body (zip vars own)
        (blocked (taken own)))

same-branches : {X : Type 0} (b : Bool) (x : X) → cond b x x ≡ x
same-branches true x = refl
same-branches false x = refl

stopped-answer : (p : ProgramForm) (action : ActionForm) (flags : List Bool) (q : ℕ) (vars : List ℕ) (body : Form)
    → is_flagged flags q ≡ true → formed p action flags q vars body ≡ DEvaluate
    → answer_for p action flags q vars body ≡ DEvaluate
stopped-answer p action flags q vars body on none =
    ap (λ b. cond (action.fresh || is_some action.retain) DEvaluate (cond b (formed p action flags q vars body) DKeep)) on
    ∙ ap (λ a. cond (action.fresh || is_some action.retain) DEvaluate a) none
    ∙ same-branches (action.fresh || is_some action.retain) DEvaluate

moved-answer : (fresh : Bool) (retain : Option RetainForm) (x : Answer) → (fresh ≡ true) ⊎ (retain ≢ None)
    → cond (fresh || is_some retain) DEvaluate x ≡ DEvaluate
moved-answer true retain x moves = refl
moved-answer false (Some r) x moves = refl
moved-answer false None x (inl e) = absurd (false≢true e)
moved-answer false None x (inr ne) = absurd (ne refl)

evaluated-means : (fresh : Bool) (retain : Option RetainForm) (flag : Bool) (x : Answer)
    → cond (fresh || is_some retain) DEvaluate (cond flag x DKeep) ≡ DEvaluate
    → ((fresh ≡ true) ⊎ (retain ≢ None)) ⊎ (flag ≡ true)
evaluated-means true retain flag x e = inl (inl refl)
evaluated-means false (Some r) flag x e = inl (inr (λ none. cc none))
evaluated-means false None true x e = inr refl
evaluated-means false None false x e = absurd (cc e)

evaluate-said : (q : ℕ) (x : Difference) → SaysAnswer q x DEvaluate → x ≡ Evaluate
evaluate-said q Keep says = absurd (cc says)
evaluate-said q Evaluate says = refl
evaluate-said q (To w) says = absurd (cc says.2)

pub evaluates_where : (p : ProgramForm) (k q : ℕ) (x : Difference) → IsDifference p k q x → EvaluatesWhere p k q x
evaluates_where p k q x is action at =
    let same : is.action ≡ action = cc (is.at, at)
    in subst (λ a. EvaluatesAt p a q x) same (record { moved = moved; stopped = stopped; only = only })
  where
    evaluated : answer_for p is.action is.affected q is.vars is.body ≡ DEvaluate → x ≡ Evaluate
    evaluated e = evaluate-said q x (subst (λ (y : Answer). SaysAnswer q x y) e is.says)

    moved : MovesIndividuals is.action → x ≡ Evaluate
    moved moves =
        evaluated (moved-answer is.action.fresh is.action.retain
        (cond (is_flagged is.affected q) (formed p is.action is.affected q is.vars is.body) DKeep) moves)

    marks : (s : ℕ) → IsAffected p is.action s → is_flagged is.affected s ≡ true
    marks s (inl it) = (is.marked.tell s it.pred it.found).1 (inl it)
    marks s (inr (t, [], it, rests)) = (is.marked.tell s rests.pred rests.found).1 (inr (t, [], it, rests))
    marks s (inr (t, n ∷ stops, it, walk)) =
        (is.marked.tell s walk.0.pred walk.0.found).1 (inr (t, n ∷ stops, it, walk))

    its-own : (r : Reserved) → MeetsObstacle p is.action q
        → IsBlocked (Undone (atom_delta (length p.preds) p is.action r is.affected)) (Flagged is.affected) is.body
    its-own r meets =
        let A : ℕ → Type 0 = Undone (atom_delta (length p.preds) p is.action r is.affected)
        in ⊎_elim
        (λ (it : IsFreed p is.action q). absurd (core-defined is.pred it.pred is.its.found it.found is.its.defined it.core))
        (λ (it : IsBlockedAt p A (Flagged is.affected) q).
        subst (IsBlocked A (Flagged is.affected)) (same-body it.pred is.pred it.found is.its.found it.defined is.its.defined)
        it.blocked)
        (blocked-at p is.action A (Flagged is.affected) marks
        (λ s it given. no-atom p is.action r is.affected marks (length p.preds) s given it) q
        (passes p is.action q meets))
      where
        core-defined : (d e : PredForm) → slice_get p.preds q ≡ Some d → slice_get p.preds q ≡ Some e
            → d.kind ≡ KDefined is.vars is.body → e.kind ≡ KCore → ⊥
        core-defined d e found there defined core =
            let one : d ≡ e = cc (found, there)
            in cc (sym defined ∙ ap (λ (c : PredForm). c.kind) one ∙ core)

        same-body : (d e : PredForm) → {vars wars : List ℕ} {f g : Form} → slice_get p.preds q ≡ Some d
            → slice_get p.preds q ≡ Some e → d.kind ≡ KDefined vars f → e.kind ≡ KDefined wars g → f ≡ g
        same-body d e found there first second =
            let one : d ≡ e = cc (found, there)
            in cc (sym first ∙ ap (λ (c : PredForm). c.kind) one ∙ second)

    stopped : MeetsObstacle p is.action q → x ≡ Evaluate
    stopped meets =
        evaluated (stopped-answer p is.action is.affected q is.vars is.body
        (marks q (met-affected p is.action q meets))
        (no-update p is.action is.affected q is.vars is.body (λ r. its-own r meets)))

    only : x ≡ Evaluate → MovesIndividuals is.action ⊎ IsAffected p is.action q
    only e =
        let Its : Difference → Type 0 = λ y. SaysAnswer q y (answer_for p is.action is.affected q is.vars is.body)
        in ⊎_elim (λ moves. inl moves)
        (λ on. inr ((is.marked.tell q is.pred is.its.found).0 on))
        (evaluated-means is.action.fresh is.action.retain (is_flagged is.affected q)
        (formed p is.action is.affected q is.vars is.body) (subst Its e is.says))
