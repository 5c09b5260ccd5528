-- Deltas of quantified formulas tell the truth.
use Rattle.std.proofs.Common.{ℕ, ◌≡◌, ◌≢◌, ◌↔◌, ◌∙◌, List, Option, Some, None, ⊎_elim, subst, Contains}
use Rattle.std.specs.Prelude.{IfSome}
use Rattle.tv_model.specs.Form.{Form, FExists, FForall, IsFree}
use Rattle.tv_model.specs.Heap.{Heap}
use Rattle.tv_model.specs.Truth.{Assignment, Truth, put}
use Rattle.tv_model.proofs.Assignments.{put-other, put-inside}
use Rattle.tv_model.proofs.Decided.{IsDecided, exists-decided, not-decided}
use Rattle.tv_delta_laws.specs.Simple.{is_small, simple_not, simple_and, simple_exists, simple_forall}
use Rattle.tv_delta_laws.specs.Deltas.{Delta, delta_by, after, some, every}
use Rattle.tv_delta_laws.proofs.SimpleLaws.{not-truth, and-truth, exists-truth, forall-truth}
use Rattle.tv_delta_laws.proofs.DeltaTruths.{Tells, Change, IsChange, Suits, IsDelta, delta-tells}
use Rattle.tv_delta_laws.proofs.DeltaTruths.{if-small_over}

abbrev pub Somewhere : List ℕ → (ℕ → Type 0) → Type 0
Somewhere xs P = (u : ℕ) × Contains xs u × P u

abbrev pub Everywhere : List ℕ → (ℕ → Type 0) → Type 0
Everywhere xs P = (u : ℕ) → Contains xs u → P u

counterexample : (xs : List ℕ) (P : ℕ → Type 0) → ((u : ℕ) → IsDecided (P u)) → ¬ Everywhere xs P
    → Somewhere xs (λ u. ¬ P u)
counterexample xs P each n =
    ⊎_elim (λ found. found)
    (λ none. absurd (n (λ u at. ⊎_elim (λ p. p) (λ no. absurd (none (u, at, no))) (each u))))
    (exists-decided (λ u. ¬ P u) (λ u. not-decided (P u) (each u)) xs)

-- at each individual, what stands for a fact
pub record TellsEach (xs : List ℕ) (O N Now Up Down Next : ℕ → Type 0) : Type 0 where
  pub each : (u : ℕ) → Contains xs u → Tells (O u) (N u) (Now u) (Up u) (Down u) (Next u)

some-up : (xs ys : List ℕ) (O N Now Up Down Next : ℕ → Type 0) → ((u : ℕ) → Contains xs u ↔ Contains ys u)
    → TellsEach xs O N Now Up Down Next
    → (Somewhere xs Up × (¬ Somewhere xs Now)) ↔ ((¬ Somewhere xs O) × Somewhere ys N)
some-up xs ys O N Now Up Down Next same is = (
  λ t. (
    (λ o. t.1 (o.0, o.1, (is.each o.0 o.1).now.1 o.2)),
    (t.0.0, (same t.0.0).0 t.0.1, ((is.each t.0.0 t.0.1).up.0 t.0.2).1),
  ),
  λ t. let at : Contains xs t.1.0 = (same t.1.0).1 t.1.1
      in (
        (t.1.0, at, (is.each t.1.0 at).up.1 ((λ o. t.0 (t.1.0, at, o)), t.1.2)),
        λ w. t.0 (w.0, w.1, (is.each w.0 w.1).now.0 w.2),
      ),
)

some-down : (xs ys : List ℕ) (O N Now Up Down Next : ℕ → Type 0) → ((u : ℕ) → Contains xs u ↔ Contains ys u)
    → TellsEach xs O N Now Up Down Next
    → (Somewhere xs Down × (¬ Somewhere xs Next)) ↔ (Somewhere xs O × (¬ Somewhere ys N))
some-down xs ys O N Now Up Down Next same is = (
  λ t. (
    (t.0.0, t.0.1, ((is.each t.0.0 t.0.1).down.0 t.0.2).0),
    λ w. t.1 (w.0, (same w.0).1 w.1, (is.each w.0 ((same w.0).1 w.1)).next.1 w.2),
  ),
  λ t. (
    (t.0.0, t.0.1, (is.each t.0.0 t.0.1).down.1 (t.0.2, λ n. t.1 (t.0.0, (same t.0.0).0 t.0.1, n))),
    λ w. t.1 (w.0, (same w.0).0 w.1, (is.each w.0 w.1).next.0 w.2),
  ),
)

every-up : (xs ys : List ℕ) (O N Now Up Down Next : ℕ → Type 0) → ((u : ℕ) → Contains xs u ↔ Contains ys u)
    → TellsEach xs O N Now Up Down Next → ((u : ℕ) → IsDecided (O u))
    → (Somewhere xs Up × Everywhere xs Next) ↔ ((¬ Everywhere xs O) × Everywhere ys N)
every-up xs ys O N Now Up Down Next same is was = (
  λ t. (
    (λ all. ((is.each t.0.0 t.0.1).up.0 t.0.2).0 (all t.0.0 t.0.1)),
    λ u at. (is.each u ((same u).1 at)).next.0 (t.1 u ((same u).1 at)),
  ),
  λ t. let c : Somewhere xs (λ u. ¬ O u) = counterexample xs O was t.0
      in (
        (c.0, c.1, (is.each c.0 c.1).up.1 (c.2, t.1 c.0 ((same c.0).0 c.1))),
        λ u at. (is.each u at).next.1 (t.1 u ((same u).0 at)),
      ),
)

every-down : (xs ys : List ℕ) (O N Now Up Down Next : ℕ → Type 0) → ((u : ℕ) → Contains xs u ↔ Contains ys u)
    → TellsEach xs O N Now Up Down Next → ((u : ℕ) → IsDecided (N u))
    → (Somewhere xs Down × Everywhere xs Now) ↔ (Everywhere xs O × (¬ Everywhere ys N))
every-down xs ys O N Now Up Down Next same is will = (
  λ t. (
    (λ u at. (is.each u at).now.0 (t.1 u at)),
    λ all. ((is.each t.0.0 t.0.1).down.0 t.0.2).1 (all t.0.0 ((same t.0.0).0 t.0.1)),
  ),
  λ t. let c : Somewhere xs (λ u. ¬ N u)
      = counterexample xs N will (λ all. t.1 (λ u at. all u ((same u).1 at)))
      in ((c.0, c.1, (is.each c.0 c.1).down.1 (t.0 c.0 c.1, c.2)), λ u at. (is.each u at).now.1 (t.0 u at)),
)

-- ---- formulas

under-suits : (s : Change) (v : ℕ) (f : Form) (b : Assignment) (u : ℕ) → (¬ Contains s.picks v)
    → Contains s.old.individuals u → ((x : ℕ) → Contains s.picks x → b x ≡ s.picked x)
    → ((x : ℕ) → (x ≢ v) × IsFree x f → Contains s.old.individuals (b x)) → Suits s f (put b v u)
under-suits s v f b u apart at picks others = record {
  picks = λ x among.
      put-other b v u x (λ e. apart (let At : ℕ → Type 0 = λ y. Contains s.picks y in subst At e among)) ∙ picks x among;
  individuals = put-inside s.old.individuals (λ x. IsFree x f) b v u at others;
}

each-tells : (s : Change) (v : ℕ) (f : Form) (d : Delta) → IsDelta s f d → (¬ Contains s.picks v) → (b : Assignment)
    → Suits s (FExists v f) b
    → TellsEach s.old.individuals (λ u. Truth s.old (put b v u) f) (λ u. Truth s.new (put b v u) f)
    (λ u. Truth s.old (put b v u) d.now) (λ u. Truth s.old (put b v u) d.up) (λ u. Truth s.old (put b v u) d.down)
    (λ u. Truth s.old (put b v u) (after d))
each-tells s v f d is apart b suits = record {
  each = λ u at. is.at (put b v u) (under-suits s v f b u apart at suits.picks suits.individuals);
}

and-exists_not : (h : Heap) (b : Assignment) (v : ℕ) (f g : Form)
    → Truth h b (simple_and (simple_exists v f) (simple_not (simple_exists v g)))
    ↔ (Truth h b (FExists v f) × (¬ Truth h b (FExists v g)))
and-exists_not h b v f g =
    let formed = and-truth h b (simple_exists v f) (simple_not (simple_exists v g))
    in let one = exists-truth h b v f
    in let two = exists-truth h b v g
    in let no = not-truth h b (simple_exists v g)
    in (
      λ t. (one.0 (formed.0 t).0, λ s. no.0 (formed.0 t).1 (two.1 s)),
      λ t. formed.1 (one.1 t.0, no.1 (λ s. t.1 (two.0 s))),
    )

and-exists_forall : (h : Heap) (b : Assignment) (v : ℕ) (f g : Form)
    → Truth h b (simple_and (simple_exists v f) (simple_forall v g))
    ↔ (Truth h b (FExists v f) × Truth h b (FForall v g))
and-exists_forall h b v f g =
    let formed = and-truth h b (simple_exists v f) (simple_forall v g)
    in let one = exists-truth h b v f
    in let two = forall-truth h b v g
    in (
      λ t. (one.0 (formed.0 t).0, two.0 (formed.0 t).1),
      λ t. formed.1 (one.1 t.0, two.1 t.1),
    )

pub some-tells : (s : Change) → IsChange s → (v : ℕ) (f : Form) → (¬ Contains s.picks v) → (o : Option Delta)
    → IfSome o (IsDelta s f) → IfSome (some v o) (IsDelta s (FExists v f))
some-tells s is v f apart None at = tt
some-tells s is v f apart (Some d) at =
    let up : Form = simple_and (simple_exists v d.up) (simple_not (simple_exists v d.now))
    in let down : Form = simple_and (simple_exists v d.down) (simple_not (simple_exists v (after d)))
    in if-small_over (IsDelta s (FExists v f)) (is_small (after d)) (delta_by (FExists v d.now) up down)
    (delta-tells s is (FExists v f) (FExists v d.now) up down (λ b suits.
    let O : ℕ → Type 0 = λ u. Truth s.old (put b v u) f
    in let N : ℕ → Type 0 = λ u. Truth s.new (put b v u) f
    in let Now : ℕ → Type 0 = λ u. Truth s.old (put b v u) d.now
    in let Up : ℕ → Type 0 = λ u. Truth s.old (put b v u) d.up
    in let Down : ℕ → Type 0 = λ u. Truth s.old (put b v u) d.down
    in let Next : ℕ → Type 0 = λ u. Truth s.old (put b v u) (after d)
    in let each : TellsEach s.old.individuals O N Now Up Down Next = each-tells s v f d at apart b suits
    in let rises = some-up s.old.individuals s.new.individuals O N Now Up Down Next is.individuals each
    in let falls = some-down s.old.individuals s.new.individuals O N Now Up Down Next is.individuals each
    in let formed_up = and-exists_not s.old b v d.up d.now
    in let formed_down = and-exists_not s.old b v d.down (after d)
    in (
      (λ x. (x.0, x.1, (each.each x.0 x.1).now.0 x.2), λ x. (x.0, x.1, (each.each x.0 x.1).now.1 x.2)),
      (λ x. rises.0 (formed_up.0 x), λ x. formed_up.1 (rises.1 x)),
      (λ x. falls.0 (formed_down.0 x), λ x. formed_down.1 (falls.1 x)),
    )))

pub every-tells : (s : Change) → IsChange s → (v : ℕ) (f : Form) → (¬ Contains s.picks v) → (o : Option Delta)
    → IfSome o (IsDelta s f) → IfSome (every v o) (IsDelta s (FForall v f))
every-tells s is v f apart None at = tt
every-tells s is v f apart (Some d) at =
    let up : Form = simple_and (simple_exists v d.up) (simple_forall v (after d))
    in let down : Form = simple_and (simple_exists v d.down) (simple_forall v d.now)
    in if-small_over (IsDelta s (FForall v f)) (is_small (after d)) (delta_by (FForall v d.now) up down)
    (delta-tells s is (FForall v f) (FForall v d.now) up down (λ b suits.
    let O : ℕ → Type 0 = λ u. Truth s.old (put b v u) f
    in let N : ℕ → Type 0 = λ u. Truth s.new (put b v u) f
    in let Now : ℕ → Type 0 = λ u. Truth s.old (put b v u) d.now
    in let Up : ℕ → Type 0 = λ u. Truth s.old (put b v u) d.up
    in let Down : ℕ → Type 0 = λ u. Truth s.old (put b v u) d.down
    in let Next : ℕ → Type 0 = λ u. Truth s.old (put b v u) (after d)
    in let its : Suits s (FExists v f) b = record { picks = suits.picks; individuals = suits.individuals }
    in let each : TellsEach s.old.individuals O N Now Up Down Next = each-tells s v f d at apart b its
    in let rises = every-up s.old.individuals s.new.individuals O N Now Up Down Next is.individuals each
    (λ u. is.decided s.old (put b v u) f)
    in let falls = every-down s.old.individuals s.new.individuals O N Now Up Down Next is.individuals each
    (λ u. is.decided s.new (put b v u) f)
    in let formed_up = and-exists_forall s.old b v d.up (after d)
    in let formed_down = and-exists_forall s.old b v d.down d.now
    in (
      (λ x u at. (each.each u at).now.0 (x u at), λ x u at. (each.each u at).now.1 (x u at)),
      (λ x. rises.0 (formed_up.0 x), λ x. formed_up.1 (rises.1 x)),
      (λ x. falls.0 (formed_down.0 x), λ x. formed_down.1 (falls.1 x)),
    )))
