-- Deltas tell the truth: where a step makes a formula true, where it makes it false, and what it is after it.
use Rattle.std.proofs.Common.{ℕ, Bool, ◌≡◌, ◌⊎◌, ◌↔◌, List, Option, Some, None, inl, inr, ⊎_elim, Contains}
use Rattle.std.specs.Prelude.{◌&&◌, IfSome}
use Rattle.std.proofs.lemmas.Bool.{cond_both}
use Rattle.tv_model.specs.Form.{Form, FZero, FNot, FAnd, FOr, FCond, IsFree}
use Rattle.tv_model.specs.Heap.{Heap}
use Rattle.tv_model.specs.Truth.{Assignment, Truth}
use Rattle.tv_model.proofs.Decided.{IsDecided}
use Rattle.tv_delta_laws.specs.Simple.{is_small, simple_not, simple_and, simple_or, simple_cond}
use Rattle.tv_delta_laws.specs.Deltas.{Delta, delta_by, after, if_small, if_small_over, unchanged, negated}
use Rattle.tv_delta_laws.specs.Deltas.{both, either}
use Rattle.tv_delta_laws.proofs.SimpleLaws.{not-truth, and-truth, or-truth, cond-truth}

-- ---- facts before a step (O), after it (N), and those that stand for them

-- what stands for a fact: it holds now, the step makes it true, the step makes it false, it holds next
pub record Tells (O N Now Up Down Next : Type 0) : Type 0 where
  pub now : Now ↔ O
  pub up : Up ↔ ((¬ O) × N)
  pub down : Down ↔ (O × (¬ N))
  pub next : Next ↔ N

tells-next : (O N Now Up Down : Type 0) → IsDecided O → IsDecided N → Now ↔ O → Up ↔ ((¬ O) × N) → Down ↔ (O × (¬ N))
    → ((Now × (¬ Down)) ⊎ ((¬ Now) × Up)) ↔ N
tells-next O N Now Up Down was will now up down = (
  λ t. ⊎_elim
      (λ s. ⊎_elim (λ n. n) (λ no. absurd (s.1 (down.1 (now.0 s.0, no)))) will)
      (λ s. (up.0 s.1).1) t,
  λ n. ⊎_elim
      (λ o. inl (now.1 o, λ d. (down.0 d).1 n))
      (λ no. inr ((λ t. no (now.0 t)), up.1 (no, n))) was,
)

tells-not : (O N Now Up Down Next : Type 0) → Tells O N Now Up Down Next → IsDecided O → IsDecided N
    → (Down ↔ ((¬ (¬ O)) × (¬ N))) × (Up ↔ ((¬ O) × (¬ (¬ N))))
tells-not O N Now Up Down Next is was will = (
  (
    λ t. ((λ no. no (is.down.0 t).0), (is.down.0 t).1),
    λ t. is.down.1 (⊎_elim (λ o. o) (λ no. absurd (t.0 no)) was, t.1),
  ),
  (
    λ t. ((is.up.0 t).0, λ no. no (is.up.0 t).1),
    λ t. is.up.1 (t.0, ⊎_elim (λ n. n) (λ no. absurd (t.1 no)) will),
  ),
)

both-up : (O N Now Up Down Next P M Here Rise Fall Then : Type 0) → Tells O N Now Up Down Next
    → Tells P M Here Rise Fall Then → IsDecided O
    → ((Up × Then) ⊎ (Next × Rise)) ↔ ((¬ (O × P)) × (N × M))
both-up O N Now Up Down Next P M Here Rise Fall Then f g was = (
  λ t. ⊎_elim
      (λ s. ((λ o. (f.up.0 s.0).0 o.0), ((f.up.0 s.0).1, g.next.0 s.1)))
      (λ s. ((λ o. (g.up.0 s.1).0 o.1), (f.next.0 s.0, (g.up.0 s.1).1))) t,
  λ t. ⊎_elim
      (λ o. inr (f.next.1 t.1.0, g.up.1 ((λ p. t.0 (o, p)), t.1.1)))
      (λ no. inl (f.up.1 (no, t.1.0), g.next.1 t.1.1)) was,
)

both-down : (O N Now Up Down Next P M Here Rise Fall Then : Type 0) → Tells O N Now Up Down Next
    → Tells P M Here Rise Fall Then → IsDecided N
    → ((Down × Here) ⊎ (Now × Fall)) ↔ ((O × P) × (¬ (N × M)))
both-down O N Now Up Down Next P M Here Rise Fall Then f g will = (
  λ t. ⊎_elim
      (λ s. (((f.down.0 s.0).0, g.now.0 s.1), λ n. (f.down.0 s.0).1 n.0))
      (λ s. ((f.now.0 s.0, (g.down.0 s.1).0), λ n. (g.down.0 s.1).1 n.1)) t,
  λ t. ⊎_elim
      (λ n. inr (f.now.1 t.0.0, g.down.1 (t.0.1, λ m. t.1 (n, m))))
      (λ no. inl (f.down.1 (t.0.0, no), g.now.1 t.0.1)) will,
)

either-up : (O N Now Up Down Next P M Here Rise Fall Then : Type 0) → Tells O N Now Up Down Next
    → Tells P M Here Rise Fall Then
    → ((Up × (¬ Here)) ⊎ ((¬ Now) × Rise)) ↔ ((¬ (O ⊎ P)) × (N ⊎ M))
either-up O N Now Up Down Next P M Here Rise Fall Then f g = (
  λ t. ⊎_elim
      (λ s. ((λ o. ⊎_elim (f.up.0 s.0).0 (λ p. s.1 (g.now.1 p)) o), inl (f.up.0 s.0).1))
      (λ s. ((λ o. ⊎_elim (λ x. s.0 (f.now.1 x)) (g.up.0 s.1).0 o), inr (g.up.0 s.1).1)) t,
  λ t. ⊎_elim
      (λ n. inl (f.up.1 ((λ o. t.0 (inl o)), n), λ h. t.0 (inr (g.now.0 h))))
      (λ m. inr ((λ h. t.0 (inl (f.now.0 h))), g.up.1 ((λ p. t.0 (inr p)), m))) t.1,
)

either-down : (O N Now Up Down Next P M Here Rise Fall Then : Type 0) → Tells O N Now Up Down Next
    → Tells P M Here Rise Fall Then
    → ((Down × (¬ Then)) ⊎ ((¬ Next) × Fall)) ↔ ((O ⊎ P) × (¬ (N ⊎ M)))
either-down O N Now Up Down Next P M Here Rise Fall Then f g = (
  λ t. ⊎_elim
      (λ s. (inl (f.down.0 s.0).0, λ n. ⊎_elim (f.down.0 s.0).1 (λ m. s.1 (g.next.1 m)) n))
      (λ s. (inr (g.down.0 s.1).0, λ n. ⊎_elim (λ x. s.0 (f.next.1 x)) (g.down.0 s.1).1 n)) t,
  λ t. ⊎_elim
      (λ o. inl (f.down.1 (o, λ n. t.1 (inl n)), λ x. t.1 (inr (g.next.0 x))))
      (λ p. inr ((λ x. t.1 (inl (f.next.0 x))), g.down.1 (p, λ m. t.1 (inr m)))) t.0,
)

-- ---- a step

-- the heaps before and after a step that neither adds nor removes individuals, and what the picked variables
-- stand for
pub record Change : Type 0 where
  pub old : Heap
  pub new : Heap
  pub picks : List ℕ
  pub picked : Assignment

pub record IsChange (s : Change) : Type 0 where
  pub decided : (h : Heap) (a : Assignment) (f : Form) → IsDecided (Truth h a f)
  pub individuals : (u : ℕ) → Contains s.old.individuals u ↔ Contains s.new.individuals u
  pub marks : s.old.fresh ≡ s.new.fresh

-- the picked variables stand for what was picked, and the free ones for individuals
pub record Suits (s : Change) (f : Form) (b : Assignment) : Type 0 where
  pub picks : (v : ℕ) → Contains s.picks v → b v ≡ s.picked v
  pub individuals : (v : ℕ) → IsFree v f → Contains s.old.individuals (b v)

abbrev pub TellsAt : Change → Form → Delta → Assignment → Type 0
TellsAt s f d b =
    Tells (Truth s.old b f) (Truth s.new b f) (Truth s.old b d.now) (Truth s.old b d.up) (Truth s.old b d.down)
    (Truth s.old b (after d))

-- the delta is that of the formula
pub record IsDelta (s : Change) (f : Form) (d : Delta) : Type 0 where
  pub at : (b : Assignment) → Suits s f b → TellsAt s f d b

-- a delta by its formula now, and where the step makes it true and false
pub delta-tells : (s : Change) → IsChange s → (f now up down : Form)
    → ((b : Assignment) → Suits s f b → (Truth s.old b now ↔ Truth s.old b f)
    × (Truth s.old b up ↔ ((¬ Truth s.old b f) × Truth s.new b f))
    × (Truth s.old b down ↔ (Truth s.old b f × (¬ Truth s.new b f))))
    → IsDelta s f (delta_by now up down)
delta-tells s is f now up down tells = record {
  at = λ b suits.
      let t : (Truth s.old b now ↔ Truth s.old b f)
      × (Truth s.old b up ↔ ((¬ Truth s.old b f) × Truth s.new b f))
      × (Truth s.old b down ↔ (Truth s.old b f × (¬ Truth s.new b f)))
      = tells b suits
      in let next : ((Truth s.old b now × (¬ Truth s.old b down)) ⊎ ((¬ Truth s.old b now) × Truth s.old b up))
      ↔ Truth s.new b f
      = tells-next (Truth s.old b f) (Truth s.new b f) (Truth s.old b now) (Truth s.old b up) (Truth s.old b down)
      (is.decided s.old b f) (is.decided s.new b f) t.0 t.1 t.2
      in let falls : Truth s.old b (simple_not down) ↔ (¬ Truth s.old b down) = not-truth s.old b down
      in let formed : Truth s.old b (simple_cond now (simple_not down) up) ↔ Truth s.old b (FCond now (simple_not down) up)
      = cond-truth is.decided s.old b now (simple_not down) up
      in record {
        now = t.0;
        up = t.1;
        down = t.2;
        next = (
          λ x. next.0 (⊎_elim (λ y. inl (y.0, falls.0 y.1)) (λ y. inr y) (formed.0 x)),
          λ x. formed.1 (⊎_elim (λ y. inl (y.0, falls.1 y.1)) (λ y. inr y) (next.1 x)),
        );
      };
}

pub if-small : (P : Delta → Type 0) (d : Delta) → P d → IfSome (if_small d) P
if-small P d holds =
    cond_both (is_small d.up && is_small d.down) (Some d) None (λ o. IfSome o P) (λ e. holds) (λ e. tt)

pub if-small_over : (P : Delta → Type 0) (tested : Bool) (d : Delta) → P d → IfSome (if_small_over tested d) P
if-small_over P tested d holds =
    cond_both tested (if_small d) None (λ o. IfSome o P) (λ e. if-small P d holds) (λ e. tt)

-- the delta of one formula is that of another which is true alike
pub delta-alike : (s : Change) (f g : Form) (d : Delta) → ((v : ℕ) → IsFree v f → IsFree v g)
    → ((h : Heap) (b : Assignment) → Truth h b f ↔ Truth h b g) → IsDelta s f d → IsDelta s g d
delta-alike s f g d free same is = record {
  at = λ b suits.
      let t : TellsAt s f d b
      = is.at b (record { picks = suits.picks; individuals = λ v at. suits.individuals v (free v at) })
      in let was : Truth s.old b f ↔ Truth s.old b g = same s.old b
      in let will : Truth s.new b f ↔ Truth s.new b g = same s.new b
      in record {
        now = (λ x. was.0 (t.now.0 x), λ x. t.now.1 (was.1 x));
        up = (
          λ x. ((λ o. (t.up.0 x).0 (was.1 o)), will.0 (t.up.0 x).1),
          λ x. t.up.1 ((λ o. x.0 (was.0 o)), will.1 x.1),
        );
        down = (
          λ x. (was.0 (t.down.0 x).0, λ n. (t.down.0 x).1 (will.1 n)),
          λ x. t.down.1 (was.1 x.0, λ n. x.1 (will.0 n)),
        );
        next = (λ x. will.0 (t.next.0 x), λ x. t.next.1 (will.1 x));
      };
}

-- ---- connectives

pub unchanged-tells : (s : Change) → IsChange s → (f : Form)
    → ((b : Assignment) → Suits s f b → Truth s.old b f ↔ Truth s.new b f) → IfSome (unchanged f) (IsDelta s f)
unchanged-tells s is f same =
    delta-tells s is f f FZero FZero (λ b suits. (
      (λ t. t, λ t. t),
      (λ t. absurd t, λ t. t.0 ((same b suits).1 t.1)),
      (λ t. absurd t, λ t. t.1 ((same b suits).0 t.0)),
    ))

pub negated-tells : (s : Change) → IsChange s → (f : Form) (o : Option Delta) → IfSome o (IsDelta s f)
    → IfSome (negated o) (IsDelta s (FNot f))
negated-tells s is f None at = tt
negated-tells s is f (Some d) at =
    delta-tells s is (FNot f) (FNot d.now) d.down d.up (λ b suits.
    let t : TellsAt s f d b = at.at b (record { picks = suits.picks; individuals = suits.individuals })
    in let turned : (Truth s.old b d.down ↔ ((¬ (¬ Truth s.old b f)) × (¬ Truth s.new b f)))
    × (Truth s.old b d.up ↔ ((¬ Truth s.old b f) × (¬ (¬ Truth s.new b f))))
    = tells-not (Truth s.old b f) (Truth s.new b f) (Truth s.old b d.now) (Truth s.old b d.up) (Truth s.old b d.down)
    (Truth s.old b (after d)) t (is.decided s.old b f) (is.decided s.new b f)
    in (
      (λ x y. x (t.now.1 y), λ x y. x (t.now.0 y)),
      turned.0,
      turned.1,
    ))

-- a disjunction of two conjunctions, as they are simplified
or-of_ands : (h : Heap) (b : Assignment) (f g x y : Form)
    → Truth h b (simple_or (simple_and f g) (simple_and x y)) ↔ ((Truth h b f × Truth h b g) ⊎ (Truth h b x × Truth h b y))
or-of_ands h b f g x y = (
  λ t. ⊎_elim (λ s. inl ((and-truth h b f g).0 s)) (λ s. inr ((and-truth h b x y).0 s))
      ((or-truth h b (simple_and f g) (simple_and x y)).0 t),
  λ t. (or-truth h b (simple_and f g) (simple_and x y)).1
      (⊎_elim (λ s. inl ((and-truth h b f g).1 s)) (λ s. inr ((and-truth h b x y).1 s)) t),
)

left-suits : (s : Change) (f g : Form) (b : Assignment) → Suits s (FAnd f g) b → Suits s f b
left-suits s f g b suits = record { picks = suits.picks; individuals = λ v at. suits.individuals v (inl at) }

right-suits : (s : Change) (f g : Form) (b : Assignment) → Suits s (FAnd f g) b → Suits s g b
right-suits s f g b suits = record { picks = suits.picks; individuals = λ v at. suits.individuals v (inr at) }

pub both-tells : (s : Change) → IsChange s → (f g : Form) (o u : Option Delta) → IfSome o (IsDelta s f)
    → IfSome u (IsDelta s g) → IfSome (both o u) (IsDelta s (FAnd f g))
both-tells s is f g None u at too = tt
both-tells s is f g (Some d) None at too = tt
both-tells s is f g (Some d) (Some e) at too =
    let up : Form = simple_or (simple_and d.up (after e)) (simple_and (after d) e.up)
    in let down : Form = simple_or (simple_and d.down e.now) (simple_and d.now e.down)
    in if-small_over (IsDelta s (FAnd f g)) (is_small (after d) && is_small (after e)) (delta_by (FAnd d.now e.now) up down)
    (delta-tells s is (FAnd f g) (FAnd d.now e.now) up down (λ b suits.
    let t : TellsAt s f d b = at.at b (left-suits s f g b suits)
    in let r : TellsAt s g e b = too.at b (right-suits s f g b suits)
    in let rises : ((Truth s.old b d.up × Truth s.old b (after e)) ⊎ (Truth s.old b (after d) × Truth s.old b e.up))
    ↔ ((¬ (Truth s.old b f × Truth s.old b g)) × (Truth s.new b f × Truth s.new b g))
    = both-up (Truth s.old b f) (Truth s.new b f) (Truth s.old b d.now) (Truth s.old b d.up) (Truth s.old b d.down)
    (Truth s.old b (after d)) (Truth s.old b g) (Truth s.new b g) (Truth s.old b e.now) (Truth s.old b e.up)
    (Truth s.old b e.down) (Truth s.old b (after e)) t r (is.decided s.old b f)
    in let falls : ((Truth s.old b d.down × Truth s.old b e.now) ⊎ (Truth s.old b d.now × Truth s.old b e.down))
    ↔ ((Truth s.old b f × Truth s.old b g) × (¬ (Truth s.new b f × Truth s.new b g)))
    = both-down (Truth s.old b f) (Truth s.new b f) (Truth s.old b d.now) (Truth s.old b d.up) (Truth s.old b d.down)
    (Truth s.old b (after d)) (Truth s.old b g) (Truth s.new b g) (Truth s.old b e.now) (Truth s.old b e.up)
    (Truth s.old b e.down) (Truth s.old b (after e)) t r (is.decided s.new b f)
    in let formed_up = or-of_ands s.old b d.up (after e) (after d) e.up
    in let formed_down = or-of_ands s.old b d.down e.now d.now e.down
    in (
      (λ x. (t.now.0 x.0, r.now.0 x.1), λ x. (t.now.1 x.0, r.now.1 x.1)),
      (λ x. rises.0 (formed_up.0 x), λ x. formed_up.1 (rises.1 x)),
      (λ x. falls.0 (formed_down.0 x), λ x. formed_down.1 (falls.1 x)),
    )))

-- a disjunction of two conjunctions with a negation in each
or-of_nots : (h : Heap) (b : Assignment) (f g x y : Form)
    → Truth h b (simple_or (simple_and f (simple_not g)) (simple_and (simple_not x) y))
    ↔ ((Truth h b f × (¬ Truth h b g)) ⊎ ((¬ Truth h b x) × Truth h b y))
or-of_nots h b f g x y =
    let formed = or-of_ands h b f (simple_not g) (simple_not x) y
    in (
      λ t. ⊎_elim (λ s. inl (s.0, (not-truth h b g).0 s.1)) (λ s. inr ((not-truth h b x).0 s.0, s.1)) (formed.0 t),
      λ t. formed.1 (⊎_elim (λ s. inl (s.0, (not-truth h b g).1 s.1)) (λ s. inr ((not-truth h b x).1 s.0, s.1)) t),
    )

pub either-tells : (s : Change) → IsChange s → (f g : Form) (o u : Option Delta) → IfSome o (IsDelta s f)
    → IfSome u (IsDelta s g) → IfSome (either o u) (IsDelta s (FOr f g))
either-tells s is f g None u at too = tt
either-tells s is f g (Some d) None at too = tt
either-tells s is f g (Some d) (Some e) at too =
    let up : Form = simple_or (simple_and d.up (simple_not e.now)) (simple_and (simple_not d.now) e.up)
    in let down : Form = simple_or (simple_and d.down (simple_not (after e))) (simple_and (simple_not (after d)) e.down)
    in if-small_over (IsDelta s (FOr f g)) (is_small (after d) && is_small (after e)) (delta_by (FOr d.now e.now) up down)
    (delta-tells s is (FOr f g) (FOr d.now e.now) up down (λ b suits.
    let parts : Suits s (FAnd f g) b = record { picks = suits.picks; individuals = suits.individuals }
    in let t : TellsAt s f d b = at.at b (left-suits s f g b parts)
    in let r : TellsAt s g e b = too.at b (right-suits s f g b parts)
    in let rises : ((Truth s.old b d.up × (¬ Truth s.old b e.now)) ⊎ ((¬ Truth s.old b d.now) × Truth s.old b e.up))
    ↔ ((¬ (Truth s.old b f ⊎ Truth s.old b g)) × (Truth s.new b f ⊎ Truth s.new b g))
    = either-up (Truth s.old b f) (Truth s.new b f) (Truth s.old b d.now) (Truth s.old b d.up) (Truth s.old b d.down)
    (Truth s.old b (after d)) (Truth s.old b g) (Truth s.new b g) (Truth s.old b e.now) (Truth s.old b e.up)
    (Truth s.old b e.down) (Truth s.old b (after e)) t r
    in let falls : ((Truth s.old b d.down × (¬ Truth s.old b (after e))) ⊎ ((¬ Truth s.old b (after d)) × Truth s.old b e.down))
    ↔ ((Truth s.old b f ⊎ Truth s.old b g) × (¬ (Truth s.new b f ⊎ Truth s.new b g)))
    = either-down (Truth s.old b f) (Truth s.new b f) (Truth s.old b d.now) (Truth s.old b d.up) (Truth s.old b d.down)
    (Truth s.old b (after d)) (Truth s.old b g) (Truth s.new b g) (Truth s.old b e.now) (Truth s.old b e.up)
    (Truth s.old b e.down) (Truth s.old b (after e)) t r
    in let formed_up = or-of_nots s.old b d.up e.now d.now e.up
    in let formed_down = or-of_nots s.old b d.down (after e) (after d) e.down
    in (
      (λ x. ⊎_elim (λ y. inl (t.now.0 y)) (λ y. inr (r.now.0 y)) x, λ x. ⊎_elim (λ y. inl (t.now.1 y)) (λ y. inr (r.now.1 y)) x),
      (λ x. rises.0 (formed_up.0 x), λ x. formed_up.1 (rises.1 x)),
      (λ x. falls.0 (formed_down.0 x), λ x. formed_down.1 (falls.1 x)),
    )))
