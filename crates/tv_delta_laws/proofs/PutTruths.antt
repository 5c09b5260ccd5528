-- What the formula with arguments put in keeps of the plain one: truth, its free variables, its shape.
use Rattle.std.proofs.Common.{ℕ, ◌≡◌, ◌≢◌, ◌⊎◌, ◌↔◌, ◌∙◌, ◌+◌, arith, List, [], ◌∷◌, map, None, Some, inl}
use Rattle.std.proofs.Common.{inr, ⊎_elim, refl, sym, ap, subst, Contains}
use Rattle.std.specs.Prelude.{IfSome, option_map, option_and_then}
use Rattle.std.proofs.lemmas.Bool.{cases_eq, cond_both}
use Rattle.std.proofs.lemmas.List.{length-map}
use Rattle.tv_model.specs.Form.{Form, FZero, FOne, FAtom, FIsNew, FSame, FNot, FAnd, FOr, FIff, FCond}
use Rattle.tv_model.specs.Form.{FExists, FForall, FClosure, IsFree}
use Rattle.tv_model.specs.Heap.{Heap, Holds}
use Rattle.tv_model.specs.Truth.{Assignment, Truth, ClosureEdge, IsWalk, put}
use Rattle.tv_model.specs.Valid.{IsVariable, IsFormulaOver, NamesNew}
use Rattle.tv_model.proofs.Assignments.{put-same, put-other, All-values}
use Rattle.tv_model.proofs.Lists.{Contains-here, Contains-map_back, map-compose, map-agreed}
use Rattle.tv_delta_laws.specs.Laws.{PuttingInKeepsTruth}
use Rattle.tv_delta_laws.specs.Putting.{Arguments, argument_for, variables, Reserved, bound_number}
use Rattle.tv_delta_laws.specs.Putting.{under_bound, with_own, put_in, option_both}
use Rattle.tv_delta_laws.specs.Simple.{is_small, nodes}
use Rattle.tv_delta_laws.specs.Deltas.{small_put}
use Rattle.tv_delta_laws.proofs.Options.{if-mapped, if-bound, if-both, if-some}
use Rattle.tv_delta_laws.proofs.Puttings.{Serves, bound-serves, under-same, under-other}

-- b gives each free variable of the formula what a gives to its argument
abbrev pub Agrees : Form → Arguments → Assignment → Assignment → Type 0
Agrees f m a b = (x : ℕ) → IsFree x f → b x ≡ a (argument_for m x)

-- each free variable of g is the argument of a free variable of f
abbrev pub FreeBack : Form → Arguments → Form → Type 0
FreeBack f m g = (x : ℕ) → IsFree x g → (w : ℕ) × IsFree w f × (argument_for m w ≡ x)

-- no quantifier of the formula binds a picked variable, but maybe inside a closure
abbrev pub AvoidsPicks : List ℕ → Form → Type 0
AvoidsPicks picks FZero = Unit {0}
AvoidsPicks picks FOne = Unit {0}
AvoidsPicks picks (FAtom q vars) = Unit {0}
AvoidsPicks picks (FIsNew v) = Unit {0}
AvoidsPicks picks (FSame v w) = Unit {0}
AvoidsPicks picks (FNot f) = AvoidsPicks picks f
AvoidsPicks picks (FAnd f g) = AvoidsPicks picks f × AvoidsPicks picks g
AvoidsPicks picks (FOr f g) = AvoidsPicks picks f × AvoidsPicks picks g
AvoidsPicks picks (FIff f g) = AvoidsPicks picks f × AvoidsPicks picks g
AvoidsPicks picks (FCond c f g) = AvoidsPicks picks c × AvoidsPicks picks f × AvoidsPicks picks g
AvoidsPicks picks (FExists v f) = (¬ Contains picks v) × AvoidsPicks picks f
AvoidsPicks picks (FForall v f) = (¬ Contains picks v) × AvoidsPicks picks f
AvoidsPicks picks (FClosure from to left right f) = Unit {0}

-- g is f with the arguments m put in
pub record Keeps (r : Reserved) (f : Form) (m : Arguments) (g : Form) : Type 0 where
  pub truth : (h : Heap) (a b : Assignment) → Agrees f m a b → Truth h a g ↔ Truth h b f
  pub free : FreeBack f m g
  pub marks : NamesNew g → NamesNew f
  pub fits : (arities : List ℕ) → IsFormulaOver arities f → ((w : ℕ) → IsFree w f → IsVariable (argument_for m w))
      → IsFormulaOver arities g
  pub avoids : AvoidsPicks r.picks g
  pub size : nodes g ≡ nodes f

-- ---- two parts

two-free : (f g x y : Form) (m : Arguments) → FreeBack f m x → FreeBack g m y → (v : ℕ) → IsFree v x ⊎ IsFree v y
    → (w : ℕ) × (IsFree w f ⊎ IsFree w g) × (argument_for m w ≡ v)
two-free f g x y m one two v free =
    ⊎_elim (λ t. ((one v t).0, inl (one v t).1, (one v t).2)) (λ t. ((two v t).0, inr (two v t).1, (two v t).2)) free

two-marks : (P Q R S : Type 0) → (P → R) → (Q → S) → P ⊎ Q → R ⊎ S
two-marks P Q R S one two t = ⊎_elim (λ s. inl (one s)) (λ s. inr (two s)) t

two-fit : (f g x y : Form) (m : Arguments) (arities : List ℕ)
    → (IsFormulaOver arities f → ((w : ℕ) → IsFree w f → IsVariable (argument_for m w)) → IsFormulaOver arities x)
    → (IsFormulaOver arities g → ((w : ℕ) → IsFree w g → IsVariable (argument_for m w)) → IsFormulaOver arities y)
    → IsFormulaOver arities f × IsFormulaOver arities g
    → ((w : ℕ) → IsFree w f ⊎ IsFree w g → IsVariable (argument_for m w))
    → IsFormulaOver arities x × IsFormulaOver arities y
two-fit f g x y m arities one two is vars = (one is.0 (λ w t. vars w (inl t)), two is.1 (λ w t. vars w (inr t)))

-- ---- bound variables

-- under a bound variable the assignments still agree
under-agrees : (f : Form) (v w : ℕ) (m : Arguments) (a b : Assignment) (u : ℕ)
    → ((x : ℕ) → IsFree x f → x ≢ v → argument_for m x ≢ w)
    → ((x : ℕ) → IsFree x f → x ≢ v → b x ≡ a (argument_for m x))
    → Agrees f (under_bound m v w f) (put a w u) (put b v u)
under-agrees f v w m a b u apart agrees x free =
    ⊎_elim
    (λ e. put-same b v u x e ∙ sym (put-same a w u (argument_for (under_bound m v w f) x) (under-same m v w f x e)))
    (λ ne. put-other b v u x ne ∙ agrees x free ne ∙ sym (put-other a w u (argument_for m x) (apart x free ne))
    ∙ ap (λ y. put a w u y) (sym (under-other m v w f x free ne)))
    (cases_eq x v)

binder-free : (f g : Form) (v w : ℕ) (m : Arguments) → FreeBack f (under_bound m v w f) g → (x : ℕ)
    → (x ≢ w) × IsFree x g → (y : ℕ) × ((y ≢ v) × IsFree y f) × (argument_for m y ≡ x)
binder-free f g v w m back x free = go (back x free.1)
  where
    go : (y : ℕ) × IsFree y f × (argument_for (under_bound m v w f) y ≡ x)
        → (y : ℕ) × ((y ≢ v) × IsFree y f) × (argument_for m y ≡ x)
    go t =
        ⊎_elim (λ e. absurd (free.0 (sym t.2 ∙ under-same m v w f t.0 e)))
        (λ ne. (t.0, (ne, t.1), sym (under-other m v w f t.0 t.1 ne) ∙ t.2))
        (cases_eq t.0 v)

under-variable : (f : Form) (v w : ℕ) (m : Arguments) → IsVariable w
    → ((x : ℕ) → x ≢ v → IsFree x f → IsVariable (argument_for m x))
    → (x : ℕ) → IsFree x f → IsVariable (argument_for (under_bound m v w f) x)
under-variable f v w m new old x free =
    ⊎_elim (λ e. subst IsVariable (sym (under-same m v w f x e)) new)
    (λ ne. subst IsVariable (sym (under-other m v w f x free ne)) (old x ne free))
    (cases_eq x v)

-- the numbers of the two bound variables of a closure differ
bound-differ : (r : Reserved) (m : Arguments) (left right : ℕ) (f : Form) (l k : ℕ) → left ≢ right
    → Serves r m left (FExists right f) l → Serves (with_own r l) (under_bound m left l (FExists right f)) right f k → l ≢ k
bound-differ r m left right f l k differ one two e =
    ⊎_elim
    (λ kept. ⊎_elim
    (λ same. differ (sym same ∙ e ∙ kept))
    (λ new. let At : ℕ → Type 0 = λ x. Contains (right ∷ variables f) x
    in new.1 (subst At (sym (e ∙ kept)) (Contains-here right (variables f))))
    one.kept_or_new)
    (λ new. let At : ℕ → Type 0 = λ x. Contains (l ∷ r.own) x
    in new.0 (subst At e (Contains-here l r.own)))
    two.kept_or_new

-- ---- walks

walk-along : (R S : ℕ → ℕ → Type 0) → ((u w : ℕ) → R u w → S u w) → (u : ℕ) (stops : List ℕ) (w : ℕ)
    → IsWalk R u stops w → IsWalk S u stops w
walk-along R S along u [] w edge = along u w edge
walk-along R S along u (stop ∷ stops) w walk = (along u stop walk.0, walk-along R S along stop stops w walk.1)

-- walks with the same edges from and to the same individuals
walks-same : (R S : ℕ → ℕ → Type 0) → ((u w : ℕ) → R u w → S u w) → (u v x y : ℕ) → u ≡ x → v ≡ y
    → (stops : List ℕ) × IsWalk R u stops v → (stops : List ℕ) × IsWalk S x stops y
walks-same R S along u v x y begin end t =
    let From : ℕ → Type 0 = λ z. IsWalk S z t.0 y
    in let To : ℕ → Type 0 = λ z. IsWalk S u t.0 z
    in (t.0, subst From begin (subst To end (walk-along R S along u t.0 v t.1)))

-- ---- formulas

quantified : (r : Reserved) (f : Form) (m : Arguments) (v w : ℕ) (g : Form) → Serves r m v f w
    → Keeps r f (under_bound m v w f) g → (h : Heap) (a b : Assignment)
    → ((x : ℕ) → (x ≢ v) × IsFree x f → b x ≡ a (argument_for m x))
    → (u : ℕ) → Truth h (put a w u) g ↔ Truth h (put b v u) f
quantified r f m v w g s k h a b agrees u =
    k.truth h (put a w u) (put b v u)
    (under-agrees f v w m a b u s.captures_none (λ x free ne. agrees x (ne, free)))

-- what is put for the variables of a closure
closed : (r : Reserved) (f : Form) (m : Arguments) (from to left right l k : ℕ) (g : Form)
    → Serves r m left (FExists right f) l → Serves (with_own r l) (under_bound m left l (FExists right f)) right f k
    → Keeps r f (under_bound (under_bound m left l (FExists right f)) right k f) g
    → Keeps r (FClosure from to left right f) m (FClosure (argument_for m from) (argument_for m to) l k g)
closed r f m from to left right l k g one two is = record {
  truth = λ h a b agrees.
      let R : ℕ → ℕ → Type 0 = ClosureEdge h a l k g
      in let S : ℕ → ℕ → Type 0 = ClosureEdge h b left right f
      in let each : (u w : ℕ) → Truth h (put (put a l u) k w) g ↔ Truth h (put (put b left u) right w) f
      = λ u w. is.truth h (put (put a l u) k w) (put (put b left u) right w)
      (under-agrees f right k (under_bound m left l (FExists right f)) (put a l u) (put b left u) w two.captures_none
      (λ x free ne. under-agrees (FExists right f) left l m a b u one.captures_none
      (λ y its other. agrees y (inr (inr (other, its.0, its.1)))) x (ne, free)))
      in let begin : b from ≡ a (argument_for m from) = agrees from (inl refl)
      in let end : b to ≡ a (argument_for m to) = agrees to (inr (inl refl))
      in (
        λ t. walks-same R S (λ u w e. (e.0, e.1, (each u w).0 e.2)) (a (argument_for m from)) (a (argument_for m to))
            (b from) (b to) (sym begin) (sym end) t,
        λ t. walks-same S R (λ u w e. (e.0, e.1, (each u w).1 e.2)) (b from) (b to) (a (argument_for m from))
            (a (argument_for m to)) begin end t,
      );
  free = λ x free. free_back x free;
  marks = is.marks;
  fits = λ arities fit vars.
      let l_variable : IsVariable l = one.variable fit.2
      in (
        vars from (inl refl),
        vars to (inr (inl refl)),
        l_variable,
        two.variable fit.3,
        bound-differ r m left right f l k fit.4 one two,
        is.fits arities fit.5
            (under-variable f right k (under_bound m left l (FExists right f)) (two.variable fit.3)
            (λ x ne free. under-variable (FExists right f) left l m l_variable
            (λ y other its. vars y (inr (inr (other, its.0, its.1)))) x (ne, free))),
      );
  avoids = tt;
  size = ap (λ n. n + 1) is.size;
}
  where
    inner : (x : ℕ) → (x ≢ l) × ((x ≢ k) × IsFree x g)
        → (y : ℕ) × ((y ≢ left) × ((y ≢ right) × IsFree y f)) × (argument_for m y ≡ x)
    inner x free =
        binder-free (FExists right f) (FExists k g) left l m
        (λ z its. binder-free f g right k (under_bound m left l (FExists right f)) is.free z its) x free

    free_back : FreeBack (FClosure from to left right f) m (FClosure (argument_for m from) (argument_for m to) l k g)
    free_back x (inl e) = (from, inl refl, sym e)
    free_back x (inr (inl e)) = (to, inr (inl refl), sym e)
    free_back x (inr (inr t)) =
        let back : (y : ℕ) × ((y ≢ left) × ((y ≢ right) × IsFree y f)) × (argument_for m y ≡ x)
        = inner x (t.0, (t.1, t.2))
        in (back.0, inr (inr (back.1.0, back.1.1.0, back.1.1.1)), back.2)

-- the formula with the arguments keeps what has to be kept
pub put-keeps : (r : Reserved) (f : Form) (m : Arguments) → IfSome (put_in r f m) (Keeps r f m)
put-keeps r FZero m = record {
  truth = λ h a b agrees. (λ t. t, λ t. t);
  free = λ x t. absurd t;
  marks = λ t. t;
  fits = λ arities is vars. tt;
  avoids = tt;
  size = refl;
}
put-keeps r FOne m = record {
  truth = λ h a b agrees. (λ t. t, λ t. t);
  free = λ x t. absurd t;
  marks = λ t. t;
  fits = λ arities is vars. tt;
  avoids = tt;
  size = refl;
}
put-keeps r (FAtom q vars) m = record {
  truth = λ h a b agrees.
      let same : map a (map (argument_for m) vars) ≡ map b vars
      = map-compose (argument_for m) a vars ∙ sym (map-agreed b (λ x. a (argument_for m x)) vars agrees)
      in (λ t. subst (Holds h q) same t, λ t. subst (Holds h q) (sym same) t);
  free = λ x at. Contains-map_back (argument_for m) vars x at;
  marks = λ t. t;
  fits = λ arities is all. (
    is.0 ∙ ap (λ n. Some n) (sym (length-map vars (argument_for m))),
    All-values IsVariable (argument_for m) vars all,
  );
  avoids = tt;
  size = refl;
}
put-keeps r (FIsNew v) m = record {
  truth = λ h a b agrees.
      let same : b v ≡ a (argument_for m v) = agrees v refl
      in (λ t. t ∙ ap (λ x. Some x) (sym same), λ t. t ∙ ap (λ x. Some x) same);
  free = λ x e. (v, refl, sym e);
  marks = λ t. tt;
  fits = λ arities is vars. vars v refl;
  avoids = tt;
  size = refl;
}
put-keeps r (FSame v w) m = record {
  truth = λ h a b agrees.
      let one : b v ≡ a (argument_for m v) = agrees v (inl refl)
      in let two : b w ≡ a (argument_for m w) = agrees w (inr refl)
      in (λ t. one ∙ t ∙ sym two, λ t. sym one ∙ t ∙ two);
  free = λ x free. ⊎_elim (λ e. (v, inl refl, sym e)) (λ e. (w, inr refl, sym e)) free;
  marks = λ t. t;
  fits = λ arities is vars. (vars v (inl refl), vars w (inr refl));
  avoids = tt;
  size = refl;
}
put-keeps r (FNot f) m =
    if-mapped (Keeps r f m) (Keeps r (FNot f) m) (λ g. FNot g) (put_in r f m) (put-keeps r f m)
    (λ g k. record {
      truth = λ h a b agrees. (λ t s. t ((k.truth h a b agrees).1 s), λ t s. t ((k.truth h a b agrees).0 s));
      free = k.free;
      marks = k.marks;
      fits = k.fits;
      avoids = k.avoids;
      size = ap (λ n. n + 1) k.size;
    })
put-keeps r (FAnd f g) m =
    if-both (Keeps r f m) (Keeps r g m) (Keeps r (FAnd f g) m) (λ x y. FAnd x y) (put_in r f m) (put_in r g m)
    (put-keeps r f m) (put-keeps r g m)
    (λ x y k l. record {
      truth = λ h a b agrees.
          let one : Truth h a x ↔ Truth h b f = k.truth h a b (λ v t. agrees v (inl t))
          in let two : Truth h a y ↔ Truth h b g = l.truth h a b (λ v t. agrees v (inr t))
          in (λ t. (one.0 t.0, two.0 t.1), λ t. (one.1 t.0, two.1 t.1));
      free = two-free f g x y m k.free l.free;
      marks = two-marks (NamesNew x) (NamesNew y) (NamesNew f) (NamesNew g) k.marks l.marks;
      fits = λ arities. two-fit f g x y m arities (k.fits arities) (l.fits arities);
      avoids = (k.avoids, l.avoids);
      size = omega (arith, k.size, l.size);
    })
put-keeps r (FOr f g) m =
    if-both (Keeps r f m) (Keeps r g m) (Keeps r (FOr f g) m) (λ x y. FOr x y) (put_in r f m) (put_in r g m)
    (put-keeps r f m) (put-keeps r g m)
    (λ x y k l. record {
      truth = λ h a b agrees.
          let one : Truth h a x ↔ Truth h b f = k.truth h a b (λ v t. agrees v (inl t))
          in let two : Truth h a y ↔ Truth h b g = l.truth h a b (λ v t. agrees v (inr t))
          in (
            λ t. two-marks (Truth h a x) (Truth h a y) (Truth h b f) (Truth h b g) one.0 two.0 t,
            λ t. two-marks (Truth h b f) (Truth h b g) (Truth h a x) (Truth h a y) one.1 two.1 t,
          );
      free = two-free f g x y m k.free l.free;
      marks = two-marks (NamesNew x) (NamesNew y) (NamesNew f) (NamesNew g) k.marks l.marks;
      fits = λ arities. two-fit f g x y m arities (k.fits arities) (l.fits arities);
      avoids = (k.avoids, l.avoids);
      size = omega (arith, k.size, l.size);
    })
put-keeps r (FIff f g) m =
    if-both (Keeps r f m) (Keeps r g m) (Keeps r (FIff f g) m) (λ x y. FIff x y) (put_in r f m) (put_in r g m)
    (put-keeps r f m) (put-keeps r g m)
    (λ x y k l. record {
      truth = λ h a b agrees.
          let one : Truth h a x ↔ Truth h b f = k.truth h a b (λ v t. agrees v (inl t))
          in let two : Truth h a y ↔ Truth h b g = l.truth h a b (λ v t. agrees v (inr t))
          in (
            λ t. (λ s. two.0 (t.0 (one.1 s)), λ s. one.0 (t.1 (two.1 s))),
            λ t. (λ s. two.1 (t.0 (one.0 s)), λ s. one.1 (t.1 (two.0 s))),
          );
      free = two-free f g x y m k.free l.free;
      marks = two-marks (NamesNew x) (NamesNew y) (NamesNew f) (NamesNew g) k.marks l.marks;
      fits = λ arities. two-fit f g x y m arities (k.fits arities) (l.fits arities);
      avoids = (k.avoids, l.avoids);
      size = omega (arith, k.size, l.size);
    })
put-keeps r (FCond c f g) m =
    if-bound (Keeps r c m) (Keeps r (FCond c f g) m)
    (λ z. option_both (λ x y. FCond z x y) (put_in r f m) (put_in r g m)) (put_in r c m) (put-keeps r c m)
    (λ z j. if-both (Keeps r f m) (Keeps r g m) (Keeps r (FCond c f g) m) (λ x y. FCond z x y)
    (put_in r f m) (put_in r g m) (put-keeps r f m) (put-keeps r g m)
    (λ x y k l. record {
      truth = λ h a b agrees.
          let guard : Truth h a z ↔ Truth h b c = j.truth h a b (λ v t. agrees v (inl t))
          in let one : Truth h a x ↔ Truth h b f = k.truth h a b (λ v t. agrees v (inr (inl t)))
          in let two : Truth h a y ↔ Truth h b g = l.truth h a b (λ v t. agrees v (inr (inr t)))
          in (
            λ t. ⊎_elim (λ s. inl (guard.0 s.0, one.0 s.1)) (λ s. inr ((λ d. s.0 (guard.1 d)), two.0 s.1)) t,
            λ t. ⊎_elim (λ s. inl (guard.1 s.0, one.1 s.1)) (λ s. inr ((λ d. s.0 (guard.0 d)), two.1 s.1)) t,
          );
      free = λ v free. ⊎_elim
          (λ t. ((j.free v t).0, inl (j.free v t).1, (j.free v t).2))
          (λ t. let rest : (w : ℕ) × (IsFree w f ⊎ IsFree w g) × (argument_for m w ≡ v)
          = two-free f g x y m k.free l.free v t
          in (rest.0, inr rest.1, rest.2))
          free;
      marks = λ t. ⊎_elim (λ s. inl (j.marks s))
          (λ s. inr (two-marks (NamesNew x) (NamesNew y) (NamesNew f) (NamesNew g) k.marks l.marks s)) t;
      fits = λ arities is vars. (
        j.fits arities is.0 (λ w t. vars w (inl t)),
        k.fits arities is.1 (λ w t. vars w (inr (inl t))),
        l.fits arities is.2 (λ w t. vars w (inr (inr t))),
      );
      avoids = (j.avoids, k.avoids, l.avoids);
      size = omega (arith, j.size, k.size, l.size);
    }))
put-keeps r (FExists v f) m =
    if-bound (Serves r m v f) (Keeps r (FExists v f) m)
    (λ w. option_map (λ g. FExists w g) (put_in r f (under_bound m v w f))) (bound_number r m v f) (bound-serves r m v f)
    (λ w s. if-mapped (Keeps r f (under_bound m v w f)) (Keeps r (FExists v f) m) (λ g. FExists w g)
    (put_in r f (under_bound m v w f)) (put-keeps r f (under_bound m v w f))
    (λ g k. record {
      truth = λ h a b agrees.
          let each : (u : ℕ) → Truth h (put a w u) g ↔ Truth h (put b v u) f = quantified r f m v w g s k h a b agrees
          in (λ t. (t.0, t.1, (each t.0).0 t.2), λ t. (t.0, t.1, (each t.0).1 t.2));
      free = binder-free f g v w m k.free;
      marks = k.marks;
      fits = λ arities is vars. (
        s.variable is.0,
        k.fits arities is.1 (under-variable f v w m (s.variable is.0) (λ x ne free. vars x (ne, free))),
      );
      avoids = (s.not_picked, k.avoids);
      size = ap (λ n. n + 1) k.size;
    }))
put-keeps r (FForall v f) m =
    if-bound (Serves r m v f) (Keeps r (FForall v f) m)
    (λ w. option_map (λ g. FForall w g) (put_in r f (under_bound m v w f))) (bound_number r m v f) (bound-serves r m v f)
    (λ w s. if-mapped (Keeps r f (under_bound m v w f)) (Keeps r (FForall v f) m) (λ g. FForall w g)
    (put_in r f (under_bound m v w f)) (put-keeps r f (under_bound m v w f))
    (λ g k. record {
      truth = λ h a b agrees.
          let each : (u : ℕ) → Truth h (put a w u) g ↔ Truth h (put b v u) f = quantified r f m v w g s k h a b agrees
          in (λ t u at. (each u).0 (t u at), λ t u at. (each u).1 (t u at));
      free = binder-free f g v w m k.free;
      marks = k.marks;
      fits = λ arities is vars. (
        s.variable is.0,
        k.fits arities is.1 (under-variable f v w m (s.variable is.0) (λ x ne free. vars x (ne, free))),
      );
      avoids = (s.not_picked, k.avoids);
      size = ap (λ n. n + 1) k.size;
    }))
put-keeps r (FClosure from to left right f) m =
    if-bound (Serves r m left (FExists right f)) (Keeps r (FClosure from to left right f) m)
    (λ l. option_and_then (λ k. option_map (λ g. FClosure (argument_for m from) (argument_for m to) l k g)
    (put_in r f (under_bound (under_bound m left l (FExists right f)) right k f)))
    (bound_number (with_own r l) (under_bound m left l (FExists right f)) right f))
    (bound_number r m left (FExists right f)) (bound-serves r m left (FExists right f))
    (λ l one. if-bound (Serves (with_own r l) (under_bound m left l (FExists right f)) right f) (Keeps r (FClosure from to left right f) m)
    (λ k. option_map (λ g. FClosure (argument_for m from) (argument_for m to) l k g)
    (put_in r f (under_bound (under_bound m left l (FExists right f)) right k f)))
    (bound_number (with_own r l) (under_bound m left l (FExists right f)) right f) (bound-serves (with_own r l) (under_bound m left l (FExists right f)) right f)
    (λ k two. if-mapped (Keeps r f (under_bound (under_bound m left l (FExists right f)) right k f)) (Keeps r (FClosure from to left right f) m)
    (λ g. FClosure (argument_for m from) (argument_for m to) l k g)
    (put_in r f (under_bound (under_bound m left l (FExists right f)) right k f))
    (put-keeps r f (under_bound (under_bound m left l (FExists right f)) right k f))
    (λ g is. closed r f m from to left right l k g one two is)))

pub small-put_keeps : (r : Reserved) (f : Form) (m : Arguments) → IfSome (small_put r f m) (Keeps r f m)
small-put_keeps r f m =
    cond_both (is_small f) (put_in r f m) None (λ o. IfSome o (Keeps r f m)) (λ e. put-keeps r f m) (λ e. tt)

-- what is put in is kept
pub put-kept : (r : Reserved) (f : Form) (m : Arguments) (g : Form) → put_in r f m ≡ Some g → Keeps r f m g
put-kept r f m g e = if-some (Keeps r f m) (put_in r f m) g (put-keeps r f m) e

pub putting_in_keeps_truth : PuttingInKeepsTruth
putting_in_keeps_truth r f g m e h a b agrees = (put-kept r f m g e).truth h a b agrees
