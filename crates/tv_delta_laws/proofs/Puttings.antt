-- Putting arguments in: what bound variables may be called, and what the formula with the arguments keeps of
-- the plain one.
use Rattle.std.proofs.Common.{ℕ, ◌≡◌, ◌≢◌, ◌<◌, ◌⊎◌, ◌∙◌, Bool, true, false, not, [], ◌∷◌, ◌++◌, filter}
use Rattle.std.proofs.Common.{Option, Some, None, inl, inr, ⊎_elim, refl, sym, ap, subst, cond, eqb, eq-eqb}
use Rattle.std.proofs.Common.{ne_eqb, Contains}
use Rattle.std.specs.Prelude.{◌||◌, ◌&&◌, IfSome}
use Rattle.std.proofs.lemmas.Bool.{false≢true, or_parts, and_from, and_left, not_from_false, not_from_true}
use Rattle.std.proofs.lemmas.Bool.{eqb-true, cond-true, cond-false, or_left, or_right}
use Rattle.std.proofs.lemmas.List.Elements.{Contains-append_left, Contains-append_right}
use Rattle.tv_model.specs.Form.{Form, FZero, FOne, FAtom, FIsNew, FSame, FNot, FAnd, FOr, FIff, FCond}
use Rattle.tv_model.specs.Form.{FExists, FForall, FClosure, IsFree}
use Rattle.tv_model.specs.Valid.{IsVariable}
use Rattle.tv_model.proofs.Lists.{Contains-here, Contains-there}
use Rattle.tv_model.specs.Free.{is_free}
use Rattle.tv_model.proofs.FreeTests.{from-free}
use Rattle.tv_delta_laws.specs.Putting.{has, least_slot, variables, Arguments, argument_for}
use Rattle.tv_delta_laws.specs.Putting.{arguments_of, Reserved, under, bound_number, under_bound}
use Rattle.tv_delta_laws.proofs.Options.{has-from, has-not, least-slot_free}

two-stand : (v : ℕ) (f g : Form) → Contains (variables f) v ⊎ Contains (variables g) v
    → Contains (variables f ++ variables g) v
two-stand v f g at =
    ⊎_elim (λ t. Contains-append_left (variables f) (variables g) v t)
    (λ t. Contains-append_right (variables f) (variables g) v t) at

pub free-stands : (v : ℕ) (f : Form) → IsFree v f → Contains (variables f) v
free-stands v FZero free = absurd free
free-stands v FOne free = absurd free
free-stands v (FAtom q vars) free = free
free-stands v (FIsNew w) free = let At : ℕ → Type 0 = λ x. Contains (w ∷ []) x in subst At (sym free) (Contains-here w [])
free-stands v (FSame w u) free =
    let At : ℕ → Type 0 = λ x. Contains (w ∷ u ∷ []) x
    in ⊎_elim (λ e. subst At (sym e) (Contains-here w (u ∷ [])))
    (λ e. subst At (sym e) (Contains-there w u (u ∷ []) (Contains-here u []))) free
free-stands v (FNot f) free = free-stands v f free
free-stands v (FAnd f g) free = two-stand v f g (⊎_elim (λ t. inl (free-stands v f t)) (λ t. inr (free-stands v g t)) free)
free-stands v (FOr f g) free = two-stand v f g (⊎_elim (λ t. inl (free-stands v f t)) (λ t. inr (free-stands v g t)) free)
free-stands v (FIff f g) free = two-stand v f g (⊎_elim (λ t. inl (free-stands v f t)) (λ t. inr (free-stands v g t)) free)
free-stands v (FCond c f g) free =
    ⊎_elim (λ t. Contains-append_left (variables c) (variables f ++ variables g) v (free-stands v c t))
    (λ t. Contains-append_right (variables c) (variables f ++ variables g) v
    (two-stand v f g (⊎_elim (λ s. inl (free-stands v f s)) (λ s. inr (free-stands v g s)) t))) free
free-stands v (FExists w f) free = Contains-there w v (variables f) (free-stands v f free.1)
free-stands v (FForall w f) free = Contains-there w v (variables f) (free-stands v f free.1)
free-stands v (FClosure from to left right f) free =
    let At : ℕ → Type 0 = λ x. Contains (from ∷ to ∷ left ∷ right ∷ variables f) x
    in ⊎_elim (λ e. subst At (sym e) (Contains-here from (to ∷ left ∷ right ∷ variables f)))
    (λ t. Contains-there from v (to ∷ left ∷ right ∷ variables f)
    (⊎_elim (λ e. let In : ℕ → Type 0 = λ x. Contains (to ∷ left ∷ right ∷ variables f) x
    in subst In (sym e) (Contains-here to (left ∷ right ∷ variables f)))
    (λ s. Contains-there to v (left ∷ right ∷ variables f)
    (Contains-there left v (right ∷ variables f) (Contains-there right v (variables f) (free-stands v f s.2)))) t)) free

-- ---- arguments

-- what is put for a variable is one of the arguments, or the variable itself
pub argument-cases : (m : Arguments) (x : ℕ) → Contains (arguments_of m) (argument_for m x) ⊎ (argument_for m x ≡ x)
argument-cases [] x = inr refl
argument-cases (e ∷ m) x = go (eqb e.0 x) (argument-cases m x)
  where
    go : (b : Bool) → Contains (arguments_of m) (argument_for m x) ⊎ (argument_for m x ≡ x)
        → Contains (e.1 ∷ arguments_of m) (cond b e.1 (argument_for m x)) ⊎ (cond b e.1 (argument_for m x) ≡ x)
    go true later = inl (Contains-here e.1 (arguments_of m))
    go false later =
        ⊎_elim (λ at. inl (Contains-there e.1 (argument_for m x) (arguments_of m) at)) (λ same. inr same) later

-- a filter of variables keeps the arguments of those that pass
filtered-argument : (keep : ℕ → Bool) (m : Arguments) (x : ℕ) → keep x ≡ true
    → argument_for (filter (λ e. keep e.0) m) x ≡ argument_for m x
filtered-argument keep [] x kept = refl
filtered-argument keep (e ∷ m) x kept = go (keep e.0) refl (filtered-argument keep m x kept)
  where
    go : (b : Bool) → keep e.0 ≡ b → argument_for (filter (λ e. keep e.0) m) x ≡ argument_for m x
        → argument_for (cond b (e ∷ filter (λ e. keep e.0) m) (filter (λ e. keep e.0) m)) x
        ≡ cond (eqb e.0 x) e.1 (argument_for m x)
    go true same later = ap (λ y. cond (eqb e.0 x) e.1 y) later
    go false same later =
        let At : ℕ → Type 0 = λ y. keep y ≡ true
        in later ∙ sym (cond-false (eqb e.0 x) e.1 (argument_for m x)
        (ne_eqb e.0 x (λ is. false≢true (sym same ∙ subst At (sym is) kept))))

-- and puts nothing for the others
filtered-nothing : (keep : ℕ → Bool) (m : Arguments) (x : ℕ) → keep x ≡ false
    → argument_for (filter (λ e. keep e.0) m) x ≡ x
filtered-nothing keep [] x fails = refl
filtered-nothing keep (e ∷ m) x fails = go (keep e.0) refl (filtered-nothing keep m x fails)
  where
    go : (b : Bool) → keep e.0 ≡ b → argument_for (filter (λ e. keep e.0) m) x ≡ x
        → argument_for (cond b (e ∷ filter (λ e. keep e.0) m) (filter (λ e. keep e.0) m)) x ≡ x
    go true same later =
        let At : ℕ → Type 0 = λ y. keep y ≡ false
        in cond-false (eqb e.0 x) e.1 (argument_for (filter (λ e. keep e.0) m) x)
        (ne_eqb e.0 x (λ is. false≢true (sym (subst At (sym is) fails) ∙ same))) ∙ later
    go false same later = later

free-under : (x v : ℕ) (f : Form) → IsFree x f → x ≢ v → is_free x (FExists v f) ≡ true
free-under x v f free ne = from-free x (FExists v f) (ne, free)

pub under-same : (m : Arguments) (v w : ℕ) (f : Form) (x : ℕ) → x ≡ v → argument_for (under_bound m v w f) x ≡ w
under-same m v w f x e = go (eqb w v) refl
  where
    unbound : is_free v (FExists v f) ≡ false
    unbound = and_left (not (eqb v v)) (is_free v f) (not_from_true (eqb v v) (eq-eqb v v refl))

    go : (b : Bool) → eqb w v ≡ b → argument_for (cond b (under m v f) ((v, w) ∷ under m v f)) x ≡ w
    go true same =
        let At : ℕ → Type 0 = λ y. argument_for (under m v f) y ≡ w
        in subst At (sym e)
        (filtered-nothing (λ y. is_free y (FExists v f)) m v unbound ∙ sym (eqb-true w v same))
    go false other = cond-true (eqb v x) w (argument_for (under m v f) x) (eq-eqb v x (sym e))

pub under-other : (m : Arguments) (v w : ℕ) (f : Form) (x : ℕ) → IsFree x f → x ≢ v
    → argument_for (under_bound m v w f) x ≡ argument_for m x
under-other m v w f x free ne = go (eqb w v)
  where
    kept : argument_for (under m v f) x ≡ argument_for m x
    kept = filtered-argument (λ y. is_free y (FExists v f)) m x (free-under x v f free ne)

    go : (b : Bool) → argument_for (cond b (under m v f) ((v, w) ∷ under m v f)) x ≡ argument_for m x
    go true = kept
    go false = cond-false (eqb v x) w (argument_for (under m v f) x) (ne_eqb v x (λ e. ne (sym e))) ∙ kept

-- where v is none of the arguments that are left under it, it captures none
pub captures-none : (m : Arguments) (v : ℕ) (f : Form) (x : ℕ) → (¬ Contains (arguments_of (under m v f)) v)
    → IsFree x f → x ≢ v → argument_for m x ≢ v
captures-none m v f x apart free ne = λ is.
    let kept : argument_for (under m v f) x ≡ argument_for m x
    = filtered-argument (λ y. is_free y (FExists v f)) m x (free-under x v f free ne)
    in ⊎_elim
    (λ at. let At : ℕ → Type 0 = λ y. Contains (arguments_of (under m v f)) y in apart (subst At (kept ∙ is) at))
    (λ same. ne (sym same ∙ kept ∙ is))
    (argument-cases (under m v f) x)

-- a number that is no argument and isn't in the formula is put for none of its free variables
pub outside-arguments : (m : Arguments) (s : ℕ) (f : Form) (x : ℕ) → (¬ Contains (arguments_of m) s)
    → (¬ Contains (variables f) s) → IsFree x f → argument_for m x ≢ s
outside-arguments m s f x no_argument absent free = λ is.
    ⊎_elim
    (λ at. let At : ℕ → Type 0 = λ y. Contains (arguments_of m) y in no_argument (subst At is at))
    (λ same. let At : ℕ → Type 0 = λ y. Contains (variables f) y
    in absent (subst At (sym same ∙ is) (free-stands x f free)))
    (argument-cases m x)

-- ---- bound variables

-- the number w serves the variable v, bound over f
pub record Serves (r : Reserved) (m : Arguments) (v : ℕ) (f : Form) (w : ℕ) : Type 0 where
  pub not_picked : ¬ Contains r.picks w
  pub captures_none : (x : ℕ) → IsFree x f → x ≢ v → argument_for m x ≢ w
  pub variable : IsVariable v → IsVariable w
  pub kept_or_new : (w ≡ v) ⊎ ((¬ Contains r.own w) × (¬ Contains (variables f) w))

pub bound-serves : (r : Reserved) (m : Arguments) (v : ℕ) (f : Form) → IfSome (bound_number r m v f) (Serves r m v f)
bound-serves r m v f = go (has r.picks v || has (arguments_of (under m v f)) v) refl
  where
    by_slot : (o : Option ℕ) → least_slot (r.picks ++ (r.own ++ (arguments_of m ++ variables f))) ≡ o
        → IfSome o (Serves r m v f)
    by_slot None e = tt
    by_slot (Some s) e =
        let free : (¬ Contains (r.picks ++ (r.own ++ (arguments_of m ++ variables f))) s) × (s < 32)
        = least-slot_free (r.picks ++ (r.own ++ (arguments_of m ++ variables f))) s e
        in let no_argument : ¬ Contains (arguments_of m) s
        = λ at. free.0 (Contains-append_right r.picks (r.own ++ (arguments_of m ++ variables f)) s
        (Contains-append_right r.own (arguments_of m ++ variables f) s
        (Contains-append_left (arguments_of m) (variables f) s at)))
        in let not_own : ¬ Contains r.own s
        = λ at. free.0 (Contains-append_right r.picks (r.own ++ (arguments_of m ++ variables f)) s
        (Contains-append_left r.own (arguments_of m ++ variables f) s at))
        in let absent : ¬ Contains (variables f) s
        = λ at. free.0 (Contains-append_right r.picks (r.own ++ (arguments_of m ++ variables f)) s
        (Contains-append_right r.own (arguments_of m ++ variables f) s
        (Contains-append_right (arguments_of m) (variables f) s at)))
        in record {
          not_picked = λ at. free.0 (Contains-append_left r.picks (r.own ++ (arguments_of m ++ variables f)) s at);
          captures_none = λ x is ne. outside-arguments m s f x no_argument absent is;
          variable = λ is. free.1;
          kept_or_new = inr (not_own, absent);
        }

    go : (b : Bool) → (has r.picks v || has (arguments_of (under m v f)) v) ≡ b
        → IfSome (cond b (least_slot (r.picks ++ (r.own ++ (arguments_of m ++ variables f)))) (Some v)) (Serves r m v f)
    go true e = by_slot (least_slot (r.picks ++ (r.own ++ (arguments_of m ++ variables f)))) refl
    go false e = record {
      not_picked = has-not r.picks v (or_parts (has r.picks v) (has (arguments_of (under m v f)) v) e).0;
      captures_none = λ x is ne. captures-none m v f x
          (has-not (arguments_of (under m v f)) v (or_parts (has r.picks v) (has (arguments_of (under m v f)) v) e).1) is ne;
      variable = λ is. is;
      kept_or_new = inl refl;
    }
