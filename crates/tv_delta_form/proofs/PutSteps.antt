-- Arguments are put in part by part.
use Rattle.std.proofs.Common.{ℕ, ◌≡◌, ◌∙◌, Option, Some, None, refl, sym, ap}
use Rattle.std.specs.Prelude.{option_map, option_and_then}
use Rattle.tv_model.specs.Form.{Form, FExists, FForall, FClosure}
use Rattle.tv_delta_laws.specs.Putting.{Arguments, Reserved, put_in, bound_number, under_bound, with_own}
use Rattle.tv_delta_laws.specs.Putting.{argument_for}
use Rattle.tv_delta_form.specs.declared.stop.Stop.{Stop}
use Rattle.tv_delta_form.specs.Views.{StopsUnformed, bind}
use Rattle.tv_delta_form.proofs.Steps.{map_fails, then_fails, then_fails_inside, first_fails, second_fails}

some-pair : (x y : ℕ × Arguments) → Some x ≡ Some y → (x.0 ≡ y.0) × (x.1 ≡ y.1)
some-pair x y e =
    let both : x ≡ y = cc e
    in (ap (λ (z : ℕ × Arguments). z.0) both, ap (λ (z : ℕ × Arguments). z.1) both)

-- ---- quantifiers

-- either quantifier, with its variable and what stands under it
module _ (quantified : ℕ → Form → Form) (r : Reserved) (m : Arguments) (v : ℕ) (f : Form) where
  put-at : (n : Arguments) (w : ℕ) (g : Form) → put_in r f n ≡ Some g → (o : Option ℕ)
      → option_map {U = ℕ × Arguments} (λ u. (u, under_bound m v u f)) o ≡ Some (w, n)
      → option_and_then (λ u. option_map (λ x. quantified u x) (put_in r f (under_bound m v u f))) o ≡ Some (quantified w g)
  put-at n w g put None e = absurd (cc e)
  put-at n w g put (Some u) e =
      let number : u ≡ w = (some-pair (u, under_bound m v u f) (w, n) e).0
      in let args : under_bound m v u f ≡ n = (some-pair (u, under_bound m v u f) (w, n) e).1
      in let inner : put_in r f (under_bound m v u f) ≡ Some g = ap (put_in r f) args ∙ put
      in ap (option_map (λ x. quantified u x)) inner ∙ ap (λ k. Some (quantified k g)) number

  fails-at : (o : Option ℕ) → option_map {U = ℕ × Arguments} (λ u. (u, under_bound m v u f)) o ≡ None
      → option_and_then (λ u. option_map (λ x. quantified u x) (put_in r f (under_bound m v u f))) o ≡ None
  fails-at None e = refl
  fails-at (Some u) e = absurd (cc e)

  fails-inside-at : (n : Arguments) (w : ℕ) → put_in r f n ≡ None → (o : Option ℕ)
      → option_map {U = ℕ × Arguments} (λ u. (u, under_bound m v u f)) o ≡ Some (w, n)
      → option_and_then (λ u. option_map (λ x. quantified u x) (put_in r f (under_bound m v u f))) o ≡ None
  fails-inside-at n w none None e = absurd (cc e)
  fails-inside-at n w none (Some u) e =
      let args : under_bound m v u f ≡ n = (some-pair (u, under_bound m v u f) (w, n) e).1
      in ap (option_map (λ x. quantified u x)) (ap (put_in r f) args ∙ none)

pub exists_put : (r : Reserved) (m n : Arguments) (v w : ℕ) (f g : Form) → bind r m v f ≡ Some (w, n)
    → put_in r f n ≡ Some g → put_in r (FExists v f) m ≡ Some (FExists w g)
exists_put r m n v w f g bound put = put-at (λ u x. FExists u x) r m v f n w g put (bound_number r m v f) bound

pub exists_fails : (e : Stop) (r : Reserved) (m : Arguments) (v : ℕ) (f : Form) → StopsUnformed e (bind r m v f)
    → StopsUnformed e (put_in r (FExists v f) m)
exists_fails e r m v f fails =
    record { none = λ it. fails-at (λ u x. FExists u x) r m v f (bound_number r m v f) (fails.none it) }

pub exists_fails_inside : (e : Stop) (r : Reserved) (m n : Arguments) (v w : ℕ) (f : Form) → bind r m v f ≡ Some (w, n)
    → StopsUnformed e (put_in r f n) → StopsUnformed e (put_in r (FExists v f) m)
exists_fails_inside e r m n v w f bound fails =
    record { none = λ it. fails-inside-at (λ u x. FExists u x) r m v f n w (fails.none it) (bound_number r m v f) bound }

pub forall_put : (r : Reserved) (m n : Arguments) (v w : ℕ) (f g : Form) → bind r m v f ≡ Some (w, n)
    → put_in r f n ≡ Some g → put_in r (FForall v f) m ≡ Some (FForall w g)
forall_put r m n v w f g bound put = put-at (λ u x. FForall u x) r m v f n w g put (bound_number r m v f) bound

pub forall_fails : (e : Stop) (r : Reserved) (m : Arguments) (v : ℕ) (f : Form) → StopsUnformed e (bind r m v f)
    → StopsUnformed e (put_in r (FForall v f) m)
forall_fails e r m v f fails =
    record { none = λ it. fails-at (λ u x. FForall u x) r m v f (bound_number r m v f) (fails.none it) }

pub forall_fails_inside : (e : Stop) (r : Reserved) (m n : Arguments) (v w : ℕ) (f : Form) → bind r m v f ≡ Some (w, n)
    → StopsUnformed e (put_in r f n) → StopsUnformed e (put_in r (FForall v f) m)
forall_fails_inside e r m n v w f bound fails =
    record { none = λ it. fails-inside-at (λ u x. FForall u x) r m v f n w (fails.none it) (bound_number r m v f) bound }

-- ---- closures

pub bound-some : (r : Reserved) (m n : Arguments) (v w : ℕ) (f : Form) → bind r m v f ≡ Some (w, n)
    → (bound_number r m v f ≡ Some w) × (under_bound m v w f ≡ n)
bound-some r m n v w f e = go (bound_number r m v f) e
  where
    go : (o : Option ℕ) → option_map {U = ℕ × Arguments} (λ u. (u, under_bound m v u f)) o ≡ Some (w, n)
        → (o ≡ Some w) × (under_bound m v w f ≡ n)
    go None e = absurd (cc e)
    go (Some u) e =
        let number : u ≡ w = (some-pair (u, under_bound m v u f) (w, n) e).0
        in let args : under_bound m v u f ≡ n = (some-pair (u, under_bound m v u f) (w, n) e).1
        in (ap Some number, ap (λ k. under_bound m v k f) (sym number) ∙ args)

bound-none : (r : Reserved) (m : Arguments) (v : ℕ) (f : Form) → bind r m v f ≡ None → bound_number r m v f ≡ None
bound-none r m v f e = go (bound_number r m v f) e
  where
    go : (o : Option ℕ) → option_map {U = ℕ × Arguments} (λ u. (u, under_bound m v u f)) o ≡ None → o ≡ None
    go None e = refl
    go (Some u) e = absurd (cc e)

-- the second bound variable's number, and the arguments under both
second-bound : (r : Reserved) (m n o : Arguments) (left right l k : ℕ) (f : Form)
    → bind r m left (FExists right f) ≡ Some (l, n) → bind (with_own r l) n right f ≡ Some (k, o)
    → (bound_number (with_own r l) (under_bound m left l (FExists right f)) right f ≡ Some k)
    × (under_bound (under_bound m left l (FExists right f)) right k f ≡ o)
second-bound r m n o left right l k f first second =
    let x : (bound_number r m left (FExists right f) ≡ Some l) × (under_bound m left l (FExists right f) ≡ n)
    = bound-some r m n left l (FExists right f) first
    in let y : (bound_number (with_own r l) n right f ≡ Some k) × (under_bound n right k f ≡ o)
    = bound-some (with_own r l) n o right k f second
    in (
      ap (λ z. bound_number (with_own r l) z right f) x.1 ∙ y.0,
      ap (λ z. under_bound z right k f) x.1 ∙ y.1,
    )

pub closure_put : (r : Reserved) (m n o : Arguments) (from to left right l k : ℕ) (f g : Form)
    → bind r m left (FExists right f) ≡ Some (l, n) → bind (with_own r l) n right f ≡ Some (k, o)
    → put_in r f o ≡ Some g
    → put_in r (FClosure from to left right f) m ≡ Some (FClosure (argument_for m from) (argument_for m to) l k g)
closure_put r m n o from to left right l k f g first second put =
    let x : (bound_number r m left (FExists right f) ≡ Some l) × (under_bound m left l (FExists right f) ≡ n)
    = bound-some r m n left l (FExists right f) first
    in let y : (bound_number (with_own r l) (under_bound m left l (FExists right f)) right f ≡ Some k)
    × (under_bound (under_bound m left l (FExists right f)) right k f ≡ o)
    = second-bound r m n o left right l k f first second
    in let inner : put_in r f (under_bound (under_bound m left l (FExists right f)) right k f) ≡ Some g
    = ap (put_in r f) y.1 ∙ put
    in rw (x.0, y.0, inner) refl

pub closure_fails : (e : Stop) (r : Reserved) (m : Arguments) (from to left right : ℕ) (f : Form)
    → StopsUnformed e (bind r m left (FExists right f)) → StopsUnformed e (put_in r (FClosure from to left right f) m)
closure_fails e r m from to left right f fails =
    record { none = λ it. go (bound-none r m left (FExists right f) (fails.none it)) }
  where
    go : bound_number r m left (FExists right f) ≡ None → put_in r (FClosure from to left right f) m ≡ None
    go none = rw none refl

pub closure_fails_second : (e : Stop) (r : Reserved) (m n : Arguments) (from to left right l : ℕ) (f : Form)
    → bind r m left (FExists right f) ≡ Some (l, n) → StopsUnformed e (bind (with_own r l) n right f)
    → StopsUnformed e (put_in r (FClosure from to left right f) m)
closure_fails_second e r m n from to left right l f first fails =
    record {
      none = λ it. go (bound-some r m n left l (FExists right f) first)
          (bound-none (with_own r l) n right f (fails.none it));
    }
  where
    go : (bound_number r m left (FExists right f) ≡ Some l) × (under_bound m left l (FExists right f) ≡ n)
        → bound_number (with_own r l) n right f ≡ None → put_in r (FClosure from to left right f) m ≡ None
    go x none =
        let there : bound_number (with_own r l) (under_bound m left l (FExists right f)) right f ≡ None
        = ap (λ z. bound_number (with_own r l) z right f) x.1 ∙ none
        in rw (x.0, there) refl

pub closure_fails_inside : (e : Stop) (r : Reserved) (m n o : Arguments) (from to left right l k : ℕ) (f : Form)
    → bind r m left (FExists right f) ≡ Some (l, n) → bind (with_own r l) n right f ≡ Some (k, o)
    → StopsUnformed e (put_in r f o) → StopsUnformed e (put_in r (FClosure from to left right f) m)
closure_fails_inside e r m n o from to left right l k f first second fails =
    record {
      none = λ it. go (bound-some r m n left l (FExists right f) first)
          (second-bound r m n o left right l k f first second) (fails.none it);
    }
  where
    go : (bound_number r m left (FExists right f) ≡ Some l) × (under_bound m left l (FExists right f) ≡ n)
        → (bound_number (with_own r l) (under_bound m left l (FExists right f)) right f ≡ Some k)
        × (under_bound (under_bound m left l (FExists right f)) right k f ≡ o)
        → put_in r f o ≡ None → put_in r (FClosure from to left right f) m ≡ None
    go x y none =
        let inner : put_in r f (under_bound (under_bound m left l (FExists right f)) right k f) ≡ None
        = ap (put_in r f) y.1 ∙ none
        in rw (x.0, y.0, inner) refl

-- ---- how a formula is put in, and what stops it
pub ruleset put_steps = (map_fails, then_fails, then_fails_inside, first_fails, second_fails, exists_put, exists_fails, exists_fails_inside, forall_put, forall_fails, forall_fails_inside, closure_put, closure_fails, closure_fails_second, closure_fails_inside)
