-- Arguments are put in under quantifiers one in the other.
use Rattle.std.proofs.Common.{ℕ, ◌≡◌, ◌∙◌, List, [], ◌∷◌, ◌++◌, Option, Some, None, refl, sym, ap}
use Rattle.std.specs.Prelude.{option_map}
use Rattle.tv_model.specs.Form.{Form}
use Rattle.tv_model.specs.declared.formula.Var.{Var}
use Rattle.tv_delta_laws.specs.Putting.{Arguments, Reserved, put_in, bound_number, under_bound}
use Rattle.tv_model.specs.declared.quantifiers.Binding.{Binding}
use Rattle.tv_model.specs.declared.quantifiers.Binding.TheVariants.{Exists, Forall}
use Rattle.tv_delta_form.specs.declared.stop.Stop.{Stop}
use Rattle.tv_model.specs.Quantifiers.{bound, bound_by, bound_var, renamed}
use Rattle.tv_delta_form.specs.Views.{StopsUnformed, bind}
use Rattle.tv_model.proofs.Quantifying.{bound_last}
use Rattle.tv_delta_form.proofs.PutSteps.{bound-some, exists_fails, forall_fails}

-- one more quantifier gets its number
pub one_bound : (r : Reserved) (m n : Arguments) (b : Binding) (w : Var) (f : Form) → bind r m (bound_var b) f ≡ Some (w.0, n)
    → put_in r (bound b f) m ≡ option_map (bound (renamed b w)) (put_in r f n)
one_bound r m n (Exists v) w f is =
    let x : (bound_number r m v.0 f ≡ Some w.0) × (under_bound m v.0 w.0 f ≡ n) = bound-some r m n v.0 w.0 f is
    in rw (x.0, x.1) refl
one_bound r m n (Forall v) w f is =
    let x : (bound_number r m v.0 f ≡ Some w.0) × (under_bound m v.0 w.0 f ≡ n) = bound-some r m n v.0 w.0 f is
    in rw (x.0, x.1) refl

pub one_fails : (e : Stop) (r : Reserved) (m : Arguments) (b : Binding) (f : Form) → StopsUnformed e (bind r m (bound_var b) f)
    → StopsUnformed e (put_in r (bound b f) m)
one_fails e r m (Exists v) f fails = exists_fails e r m v.0 f fails
one_fails e r m (Forall v) f fails = forall_fails e r m v.0 f fails

one-last : (bs : List Binding) (b : Binding) (o : Option Form)
    → option_map (bound_by bs) (option_map (bound b) o) ≡ option_map (bound_by (bs ++ b ∷ [])) o
one-last bs b None = refl
one-last bs b (Some f) = ap Some (sym (bound_last bs b f))

-- the next one gets its number behind others
pub next_bound : (whole : Option Form) (r : Reserved) (m n : Arguments) (bs : List Binding) (b : Binding) (w : Var) (f g : Form)
    → whole ≡ option_map (bound_by bs) (put_in r f m) → bound b g ≡ f → bind r m (bound_var b) g ≡ Some (w.0, n)
    → whole ≡ option_map (bound_by (bs ++ renamed b w ∷ [])) (put_in r g n)
next_bound whole r m n bs b w f g so_far parts is =
    so_far ∙ ap (λ x. option_map (bound_by bs) (put_in r x m)) (sym parts)
    ∙ ap (option_map (bound_by bs)) (one_bound r m n b w g is) ∙ one-last bs (renamed b w) (put_in r g n)

pub next_fails : (e : Stop) (whole : Option Form) (r : Reserved) (m : Arguments) (bs : List Binding) (b : Binding) (f g : Form)
    → whole ≡ option_map (bound_by bs) (put_in r f m) → bound b g ≡ f → StopsUnformed e (bind r m (bound_var b) g)
    → StopsUnformed e whole
next_fails e whole r m bs b f g so_far parts fails =
    record {
      none = λ it. so_far ∙ ap (λ x. option_map (bound_by bs) (put_in r x m)) (sym parts)
          ∙ ap (option_map (bound_by bs)) ((one_fails e r m b g fails).none it);
    }

pub bind_same : (r u : Reserved) (m n : Arguments) (v w : ℕ) (f g : Form) (o : Option (ℕ × Arguments)) → bind r m v f ≡ o
    → r ≡ u → m ≡ n → v ≡ w → f ≡ g → bind u n w g ≡ o
bind_same r u m n v w f g o is a b c d =
    sym (ap (λ x. bind x m v f) a ∙ ap (λ x. bind u x v f) b ∙ ap (λ x. bind u n x f) c ∙ ap (bind u n w) d) ∙ is

pub ruleset head_steps = (one_bound, one_fails, next_bound, next_fails)

-- ---- what is put in under them

pub inside_put : (whole o : Option Form) (bs : List Binding) (x : Form) → whole ≡ option_map (bound_by bs) o → o ≡ Some x
    → whole ≡ Some (bound_by bs x)
inside_put whole o bs x is put = is ∙ ap (option_map (bound_by bs)) put

pub inside_fails : (e : Stop) (whole o : Option Form) (bs : List Binding) → whole ≡ option_map (bound_by bs) o
    → StopsUnformed e o → StopsUnformed e whole
inside_fails e whole o bs is fails = record { none = λ it. is ∙ ap (option_map (bound_by bs)) (fails.none it) }
