-- Why calls stop, and what those that don't have formed.
use Rattle.std.proofs.Common.{ℕ, ◌≡◌, ◌∙◌, sym, ap, subst, Result, Ok, Option, Some, None, Bool, true, false}
use Rattle.std.proofs.Common.{cond, refl}
use Rattle.std.specs.Prelude.{◌&&◌, option_map, option_and_then}
use Rattle.tv_model.specs.Form.{Form, FAnd, FOr, FExists, FForall, form_of}
use Rattle.tv_model.specs.declared.formula.Formula.{Formula}
use Rattle.tv_delta_laws.specs.Putting.{option_both}
use Rattle.tv_delta_laws.specs.Simple.{is_small, simple_not, simple_and, simple_or, simple_exists}
use Rattle.tv_delta_laws.specs.Simple.{simple_forall}
use Rattle.tv_delta_laws.specs.Deltas.{Delta as DeltaForm, delta_by, after, if_small, if_small_over, both}
use Rattle.tv_delta_laws.specs.Deltas.{either, some, every}
use Rattle.tv_delta_form.specs.declared.stop.Stop.{Stop}
use Rattle.tv_delta_form.specs.declared.stop.Stop.TheVariants.{Memory}
use Rattle.tv_delta_form.specs.declared.deltas.Delta.{Delta}
use Rattle.tv_delta_form.specs.Views.{StopsUnformed, GivesFormed, delta_form, small_form}

-- where memory runs out nothing is said
pub memory_fails : {X : Type 0} (e : Stop) (defined : Option X) → e ≡ Memory → StopsUnformed e defined
memory_fails e defined out = record { none = λ it. absurd (cc (it, out)) }

pub map_fails : {X Y : Type 0} (e : Stop) (f : X → Y) (o : Option X) → StopsUnformed e o → StopsUnformed e (option_map f o)
map_fails e f o fails = record { none = λ it. ap (option_map f) (fails.none it) }

pub then_fails : {X Y : Type 0} (e : Stop) (f : X → Option Y) (o : Option X) → StopsUnformed e o → StopsUnformed e (option_and_then f o)
then_fails e f o fails = record { none = λ it. ap (option_and_then f) (fails.none it) }

pub then_fails_inside : {X Y : Type 0} (e : Stop) (f : X → Option Y) (o : Option X) (x : X) → o ≡ Some x → StopsUnformed e (f x)
    → StopsUnformed e (option_and_then f o)
then_fails_inside e f o x some fails = record { none = λ it. ap (option_and_then f) some ∙ fails.none it }

pub first_fails : {X Y Z : Type 0} (e : Stop) (f : X → Y → Z) (o : Option X) (p : Option Y) → StopsUnformed e o
    → StopsUnformed e (option_both f o p)
first_fails e f o p fails = record { none = λ it. ap (λ u. option_both f u p) (fails.none it) }

pub second_fails : {X Y Z : Type 0} (e : Stop) (f : X → Y → Z) (o : Option X) (p : Option Y) (x : X) → o ≡ Some x
    → StopsUnformed e p → StopsUnformed e (option_both f o p)
second_fails e f o p x some fails =
    record { none = λ it. ap (λ u. option_both f u p) some ∙ ap (option_both f (Some x)) (fails.none it) }

pub ruleset stop_steps = (memory_fails, map_fails, then_fails, then_fails_inside, first_fails, second_fails)

-- ---- formulas that are tested

pub small_gives : (r : Result Formula Stop) (f : Formula) (x y : Form) → r ≡ Ok f → is_small x ≡ true → x ≡ y → form_of f ≡ x
    → GivesFormed form_of r (small_form y)
small_gives r f x y is small same formed =
    subst (λ z. GivesFormed form_of z (small_form y)) (sym is) (go (is_small y) (ap is_small (sym same) ∙ small))
  where
    go : (b : Bool) → b ≡ true → cond b (Some y) None ≡ Some (form_of f)
    go true e = ap Some (sym (formed ∙ same))
    go false e = absurd (cc e)

-- the delta by the formulas that were formed
pub delta_is : (r : Result Delta Stop) (b u d x y z : Form) → GivesFormed delta_form r (if_small (delta_by b u d)) → b ≡ x
    → u ≡ y → d ≡ z → GivesFormed delta_form r (if_small (delta_by x y z))
delta_is r b u d x y z gives before up down =
    subst (λ f. GivesFormed delta_form r (if_small (delta_by f y z))) before
    (subst (λ f. GivesFormed delta_form r (if_small (delta_by b f z))) up
    (subst (λ f. GivesFormed delta_form r (if_small (delta_by b u f))) down gives))

untested-is : (b : Bool) (d : DeltaForm) → b ≡ false → if_small_over b d ≡ None
untested-is true d e = absurd (cc e)
untested-is false d e = refl

tested-is : (b : Bool) (d : DeltaForm) → b ≡ true → if_small_over b d ≡ if_small d
tested-is true d e = refl
tested-is false d e = absurd (cc e)

-- a delta isn't formed where a formula after the step isn't small
pub untested : (e : Stop) (x a : Form) (d : DeltaForm) → is_small x ≡ false → x ≡ a → StopsUnformed e (if_small_over (is_small a) d)
untested e x a d large same =
    record { none = λ it. untested-is (is_small a) d (ap is_small (sym same) ∙ large) }

pub untested_two : (e : Stop) (x y a b : Form) (d : DeltaForm) → (is_small x && is_small y) ≡ false → x ≡ a → y ≡ b
    → StopsUnformed e (if_small_over (is_small a && is_small b) d)
untested_two e x y a b d large same alike =
    record {
      none = λ it. untested-is (is_small a && is_small b) d
          (ap (λ z. is_small z && is_small b) (sym same) ∙ ap (λ z. is_small x && is_small z) (sym alike) ∙ large);
    }

small-after : (x y a b : Form) → (is_small x && is_small y) ≡ true → x ≡ a → y ≡ b → (is_small a && is_small b) ≡ true
small-after x y a b small same alike =
    ap (λ z. is_small z && is_small b) (sym same) ∙ ap (λ z. is_small x && is_small z) (sym alike) ∙ small

abbrev and-over : DeltaForm → DeltaForm → Form → Form → DeltaForm
and-over f g x y =
    delta_by (FAnd f.now g.now)
    (simple_or (simple_and f.up y) (simple_and x g.up))
    (simple_or (simple_and f.down g.now) (simple_and f.now g.down))

pub both_tested : (r : Result Delta Stop) (f g : DeltaForm) (x y : Form) → (is_small x && is_small y) ≡ true → x ≡ after f
    → y ≡ after g → GivesFormed delta_form r (if_small (and-over f g x y)) → GivesFormed delta_form r (both (Some f) (Some g))
both_tested r f g x y small is its gives =
    let one : GivesFormed delta_form r (if_small (and-over f g (after f) y))
    = subst (λ a. GivesFormed delta_form r (if_small (and-over f g a y))) is gives
    in let all : GivesFormed delta_form r (if_small (and-over f g (after f) (after g)))
    = subst (λ a. GivesFormed delta_form r (if_small (and-over f g (after f) a))) its one
    in subst (λ o. GivesFormed delta_form r o)
    (sym (tested-is (is_small (after f) && is_small (after g)) (and-over f g (after f) (after g))
    (small-after x y (after f) (after g) small is its))) all

abbrev or-over : DeltaForm → DeltaForm → Form → Form → DeltaForm
or-over f g x y =
    delta_by (FOr f.now g.now)
    (simple_or (simple_and f.up (simple_not g.now)) (simple_and (simple_not f.now) g.up))
    (simple_or (simple_and f.down (simple_not y)) (simple_and (simple_not x) g.down))

pub either_tested : (r : Result Delta Stop) (f g : DeltaForm) (x y : Form) → (is_small x && is_small y) ≡ true → x ≡ after f
    → y ≡ after g → GivesFormed delta_form r (if_small (or-over f g x y)) → GivesFormed delta_form r (either (Some f) (Some g))
either_tested r f g x y small is its gives =
    let one : GivesFormed delta_form r (if_small (or-over f g (after f) y))
    = subst (λ a. GivesFormed delta_form r (if_small (or-over f g a y))) is gives
    in let all : GivesFormed delta_form r (if_small (or-over f g (after f) (after g)))
    = subst (λ a. GivesFormed delta_form r (if_small (or-over f g (after f) a))) its one
    in subst (λ o. GivesFormed delta_form r o)
    (sym (tested-is (is_small (after f) && is_small (after g)) (or-over f g (after f) (after g))
    (small-after x y (after f) (after g) small is its))) all

abbrev some-over : ℕ → DeltaForm → Form → DeltaForm
some-over v f x =
    delta_by (FExists v f.now)
    (simple_and (simple_exists v f.up) (simple_not (simple_exists v f.now)))
    (simple_and (simple_exists v f.down) (simple_not (simple_exists v x)))

pub some_tested : (r : Result Delta Stop) (v : ℕ) (f : DeltaForm) (x : Form) → is_small x ≡ true → x ≡ after f
    → GivesFormed delta_form r (if_small (some-over v f x)) → GivesFormed delta_form r (some v (Some f))
some_tested r v f x small is gives =
    let all : GivesFormed delta_form r (if_small (some-over v f (after f)))
    = subst (λ a. GivesFormed delta_form r (if_small (some-over v f a))) is gives
    in subst (λ o. GivesFormed delta_form r o)
    (sym (tested-is (is_small (after f)) (some-over v f (after f)) (ap is_small (sym is) ∙ small))) all

abbrev every-over : ℕ → DeltaForm → Form → DeltaForm
every-over v f x =
    delta_by (FForall v f.now)
    (simple_and (simple_exists v f.up) (simple_forall v x))
    (simple_and (simple_exists v f.down) (simple_forall v f.now))

pub every_tested : (r : Result Delta Stop) (v : ℕ) (f : DeltaForm) (x : Form) → is_small x ≡ true → x ≡ after f
    → GivesFormed delta_form r (if_small (every-over v f x)) → GivesFormed delta_form r (every v (Some f))
every_tested r v f x small is gives =
    let all : GivesFormed delta_form r (if_small (every-over v f (after f)))
    = subst (λ a. GivesFormed delta_form r (if_small (every-over v f a))) is gives
    in subst (λ o. GivesFormed delta_form r o)
    (sym (tested-is (is_small (after f)) (every-over v f (after f)) (ap is_small (sym is) ∙ small))) all
