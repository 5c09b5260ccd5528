-- For how many variables a member waits, and how it is read.
use Rattle.std.proofs.Common.{ℕ, suc, ◌≡◌, ◌≢◌, ◌<◌, ◌≤◌, ◌+◌, ◌∙◌, Bool, true, false, List, [], ◌∷◌, ◌++◌}
use Rattle.std.proofs.Common.{◌-◌, max, length, take, get_or, refl, sym, ap, subst, arith}
use Rattle.std.proofs.lemmas.List.{length-append, length-map, map-append, take_all, take_more}
use Rattle.tv_model.specs.Form.{Form, IsFree}
use Rattle.tv_model.specs.declared.formula.Var.{Var}
use Rattle.tv_coerce_members.specs.Members.{MemberForm, IsPlaced, IsPlacedIn, IsReadAs, WaitsFor, numbers_of}
use Rattle.tv_coerce_members.specs.declared.readings.Reading.{Reading}

-- a member that waits for none of the variables waits for none with any number, however it is read
beyond : (vars : List ℕ) (f : Form) (left more : ℕ) (r q : Reading) → length vars ≤ left → length vars ≤ more
    → WaitsFor vars (record { form = f; left = left; last = false; reading = r })
    → WaitsFor vars (record { form = f; left = more; last = false; reading = q })
beyond [] f left more r q enough more_enough waits = tt
beyond (v ∷ vars) f left more r q enough more_enough waits = (
  λ at. waits.0 (omega (arith, enough)),
  λ out at. absurd (omega (arith, at, more_enough)),
  beyond vars f left more r q (omega (arith, enough)) (omega (arith, more_enough)) waits.2,
)

pub waits_same : (v : ℕ) (rest : List ℕ) (m : MemberForm) → m.left ≢ length rest → m.left ≤ length rest → WaitsFor rest m
    → WaitsFor (v ∷ rest) m
waits_same v rest m other most waits =
    (λ at. absurd (omega (arith, at, most)), λ out at. absurd (other at), waits)

pub waits-read : (v : ℕ) (rest : List ℕ) (f : Form) (left : ℕ) (r q : Reading) → left ≡ length rest → IsReadAs v q f
    → WaitsFor rest (record { form = f; left = left; last = false; reading = r })
    → WaitsFor (v ∷ rest) (record { form = f; left = left; last = false; reading = q })
waits-read v rest f left r q all read waits =
    (λ at. absurd (omega (arith, at, all)), λ out at. read, beyond rest f left left r q (omega (arith, all)) (omega (arith, all)) waits)

pub waits-less : (v : ℕ) (rest : List ℕ) (f : Form) (left : ℕ) (r q : Reading) → left ≡ length rest → ¬ IsFree v f
    → WaitsFor rest (record { form = f; left = left; last = false; reading = r })
    → WaitsFor (v ∷ rest) (record { form = f; left = left + 1; last = false; reading = q })
waits-less v rest f left r q all not-free waits = (
  λ at. not-free,
  λ out at. absurd (omega (arith, at, all)),
  beyond rest f left (left + 1) r q (omega (arith, all)) (omega (arith, all)) waits,
)

-- a member in which the last variable may stand isn't read along another
aside : (vars : List ℕ) (f : Form) (left : ℕ) (r q : Reading)
    → WaitsFor vars (record { form = f; left = left; last = false; reading = r })
    → WaitsFor vars (record { form = f; left = left; last = true; reading = q })
aside [] f left r q waits = tt
aside (v ∷ vars) f left r q waits = (waits.0, λ out at. absurd (cc out), aside vars f left r q waits.2)

-- a member among the variables before the last, from what was found of its formula
pub placed-member : (before : List ℕ) (v : ℕ) (f g : Form) (left : ℕ) (r q : Reading) (last : Bool) → g ≡ f → left ≤ length before
    → WaitsFor before (record { form = f; left = left; last = false; reading = r })
    → (last ≡ true → IsReadAs v q f) → (last ≡ false → (q ≡ r) × (¬ IsFree v f))
    → IsPlaced before v (record { form = g; left = left; last = last; reading = q })
placed-member before v f g left r q last same most waits along apart =
    subst (λ h. IsPlaced before v (record { form = h; left = left; last = last; reading = q })) (sym same) (cases last along apart)
  where
    cases : (b : Bool) → (b ≡ true → IsReadAs v q f) → (b ≡ false → (q ≡ r) × (¬ IsFree v f))
        → IsPlaced before v (record { form = f; left = left; last = b; reading = q })
    cases true read out = record {
      waits = aside before f left r q waits;
      most = most;
      apart = λ e. absurd (cc e);
      along = λ e. read refl;
    }
    cases false read out = record {
      waits = subst (λ x. WaitsFor before (record { form = f; left = left; last = false; reading = x })) (sym (out refl).0) waits;
      most = most;
      apart = λ e. (out refl).1;
      along = λ e. absurd (cc e);
    }

-- ---- all variables

-- the variables before the last, and the last
pub last-split : (vars : List Var) (d : Var) → 1 ≤ length vars
    → vars ≡ take (length vars - 1) vars ++ get_or vars (length vars - 1) d ∷ []
last-split vars d some =
    let at : length vars - 1 < length vars = omega (arith, some)
    in let long : length vars ≡ (length vars - 1) + 1 = omega (arith, some)
    in sym (take_all (length vars) vars (omega arith)) ∙ ap (λ n. take n vars) long ∙ take_more vars (length vars - 1) d at

behind-one : (xs ys : List ℕ) (x y : ℕ) → xs ++ x ∷ [] ≡ ys ++ y ∷ [] → (xs ≡ ys) × (x ≡ y)
behind-one [] [] x y same = (refl, cc same)
behind-one [] (z ∷ ys) x y same =
    absurd (omega (arith, ap length same, length-append ys (y ∷ [])))
behind-one (z ∷ xs) [] x y same =
    absurd (omega (arith, ap length same, length-append xs (x ∷ [])))
behind-one (z ∷ xs) (w ∷ ys) x y same =
    let tails : xs ++ x ∷ [] ≡ ys ++ y ∷ [] = cc same
    in let heads : z ≡ w = cc same
    in let below : (xs ≡ ys) × (x ≡ y) = behind-one xs ys x y tails
    in (ap (λ u. u ∷ xs) heads ∙ ap (λ us. w ∷ us) below.0, below.1)

-- a member that is placed among the variables before the last, and along it
pub placed-in : (vars before : List Var) (v : Var) (m : MemberForm) → vars ≡ before ++ v ∷ []
    → IsPlaced (numbers_of before) v.0 m → IsPlacedIn (numbers_of vars) m
placed-in vars before v m are placed = record {
  placed = λ b w is.
      let same : (numbers_of before ≡ b) × (v.0 ≡ w) = behind-one (numbers_of before) b v.0 w (sym split ∙ is)
      in subst (λ u. IsPlaced b u m) same.1 (subst (λ us. IsPlaced us v.0 m) same.0 placed);
  alone = λ none. absurd (omega (arith, ap length (sym split ∙ none), length-append (numbers_of before) (v.0 ∷ [])));
}
  where
    split : numbers_of vars ≡ numbers_of before ++ v.0 ∷ []
    split = ap numbers_of are ∙ map-append (λ (u : Var). u.0) before (v ∷ [])

pub placed-alone : (vars : List Var) (m : MemberForm) → vars ≡ [] → m.left ≡ 0 → m.last ≡ false → IsPlacedIn (numbers_of vars) m
placed-alone vars m none left last = record {
  placed = λ b w is. absurd (omega (arith, ap length (sym (ap numbers_of none) ∙ is), length-append b (w ∷ [])));
  alone = λ are. (left, last);
}

-- ---- how many levels there are

max-one : (n : ℕ) → max (suc n) 1 ≡ suc n
max-one n = grind arith

pub count-some : (vars : List Var) (before : List ℕ) (w : ℕ) → numbers_of vars ≡ before ++ w ∷ [] → max (length vars) 1 ≡ 1 + length before
count-some vars before w is =
    let long : length vars ≡ suc (length before)
    = sym (length-map vars (λ (v : Var). v.0)) ∙ ap length is ∙ length-append before (w ∷ []) ∙ omega arith
    in ap (λ n. max n 1) long ∙ max-one (length before) ∙ omega arith

pub count-none : (vars : List Var) → numbers_of vars ≡ [] → max (length vars) 1 ≡ 1
count-none [] none = refl
count-none (v ∷ vars) none = absurd (cc none)
