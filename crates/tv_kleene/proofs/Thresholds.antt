-- Laws of truth values by their two thresholds, for the crates above: whether a value is Yes, and whether
-- it isn't No. Both are facts without values between, so that laws of values become laws of facts.
use Rattle.std.proofs.Common.{◌≡◌, ◌⊎◌, ◌↔◌, inl, inr, ⊎_elim, refl, sym, subst}
use Rattle.tv_kleene.specs.declared.K3.{K3}
use Rattle.tv_kleene.specs.declared.K3.TheVariants.{No, Half, Yes}
use Rattle.tv_kleene.specs.Kleene.{IsAtMost, LiesUnder, smaller_of, larger_of, negation_of}

-- the value is Yes
abbrev pub Must : K3 → Type 0
Must No = ⊥
Must Half = ⊥
Must Yes = Unit {0}

-- the value isn't No
abbrev pub May : K3 → Type 0
May No = ⊥
May Half = Unit {0}
May Yes = Unit {0}

-- "at least some value above No", for either such value
pub record IsThreshold (T : K3 → Type 0) : Type 0 where
  pub no : ¬ T No
  pub yes : T Yes
  pub smaller : (x y : K3) → T (smaller_of x y) ↔ (T x × T y)
  pub larger : (x y : K3) → T (larger_of x y) ↔ (T x ⊎ T y)

Must-smaller : (x y : K3) → Must (smaller_of x y) ↔ (Must x × Must y)
Must-smaller No y = (λ h. absurd h, λ h. h.0)
Must-smaller Half No = (λ h. absurd h, λ h. h.0)
Must-smaller Half Half = (λ h. absurd h, λ h. h.0)
Must-smaller Half Yes = (λ h. absurd h, λ h. h.0)
Must-smaller Yes y = (λ h. (tt, h), λ h. h.1)

Must-larger : (x y : K3) → Must (larger_of x y) ↔ (Must x ⊎ Must y)
Must-larger No y = (λ h. inr h, λ h. ⊎_elim (λ d. absurd d) (λ d. d) h)
Must-larger Half No = (λ h. absurd h, λ h. ⊎_elim (λ d. d) (λ d. d) h)
Must-larger Half Half = (λ h. absurd h, λ h. ⊎_elim (λ d. d) (λ d. d) h)
Must-larger Half Yes = (λ h. inr tt, λ h. tt)
Must-larger Yes y = (λ h. inl tt, λ h. tt)

May-smaller : (x y : K3) → May (smaller_of x y) ↔ (May x × May y)
May-smaller No y = (λ h. absurd h, λ h. h.0)
May-smaller Half No = (λ h. absurd h, λ h. h.1)
May-smaller Half Half = (λ h. (tt, tt), λ h. tt)
May-smaller Half Yes = (λ h. (tt, tt), λ h. tt)
May-smaller Yes y = (λ h. (tt, h), λ h. h.1)

May-larger : (x y : K3) → May (larger_of x y) ↔ (May x ⊎ May y)
May-larger No y = (λ h. inr h, λ h. ⊎_elim (λ d. absurd d) (λ d. d) h)
May-larger Half No = (λ h. inl tt, λ h. tt)
May-larger Half Half = (λ h. inl tt, λ h. tt)
May-larger Half Yes = (λ h. inl tt, λ h. tt)
May-larger Yes y = (λ h. inl tt, λ h. tt)

pub must_threshold : IsThreshold Must
must_threshold = record { no = λ h. h; yes = tt; smaller = Must-smaller; larger = Must-larger }

pub may_threshold : IsThreshold May
may_threshold = record { no = λ h. h; yes = tt; smaller = May-smaller; larger = May-larger }

-- negation exchanges the thresholds
pub Must-negation : (x : K3) → Must (negation_of x) ↔ (¬ May x)
Must-negation No = (λ h. λ m. m, λ h. tt)
Must-negation Half = (λ h. absurd h, λ h. h tt)
Must-negation Yes = (λ h. absurd h, λ h. h tt)

pub May-negation : (x : K3) → May (negation_of x) ↔ (¬ Must x)
May-negation No = (λ h. λ m. m, λ h. tt)
May-negation Half = (λ h. λ m. m, λ h. tt)
May-negation Yes = (λ h. absurd h, λ h. h tt)

pub May-from_Must : (x : K3) → Must x → May x
May-from_Must No h = h
May-from_Must Half h = tt
May-from_Must Yes h = tt

pub May-decided : (x : K3) → May x ⊎ (¬ May x)
May-decided No = inr (λ h. h)
May-decided Half = inl tt
May-decided Yes = inl tt

-- ---- what the thresholds say of the value

pub Must-is : (x : K3) → Must x ↔ (x ≡ Yes)
Must-is x = (to x, λ e. subst Must (sym e) tt)
  where
    to : (x : K3) → Must x → x ≡ Yes
    to No h = absurd h
    to Half h = absurd h
    to Yes h = refl

pub May-is : (x : K3) → (¬ May x) ↔ (x ≡ No)
May-is x = (to x, λ e. λ m. subst May e m)
  where
    to : (x : K3) → (¬ May x) → x ≡ No
    to No h = refl
    to Half h = absurd (h tt)
    to Yes h = absurd (h tt)

-- values with the same thresholds are equal
pub thresholds_determine : (x y : K3) → (Must x → Must y) → (May x → May y) → (Must y → Must x) → (May y → May x)
    → x ≡ y
thresholds_determine No No a b c d = refl
thresholds_determine No Half a b c d = absurd (d tt)
thresholds_determine No Yes a b c d = absurd (d tt)
thresholds_determine Half No a b c d = absurd (b tt)
thresholds_determine Half Half a b c d = refl
thresholds_determine Half Yes a b c d = absurd (c tt)
thresholds_determine Yes No a b c d = absurd (b tt)
thresholds_determine Yes Half a b c d = absurd (a tt)
thresholds_determine Yes Yes a b c d = refl

pub IsAtMost-by_thresholds : (x y : K3) → (Must x → Must y) → (May x → May y) → IsAtMost x y
IsAtMost-by_thresholds No y a b = refl
IsAtMost-by_thresholds Half No a b = absurd (b tt)
IsAtMost-by_thresholds Half Half a b = refl
IsAtMost-by_thresholds Half Yes a b = refl
IsAtMost-by_thresholds Yes No a b = absurd (a tt)
IsAtMost-by_thresholds Yes Half a b = absurd (a tt)
IsAtMost-by_thresholds Yes Yes a b = refl

-- ---- the order of information by thresholds

-- where y is Yes so is x, and where x isn't No neither is y
abbrev pub Under : K3 → K3 → Type 0
Under x y = (Must y → Must x) × (May x → May y)

pub LiesUnder-from_Under : (x y : K3) → Under x y → LiesUnder x y
LiesUnder-from_Under No No u = inl refl
LiesUnder-from_Under No Half u = inr refl
LiesUnder-from_Under No Yes u = absurd (u.0 tt)
LiesUnder-from_Under Half No u = absurd (u.1 tt)
LiesUnder-from_Under Half Half u = inl refl
LiesUnder-from_Under Half Yes u = absurd (u.0 tt)
LiesUnder-from_Under Yes No u = absurd (u.1 tt)
LiesUnder-from_Under Yes Half u = inr refl
LiesUnder-from_Under Yes Yes u = inl refl

pub Under-from_LiesUnder : (x y : K3) → LiesUnder x y → Under x y
Under-from_LiesUnder x y (inl e) = (λ m. subst Must (sym e) m, λ m. subst May e m)
Under-from_LiesUnder x y (inr e) = (λ m. absurd (subst Must e m), λ m. subst May (sym e) tt)

-- a definite value above is the value below
pub Yes-below : (x y : K3) → LiesUnder x y → y ≡ Yes → x ≡ Yes
Yes-below x y h e = (Must-is x).0 ((Under-from_LiesUnder x y h).0 ((Must-is y).1 e))

pub No-below : (x y : K3) → LiesUnder x y → y ≡ No → x ≡ No
No-below x y h e = (May-is x).0 (λ m. (May-is y).1 e ((Under-from_LiesUnder x y h).1 m))

-- ---- the operations keep the order of information

pub Under-refl : (x : K3) → Under x x
Under-refl x = (λ m. m, λ m. m)

pub Under-negation : (x y : K3) → Under x y → Under (negation_of x) (negation_of y)
Under-negation x y u = (
  λ m. (Must-negation x).1 (λ n. (Must-negation y).0 m (u.1 n)),
  λ m. (May-negation y).1 (λ n. (May-negation x).0 m (u.0 n)),
)

pub Under-smaller : (x y z w : K3) → Under x y → Under z w → Under (smaller_of x z) (smaller_of y w)
Under-smaller x y z w u v = (
  λ m. let h : Must y × Must w = (Must-smaller y w).0 m in (Must-smaller x z).1 (u.0 h.0, v.0 h.1),
  λ m. let h : May x × May z = (May-smaller x z).0 m in (May-smaller y w).1 (u.1 h.0, v.1 h.1),
)

pub Under-larger : (x y z w : K3) → Under x y → Under z w → Under (larger_of x z) (larger_of y w)
Under-larger x y z w u v = (
  λ m. (Must-larger x z).1 (⊎_elim (λ h. inl (u.0 h)) (λ h. inr (v.0 h)) ((Must-larger y w).0 m)),
  λ m. (May-larger y w).1 (⊎_elim (λ h. inl (u.1 h)) (λ h. inr (v.1 h)) ((May-larger x z).0 m)),
)
