-- A rule stays met that sees no definite value come, and whose head was met by none that went.
use Rattle.std.proofs.Common.{ℕ, ◌≡◌, ◌≢◌, ◌==◌, ◌⊎◌, if◌then◌else◌, Bool, true, false, not, List, [], ◌∷◌}
use Rattle.std.proofs.Common.{map}
use Rattle.std.proofs.Common.{inl, inr, ⊎_elim, refl, sym, ap, subst, ◌∙◌, Contains}
use Rattle.std.specs.Prelude.{IsTrue}
use Rattle.std.specs.List.{range_with_len}
use Rattle.tv_kleene.specs.declared.K3.{K3}
use Rattle.tv_kleene.specs.declared.K3.TheVariants.{No, Half, Yes}
use Rattle.tv_kleene.specs.Kleene.{smaller_of, larger_of, negation_of}
use Rattle.tv_kleene.proofs.Thresholds.{Must, May, must_threshold, may_threshold, Must-negation, May-negation}
use Rattle.tv_kleene.proofs.Thresholds.{Must-is, May-is, May-decided}
use Rattle.tv_model.specs.Form.{Form, FZero, FOne, FAtom, FIsNew, FSame, FNot, FAnd, FOr, FIff, FCond}
use Rattle.tv_model.specs.Form.{FExists, FForall, FClosure, IsFree}
use Rattle.tv_model.specs.Program.{HeadForm, HNever, HAtom, HSame, RuleForm}
use Rattle.tv_model.specs.Rules.{IsInHead, IsOfIndividuals, head_formula}
use Rattle.tv_model.specs.Truth.{Assignment, put}
use Rattle.tv_model.specs.Valid.{NamesNew}
use Rattle.tv_model.proofs.Assignments.{All-values, put-matched}
use Rattle.tv_model.proofs.Lists.{Contains-here, Contains-there}
use Rattle.tv_eval_laws.specs.Value.{value, same_value, greatest_of, least_of, best_walk}
use Rattle.tv_stable_laws.specs.Stable.{IsHeadMet, IsStableUnder, IsTwice, MayStayHalf}
use Rattle.tv_structure_form.specs.StructureForm.{StructureForm, structure_of, value_at, summary_at}
use Rattle.tv_structure_form.specs.TableForm.{AreIndividuals}
use Rattle.tv_structure_form.proofs.Library.{AreIndividuals-range, below-range}
use Rattle.tv_coerce_laws.proofs.Splits.{twice-in_head}
use Rattle.tv_coerce_moves.specs.Moves.{IsHeadOf, MayMove}
use Rattle.tv_coerce_moves.proofs.MoveLaws.{moves-shows}
use Rattle.tv_coerce_sets.specs.Turned.{AreAlike, known}
use Rattle.tv_coerce_sets.specs.Unmet.{HasNoNew, StaysMet}

-- ---- two values

-- y is Yes only where x is; or No only where x is, where up is false
abbrev pub Kept : (up : Bool) → K3 → K3 → Type 0
Kept true x y = Must y → Must x
Kept false x y = May x → May y

kept-same : (up : Bool) (x y : K3) → x ≡ y → Kept up x y
kept-same true x y e = λ h. subst Must (sym e) h
kept-same false x y e = λ h. subst May e h

kept-known : (up : Bool) (x y : K3) → (y ≡ known up → x ≡ known up) → Kept up x y
kept-known true x y old = λ h. (Must-is x).1 (old ((Must-is y).0 h))
kept-known false x y old = λ h.
    ⊎_elim (λ may. may) (λ none. absurd ((May-is x).1 (old ((May-is y).0 none)) h)) (May-decided y)

kept-smaller : (up : Bool) (x y z w : K3) → Kept up x y → Kept up z w → Kept up (smaller_of x z) (smaller_of y w)
kept-smaller true x y z w f g = λ h.
    let both : Must y × Must w = (must_threshold.smaller y w).0 h
    in (must_threshold.smaller x z).1 (f both.0, g both.1)
kept-smaller false x y z w f g = λ h.
    let both : May x × May z = (may_threshold.smaller x z).0 h
    in (may_threshold.smaller y w).1 (f both.0, g both.1)

kept-larger : (up : Bool) (x y z w : K3) → Kept up x y → Kept up z w → Kept up (larger_of x z) (larger_of y w)
kept-larger true x y z w f g = λ h.
    (must_threshold.larger x z).1 (⊎_elim (λ m. inl (f m)) (λ m. inr (g m)) ((must_threshold.larger y w).0 h))
kept-larger false x y z w f g = λ h.
    (may_threshold.larger y w).1 (⊎_elim (λ m. inl (f m)) (λ m. inr (g m)) ((may_threshold.larger x z).0 h))

kept-negation : (up : Bool) (x y : K3) → Kept (not up) x y → Kept up (negation_of x) (negation_of y)
kept-negation true x y f = λ h. (Must-negation x).1 (λ m. (Must-negation y).0 h (f m))
kept-negation false x y f = λ h. (May-negation y).1 (λ m. (May-negation x).0 h (f m))

-- ---- folds

kept-greatest : (up : Bool) (g h : ℕ → K3) (us : List ℕ) → ((u : ℕ) → Contains us u → Kept up (g u) (h u))
    → Kept up (greatest_of g us) (greatest_of h us)
kept-greatest up g h [] each = kept-same up No No refl
kept-greatest up g h (u ∷ us) each =
    kept-larger up (g u) (h u) (greatest_of g us) (greatest_of h us) (each u (Contains-here u us))
    (kept-greatest up g h us (λ w at. each w (Contains-there u w us at)))

kept-least : (up : Bool) (g h : ℕ → K3) (us : List ℕ) → ((u : ℕ) → Contains us u → Kept up (g u) (h u))
    → Kept up (least_of g us) (least_of h us)
kept-least up g h [] each = kept-same up Yes Yes refl
kept-least up g h (u ∷ us) each =
    kept-smaller up (g u) (h u) (least_of g us) (least_of h us) (each u (Contains-here u us))
    (kept-least up g h us (λ w at. each w (Contains-there u w us at)))

kept-walk : (up : Bool) (In : ℕ → Type 0) (g h : ℕ → ℕ → K3) (us : List ℕ) → ((u : ℕ) → Contains us u → In u)
    → ((u w : ℕ) → In u → In w → Kept up (g u w) (h u w)) → (u w : ℕ) → In u → In w
    → Kept up (best_walk g us u w) (best_walk h us u w)
kept-walk up In g h [] inside each u w from to = each u w from to
kept-walk up In g h (x ∷ us) inside each u w from to =
    kept-larger up (best_walk g us u w) (best_walk h us u w)
    (smaller_of (best_walk g us u x) (best_walk g us x w)) (smaller_of (best_walk h us u x) (best_walk h us x w))
    (kept-walk up In g h us rest each u w from to)
    (kept-smaller up (best_walk g us u x) (best_walk h us u x) (best_walk g us x w) (best_walk h us x w)
    (kept-walk up In g h us rest each u x from here) (kept-walk up In g h us rest each x w here to))
  where
    here : In x
    here = inside x (Contains-here x us)

    rest : (z : ℕ) → Contains us z → In z
    rest z at = inside z (Contains-there x z us at)

-- ---- formulas

-- no change is there that may move the formula so
abbrev pub IsCalm : (s t : StructureForm) → (up : Bool) → Form → Type 0
IsCalm s t up f = (flag : Bool) (q : ℕ) → MayMove (HAtom flag q []) up f → HasNoNew (known flag) q s t

abbrev pub IsInside : (s : StructureForm) → Assignment → Form → Type 0
IsInside s a f = (v : ℕ) → IsFree v f → Contains (range_with_len 0 s.size) (a v)

module _ (s t : StructureForm) (alike : AreAlike s t) where
  same-equality : (u w : ℕ) → Contains (range_with_len 0 s.size) u
      → same_value (structure_of s) u w ≡ same_value (structure_of t) u w
  same-equality u w at =
      ap (λ b. if u == w then (if b then Half else Yes) else No) (alike.summaries u (below-range s.size u at))

  inside-put : (f : Form) (a : Assignment) (v u : ℕ) → Contains (range_with_len 0 s.size) u
      → ((x : ℕ) → (x ≢ v) × IsFree x f → Contains (range_with_len 0 s.size) (a x)) → IsInside s (put a v u) f
  inside-put f a v u at free =
      put-matched (λ x. IsFree x f) (λ x y. Contains (range_with_len 0 s.size) x) a a v u u at free

  pub kept-value : (f : Form) (up : Bool) (a : Assignment) → IsCalm s t up f → ¬ NamesNew f → IsInside s a f
      → Kept up (value (structure_of s) a f) (value (structure_of t) a f)
  kept-value FZero up a calm plain free = kept-same up No No refl
  kept-value FOne up a calm plain free = kept-same up Yes Yes refl
  kept-value (FAtom q vars) up a calm plain free =
      kept-known up _ _ (calm up q (refl, refl) (map a vars)
      (AreIndividuals-range s.size (map a vars) (All-values (Contains (range_with_len 0 s.size)) a vars free)))
  kept-value (FIsNew v) up a calm plain free = absurd (plain tt)
  kept-value (FSame v w) up a calm plain free = kept-same up _ _ (same-equality (a v) (a w) (free v (inl refl)))
  kept-value (FNot f) up a calm plain free = kept-negation up _ _ (kept-value f (not up) a calm plain free)
  kept-value (FAnd f g) up a calm plain free =
      kept-smaller up _ _ _ _
      (kept-value f up a (λ flag q k. calm flag q (inl k)) (λ n. plain (inl n)) (λ v k. free v (inl k)))
      (kept-value g up a (λ flag q k. calm flag q (inr k)) (λ n. plain (inr n)) (λ v k. free v (inr k)))
  kept-value (FOr f g) up a calm plain free =
      kept-larger up _ _ _ _
      (kept-value f up a (λ flag q k. calm flag q (inl k)) (λ n. plain (inl n)) (λ v k. free v (inl k)))
      (kept-value g up a (λ flag q k. calm flag q (inr k)) (λ n. plain (inr n)) (λ v k. free v (inr k)))
  kept-value (FIff f g) up a calm plain free =
      kept-smaller up _ _ _ _
      (kept-larger up _ _ _ _
      (kept-negation up _ _
      (kept-value f (not up) a (λ flag q k. calm flag q (inl (moves-shows (HAtom flag q []) f (not up) k)))
      (λ n. plain (inl n)) (λ v k. free v (inl k))))
      (kept-value g up a (λ flag q k. calm flag q (inr (moves-shows (HAtom flag q []) g up k)))
      (λ n. plain (inr n)) (λ v k. free v (inr k))))
      (kept-larger up _ _ _ _
      (kept-negation up _ _
      (kept-value g (not up) a (λ flag q k. calm flag q (inr (moves-shows (HAtom flag q []) g (not up) k)))
      (λ n. plain (inr n)) (λ v k. free v (inr k))))
      (kept-value f up a (λ flag q k. calm flag q (inl (moves-shows (HAtom flag q []) f up k)))
      (λ n. plain (inl n)) (λ v k. free v (inl k))))
  kept-value (FCond c f g) up a calm plain free =
      kept-larger up _ _ _ _
      (kept-smaller up _ _ _ _
      (kept-value c up a (λ flag q k. calm flag q (inl (moves-shows (HAtom flag q []) c up k)))
      (λ n. plain (inl n)) (λ v k. free v (inl k)))
      (kept-value f up a (λ flag q k. calm flag q (inr (inl k))) (λ n. plain (inr (inl n))) (λ v k. free v (inr (inl k)))))
      (kept-smaller up _ _ _ _
      (kept-negation up _ _
      (kept-value c (not up) a (λ flag q k. calm flag q (inl (moves-shows (HAtom flag q []) c (not up) k)))
      (λ n. plain (inl n)) (λ v k. free v (inl k))))
      (kept-value g up a (λ flag q k. calm flag q (inr (inr k))) (λ n. plain (inr (inr n))) (λ v k. free v (inr (inr k)))))
  kept-value (FExists v f) up a calm plain free =
      subst (λ n. Kept up (greatest_of (λ u. value (structure_of s) (put a v u) f) (range_with_len 0 s.size))
      (greatest_of (λ u. value (structure_of t) (put a v u) f) (range_with_len 0 n))) alike.size
      (kept-greatest up (λ u. value (structure_of s) (put a v u) f) (λ u. value (structure_of t) (put a v u) f)
      (range_with_len 0 s.size)
      (λ u at. kept-value f up (put a v u) calm plain (inside-put f a v u at free)))
  kept-value (FForall v f) up a calm plain free =
      subst (λ n. Kept up (least_of (λ u. value (structure_of s) (put a v u) f) (range_with_len 0 s.size))
      (least_of (λ u. value (structure_of t) (put a v u) f) (range_with_len 0 n))) alike.size
      (kept-least up (λ u. value (structure_of s) (put a v u) f) (λ u. value (structure_of t) (put a v u) f)
      (range_with_len 0 s.size)
      (λ u at. kept-value f up (put a v u) calm plain (inside-put f a v u at free)))
  kept-value (FClosure from to left right f) up a calm plain free =
      subst (λ n. Kept up
      (best_walk (λ u w. value (structure_of s) (put (put a left u) right w) f) (range_with_len 0 s.size) (a from) (a to))
      (best_walk (λ u w. value (structure_of t) (put (put a left u) right w) f) (range_with_len 0 n) (a from) (a to)))
      alike.size
      (kept-walk up (Contains (range_with_len 0 s.size)) (λ u w. value (structure_of s) (put (put a left u) right w) f)
      (λ u w. value (structure_of t) (put (put a left u) right w) f) (range_with_len 0 s.size) (λ u at. at)
      (λ u w first second. kept-value f up (put (put a left u) right w) calm plain
      (put-matched (λ z. IsFree z f) (λ x y. Contains (range_with_len 0 s.size) x) (put a left u) (put a left u) right w w
      second
      (put-matched (λ z. (z ≢ right) × IsFree z f) (λ x y. Contains (range_with_len 0 s.size) x) a a left u u first
      (λ z k. free z (inr (inr (k.0, k.1.0, k.1.1)))))))
      (a from) (a to) (free from (inl refl)) (free to (inr (inl refl))))

-- ---- rules

-- what meets an atom of the flag: the value of the predicate, and the value of the literal
atom-yes : (flag : Bool) (s : StructureForm) (a : Assignment) (pred : ℕ) (vars : List ℕ)
    → value_at s pred (map a vars) ≡ known flag
    → value (structure_of s) a (head_formula (HAtom flag pred vars)) ≡ Yes
atom-yes true s a pred vars e = e
atom-yes false s a pred vars e = ap negation_of e

yes-atom : (flag : Bool) (s : StructureForm) (a : Assignment) (pred : ℕ) (vars : List ℕ)
    → value (structure_of s) a (head_formula (HAtom flag pred vars)) ≡ Yes
    → value_at s pred (map a vars) ≡ known flag
yes-atom true s a pred vars e = e
yes-atom false s a pred vars e = sym (twice-negated (value_at s pred (map a vars))) ∙ ap negation_of e
  where
    twice-negated : (k : K3) → negation_of (negation_of k) ≡ k
    twice-negated No = refl
    twice-negated Half = refl
    twice-negated Yes = refl

-- a literal that isn't the one definite value is the other, or unknown
yes-or-half : (flag : Bool) (s : StructureForm) (a : Assignment) (pred : ℕ) (vars : List ℕ)
    → value_at s pred (map a vars) ≢ known (not flag)
    → (value (structure_of s) a (head_formula (HAtom flag pred vars)) ≡ Yes)
    ⊎ (value (structure_of s) a (head_formula (HAtom flag pred vars)) ≡ Half)
yes-or-half true s a pred vars other = at (value_at s pred (map a vars)) other
  where
    at : (k : K3) → k ≢ No → (k ≡ Yes) ⊎ (k ≡ Half)
    at No ne = absurd (ne refl)
    at Half ne = inr refl
    at Yes ne = inl refl
yes-or-half false s a pred vars other = at (value_at s pred (map a vars)) other
  where
    at : (k : K3) → k ≢ Yes → (negation_of k ≡ Yes) ⊎ (negation_of k ≡ Half)
    at No ne = inl refl
    at Half ne = inr refl
    at Yes ne = absurd (ne refl)

half-atom : (flag : Bool) (s : StructureForm) (a : Assignment) (pred : ℕ) (vars : List ℕ)
    → value (structure_of s) a (head_formula (HAtom flag pred vars)) ≡ Half
    → value_at s pred (map a vars) ≢ known (not flag)
half-atom true s a pred vars e is = absurd (cc (e, is))
half-atom false s a pred vars e is = absurd (cc (sym (ap negation_of is) ∙ e))

pub stays-met : (s t : StructureForm) (rule : RuleForm) → AreAlike s t → ¬ NamesNew rule.body
    → ((q : ℕ) → StaysMet q rule s t) → IsStableUnder (structure_of s) rule → IsStableUnder (structure_of t) rule
stays-met s t rule alike plain stays stable a individuals body = head rule.head refl (stable a inside was_yes)
  where
    inside : IsOfIndividuals (range_with_len 0 s.size) rule a
    inside v free = subst (λ n. Contains (range_with_len 0 n) (a v)) (sym alike.size) (individuals v free)

    was_yes : value (structure_of s) a rule.body ≡ Yes
    was_yes = (Must-is _).0
        (kept-value s t alike rule.body true a (λ flag q k. (stays q).seen flag (inl k)) plain
        (λ v free. inside v (inl free)) ((Must-is _).1 body))

    summary : (may : MayStayHalf (structure_of s) a rule.head) → IsTrue (summary_at t (a may.var))
    summary may = sym (alike.summaries (a may.var) (below-range s.size (a may.var)
        (inside may.var (inr (twice-in_head may.var rule.head may.twice))))) ∙ may.summary

    head : (h : HeadForm) → rule.head ≡ h → IsHeadMet (structure_of s) a rule.head
        → IsHeadMet (structure_of t) a rule.head
    head HNever e met = absurd (never met)
      where
        never : ¬ IsHeadMet (structure_of s) a rule.head
        never k = ⊎_elim
            (λ yes. absurd (cc (yes, ap (λ h. value (structure_of s) a (head_formula h)) e)))
            (λ may. subst (IsTwice may.var) e may.twice) k
    head (HAtom flag pred vars) e met = ⊎_elim (λ yes. inl (back (now yes))) (λ may. half may) met
      where
        individuals_at : AreIndividuals s.size (map a vars)
        individuals_at = AreIndividuals-range s.size (map a vars)
            (All-values (Contains (range_with_len 0 s.size)) a vars
            (λ v at. inside v (inr (subst (IsInHead v) (sym e) at))))

        back : value (structure_of t) a (head_formula (HAtom flag pred vars)) ≡ Yes
            → value (structure_of t) a (head_formula rule.head) ≡ Yes
        back met_now = ap (λ h. value (structure_of t) a (head_formula h)) e ∙ met_now

        now : value (structure_of s) a (head_formula rule.head) ≡ Yes
            → value (structure_of t) a (head_formula (HAtom flag pred vars)) ≡ Yes
        now was = atom-yes flag t a pred vars
            ((stays pred).met flag (vars, e) (map a vars)
            (subst (λ n. AreIndividuals n (map a vars)) alike.size individuals_at)
            (yes-atom flag s a pred vars (ap (λ h. value (structure_of s) a (head_formula h)) (sym e) ∙ was)))

        other : MayStayHalf (structure_of s) a rule.head → value_at t pred (map a vars) ≢ known (not flag)
        other may is = half-atom flag s a pred vars
            (ap (λ h. value (structure_of s) a (head_formula h)) (sym e) ∙ may.half)
            ((stays pred).seen (not flag) (inr (subst (IsHeadOf pred) (sym e) refl, (may.var, may.twice)))
            (map a vars) individuals_at is)

        half : MayStayHalf (structure_of s) a rule.head → IsHeadMet (structure_of t) a rule.head
        half may = ⊎_elim (λ yes. inl (back yes))
            (λ is. inr (record {
              var = may.var;
              twice = may.twice;
              summary = summary may;
              half = ap (λ h. value (structure_of t) a (head_formula h)) e ∙ is;
            }))
            (yes-or-half flag t a pred vars (other may))
    head (HSame flag v w) e met = ⊎_elim (λ yes. inl (sym same ∙ yes))
        (λ may. inr (record {
          var = may.var;
          twice = may.twice;
          summary = summary may;
          half = sym same ∙ may.half;
        })) met
      where
        signed : (f : Bool) → value (structure_of s) a (head_formula (HSame f v w))
            ≡ value (structure_of t) a (head_formula (HSame f v w))
        signed true = same-equality s t alike (a v) (a w) (inside v (inr (subst (IsInHead v) (sym e) (inl refl))))
        signed false = ap negation_of
            (same-equality s t alike (a v) (a w) (inside v (inr (subst (IsInHead v) (sym e) (inl refl)))))

        same : value (structure_of s) a (head_formula rule.head) ≡ value (structure_of t) a (head_formula rule.head)
        same = subst (λ h. value (structure_of s) a (head_formula h) ≡ value (structure_of t) a (head_formula h))
            (sym e) (signed flag)
