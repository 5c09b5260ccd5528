-- Which definite values came and went, as words of values tell.
use Rattle.std.proofs.Common.{ℕ, ◌≡◌, ◌≢◌, ◌∙◌, ◌<◌, ◌≤◌, ◌+◌, ◌-◌, ◌*◌, ◌⊎◌, Bool, true, false, List, []}
use Rattle.std.proofs.Common.{◌∷◌, length, map, min, cond, inl, inr, ⊎_elim, refl, sym, ap, subst, arith}
use Rattle.std.proofs.Common.{get_or}
use Rattle.std.proofs.Common.{slice_get, Some}
use Rattle.std.specs.Prelude.{IsTrue, MatchBool}
use Rattle.std.proofs.lemmas.Bool.{cases_eq, cases_lt, lt-ltb}
use Rattle.std.proofs.lemmas.List.{get_or_default, get_or-map, length-map}
use Rattle.tv_kleene.specs.declared.K3.{K3}
use Rattle.tv_kleene.specs.declared.K3.TheVariants.{No, Half, Yes}
use Rattle.tv_kleene.specs.Kleene.{negation_of}
use Rattle.tv_row.specs.Bits.{greatest_in, padded, paired, yes_unless_no}
use Rattle.tv_row.proofs.Extremes.{any_yes}
use Rattle.tv_row.proofs.WordOps.{get_or-padded, get_or-paired, length-padded, length-paired}
use Rattle.tv_structure_form.specs.TableForm.{AreIndividuals}
use Rattle.tv_structure_form.specs.StructureForm.{StructureForm, arities_of, value_at}
use Rattle.tv_struct.specs.StructureRows.{HasArity}
use Rattle.tv_structure_form.proofs.Library.{fits_or_No}
use Rattle.tv_coerce_sets.specs.declared.turned.Turned.{Turned}
use Rattle.tv_coerce_sets.specs.Turned.{HasSameValues, HasTurned, Tells, known}

-- ---- what is told

pub tells-same : (turned : Turned) (x : K3) → Tells turned x x
tells-same turned x = record {
  to_yes = λ e. inl e;
  to_no = λ e. inl e;
  from_yes = λ e. inl e;
  from_no = λ e. inl e;
}

-- the flags of one are flags of the other
pub record HasFlagsOf (old new : Turned) : Type 0 where
  pub to_yes : IsTrue old.to_yes → IsTrue new.to_yes
  pub to_no : IsTrue old.to_no → IsTrue new.to_no
  pub from_yes : IsTrue old.from_yes → IsTrue new.from_yes
  pub from_no : IsTrue old.from_no → IsTrue new.from_no

pub tells-more : (old new : Turned) → HasFlagsOf old new → (x y : K3) → Tells old x y → Tells new x y
tells-more old new more x y told = record {
  to_yes = λ e. ⊎_elim (λ was. inl was) (λ on. inr (more.to_yes on)) (told.to_yes e);
  to_no = λ e. ⊎_elim (λ was. inl was) (λ on. inr (more.to_no on)) (told.to_no e);
  from_yes = λ e. ⊎_elim (λ was. inl was) (λ on. inr (more.from_yes on)) (told.from_yes e);
  from_no = λ e. ⊎_elim (λ was. inl was) (λ on. inr (more.from_no on)) (told.from_no e);
}

-- where no flag is set, nothing changed
pub tells-nothing : (turned : Turned) → ¬ IsTrue turned.to_yes → ¬ IsTrue turned.to_no → ¬ IsTrue turned.from_yes
    → ¬ IsTrue turned.from_no → (x y : K3) → Tells turned x y → x ≡ y
tells-nothing turned to_yes to_no from_yes from_no No y told =
    ⊎_elim (λ e. sym e) (λ on. absurd (from_no on)) (told.from_no refl)
tells-nothing turned to_yes to_no from_yes from_no Yes y told =
    ⊎_elim (λ e. sym e) (λ on. absurd (from_yes on)) (told.from_yes refl)
tells-nothing turned to_yes to_no from_yes from_no Half No told =
    ⊎_elim (λ e. absurd (cc e)) (λ on. absurd (to_no on)) (told.to_no refl)
tells-nothing turned to_yes to_no from_yes from_no Half Half told = refl
tells-nothing turned to_yes to_no from_yes from_no Half Yes told =
    ⊎_elim (λ e. absurd (cc e)) (λ on. absurd (to_yes on)) (told.to_yes refl)

pub same-values : (turned : Turned) (pred : ℕ) (s t : StructureForm) → ((x y : K3) → Tells turned x y → x ≡ y)
    → HasTurned turned pred s t → HasSameValues pred s t
same-values turned pred s t none told tuple inside = none _ _ (told tuple inside)

-- ---- words

-- no value of a word is Yes whose greatest isn't
none-yes : (values : List K3) (i : ℕ) → greatest_in values ≢ Yes → i < length values → get_or values i No ≢ Yes
none-yes values i none lt e = none ((any_yes values).1 (i, Yes, lt, get_or_default values i Yes No lt ∙ e, refl))

mapped-at : (f : K3 → K3) (n : ℕ) (word : List K3) (i : ℕ) → n ≤ 64 → length word ≡ 64 → i < n
    → get_or (padded n (map f word)) i No ≡ f (get_or word i No)
mapped-at f n word i few long lt =
    get_or-padded n (map f word) i few (length-map word f ∙ long) (omega (arith, few, lt))
    ∙ ap (λ t. cond t (get_or (map f word) i No) No) (lt-ltb i n lt)
    ∙ get_or-map f word i No No (omega (arith, few, lt, long))

module _ (n : ℕ) (before now : List K3) (few : n ≤ 64) (was_long : length before ≡ 64) (long : length now ≡ 64) where
  negated-long : (word : List K3) → length word ≡ 64 → length (padded n (map negation_of word)) ≡ 64
  negated-long word is = length-padded n (map negation_of word) few (length-map word negation_of ∙ is)

  old-yes : (x y : K3) → yes_unless_no y (negation_of x) ≢ Yes → y ≡ Yes → x ≡ Yes
  old-yes No Yes none e = absurd (none refl)
  old-yes Half Yes none e = absurd (none refl)
  old-yes Yes y none e = refl
  old-yes No No none e = absurd (cc e)
  old-yes No Half none e = absurd (cc e)
  old-yes Half No none e = absurd (cc e)
  old-yes Half Half none e = absurd (cc e)

  old-no : (x y : K3) → yes_unless_no (negation_of y) x ≢ Yes → y ≡ No → x ≡ No
  old-no No y none e = refl
  old-no Half No none e = absurd (none refl)
  old-no Yes No none e = absurd (none refl)
  old-no Half Half none e = absurd (cc e)
  old-no Half Yes none e = absurd (cc e)
  old-no Yes Half none e = absurd (cc e)
  old-no Yes Yes none e = absurd (cc e)

  pub none-new-yes : greatest_in (paired yes_unless_no now (padded n (map negation_of before))) ≢ Yes → (i : ℕ) → i < n
      → get_or now i No ≡ Yes → get_or before i No ≡ Yes
  none-new-yes none i lt = old-yes (get_or before i No) (get_or now i No)
      (λ e. none-yes (paired yes_unless_no now (padded n (map negation_of before))) i none
      (omega (
        arith,
        few,
        lt,
        long,
        length-paired yes_unless_no now (padded n (map negation_of before)) (long ∙ sym (negated-long before was_long)),
      ))
      (get_or-paired yes_unless_no now (padded n (map negation_of before)) i (omega (arith, few, lt, long))
      (omega (arith, few, lt, negated-long before was_long))
      ∙ ap (yes_unless_no (get_or now i No)) (mapped-at negation_of n before i few was_long lt) ∙ e))

  pub none-new-no : greatest_in (paired yes_unless_no (padded n (map negation_of now)) before) ≢ Yes → (i : ℕ) → i < n
      → get_or now i No ≡ No → get_or before i No ≡ No
  none-new-no none i lt = old-no (get_or before i No) (get_or now i No)
      (λ e. none-yes (paired yes_unless_no (padded n (map negation_of now)) before) i none
      (omega (
        arith,
        few,
        lt,
        negated-long now long,
        length-paired yes_unless_no (padded n (map negation_of now)) before (negated-long now long ∙ sym was_long),
      ))
      (get_or-paired yes_unless_no (padded n (map negation_of now)) before i (omega (arith, few, lt, negated-long now long))
      (omega (arith, few, lt, was_long))
      ∙ ap (λ k. yes_unless_no k (get_or before i No)) (mapped-at negation_of n now i few long lt) ∙ e))

-- a test of a value that isn't Yes
pub unless-yes : (is_yes : Bool) (k : K3) (P : Type 0) → MatchBool is_yes (k ≡ Yes) (k ≢ Yes) → (k ≢ Yes → P)
    → IsTrue is_yes ⊎ P
unless-yes true k P is none = inl refl
unless-yes false k P is none = inr (none is)

-- one word more
pub next-told : (n chunk count : ℕ) (values others : ℕ → K3) (word other : List K3) (old here new : Turned)
    → count ≡ min 64 (n - 64 * chunk)
    → ((i : ℕ) → i < 64 → 64 * chunk + i < n → get_or word i No ≡ values (64 * chunk + i))
    → ((i : ℕ) → i < 64 → 64 * chunk + i < n → get_or other i No ≡ others (64 * chunk + i))
    → ((i : ℕ) → i < count → Tells here (get_or word i No) (get_or other i No))
    → ((x y : K3) → Tells old x y → Tells new x y) → ((x y : K3) → Tells here x y → Tells new x y)
    → ((u : ℕ) → u < 64 * chunk → u < n → Tells old (values u) (others u))
    → (u : ℕ) → u < 64 * (chunk + 1) → u < n → Tells new (values u) (others u)
next-told n chunk count values others word other old here new places left right told from_old from_here before u lt within =
    at (cases_lt u (64 * chunk))
  where
    at : (u < 64 * chunk) ⊎ (64 * chunk ≤ u) → Tells new (values u) (others u)
    at (inl less) = from_old _ _ (before u less within)
    at (inr past) =
        let i : ℕ = u - 64 * chunk
        in let place : 64 * chunk + i ≡ u = omega (arith, past)
        in let inside : i < 64 = omega (arith, past, lt)
        in let below : i < count = omega (arith, past, lt, within, places)
        in subst (λ x. Tells new (values x) (others x)) place
        (from_here _ _
        (subst (λ k. Tells here (values (64 * chunk + i)) k) (right i inside (omega (arith, place, within)))
        (subst (λ k. Tells here k (get_or other i No)) (left i inside (omega (arith, place, within))) (told i below))))

-- one row more
pub next-told_row : (s t : StructureForm) (pred u : ℕ) (old here new : Turned)
    → ((x y : K3) → Tells old x y → Tells new x y) → ((x y : K3) → Tells here x y → Tells new x y)
    → ((k : ℕ) → k < u → (w : ℕ) → w < s.size
    → Tells old (value_at s pred (k ∷ w ∷ [])) (value_at t pred (k ∷ w ∷ [])))
    → ((w : ℕ) → w < s.size → Tells here (value_at s pred (u ∷ w ∷ [])) (value_at t pred (u ∷ w ∷ [])))
    → (k : ℕ) → k < u + 1 → (w : ℕ) → w < s.size
    → Tells new (value_at s pred (k ∷ w ∷ [])) (value_at t pred (k ∷ w ∷ []))
next-told_row s t pred u old here new from_old from_here before row k lt w within =
    ⊎_elim (λ below. from_old _ _ (before k below w within))
    (λ past. let same : k ≡ u = omega (arith, lt, past)
    in subst (λ x. Tells new (value_at s pred (x ∷ w ∷ [])) (value_at t pred (x ∷ w ∷ []))) (sym same)
    (from_here _ _ (row w within)))
    (cases_lt k u)

-- ---- tables

-- it is enough to look at tuples of the predicate's arity
by-arity : (turned : Turned) (s t : StructureForm) (pred n : ℕ) → arities_of s ≡ arities_of t → HasArity s pred n
    → ((tuple : List ℕ) → length tuple ≡ n → AreIndividuals s.size tuple
    → Tells turned (value_at s pred tuple) (value_at t pred tuple))
    → HasTurned turned pred s t
by-arity turned s t pred n over arity told tuple within =
    ⊎_elim (λ e. told tuple e within)
    (λ ne. subst (Tells turned (value_at s pred tuple)) (not-in s arity ne ∙ sym (not-in t there ne))
    (tells-same turned (value_at s pred tuple)))
    (cases_eq (length tuple) n)
  where
    there : HasArity t pred n
    there = subst (λ arities. slice_get arities pred ≡ Some n) over arity

    not-in : (r : StructureForm) → HasArity r pred n → length tuple ≢ n → value_at r pred tuple ≡ No
    not-in r known ne =
        ⊎_elim (λ fits. absurd (ne (cc (fits, known)))) (λ no. no) (fits_or_No r pred tuple)

pub turned-nullary : (turned : Turned) (s t : StructureForm) (pred : ℕ) → arities_of s ≡ arities_of t
    → HasArity s pred 0 → Tells turned (value_at s pred []) (value_at t pred []) → HasTurned turned pred s t
turned-nullary turned s t pred over arity told = by-arity turned s t pred 0 over arity each
  where
    each : (tuple : List ℕ) → length tuple ≡ 0 → AreIndividuals s.size tuple
        → Tells turned (value_at s pred tuple) (value_at t pred tuple)
    each [] e within = told
    each (u ∷ us) e within = absurd (omega (arith, e))

pub turned-unary : (turned : Turned) (s t : StructureForm) (pred : ℕ) → arities_of s ≡ arities_of t
    → HasArity s pred 1
    → ((u : ℕ) → u < s.size → Tells turned (value_at s pred (u ∷ [])) (value_at t pred (u ∷ [])))
    → HasTurned turned pred s t
turned-unary turned s t pred over arity told = by-arity turned s t pred 1 over arity each
  where
    each : (tuple : List ℕ) → length tuple ≡ 1 → AreIndividuals s.size tuple
        → Tells turned (value_at s pred tuple) (value_at t pred tuple)
    each [] e within = absurd (omega (arith, e))
    each (u ∷ []) e (lt, rest) = told u lt
    each (u ∷ w ∷ us) e within = absurd (omega (arith, e))

pub turned-binary : (turned : Turned) (s t : StructureForm) (pred : ℕ) → arities_of s ≡ arities_of t
    → HasArity s pred 2
    → ((u : ℕ) → u < s.size → (w : ℕ) → w < s.size
    → Tells turned (value_at s pred (u ∷ w ∷ [])) (value_at t pred (u ∷ w ∷ [])))
    → HasTurned turned pred s t
turned-binary turned s t pred over arity told = by-arity turned s t pred 2 over arity each
  where
    each : (tuple : List ℕ) → length tuple ≡ 2 → AreIndividuals s.size tuple
        → Tells turned (value_at s pred tuple) (value_at t pred tuple)
    each [] e within = absurd (omega (arith, e))
    each (u ∷ []) e within = absurd (omega (arith, e))
    each (u ∷ w ∷ []) e (lt, later) = told u lt w later.0
    each (u ∷ w ∷ x ∷ us) e within = absurd (omega (arith, e))
