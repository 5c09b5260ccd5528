-- The members of a rule that is tried: what is free in them, when they can be valued, and what they stop.
use Rattle.std.proofs.Common.{ℕ, ◌≡◌, ◌≢◌, ◌<◌, ◌≤◌, ◌+◌, ◌⊎◌, inl, inr, ⊎_elim, zero, suc, Bool, true, false}
use Rattle.std.proofs.Common.{List, [], ◌∷◌, ◌++◌, length, map, get_or, Option, None, Some, refl, sym, ap}
use Rattle.std.proofs.Common.{subst}
use Rattle.std.proofs.Common.{◌∙◌, arith}
use Rattle.std.specs.Prelude.{All, Contains, IsSomeAnd, slice_get, option_map}
use Rattle.std.proofs.lemmas.Bool.{cases_eq}
use Rattle.std.proofs.lemmas.List.{append_assoc, get_or_default, length-append}
use Rattle.std.proofs.lemmas.List.Elements.{All-contains, Contains-append_right}
use Rattle.std.proofs.lemmas.Option.{same_Some, slice_get-map}
use Rattle.tv_kleene.specs.declared.K3.{K3}
use Rattle.tv_kleene.specs.declared.K3.TheVariants.{No, Half, Yes}
use Rattle.tv_kleene.specs.Kleene.{negation_of}
use Rattle.tv_model.specs.Form.{Form, FAtom, FSame, IsFree}
use Rattle.tv_model.specs.Program.{HeadForm, HNever, HAtom, HSame, RuleForm}
use Rattle.tv_model.specs.Rules.{IsFreeInRule, IsInHead, head_formula}
use Rattle.tv_model.specs.Truth.{Assignment}
use Rattle.tv_model.specs.Valid.{IsFormulaOver}
use Rattle.tv_model.proofs.Lists.{Contains-cases, Contains-none, pushed-cases, slice_get-contains}
use Rattle.tv_coerce_members.specs.Members.{AreLevels, AreSteps, IsPlaced, IsPlacedIn, IsReadAs, MemberForm}
use Rattle.tv_coerce_members.specs.Members.{WaitsFor}
use Rattle.tv_coerce_members.specs.declared.levels.Level.{Level}
use Rattle.tv_coerce_members.specs.declared.levels.Step.{Step}
use Rattle.tv_embedding_laws.specs.LogicalStructure.{LogicalStructure}
use Rattle.tv_eval_laws.specs.Value.{value}
use Rattle.tv_eval_laws.proofs.Agreed.{only_free_variables_matter}
use Rattle.tv_stable_laws.specs.Stable.{IsHeadMet}
use Rattle.tv_rules.specs.Closing.{conjuncts, negated_head}
use Rattle.tv_rules.proofs.Carried.{conjuncts_carry_formulas}
use Rattle.tv_rules.proofs.Ranges.{free-in_range}
use Rattle.tv_eval.specs.Formulas.{nesting}
use Rattle.tv_eval.specs.ScratchForm.{ScratchForm, HasScratchFor}
use Rattle.tv_structure_form.specs.StructureForm.{StructureForm, arities_of, structure_of}
use Rattle.tv_rules.specs.Kin.{IsKin, IsTriedBy, skip_of}
use Rattle.tv_rules.specs.Waiting.{IsAllBut, forms_in}
use Rattle.tv_coerce_members.specs.Members.{IsSteppedBy, is_literal, members_of}
use Rattle.tv_coerce_members.specs.declared.shapes.Shape.{Shape}
use Rattle.tv_coerce.specs.Counting.{AreLeft, AreOthersYes, Bars, CanRead, CanTest, IsBarring, IsIdle, Lacks}
use Rattle.tv_coerce.specs.Counting.{members_in}
use Rattle.tv_coerce.specs.Counting.{variables_in}
use Rattle.tv_coerce.specs.Ready.{IsHeadOver, IsRuleOver}
use Rattle.tv_coerce.specs.Trying.{ArePlaced, CanTry, IsTrial, rule_at, trial_rule}
use Rattle.tv_coerce.specs.declared.trial.Trial.{Trial}
use Rattle.tv_coerce.proofs.Ready.{fits-conjuncts}

-- ---- what a head denies

negation-no : (x : K3) → negation_of x ≡ No → x ≡ Yes
negation-no No e = absurd (cc e)
negation-no Half e = absurd (cc e)
negation-no Yes e = refl

-- what a head denies is No only where the head is met
denied-no : (s : LogicalStructure) (a : Assignment) (head : HeadForm) → value s a (negated_head head) ≡ No → value s a (head_formula head) ≡ Yes
denied-no s a HNever e = absurd (cc e)
denied-no s a (HAtom true pred vars) e = negation-no (value s a (FAtom pred vars)) e
denied-no s a (HAtom false pred vars) e = ap negation_of e
denied-no s a (HSame true v w) e = negation-no (value s a (FSame v w)) e
denied-no s a (HSame false v w) e = ap negation_of e

denied-over : (arities : List ℕ) (head : HeadForm) → IsHeadOver arities head → IsFormulaOver arities (negated_head head)
denied-over arities HNever over = tt
denied-over arities (HAtom true pred vars) over = over
denied-over arities (HAtom false pred vars) over = over
denied-over arities (HSame true v w) over = over
denied-over arities (HSame false v w) over = over

denied-free : (w : ℕ) (head : HeadForm) → IsFree w (negated_head head) → IsInHead w head
denied-free w HNever free = free
denied-free w (HAtom true pred vars) free = free
denied-free w (HAtom false pred vars) free = free
denied-free w (HSame true v u) free = free
denied-free w (HSame false v u) free = free

denied-nesting : (head : HeadForm) → nesting (negated_head head) ≡ 0
denied-nesting HNever = refl
denied-nesting (HAtom true pred vars) = refl
denied-nesting (HAtom false pred vars) = refl
denied-nesting (HSame true v w) = refl
denied-nesting (HSame false v w) = refl

-- a variable of a rule over predicates
pub rule-variable : (arities : List ℕ) (rule : RuleForm) → IsRuleOver arities rule → (v : ℕ) → IsFreeInRule v rule → v < 32
rule-variable arities rule over v (inl free) = free-in_range arities v rule.body over.body free
rule-variable arities rule over v (inr at) = in-head rule.head over.head at
  where
    in-head : (head : HeadForm) → IsHeadOver arities head → IsInHead v head → v < 32
    in-head HNever over at' = absurd at'
    in-head (HAtom flag q vars) over at' = All-contains (λ x. x < 32) vars v over.1 at'
    in-head (HSame flag w u) over (inl e) = subst (λ x. x < 32) (sym e) over.0
    in-head (HSame flag w u) over (inr e) = subst (λ x. x < 32) (sym e) over.1

-- ---- a member is a conjunct of each rule, or what its head denies

module _ (shape : Shape) (skip : ℕ) (rule : RuleForm) (but : IsAllBut (forms_in shape) skip rule) (k : ℕ) (m : MemberForm)
    (there : slice_get (members_of shape.members) k ≡ Some m) where
  form-there : slice_get (forms_in shape) k ≡ Some m.form
  form-there =
      slice_get-map (λ (x : MemberForm). x.form) (members_of shape.members) k ∙ ap (option_map (λ (x : MemberForm). x.form)) there

  denied-is : k ≡ skip → m.form ≡ negated_head rule.head
  denied-is e =
      same_Some m.form (negated_head rule.head) (sym form-there ∙ ap (slice_get (forms_in shape)) e ∙ but.denied)

  conjunct-in : k ≢ skip → Contains (conjuncts rule.body) m.form
  conjunct-in ne = (but.others m.form).1 (k, ne, form-there)

-- the trial's own rule
pub own-kin : (trial : Trial) → IsTrial trial → IsKin trial.closed.now trial.number trial.number
own-kin trial is = record { within = is.number; base = refl }

pub own-tried : (trial : Trial) → IsTrial trial → IsTriedBy trial.shape.now (skip_of trial.closed.now trial.number) (trial_rule trial)
own-tried trial is = is.kin trial.number (own-kin trial is)

-- the rules have the same variables
pub kin-free : (trial : Trial) (is : IsTrial trial) (n : ℕ) → IsKin trial.closed.now trial.number n → (x : ℕ)
    → IsFreeInRule x (trial_rule trial) → IsFreeInRule x (rule_at trial.closed.now n)
kin-free trial is n kin x free = ((is.kin n kin).free x).0 (((own-tried trial is).free x).1 free)

pub kin-back : (trial : Trial) (is : IsTrial trial) (n : ℕ) → IsKin trial.closed.now trial.number n → (x : ℕ)
    → IsFreeInRule x (rule_at trial.closed.now n) → IsFreeInRule x (trial_rule trial)
kin-back trial is n kin x free = ((own-tried trial is).free x).0 (((is.kin n kin).free x).1 free)

pub kin-variable : (trial : Trial) (is : IsTrial trial) (n : ℕ) → IsKin trial.closed.now trial.number n → (x : ℕ)
    → IsFreeInRule x (rule_at trial.closed.now n) → Contains (variables_in trial) x
kin-variable trial is n kin x free = ((is.kin n kin).free x).1 free

module _ (trial : Trial) (is : IsTrial trial) (k : ℕ) (m : MemberForm) (there : slice_get (members_in trial) k ≡ Some m) where
  member-all : (P : Form → Type 0) → All P (conjuncts (trial_rule trial).body) → P (negated_head (trial_rule trial).head) → P m.form
  member-all P all denied =
      ⊎_elim (λ e. subst P (sym (denied-is trial.shape.now (skip_of trial.closed.now trial.number) (trial_rule trial) (own-tried trial is).but k m there e)) denied)
      (λ ne. All-contains P (conjuncts (trial_rule trial).body) m.form all
      (conjunct-in trial.shape.now (skip_of trial.closed.now trial.number) (trial_rule trial) (own-tried trial is).but k m there ne))
      (cases_eq k (skip_of trial.closed.now trial.number))

  pub member-free : (x : ℕ) → IsFree x m.form → IsFreeInRule x (trial_rule trial)
  member-free =
      member-all (λ g. (x : ℕ) → IsFree x g → IsFreeInRule x (trial_rule trial))
      (λ j d within x free. inl ((conjuncts_carry_formulas (trial_rule trial).body).free j d within x free))
      (λ x free. inr (denied-free x (trial_rule trial).head free))

  module _ (room : ScratchForm) (can : CanTry (trial_rule trial) trial.structure.now room) where
    pub member-over : IsFormulaOver (arities_of trial.structure.now) m.form
    member-over =
        member-all (IsFormulaOver (arities_of trial.structure.now))
        ((conjuncts_carry_formulas (trial_rule trial).body).formulas (arities_of trial.structure.now) can.over.body)
        (denied-over (arities_of trial.structure.now) (trial_rule trial).head can.over.head)

    pub member-fits : HasScratchFor room m.form trial.structure.now.size
    member-fits =
        member-all (λ g. HasScratchFor room g trial.structure.now.size)
        (fits-conjuncts room (trial_rule trial).body trial.structure.now.size can.fits)
        (record { closures = omega (arith, denied-nesting (trial_rule trial).head); individuals = can.fits.individuals })

-- ---- members tell the same where their variables stand for the same

module _ (s : StructureForm) (a b : Assignment) (ms : List MemberForm) (Those : MemberForm → Type 0)
    (same : (k : ℕ) (m : MemberForm) → slice_get ms k ≡ Some m → Those m → (x : ℕ) → IsFree x m.form → a x ≡ b x) where
  values : (k : ℕ) (m : MemberForm) → slice_get ms k ≡ Some m → Those m
      → value (structure_of s) a m.form ≡ value (structure_of s) b m.form
  values k m there those = only_free_variables_matter (structure_of s) m.form a b (same k m there those)

  abbrev pub lacks-agreed : Lacks Those s a ms → Lacks Those s b ms
  lacks-agreed one = record {
    number = one.number;
    member = one.member;
    there = one.there;
    those = one.those;
    lacks = λ yes. one.lacks (only_free_variables_matter (structure_of s) one.member.form a b
        (same one.number one.member one.there one.those) ∙ yes);
  }

  bars-agreed : Bars Those s a ms → Bars Those s b ms
  bars-agreed one = record {
    number = one.number;
    member = one.member;
    there = one.there;
    those = one.those;
    bars = ⊎_elim (λ none. inl (sym here ∙ none)) (λ other. inr (other.0, λ yes. other.1 (here ∙ yes))) one.bars;
  }
    where
      here : value (structure_of s) a one.member.form ≡ value (structure_of s) b one.member.form
      here = values one.number one.member one.there one.those

  pub idle-agreed : IsIdle Those s a ms → IsIdle Those s b ms
  idle-agreed (inl one) = inl (bars-agreed one)
  idle-agreed (inr two) = inr (record { one = lacks-agreed two.one; other = lacks-agreed two.other; apart = two.apart })

-- and fewer members may be spoken of
module _ (s : StructureForm) (a : Assignment) (ms : List MemberForm) (Those Others : MemberForm → Type 0)
    (weaker : (m : MemberForm) → Those m → Others m) where
  abbrev pub lacks-weaker : Lacks Those s a ms → Lacks Others s a ms
  lacks-weaker one = record {
    number = one.number;
    member = one.member;
    there = one.there;
    those = weaker one.member one.those;
    lacks = one.lacks;
  }

  pub idle-weaker : IsIdle Those s a ms → IsIdle Others s a ms
  idle-weaker (inl one) = inl (record {
    number = one.number;
    member = one.member;
    there = one.there;
    those = weaker one.member one.those;
    bars = one.bars;
  })
  idle-weaker (inr two) = inr (record { one = lacks-weaker two.one; other = lacks-weaker two.other; apart = two.apart })

-- ---- where nothing is asked for

-- what a head denies is a literal, or always Yes
denied-literal : (s : LogicalStructure) (a : Assignment) (head : HeadForm) → is_literal (negated_head head) ≡ false
    → value s a (negated_head head) ≡ Yes
denied-literal s a HNever e = refl
denied-literal s a (HAtom true pred vars) e = absurd (cc e)
denied-literal s a (HAtom false pred vars) e = absurd (cc e)
denied-literal s a (HSame true v w) e = absurd (cc e)
denied-literal s a (HSame false v w) e = absurd (cc e)

module _ (trial : Trial) (is : IsTrial trial) (n : ℕ) (kin : IsKin trial.closed.now trial.number n) (b : Assignment)
    (body : value (structure_of trial.structure.now) b (rule_at trial.closed.now n).body ≡ Yes) where
  -- where the body is Yes all members are but the one that the head denies
  pub other-yes : (k : ℕ) (m : MemberForm) → slice_get (members_in trial) k ≡ Some m → k ≢ skip_of trial.closed.now n
      → value (structure_of trial.structure.now) b m.form ≡ Yes
  other-yes k m there ne =
      All-contains (λ g. value (structure_of trial.structure.now) b g ≡ Yes) (conjuncts (rule_at trial.closed.now n).body) m.form
      (((conjuncts_carry_formulas (rule_at trial.closed.now n).body).yes (structure_of trial.structure.now) b).0 body)
      (conjunct-in trial.shape.now (skip_of trial.closed.now n) (rule_at trial.closed.now n) (is.kin n kin).but k m there ne)

  barred : (m : MemberForm) (k : ℕ) → slice_get (members_in trial) k ≡ Some m → IsBarring trial.structure.now b m
      → (k ≡ skip_of trial.closed.now n) ⊎ (k ≢ skip_of trial.closed.now n)
      → IsHeadMet (structure_of trial.structure.now) b (rule_at trial.closed.now n).head
  barred m k there (inl none) (inl here) =
      inl (denied-no (structure_of trial.structure.now) b (rule_at trial.closed.now n).head
      (subst (λ g. value (structure_of trial.structure.now) b g ≡ No)
      (denied-is trial.shape.now (skip_of trial.closed.now n) (rule_at trial.closed.now n) (is.kin n kin).but k m there here) none))
  barred m k there (inr other) (inl here) =
      let is-denied : m.form ≡ negated_head (rule_at trial.closed.now n).head
      = denied-is trial.shape.now (skip_of trial.closed.now n) (rule_at trial.closed.now n) (is.kin n kin).but k m there here
      in absurd (other.1 (subst (λ g. value (structure_of trial.structure.now) b g ≡ Yes) (sym is-denied)
      (denied-literal (structure_of trial.structure.now) b (rule_at trial.closed.now n).head (ap is_literal (sym is-denied) ∙ other.0))))
  barred m k there (inl none) (inr ne) = let clash : No ≡ Yes = sym none ∙ other-yes k m there ne in absurd (cc)
  barred m k there (inr other) (inr ne) = absurd (other.1 (other-yes k m there ne))

  pub idle-met : (Those : MemberForm → Type 0) → IsIdle Those trial.structure.now b (members_in trial)
      → IsHeadMet (structure_of trial.structure.now) b (rule_at trial.closed.now n).head
  idle-met Those (inl one) = barred one.member one.number one.there one.bars (cases_eq one.number (skip_of trial.closed.now n))
  idle-met Those (inr two) =
      ⊎_elim
      (λ here. absurd (two.other.lacks (other-yes two.other.number two.other.member two.other.there
      (λ there. two.apart (here ∙ sym there)))))
      (λ ne. absurd (two.one.lacks (other-yes two.one.number two.one.member two.one.there ne)))
      (cases_eq two.one.number (skip_of trial.closed.now n))

contained-all : {X : Type 0} (P : X → Type 0) (xs : List X) → ((x : X) → Contains xs x → P x) → All P xs
contained-all P xs each k d within = each (get_or xs k d) (k, within, get_or_default xs k (get_or xs k d) d within)

pub form-back : (ms : List MemberForm) (k : ℕ) (g : Form) → slice_get (map (λ (x : MemberForm). x.form) ms) k ≡ Some g
    → (m : MemberForm) × (slice_get ms k ≡ Some m) × (m.form ≡ g)
form-back ms k g found = at (slice_get ms k) refl
  where
    at : (o : Option MemberForm) → slice_get ms k ≡ o → (m : MemberForm) × (slice_get ms k ≡ Some m) × (m.form ≡ g)
    at None e =
        let clash : None ≡ Some g = sym (slice_get-map (λ (x : MemberForm). x.form) ms k ∙ ap (option_map (λ (x : MemberForm). x.form)) e) ∙ found
        in absurd (cc)
    at (Some m) e =
        (m, e, same_Some m.form g (sym (slice_get-map (λ (x : MemberForm). x.form) ms k ∙ ap (option_map (λ (x : MemberForm). x.form)) e) ∙ found))

-- where all members but the denied one are Yes, the body is
pub others-yes : (trial : Trial) (is : IsTrial trial) (n : ℕ) (kin : IsKin trial.closed.now trial.number n) (b : Assignment)
    → AreOthersYes trial.structure.now b (skip_of trial.closed.now n) (members_in trial)
    → value (structure_of trial.structure.now) b (rule_at trial.closed.now n).body ≡ Yes
others-yes trial is n kin b each = ((conjuncts_carry_formulas (rule_at trial.closed.now n).body).yes s b).1 yes
  where
    s : LogicalStructure
    s = structure_of trial.structure.now

    yes : All (λ g. value s b g ≡ Yes) (conjuncts (rule_at trial.closed.now n).body)
    yes = contained-all (λ g. value s b g ≡ Yes) (conjuncts (rule_at trial.closed.now n).body)
        (λ g at. let found : (k : ℕ) × (k ≢ skip_of trial.closed.now n) × (slice_get (forms_in trial.shape.now) k ≡ Some g)
        = ((is.kin n kin).but.others g).0 at
        in let member : (m : MemberForm) × (slice_get (members_in trial) found.0 ≡ Some m) × (m.form ≡ g)
        = form-back (members_in trial) found.0 g found.2
        in subst (λ h. value s b h ≡ Yes) member.2 (each found.0 member.0 member.1 found.1))

negated-yes : (x : K3) → negation_of x ≡ Yes → x ≡ No
negated-yes No e = refl
negated-yes Half e = absurd (cc e)
negated-yes Yes e = absurd (cc e)

denied-yes : (s : LogicalStructure) (a : Assignment) (head : HeadForm) → value s a (negated_head head) ≡ Yes
    → value s a (head_formula head) ≡ No
denied-yes s a HNever e = refl
denied-yes s a (HAtom true pred vars) e = negated-yes (value s a (FAtom pred vars)) e
denied-yes s a (HAtom false pred vars) e = ap negation_of e
denied-yes s a (HSame true v w) e = negated-yes (value s a (FSame v w)) e
denied-yes s a (HSame false v w) e = ap negation_of e

-- a head whose negation is Yes isn't met
pub denied-unmet : (s : LogicalStructure) (a : Assignment) (head : HeadForm) → value s a (negated_head head) ≡ Yes
    → ¬ IsHeadMet s a head
denied-unmet s a head is (inl met) = let clash : No ≡ Yes = sym (denied-yes s a head is) ∙ met in absurd (cc)
denied-unmet s a head is (inr may) = let clash : No ≡ Half = sym (denied-yes s a head is) ∙ may.half in absurd (cc)

-- ---- which variables a member waits for

-- none of these is free in a member that doesn't wait for them
not-waiting : (rest : List ℕ) (m : MemberForm) → WaitsFor rest m → length rest ≤ m.left → (x : ℕ) → Contains rest x → ¬ IsFree x m.form
not-waiting [] m waits enough x has = absurd (Contains-none x has)
not-waiting (v ∷ rest) m waits enough x (zero, within, e) = subst (λ y. ¬ IsFree y m.form) e (waits.0 (omega (arith, enough)))
not-waiting (v ∷ rest) m waits enough x (suc k, within, e) =
    not-waiting rest m waits.2 (omega (arith, enough)) x (k, omega (arith, within), e)

waits-behind : (done rest : List ℕ) (m : MemberForm) → WaitsFor (done ++ rest) m → WaitsFor rest m
waits-behind [] rest m waits = waits
waits-behind (v ∷ done) rest m waits = waits-behind done rest m waits.2

pub left-on : (trial : Trial) (v : ℕ) (rest : List ℕ) → AreLeft trial (v ∷ rest) → AreLeft trial rest
left-on trial v rest left = (left.0 ++ v ∷ [], left.1 ∙ sym (append_assoc left.0 (v ∷ []) (rest ++ trial.last.0 ∷ [])))

module _ (trial : Trial) (is : IsTrial trial) (rest : List ℕ) (left : AreLeft trial rest) where
  pub left-free : (x : ℕ) → Contains (rest ++ trial.last.0 ∷ []) x → IsFreeInRule x (trial_rule trial)
  left-free x at =
      ((own-tried trial is).free x).0 (subst (λ xs. Contains xs x) (sym left.1) (Contains-append_right left.0 (rest ++ trial.last.0 ∷ []) x at))

  pub last-free : IsFreeInRule trial.last.0 (trial_rule trial)
  last-free = left-free trial.last.0 (Contains-append_right rest (trial.last.0 ∷ []) trial.last.0 (0, omega arith, refl))

  module _ (k : ℕ) (m : MemberForm) (there : slice_get (members_in trial) k ≡ Some m) where
    pub left-placed : IsPlaced (left.0 ++ rest) trial.last.0 m
    left-placed =
        (All-contains (IsPlacedIn (variables_in trial)) (members_in trial) m is.laid.placed
        (slice_get-contains (members_in trial) k m there)).placed (left.0 ++ rest) trial.last.0
        (left.1 ∙ sym (append_assoc left.0 rest (trial.last.0 ∷ [])))

    pub left-waits : WaitsFor rest m
    left-waits = waits-behind left.0 rest m left-placed.waits

    pub left-out : length rest ≤ m.left → (x : ℕ) → Contains rest x → ¬ IsFree x m.form
    left-out enough = not-waiting rest m left-waits enough

    -- one in which the last variable doesn't stand either has none of those that are left
    pub own-out : m.last ≡ false → length rest ≤ m.left → (x : ℕ) → Contains (rest ++ trial.last.0 ∷ []) x → ¬ IsFree x m.form
    own-out apart enough x at free =
        ⊎_elim (λ has. left-out enough x has free) (λ e. left-placed.apart apart (subst (λ y. IsFree y m.form) e free))
        (pushed-cases rest trial.last.0 x at)

-- ---- the steps of a level

module _ (trial : Trial) (is : IsTrial trial) (rest : List ℕ) (left : AreLeft trial rest) where
  levels : AreLevels (members_in trial) (1 + length (left.0 ++ rest)) trial.shape.now.levels
  levels = is.laid.levels (left.0 ++ rest) trial.last.0 (left.1 ∙ sym (append_assoc left.0 rest (trial.last.0 ∷ [])))

  pub level-there : length rest < length trial.shape.now.levels
  level-there = omega (arith, levels.long, length-append left.0 rest)

  pub level-own : (l : Level) → slice_get trial.shape.now.levels (length rest) ≡ Some l → AreSteps (members_in trial) (length rest) false l.own
  level-own l found = (levels.each (length rest) l found).0

  pub level-last : (l : Level) → slice_get trial.shape.now.levels (length rest) ≡ Some l → AreSteps (members_in trial) (length rest) true l.last
  level-last l found = (levels.each (length rest) l found).1

pub some-and : {X : Type 0} (o : Option X) (P : X → Type 0) → IsSomeAnd o P → (x : X) × (o ≡ Some x) × P x
some-and None P none = absurd none
some-and (Some x) P holds = (x, refl, holds)

-- the member of a step
abbrev StepOf : List MemberForm → (left : ℕ) → (last : Bool) → Step → Type 0
StepOf ms left last st = (m : MemberForm) × (slice_get ms st.member ≡ Some m) × IsSteppedBy left last st m

module _ (trial : Trial) (is : IsTrial trial) (room : ScratchForm) (can : CanTry (trial_rule trial) trial.structure.now room)
    (rest : List ℕ) (places : List (Option ℕ)) (steps : List Step) where
  pub read-own : (v : ℕ) → AreLeft trial (v ∷ rest)
      → ArePlaced trial.structure.now.size (trial_rule trial) (v ∷ rest ++ trial.last.0 ∷ []) places
      → AreSteps (members_in trial) (length rest) false steps → All (CanRead trial room v places) steps
  read-own v left placed are k d within =
      let found : StepOf (members_in trial) (length rest) false (get_or steps k d)
      = some-and (slice_get (members_in trial) (get_or steps k d).member)
      (IsSteppedBy (length rest) false (get_or steps k d)) (are.each k d within)
      in let m : MemberForm = found.0
      in let number : ℕ = (get_or steps k d).member
      in let on : AreLeft trial rest = left-on trial v rest left
      in record {
        member = m;
        there = found.1;
        literal = found.2.3;
        formula = (
          rule-variable (arities_of trial.structure.now) (trial_rule trial) can.over v
              (left-free trial is (v ∷ rest) left v (0, omega arith, refl)),
          member-over trial is number m found.1 room can,
        );
        assigned = λ x free. placed x (member-free trial is number m found.1 x free.1)
            (λ has. ⊎_elim (λ e. free.0 (sym e)) (λ behind. own-out trial is rest on number m found.1 found.2.1 (omega (arith, found.2.0)) x behind free.1)
            (Contains-cases v x (rest ++ trial.last.0 ∷ []) has));
        fits = member-fits trial is number m found.1 room can;
        read = subst (λ r. IsReadAs v r m.form) found.2.2 ((left-waits trial is (v ∷ rest) left number m found.1).1 found.2.1 found.2.0);
      }

  pub read-last : AreLeft trial rest → ArePlaced trial.structure.now.size (trial_rule trial) (rest ++ trial.last.0 ∷ []) places
      → AreSteps (members_in trial) (length rest) true steps → All (CanRead trial room trial.last.0 places) steps
  read-last left placed are k d within =
      let found : StepOf (members_in trial) (length rest) true (get_or steps k d)
      = some-and (slice_get (members_in trial) (get_or steps k d).member)
      (IsSteppedBy (length rest) true (get_or steps k d)) (are.each k d within)
      in let m : MemberForm = found.0
      in let number : ℕ = (get_or steps k d).member
      in record {
        member = m;
        there = found.1;
        literal = found.2.3;
        formula = (
          rule-variable (arities_of trial.structure.now) (trial_rule trial) can.over trial.last.0 (last-free trial is rest left),
          member-over trial is number m found.1 room can,
        );
        assigned = λ x free. placed x (member-free trial is number m found.1 x free.1)
            (λ has. ⊎_elim (λ behind. left-out trial is rest left number m found.1 (omega (arith, found.2.0)) x behind free.1) free.0
            (pushed-cases rest trial.last.0 x has));
        fits = member-fits trial is number m found.1 room can;
        read = subst (λ r. IsReadAs trial.last.0 r m.form) found.2.2 ((left-placed trial is rest left number m found.1).along found.2.1);
      }

-- members without free variables can be tested
pub test-free : (trial : Trial) → IsTrial trial → (room : ScratchForm) → CanTry (trial_rule trial) trial.structure.now room
    → (left : ℕ) (last : Bool) (places : List (Option ℕ)) (steps : List Step) → AreSteps (members_in trial) left last steps
    → ((k : ℕ) (m : MemberForm) → slice_get (members_in trial) k ≡ Some m → m.left ≡ left → m.last ≡ last → (x : ℕ) → ¬ IsFree x m.form)
    → All (CanTest trial room places) steps
test-free trial is room can left last places steps are none k d within =
    let found : StepOf (members_in trial) left last (get_or steps k d)
    = some-and (slice_get (members_in trial) (get_or steps k d).member)
    (IsSteppedBy left last (get_or steps k d)) (are.each k d within)
    in let number : ℕ = (get_or steps k d).member
    in record {
      member = found.0;
      there = found.1;
      literal = found.2.3;
      formula = member-over trial is number found.0 found.1 room can;
      assigned = λ x free. absurd (none number found.0 found.1 found.2.0 found.2.1 x free);
      fits = member-fits trial is number found.0 found.1 room can;
    }

-- ---- members in which no variable stands

-- of a rule without variables
pub none-free : (trial : Trial) → IsTrial trial → variables_in trial ≡ [] → (k : ℕ) (m : MemberForm) → slice_get (members_in trial) k ≡ Some m
    → (x : ℕ) → ¬ IsFree x m.form
none-free trial is none k m there x free =
    Contains-none x (subst (λ xs. Contains xs x) none (((own-tried trial is).free x).1 (member-free trial is k m there x free)))

-- of any rule, those that wait for none
pub own-none : (trial : Trial) → IsTrial trial → (before : List ℕ) (w : ℕ) → variables_in trial ≡ before ++ w ∷ []
    → (k : ℕ) (m : MemberForm) → slice_get (members_in trial) k ≡ Some m → length before ≤ m.left → m.last ≡ false → (x : ℕ) → ¬ IsFree x m.form
own-none trial is before w vars k m there enough apart x free =
    ⊎_elim (λ has. not-waiting before m placed.waits enough x has free)
    (λ e. placed.apart apart (subst (λ y. IsFree y m.form) e free))
    (pushed-cases before w x (subst (λ xs. Contains xs x) vars (((own-tried trial is).free x).1 (member-free trial is k m there x free))))
  where
    placed : IsPlaced before w m
    placed =
        (All-contains (IsPlacedIn (variables_in trial)) (members_in trial) m is.laid.placed
        (slice_get-contains (members_in trial) k m there)).placed before w vars
