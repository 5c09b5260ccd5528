-- Trying a rule, variable by variable.
use Rattle.std.proofs.Common.{ℕ, ◌≡◌, ◌≢◌, ◌<◌, ◌≤◌, ◌+◌, ◌-◌, ◌*◌, ◌⊎◌, ◌==◌, if◌then◌else◌, inl, inr}
use Rattle.std.proofs.Common.{⊎_elim}
use Rattle.std.proofs.Common.{zero, suc, Bool, true, false, cond, ltb, min}
use Rattle.std.proofs.Common.{List, [], ◌∷◌, ◌++◌, length, take, drop, get_or, replicate, Option, Some, refl}
use Rattle.std.proofs.Common.{sym, ap}
use Rattle.std.proofs.Common.{subst, ◌∙◌, arith}
use Rattle.std.specs.Prelude.{All, Contains, IsSomeAnd, slice_get, unwrap_or}
use Rattle.std.specs.List.{range_with_len}
use Rattle.std.proofs.lemmas.Bool.{cases_eq, cases_lt, cond-true, cond-false, eq-eqb, ne_eqb}
use Rattle.std.proofs.lemmas.Bool.{lt-ltb, le-ltb}
use Rattle.std.proofs.lemmas.List.Elements.{All-nil, All-push}
use Rattle.std.proofs.lemmas.List.{get_or-replicate, length-append, length-replicate}
use Rattle.std.proofs.lemmas.Option.{same_Some, slice_get-get_or}
use Rattle.tv_kleene.specs.declared.K3.{K3}
use Rattle.tv_kleene.specs.declared.K3.TheVariants.{No, Half, Yes}
use Rattle.tv_kleene.specs.Kleene.{LiesUnder, larger_of}
use Rattle.tv_row.specs.Bits.{greatest_in, padded, paired}
use Rattle.tv_row.proofs.WordOps.{get_or-padded, get_or-paired, length-padded, length-paired}
use Rattle.tv_model.specs.Form.{FOne, IsFree}
use Rattle.tv_model.specs.Program.{HeadForm, HNever, HAtom, HSame, RuleForm}
use Rattle.tv_model.specs.Rules.{IsFreeInRule, IsInHead, IsOfIndividuals, head_formula}
use Rattle.tv_model.specs.Truth.{Assignment, put}
use Rattle.tv_model.specs.declared.formula.Var.{Var}
use Rattle.tv_model.specs.declared.program.Rule.{Rule}
use Rattle.tv_model.proofs.Assignments.{put-same, put-other}
use Rattle.tv_model.proofs.Heads.{free-in_head}
use Rattle.tv_model.proofs.Lists.{Contains-cases, Contains-here, Contains-none, Contains-there, pushed-cases}
use Rattle.tv_model.proofs.Lists.{pushed-last}
use Rattle.tv_coerce_members.specs.Members.{MemberForm, numbers_of}
use Rattle.tv_embedding_laws.specs.LogicalStructure.{LogicalStructure}
use Rattle.tv_embedding_laws.specs.Embedding.{IsBelow}
use Rattle.tv_eval_laws.specs.Value.{value}
use Rattle.tv_eval_laws.proofs.Agreed.{only_free_variables_matter}
use Rattle.tv_eval_laws.proofs.Embedded.{values_are_monotone}
use Rattle.tv_stable_laws.specs.Laws.{IsPlainRule}
use Rattle.tv_stable_laws.specs.Stable.{IsTwice, IsHeadMet, IsStableUnder}
use Rattle.tv_rules.specs.EntryForms.{rules_of}
use Rattle.tv_eval.specs.AssignmentForm.{IsAssigned, assignment_of, individual_for}
use Rattle.tv_eval.specs.ScratchForm.{ScratchForm}
use Rattle.tv_structure_form.specs.StructureForm.{StructureForm, structure_of}
use Rattle.tv_structure_form.proofs.Library.{Contains-range, below-range}
use Rattle.tv_rules.specs.Kin.{IsKin}
use Rattle.tv_coerce.specs.Counting.{AreLeft, AreNarrowed, CountTells, IsAt, IsCounted, IsFrom, IsIdle}
use Rattle.tv_coerce.specs.Counting.{IsWalkStart, Lacks}
use Rattle.tv_coerce.specs.Counting.{counted}
use Rattle.tv_coerce.specs.Counting.{members_in, variables_in}
use Rattle.std.specs.Borrow.{Bor}
use Rattle.tv_coerce.specs.declared.noted.Ask.{Ask}
use Rattle.tv_coerce.specs.declared.noted.Queue.{Queue}
use Rattle.tv_coerce.specs.Ready.{CanCoerce}
use Rattle.tv_coerce.specs.Trying.{AreNoted, ArePlaced, CanTry, DifferOnlyAt, GoesOn, IsAdded, IsForcedBy}
use Rattle.tv_coerce.specs.Trying.{IsForced}
use Rattle.tv_coerce.specs.Trying.{IsHopeless, IsNeed, IsNotedOf, IsTold, IsTrial, IsTrialResult}
use Rattle.tv_coerce.specs.Trying.{rule_at, trial_rule}
use Rattle.tv_coerce.specs.Walks.{AreMet, AreTriedFor, GoesOnIn, IsAny, IsBetween, IsInChunk, IsTriedFor}
use Rattle.tv_coerce.specs.declared.trial.Outcome.{Outcome}
use Rattle.tv_coerce.specs.declared.trial.Outcome.TheVariants.{Possible, Impossible}
use Rattle.tv_coerce.specs.declared.trial.Trial.{Trial}
use Rattle.tv_coerce.specs.declared.change.Change.{Change}
use Rattle.tv_coerce.specs.declared.change.Need.TheVariants.{Never, Put}
use Rattle.tv_coerce.proofs.Heads.{placed}
use Rattle.tv_coerce.proofs.Counts.{counted-half, counted-no, counted-some}
use Rattle.tv_coerce.proofs.Placing.{idle-agreed, idle-met, idle-weaker, kin-free, kin-variable, lacks-agreed}
use Rattle.tv_coerce.proofs.Placing.{lacks-weaker}
use Rattle.tv_coerce.proofs.Placing.{last-free, left-free, left-on, left-out, member-free, own-kin, own-out}
use Rattle.tv_coerce.proofs.Placing.{own-tried}

-- ---- where all variables are placed

pub rule-found : (closed : List Rule) (n : ℕ) → n < length (rules_of closed) → slice_get (rules_of closed) n ≡ Some (rule_at closed n)
rule-found closed n within = slice_get-get_or (rules_of closed) n (record { body = FOne; head = HNever }) within

pub placed-individuals : (size : ℕ) (rule : RuleForm) (places : List (Option ℕ)) → ArePlaced size rule [] places
    → IsOfIndividuals (range_with_len 0 size) rule (assignment_of places)
placed-individuals size rule places at v free =
    Contains-range size (assignment_of places v) (placed size (individual_for places v) (at v free (Contains-none v)))

pub met-agreed : (s : LogicalStructure) (a b : Assignment) (head : HeadForm) → ((v : ℕ) → IsInHead v head → b v ≡ a v)
    → IsHeadMet s a head → IsHeadMet s b head
met-agreed s a b head same met = at met
  where
    values : value s a (head_formula head) ≡ value s b (head_formula head)
    values = only_free_variables_matter s (head_formula head) a b (λ v free. sym (same v (free-in_head v head free)))

    in-head : (h : HeadForm) (v : ℕ) → IsTwice v h → IsInHead v h
    in-head HNever v twice = twice
    in-head (HAtom flag pred vars) v twice = subst (λ vs. Contains vs v) (sym twice) (Contains-here v (v ∷ []))
    in-head (HSame flag w u) v twice = inl (sym twice.0)

    at : IsHeadMet s a head → IsHeadMet s b head
    at (inl y) = inl (sym values ∙ y)
    at (inr may) = inr (record {
      var = may.var;
      twice = may.twice;
      summary = ap s.is_summary (same may.var (in-head head may.var may.twice)) ∙ may.summary;
      half = sym values ∙ may.half;
    })

module _ (s : StructureForm) (rule : RuleForm) (places : List (Option ℕ)) (plain : IsPlainRule rule)
    (at : ArePlaced s.size rule [] places) (body : value (structure_of s) (assignment_of places) rule.body ≡ Yes) where
  met-below : (u : LogicalStructure) → IsBelow u (structure_of s) → IsStableUnder u rule
      → IsHeadMet u (assignment_of places) rule.head
  met-below u below stable =
      stable (assignment_of places) inside (still (values_are_monotone rule.body u (structure_of s) (assignment_of places) below
      (λ new. absurd (plain.unmarked new)) (λ v free. inside v (inl free))))
    where
      inside : IsOfIndividuals u.individuals rule (assignment_of places)
      inside v free = subst (λ us. Contains us (assignment_of places v)) (sym below.0) (placed-individuals s.size rule places at v free)

      still : LiesUnder (value u (assignment_of places) rule.body) (value (structure_of s) (assignment_of places) rule.body)
          → value u (assignment_of places) rule.body ≡ Yes
      still (inl same) = same ∙ body
      still (inr half) = let clash : Yes ≡ Half = sym body ∙ half in absurd (cc)

  hopeless-here : IsNeed s (assignment_of places) rule.head Never → IsHopeless s rule
  hopeless-here never u below stable = never u below (met-below u below stable)

  forced-here : (c : Change) → IsNeed s (assignment_of places) rule.head (Put c) → IsForced s rule c
  forced-here c need = record {
    place = need.0;
    unknown = need.1;
    of = need.3;
    forced = λ u below stable. need.2 u below (met-below u below stable);
  }

-- ---- what a walk tells

none-less : {X : Type 0} (xs ys : List X) → length xs ≤ length ys → ys ≡ [] → xs ≡ []
none-less [] ys grows none = refl
none-less (x ∷ xs) ys grows none = absurd (omega (arith, grows, ap length none))

module _ (trial : Trial) where
  pub told-tried : (Tried : Type 0) (noted : Queue) → Tried → IsTold trial Tried noted noted Possible
  told-tried Tried noted tried = record { forced = λ all. all; grows = omega arith; tells = λ none. tried }

  module _ (P Q : Type 0) where
    pub told-so : (old new : Queue) (outcome : Outcome) → (P → Q) → IsTold trial P old new outcome → IsTold trial Q old new outcome
    told-so old new Possible turn told = record
        { forced = told.forced; grows = told.grows; tells = λ none. turn (told.tells none) }
    told-so old new Impossible turn told = record { forced = told.forced; grows = told.grows; tells = told.tells }

    module _ (R : Type 0) (old mid new : Queue) (so_far : IsTold trial P old mid Possible) where
      pub told-both : (P → Q → R) → IsTold trial Q mid new Possible → IsTold trial R old new Possible
      told-both both told = record {
        forced = λ all. told.forced (so_far.forced all);
        grows = omega (arith, so_far.grows, told.grows);
        tells = λ none. both (so_far.tells (none-less mid.list.items new.list.items told.grows none)) (told.tells none);
      }

      pub told-some : new.list.items ≢ [] → IsTold trial Q mid new Possible → IsTold trial R old new Possible
      told-some some told = record {
        forced = λ all. told.forced (so_far.forced all);
        grows = omega (arith, so_far.grows, told.grows);
        tells = λ none. absurd (some none);
      }

      pub told-never : IsTold trial Q mid new Impossible → IsTold trial R old new Impossible
      told-never told = record {
        forced = λ all. told.forced (so_far.forced all);
        grows = omega (arith, so_far.grows, told.grows);
        tells = told.tells;
      }

  -- what one rule asks for under an assignment
  module _ (n : ℕ) (kin : IsKin trial.closed.now trial.number n) (places : List (Option ℕ))
      (plain : IsPlainRule (rule_at trial.closed.now n))
      (at : ArePlaced trial.structure.now.size (rule_at trial.closed.now n) [] places)
      (body : value (structure_of trial.structure.now) (assignment_of places) (rule_at trial.closed.now n).body ≡ Yes) where
    added-forced : (c : Change) (old new : Queue) → IsNeed trial.structure.now (assignment_of places) (rule_at trial.closed.now n).head (Put c)
        → IsAdded (record { number = n; change = c }) old new → AreNoted trial old → AreNoted trial new
    added-forced c old new need (inl list) all =
        subst (All (IsForcedBy trial.closed.now trial.number trial.structure.now)) (sym list)
        (All-push (IsForcedBy trial.closed.now trial.number trial.structure.now) old.list.items (record { number = n; change = c }) all
        (record {
          kin = kin;
          forced = forced-here trial.structure.now (rule_at trial.closed.now n) places plain at body c need;
        }))
    added-forced c old new need (inr (list, some)) all =
        subst (All (IsForcedBy trial.closed.now trial.number trial.structure.now)) (sym list) all

    added-some : (ask : Ask) (old new : Queue) → IsAdded ask old new
        → (length old.list.items ≤ length new.list.items) × (new.list.items ≢ [])
    added-some ask old new (inl list) = (
      omega (arith, ap length list, length-append old.list.items (ask ∷ [])),
      λ none. absurd (omega (arith, ap length none, ap length list, length-append old.list.items (ask ∷ []))),
    )
    added-some ask old new (inr (list, some)) = (omega (arith, ap length list), λ none. some (sym list ∙ none))

    pub noted-told : (Tried : Type 0) (old new : Queue) (outcome : Outcome)
        → (IsHeadMet (structure_of trial.structure.now) (assignment_of places) (rule_at trial.closed.now n).head → Tried)
        → IsNotedOf trial.structure.now (assignment_of places) n (rule_at trial.closed.now n).head old new outcome
        → IsTold trial Tried old new outcome
    noted-told Tried old new Possible turn (inl (same, met)) =
        subst (λ m. IsTold trial Tried old m Possible) (sym same) (told-tried Tried old (turn met))
    noted-told Tried old new Possible turn (inr (c, added, need)) = record {
      forced = added-forced c old new need added;
      grows = (added-some (record { number = n; change = c }) old new added).0;
      tells = λ none. absurd ((added-some (record { number = n; change = c }) old new added).1 none);
    }
    noted-told Tried old new Impossible turn (same, never) = record {
      forced = subst (AreNoted trial) (sym same);
      grows = rw same (omega arith);
      tells = record {
        hopeless = n;
        kin = kin;
        is = hopeless-here trial.structure.now (rule_at trial.closed.now n) places plain at body never;
      };
    }

-- ---- one variable more

-- new gives v the individual u, and all but the variables that are left what the old places give
abbrev pub IsPut : (rest : List ℕ) (v u : ℕ) (old new : List (Option ℕ)) → Type 0
IsPut rest v u old new = (w : ℕ) → ¬ Contains rest w → individual_for new w ≡ (if w == v then Some u else individual_for old w)

module _ (v : ℕ) (rest : List ℕ) where
  not-here : (w : ℕ) → w ≢ v → ¬ Contains rest w → ¬ Contains (v ∷ rest) w
  not-here w ne none at = ⊎_elim (λ e. ne (sym e)) none (Contains-cases v w rest at)

  pub put-kept : (u : ℕ) (old now new : List (Option ℕ)) → DifferOnlyAt (v ∷ rest) old now
      → ((w : ℕ) → individual_for new w ≡ (if w == v then Some u else individual_for now w)) → IsPut rest v u old new
  put-kept u old now new kept is w none = at (cases_eq w v)
    where
      at : (w ≡ v) ⊎ (w ≢ v) → individual_for new w ≡ (if w == v then Some u else individual_for old w)
      at (inl e) = is w ∙ cond-true (w == v) (Some u) (individual_for now w) (eq-eqb w v e)
          ∙ sym (cond-true (w == v) (Some u) (individual_for old w) (eq-eqb w v e))
      at (inr ne) = is w ∙ cond-false (w == v) (Some u) (individual_for now w) (ne_eqb w v ne) ∙ kept w (not-here w ne none)
          ∙ sym (cond-false (w == v) (Some u) (individual_for old w) (ne_eqb w v ne))

  pub kept-more : (u : ℕ) (old now put-there new : List (Option ℕ)) → DifferOnlyAt (v ∷ rest) old now
      → ((w : ℕ) → individual_for put-there w ≡ (if w == v then Some u else individual_for now w)) → DifferOnlyAt rest put-there new
      → DifferOnlyAt (v ∷ rest) old new
  kept-more u old now put-there new kept is later w none =
      later w (λ has. none (Contains-there v w rest has)) ∙ is w ∙ cond-false (w == v) (Some u) (individual_for now w) (ne_eqb w v other) ∙ kept w none
    where
      other : w ≢ v
      other e = none (0, omega arith, sym e)

  pub put-agrees : (u : ℕ) (old new : List (Option ℕ)) → IsPut rest v u old new → (w : ℕ) → ¬ Contains rest w
      → assignment_of new w ≡ put (assignment_of old) v u w
  put-agrees u old new is w none = at (cases_eq w v)
    where
      at : (w ≡ v) ⊎ (w ≢ v) → assignment_of new w ≡ put (assignment_of old) v u w
      at (inl e) = ap (λ o. unwrap_or o 0) (is w none ∙ cond-true (w == v) (Some u) (individual_for old w) (eq-eqb w v e))
          ∙ sym (put-same (assignment_of old) v u w e)
      at (inr ne) = ap (λ o. unwrap_or o 0) (is w none ∙ cond-false (w == v) (Some u) (individual_for old w) (ne_eqb w v ne))
          ∙ sym (put-other (assignment_of old) v u w ne)

  pub put-placed : (size : ℕ) (rule : RuleForm) (u : ℕ) (old new : List (Option ℕ)) → IsPut rest v u old new → u < size
      → ArePlaced size rule (v ∷ rest) old → ArePlaced size rule rest new
  put-placed size rule u old new is small at w free none = case (cases_eq w v)
    where
      case : (w ≡ v) ⊎ (w ≢ v) → IsAssigned size new w
      case (inl e) = subst (λ o. IsSomeAnd o (λ x. x < size)) (sym (is w none ∙ cond-true (w == v) (Some u) (individual_for old w) (eq-eqb w v e))) small
      case (inr ne) = subst (λ o. IsSomeAnd o (λ x. x < size)) (sym (is w none ∙ cond-false (w == v) (Some u) (individual_for old w) (ne_eqb w v ne)))
          (at w free (not-here w ne none))

-- two assignments that agree but for w agree once it has an individual
put-both : (a b : Assignment) (w j x : ℕ) → (x ≢ w → a x ≡ b x) → put a w j x ≡ put b w j x
put-both a b w j x same = at (cases_eq x w)
  where
    at : (x ≡ w) ⊎ (x ≢ w) → put a w j x ≡ put b w j x
    at (inl e) = put-same a w j x e ∙ sym (put-same b w j x e)
    at (inr ne) = put-other a w j x ne ∙ same ne ∙ sym (put-other b w j x ne)

-- what goes on from a and has j for w
pub put-from : (a b : Assignment) (w j x : ℕ) → j ≡ b w → (x ≢ w → b x ≡ a x) → put a w j x ≡ b x
put-from a b w j x e other = at (cases_eq x w)
  where
    at : (x ≡ w) ⊎ (x ≢ w) → put a w j x ≡ b x
    at (inl here) = put-same a w j x here ∙ e ∙ ap b (sym here)
    at (inr ne) = put-other a w j x ne ∙ sym (other ne)

-- ---- words

pub no-or-not : (x : K3) → (x ≡ No) ⊎ (x ≢ No)
no-or-not No = inl refl
no-or-not Half = inr (λ e. absurd (cc e))
no-or-not Yes = inr (λ e. absurd (cc e))

larger-no : (x y : K3) → larger_of x y ≡ No → (x ≡ No) × (y ≡ No)
larger-no No y e = (refl, e)
larger-no Half No e = absurd (cc e)
larger-no Half Half e = absurd (cc e)
larger-no Half Yes e = absurd (cc e)
larger-no Yes y e = absurd (cc e)

pub half-of : (k : K3) → k ≢ No → k ≢ Yes → k ≡ Half
half-of No some other = absurd (some refl)
half-of Half some other = refl
half-of Yes some other = absurd (other refl)

-- where the greatest value is No all are
pub none-some : (word : List K3) → greatest_in word ≡ No → (i : ℕ) → get_or word i No ≡ No
none-some [] none i = refl
none-some (k ∷ word) none zero = (larger-no k (greatest_in word) none).0
none-some (k ∷ word) none (suc i) = none-some word (larger-no k (greatest_in word) none).1 i

-- the word that has the value for all individuals
pub record IsAll (size chunk : ℕ) (k : K3) (word : List K3) : Type 0 where
  pub long : length word ≡ 64
  pub within : (i : ℕ) → i < 64 → get_or word i No ≢ No → 64 * chunk + i < size
  pub all : (i : ℕ) → i < 64 → 64 * chunk + i < size → get_or word i No ≡ k

pub all-word : (size chunk count : ℕ) (k : K3) (word : List K3) → count ≡ min 64 (size - 64 * chunk) → 64 * chunk < size
    → word ≡ padded count (replicate 64 k) → IsAll size chunk k word
all-word size chunk count k word is some whole = record {
  long = ap length whole ∙ length-padded count (replicate 64 k) few (length-replicate 64 k);
  within = λ i low some'. inside i low some' (cases_lt i count);
  all = λ i low within. value-at i low ∙ cond-true (ltb i count) (get_or (replicate 64 k) i No) No
      (lt-ltb i count (omega (arith, is, low, within))) ∙ get_or-replicate 64 i k No low;
}
  where
    few : count ≤ 64
    few = omega (arith, is)

    value-at : (i : ℕ) → i < 64 → get_or word i No ≡ cond (ltb i count) (get_or (replicate 64 k) i No) No
    value-at i low = ap (λ w. get_or w i No) whole ∙ get_or-padded count (replicate 64 k) i few (length-replicate 64 k) low

    inside : (i : ℕ) → i < 64 → get_or word i No ≢ No → (i < count) ⊎ (count ≤ i) → 64 * chunk + i < size
    inside i low some' (inl less) = omega (arith, is, some, less)
    inside i low some' (inr after) =
        absurd (some' (value-at i low ∙ cond-false (ltb i count) (get_or (replicate 64 k) i No) No (le-ltb i count after)))

-- a value counted with each of a word
pub counted-with : (tail : List K3) (k : K3) (word : List K3) → length tail ≡ 64 → word ≡ paired counted tail (padded 64 (replicate 64 k))
    → (length word ≡ 64) × ((i : ℕ) → i < 64 → get_or word i No ≡ counted (get_or tail i No) k)
counted-with tail k word long whole = (
  ap length whole ∙ length-paired counted tail (padded 64 (replicate 64 k)) (long ∙ sym same) ∙ long,
  λ i low. ap (λ w. get_or w i No) whole
      ∙ get_or-paired counted tail (padded 64 (replicate 64 k)) i (omega (arith, low, long)) (omega (arith, low, same))
      ∙ ap (counted (get_or tail i No))
      (get_or-padded 64 (replicate 64 k) i (omega arith) (length-replicate 64 k) low
      ∙ cond-true (ltb i 64) (get_or (replicate 64 k) i No) No (lt-ltb i 64 low) ∙ get_or-replicate 64 i k No low),
)
  where
    same : length (padded 64 (replicate 64 k)) ≡ 64
    same = length-padded 64 (replicate 64 k) (omega arith) (length-replicate 64 k)

-- ---- where a walk begins

abbrev From : ℕ → MemberForm → Type 0
From left = IsFrom left

module _ (trial : Trial) (is : IsTrial trial) where
  -- members that were tested tell the same where what they wait for is the same
  tested-same : (rest : List ℕ) → AreLeft trial rest → (a b : Assignment)
      → ((x : ℕ) → x ≢ trial.last.0 → ¬ Contains rest x → a x ≡ b x) → (j : ℕ)
      → (k : ℕ) (m : MemberForm) → slice_get (members_in trial) k ≡ Some m → length rest ≤ m.left
      → (x : ℕ) → IsFree x m.form → put a trial.last.0 j x ≡ put b trial.last.0 j x
  tested-same rest left a b same j k m there enough x free =
      put-both a b trial.last.0 j x (λ ne. same x ne (λ has. left-out trial is rest left k m there enough x has free))

  -- what the variables that are left stand for doesn't matter
  pub start-kept : (rest : List ℕ) (old new : List (Option ℕ)) (tail : List K3) → DifferOnlyAt (rest ++ trial.last.0 ∷ []) old new
      → IsWalkStart trial rest old tail → IsWalkStart trial rest new tail
  start-kept rest old new tail kept start = record {
    left = start.left;
    chunk = start.chunk;
    narrowed = start.narrowed;
    placed = λ w free none. subst (λ o. IsSomeAnd o (λ x. x < trial.structure.now.size)) (sym (kept w none)) (start.placed w free none);
    long = start.long;
    within = start.within;
    idle = λ i low within none. idle-agreed trial.structure.now (put (assignment_of old) trial.last.0 (64 * trial.chunk + i))
        (put (assignment_of new) trial.last.0 (64 * trial.chunk + i)) (members_in trial) (From (length rest)) (same
        i) (start.idle i low within none);
    half = λ i low within is-half. lacks-agreed trial.structure.now (put (assignment_of old) trial.last.0 (64 * trial.chunk + i))
        (put (assignment_of new) trial.last.0 (64 * trial.chunk + i)) (members_in trial) (From (length rest)) (same
        i) (start.half i low within is-half);
  }
    where
      same : (i : ℕ) (k : ℕ) (m : MemberForm) → slice_get (members_in trial) k ≡ Some m → length rest ≤ m.left
          → (x : ℕ) → IsFree x m.form
          → put (assignment_of old) trial.last.0 (64 * trial.chunk + i) x ≡ put (assignment_of new) trial.last.0 (64 * trial.chunk + i) x
      same i =
          tested-same rest start.left (assignment_of old) (assignment_of new)
          (λ x ne none. sym (ap (λ o. unwrap_or o 0) (kept x (λ has. ⊎_elim none ne (pushed-cases rest trial.last.0 x has)))))
          (64 * trial.chunk + i)

  -- two members of which one is tested before the other are apart
  apart-left : (one other : MemberForm) (j k : ℕ) → slice_get (members_in trial) j ≡ Some one → slice_get (members_in trial) k ≡ Some other
      → (Those : MemberForm → Type 0) → Those one → ¬ Those other → j ≢ k
  apart-left one other j k here there Those is-one is-no same =
      is-no (subst Those (same_Some one other (sym here ∙ ap (slice_get (members_in trial)) same ∙ there)) is-one)

  -- one variable more has its individual, and what can be tested then was
  module _ (v : ℕ) (rest : List ℕ) (places new : List (Option ℕ)) (tail begun word : List K3) (u : ℕ) (k : K3)
      (start : IsWalkStart trial (v ∷ rest) places tail) (within : u < trial.structure.now.size)
      (is-put : IsPut (rest ++ trial.last.0 ∷ []) v u places new)
      (some : k ≢ No)
      (own : k ≡ Half → Lacks (IsAt (length rest) false) trial.structure.now (put (assignment_of places) v u) (members_in trial))
      (with-own : (length begun ≡ 64) × ((i : ℕ) → i < 64 → get_or begun i No ≡ counted (get_or tail i No) k))
      (so_far : IsCounted trial.structure.now.size (assignment_of new) trial.last.0 trial.chunk
      (λ b. Lacks (IsAt (length rest) true) trial.structure.now b (members_in trial))
      (λ b. IsIdle (IsAt (length rest) true) trial.structure.now b (members_in trial)) begun word) where
    abbrev s : StructureForm
    s = trial.structure.now

    abbrev ms : List MemberForm
    ms = members_in trial

    on : AreLeft trial rest
    on = left-on trial v rest start.left

    abbrev here : ℕ → Assignment
    here i = put (assignment_of new) trial.last.0 (64 * trial.chunk + i)

    agrees : (x : ℕ) → ¬ Contains (rest ++ trial.last.0 ∷ []) x → assignment_of new x ≡ put (assignment_of places) v u x
    agrees = put-agrees v (rest ++ trial.last.0 ∷ []) u places new is-put

    -- what was tested before v had its individual
    before-same : (i : ℕ) (j : ℕ) (m : MemberForm) → slice_get ms j ≡ Some m → length (v ∷ rest) ≤
        m.left → (x : ℕ) → IsFree x m.form
        → put (assignment_of places) trial.last.0 (64 * trial.chunk + i) x ≡ here i x
    before-same i =
        tested-same (v ∷ rest) start.left (assignment_of places) (assignment_of new)
        (λ x ne none. sym (agrees x (λ has. ⊎_elim (λ behind. none (Contains-there v x rest behind)) ne (pushed-cases rest trial.last.0 x has))
        ∙ put-other (assignment_of places) v u x (λ e. none (0, omega arith, sym e))))
        (64 * trial.chunk + i)

    lacks-before : (i : ℕ) → Lacks (From (length (v ∷ rest))) s (put (assignment_of places) trial.last.0 (64 * trial.chunk + i)) ms
        → Lacks (From (length (v ∷ rest))) s (here i) ms
    lacks-before i = lacks-agreed s (put (assignment_of places) trial.last.0 (64 * trial.chunk + i)) (here i) ms
        (From (length (v ∷ rest))) (before-same i)

    -- what was tested of v itself
    lacks-own : (i : ℕ) → k ≡ Half → Lacks (IsAt (length rest) false) s (here i) ms
    lacks-own i e =
        lacks-agreed s (put (assignment_of places) v u) (here i) ms (IsAt (length rest) false)
        (λ j m there at x free.
        let out : ¬ Contains (rest ++ trial.last.0 ∷ []) x = λ has. own-out trial is rest on j m there at.1 (omega (arith, at.0)) x has free
        in sym (put-other (assignment_of new) trial.last.0 (64 * trial.chunk + i) x
        (λ e'. out (pushed-last rest trial.last.0 x e')) ∙ agrees x out))
        (own e)

    from-before : (m : MemberForm) → From (length (v ∷ rest)) m → From (length rest) m
    from-before m enough = omega (arith, enough)

    from-own : (last : Bool) (m : MemberForm) → IsAt (length rest) last m → From (length rest) m
    from-own last m at = omega (arith, at.0)

    two-before : (i : ℕ) (last : Bool) → Lacks (From (length (v ∷ rest))) s (here i) ms → Lacks (IsAt (length rest) last) s (here i) ms
        → IsIdle (From (length rest)) s (here i) ms
    two-before i last one other = inr (record {
      one = lacks-weaker s (here i) ms (From (length (v ∷ rest))) (From (length rest)) from-before one;
      other = lacks-weaker s (here i) ms (IsAt (length rest) last) (From (length rest)) (from-own last) other;
      apart = apart-left one.member other.member one.number other.number one.there other.there (From (length (v ∷ rest))) one.those
          (λ enough. absurd (omega (arith, enough, other.those.0)));
    })

    two-own : (i : ℕ) → Lacks (IsAt (length rest) false) s (here i) ms → Lacks (IsAt (length rest) true) s (here i) ms
        → IsIdle (From (length rest)) s (here i) ms
    two-own i one other = inr (record {
      one = lacks-weaker s (here i) ms (IsAt (length rest) false) (From (length rest)) (from-own false) one;
      other = lacks-weaker s (here i) ms (IsAt (length rest) true) (From (length rest)) (from-own true) other;
      apart = apart-left one.member other.member one.number other.number one.there other.there (λ m. m.last ≡ false) one.those.1
          (λ e. let clash : true ≡ false = sym other.those.1 ∙ e in absurd (cc));
    })

    -- the word to begin with
    begun-idle : (i : ℕ) → i < 64 → 64 * trial.chunk + i < s.size → get_or begun i No ≡ No → IsIdle (From (length rest)) s (here i) ms
    begun-idle i low inside none = at (no-or-not (get_or tail i No))
      where
        split : (k ≡ No) ⊎ ((get_or tail i No ≡ Half) × (k ≢ Yes)) → IsIdle (From (length rest)) s (here i) ms
        split (inl e) = absurd (some e)
        split (inr two) = two-before i false (lacks-before i (start.half i low inside two.0)) (lacks-own i (half-of k some two.1))

        at : (get_or tail i No ≡ No) ⊎ (get_or tail i No ≢ No) → IsIdle (From (length rest)) s (here i) ms
        at (inl e) =
            idle-weaker s (here i) ms (From (length (v ∷ rest))) (From (length rest)) from-before
            (idle-agreed s (put (assignment_of places) trial.last.0 (64 * trial.chunk + i)) (here i) ms (From
            (length (v ∷ rest))) (before-same i)
            (start.idle i low inside e))
        at (inr ne) = split (counted-no (get_or tail i No) k ne (sym (with-own.1 i low) ∙ none))

    begun-half : (i : ℕ) → i < 64 → 64 * trial.chunk + i < s.size → get_or begun i No ≡ Half
        → Lacks (From (length (v ∷ rest))) s (here i) ms ⊎ Lacks (IsAt (length rest) false) s (here i) ms
    begun-half i low inside is-half =
        ⊎_elim (λ e. inl (lacks-before i (start.half i low inside e))) (λ e. inr (lacks-own i e))
        (counted-half (get_or tail i No) k (sym (with-own.1 i low) ∙ is-half))

    pub walk-on : IsWalkStart trial rest new word
    walk-on = record {
      left = on;
      chunk = start.chunk;
      narrowed = start.narrowed;
      placed = put-placed v (rest ++ trial.last.0 ∷ []) s.size (trial_rule trial) u places new is-put within start.placed;
      long = so_far.long;
      within = λ i low some'. start.within i low
          (counted-some (get_or tail i No) k (λ e. so_far.some i low some' (with-own.1 i low ∙ e)));
      idle = λ i low inside none. idle-on i low inside none (no-or-not (get_or begun i No));
      half = λ i low inside is-half. ⊎_elim
          (λ was. ⊎_elim (lacks-weaker s (here i) ms (From (length (v ∷ rest))) (From (length rest)) from-before)
          (lacks-weaker s (here i) ms (IsAt (length rest) false) (From (length rest)) (from-own false)) (begun-half i low inside was))
          (lacks-weaker s (here i) ms (IsAt (length rest) true) (From (length rest)) (from-own true)) (so_far.half i low inside is-half);
    }
      where
        with-half : (i : ℕ) → Lacks (IsAt (length rest) true) s (here i) ms
            → Lacks (From (length (v ∷ rest))) s (here i) ms ⊎ Lacks (IsAt (length rest) false) s (here i) ms
            → IsIdle (From (length rest)) s (here i) ms
        with-half i other (inl one) = two-before i true one other
        with-half i other (inr one) = two-own i one other

        idle-on : (i : ℕ) → i < 64 → 64 * trial.chunk + i < s.size → get_or word i No ≡ No
            → (get_or begun i No ≡ No) ⊎ (get_or begun i No ≢ No) → IsIdle (From (length rest)) s (here i) ms
        idle-on i low inside none (inl was) = begun-idle i low inside was
        idle-on i low inside none (inr was) =
            ⊎_elim (idle-weaker s (here i) ms (IsAt (length rest) true) (From (length rest)) (from-own true))
            (λ two. with-half i two.1 (begun-half i low inside two.0)) (so_far.no i low inside was none)

  -- the first word, where the members without variables count as k
  module _ (before : List ℕ) (places : List (Option ℕ)) (k : K3) (word tail : List K3) (vars : variables_in trial ≡ before ++ trial.last.0 ∷ [])
      (nonempty : 64 * trial.chunk < trial.structure.now.size) (narrowed : AreNarrowed trial trial.later.now) (some : k ≢ No)
      (own : k ≡ Half → Lacks (IsAt (length before) false) trial.structure.now (assignment_of places) (members_in trial))
      (all : IsAll trial.structure.now.size trial.chunk k word)
      (so_far : IsCounted trial.structure.now.size (assignment_of places) trial.last.0 trial.chunk
      (λ b. Lacks (IsAt (length before) true) trial.structure.now b (members_in trial))
      (λ b. IsIdle (IsAt (length before) true) trial.structure.now b (members_in trial)) word tail) where
    abbrev first-here : ℕ → Assignment
    first-here i = put (assignment_of places) trial.last.0 (64 * trial.chunk + i)

    first-own : (i : ℕ) → k ≡ Half → Lacks (IsAt (length before) false) trial.structure.now (first-here i) (members_in trial)
    first-own i e =
        lacks-agreed trial.structure.now (assignment_of places) (first-here i) (members_in trial) (IsAt (length before) false)
        (λ j m there at x free. sym (put-other (assignment_of places) trial.last.0 (64 * trial.chunk + i) x
        (λ e'. own-out trial is before ([], vars) j m there at.1 (omega (arith, at.0)) x (pushed-last before trial.last.0 x e') free)))
        (own e)

    first-from : (last : Bool) (m : MemberForm) → IsAt (length before) last m → From (length before) m
    first-from last m at = omega (arith, at.0)

    first-idle : (i : ℕ) → IsIdle (IsAt (length before) true) trial.structure.now (first-here i) (members_in trial)
        ⊎ ((k ≡ Half) × Lacks (IsAt (length before) true) trial.structure.now (first-here i) (members_in trial))
        → IsIdle (From (length before)) trial.structure.now (first-here i) (members_in trial)
    first-idle i (inl idle) =
        idle-weaker trial.structure.now (first-here i) (members_in trial) (IsAt (length before) true) (From (length before)) (first-from true) idle
    first-idle i (inr (e, other)) =
        let one : Lacks (IsAt (length before) false) trial.structure.now (first-here i) (members_in trial) = first-own i e
        in inr (record {
          one = lacks-weaker trial.structure.now (first-here i) (members_in trial) (IsAt (length before) false) (From (length before))
              (first-from false) one;
          other = lacks-weaker trial.structure.now (first-here i) (members_in trial) (IsAt (length before) true) (From (length before))
              (first-from true) other;
          apart = apart-left one.member other.member one.number other.number one.there other.there (λ m. m.last ≡ false) one.those.1
              (λ f. let clash : true ≡ false = sym other.those.1 ∙ f in absurd (cc));
        })

    pub start-first : IsWalkStart trial before places tail
    start-first = record {
      left = ([], vars);
      chunk = nonempty;
      narrowed = narrowed;
      placed = λ x free none. absurd (none (subst (λ xs. Contains xs x) vars (((own-tried trial is).free x).1 free)));
      long = so_far.long;
      within = λ i low some'. all.within i low (so_far.some i low some');
      idle = λ i low inside none. first-idle i
          (⊎_elim (λ idle. inl idle) (λ two. inr (sym (all.all i low inside) ∙ two.0, two.1))
          (so_far.no i low inside (λ e. some (sym (all.all i low inside) ∙ e)) none));
      half = λ i low inside is-half. ⊎_elim
          (λ was. lacks-weaker trial.structure.now (first-here i) (members_in trial) (IsAt (length before) false) (From (length before))
          (first-from false) (first-own i (sym (all.all i low inside) ∙ was)))
          (lacks-weaker trial.structure.now (first-here i) (members_in trial) (IsAt (length before) true) (From (length before))
          (first-from true)) (so_far.half i low inside is-half);
    }

  -- ---- what is passed over is tried

  -- of the last variable
  pub start-passed : (rest : List ℕ) (places : List (Option ℕ)) (tail : List K3) → IsWalkStart trial rest places tail
      → (from end : ℕ) → end ≤ 64 → ((j : ℕ) → from ≤ j → j < end → get_or tail j No ≡ No)
      → AreTriedFor trial
      (λ b. GoesOn (variables_in trial) (rest ++ trial.last.0 ∷ []) (assignment_of places) b
      × IsBetween trial.last.0 (64 * trial.chunk + from) (64 * trial.chunk + end) b)
  start-passed rest places tail start from end few none n kin b (goes, between) individuals body =
      let i : ℕ = b trial.last.0 - 64 * trial.chunk
      in let is-i : 64 * trial.chunk + i ≡ b trial.last.0 = omega (arith, between.0)
      in let within : b trial.last.0 < trial.structure.now.size
      = below-range trial.structure.now.size (b trial.last.0)
      (individuals trial.last.0 (kin-free trial is n kin trial.last.0 (last-free trial is rest start.left)))
      in idle-met trial is n kin b body (From (length rest))
      (idle-agreed trial.structure.now (put (assignment_of places) trial.last.0 (64 * trial.chunk + i)) b (members_in trial) (From (length rest))
      (λ k m there enough x free. put-from (assignment_of places) b trial.last.0 (64 * trial.chunk + i) x is-i
      (λ ne. goes x (kin-variable trial is trial.number (own-kin trial is) x (member-free trial is k m there x free))
      (λ has. ⊎_elim (λ behind. left-out trial is rest start.left k m there enough x behind free) ne
      (pushed-cases rest trial.last.0 x has))))
      (start.idle i (omega (arith, is-i, between.1, few)) (omega (arith, is-i, within))
      (none i (omega (arith, is-i, between.0)) (omega (arith, is-i, between.1)))))

  -- where the word has no individual
  pub none-left : (rest : List ℕ) (places : List (Option ℕ)) (tail : List K3) → IsWalkStart trial rest places tail → greatest_in tail ≡ No
      → AreTriedFor trial (GoesOnIn trial (rest ++ trial.last.0 ∷ []) (assignment_of places))
  none-left rest places tail start none n kin b (goes, between) individuals body =
      start-passed rest places tail start 0 64 (omega arith) (λ j after before. none-some tail none j) n kin b
      (goes, (omega (arith, between.0), between.1)) individuals body

  -- of the variable before those that are left
  pub own-passed : (v chunk : ℕ) (rest : List ℕ) (places : List (Option ℕ)) (all own : List K3) → AreLeft trial (v ∷ rest)
      → IsAll trial.structure.now.size chunk Yes all
      → IsCounted trial.structure.now.size (assignment_of places) v chunk
      (λ b. Lacks (IsAt (length rest) false) trial.structure.now b (members_in trial))
      (λ b. IsIdle (IsAt (length rest) false) trial.structure.now b (members_in trial)) all own
      → (from end : ℕ) → end ≤ 64 → ((j : ℕ) → from ≤ j → j < end → get_or own j No ≡ No)
      → AreTriedFor trial
      (λ b. GoesOn (variables_in trial) (v ∷ rest ++ trial.last.0 ∷ []) (assignment_of places) b
      × IsBetween v (64 * chunk + from) (64 * chunk + end) b)
  own-passed v chunk rest places all own left whole so_far from end few none n kin b (goes, between) individuals body =
      let i : ℕ = b v - 64 * chunk
      in let is-i : 64 * chunk + i ≡ b v = omega (arith, between.0)
      in let within : b v < trial.structure.now.size
      = below-range trial.structure.now.size (b v)
      (individuals v (kin-free trial is n kin v (left-free trial is (v ∷ rest) left v (0, omega arith, refl))))
      in let low : i < 64 = omega (arith, is-i, between.1, few)
      in let inside : 64 * chunk + i < trial.structure.now.size = omega (arith, is-i, within)
      in let yes : get_or all i No ≡ Yes = whole.all i low inside
      in let idle : IsIdle (IsAt (length rest) false) trial.structure.now (put (assignment_of places) v (64 * chunk + i)) (members_in trial)
      = ⊎_elim (λ idle. idle) (λ two. let clash : Yes ≡ Half = sym yes ∙ two.0 in absurd (cc))
      (so_far.no i low inside (λ e. let clash : Yes ≡ No = sym yes ∙ e in absurd (cc))
      (none i (omega (arith, is-i, between.0)) (omega (arith, is-i, between.1))))
      in idle-met trial is n kin b body (IsAt (length rest) false)
      (idle-agreed trial.structure.now (put (assignment_of places) v (64 * chunk + i)) b (members_in trial) (IsAt (length rest) false)
      (λ k m there at x free. put-from (assignment_of places) b v (64 * chunk + i) x is-i
      (λ ne. goes x (kin-variable trial is trial.number (own-kin trial is) x (member-free trial is k m there x free))
      (λ has. ⊎_elim (λ e. ne (sym e))
      (λ behind. own-out trial is rest (left-on trial v rest left) k m there at.1 (omega (arith, at.0)) x behind free)
      (Contains-cases v x (rest ++ trial.last.0 ∷ []) has))))
      idle)

  pub last-placed : (places new : List (Option ℕ)) (tail : List K3) (i : ℕ) → IsWalkStart trial [] places tail → i < 64
      → get_or tail i No ≢ No
      → ((w : ℕ) → individual_for new w ≡ (if w == trial.last.0 then Some (64 * trial.chunk + i) else individual_for places w))
      → ArePlaced trial.structure.now.size (trial_rule trial) [] new
  last-placed places new tail i start low some is-new =
      put-placed trial.last.0 [] trial.structure.now.size (trial_rule trial) (64 * trial.chunk + i) places new (λ w none. is-new w)
      (start.within i low some) start.placed

  -- members without variables rule everything out
  pub idle-everywhere : (a : Assignment) (Those : MemberForm → Type 0) → IsIdle Those trial.structure.now a (members_in trial)
      → ((k : ℕ) (m : MemberForm) → slice_get (members_in trial) k ≡ Some m → Those m → (x : ℕ) → ¬ IsFree x m.form)
      → AreTriedFor trial IsAny
  idle-everywhere a Those idle none n kin b any individuals body =
      idle-met trial is n kin b body Those
      (idle-agreed trial.structure.now a b (members_in trial) Those (λ k m there those x free. absurd (none k m there those x free)) idle)

  -- rules without variables
  pub met-everywhere : variables_in trial ≡ [] → (a : Assignment) → AreMet trial a → AreTriedFor trial IsAny
  met-everywhere none a met n kin b any individuals body =
      met-agreed (structure_of trial.structure.now) a b (rule_at trial.closed.now n).head (λ v in-head. absurd (out v (inr in-head)))
      (met n kin (sym (only_free_variables_matter (structure_of trial.structure.now) (rule_at trial.closed.now n).body b a
      (λ v free. absurd (out v (inl free)))) ∙ body))
    where
      out : (v : ℕ) → IsFreeInRule v (rule_at trial.closed.now n) → ⊥
      out v free = Contains-none v (subst (λ xs. Contains xs v) none (kin-variable trial is n kin v free))

-- an individual of which one member isn't Yes
pub own-half : (s : StructureForm) (places : List (Option ℕ)) (v chunk : ℕ) (ms : List MemberForm) (left : ℕ) (all own : List K3)
    → IsAll s.size chunk Yes all
    → IsCounted s.size (assignment_of places) v chunk (λ b. Lacks (IsAt left false) s b ms) (λ b. IsIdle (IsAt left false) s b ms) all own
    → (i : ℕ) → i < 64 → 64 * chunk + i < s.size → get_or own i No ≡ Half
    → Lacks (IsAt left false) s (put (assignment_of places) v (64 * chunk + i)) ms
own-half s places v chunk ms left all own whole so_far i low within is =
    ⊎_elim (λ was. let clash : Yes ≡ Half = sym (whole.all i low within) ∙ was in absurd (cc)) (λ one. one) (so_far.half i low within is)

-- the trial of a chunk of individuals for the last variable
abbrev pub of-chunk : Trial → Var → ℕ → Trial
of-chunk trial last chunk = record {
  structure = trial.structure;
  closed = trial.closed;
  number = trial.number;
  shape = trial.shape;
  last = last;
  chunk = chunk;
  later = trial.later;
}

pub told-of : (trial : Trial) (w : Var) (k : ℕ) (Those : Assignment → Type 0) (old new : Queue)
    → IsTold (of-chunk trial w k) (AreTriedFor (of-chunk trial w k) Those) old new Possible
    → IsTold trial (AreTriedFor trial Those) old new Possible
told-of trial w k Those old new told = record { forced = told.forced; grows = told.grows; tells = told.tells }

-- the trial with this last variable, and with what was narrowed
abbrev pub with-last : Trial → Var → Bor (List (List K3)) → Trial
with-last trial last later = record {
  structure = trial.structure;
  closed = trial.closed;
  number = trial.number;
  shape = trial.shape;
  last = last;
  chunk = trial.chunk;
  later = later;
}

pub told-with : (trial : Trial) (w : Var) (later : Bor (List (List K3))) (Those : Assignment → Type 0) (old new : Queue) (outcome : Outcome)
    → IsTold (with-last trial w later) (AreTriedFor (with-last trial w later) Those) old new outcome
    → IsTold trial (AreTriedFor trial Those) old new outcome
told-with trial w later Those old new Possible told = record { forced = told.forced; grows = told.grows; tells = told.tells }
told-with trial w later Those old new Impossible told = record { forced = told.forced; grows = told.grows; tells = told.tells }

-- where no variable but those that are left is
pub first-tried : (trial : Trial) (before : List ℕ) (a : Assignment) → variables_in trial ≡ before ++ trial.last.0 ∷ []
    → AreTriedFor trial (GoesOnIn trial (before ++ trial.last.0 ∷ []) a) → AreTriedFor trial (IsInChunk trial.last.0 trial.chunk)
first-tried trial before a vars tried n kin b in-chunk =
    tried n kin b ((λ x has none. absurd (none (subst (λ xs. Contains xs x) vars has))), in-chunk)

-- a count tells the same where the variables stand for the same
pub tells-agreed : (s : StructureForm) (a b : Assignment) (ms : List MemberForm) (left : ℕ) (last : Bool) (k : K3)
    → ((j : ℕ) (m : MemberForm) → slice_get ms j ≡ Some m → IsAt left last m → (x : ℕ) → IsFree x m.form → a x ≡ b x)
    → CountTells (Lacks (IsAt left last) s a ms) (IsIdle (IsAt left last) s a ms) k
    → CountTells (Lacks (IsAt left last) s b ms) (IsIdle (IsAt left last) s b ms) k
tells-agreed s a b ms left last No same idle = idle-agreed s a b ms (IsAt left last) same idle
tells-agreed s a b ms left last Half same one = lacks-agreed s a b ms (IsAt left last) same one
tells-agreed s a b ms left last Yes same none = tt

-- ---- what is tried, piece by piece

-- of a rule with these variables
module _ (s : StructureForm) (rule : RuleForm) (vars : List ℕ) (known : (x : ℕ) → IsFreeInRule x rule → Contains vars x) where
  -- the individuals up to one, those that are passed over, and that one, under which the head is met
  pub tried-noted : (w first from i : ℕ) (old-places new-places now : List (Option ℕ)) → DifferOnlyAt (w ∷ []) old-places now
      → ((x : ℕ) → individual_for new-places x ≡ (if x == w then Some (first + i) else individual_for now x))
      → IsTriedFor s rule (λ b. GoesOn vars (w ∷ []) (assignment_of old-places) b × IsBetween w (first + from) (first + i) b)
      → IsTriedFor s rule (λ b. GoesOn vars (w ∷ []) (assignment_of old-places) b × IsBetween w first (first + from) b)
      → (value (structure_of s) (assignment_of new-places) rule.body ≡ Yes → IsHeadMet (structure_of s) (assignment_of new-places) rule.head)
      → IsTriedFor s rule (λ b. GoesOn vars (w ∷ []) (assignment_of old-places) b × IsBetween w first (first + (i + 1)) b)
  tried-noted w first from i old-places new-places now kept is-new passed so_far met b (goes, between) individuals body =
      at (cases_lt (b w) (first + from)) (cases_lt (b w) (first + i))
    where
      is-put : IsPut [] w (first + i) old-places new-places
      is-put = put-kept w [] (first + i) old-places now new-places kept is-new

      same : first + i ≤ b w → (x : ℕ) → IsFreeInRule x rule → b x ≡ assignment_of new-places x
      same here x free =
          sym (put-agrees w [] (first + i) old-places new-places is-put x (Contains-none x)
          ∙ put-from (assignment_of old-places) b w (first + i) x (omega (arith, here, between.1))
          (λ ne. goes x (known x free) (λ has. ⊎_elim (λ e. ne (sym e)) (Contains-none x) (Contains-cases w x [] has))))

      at : (b w < first + from) ⊎ (first + from ≤ b w) → (b w < first + i) ⊎ (first + i ≤ b w) → IsHeadMet (structure_of s) b rule.head
      at (inl less) side = so_far b (goes, (between.0, less)) individuals body
      at (inr more) (inl less) = passed b (goes, (more, less)) individuals body
      at (inr more) (inr here) =
          met-agreed (structure_of s) (assignment_of new-places) b rule.head (λ x in-head. same here x (inr in-head))
          (met (sym (only_free_variables_matter (structure_of s) rule.body b (assignment_of new-places) (λ x free.
          same here x (inl free))) ∙ body))

  -- the same of a variable before others, which were tried with it
  pub tried-next : (v : ℕ) (rest : List ℕ) (w chunk first from i : ℕ) (old-places new-places now : List (Option ℕ))
      → DifferOnlyAt (v ∷ rest) old-places now
      → ((x : ℕ) → individual_for new-places x ≡ (if x == v then Some (first + i) else individual_for now x))
      → IsTriedFor s rule (λ b. (GoesOn vars (v ∷ rest) (assignment_of old-places) b × IsInChunk w chunk b)
      × IsBetween v (first + from) (first + i) b)
      → IsTriedFor s rule (λ b. (GoesOn vars (v ∷ rest) (assignment_of old-places) b × IsInChunk w chunk b) × IsBetween v first (first + from) b)
      → IsTriedFor s rule (λ b. GoesOn vars rest (assignment_of new-places) b × IsInChunk w chunk b)
      → IsTriedFor s rule (λ b. (GoesOn vars (v ∷ rest) (assignment_of old-places) b × IsInChunk w chunk b) × IsBetween v first (first + (i + 1)) b)
  tried-next v rest w chunk first from i old-places new-places now kept is-new passed so_far tried b (goes, between) individuals body =
      at (cases_lt (b v) (first + from)) (cases_lt (b v) (first + i))
    where
      is-put : IsPut rest v (first + i) old-places new-places
      is-put = put-kept v rest (first + i) old-places now new-places kept is-new

      at : (b v < first + from) ⊎ (first + from ≤ b v) → (b v < first + i) ⊎ (first + i ≤ b v) → IsHeadMet (structure_of s) b rule.head
      at (inl less) side = so_far b (goes, (between.0, less)) individuals body
      at (inr more) (inl less) = passed b (goes, (more, less)) individuals body
      at (inr more) (inr here) =
          tried b (
            (λ x has none. sym (put-agrees v rest (first + i) old-places new-places is-put x none
                ∙ put-from (assignment_of old-places) b v (first + i) x (omega (arith, here, between.1))
                (λ ne. goes.0 x has (not-here v rest x ne none)))),
            goes.1,
          )
          individuals body

  -- none of the others has to be tried
  pub tried-rest : (v first from end : ℕ) (Those Others : Assignment → Type 0) → ((b : Assignment) → Those b → Others b)
      → IsTriedFor s rule (λ b. Others b × IsBetween v from end b) → IsTriedFor s rule (λ b. Those b × IsBetween v first from b)
      → IsTriedFor s rule (λ b. Those b × IsBetween v first end b)
  tried-rest v first from end Those Others weaker passed so_far b (those, between) individuals body =
      ⊎_elim (λ less. so_far b (those, (between.0, less)) individuals body)
      (λ more. passed b (weaker b those, (more, between.1)) individuals body)
      (cases_lt (b v) from)

  -- chunk after chunk, where the variables that are left stood for others meanwhile
  pub tried-chunk : (v : ℕ) (rest : List ℕ) (w chunk k : ℕ) (old-places now : List (Option ℕ))
      → DifferOnlyAt (v ∷ rest) old-places now
      → IsTriedFor s rule (λ b. (GoesOn vars (v ∷ rest) (assignment_of old-places) b × IsInChunk w chunk b) × IsBetween v 0 (64 * k) b)
      → IsTriedFor s rule (λ b. (GoesOn vars (v ∷ rest) (assignment_of now) b × IsInChunk w chunk b) × IsInChunk v k b)
      → IsTriedFor s rule (λ b. (GoesOn vars (v ∷ rest) (assignment_of old-places) b × IsInChunk w chunk b) × IsBetween v 0 (64 * (k + 1)) b)
  tried-chunk v rest w chunk k old-places now kept so_far tried b (goes, between) individuals body =
      ⊎_elim (λ less. so_far b (goes, (between.0, less)) individuals body)
      (λ more. tried b (
        ((λ x has none. goes.0 x has none ∙ sym (ap (λ o. unwrap_or o 0) (kept x none))), goes.1),
        (more, omega (arith, between.1)),
      ) individuals body)
      (cases_lt (b v) (64 * k))

  pub tried-last : (w k : ℕ) → IsTriedFor s rule (IsBetween w 0 (64 * k)) → IsTriedFor s rule (IsInChunk w k)
      → IsTriedFor s rule (IsBetween w 0 (64 * (k + 1)))
  tried-last w k so_far tried b between individuals body =
      ⊎_elim (λ less. so_far b (between.0, less) individuals body)
      (λ more. tried b (more, omega (arith, between.1)) individuals body)
      (cases_lt (b w) (64 * k))

  -- no individual is behind the last
  pub tried-whole : (v end : ℕ) (Those : Assignment → Type 0) → IsFreeInRule v rule → s.size ≤ end
      → IsTriedFor s rule (λ b. Those b × IsBetween v 0 end b) → IsTriedFor s rule Those
  tried-whole v end Those free whole tried b those individuals body =
      let within : b v < s.size = below-range s.size (b v) (individuals v free)
      in tried b (those, (omega arith, omega (arith, within, whole))) individuals body

-- ---- lists of variables

take-whole : {X : Type 0} (xs : List X) → take (length xs) xs ≡ xs
take-whole [] = refl
take-whole (x ∷ xs) = ap (λ ys. x ∷ ys) (take-whole xs)

-- the first variable and the others
pub split-vars : (vars : List Var) (d : Var) → 1 ≤ length vars
    → numbers_of vars ≡ (get_or vars 0 d).0 ∷ numbers_of (take (length vars - 1) (drop 1 vars))
split-vars [] d some = absurd (omega (arith, some))
split-vars (v ∷ vars) d some =
    let same : take (length (v ∷ vars) - 1) vars ≡ vars = ap (λ n. take n vars) (omega arith) ∙ take-whole vars
    in ap (λ vs. v.0 ∷ numbers_of vs) (sym same)

pub tail-shorter : (vars : List Var) → 1 ≤ length vars → length (take (length vars - 1) (drop 1 vars)) < length vars
tail-shorter [] some = absurd (omega (arith, some))
tail-shorter (v ∷ vars) some =
    let same : take (length (v ∷ vars) - 1) vars ≡ vars = ap (λ n. take n vars) (omega arith) ∙ take-whole vars
    in omega (arith, ap length same)

-- those before the last, and the last
pub split-last : (vars : List Var) (d : Var) → 1 ≤ length vars
    → numbers_of vars ≡ numbers_of (take (length vars - 1) vars) ++ (get_or vars (length vars - 1) d).0 ∷ []
split-last [] d some = absurd (omega (arith, some))
split-last (v ∷ []) d some = refl
split-last (v ∷ x ∷ vars) d some =
    let one-more : length (v ∷ x ∷ vars) - 1 ≡ suc (length (x ∷ vars) - 1) = omega arith
    in ap (λ vs. v.0 ∷ vs) (split-last (x ∷ vars) d (omega arith))
    ∙ ap (λ k. numbers_of (take k (v ∷ x ∷ vars)) ++ (get_or (v ∷ x ∷ vars) k d).0 ∷ []) (sym one-more)

pub none-at : {X : Type 0} (xs : List X) → length xs < 1 → xs ≡ []
none-at [] few = refl
none-at (x ∷ xs) few = absurd (omega (arith, few))

pub differ-on : (rest : List ℕ) (old now new : List (Option ℕ)) → DifferOnlyAt rest old now → DifferOnlyAt rest now new → DifferOnlyAt rest old new
differ-on rest old now new first second w none = second w none ∙ first w none

-- ---- the end

pub can-try : (closed : List Rule) (n : ℕ) (s : StructureForm) (scratch : ScratchForm) → n < length (rules_of closed)
    → CanCoerce (rules_of closed) s scratch → CanTry (rule_at closed n) s scratch
can-try closed n s scratch within ready =
    let none : RuleForm = record { body = FOne; head = HNever }
    in record { over = ready.over n none within; plain = ready.plain n none within; fits = ready.fits n none within }

-- what was noted is what was found
pub found-told : (trial : Trial) (old new : Queue) (outcome : Outcome) → old.list.items ≡ []
    → IsTold trial (AreTriedFor trial IsAny) old new outcome
    → IsTrialResult trial.closed.now trial.number trial.structure.now new.list.items outcome
found-told trial old new Possible none told =
    let Of : List Ask → Type 0 = All (IsForcedBy trial.closed.now trial.number trial.structure.now)
    in record {
      forced = told.forced (subst Of (sym none) (All-nil (IsForcedBy trial.closed.now trial.number trial.structure.now)));
      stable = λ nothing n kin b individuals body. told.tells nothing n kin b tt individuals body;
    }
found-told trial old new Impossible none told = told.tells

pub can-try-kin : (trial : Trial) (scratch : ScratchForm) (n : ℕ) → IsKin trial.closed.now trial.number n
    → CanCoerce (rules_of trial.closed.now) trial.structure.now scratch
    → CanTry (rule_at trial.closed.now n) trial.structure.now scratch
can-try-kin trial scratch n kin ready = can-try trial.closed.now n trial.structure.now scratch kin.within ready
