-- What trying rules tells, and what the changes that a rule asks for make of a structure.
use Rattle.std.proofs.Common.{ℕ, ◌≡◌, ◌≢◌, ◌<◌, ◌↔◌, ◌⊎◌, ◌∙◌, inl, inr, Contains, Bool, true, false, List}
use Rattle.std.proofs.Common.{[], ◌∷◌, length, Some, slice_get, get_or, All}
use Rattle.std.proofs.Common.{refl, sym, subst, arith}
use Rattle.std.proofs.lemmas.List.Elements.{All-contains, All-from_get_or, All-weaker}
use Rattle.std.proofs.lemmas.Option.{slice_get-get_or}
use Rattle.tv_model.proofs.Lists.{All-from_contains, slice_get-below}
use Rattle.tv_embedding_laws.specs.Embedding.{IsBelow}
use Rattle.tv_embedding_laws.specs.LogicalStructure.{LogicalStructure}
use Rattle.tv_model.specs.Form.{FZero}
use Rattle.tv_model.specs.Program.{HNever, RuleForm}
use Rattle.tv_model.specs.declared.program.Rule.{Rule}
use Rattle.tv_stable_laws.specs.Laws.{IsPlainRule}
use Rattle.tv_stable_laws.specs.Stable.{HasNoStable, IsStable, IsStableUnder}
use Rattle.tv_eval.specs.declared.evaluator.Evaluator.{Evaluator}
use Rattle.tv_rules.specs.EntryForms.{rules_of}
use Rattle.tv_structure_form.specs.StructureForm.{StructureForm, IsStructure, structure_of}
use Rattle.tv_coerce.specs.declared.noted.Ask.{Ask}
use Rattle.tv_coerce.specs.Attempts.{AreAsked, IsAskedFor, IsSharper}
use Rattle.tv_coerce.specs.Changes.{Has, IsLowered, IsOpen, IsPlace}
use Rattle.tv_rules.specs.Kin.{IsKin}
use Rattle.tv_coerce.specs.RuleSets.{HasFewer, HasLost, IsIn, IsStableBut, SeesSome}
use Rattle.tv_coerce.specs.Sharpened.{IsSharpened}
use Rattle.tv_coerce.specs.Trying.{HasHopeless, IsForcedBy, IsFound, rule_at}
use Rattle.tv_coerce.proofs.Found.{rule-is}
use Rattle.tv_coerce.proofs.OnTheWay.{rule-at, stable-at}
use Rattle.tv_coerce.proofs.Touching.{stable-without, stays-stable, touched-lowered}
use Rattle.tv_coerce.proofs.Walking.{rule-found}

-- ---- the rules that wait are tried

-- the rules that were taken out so far are met
pub record AttemptedUpTo (rules : List RuleForm) (s : StructureForm) (waiting : List Bool) (old now : Evaluator) : Type 0 where
  pub count : length waiting ≡ length rules
  pub rest : IsStableBut rules waiting s
  pub same : now ≡ old

flag-is : (set : List Bool) (m : ℕ) → IsIn set m ⊎ ¬ IsIn set m
flag-is set m = at (get_or set m false)
  where
    at : (b : Bool) → (b ≡ true) ⊎ (b ≢ true)
    at true = inl refl
    at false = inr (λ e. absurd (cc e))

module _ (closed : List Rule) (s : StructureForm) (n : ℕ) (waiting mid : List Bool) (old now new : Evaluator)
    (so_far : AttemptedUpTo (rules_of closed) s waiting old now) (below : n < length waiting) (lost : HasLost n waiting mid)
    (same : new ≡ now) where
  within : n < length (rules_of closed)
  within = omega (arith, below, so_far.count)

  -- all that came of the base rule are met, and don't wait any more
  pub attempted-more : (asks : List Ask) (kin : List ℕ) (last : List Bool) → IsFound closed n s asks → asks ≡ []
      → ((m : ℕ) → Contains kin m ↔ IsKin closed n m) → HasFewer (Contains kin) mid last
      → AttemptedUpTo (rules_of closed) s last old new
  attempted-more asks kin last is none listed fewer = record {
    count = fewer.count ∙ lost.count ∙ so_far.count;
    rest = λ m rule at out. one m rule at out (flag-is mid m);
    same = same ∙ so_far.same;
  }
    where
      stable : (m : ℕ) (rule : RuleForm) → IsKin closed n m → slice_get (rules_of closed) m ≡ Some rule → IsStableUnder (structure_of s) rule
      stable m rule kin-is at = subst (IsStableUnder (structure_of s)) (rule-is closed m s kin-is.within rule at) (is.stable none m kin-is)

      rest-mid : IsStableBut (rules_of closed) mid s
      rest-mid = stable-without s (rules_of closed) n waiting mid so_far.rest lost
          (λ rule at. stable n rule (record { within = within; base = refl }) at)

      one : (m : ℕ) (rule : RuleForm) → slice_get (rules_of closed) m ≡ Some rule → ¬ IsIn last m → IsIn mid m ⊎ ¬ IsIn mid m
          → IsStableUnder (structure_of s) rule
      one m rule at out (inl was) = stable m rule ((listed m).0 (fewer.lost m was out)) at
      one m rule at out (inr gone) = rest-mid m rule at gone

  pub attempted-asked : (asks : List Ask) → IsFound closed n s asks → asks ≢ [] → AreAsked (rules_of closed) s mid n asks
  attempted-asked asks is some = record {
    count = lost.count ∙ so_far.count;
    below = within;
    others = λ m rule at ne out. so_far.rest m rule at (λ was. out ((lost.others m ne).1 was));
    forced = All-weaker (IsForcedBy closed n s) (IsAskedFor (rules_of closed) s) asked asks is.forced;
    some = some;
  }
    where
      asked : (ask : Ask) → IsForcedBy closed n s ask → IsAskedFor (rules_of closed) s ask
      asked ask by = record {
        rule = rule_at closed ask.number;
        there = rule-found closed ask.number by.kin.within;
        forced = by.forced;
      }

pub attempted-never : (closed : List Rule) (s : StructureForm) (n : ℕ) → HasHopeless closed n s
    → HasNoStable (rules_of closed) (structure_of s)
attempted-never closed s n never u low stable =
    let at : (rule : RuleForm) × (slice_get (rules_of closed) never.hopeless ≡ Some rule)
    = rule-at (rules_of closed) never.hopeless never.kin.within
    in never.is u low (subst (IsStableUnder u) (sym (rule-is closed never.hopeless s never.kin.within at.0 at.1))
    (stable-at (rules_of closed) u never.hopeless at.0 at.1 stable))

pub kin-below : (closed : List Rule) (n : ℕ) (kin : List ℕ) (set : List Bool) → ((m : ℕ) → Contains kin m ↔ IsKin closed n m)
    → length set ≡ length (rules_of closed) → All (λ m. m < length set) kin
kin-below closed n kin set listed count =
    All-from_contains (λ m. m < length set) kin (λ m has. omega (arith, ((listed m).0 has).within, count))

pub attempted-all : (rules : List RuleForm) (s : StructureForm) (waiting : List Bool) → IsStableBut rules waiting s
    → ((n : ℕ) → ¬ IsIn waiting n) → IsStable rules (structure_of s)
attempted-all rules s waiting rest none =
    All-from_get_or (IsStableUnder (structure_of s)) rules (record { body = FZero; head = HNever })
    (λ n lt. rest n _ (slice_get-get_or rules n _ lt) (none n))

-- ---- what is asked for is made

-- changes have places there, and rules their numbers
pub places-asked : (rules : List RuleForm) (s : StructureForm) (asks : List Ask) → All (IsAskedFor rules s) asks
    → All (λ ask. IsPlace s ask.change) asks
places-asked rules s asks =
    All-weaker (IsAskedFor rules s) (λ ask. IsPlace s ask.change) (λ ask is. is.forced.place) asks

pub numbers-asked : (rules : List RuleForm) (s : StructureForm) (asks : List Ask) → All (IsAskedFor rules s) asks
    → All (λ ask. ask.number < length rules) asks
numbers-asked rules s asks =
    All-weaker (IsAskedFor rules s) (λ ask. ask.number < length rules)
    (λ ask is. slice_get-below rules ask.number is.rule is.there) asks

some-length : {X : Type 0} (xs : List X) → xs ≢ [] → 0 < length xs
some-length [] some = absurd (some refl)
some-length (x ∷ xs) some = omega arith

module _ (rules : List RuleForm) (asks : List Ask) (old new : StructureForm) (asked : All (IsAskedFor rules old) asks)
    (made : IsSharpened asks (length asks) old new) where
  keeps-none : (u : LogicalStructure) → IsStable rules u → IsBelow u (structure_of old) → IsBelow u (structure_of new)
  keeps-none u stable below = made.loses_none u (All-weaker (IsAskedFor rules old) (λ ask. Has ask.change u) has asks asked) below
    where
      has : (ask : Ask) → IsAskedFor rules old ask → Has ask.change u
      has ask is = is.forced.forced u below (stable-at rules u ask.number is.rule is.there stable)

  keeps-met : (other : RuleForm) → IsPlainRule other → ¬ SeesSome rules asks other
      → IsStableUnder (structure_of old) other → IsStableUnder (structure_of new) other
  keeps-met other plain unseen = made.keeps other step
    where
      step : (ask : Ask) (mid next : StructureForm) → Contains asks ask → IsStructure mid → IsPlace mid ask.change
          → IsLowered ask.change mid next → IsStableUnder (structure_of mid) other → IsStableUnder (structure_of next) other
      step ask mid next there kept place low =
          let is : IsAskedFor rules old ask = All-contains (IsAskedFor rules old) asks ask asked there
          in stays-stable is.rule.head mid next other (touched-lowered is.rule.head mid next ask.change kept place is.forced.of low)
          low.mark low.below plain (λ sees. unseen (ask, there, (is.rule, is.there, sees)))

  pub sharper-made : asks ≢ [] → IsSharper rules asks old new
  sharper-made some = record {
    kept = made.kept;
    size = made.size;
    arities = made.arities;
    mark = made.mark;
    below = made.below;
    loses_none = keeps-none;
    unseen = keeps-met;
    fewer = made.fewer (some-length asks some)
        (All-weaker (IsAskedFor rules old) (λ ask. IsOpen old ask.change) (λ ask is. is.forced.unknown) asks asked);
  }
