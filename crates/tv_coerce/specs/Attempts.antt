-- What trying rules makes of a structure, and how far coerce has come.
use Rattle.std.specs.Prelude.{ℕ, ◌≡◌, ◌≢◌, ◌<◌, Bool, true, false, List, [], length, Option, Some, None, All}
use Rattle.std.specs.Prelude.{slice_get}
use Rattle.tv_model.specs.Program.{RuleForm}
use Rattle.tv_embedding_laws.specs.LogicalStructure.{LogicalStructure}
use Rattle.tv_embedding_laws.specs.Embedding.{IsBelow}
use Rattle.tv_stable_laws.specs.Stable.{IsStableUnder, IsStable, HasNoStable}
use Rattle.tv_structure_form.specs.Halves.{half_count}
use Rattle.tv_structure_form.specs.StructureForm.{StructureForm, IsStructure, arities_of, structure_of}
use Rattle.tv_coerce.specs.Coerced.{IsCoercedTable}
use Rattle.tv_coerce.specs.RuleSets.{IsIn, IsStableBut, SeesSome}
use Rattle.tv_coerce.specs.Trying.{IsForced}
use Rattle.tv_coerce.specs.declared.noted.Ask.{Ask}
use Rattle.tv_stable_laws.specs.Laws.{IsPlainRule}
use Rattle.tv_coerce.specs.declared.attempt.Asked.{Asked}
use Rattle.tv_coerce.specs.declared.attempt.Asked.TheVariants.{Changes, Impossible}

-- a rule of that number asks for the change, which each stable structure below has
pub record IsAskedFor (rules : List RuleForm) (s : StructureForm) (ask : Ask) : Type 0 where
  pub rule : RuleForm
  pub there : slice_get rules ask.number ≡ Some rule
  pub forced : IsForced s rule ask.change

-- the new structure is the old one made sharper, in what is asked for
pub record IsSharper (rules : List RuleForm) (asks : List Ask) (old new : StructureForm) : Type 0 where
  pub kept : IsStructure new
  pub size : new.size ≡ old.size
  pub arities : arities_of new ≡ arities_of old
  pub mark : new.fresh ≡ old.fresh
  pub below : IsBelow (structure_of new) (structure_of old)
  pub loses_none : (u : LogicalStructure) → IsStable rules u → IsBelow u (structure_of old)
      → IsBelow u (structure_of new)
  -- a rule that doesn't see what is asked for stays met
  pub unseen : (other : RuleForm) → IsPlainRule other → ¬ SeesSome rules asks other
      → IsStableUnder (structure_of old) other → IsStableUnder (structure_of new) other
  pub fewer : half_count new < half_count old

-- rules ask for changes, of which there are some and which each stable structure below has; the structure is
-- stable under the rules that don't wait, but maybe the one that was tried
pub record AreAsked (rules : List RuleForm) (s : StructureForm) (waiting : List Bool) (tried : ℕ)
    (asks : List Ask)
    : Type 0 where
  pub count : length waiting ≡ length rules
  pub below : tried < length rules
  pub others : (m : ℕ) (rule : RuleForm) → slice_get rules m ≡ Some rule → m ≢ tried → ¬ IsIn waiting m
      → IsStableUnder (structure_of s) rule
  pub forced : All (IsAskedFor rules s) asks
  pub some : asks ≢ []

-- what trying the rules that wait told: the structure is stable, or some ask for changes, or no structure
-- below is stable
abbrev pub IsAttempted : List RuleForm → StructureForm → (waiting : List Bool) → Option Asked → Type 0
IsAttempted rules s waiting None = IsStable rules (structure_of s)
IsAttempted rules s waiting (Some (Changes tried asks)) = AreAsked rules s waiting tried asks.items
IsAttempted rules s waiting (Some Impossible) = HasNoStable rules (structure_of s)

-- t lies below s and above each stable structure below s, and is stable under the rules that don't wait
pub record IsOnTheWay (rules : List RuleForm) (waiting : List Bool) (s t : StructureForm) : Type 0 where
  pub count : length waiting ≡ length rules
  pub kept : IsStructure t
  pub size : t.size ≡ s.size
  pub arities : arities_of t ≡ arities_of s
  pub mark : t.fresh ≡ s.fresh
  pub below : IsBelow (structure_of t) (structure_of s)
  pub loses_none : (u : LogicalStructure) → IsStable rules u → IsBelow u (structure_of s)
      → IsBelow u (structure_of t)
  pub rest : IsStableBut rules waiting t

-- the end: t is what s coerces to, or no stable structure lies below s
abbrev pub IsEnd : List RuleForm → (s t : StructureForm) → Bool → Type 0
IsEnd rules s t true = IsCoercedTable rules s t
IsEnd rules s t false = HasNoStable rules (structure_of s)
