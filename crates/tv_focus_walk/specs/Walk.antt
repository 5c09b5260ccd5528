-- What a walk through the choices of a stage knows.
use Rattle.std.specs.Prelude.{ℕ, ◌≡◌, ◌<◌, ◌≤◌, ◌+◌, ◌⊎◌, ◌++◌, Bool, true, false, List, [], ◌∷◌, length, map}
use Rattle.std.specs.Prelude.{All, Any, Contains, IsTrue, Some, nat_le, slice_get, if◌then◌else◌}
use Rattle.std.specs.List.{AllByRecursion}
use Rattle.tv_kleene.specs.declared.K3.{K3}
use Rattle.tv_kleene.specs.declared.K3.TheVariants.{No, Yes}
use Rattle.tv_model.specs.Program.{ProgramForm, RuleForm, HAtom, program_of}
use Rattle.tv_model.specs.Valid.{IsValid}
use Rattle.tv_kleene.specs.Kleene.{LiesUnder}
use Rattle.tv_stable_laws.specs.Laws.{IsPlainRule}
use Rattle.tv_stable_laws.specs.Stable.{IsStable, IsStableUnder}
use Rattle.tv_rules.specs.Seen.{Sees}
use Rattle.tv_rules.specs.Standing.{SeesSummaries}
use Rattle.tv_structure_form.specs.StructureForm.{StructureForm, IsStructure, structure_of, value_at}
use Rattle.tv_eval.specs.ScratchForm.{ScratchForm, IsMadeFor}
use Rattle.tv_rules.specs.Closing.{closed_rules}
use Rattle.tv_rules.specs.EntryForms.{rules_of}
use Rattle.tv_coerce.specs.RuleSets.{IsIn, IsStableBut}
use Rattle.tv_focus_laws.specs.Choices.{AimForm, Alone, Before, Behind, ChoiceForm, VectorSet}
use Rattle.tv_focus_laws.specs.Written.{WriteForm, chosen_table}
use Rattle.tv_focus_step_laws.specs.Above.{IsBegun, IsOther, IsSplitSoFar, HasNoStableChoice, LeadsTo}
use Rattle.tv_focus_step_laws.specs.Above.{aim_after, copies_so_far, writes_at}
use Rattle.tv_focus.specs.Anchored.{IsAimOver}
use Rattle.tv_focus.specs.Focused.{IsChoosing, tables_in}
use Rattle.tv_focus.specs.Puts.{IsChoiceOf}
use Rattle.tv_focus.specs.Seen.{aim_of}
use Rattle.tv_step_laws.specs.Parts.{AreFrom}
use Rattle.tv_step_laws.specs.Shaped.{IsShaped}
use Rattle.tv_step_laws.specs.Transfer.{Coerces}
use Rattle.tv_focus_walk.specs.declared.walk.Walk.{Walk}
use Rattle.tv_focus_walk.specs.declared.narrow.Given.{Given}
use Rattle.tv_focus_walk.specs.declared.narrow.Outlook.{Outlook}
use Rattle.tv_focus_walk.specs.declared.narrow.Outlook.TheVariants.{Nothing, Same, Next}
use Rattle.tv_focus_walk.specs.declared.since.Since.{Since}
use Rattle.tv_focus_walk.specs.declared.walk.Hand.{Hand}
use Rattle.tv_focus_walk.specs.declared.fits.Test.{Test}
use Rattle.tv_focus_walk.specs.declared.fits.Test.TheVariants.{Same as same, Under}

abbrev pub walk_program : Walk → ProgramForm
walk_program w = program_of w.program.now

abbrev pub walk_pred : Walk → ℕ
walk_pred w = w.choosing.now.pred.0

abbrev pub walk_aim : Walk → AimForm
walk_aim w = aim_of w.choosing.now.aim

-- the table of a choice
abbrev pub walk_table : Walk → ChoiceForm → StructureForm
walk_table w choice = chosen_table w.from.now (walk_pred w) (walk_aim w) choice

-- the choices are those of a stable structure over the program, and only the rules that wait may be unmet in
-- them
pub record CanWalk (w : Walk) (scratch : ScratchForm) : Type 0 where
  pub valid : IsValid (walk_program w)
  pub rules : rules_of w.closed.now ≡ closed_rules (walk_program w)
  pub room : IsMadeFor (walk_program w) 256 scratch
  pub shaped : IsShaped (walk_program w) w.from.now
  pub stable : IsStable (closed_rules (walk_program w)) (structure_of w.from.now)
  pub choosing : IsChoosing w.from.now w.choosing.now
  pub count : length w.waiting.now ≡ length (rules_of w.closed.now)
  pub rest : All (IsStableBut (rules_of w.closed.now) w.waiting.now) (tables_in w.from.now w.choosing.now)

-- nothing was done since the structure was stable
pub record IsUnchanged (since : Since) : Type 0 where
  pub no : since.no ≡ false
  pub yes : since.yes ≡ false
  pub copies : since.copies ≡ false
  pub any : since.any ≡ false

-- what was done left the rule met: it sees none of it
pub record IsBlind (w : Walk) (since : Since) (rule : RuleForm) : Type 0 where
  pub no : IsTrue since.no → ¬ Sees (HAtom false (walk_pred w) []) rule
  pub yes : IsTrue since.yes → ¬ Sees (HAtom true (walk_pred w) []) rule
  pub copies : IsTrue since.copies → ¬ SeesSummaries rule
  pub any : ¬ IsTrue since.any

-- the rules that aren't in the set are blind to what was done
pub record HasRulesSince (w : Walk) (since : Since) (set : List Bool) : Type 0 where
  pub count : length set ≡ length (rules_of w.closed.now)
  pub blind : (n : ℕ) (rule : RuleForm) → slice_get (rules_of w.closed.now) n ≡ Some rule → ¬ IsIn set n
      → IsBlind w since rule

-- the closed rules have no marks
abbrev pub ArePlain : Walk → Type 0
ArePlain w = All IsPlainRule (rules_of w.closed.now)

-- only rules that see what was done may be unmet
abbrev pub HasRest : Walk → Since → StructureForm → Type 0
HasRest w since c =
    (rule : RuleForm) → Contains (rules_of w.closed.now) rule → IsBlind w since rule
    → IsStableUnder (structure_of c) rule

-- so it stays
abbrev pub KeepsRest : Walk → (old : Since) → StructureForm → (new : Since) → StructureForm → Type 0
KeepsRest w old s new t = HasRest w old s → HasRest w new t

-- what was done is noted
pub record IsMore (old new : Since) : Type 0 where
  pub no : IsTrue old.no → IsTrue new.no
  pub yes : IsTrue old.yes → IsTrue new.yes
  pub copies : IsTrue old.copies → IsTrue new.copies
  pub any : IsTrue old.any → IsTrue new.any

-- so are values that are put: under those that were there, and all `No`, or all `Yes`
pub record IsNoted (old : Since) (are_under : Bool) (values : List K3) (new : Since) : Type 0 where
  pub more : IsMore old new
  pub sign : IsTrue new.any ⊎ (IsTrue are_under
      × ((IsTrue new.no × All (λ k. k ≡ No) values)
      ⊎ (IsTrue new.yes × (1 ≤ length values) × All (λ k. k ≡ Yes) values)))

-- an individual that isn't marked may stand so often
pub record IsSplittable (c : StructureForm) (at count : ℕ) : Type 0 where
  pub is : IsStructure c
  pub place : at < c.size
  pub some : 1 ≤ count
  pub few : c.size + count ≤ 257
  pub unmarked : ¬ (c.fresh ≡ Some at)

-- the number of an individual where that of the number `at` has so many copies more
abbrev pub shifted_by : (at more : ℕ) → ℕ → ℕ
shifted_by at more a = if nat_le a at then a else a + more

abbrev pub shifted_aim : (at more : ℕ) → AimForm → AimForm
shifted_aim at more Alone = Alone
shifted_aim at more (Before anchors) = Before (map (shifted_by at more) anchors)
shifted_aim at more (Behind anchors) = Behind (map (shifted_by at more) anchors)

-- a structure in which the first individuals have these sets, with the aim among its individuals, and what
-- was done since it was stable
pub record IsReady (w : Walk) (begun : ChoiceForm) (c : StructureForm) (aim : AimForm) (since : Since)
    : Type 0 where
  pub so : IsSplitSoFar w.from.now begun c
  pub aimed : aim ≡ aim_after begun (walk_aim w)
  pub over : IsAimOver c (walk_pred w) aim
  pub rest : HasRest w since c

abbrev pub IsHand : Walk → (begun : ChoiceForm) → Hand → Type 0
IsHand w begun hand =
    IsReady w begun hand.structure.now (aim_of hand.aim.now) hand.since × (hand.at ≡ copies_so_far begun)

-- it leads to the choice
pub record IsAbove (w : Walk) (begun : ChoiceForm) (c : StructureForm) (choice : ChoiceForm) : Type 0 where
  pub of : IsChoiceOf w.from.now (walk_pred w) (walk_aim w) choice
  pub leads : LeadsTo (closed_rules (walk_program w)) w.from.now (walk_pred w) (walk_aim w) choice begun c

-- no stable structure lies below the choice
abbrev pub IsRefuted : Walk → ChoiceForm → Type 0
IsRefuted w choice =
    HasNoStableChoice (closed_rules (walk_program w)) w.from.now (walk_pred w) (walk_aim w) choice

-- the structure has the other definite value where one of the vector's is
abbrev pub HasOther : (c : StructureForm) → (pred : ℕ) → AimForm → (u : ℕ) → List K3 → Type 0
HasOther c pred aim u vector = Any (IsOther c pred) (writes_at aim u vector)

-- what c leads to with the sets `begun`, d leads to with the sets `next`
abbrev pub LeadsOn : Walk → (begun : ChoiceForm) → (c : StructureForm) → (next : ChoiceForm)
    → (d : StructureForm) → Type 0
LeadsOn w begun c next d =
    (choice : ChoiceForm) → IsBegun next choice → IsAbove w begun c choice → IsAbove w next d choice

-- no choice that begins with the sets `next` has a stable structure
abbrev pub AreRefuted : Walk → (begun : ChoiceForm) → (c : StructureForm) → (next : ChoiceForm) → Type 0
AreRefuted w begun c next =
    (choice : ChoiceForm) → IsBegun next choice → IsAbove w begun c choice → IsRefuted w choice

abbrev pub IsGiven : Walk → (next : ChoiceForm) → Given → Type 0
IsGiven w next given = IsReady w next given.structure (aim_of given.aim) given.since

-- what is known of the choices that begin with the sets `next`, of which the first have the structure c
abbrev pub Foresees : Walk → (begun : ChoiceForm) → (c : StructureForm) → (next : ChoiceForm)
    → (kept : Type 0) → Outlook → Type 0
Foresees w begun c next kept Nothing = AreRefuted w begun c next
Foresees w begun c next kept Same = kept
Foresees w begun c next kept (Next given) = IsGiven w next given × LeadsOn w begun c next given.structure

-- once the last of them is put
abbrev pub Sharpens : Walk → (next : ChoiceForm) → (t : StructureForm) → Outlook → Type 0
Sharpens w next t outlook = Foresees w next t next ⊥ outlook

-- once the next individual has the set
abbrev pub Foretells : Walk → (begun : ChoiceForm) → VectorSet → (c : StructureForm) → Outlook → Type 0
Foretells w begun set c outlook = Foresees w begun c (begun ++ set ∷ []) (length set ≡ 1) outlook

-- the vector's value is the structure's, or lies under it
abbrev pub Passes : Test → (x k : K3) → Type 0
Passes same x k = k ≡ x
Passes Under x k = LiesUnder x k

-- so are all values that are put
abbrev pub PassAll : Test → (c : StructureForm) → (pred : ℕ) → List WriteForm → Type 0
PassAll test c pred writes =
    AllByRecursion (λ (w : WriteForm). Passes test w.value (value_at c pred w.tuple)) writes

-- what comes of these structures, coerced or dropped, is put behind the others
abbrev pub AddsCoerced : Walk → List StructureForm → (old new : List StructureForm) → Type 0
AddsCoerced w ts old new =
    (own : List StructureForm) × AreFrom (Coerces (walk_program w)) ts own × (new ≡ old ++ own)
