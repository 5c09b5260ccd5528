-- Which predicates stand in a rule, and the numbers of the rules that were noted for each.
use Rattle.std.specs.Prelude.{ℕ, ◌≡◌, ◌<◌, ◌⊎◌, ◌↔◌, List, [], ◌∷◌, ◌++◌, length, Some, Contains, slice_get}
use Rattle.std.specs.Prelude.{slice_index_or}
pub use Rattle.tv_model.specs.Form.{mentioned}
use Rattle.tv_model.specs.Program.{HeadForm, HNever, HAtom, HSame, RuleForm}
use Rattle.tv_rules.specs.Standing.{StandsIn}

-- the predicate that the head is about
abbrev pub mentioned_by : HeadForm → List ℕ
mentioned_by HNever = []
mentioned_by (HAtom flag q vars) = q ∷ []
mentioned_by (HSame flag v w) = []

abbrev pub mentioned_in : RuleForm → List ℕ
mentioned_in rule = mentioned rule.body ++ mentioned_by rule.head

-- the number was noted for these predicates, and for no others
pub record Notes (preds : List ℕ) (number : ℕ) (old new : List (List ℕ)) : Type 0 where
  pub count : length new ≡ length old
  pub exact : (q n : ℕ) → q < length old → Contains (slice_index_or new q []) n
      ↔ (Contains (slice_index_or old q []) n ⊎ ((n ≡ number) × Contains preds q))

-- the numbers are those of the rules in which the predicate stands
abbrev pub AreBasesWith : ℕ → List RuleForm → List ℕ → Type 0
AreBasesWith q rules numbers =
    (n : ℕ) → Contains numbers n ↔ ((rule : RuleForm) × (slice_get rules n ≡ Some rule) × StandsIn q rule)

-- of the first rules, so many of them, each is noted for the predicates that stand in it
pub record AreNotedTo (count : ℕ) (rules : List RuleForm) (lists : List (List ℕ)) : Type 0 where
  pub exact : (q n : ℕ) → q < length lists → Contains (slice_index_or lists q []) n
      ↔ ((n < count) × ((rule : RuleForm) × (slice_get rules n ≡ Some rule) × StandsIn q rule))
