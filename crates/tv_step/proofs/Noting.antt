-- Sets of rules that wait after an update.
use Rattle.std.proofs.Common.{ℕ, ◌≡◌, ◌∙◌, ◌<◌, ◌≤◌, ◌+◌, ◌⊎◌, true, false, Bool, List, [], ◌∷◌, length, map}
use Rattle.std.proofs.Common.{◌++◌}
use Rattle.std.proofs.Common.{take, inl, inr, ⊎_elim, refl, ap, subst, arith, add-one, get_or, slice_get}
use Rattle.std.proofs.Common.{Some, All, Contains, replicate}
use Rattle.std.specs.Prelude.{IsTrue}
use Rattle.std.proofs.lemmas.Bool.{cases_lt}
use Rattle.std.proofs.lemmas.List.{get_or-replicate, length-map, length-replicate}
use Rattle.std.proofs.lemmas.Option.{slice_get_within}
use Rattle.std.proofs.Math.Seq.{take-suc}
use Rattle.std.proofs.lemmas.List.Elements.{All-contains}
use Rattle.tv_model.specs.declared.formula.Formula.{Formula}
use Rattle.tv_model.specs.Form.{form_of, Mentions}
use Rattle.tv_model.specs.declared.program.Program.{Program}
use Rattle.tv_model.specs.Program.{ProgramForm, RuleForm, ActionForm, KindForm, KCore, KDefined, pred_of}
use Rattle.tv_model.specs.Program.{program_of}
use Rattle.tv_model.proofs.Lists.{All-from_contains, pushed-cases, slice_get-past}
use Rattle.tv_rules.specs.Standing.{StandsIn, SeesSummaries}
use Rattle.tv_update_laws.specs.Applied.{kind_or_core, kind_at, moves_individuals}
use Rattle.tv_coerce.specs.RuleSets.{IsIn, HasMore, IsRuleThat}
use Rattle.tv_update.specs.Plan.{IsDefined}
use Rattle.tv_coerce_sets.specs.Listed.{AreListed}
use Rattle.tv_step.specs.Waiting.{WaitsAbout, WaitsAfter, WaitsAt, WaitsFor, HasRulesOf}

-- no predicate is asked for
pub rules-none : (P : ℕ → Type 0) (rules : List RuleForm) (set : List Bool) → ((q : ℕ) → P q → ⊥)
    → HasRulesOf P rules set set
rules-none P rules set none = record {
  more = λ n at. at;
  standing = λ n q rule there stands asked. absurd (none q asked);
  count = refl;
}

-- one predicate more
pub rules-more : (P Q : ℕ → Type 0) (r : ℕ) (rules : List RuleForm) (old mid new : List Bool)
    → HasRulesOf P rules old mid → HasMore (IsRuleThat (StandsIn r) rules) mid new
    → ((q : ℕ) → Q q → P q ⊎ (q ≡ r)) → HasRulesOf Q rules old new
rules-more P Q r rules old mid new before more asked = record {
  more = λ n at. (more.exact n).1 (inl (before.more n at));
  standing = λ n q rule there stands holds. ⊎_elim
      (λ earlier. (more.exact n).1 (inl (before.standing n q rule there stands earlier)))
      (λ same. (more.exact n).1 (inr (rule, there, subst (λ z. StandsIn z rule) same stands)))
      (asked q holds);
  count = more.count ∙ before.count;
}

-- first the ones, then the others
pub rules-then : (P Q R : ℕ → Type 0) (rules : List RuleForm) (old mid new : List Bool)
    → HasRulesOf P rules old mid → HasRulesOf Q rules mid new → ((q : ℕ) → R q → P q ⊎ Q q)
    → HasRulesOf R rules old new
rules-then P Q R rules old mid new before after asked = record {
  more = λ n at. after.more n (before.more n at);
  standing = λ n q rule there stands holds. ⊎_elim
      (λ earlier. after.more n (before.standing n q rule there stands earlier))
      (λ later. after.standing n q rule there stands later) (asked q holds);
  count = after.count ∙ before.count;
}

-- one number more
pub below-next : (D : ℕ → Type 0) (on : Bool) (i q : ℕ) → (D i → IsTrue on) → (q < i + 1) × D q
    → ((q < i) × D q) ⊎ ((q ≡ i) × IsTrue on)
below-next D on i q told (lt, is) =
    ⊎_elim (λ below. inl (below, is))
    (λ past. let same : q ≡ i = omega (arith, lt, past) in inr (same, told (subst D same is)))
    (cases_lt q i)

-- the same set, where no predicate more is asked for
pub rules-same : (P Q : ℕ → Type 0) (rules : List RuleForm) (old new : List Bool)
    → HasRulesOf P rules old new → ((q : ℕ) → Q q → P q) → HasRulesOf Q rules old new
rules-same P Q rules old new before asked = record {
  more = before.more;
  standing = λ n q rule there stands holds. before.standing n q rule there stands (asked q holds);
  count = before.count;
}

pub preds-next : (preds : List ℕ) (i q : ℕ) → i < length preds → Contains (take (i + 1) preds) q
    → Contains (take i preds) q ⊎ (q ≡ get_or preds i 0)
preds-next preds i q lt at =
    let step : take (i + 1) preds ≡ take i preds ++ get_or preds i 0 ∷ []
    = rw (add-one) (take-suc preds i 0 lt)
    in pushed-cases (take i preds) (get_or preds i 0) q (subst (λ qs. Contains qs q) step at)

core-undefined : (kind : KindForm) → (IsDefined kind → ⊥) → kind ≡ KCore
core-undefined KCore none = refl
core-undefined (KDefined vars body) none = absurd (none tt)

-- a predicate of the program is defined
pub defined-within : (p : ProgramForm) (q : ℕ) → IsDefined (kind_at p q)
    → (q < length p.preds) ⊎ (length p.preds ≤ q)
    → q < length p.preds
defined-within p q defined (inl within) = within
defined-within p q defined (inr past) =
    absurd (subst IsDefined (ap kind_or_core (slice_get-past p.preds q past)) defined)

-- all defined predicates are the program's
pub defined-below : (program : Program) (n q : ℕ) → length program.vocab.preds ≤ n
    → IsDefined (kind_at (program_of program) q) → (q < n) × IsDefined (kind_at (program_of program) q)
defined-below program n q all defined =
    let within : q < length (program_of program).preds
    = defined-within (program_of program) q defined (cases_lt q (length (program_of program).preds))
    in (omega (arith, within, all, length-map program.vocab.preds pred_of), defined)

-- what was put into a set for updates is right after them
pub waits-after : (p : ProgramForm) (preds : List ℕ) (rules : List RuleForm) (none defined set : List Bool)
    → length none ≡ length rules → HasRulesOf (λ q. IsDefined (kind_at p q)) rules none defined
    → HasRulesOf (Contains preds) rules defined set → WaitsAfter p preds rules set
waits-after p preds rules none defined set count defines updates = record {
  count = updates.count ∙ defines.count ∙ count;
  core = λ n q rule there out stands. core-undefined (kind_at p q)
      (λ is. out (updates.more n (defines.standing n q rule there stands is)));
  kept = λ n q rule there out stands at. out (updates.standing n q rule there stands at);
}

-- what is right after updates of these predicates is right after updates of some of them
pub waits-among : (p : ProgramForm) (some these : List ℕ) (rules : List RuleForm) (set : List Bool)
    → ((q : ℕ) → Contains some q → Contains these q) → WaitsAfter p these rules set → WaitsAfter p some rules set
waits-among p some these rules set among after = record {
  count = after.count;
  core = after.core;
  kept = λ n q rule there out stands at. after.kept n q rule there out stands (among q at);
}

-- what is right after an action's updates leaves the others alone, where no individual comes or goes
pub waits-for : (p : ProgramForm) (action : ActionForm) (rules : List RuleForm) (set : List Bool)
    → moves_individuals action ≡ false → WaitsAfter p (map (λ w. w.pred) action.updates) rules set
    → WaitsFor p action rules set
waits-for p action rules set stays after = record {
  count = after.count;
  alone = λ n rule there out. record {
    stays = stays;
    core = λ q stands. after.core n q rule there out stands;
    kept = λ q stands. after.kept n q rule there out stands;
  };
}

-- all rules wait
pub all-wait : (p : ProgramForm) (action : ActionForm) (rules : List RuleForm) (set : List Bool)
    → set ≡ replicate (length rules) true → WaitsFor p action rules set
all-wait p action rules set same = record {
  count = ap length same ∙ length-replicate (length rules) true;
  alone = λ n rule there out. absurd (out (in-all n rule there));
}
  where
    in-all : (n : ℕ) (rule : RuleForm) → slice_get rules n ≡ Some rule → IsIn set n
    in-all n rule there =
        ap (λ flags. get_or flags n false) same
        ∙ get_or-replicate (length rules) n true false (slice_get_within rules n rule there)

-- ---- the rules that wait at focus atoms

-- no rule out of the set sees what is a summary
abbrev pub AreBlind : List RuleForm → List Bool → Type 0
AreBlind rules set =
    (k : ℕ) (rule : RuleForm) → slice_get rules k ≡ Some rule → ¬ IsIn set k → ¬ SeesSummaries rule

pub seeing-blind : (rules : List RuleForm) (none seeing : List Bool)
    → HasMore (IsRuleThat SeesSummaries rules) none seeing → AreBlind rules seeing
seeing-blind rules none seeing sees k rule there out is = out ((sees.exact k).1 (inr (rule, there, is)))

pub still-blind : (P : ℕ → Type 0) (rules : List RuleForm) (old new : List Bool) → HasRulesOf P rules old new
    → AreBlind rules old → AreBlind rules new
still-blind P rules old new more blind k rule there out = blind k rule there (λ at. out (more.more k at))

-- what was put into a set for focus is right for its predicates
pub waits-about : (preds : List ℕ) (rules : List RuleForm) (none seeing set : List Bool)
    → length none ≡ length rules → HasMore (IsRuleThat SeesSummaries rules) none seeing
    → HasRulesOf (Contains preds) rules seeing set → WaitsAbout preds rules set
waits-about preds rules none seeing set count sees about = record {
  count = about.count ∙ sees.count ∙ count;
  blind = still-blind (Contains preds) rules seeing set about (seeing-blind rules none seeing sees);
  apart = λ k q rule there out at stands. out (about.standing k q rule there stands at);
}

-- what is right for the predicates that the formulas mention is right at focus on these
pub waits-at : (n : ℕ) (fs : List Formula) (preds : List ℕ) (rules : List RuleForm) (set : List Bool)
    → AreListed n fs preds → WaitsAbout preds rules set → All (λ f. WaitsAt n (form_of f) rules set) fs
waits-at n fs preds rules set listed about =
    All-from_contains (λ f. WaitsAt n (form_of f) rules set) fs
    (λ f at. record {
      count = about.count;
      blind = about.blind;
      apart = λ k q rule there out lt mentions. about.apart k q rule there out
          (All-contains (λ g. (r : ℕ) → r < n → Mentions r (form_of g) → Contains preds r) fs f listed at q lt
          mentions);
    })
