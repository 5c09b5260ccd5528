-- Rules that are met by definitions that were evaluated anew, and sets without them.
use Rattle.std.proofs.Common.{ℕ, zero, suc, ◌≡◌, ◌⊎◌, ◌∙◌, Bool, true, false, List, []}
use Rattle.std.proofs.Common.{◌∷◌, ◌++◌}
use Rattle.std.proofs.Common.{length, Some, inl, inr, ⊎_elim, refl, sym, ap}
use Rattle.std.proofs.Common.{subst}
use Rattle.std.proofs.Common.{All, Contains, arith}
use Rattle.std.specs.Prelude.{slice_index_or}
use Rattle.std.proofs.lemmas.List.Elements.{All-contains}
use Rattle.tv_model.proofs.Lists.{Contains-none}
use Rattle.tv_model.specs.Program.{ProgramForm, RuleForm}
use Rattle.tv_model.specs.declared.program.Rule.{Rule}
use Rattle.tv_coerce.specs.RuleSets.{HasFewer, IsIn}
use Rattle.tv_rules.specs.Defining.{IsOfDefinition}
use Rattle.tv_rules.specs.EntryForms.{rules_of}
use Rattle.tv_rules.proofs.DefinedValues.{defined_values_are_stable}
use Rattle.tv_structure_form.specs.StructureForm.{StructureForm}
use Rattle.tv_update_laws.specs.Applied.{kind_at}
use Rattle.tv_step.specs.Changed.{IsFew}
use Rattle.tv_step.specs.Redefined.{AreDefining, AreOfDefinitions, IsListed, IsMetBy, IsOfRedefined}
use Rattle.tv_step.specs.declared.changed.Redefined.{Redefined}

-- ---- lists by predicates

-- what one list more lists
listed-before : (lists : List (List ℕ)) (xs : List ℕ) (q n : ℕ) → IsListed (lists ++ xs ∷ []) q n
    → IsListed lists q n ⊎ ((q ≡ length lists) × Contains xs n)
listed-before [] xs zero n at = inr (refl, at)
listed-before [] xs (suc q) n at = absurd (Contains-none n at)
listed-before (ys ∷ lists) xs zero n at = inl at
listed-before (ys ∷ lists) xs (suc q) n at =
    ⊎_elim (λ l. inl l) (λ r. inr (ap suc r.0, r.1)) (listed-before lists xs q n at)

pub no-lists : (p : ProgramForm) (bases : List Rule) → AreOfDefinitions p bases []
no-lists p bases q n at = absurd (Contains-none n at)

pub one-list-more : (p : ProgramForm) (bases : List Rule) (lists : List (List ℕ)) (xs : List ℕ) (k : ℕ) → length lists ≡ k
    → AreOfDefinitions p bases lists → All (IsOfDefinition bases k (kind_at p k)) xs
    → AreOfDefinitions p bases (lists ++ xs ∷ [])
one-list-more p bases lists xs k long are these q n at =
    ⊎_elim (λ l. are q n l)
    (λ r. let same : k ≡ q = sym long ∙ sym r.0
    in subst (λ m. IsOfDefinition bases m (kind_at p m) n) same
    (All-contains (IsOfDefinition bases k (kind_at p k)) xs n these r.1))
    (listed-before lists xs q n at)

pub are-defining : (p : ProgramForm) (bases : List Rule) (rules : List RuleForm) (lists : List (List ℕ)) → rules_of bases ≡ rules
    → AreOfDefinitions p bases lists → AreDefining p rules lists
are-defining p bases rules lists same are = subst (λ rs. AreDefining p rs lists) same (record {
  within = λ q n at. (are q n at).within;
  met = λ q n at s has rule there. defined_values_are_stable bases q (kind_at p q) n (are q n at) s has rule there;
})

-- ---- sets

flag : (set : List Bool) (n : ℕ) → IsIn set n ⊎ ¬ IsIn set n
flag set n = at (slice_index_or set n false)
  where
    at : (b : Bool) → (b ≡ true) ⊎ ¬ (b ≡ true)
    at true = inl refl
    at false = inr (λ e. cc)

pub fewer-none : (P : ℕ → Type 0) (set : List Bool) → HasFewer P set set
fewer-none P set = record { kept = λ n at. at; lost = λ n was out. absurd (out was); count = refl; fewer = omega arith }

pub fewer-more : (P Q : ℕ → Type 0) (old mid new : List Bool) → ((n : ℕ) → Q n → P n) → HasFewer P old mid → HasFewer Q mid new
    → HasFewer P old new
fewer-more P Q old mid new to first next = record {
  kept = λ n at. first.kept n (next.kept n at);
  lost = λ n was out. ⊎_elim (λ there. to n (next.lost n there out)) (λ gone. first.lost n was gone) (flag mid n);
  count = next.count ∙ first.count;
  fewer = omega (arith, first.fewer, next.fewer);
}

-- only rules that are met were taken out
pub few-still : (p : ProgramForm) (rules : List RuleForm) (s : StructureForm) (r : Redefined) (old new : List Bool)
    → IsFew p rules s (Some old) → IsMetBy r rules s → HasFewer (IsOfRedefined r) old new → IsFew p rules s (Some new)
few-still p rules s r old new few met fewer = (
  fewer.count ∙ few.0,
  λ n rule there out. ⊎_elim (λ was. (met n (fewer.lost n was out)).1 rule there) (λ never. few.1 n rule there never) (flag old n),
)
