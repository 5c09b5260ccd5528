-- The first of all declarations that drops structures: the first of the predicates', else the first of the rules.
use Rattle.std.proofs.Common.{ℕ, ◌+◌, ◌≡◌, ◌<◌, ◌≤◌, ◌∙◌, ◌⊎◌, ◌↔◌, inl, inr, Bool, true, false, IsTrue, List}
use Rattle.std.proofs.Common.{[], ◌∷◌, All, Option, None, Some, length, map}
use Rattle.std.proofs.Common.{sym, ap, subst, arith, slice_get, true≢false}
use Rattle.std.proofs.lemmas.Bool.{cases_lt}
use Rattle.std.proofs.lemmas.List.{length-map}
use Rattle.std.proofs.lemmas.List.Elements.{All-nil, All-cons, All-head}
use Rattle.std.proofs.lemmas.Option.{same_Some, slice_get_past, slice_get_within}
use Rattle.tv_lemmas.proofs.Lists.{some_at}
use Rattle.tv_eval.specs.ScratchForm.{ScratchForm}
use Rattle.tv_model.specs.Program.{ProgramForm, pred_of, program_of, rule_of}
use Rattle.tv_model.specs.declared.formula.PredId.{PredId}
use Rattle.tv_model.specs.declared.program.Program.{Program}
use Rattle.tv_model.specs.declared.program.Rule.{Rule as Declaration}
use Rattle.tv_rules.specs.EntryForms.{rules_of}
use Rattle.tv_structure_form.specs.StructureForm.{StructureForm}
use Rattle.tv_losses_unmet.specs.Kept.{AreClosedAlone, AreDeclared, DropEach, IsFirstToDrop, of_pred, of_rule}
use Rattle.tv_losses_unmet.specs.Unmet.{IsBefore, IsFirstOf, IsFound, IsUnmet, IsUnmetByEach, listed}
use Rattle.tv_losses_unmet.specs.Unmet.{rules_of_claim}
use Rattle.tv_losses_unmet.specs.Unmet.{rules_of_pred}
use Rattle.tv_losses_unmet.specs.declared.claim.Claim.{Claim}
use Rattle.tv_losses_unmet.specs.declared.claim.Claim.TheVariants.{Predicate, Rule}
use Rattle.tv_losses_unmet.proofs.Closing.{no-rules}

-- ---- one list after the other

module _ (structures : List StructureForm) (lists : List (List Declaration)) (number : ℕ)
    (bases : List Declaration) (on : Bool) (at : slice_get lists number ≡ Some bases)
    (tells : IsTrue on ↔ DropEach structures (rules_of bases)) where
  pub first-here : on ≡ true
      → ((k : ℕ) (other : List Declaration) → k < number → slice_get lists k ≡ Some other
      → ¬ DropEach structures (rules_of other))
      → IsFirstToDrop structures lists (Some number)
  first-here is none = (
    slice_get_within lists number bases at,
    none,
    λ other there. subst (λ (x : List Declaration). DropEach structures (rules_of x))
        (same_Some bases other (sym at ∙ there)) (tells.0 is),
  )

  pub none-here : on ≡ false
      → ((k : ℕ) (other : List Declaration) → k < number → slice_get lists k ≡ Some other
      → ¬ DropEach structures (rules_of other))
      → (k : ℕ) (other : List Declaration) → k < number + 1 → slice_get lists k ≡ Some other
      → ¬ DropEach structures (rules_of other)
  none-here off none k other lt there drop = by (cases_lt k number)
    where
      here : k ≡ number → slice_get lists number ≡ Some other
      here same = ap (λ n. slice_get lists n) (sym same) ∙ there

      by : (k < number) ⊎ (number ≤ k) → ⊥
      by (inl less) = none k other less there drop
      by (inr more) =
          true≢false (sym (tells.1 (subst (λ (x : List Declaration). DropEach structures (rules_of x))
          (sym (same_Some bases other (sym at ∙ here (omega (arith, more, lt))))) drop)) ∙ off)

pub first-moved : (structures : List StructureForm) (lists same : List (List Declaration)) (found is : Option ℕ)
    → lists ≡ same → found ≡ is → IsFirstToDrop structures lists found → IsFirstToDrop structures same is
first-moved structures lists same found is e f first =
    subst (IsFirstToDrop structures same) f
    (subst (λ (xs : List (List Declaration)). IsFirstToDrop structures xs found) e first)

-- ---- one kind of declarations

module _ (p : ProgramForm) (structures : List StructureForm) (numbered : ℕ → Claim)
    (lists : List (List Declaration)) (are : AreClosedAlone p numbered lists) where
  -- the first of them, and none of them before
  pub the-first : (number : ℕ) → IsFirstToDrop structures lists (Some number)
      → IsUnmetByEach p structures (numbered number)
  the-first number first =
      let there = some_at lists number first.0 in
      subst (DropEach structures) (are number there.0 there.1) (first.2 there.0 there.1)

  isnt-at : (k : ℕ) → k < length lists
      → ((bases : List Declaration) → slice_get lists k ≡ Some bases → ¬ DropEach structures (rules_of bases))
      → ¬ IsUnmetByEach p structures (numbered k)
  isnt-at k within isnt unmet =
      let there = some_at lists k within in
      isnt there.0 there.1 (subst (DropEach structures) (sym (are k there.0 there.1)) unmet)

  pub none-before : (number k : ℕ) → IsFirstToDrop structures lists (Some number) → k < number
      → ¬ IsUnmetByEach p structures (numbered k)
  none-before number k first lt = isnt-at k (omega (arith, lt, first.0)) (λ bases at. first.1 k bases lt at)

  pub none-within : (k : ℕ) → IsFirstToDrop structures lists None → k < length lists
      → ¬ IsUnmetByEach p structures (numbered k)
  none-within k none within = isnt-at k within (λ bases at. none k bases at)

-- ---- behind the last there are none

some-of : (P : StructureForm → Type 0) (structures : List StructureForm) → 0 < length structures
    → All P structures → (s : StructureForm) × P s
some-of P [] some all = absurd (omega (arith, some))
some-of P (s ∷ structures) some all = (s, All-head P s structures all)

not-without-rules : (p : ProgramForm) (structures : List StructureForm) (claim : Claim) → 0 < length structures
    → rules_of_claim p claim ≡ [] → ¬ IsUnmetByEach p structures claim
not-without-rules p structures claim some none unmet =
    let one = some-of (λ s. IsUnmet p s claim) structures some unmet in
    no-rules p one.0 claim none one.1

module _ (program : Program) (structures : List StructureForm) (some : 0 < length structures) where
  past-preds : (q : PredId) → length program.vocab.preds ≤ q.0
      → ¬ IsUnmetByEach (program_of program) structures (Predicate q)
  past-preds q past =
      not-without-rules (program_of program) structures (Predicate q) some
      (ap (rules_of_pred q.0) (slice_get_past (map pred_of program.vocab.preds) q.0
      (subst (λ n. n ≤ q.0) (sym (length-map program.vocab.preds pred_of)) past)))

  past-rules : (n : ℕ) → length program.rules ≤ n → ¬ IsUnmetByEach (program_of program) structures (Rule n)
  past-rules n past =
      not-without-rules (program_of program) structures (Rule n) some
      (ap listed (slice_get_past (map rule_of program.rules) n
      (subst (λ m. m ≤ n) (sym (length-map program.rules rule_of)) past)))

-- ---- all declarations

module _ (program : Program) (preds rules : List (List Declaration)) (scratch : ScratchForm)
    (are : AreDeclared program preds rules scratch) (structures : List StructureForm)
    (some : 0 < length structures) where
  no-pred : IsFirstToDrop structures preds None → (q : PredId)
      → ¬ IsUnmetByEach (program_of program) structures (Predicate q)
  no-pred none q = by (cases_lt q.0 (length preds))
    where
      by : (q.0 < length preds) ⊎ (length preds ≤ q.0)
          → ¬ IsUnmetByEach (program_of program) structures (Predicate q)
      by (inl within) = none-within (program_of program) structures of_pred preds are.are_preds q.0 none within
      by (inr past) = past-preds program structures some q (omega (arith, past, are.pred_count))

  no-rule : IsFirstToDrop structures rules None → (n : ℕ)
      → ¬ IsUnmetByEach (program_of program) structures (Rule n)
  no-rule none n = by (cases_lt n (length rules))
    where
      by : (n < length rules) ⊎ (length rules ≤ n) → ¬ IsUnmetByEach (program_of program) structures (Rule n)
      by (inl within) = none-within (program_of program) structures of_rule rules are.are_rules n none within
      by (inr past) = past-rules program structures some n (omega (arith, past, are.rule_count))

  pub first-pred : (number : ℕ) → IsFirstToDrop structures preds (Some number)
      → IsFirstOf (IsUnmetByEach (program_of program) structures) (Some (Predicate (record { 0 = number })))
  first-pred number first =
      (the-first (program_of program) structures of_pred preds are.are_preds number first, before)
    where
      before : (other : Claim) → IsBefore other (Predicate (record { 0 = number }))
          → ¬ IsUnmetByEach (program_of program) structures other
      before (Predicate q) lt =
          none-before (program_of program) structures of_pred preds are.are_preds number q.0 first lt
      before (Rule n) lt = absurd lt

  pub first-rule : (number : ℕ) → IsFirstToDrop structures preds None
      → IsFirstToDrop structures rules (Some number)
      → IsFirstOf (IsUnmetByEach (program_of program) structures) (Some (Rule number))
  first-rule number none first =
      (the-first (program_of program) structures of_rule rules are.are_rules number first, before)
    where
      before : (other : Claim) → IsBefore other (Rule number)
          → ¬ IsUnmetByEach (program_of program) structures other
      before (Predicate q) lt = no-pred none q
      before (Rule n) lt =
          none-before (program_of program) structures of_rule rules are.are_rules number n first lt

  pub first-of_none : IsFirstToDrop structures preds None → IsFirstToDrop structures rules None
      → IsFirstOf (IsUnmetByEach (program_of program) structures) None
  first-of_none none also (Predicate q) = no-pred none q
  first-of_none none also (Rule n) = no-rule also n

-- ---- of one structure

alone-all : (p : ProgramForm) (s : StructureForm) (claim : Claim) → IsUnmet p s claim
    → IsUnmetByEach p (s ∷ []) claim
alone-all p s claim unmet =
    All-cons (λ t. IsUnmet p t claim) s [] unmet (All-nil (λ t. IsUnmet p t claim))

alone-one : (p : ProgramForm) (s : StructureForm) (claim : Claim) → IsUnmetByEach p (s ∷ []) claim
    → IsUnmet p s claim
alone-one p s claim all = All-head (λ t. IsUnmet p t claim) s [] all

pub found-of_one : (p : ProgramForm) (s : StructureForm) (found : Option Claim)
    → IsFirstOf (IsUnmetByEach p (s ∷ [])) found → IsFound p s found
found-of_one p s None none = λ claim unmet. none claim (alone-all p s claim unmet)
found-of_one p s (Some claim) first =
    (alone-one p s claim first.0, λ other lt unmet. first.1 other lt (alone-all p s other unmet))
