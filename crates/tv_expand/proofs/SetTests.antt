-- Tests of expressions for sets that go from set to set.
use Rattle.std.proofs.Common.{◌≡◌, ℕ, ◌+◌, ◌<◌, ◌≤◌, Bool, true, false, ◌&&◌, get_or, List, [], ◌∷◌, length}
use Rattle.std.proofs.Common.{map, drop, refl, sym, ap, ◌∙◌}
use Rattle.std.proofs.lemmas.List.{drop_more, drop_all}
use Rattle.tv_tree.specs.Forms.{SetForm, SPlus, SMinus}
use Rattle.tv_tree.specs.Copies.{term_of, step_of, set_of, joined_set}
use Rattle.tv_tree.specs.declared.trees.SetSign.{SetSign}
use Rattle.tv_tree.specs.declared.trees.SetSign.TheVariants as sign
use Rattle.tv_tree.specs.declared.trees.SetStep.{SetStep}
use Rattle.tv_tree.specs.declared.trees.SetTree.{SetTree, out-SetTree}
use Rattle.tv_tree.proofs.Unfolds.{set_of_steps}

and_assoc : (p q r : Bool) → ((p && q) && r) ≡ (p && (q && r))
and_assoc true q r = refl
and_assoc false q r = refl

and_true : (p : Bool) → p ≡ (p && true)
and_true true = refl
and_true false = refl

-- whether all further sets pass
abbrev pub all_steps : (SetSign × SetForm → Bool) → List (SetSign × SetForm) → Bool
all_steps further [] = true
all_steps further (s ∷ more) = further s && all_steps further more

-- an expression passes where its first set does, and each further one in its own way
module _ (test : SetForm → Bool) (further : SetSign × SetForm → Bool) (plus : (s t : SetForm) → test (SPlus s t) ≡ (test s && further (sign.Plus, t))) (minus : (s t : SetForm) → test (SMinus s t) ≡ (test s && further (sign.Minus, t))) where
  joined_test : (s : SetForm) (more : List (SetSign × SetForm)) → test (joined_set s more) ≡ (test s && all_steps further more)
  joined_test s [] = and_true (test s)
  joined_test s ((sign.Plus, t) ∷ more) = joined_test (SPlus s t) more ∙ ap (λ (b : Bool). b && all_steps further more) (plus s t) ∙ and_assoc (test s) (further (sign.Plus, t)) (all_steps further more)
  joined_test s ((sign.Minus, t) ∷ more) = joined_test (SMinus s t) more ∙ ap (λ (b : Bool). b && all_steps further more) (minus s t) ∙ and_assoc (test s) (further (sign.Minus, t)) (all_steps further more)

  set_test : (s : SetTree) → test (set_of s) ≡ (test (term_of (out-SetTree s).first) && all_steps further (map step_of (out-SetTree s).more.items))
  set_test s = ap test (set_of_steps s) ∙ joined_test (term_of (out-SetTree s).first) (map step_of (out-SetTree s).more.items)

  pub first_passes : (s : SetTree) → test (term_of (out-SetTree s).first) ≡ true → all_steps further (map step_of (out-SetTree s).more.items) ≡ test (set_of s)
  first_passes s h = sym (set_test s ∙ ap (λ (t : Bool). t && all_steps further (map step_of (out-SetTree s).more.items)) h)

  pub first_refused : (s : SetTree) → test (term_of (out-SetTree s).first) ≡ false → test (set_of s) ≡ false
  first_refused s h = set_test s ∙ ap (λ (t : Bool). t && all_steps further (map step_of (out-SetTree s).more.items)) h

module _ (further : SetSign × SetForm → Bool) where
  pub step_passes : (more : List SetStep) (i : ℕ) (s : SetStep) → i < length more → s ≡ get_or more i s → further (step_of s) ≡ true → all_steps further (map step_of (drop (i + 1) more)) ≡ all_steps further (map step_of (drop i more))
  step_passes more i s below is h = sym (rw (drop_more more i s below, ← is, h) refl)

  pub step_refused : (more : List SetStep) (i : ℕ) (s : SetStep) → i < length more → s ≡ get_or more i s → further (step_of s) ≡ false → all_steps further (map step_of (drop i more)) ≡ false
  step_refused more i s below is h = rw (drop_more more i s below, ← is, h) refl

  pub steps_pass : (more : List SetStep) (i : ℕ) → length more ≤ i → all_steps further (map step_of (drop i more)) ≡ true
  steps_pass more i past = rw (drop_all i more past) refl
