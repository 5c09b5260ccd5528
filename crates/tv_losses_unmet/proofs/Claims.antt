-- The predicates and rules that a claim leaves.
use Rattle.std.proofs.Common.{ℕ, ◌+◌, ◌≡◌, ◌≤◌, ◌∙◌, Bool, true, false, List, [], ◌∷◌, ◌++◌, map, length}
use Rattle.std.proofs.Common.{Some, refl, sym, ap, arith, ne_eqb, eq-eqb, slice_get, true≢false}
use Rattle.std.specs.Prelude.{suc, zero, ◌==◌}
use Rattle.std.proofs.lemmas.List.{append-nil}
use Rattle.std.proofs.lemmas.Option.{none-some, same_Some}
use Rattle.tv_model.specs.Program.{ProgramForm, PredForm}
use Rattle.tv_model.specs.declared.formula.PredId.{PredId}
use Rattle.tv_rules.specs.Closing.{base_rules, pred_rules, rules_from}
use Rattle.tv_losses_unmet.specs.Alone.{alone, is_of, kept_pred, preds_alone}
use Rattle.tv_losses_unmet.specs.Unmet.{listed, rules_of_claim, rules_of_pred}
use Rattle.tv_losses_unmet.specs.declared.claim.Claim.{Claim}
use Rattle.tv_losses_unmet.specs.declared.claim.Claim.TheVariants.{Predicate, Rule}

-- ---- predicates

kept-arity : (on : Bool) (d : PredForm) → (kept_pred on d).arity ≡ d.arity
kept-arity true d = refl
kept-arity false d = refl

kept-name : (on : Bool) (d : PredForm) → (kept_pred on d).name ≡ d.name
kept-name true d = refl
kept-name false d = refl

pub arities-alone : (claim : Claim) (q : ℕ) (preds : List PredForm)
    → map (λ d. d.arity) (preds_alone claim q preds) ≡ map (λ d. d.arity) preds
arities-alone claim q [] = refl
arities-alone claim q (d ∷ preds) =
    ap (λ n. n ∷ map (λ x. x.arity) (preds_alone claim (suc q) preds)) (kept-arity (is_of claim q) d)
    ∙ ap (λ ns. d.arity ∷ ns) (arities-alone claim (suc q) preds)

pub names-alone : (claim : Claim) (q : ℕ) (preds : List PredForm)
    → map (λ d. d.name) (preds_alone claim q preds) ≡ map (λ d. d.name) preds
names-alone claim q [] = refl
names-alone claim q (d ∷ preds) =
    ap (λ n. n ∷ map (λ x. x.name) (preds_alone claim (suc q) preds)) (kept-name (is_of claim q) d)
    ∙ ap (λ ns. d.name ∷ ns) (names-alone claim (suc q) preds)

pub length-alone : (claim : Claim) (q : ℕ) (preds : List PredForm)
    → length (preds_alone claim q preds) ≡ length preds
length-alone claim q [] = refl
length-alone claim q (d ∷ preds) = ap suc (length-alone claim (suc q) preds)

-- a predicate that is left, and the one that it was
pub record WasKept (preds : List PredForm) (number : ℕ) (d : PredForm) : Type 0 where
  pub on : Bool
  pub before : PredForm
  pub at : slice_get preds number ≡ Some before
  pub is : d ≡ kept_pred on before

pub was-kept : (claim : Claim) (q : ℕ) (preds : List PredForm) (number : ℕ) (d : PredForm)
    → slice_get (preds_alone claim q preds) number ≡ Some d → WasKept preds number d
was-kept claim q [] number d found = absurd (none-some d found)
was-kept claim q (x ∷ preds) zero d found = record {
  on = is_of claim q;
  before = x;
  at = refl;
  is = sym (same_Some (kept_pred (is_of claim q) x) d found);
}
was-kept claim q (x ∷ preds) (suc number) d found =
    let rest = was-kept claim (suc q) preds number d found in
    record { on = rest.on; before = rest.before; at = rest.at; is = rest.is }

-- ---- rules of predicates

off-rules : (q : ℕ) (on : Bool) (d : PredForm) → on ≡ false → pred_rules q (kept_pred on d) ≡ []
off-rules q true d off = absurd (true≢false off)
off-rules q false d off = refl

on-rules : (q : ℕ) (on : Bool) (d : PredForm) → on ≡ true → pred_rules q (kept_pred on d) ≡ pred_rules q d
on-rules q true d is = refl
on-rules q false d is = absurd (true≢false (sym is))

-- where the claim is of none of the predicates, they have no rules
none-of : (claim : Claim) (q : ℕ) (preds : List PredForm) → ((k : ℕ) → q ≤ k → is_of claim k ≡ false)
    → rules_from q (preds_alone claim q preds) ≡ []
none-of claim q [] none = refl
none-of claim q (d ∷ preds) none =
    ap (λ rules. rules ++ rules_from (suc q) (preds_alone claim (suc q) preds))
    (off-rules q (is_of claim q) d (none q (omega arith)))
    ∙ none-of claim (suc q) preds (λ k le. none k (omega (arith, le)))

-- where it is of one of them, that has its rules
one-of : (p : PredId) (q j : ℕ) (preds : List PredForm) → p.0 ≡ q + j
    → rules_from q (preds_alone (Predicate p) q preds) ≡ rules_of_pred p.0 (slice_get preds j)
one-of p q j [] is = refl
one-of p q zero (d ∷ preds) is =
    ap (λ rules. rules ++ rules_from (suc q) (preds_alone (Predicate p) (suc q) preds))
    (on-rules q (p.0 == q) d (eq-eqb p.0 q (omega (arith, is))))
    ∙ ap (λ rules. pred_rules q d ++ rules)
    (none-of (Predicate p) (suc q) preds (λ k le. ne_eqb p.0 k (λ e. omega (arith, e, is, le))))
    ∙ append-nil (pred_rules q d)
    ∙ ap (λ n. pred_rules n d) (sym here)
  where
    here : p.0 ≡ q
    here = omega (arith, is)
one-of p q (suc j) (d ∷ preds) is =
    ap (λ rules. rules ++ rules_from (suc q) (preds_alone (Predicate p) (suc q) preds))
    (off-rules q (p.0 == q) d (ne_eqb p.0 q (λ e. omega (arith, e, is))))
    ∙ one-of p (suc q) j preds (omega (arith, is))

pub base-alone : (claim : Claim) (p : ProgramForm) → base_rules (alone claim p) ≡ rules_of_claim p claim
base-alone (Predicate q) p =
    ap (λ rules. rules ++ []) (one-of q 0 q.0 p.preds (omega arith))
    ∙ append-nil (rules_of_pred q.0 (slice_get p.preds q.0))
base-alone (Rule number) p =
    ap (λ rules. rules ++ listed (slice_get p.rules number)) (none-of (Rule number) 0 p.preds (λ k le. refl))
