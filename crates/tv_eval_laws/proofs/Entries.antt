-- Lemmas on the values of an equality and of a mark, for the crates above.
use Rattle.std.proofs.Common.{ℕ, ◌≡◌, ◌≢◌, ◌↔◌, Bool, Option, Some, None, ⊎_elim, refl, sym, ap, subst, cond}
use Rattle.std.proofs.Common.{eqb, eq-eqb, ne_eqb}
use Rattle.std.proofs.lemmas.Bool.{cases_eq, cond-true, cond-false}
use Rattle.tv_kleene.specs.declared.K3.{K3}
use Rattle.tv_kleene.specs.declared.K3.TheVariants.{No, Half, Yes}
use Rattle.tv_kleene.proofs.Thresholds.{Must, May, May-from_Must, Under}
use Rattle.tv_embedding_laws.specs.LogicalStructure.{LogicalStructure}
use Rattle.tv_eval_laws.specs.Value.{mark_value, same_value}

-- ---- marks

pub mark-May : (fresh : Option ℕ) (u : ℕ) → May (mark_value fresh u) → fresh ≡ Some u
mark-May None u h = absurd h
mark-May (Some w) u h =
    ⊎_elim
    (λ e. ap (λ x. Some x) e)
    (λ ne. absurd (subst May (cond-false (eqb w u) Yes No (ne_eqb w u ne)) h))
    (cases_eq w u)

pub mark-Must : (fresh : Option ℕ) (u : ℕ) → fresh ≡ Some u → Must (mark_value fresh u)
mark-Must fresh u e =
    let At : Option ℕ → Type 0 = λ f. Must (mark_value f u)
    in let own : Must (mark_value (Some u) u) = subst Must (sym (cond-true (eqb u u) Yes No (eq-eqb u u refl))) tt
    in subst At (sym e) own

-- where one is the fresh individual exactly where the other is, the values lie under one another
pub Under-mark : (p q : Option ℕ) (u w : ℕ) → (p ≡ Some u) ↔ (q ≡ Some w) → Under (mark_value p u) (mark_value q w)
Under-mark p q u w alike = (
  λ m. mark-Must p u (alike.1 (mark-May q w (May-from_Must (mark_value q w) m))),
  λ m. May-from_Must (mark_value q w) (mark-Must q w (alike.0 (mark-May p u m))),
)

-- ---- equalities

-- the value of "one cell" at an individual
abbrev pub own_value : Bool → K3
own_value summary = cond summary Half Yes

pub same-here : (s : LogicalStructure) (u w : ℕ) → u ≡ w → same_value s u w ≡ own_value (s.is_summary u)
same-here s u w e = cond-true (eqb u w) (own_value (s.is_summary u)) No (eq-eqb u w e)

pub same-apart : (s : LogicalStructure) (u w : ℕ) → u ≢ w → same_value s u w ≡ No
same-apart s u w ne = cond-false (eqb u w) (own_value (s.is_summary u)) No (ne_eqb u w ne)
