-- Lemmas on heads of rules, for the crates above: what their values say.
use Rattle.std.proofs.Common.{ℕ, ◌≡◌, ◌≢◌, ◌⊎◌, ◌↔◌, Bool, true, false, inl, inr, ⊎_elim, refl, sym, ap, ◌∙◌}
use Rattle.std.proofs.lemmas.Bool.{cases_eq}
use Rattle.tv_kleene.specs.declared.K3.{K3}
use Rattle.tv_kleene.specs.declared.K3.TheVariants.{No, Half, Yes}
use Rattle.tv_kleene.specs.Kleene.{LiesUnder, negation_of}
use Rattle.tv_model.specs.Form.{Form}
use Rattle.tv_model.specs.Program.{HeadForm}
use Rattle.tv_model.specs.Rules.{signed_form, head_formula}
use Rattle.tv_model.specs.Truth.{Assignment}
use Rattle.tv_embedding_laws.specs.LogicalStructure.{LogicalStructure}
use Rattle.tv_eval_laws.specs.Value.{value, same_value}
use Rattle.tv_eval_laws.proofs.Entries.{own_value, same-here, same-apart}
use Rattle.tv_stable_laws.specs.Stable.{IsHeadMet}

-- the value of an atom that makes a signed head Yes
abbrev pub wanted : Bool → K3
wanted true = Yes
wanted false = No

pub wanted-definite : (flag : Bool) → wanted flag ≢ Half
wanted-definite true e = cc
wanted-definite false e = cc

negation-yes : (x : K3) → negation_of x ≡ Yes → x ≡ No
negation-yes No e = refl
negation-yes Half e = absurd (cc)
negation-yes Yes e = absurd (cc)

-- a signed formula is Yes exactly where the formula has the wanted value
pub signed-wanted : (flag : Bool) (s : LogicalStructure) (a : Assignment) (f : Form)
    → (value s a (signed_form flag f) ≡ Yes) ↔ (value s a f ≡ wanted flag)
signed-wanted true s a f = (λ e. e, λ e. e)
signed-wanted false s a f = (λ e. negation-yes (value s a f) e, λ e. ap negation_of e)

negation-half : (x : K3) → negation_of x ≡ Half → x ≡ Half
negation-half No e = absurd (cc)
negation-half Half e = refl
negation-half Yes e = absurd (cc)

pub signed-half : (flag : Bool) (s : LogicalStructure) (a : Assignment) (f : Form)
    → value s a (signed_form flag f) ≡ Half → value s a f ≡ Half
signed-half true s a f e = e
signed-half false s a f e = negation-half (value s a f) e

-- what isn't No below isn't No above
pub not_no-above : (x y : K3) → LiesUnder x y → (x ≡ Yes) ⊎ (x ≡ Half) → (y ≡ Yes) ⊎ (y ≡ Half)
not_no-above x y (inl e) (inl d) = inl (sym e ∙ d)
not_no-above x y (inl e) (inr d) = inr (sym e ∙ d)
not_no-above x y (inr e) d = inr e

pub met-value : (s : LogicalStructure) (a : Assignment) (head : HeadForm) → IsHeadMet s a head
    → (value s a (head_formula head) ≡ Yes) ⊎ (value s a (head_formula head) ≡ Half)
met-value s a head met = ⊎_elim (λ e. inl e) (λ may. inr may.half) met

-- ---- equalities

own-yes : (p : Bool) → own_value p ≡ Yes → p ≡ false
own-yes true e = absurd (cc)
own-yes false e = refl

own-half : (p : Bool) → own_value p ≡ Half → p ≡ true
own-half true e = refl
own-half false e = absurd (cc)

own-some : (p : Bool) → own_value p ≢ No
own-some true e = cc
own-some false e = cc

-- an equality is Yes where both are one individual that isn't a summary
pub same-yes : (s : LogicalStructure) (u w : ℕ) → same_value s u w ≡ Yes → (u ≡ w) × (s.is_summary u ≡ false)
same-yes s u w e =
    ⊎_elim
    (λ is. (is, own-yes (s.is_summary u) (sym (same-here s u w is) ∙ e)))
    (λ ne. let clash : No ≡ Yes = sym (same-apart s u w ne) ∙ e in absurd (cc))
    (cases_eq u w)

pub same-no : (s : LogicalStructure) (u w : ℕ) → same_value s u w ≡ No → u ≢ w
same-no s u w e is = own-some (s.is_summary u) (sym (same-here s u w is) ∙ e)

pub same-half : (s : LogicalStructure) (u w : ℕ) → same_value s u w ≡ Half → s.is_summary u ≡ true
same-half s u w e =
    ⊎_elim
    (λ is. own-half (s.is_summary u) (sym (same-here s u w is) ∙ e))
    (λ ne. let clash : No ≡ Half = sym (same-apart s u w ne) ∙ e in absurd (cc))
    (cases_eq u w)
