-- Runs whose parts hang together like a chain: what is left of a run where each part of the formula under it
-- stands at the innermost quantifier whose variable it speaks of.
use Rattle.std.specs.Prelude.{ℕ, ◌≡◌, ◌<◌, ◌==◌, ◌&&◌, ◌||◌, Bool, true, false, not, if◌then◌else◌}
use Rattle.std.specs.Prelude.{List, [], ◌∷◌, ◌++◌, drop}
use Rattle.tv_kleene.specs.declared.K3.{K3}
use Rattle.tv_kleene.specs.declared.K3.TheVariants.{Yes}
use Rattle.tv_kleene.specs.Kleene.{smaller_of}
use Rattle.tv_model.specs.Form.{Form, form_of, FZero, FOne, FAtom, FIsNew, FSame, FNot, FAnd, FOr, FIff}
use Rattle.tv_model.specs.Form.{FCond}
use Rattle.tv_model.specs.Form.{FExists, FForall, FClosure, height}
use Rattle.tv_model.specs.Free.{is_free}
use Rattle.tv_model.specs.Truth.{Assignment, put}
use Rattle.tv_embedding_laws.specs.LogicalStructure.{LogicalStructure}
use Rattle.tv_eval_laws.specs.Value.{value, greatest_of}
use Rattle.tv_quantifiers.specs.declared.chains.Shape.{Shape}
use Rattle.tv_quantifiers.specs.declared.chains.Shape.TheVariants.{Two, Negated, Whole}
use Rattle.tv_quantifiers.specs.declared.quantifier.Quantifier.{Quantifier}
use Rattle.tv_quantifiers.specs.declared.quantifier.Quantifier.TheVariants.{Exists, Forall}
use Rattle.tv_quantifiers.specs.declared.runs.Level.{Level}
use Rattle.tv_quantifiers.specs.Quantified.{turned}

-- whether the formula speaks of no variable of the levels
abbrev pub is_outside : List Level → Form → Bool
is_outside [] f = true
is_outside (l ∷ ls) f = not (is_free l.var.0 f) && is_outside ls f

-- whether the formula stands at the quantifier over v, behind which are those: it speaks of v and of none of
-- theirs. At the first of a run stands what speaks of none of the run, too
abbrev pub is_taken : (is_first : Bool) → (v : ℕ) → List Level → Form → Bool
is_taken is_first v ls f = (is_first || is_free v f) && is_outside ls f

-- the other quantifier
abbrev pub other : Quantifier → Quantifier
other Exists = Forall
other Forall = Exists

-- a part of a formula; its value is negated for "for all"
pub record Signed : Type 0 where
  pub sign : Quantifier
  pub form : Form

-- the parts whose least value is that of the formula, negated for "for all"
abbrev pub parts_of : Quantifier → Form → List Signed
parts_of Exists (FAnd f g) = parts_of Exists f ++ parts_of Exists g
parts_of Forall (FOr f g) = parts_of Forall f ++ parts_of Forall g
parts_of Exists (FNot f) = parts_of Forall f
parts_of Forall (FNot f) = parts_of Exists f
parts_of sign f = record { sign = sign; form = f } ∷ []

-- the least value of the parts that are chosen
abbrev pub least_part : (chosen : Form → Bool) → LogicalStructure → Assignment → List Signed → K3
least_part chosen s a [] = Yes
least_part chosen s a (p ∷ ps) =
    smaller_of (if chosen p.form then turned p.sign (value s a p.form) else Yes) (least_part chosen s a ps)

-- the greatest value, for "for all" the least
abbrev pub best : Quantifier → (ℕ → K3) → List ℕ → K3
best q g us = turned q (greatest_of (λ u. turned q (g u)) us)

-- the quantifier, for "for all" the other one: it passes a negation so
abbrev pub across : Quantifier → Quantifier → Quantifier
across Exists q = q
across Forall q = other q

-- the value of a run over those parts that speak of its variables, each of them moved inwards to the
-- innermost quantifier whose variable it speaks of
abbrev pub pushed : Quantifier → LogicalStructure → Assignment → List Level → List Signed → K3
pushed sign s a [] ps = Yes
pushed sign s a (l ∷ ls) ps =
    best (across sign l.quantifier) (λ u. smaller_of
    (least_part (is_taken false l.var.0 ls) s (put a l.var.0 u) ps)
    (pushed sign s (put a l.var.0 u) ls ps)) s.individuals

-- what speaks of a variable of the levels speaks, of those behind it, of the next one at most
abbrev pub IsLinked : List Level → Form → Type 0
IsLinked [] f = Unit {0}
IsLinked (l ∷ ls) f = (is_free l.var.0 f ≡ true → is_outside (drop 1 ls) f ≡ true) × IsLinked ls f

-- so it is for each part
abbrev pub AreLinked : List Level → List Signed → Type 0
AreLinked ls [] = Unit {0}
AreLinked ls (p ∷ ps) = IsLinked ls p.form × AreLinked ls ps

-- the parts, from how the formula falls apart
abbrev pub parts_by : Shape → Quantifier → Form → List Signed
parts_by (Two g h) sign f = parts_of sign (form_of g.now) ++ parts_of sign (form_of h.now)
parts_by (Negated g) sign f = parts_of (other sign) (form_of g.now)
parts_by Whole sign f = record { sign = sign; form = f } ∷ []

-- what it falls into is lower
abbrev pub AreLower : Shape → Form → Type 0
AreLower (Two g h) f = (height (form_of g.now) < height f) × (height (form_of h.now) < height f)
AreLower (Negated g) f = height (form_of g.now) < height f
AreLower Whole f = Unit {0}
