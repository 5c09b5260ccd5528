-- "For all" is "there is", negated before and behind it.
use Rattle.std.proofs.Common.{ℕ, ◌≡◌, List, [], ◌∷◌, map, refl, ap, ◌∙◌}
use Rattle.tv_kleene.specs.declared.K3.{K3}
use Rattle.tv_kleene.specs.declared.K3.TheVariants.{No, Half, Yes}
use Rattle.tv_kleene.specs.Kleene.{smaller_of, larger_of, negation_of}
use Rattle.tv_model.specs.Form.{Form}
use Rattle.tv_model.specs.Truth.{Assignment, put}
use Rattle.tv_embedding_laws.specs.LogicalStructure.{LogicalStructure}
use Rattle.tv_eval_laws.specs.Value.{value, greatest_of, least_of}
use Rattle.tv_quantifiers.specs.Quantified.{quantified, turned}
use Rattle.tv_quantifiers.specs.declared.quantifier.Quantifier.{Quantifier}
use Rattle.tv_quantifiers.specs.declared.quantifier.Quantifier.TheVariants.{Exists, Forall}

-- turned twice, a value is as it was
pub turned-twice : (q : Quantifier) (k : K3) → turned q (turned q k) ≡ k
turned-twice Exists k = refl
turned-twice Forall No = refl
turned-twice Forall Half = refl
turned-twice Forall Yes = refl

pub map-turned : (xs : List K3) → xs ≡ map (turned Exists) xs
map-turned [] = refl
map-turned (x ∷ xs) = ap (λ ys. x ∷ ys) (map-turned xs)

dual : (x y : K3) → negation_of (larger_of (negation_of x) y) ≡ smaller_of x (negation_of y)
dual No y = refl
dual Half No = refl
dual Half Half = refl
dual Half Yes = refl
dual Yes y = refl

pub greatest-negated : (g : ℕ → K3) (us : List ℕ) → negation_of (greatest_of (λ u. negation_of (g u)) us) ≡ least_of g us
greatest-negated g [] = refl
greatest-negated g (u ∷ us) =
    dual (g u) (greatest_of (λ w. negation_of (g w)) us) ∙ ap (smaller_of (g u)) (greatest-negated g us)

-- the greatest value, turned before and behind it, is that of the quantifier
pub quantified-value : (q : Quantifier) (s : LogicalStructure) (a : Assignment) (v : ℕ) (f : Form)
    → turned q (greatest_of (λ u. turned q (value s (put a v u) f)) s.individuals) ≡ value s a (quantified q v f)
quantified-value Exists s a v f = refl
quantified-value Forall s a v f = greatest-negated (λ u. value s (put a v u) f) s.individuals
