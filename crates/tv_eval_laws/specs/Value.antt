-- The value of a formula in a three-valued structure: Kleene's logic, with the greatest value for
-- "there is" and the least for "for all", a half where two variables stand for one summary, and
-- transitive closure (Sagiv, Reps and Wilhelm 2002, section 4.2).
use Rattle.std.specs.Prelude.{ℕ, ◌==◌, List, [], ◌∷◌, map, Option, Some, None, if◌then◌else◌}
use Rattle.tv_kleene.specs.declared.K3.{K3}
use Rattle.tv_kleene.specs.declared.K3.TheVariants.{No, Half, Yes}
use Rattle.tv_kleene.specs.Kleene.{smaller_of, larger_of, negation_of}
use Rattle.tv_model.specs.Form.{Form, FZero, FOne, FAtom, FIsNew, FSame, FNot, FAnd, FOr, FIff, FCond}
use Rattle.tv_model.specs.Form.{FExists, FForall, FClosure}
use Rattle.tv_model.specs.Truth.{Assignment, put}
use Rattle.tv_embedding_laws.specs.LogicalStructure.{LogicalStructure}

-- the greatest value over the individuals, in the order of truth; No over none
abbrev pub greatest_of : (ℕ → K3) → List ℕ → K3
greatest_of g [] = No
greatest_of g (u ∷ us) = larger_of (g u) (greatest_of g us)

-- the least value over the individuals; Yes over none
abbrev pub least_of : (ℕ → K3) → List ℕ → K3
least_of g [] = Yes
least_of g (u ∷ us) = smaller_of (g u) (least_of g us)

-- the least value of an edge on the walk from u to w over the stops between them: one edge where there
-- are none
abbrev pub least_along : (edge : ℕ → ℕ → K3) → ℕ → List ℕ → ℕ → K3
least_along edge u [] w = edge u w
least_along edge u (stop ∷ stops) w = smaller_of (edge u stop) (least_along edge stop stops w)

-- the greatest, over all walks from u to w whose stops are among the allowed ones, of the least value
-- of an edge: a best walk avoids the first allowed stop, or leads to it and on from it
abbrev pub best_walk : (edge : ℕ → ℕ → K3) → (allowed : List ℕ) → ℕ → ℕ → K3
best_walk edge [] u w = edge u w
best_walk edge (stop ∷ allowed) u w =
    larger_of (best_walk edge allowed u w)
    (smaller_of (best_walk edge allowed u stop) (best_walk edge allowed stop w))

-- whether u is the fresh individual
abbrev pub mark_value : Option ℕ → ℕ → K3
mark_value None u = No
mark_value (Some w) u = if w == u then Yes else No

-- whether u and w are one cell: a summary may stand for several, so there it is unknown
abbrev pub same_value : LogicalStructure → ℕ → ℕ → K3
same_value s u w = if u == w then (if s.is_summary u then Half else Yes) else No

-- the value of the formula in the structure under the assignment
abbrev pub value : LogicalStructure → Assignment → Form → K3
value s a FZero = No
value s a FOne = Yes
value s a (FAtom pred vars) = s.value pred (map a vars)
value s a (FIsNew v) = mark_value s.fresh (a v)
value s a (FSame v w) = same_value s (a v) (a w)
value s a (FNot f) = negation_of (value s a f)
value s a (FAnd f g) = smaller_of (value s a f) (value s a g)
value s a (FOr f g) = larger_of (value s a f) (value s a g)
value s a (FIff f g) =
    smaller_of (larger_of (negation_of (value s a f)) (value s a g))
    (larger_of (negation_of (value s a g)) (value s a f))
value s a (FCond c f g) =
    larger_of (smaller_of (value s a c) (value s a f)) (smaller_of (negation_of (value s a c)) (value s a g))
value s a (FExists v f) = greatest_of (λ u. value s (put a v u) f) s.individuals
value s a (FForall v f) = least_of (λ u. value s (put a v u) f) s.individuals
value s a (FClosure from to left right f) =
    best_walk (λ u w. value s (put (put a left u) right w) f) s.individuals (a from) (a to)
