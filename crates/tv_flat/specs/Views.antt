-- What words stand for, without where they lie in memory.
use Rattle.std.specs.Prelude.{ℕ, List, map}
use Rattle.std.specs.Borrow.{Bor}
use Rattle.tv_flat.specs.declared.binding.Bound.{Bound}
use Rattle.tv_flat.specs.declared.binding.Scope.{Scope}
use Rattle.tv_flat.specs.Replaced.{Binding, all_bound}

abbrev pub param_of : Bor (List ℕ) × Bor (List ℕ) → List ℕ × List ℕ
param_of p = (p.0.now, p.1.now)

abbrev pub params_of : List (Bor (List ℕ) × Bor (List ℕ)) → Binding
params_of ps = map param_of ps

abbrev pub pair_of : Bound → List ℕ × List ℕ
pair_of b = (b.word.now, b.by.now)

abbrev pub pairs_of : List Bound → List (List ℕ × List ℕ)
pairs_of bs = map pair_of bs

-- the variables of the foreach around hide parameters
abbrev pub binding_of : Scope → Binding
binding_of s = all_bound (params_of s.params.now.entries) (pairs_of s.vars.items)
