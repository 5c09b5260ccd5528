-- Traces as they are written.
use Rattle.std.specs.Prelude.{ℕ, List, Option}
use Rattle.tv_tvs.specs.Tree.{StructTree}

-- a step: the number of its edge, the individuals that it picks, and a structure, if one is written
pub record StepTree : Type 0 where
  pub edge : ℕ
  pub picks : List ℕ
  pub values : Option StructTree
