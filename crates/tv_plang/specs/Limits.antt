-- The limits that are tested before anything is built.
use Rattle.std.specs.Prelude.{ℕ, ◌≤◌, ◌+◌, ◌*◌, length}
use Rattle.tv_source.specs.Forms.{SourceForm}
use Rattle.tv_source.specs.Valid.{IsFieldOf}

-- at most as many variables, and as many fields, as a program may have predicates
pub record HasFewNames (p : SourceForm) : Type 0 where
  pub variables : length p.variables ≤ 512
  pub fields : length p.fields ≤ 512

-- and this is a field of it
abbrev pub IsFieldOfFew : SourceForm → ℕ → Type 0
IsFieldOfFew p f = HasFewNames p × IsFieldOf p f

abbrev pub HasFewPredicates : SourceForm → Type 0
HasFewPredicates p = length p.variables + length p.fields + length p.variables * length p.fields ≤ 512
