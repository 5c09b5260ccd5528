-- What an action gives, in tables.
use Rattle.std.specs.Prelude.{ℕ, ◌≡◌, ◌<◌, ◌^◌, Bool, true, false, List, length, map, filter, None, All}
use Rattle.std.specs.Prelude.{Contains, slice_index, slice_index_or}
use Rattle.std.specs.List.{AllZip}
use Rattle.tv_kleene.specs.declared.K3.{K3}
use Rattle.tv_model.specs.declared.program.Mode.{Mode}
use Rattle.tv_model.specs.Program.{ProgramForm, ActionForm}
use Rattle.tv_model.specs.Truth.{Assignment}
use Rattle.tv_model.specs.Valid.{IsValid}
use Rattle.tv_embedding_laws.specs.LogicalStructure.{LogicalStructure}
use Rattle.tv_structure_form.specs.Halves.{row_halves}
use Rattle.tv_structure_form.specs.TableForm.{AreIndividuals}
use Rattle.tv_structure_form.specs.StructureForm.{StructureForm, IsStructure, structure_of, arities_of}
use Rattle.tv_structure_form.specs.StructureForm.{value_at}
use Rattle.tv_structure_form.specs.StructureForm.{summary_at, with_new, without, kept_from}
use Rattle.tv_update_laws.specs.Applied.{IsMiddleOf, keep_value}
use Rattle.tv_update_laws.specs.Choices.{choices_of, AreGiven}

-- ---- the middle table, and tables without some of their individuals

-- the table in which updates and the retain formula are read
abbrev pub middle_table : (fresh : Bool) → StructureForm → StructureForm
middle_table false s = s
middle_table true s = with_new s

abbrev pub TablesAreMiddle : Type 0
TablesAreMiddle =
    (fresh : Bool) (s : StructureForm) → IsStructure s
    → IsMiddleOf fresh (structure_of s) (structure_of (middle_table fresh s))

-- whether the individual's flag is set
abbrev pub flag_at : List Bool → ℕ → Bool
flag_at keep u = slice_index_or keep u false

-- where an individual comes from, if those with a set flag stay
abbrev pub origin_at : List Bool → ℕ → ℕ
origin_at keep u = slice_index (kept_from 0 keep) u

-- t's individuals are those of s that are kept, in order and one for one, with their values and summaries,
-- and none is marked
pub record IsKeptPart (keep : ℕ → Bool) (origin : ℕ → ℕ) (s t : LogicalStructure) : Type 0 where
  pub origins : map origin t.individuals ≡ filter keep s.individuals
  pub differ : (u w : ℕ) → Contains t.individuals u → Contains t.individuals w → origin u ≡ origin w → u ≡ w
  pub values : (q : ℕ) (tuple : List ℕ) → All (Contains t.individuals) tuple
      → t.value q tuple ≡ s.value q (map origin tuple)
  pub summaries : (u : ℕ) → Contains t.individuals u → t.is_summary u ≡ s.is_summary (origin u)
  pub no_mark : t.fresh ≡ None

abbrev pub TablesAreKept : Type 0
TablesAreKept =
    (s : StructureForm) → IsStructure s → (keep : List Bool) → length keep ≡ s.size
    → IsKeptPart (flag_at keep) (origin_at keep) (structure_of s) (structure_of (without s keep))

-- ---- the tables that an action gives

-- t is a table over the predicates of s, without a mark
pub record IsGivenOver (s t : StructureForm) : Type 0 where
  pub is : IsStructure t
  pub over : arities_of t ≡ arities_of s
  pub unmarked : t.fresh ≡ None

-- two tables say the same of their individuals
pub record SaysSame (t u : StructureForm) : Type 0 where
  pub size : t.size ≡ u.size
  pub values : (q : ℕ) (tuple : List ℕ) → AreIndividuals t.size tuple
      → value_at t q tuple ≡ value_at u q tuple
  pub summaries : (x : ℕ) → x < t.size → summary_at t x ≡ summary_at u x
  pub fresh : t.fresh ≡ u.fresh

-- the tables that an action gives say one thing, whatever the middle structure calls its further individual
abbrev pub GivenTablesAreOne : Type 0
GivenTablesAreOne =
    (p : ProgramForm) → IsValid p → (mode : Mode) (action : ActionForm) → Contains p.actions action
    → (s : LogicalStructure) (picks : Assignment) → All (λ v. Contains s.individuals (picks v)) action.picks
    → (ts us : List StructureForm) → AreGiven p mode action s picks (map structure_of ts)
    → AreGiven p mode action s picks (map structure_of us) → AllZip SaysSame ts us

-- ---- limits

-- the choices of the individuals that stay
abbrev pub kept_choices : ActionForm → LogicalStructure → Assignment → List (List ℕ)
kept_choices action middle picks = choices_of (keep_value middle picks action.retain) middle.individuals

-- the middle structure has over 256 individuals
abbrev pub IsTooLarge : ActionForm → LogicalStructure → Type 0
IsTooLarge action s = (m : LogicalStructure) × IsMiddleOf action.fresh s m × (256 < length m.individuals)

-- there are over 4,096 choices of the individuals that stay
abbrev pub HasManyChoices : ActionForm → LogicalStructure → Assignment → Type 0
HasManyChoices action s picks =
    (m : LogicalStructure) × IsMiddleOf action.fresh s m × (4096 < length (kept_choices action m picks))

-- there are 2 choices for each unknown value
abbrev pub ChoicesAreCounted : Type 0
ChoicesAreCounted = (keep : ℕ → K3) (us : List ℕ) → length (choices_of keep us) ≡ 2 ^ row_halves (map keep us)

-- all middle structures of one have as many individuals, and as many choices
pub record MiddlesAreAlike (action : ActionForm) (picks : Assignment) (m n : LogicalStructure) : Type 0 where
  pub individuals : length m.individuals ≡ length n.individuals
  pub choices : length (kept_choices action m picks) ≡ length (kept_choices action n picks)

abbrev pub OneMiddleIsAsGood : Type 0
OneMiddleIsAsGood =
    (p : ProgramForm) → IsValid p → (action : ActionForm) → Contains p.actions action
    → (s : LogicalStructure) (picks : Assignment) → All (λ v. Contains s.individuals (picks v)) action.picks
    → (m n : LogicalStructure) → IsMiddleOf action.fresh s m → IsMiddleOf action.fresh s n
    → MiddlesAreAlike action picks m n
