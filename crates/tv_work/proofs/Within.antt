-- What is reached through listed structures.
use Rattle.std.proofs.Common.{ℕ, ◌≡◌, List, [], ◌∷◌, arith, refl}
use Rattle.std.specs.Prelude.{Contains}
use Rattle.std.proofs.lemmas.List.Elements.{All-cons, All-nil, All-weaker}
use Rattle.tv_model.specs.declared.program.Mode.{Mode}
use Rattle.tv_model.specs.Program.{ProgramForm}
use Rattle.tv_structure_form.specs.StructureForm.{StructureForm}
use Rattle.tv_step_laws.specs.Transfer.{AreResults, IsOpening}
use Rattle.tv_work.specs.Analyzed.{IsAtSource}
use Rattle.tv_work.specs.Explored.{KeepsListed}
use Rattle.tv_work.specs.Reach.{Point, IsListed, IsReached, AreMoreThan}
use Rattle.tv_work.specs.Stopped.{ListsPast}
use Rattle.tv_work.specs.Task.{TaskForm, reached_in, reached_within}

-- it is reached
pub within-reached : (t : TaskForm) (listing : List (List StructureForm)) (x : Point)
    → reached_within t listing x → reached_in t x
within-reached t listing x is = record { before = is.before; derivation = is.derivation }

-- also where more is listed
pub within-kept : (t : TaskForm) (old new : List (List StructureForm)) → KeepsListed old new → (x : Point)
    → reached_within t old x → reached_within t new x
within-kept t old new keeps x is = record {
  before = is.before;
  derivation = is.derivation;
  listed = All-weaker (IsListed old) (IsListed new) keeps is.before is.listed;
}

-- an opening, through none
pub start-within : (t : TaskForm) (listing : List (List StructureForm)) (s u : StructureForm)
    → Contains t.initial s → IsOpening t.program s u
    → reached_within t listing (record { node = 0; structure = u })
start-within t listing s u (k, within, at) opening = record {
  before = [];
  derivation = record { node = refl; opens = (k, s, within, at, opening) };
  listed = All-nil (IsListed listing);
}

-- a result of a listed structure, through this one and those before it
pub step-within : (t : TaskForm) (listing : List (List StructureForm)) (edge : ℕ) (x : Point)
    → IsListed listing x → (source : IsAtSource t.program edge (reached_within t listing) x)
    → (results : List StructureForm) → AreResults t.program t.mode edge x.structure results
    → (y : Point) → y.node ≡ source.taken.to → Contains results y.structure → reached_within t listing y
step-within t listing edge x here source results are y enters has = record {
  before = x ∷ source.has.before;
  derivation = (
    (
      edge,
      source.taken,
      record {
        is_edge = source.is_edge;
        leaves = source.leaves;
        enters = enters;
        result
            = (results, are, has);
      },
    ),
    source.has.derivation,
  );
  listed = All-cons (IsListed listing) x source.has.before here source.has.listed;
}

-- where so many are listed, more than `max` are reached
pub past_more : (p : ProgramForm) (mode : Mode) (initial : List StructureForm) (max : ℕ)
    (listing : List (List StructureForm)) → ListsPast p mode initial max listing
    → AreMoreThan max (IsReached p mode initial)
past_more p mode initial max listing past = record {
  found = listing;
  different = past.different;
  each = λ x has. let is = past.each x has in record { before = is.before; derivation = is.derivation };
  more = omega (arith, past.total);
}
