-- How a call of a program ends.
use Rattle.std.specs.Prelude.{◌≡◌, ◌⊎◌, ℕ, List, [], Option, Result, Ok, Err, String, drop}
use Rattle.std.specs.Vec.Iter.{into_iter_items}
use Rattle.std.specs.declared.alloc.Global.{Global}
use Rattle.std.specs.declared.vec.IntoIter.{IntoIter}
use Rattle.tv_outside.specs.Told.{TookFront, appended}
use Rattle.tv_status.specs.Delivery.{StopsAtFailure}
use Rattle.tv_status.specs.Status.{told_by}
use Rattle.tv_status.specs.declared.status.Status.{Status}
use Rattle.tv_status.specs.declared.status.Status.TheVariants.{Memory, WriteFault}
use Rattle.tv_status.specs.declared.status.Teller.{Teller}

-- the arguments in order; none where they can't be told as text
abbrev pub AreArguments : {E : Type 0} → Result (IntoIter (String Global) Global) E → List (String Global)
    → Type 0
AreArguments (Ok args) all = all ≡ into_iter_items args
AreArguments (Err error) all = all ≡ []

-- that there is no memory, which no words of commands belong to
abbrev pub memory_text : Teller → List ℕ
memory_text teller = told_by teller [] Memory

-- there is no memory for the arguments, which standard error is told, or a front of it where it failed
pub record EndsWithoutMemory (teller : Teller) (err_rose : Type 0)
    (out_old out_new err_old err_new : Option (List ℕ)) (status : Status)
    : Type 0 where
  pub out : out_new ≡ out_old
  pub err : ((status ≡ Memory) × (err_new ≡ appended err_old (memory_text teller)))
      ⊎ ((status ≡ WriteFault) × err_rose × TookFront err_old err_new (memory_text teller))

-- neither stream is given anything once it has failed
abbrev pub StreamsStop : (out_old out_new out_since err_old err_new err_since : ℕ) → Type 0
StreamsStop out_old out_new out_since err_old err_new err_since =
    StopsAtFailure out_old out_new out_since × StopsAtFailure err_old err_new err_since

-- the words behind the first argument, which is the program's name, are such
abbrev pub HasWords : {E : Type 0} → Result (IntoIter (String Global) Global) E
    → (List (String Global) → Type 0) → Type 0
HasWords args AreSuch = (all : List (String Global)) × AreArguments args all × AreSuch (drop 1 all)

-- the exit code is that of an ending of which this is so
abbrev pub HasCodeOf : {S : Type 0} → (code_of : S → ℕ) → (code : ℕ) → (S → Type 0) → Type 0
HasCodeOf {S} code_of code IsSo = (ending : S) × (code ≡ code_of ending) × IsSo ending
