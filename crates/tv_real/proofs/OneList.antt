-- A program has one list of arguments.
use Rattle.std.proofs.Common.{◌≡◌, ◌∙◌, List, Result, Ok, Err, sym}
use Rattle.std.specs.Prelude.{String}
use Rattle.std.specs.declared.alloc.Global.{Global}
use Rattle.std.specs.declared.vec.IntoIter.{IntoIter}
use Rattle.tv_real.specs.Ended.{AreArguments}

pub one_arguments : {E : Type 0} (args : Result (IntoIter (String Global) Global) E)
    (a b : List (String Global)) → AreArguments args a → AreArguments args b → a ≡ b
one_arguments (Ok args) a b h k = h ∙ sym k
one_arguments (Err error) a b h k = h ∙ sym k
