-- How a call of the program ends.
use Rattle.std.specs.Prelude.{◌≡◌, ◌⊎◌, ℕ, List, Option, Result, String}
use Rattle.std.specs.declared.alloc.Global.{Global}
use Rattle.std.specs.declared.vec.IntoIter.{IntoIter}
use Rattle.tv_outside.specs.Told.{Held}
use Rattle.tv_real.specs.Ended.{EndsWithoutMemory, HasWords}
use Rattle.tv_status.specs.declared.status.Teller.TheVariants.{Analyzer}
use Rattle.tv_status.specs.declared.status.Status.{Status}
use Rattle.tv_status.specs.declared.status.Status.TheVariants.{Memory}
use Rattle.tv_top.specs.Begins.{BeginsDuly, BeginsWithin}
use Rattle.tv_top.specs.Call.{EndsDuly, EndsFor, IsAnswerTo, IsCause, IsExcuse}
use Rattle.tv_top.specs.Delivery.{ErrTook, OutTook}
use Rattle.tv_words.specs.Words.{words_of}

-- a call with these words ends in this status, as the contract of `tvla` says
pub record EndsAsTold (words : List (List ℕ)) (told : Option Held)
    (read_rose steady out_rose err_rose : Type 0) (begins_old begins_new : ℕ)
    (out_old out_new err_old err_new : Option (List ℕ)) (status : Status) : Type 0 where
  pub cause : EndsFor (IsCause words told read_rose steady) (out_rose ⊎ err_rose) status
  pub out : OutTook status (IsAnswerTo words told) out_rose err_rose out_old out_new
  pub err : ErrTook status (IsCause words told read_rose steady) out_rose err_rose err_old err_new
  pub exact : EndsDuly words told status (IsExcuse status)
  pub complete : ¬ read_rose → ¬ out_rose → ¬ err_rose → EndsDuly words told status (status ≡ Memory)
  pub begins : BeginsDuly words told begins_old begins_new status
  pub most : BeginsWithin words told begins_old begins_new

-- a call with these arguments, of which the first is the program's name, ends in this status: on the words
-- behind it, or without memory for them
abbrev pub EndsSo : {E : Type 0} → Result (IntoIter (String Global) Global) E → (told : Option Held)
    → (read_rose steady out_rose err_rose : Type 0) → (begins_old begins_new : ℕ)
    → (out_old out_new err_old err_new : Option (List ℕ)) → Status
    → Type 0
EndsSo args told read_rose steady out_rose err_rose begins_old begins_new out_old out_new err_old err_new
    status =
    HasWords args (λ words. EndsAsTold (words_of words) told read_rose steady out_rose err_rose
    begins_old begins_new out_old out_new err_old err_new status)
    ⊎ EndsWithoutMemory Analyzer err_rose out_old out_new err_old err_new status
