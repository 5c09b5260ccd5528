-- How a call of the program ends.
use Rattle.std.specs.Prelude.{◌≡◌, ◌⊎◌, ℕ, List, Option, Result, String}
use Rattle.std.specs.declared.alloc.Global.{Global}
use Rattle.std.specs.declared.vec.IntoIter.{IntoIter}
use Rattle.tv_outside.specs.Told.{Held}
use Rattle.tv_real.specs.Ended.{EndsWithoutMemory, HasWords}
use Rattle.tv_status.specs.declared.status.Teller.TheVariants.{Explainer}
use Rattle.tv_status.specs.declared.status.Status.{Status}
use Rattle.tv_status.specs.declared.status.Status.TheVariants.{Memory}
use Rattle.tv_explain.specs.Begins.{BeginsFor, BeginsNoMore, OnAnswer}
use Rattle.tv_explain.specs.Call.{Commands, IsEnded}
use Rattle.tv_explain.specs.Due.{EndsAsOwed, MayStand}
use Rattle.tv_explain.specs.declared.fault.Ending.{Ending}
use Rattle.tv_explain.specs.declared.fault.Ending.TheVariants.{As}
use Rattle.tv_words.specs.Words.{words_of}

-- there is no memory for the arguments
abbrev pub LacksMemory : (err_rose : Type 0) → (out_old out_new err_old err_new : Option (List ℕ)) → Ending
    → Type 0
LacksMemory err_rose out_old out_new err_old err_new ending = (status : Status) × (ending ≡ As status)
    × EndsWithoutMemory Explainer err_rose out_old out_new err_old err_new status

-- a call with these words ends so, as the contract of `explain` says
pub record EndsAsDue (words : List (List ℕ)) (told : Option Held)
    (read_rose steady out_rose err_rose : Type 0) (begins_old begins_new : ℕ)
    (out_old out_new err_old err_new : Option (List ℕ)) (ending : Ending) : Type 0 where
  pub done : IsEnded
      words told read_rose steady out_rose err_rose out_old out_new err_old err_new ending
  pub exact : EndsAsOwed words told ending (MayStand ending)
  pub complete : ¬ read_rose → ¬ out_rose → ¬ err_rose → EndsAsOwed words told ending (ending ≡ As Memory)
  pub begins : OnAnswer ending (Commands words (BeginsFor told begins_old begins_new))
  pub most : BeginsNoMore words told begins_old begins_new

-- a call with these arguments, of which the first is the program's name, ends so: on the words
-- behind it, or without memory for them
abbrev pub EndsSo : {E : Type 0} → Result (IntoIter (String Global) Global) E → (told : Option Held)
    → (read_rose steady out_rose err_rose : Type 0) → (begins_old begins_new : ℕ)
    → (out_old out_new err_old err_new : Option (List ℕ)) → Ending
    → Type 0
EndsSo args told read_rose steady out_rose err_rose begins_old begins_new out_old out_new err_old err_new
    ending =
    HasWords args (λ words. EndsAsDue (words_of words) told read_rose steady out_rose err_rose
    begins_old begins_new out_old out_new err_old err_new ending)
    ⊎ LacksMemory err_rose out_old out_new err_old err_new ending
