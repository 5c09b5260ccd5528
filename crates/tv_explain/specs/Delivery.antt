-- What the two sinks take in a call.
use Rattle.std.specs.Prelude.{◌≡◌, ℕ, ◌⊎◌, List, Option, Result, Ok, Err}
use Rattle.tv_outside.specs.Told.{appended, TookFront}
use Rattle.tv_status.specs.declared.status.Status.TheVariants.{WriteFault}
use Rattle.tv_explain.specs.Faults.{ending_of, ending_with, text_of}
use Rattle.tv_explain.specs.declared.fault.Answer.{Answer}
use Rattle.tv_explain.specs.declared.fault.Ending.{Ending}
use Rattle.tv_explain.specs.declared.fault.Ending.TheVariants.{As}
use Rattle.tv_explain.specs.declared.fault.Fault.{Fault}

-- the ending of a call that found this, where no sink fails
abbrev pub ending_for : Result Answer Fault → Ending
ending_for (Ok answer) = ending_with answer.is_lost
ending_for (Err fault) = ending_of fault

-- the whole text was taken and the call ends so, or a front of it, and the call ends in a write fault
abbrev pub Takes : (text : List ℕ) → (due ends : Ending) → (rose : Type 0) → (old new : Option (List ℕ))
    → Type 0
Takes text due ends rose old new =
    ((ends ≡ due) × (new ≡ appended old text)) ⊎ ((ends ≡ As WriteFault) × rose × TookFront old new text)

-- the output took the whole text, the error output nothing, and the call ends so; or the output failed and
-- took a front, which the error output is told
abbrev pub GivesText : (text : List ℕ) → (due ends : Ending) → (out_rose err_rose : Type 0)
    → (out_old out_new err_old err_new : Option (List ℕ)) → Type 0
GivesText text due ends out_rose err_rose out_old out_new err_old err_new =
    ((ends ≡ due) × (out_new ≡ appended out_old text) × (err_new ≡ err_old))
    ⊎ (out_rose × TookFront out_old out_new text
    × Takes (text_of (As WriteFault)) (As WriteFault) ends err_rose err_old err_new)

-- what was found was given: an answer's text to the output; a fault's text to the error output, and nothing
-- to the output
abbrev pub IsDelivered : Result Answer Fault → (ends : Ending) → (out_rose err_rose : Type 0)
    → (out_old out_new err_old err_new : Option (List ℕ)) → Type 0
IsDelivered (Ok answer) ends out_rose err_rose out_old out_new err_old err_new = GivesText
    answer.text.items (ending_with answer.is_lost) ends out_rose err_rose out_old out_new err_old err_new
IsDelivered (Err fault) ends out_rose err_rose out_old out_new err_old err_new = (out_new ≡ out_old)
    × Takes (text_of (ending_of fault)) (ending_of fault) ends err_rose err_old err_new
