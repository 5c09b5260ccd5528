-- The clauses of the call, from those of its two halves.
use Rattle.std.proofs.Common.{◌≡◌, ◌⊎◌, ℕ, List, Option, Result, Ok, Err, inl, inr, ⊎_elim, refl, sym, subst}
use Rattle.std.specs.Prelude.{IfOk, IfErr}
use Rattle.tv_outside.specs.Told.{Held}
use Rattle.tv_status.specs.declared.status.Status.{Status}
use Rattle.tv_status.specs.declared.status.Status.TheVariants.{Done, Rejected, Stuck, ReadFault, WriteFault}
use Rattle.tv_status.specs.declared.status.Status.TheVariants.{Memory}
use Rattle.tv_top.specs.Call.{IsCause, EndsFor, EndsDuly, IsExcuse}
use Rattle.tv_top.specs.Delivery.{OutTook, ErrTook, IsText, IsFault, EndsAs, SaidOf, answered, answer_text}
use Rattle.tv_top.specs.Delivery.{status_of, GivesText}
use Rattle.tv_top.specs.Meaning.{Commands, IsMissing}
use Rattle.tv_top.specs.Work.{UnlessReadFault}
use Rattle.tv_top.specs.declared.fault.Answer.{Answer}
use Rattle.tv_top.specs.declared.fault.Answer.TheVariants as answer
use Rattle.tv_top.specs.declared.fault.Fault.{Fault}
use Rattle.tv_top.specs.declared.fault.Fault.TheVariants as fault

-- what holds of the answer that was found
found_text : (found : Result Answer Fault) (IsAnswer : Status → List ℕ → Type 0) (status : Status) (text : List ℕ)
    → IfOk found (SaidOf IsAnswer) → IsText found status text → IsAnswer status text
found_text (Ok a) IsAnswer status text says is = rw (is.0, is.1) says
found_text (Err met) IsAnswer status text says is = absurd is

-- the output took of an answer what it took of the text that was found
pub out_took : (status : Status) (found : Result Answer Fault) (IsAnswer : Status → List ℕ → Type 0) (out_rose err_rose : Type 0)
    (old new : Option (List ℕ)) → IfOk found (SaidOf IsAnswer) → OutTook status (IsText found) out_rose err_rose old new
    → OutTook status IsAnswer out_rose err_rose old new
out_took Done found IsAnswer out_rose err_rose old new says took =
    (took.0, found_text found IsAnswer Done took.0 says took.1, took.2)
out_took (Rejected r) found IsAnswer out_rose err_rose old new says took =
    (took.0, found_text found IsAnswer (Rejected r) took.0 says took.1, took.2)
out_took (Stuck step why) found IsAnswer out_rose err_rose old new says took =
    (took.0, found_text found IsAnswer (Stuck step why) took.0 says took.1, took.2)
out_took WriteFault found IsAnswer out_rose err_rose old new says took = elim took [
  | inl w ↦ inl (w.0, (w.1.0, w.1.1, found_text found IsAnswer w.1.0 w.1.1 says w.1.2, w.1.3))
  | inr w ↦ inr w
]
out_took other found IsAnswer out_rose err_rose old new says took = took

-- what holds of the fault that was met
met_fault : (found : Result Answer Fault) (IsCause : Fault → Type 0) (fault : Fault) → IfErr found IsCause
    → IsFault found fault → IsCause fault
met_fault (Ok a) IsCause fault causes is = absurd is
met_fault (Err met) IsCause fault causes is = subst IsCause (sym is) causes

-- the error output took of a fault with a cause what it took of the one that was met
pub err_took : (status : Status) (found : Result Answer Fault) (IsCause : Fault → Type 0) (out_rose err_rose : Type 0)
    (old new : Option (List ℕ)) → IfErr found IsCause → ErrTook status (IsFault found) out_rose err_rose old new
    → ErrTook status IsCause out_rose err_rose old new
err_took Done found IsCause out_rose err_rose old new causes took = took
err_took WriteFault found IsCause out_rose err_rose old new causes took = elim took [
  | inl w ↦ inl w
  | inr w ↦ inr (w.0, (w.1.0, met_fault found IsCause w.1.0 causes w.1.1, w.1.2))
]
err_took other found IsCause out_rose err_rose old new causes took = took

-- ---- why the call ended so

-- the status of a fault ends for the fault's cause
fault_ends : (f : Fault) (IsCause : Fault → Type 0) (rose : Type 0) → IsCause f → EndsFor IsCause rose (status_of f)
fault_ends fault.Usage IsCause rose h = h
fault_ends other IsCause rose h = h

answer_ends : (a : Answer) (IsCause : Fault → Type 0) (rose : Type 0) → EndsFor IsCause rose (answered a)
answer_ends (answer.Done text) IsCause rose = tt
answer_ends (answer.Rejected r text) IsCause rose = tt
answer_ends (answer.Stuck step why text) IsCause rose = tt

-- a write fault comes where a count of faults rose
write_rose : (status : Status) (IsText : Status → List ℕ → Type 0) (out_rose err_rose : Type 0) (old new : Option (List ℕ))
    → status ≡ WriteFault → OutTook status IsText out_rose err_rose old new → out_rose ⊎ err_rose
write_rose Done IsText out_rose err_rose old new e took = absurd cc
write_rose WriteFault IsText out_rose err_rose old new e took = elim took [
  | inl w ↦ inl w.0
  | inr w ↦ inr w.0
]
write_rose other IsText out_rose err_rose old new e took = absurd cc

pub call_cause : (status : Status) (found : Result Answer Fault) (IsCause : Fault → Type 0) (out_rose err_rose : Type 0)
    (old new : Option (List ℕ)) → IfErr found IsCause → EndsAs found status → OutTook status (IsText found) out_rose err_rose old new
    → EndsFor IsCause (out_rose ⊎ err_rose) status
call_cause status (Ok a) IsCause out_rose err_rose old new causes (inl e) took =
    rw e (answer_ends a IsCause (out_rose ⊎ err_rose))
call_cause status (Err met) IsCause out_rose err_rose old new causes (inl e) took =
    rw e (fault_ends met IsCause (out_rose ⊎ err_rose) causes)
call_cause status (Ok a) IsCause out_rose err_rose old new causes (inr e) took =
    subst (EndsFor IsCause (out_rose ⊎ err_rose)) (sym e) (write_rose status (IsText (Ok a)) out_rose err_rose old new e took)
call_cause status (Err met) IsCause out_rose err_rose old new causes (inr e) took =
    subst (EndsFor IsCause (out_rose ⊎ err_rose)) (sym e) (write_rose status (IsText (Err met)) out_rose err_rose old new e took)

-- ---- where nothing fails

-- where no count of faults rose, the one excuse is lack of memory
memory_excuses : (IsCause : Fault → Type 0) (rose write : Type 0) (status : Status) → (IsCause fault.ReadFault → rose)
    → (¬ rose) → (¬ write) → EndsFor IsCause write status → IsExcuse status → status ≡ Memory
memory_excuses IsCause rose write Done reads no_read no_write cause excuse = absurd excuse
memory_excuses IsCause rose write ReadFault reads no_read no_write cause excuse = absurd (no_read (reads cause))
memory_excuses IsCause rose write WriteFault reads no_read no_write cause excuse = absurd (no_write cause)
memory_excuses IsCause rose write Memory reads no_read no_write cause excuse = refl
memory_excuses IsCause rose write other reads no_read no_write cause excuse = absurd excuse

-- where no count of faults rose, the call ends as the words and the files call for
pub ends_duly : (words : List (List ℕ)) (told : Option Held) (status : Status) (rose steady out_rose err_rose : Type 0)
    → (¬ rose) → (¬ out_rose) → (¬ err_rose)
    → EndsFor (IsCause words told rose steady) (out_rose ⊎ err_rose) status → EndsDuly words told status (IsExcuse status)
    → EndsDuly words told status (status ≡ Memory)
ends_duly words told status rose steady out_rose err_rose no_read no_out no_err cause exact = record {
  due = λ due calls. or_memory (exact.due due calls);
  run = λ calls. or_memory (exact.run calls);
}
  where
    or_memory : {P : Type 0} → P ⊎ IsExcuse status → P ⊎ (status ≡ Memory)
    or_memory (inl same) = inl same
    or_memory (inr excuse) = inr (memory_excuses (IsCause words told rose steady) rose (out_rose ⊎ err_rose) status (λ c. c.2.0)
        no_read (⊎_elim no_out no_err) cause excuse)

-- where no file is missing, steady files don't fail
pub no_fault : (words : List (List ℕ)) (told : Option Held) (rose steady : Type 0) (result : Result Answer Fault) (P : Type 0)
    → ¬ Commands words (IsMissing told) → steady → IfErr result (IsCause words told rose steady) → UnlessReadFault result P → P
no_fault words told rose steady (Ok a) P there s cause unless = unless
no_fault words told rose steady (Err fault.ReadFault) P there s cause unless =
    absurd (there (cause.0, cause.1, cause.2.1 s))
no_fault words told rose steady (Err other) P there s cause unless = unless

-- ---- the two sinks

-- the output took the answer's text, or a front of it
pub given_out : (found : Result Answer Fault) (a : Answer) (text : List ℕ) (due status : Status) (out_rose err_rose : Type 0)
    (out_old out_new err_old err_new : Option (List ℕ)) → found ≡ Ok a → due ≡ answered a → text ≡ answer_text a
    → GivesText text due status out_rose err_rose out_old out_new err_old err_new
    → OutTook status (IsText found) out_rose err_rose out_old out_new
given_out found (answer.Done items) text due status out_rose err_rose out_old out_new err_old err_new f d t (inl h) =
    rw (h.0, d, f) (text, (refl, t), h.1)
given_out found (answer.Done items) text due status out_rose err_rose out_old out_new err_old err_new f d t (inr h) =
    rw (h.0, f) (inl (h.1, (Done, text, (refl, t), h.2)))
given_out found (answer.Rejected r items) text due status out_rose err_rose out_old out_new err_old err_new f d t (inl h) =
    rw (h.0, d, f) (text, (refl, t), h.1)
given_out found (answer.Rejected r items) text due status out_rose err_rose out_old out_new err_old err_new f d t (inr h) =
    rw (h.0, f) (inl (h.1, (Rejected r, text, (refl, t), h.2)))
given_out found (answer.Stuck step why items) text due status out_rose err_rose out_old out_new err_old err_new f d t (inl h) =
    rw (h.0, d, f) (text, (refl, t), h.1)
given_out found (answer.Stuck step why items) text due status out_rose err_rose out_old out_new err_old err_new f d t (inr h) =
    rw (h.0, f) (inl (h.1, (Stuck step why, text, (refl, t), h.2)))
