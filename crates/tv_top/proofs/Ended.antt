-- What is said of a call on steady files whose sinks don't fail.
use Rattle.std.proofs.Common.{◌≡◌, ◌⊎◌, ◌++◌, ℕ, List, [], Option, Some, inl, inr, sym, ap, subst, ◌∙◌}
use Rattle.std.proofs.Common.{append-nil}
use Rattle.std.proofs.Common.{⊎_elim}
use Rattle.std.proofs.lemmas.List.{append_cancel_left}
use Rattle.tv_outside.specs.Told.{Held}
use Rattle.tv_status.specs.declared.status.Status.{Status}
use Rattle.tv_status.specs.declared.status.Status.TheVariants.{Done, Rejected, Stuck}
use Rattle.tv_status.specs.declared.status.Status.TheVariants.{ReadFault, WriteFault, Memory}
use Rattle.tv_top.specs.Call.{EndsFor, IsAnswerTo, IsCause}
use Rattle.tv_top.specs.Delivery.{OutTook, TookText}
use Rattle.tv_top.specs.One.{HasEnded}

some_same : (xs ys : List ℕ) → Some xs ≡ Some ys → xs ≡ ys
some_same xs ys e = cc

module _ (words : List (List ℕ)) (held : Held) (rose steady out_rose err_rose : Type 0) (is_steady : steady)
    (no_out : ¬ out_rose) (no_err : ¬ err_rose) where
  ended_cause : (status : Status) → EndsFor (IsCause words (Some held) rose steady) (out_rose ⊎ err_rose) status
      → EndsFor (IsCause words (Some held) (Unit {0}) (Unit {0})) ⊥ status
  ended_cause ReadFault cause = (cause.0, cause.1, (tt, λ u. cause.2.1 is_steady))
  ended_cause WriteFault cause = ⊎_elim no_out no_err cause
  ended_cause Done cause = tt
  ended_cause (Rejected r) cause = tt
  ended_cause (Stuck step why) cause = tt
  ended_cause Memory cause = tt
  ended_cause other cause = cause

  module _ (before text : List ℕ) where
    abbrev after : Option (List ℕ)
    after = Some (before ++ text)

    -- what was taken behind what stood before
    took_text : (IsText : List ℕ → Type 0) → TookText IsText (Some before) after → TookText IsText (Some []) (Some text)
    took_text IsText took =
        let same : before ++ text ≡ before ++ took.0 = some_same (before ++ text) (before ++ took.0) took.2 in
        (took.0, took.1, ap Some (append_cancel_left before text took.0 same))

    took_none : after ≡ Some before → Some text ≡ Some []
    took_none e =
        let same : before ++ text ≡ before ++ [] = some_same (before ++ text) before e ∙ sym (append-nil before) in
        ap Some (append_cancel_left before text [] same)

    ended_took : (status : Status) → OutTook status (IsAnswerTo words (Some held)) out_rose err_rose (Some before) after
        → OutTook status (IsAnswerTo words (Some held)) ⊥ ⊥ (Some []) (Some text)
    ended_took Done took = took_text (IsAnswerTo words (Some held) Done) took
    ended_took (Rejected r) took = took_text (IsAnswerTo words (Some held) (Rejected r)) took
    ended_took (Stuck step why) took = took_text (IsAnswerTo words (Some held) (Stuck step why)) took
    ended_took WriteFault (inl took) = absurd (no_out took.0)
    ended_took WriteFault (inr took) = absurd (no_err took.0)
    ended_took other took = took_none took

-- the call ended so
pub has_ended : (words : List (List ℕ)) (told : Option Held) (status : Status) (rose steady out_rose err_rose : Type 0)
    (old new : Option (List ℕ)) → EndsFor (IsCause words told rose steady) (out_rose ⊎ err_rose) status
    → OutTook status (IsAnswerTo words told) out_rose err_rose old new
    → (held : Held) (before text : List ℕ) → steady → told ≡ Some held → ¬ out_rose → ¬ err_rose → old ≡ Some before
    → new ≡ Some (before ++ text) → HasEnded words held status text
has_ended words told status rose steady out_rose err_rose old new cause took held before text is_steady tells no_out no_err from to = record {
  cause = ended_cause words held rose steady out_rose err_rose is_steady no_out no_err status
      (subst (λ o. EndsFor (IsCause words o rose steady) (out_rose ⊎ err_rose) status) tells cause);
  took = ended_took words held rose steady out_rose err_rose is_steady no_out no_err before text status
      (subst (λ o. OutTook status (IsAnswerTo words (Some held)) out_rose err_rose o (Some (before ++ text))) from
      (subst (λ o. OutTook status (IsAnswerTo words (Some held)) out_rose err_rose old o) to
      (subst (λ o. OutTook status (IsAnswerTo words o) out_rose err_rose old new) tells took)));
}
