-- What differencing makes of a program is one program.
use Rattle.std.proofs.Common.{◌≡◌, ◌<◌, ◌∙◌, ℕ, Bool, true, false, List, [], ◌∷◌, length, get_or, inl, inr}
use Rattle.std.proofs.Common.{refl, sym, ap, arith}
use Rattle.std.specs.List.{AllZip}
use Rattle.std.proofs.lemmas.List.{same_lists, get_or_default}
use Rattle.std.proofs.lemmas.Option.{slice_get_cases, unwrap_or-slice_get}
use Rattle.tv_delta_laws.specs.Deltas.{is_flagged}
use Rattle.tv_delta_laws.specs.Differences.{AreAffected, differenced_updates, with_updates, with_actions}
use Rattle.tv_delta_laws.specs.Differences.{IsDifferencedAction, IsDifferenced}
use Rattle.tv_model.specs.Program.{ProgramForm, ActionForm}

same_truth : (a b : Bool) → ((a ≡ true) → (b ≡ true)) → ((b ≡ true) → (a ≡ true)) → a ≡ b
same_truth true true f g = refl
same_truth true false f g = sym (f refl)
same_truth false true f g = g refl
same_truth false false f g = refl

flag_at : (flags : List Bool) (q : ℕ) (d : Bool) → q < length flags → is_flagged flags q ≡ get_or flags q d
flag_at flags q d lt = unwrap_or-slice_get flags q false ∙ get_or_default flags q false d lt

one_flags : (p : ProgramForm) (action : ActionForm) (a b : List Bool) → AreAffected p action a → AreAffected p action b
    → a ≡ b
one_flags p action a b h k = same_lists a b (h.one_each ∙ sym k.one_each) (λ q d lt.
    let inside : q < length b = omega (arith, lt, h.one_each, k.one_each) in
    sym (flag_at a q d lt) ∙ each q (omega (arith, lt, h.one_each)) ∙ flag_at b q d inside)
  where
    each : (q : ℕ) → q < length p.preds → is_flagged a q ≡ is_flagged b q
    each q lt = elim (slice_get_cases p.preds q).1 [
      | inl found ↦ same_truth (is_flagged a q) (is_flagged b q)
          (λ e. (k.tell q found.0 found.2).1 ((h.tell q found.0 found.2).0 e))
          (λ e. (h.tell q found.0 found.2).1 ((k.tell q found.0 found.2).0 e))
      | inr past ↦ absurd (omega (arith, lt, past.0))
    ]

one_action : (p : ProgramForm) (old a b : ActionForm) → IsDifferencedAction p old a → IsDifferencedAction p old b → a ≡ b
one_action p old a b h k =
    h.2 ∙ ap (λ f. with_updates old (differenced_updates p old f)) (one_flags p old h.0 k.0 h.1 k.1) ∙ sym k.2

one_actions : (p : ProgramForm) (olds xs ys : List ActionForm) → AllZip (IsDifferencedAction p) olds xs
    → AllZip (IsDifferencedAction p) olds ys → xs ≡ ys
one_actions p [] [] [] h k = refl
one_actions p [] [] (y ∷ ys) h k = absurd k
one_actions p [] (x ∷ xs) ys h k = absurd h
one_actions p (old ∷ olds) [] ys h k = absurd h
one_actions p (old ∷ olds) (x ∷ xs) [] h k = absurd k
one_actions p (old ∷ olds) (x ∷ xs) (y ∷ ys) h k =
    rw (one_action p old x y h.0 k.0, one_actions p olds xs ys h.1 k.1) refl

pub one_differenced : (p a b : ProgramForm) → IsDifferenced p a → IsDifferenced p b → a ≡ b
one_differenced p a b h k =
    h.rest ∙ ap (with_actions p) (one_actions p p.actions a.actions b.actions h.actions k.actions) ∙ sym k.rest
