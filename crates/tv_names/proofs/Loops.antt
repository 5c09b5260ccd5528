-- Loops that take each item in its order, up to the first refusal.
use Rattle.std.proofs.Common.{◌≡◌, ℕ, suc, ◌+◌, ◌<◌, ◌≤◌, get_or, List, ◌∷◌, length, map, drop, refl, ap, sym}
use Rattle.std.proofs.Common.{◌∙◌, add-one, drop-cons, Ok, Err}
use Rattle.std.proofs.lemmas.List.{drop_all}
use Rattle.tv_names.specs.declared.refusal.ResolveError.{ResolveError}
use Rattle.tv_names.specs.declared.refusal.ResolveError.TheVariants.{NameUnknown, NameTwice, ArityWrong}
use Rattle.tv_names.specs.declared.refusal.ResolveError.TheVariants.{ArityTooLarge, Reserved, VariableUnbound}
use Rattle.tv_names.specs.declared.refusal.ResolveError.TheVariants.{TooManyVariables, UpdateTwice}
use Rattle.tv_names.specs.declared.refusal.ResolveError.TheVariants.{DefinitionCycle, HeadForm, HalfLiteral}
use Rattle.tv_names.specs.declared.refusal.ResolveError.TheVariants.{TooMany, NoEdge, Memory}
use Rattle.tv_names.specs.Refusal.{◌>>=◌, OrRefused, Refuses, one_by_one}

-- what is left from the place i on
abbrev pub left : {S A B : Type 0} → (S → B → OrRefused S) → (A → B) → S → ℕ → List A → OrRefused S
left step view s i xs = one_by_one step s (map view (drop i xs))

module _ {S A B : Type 0} (step : S → B → OrRefused S) (view : A → B) where
  left_more : (s : S) (i : ℕ) (xs : List A) (x : A) → i < length xs → x ≡ get_or xs i x → left step view s i xs ≡ (step s (view x) >>= λ t. left step view t (i + 1) xs)
  left_more s i xs x lt is =
      let e : drop i xs ≡ x ∷ drop (suc i) xs = drop-cons xs i x lt ∙ ap (λ (y : A). y ∷ drop (suc i) xs) (sym is) in
      rw (e, add-one) refl

  -- one item more
  pub go_on : (total : OrRefused S) (s t : S) (i : ℕ) (xs : List A) (x : A) → total ≡ left step view s i xs → i < length xs → x ≡ get_or xs i x → step s (view x) ≡ Ok t → total ≡ left step view t (i + 1) xs
  go_on total s t i xs x so_far lt is taken = so_far ∙ left_more s i xs x lt is ∙ ap (λ (r : OrRefused S). r >>= λ u. left step view u (i + 1) xs) taken

  pub all_taken : (total : OrRefused S) (s : S) (i : ℕ) (xs : List A) → total ≡ left step view s i xs → length xs ≤ i → total ≡ Ok s
  all_taken total s i xs so_far le = so_far ∙ ap (λ (ys : List A). one_by_one step s (map view ys)) (drop_all i xs le)

  stopped_by : (total : OrRefused S) (s : S) (i : ℕ) (xs : List A) (x : A) → total ≡ left step view s i xs → i < length xs → x ≡ get_or xs i x → (e : ResolveError) → step s (view x) ≡ Err e → total ≡ Err e
  stopped_by total s i xs x so_far lt is e taken = so_far ∙ left_more s i xs x lt is ∙ ap (λ (r : OrRefused S). r >>= λ u. left step view u (i + 1) xs) taken

  -- the refusal of an item is that of all
  pub stopped : (total : OrRefused S) (s : S) (i : ℕ) (xs : List A) (x : A) (e : ResolveError) → total ≡ left step view s i xs → i < length xs → x ≡ get_or xs i x → Refuses e (step s (view x)) → Refuses e total
  stopped total s i xs x Memory so_far lt is h = tt
  stopped total s i xs x NameUnknown so_far lt is h = stopped_by total s i xs x so_far lt is NameUnknown h
  stopped total s i xs x NameTwice so_far lt is h = stopped_by total s i xs x so_far lt is NameTwice h
  stopped total s i xs x ArityWrong so_far lt is h = stopped_by total s i xs x so_far lt is ArityWrong h
  stopped total s i xs x ArityTooLarge so_far lt is h = stopped_by total s i xs x so_far lt is ArityTooLarge h
  stopped total s i xs x Reserved so_far lt is h = stopped_by total s i xs x so_far lt is Reserved h
  stopped total s i xs x VariableUnbound so_far lt is h = stopped_by total s i xs x so_far lt is VariableUnbound h
  stopped total s i xs x TooManyVariables so_far lt is h = stopped_by total s i xs x so_far lt is TooManyVariables h
  stopped total s i xs x UpdateTwice so_far lt is h = stopped_by total s i xs x so_far lt is UpdateTwice h
  stopped total s i xs x DefinitionCycle so_far lt is h = stopped_by total s i xs x so_far lt is DefinitionCycle h
  stopped total s i xs x HeadForm so_far lt is h = stopped_by total s i xs x so_far lt is HeadForm h
  stopped total s i xs x HalfLiteral so_far lt is h = stopped_by total s i xs x so_far lt is HalfLiteral h
  stopped total s i xs x TooMany so_far lt is h = stopped_by total s i xs x so_far lt is TooMany h
  stopped total s i xs x NoEdge so_far lt is h = stopped_by total s i xs x so_far lt is NoEdge h
