-- Loops that gather what each item gives.
use Rattle.std.proofs.Common.{◌≡◌, ℕ, ◌+◌, ◌<◌, get_or, List, [], ◌∷◌, ◌++◌, length, map, ap, Ok}
use Rattle.std.proofs.lemmas.List.{map_push}
use Rattle.tv_names.specs.declared.refusal.ResolveError.{ResolveError}
use Rattle.tv_names.specs.declared.refusal.ResolveError.TheVariants.{NameUnknown, NameTwice, ArityWrong}
use Rattle.tv_names.specs.declared.refusal.ResolveError.TheVariants.{ArityTooLarge, Reserved, VariableUnbound}
use Rattle.tv_names.specs.declared.refusal.ResolveError.TheVariants.{TooManyVariables, UpdateTwice}
use Rattle.tv_names.specs.declared.refusal.ResolveError.TheVariants.{DefinitionCycle, HeadForm, HalfLiteral}
use Rattle.tv_names.specs.declared.refusal.ResolveError.TheVariants.{TooMany, NoEdge, Memory}
use Rattle.tv_names.specs.Refusal.{◌>>=◌, OrRefused, Refuses, put_behind}
use Rattle.tv_names.proofs.Loops.{left, go_on, stopped}

pub refuses_then : {A B : Type 0} (e : ResolveError) (r : OrRefused A) (f : A → OrRefused B) → Refuses e r → Refuses e (r >>= f)
refuses_then Memory r f h = tt
refuses_then NameUnknown r f h = ap (λ s. s >>= f) h
refuses_then NameTwice r f h = ap (λ s. s >>= f) h
refuses_then ArityWrong r f h = ap (λ s. s >>= f) h
refuses_then ArityTooLarge r f h = ap (λ s. s >>= f) h
refuses_then Reserved r f h = ap (λ s. s >>= f) h
refuses_then VariableUnbound r f h = ap (λ s. s >>= f) h
refuses_then TooManyVariables r f h = ap (λ s. s >>= f) h
refuses_then UpdateTwice r f h = ap (λ s. s >>= f) h
refuses_then DefinitionCycle r f h = ap (λ s. s >>= f) h
refuses_then HeadForm r f h = ap (λ s. s >>= f) h
refuses_then HalfLiteral r f h = ap (λ s. s >>= f) h
refuses_then TooMany r f h = ap (λ s. s >>= f) h
refuses_then NoEdge r f h = ap (λ s. s >>= f) h

module _ {A B C P : Type 0} (step : B → OrRefused C) (view : A → B) (model : P → C) where
  pub each_more : (total : OrRefused (List C)) (done : List P) (i : ℕ) (xs : List A) (x : A) (y : P) → total ≡ left (put_behind step) view (map model done) i xs → i < length xs → x ≡ get_or xs i x → step (view x) ≡ Ok (model y) → total ≡ left (put_behind step) view (map model (done ++ y ∷ [])) (i + 1) xs
  each_more total done i xs x y so_far lt is taken =
      rw (map_push model done y)
      (go_on (put_behind step) view total (map model done) (map model done ++ model y ∷ []) i xs x so_far lt is (ap (λ (r : OrRefused C). r >>= λ z. Ok (map model done ++ z ∷ [])) taken))

  pub each_stopped : (total : OrRefused (List C)) (done : List P) (i : ℕ) (xs : List A) (x : A) (e : ResolveError) → total ≡ left (put_behind step) view (map model done) i xs → i < length xs → x ≡ get_or xs i x → Refuses e (step (view x)) → Refuses e total
  each_stopped total done i xs x e so_far lt is h =
      stopped (put_behind step) view total (map model done) i xs x e so_far lt is (refuses_then e (step (view x)) (λ z. Ok (map model done ++ z ∷ [])) h)
