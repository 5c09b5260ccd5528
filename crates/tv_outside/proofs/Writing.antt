-- A text that a sink is given piece by piece.
use Rattle.std.proofs.Common.{◌≡◌, ◌<◌, ℕ, zero, suc, List, [], ◌∷◌, ◌++◌, length, get_or, take, drop, Option}
use Rattle.std.proofs.Common.{Some, None, refl, sym, ◌∙◌, ap, append_assoc, arith}
use Rattle.std.specs.List.{flat_map}
use Rattle.tv_outside.specs.Told.{appended, TookFront}

-- of these bytes a front was taken, and the rest is still to be given
pub record Wrote (old new : Option (List ℕ)) (bytes rest : List ℕ) : Type 0 where
  pub front : List ℕ
  pub split : bytes ≡ front ++ rest
  pub took : new ≡ appended old front

pub appended-append : (old : Option (List ℕ)) (a b : List ℕ) → appended (appended old a) b ≡ appended old (a ++ b)
appended-append None a b = refl
appended-append (Some taken) a b = ap Some (append_assoc taken a b)

pub Wrote-step : (old mid new : Option (List ℕ)) (bytes rest given next : List ℕ) → Wrote old mid bytes rest
    → rest ≡ given ++ next → new ≡ appended mid given → Wrote old new bytes next
Wrote-step old mid new bytes rest given next w split took = record {
  front = w.front ++ given;
  split = w.split ∙ ap (λ r. w.front ++ r) split ∙ sym (append_assoc w.front given next);
  took = took ∙ ap (λ t. appended t given) w.took ∙ appended-append old w.front given;
}

-- the joined parts: those before one, that one, and those after it
pub flat_map-split : {X A : Type 0} (f : X → List A) (xs : List X) (i : ℕ) (d : X) → i < length xs
    → flat_map f xs ≡ flat_map f (take i xs) ++ (f (get_or xs i d) ++ flat_map f (drop (suc i) xs))
flat_map-split f [] i d below = absurd (omega (arith, below))
flat_map-split f (x ∷ xs) zero d below = refl
flat_map-split f (x ∷ xs) (suc i) d below = ap (λ r. f x ++ r) (flat_map-split f xs i d (omega (arith, below)))
    ∙ sym (append_assoc (f x) (flat_map f (take i xs)) (f (get_or xs i d) ++ flat_map f (drop (suc i) xs)))

inner : (front rest after part : List ℕ) → part ≡ front ++ rest → part ++ after ≡ front ++ (rest ++ after)
inner front rest after part e = ap (λ p. p ++ after) e ∙ append_assoc front rest after

-- a front of one part is behind the parts before it a front of all
pub TookFront-part : {X : Type 0} (f : X → List ℕ) (old mid new : Option (List ℕ)) (xs : List X) (i : ℕ) (d : X)
    → i < length xs → mid ≡ appended old (flat_map f (take i xs)) → TookFront mid new (f (get_or xs i d))
    → TookFront old new (flat_map f xs)
TookFront-part f old mid new xs i d below before took = (
  flat_map f (take i xs) ++ took.0,
  took.1 ++ flat_map f (drop (suc i) xs),
  flat_map-split f xs i d below ∙ ap (λ r. flat_map f (take i xs) ++ r) (inner took.0 took.1 (flat_map f (drop (suc i) xs)) (f (get_or xs i d)) took.2)
      ∙ sym (append_assoc (flat_map f (take i xs)) took.0 (took.1 ++ flat_map f (drop (suc i) xs))),
  took.3 ∙ ap (λ t. appended t took.0) before ∙ appended-append old (flat_map f (take i xs)) took.0,
)
