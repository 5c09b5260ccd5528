-- What a chain of steps gave, each step gave.
use Rattle.std.proofs.Common.{◌≡◌, Bool, true, false, List, [], ◌∷◌, refl, ap, subst, Ok, Err, Option, Some}
use Rattle.std.proofs.Common.{None}
use Rattle.std.proofs.lemmas.List.Elements.{All-head, All-tail}
use Rattle.std.specs.List.{All}
use Rattle.tv_names.specs.declared.refusal.ResolveError.{ResolveError}
use Rattle.tv_names.specs.Refusal.{◌>>=◌, OrRefused, refused_if, or_refused, one_by_one}

pub ok_is : {A : Type 0} (x y : A) → ◌≡◌ {A = OrRefused A} (Ok x) (Ok y) → x ≡ y
ok_is x y e = cc

pub some_is : {A : Type 0} (x y : A) → ◌≡◌ {A = Option A} (Some x) (Some y) → x ≡ y
some_is x y e = cc

pub not_none : {A : Type 0} (x : A) → ◌≡◌ {A = Option A} None (Some x) → ⊥
not_none x e = cc

pub not_given : {A : Type 0} (e : ResolveError) (x : A) → ◌≡◌ {A = OrRefused A} (Err e) (Ok x) → ⊥
not_given e x h = cc

-- the first step gave x, and the rest went on from it
pub record Went {A B : Type 0} (r : OrRefused A) (f : A → OrRefused B) (y : B) : Type 0 where
  pub x : A
  pub gave : r ≡ Ok x
  pub rest : f x ≡ Ok y

pub went : {A B : Type 0} (r : OrRefused A) (f : A → OrRefused B) (y : B) → (r >>= f) ≡ Ok y → Went r f y
went (Ok x) f y h = record { x = x; gave = refl; rest = h }
went (Err e) f y h = absurd (not_given e y h)

pub not_refused : (wrong : Bool) (e : ResolveError) (x : Unit {0}) → refused_if wrong e ≡ Ok x → wrong ≡ false
not_refused true e x h = absurd (not_given e x h)
not_refused false e x h = refl

pub was_some : {A : Type 0} (o : Option A) (e : ResolveError) (x : A) → or_refused o e ≡ Ok x → o ≡ Some x
was_some None e x h = absurd (not_given e x h)
was_some (Some y) e x h = ap Some (ok_is y x h)

module _ {S A : Type 0} (step : S → A → OrRefused S) (P : S → Type 0) (Q : A → Type 0) (more : (s t : S) (x : A) → Q x → P s → step s x ≡ Ok t → P t) where
  -- what holds before all items, and after each one, holds after all
  pub after_each : (xs : List A) (s t : S) → All Q xs → P s → one_by_one step s xs ≡ Ok t → P t
  after_each [] s t qs here e = subst P (ok_is s t e) here
  after_each (x ∷ xs) s t qs here e =
      let first = went (step s x) (λ u. one_by_one step u xs) t e in
      after_each xs first.x t (All-tail Q x xs qs) (more s first.x x (All-head Q x xs qs) here first.gave) first.rest
