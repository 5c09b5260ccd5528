-- A loop that answers false at the first element that fails, and else true.
use Rattle.std.proofs.Common.{ℕ, ◌≡◌, ◌<◌, ◌≤◌, ◌+◌, ◌↔◌, List, length, get_or, All, IsTrue, true, false}
use Rattle.std.proofs.Common.{Bool, refl, arith, subst, sym, map}
use Rattle.std.specs.List.{AllWithin}
use mathlib.Core.Bool.{beq}
use Rattle.std.proofs.lemmas.Bool.{false≢true}
use Rattle.std.proofs.lemmas.List.Elements.{All-from_all_within, All-get_or, at_read, All-map, AllWithin-more}
pub use Rattle.tv_lemmas.proofs.Lists.{All-mapped}

pub every-more : {X : Type 0} (P : X → Type 0) (xs : List X) (i : ℕ) (x : X) → i < length xs → x ≡ get_or xs i x
    → AllWithin P xs 0 i → IsTrue true ↔ P x → AllWithin P xs 0 (i + 1)
every-more P xs i x below is before passes = AllWithin-more P xs 0 i before (at_read xs P i x below is (passes.0 refl))

pub every-false : {X : Type 0} (P : X → Type 0) (xs : List X) (i : ℕ) (x : X) → i < length xs → x ≡ get_or xs i x
    → IsTrue false ↔ P x → IsTrue false ↔ All P xs
every-false P xs i x below is fails =
    (λ f. absurd (false≢true f), λ all. fails.1 (subst P (sym is) (All-get_or P xs i x below all)))

pub every-true : {X : Type 0} (P : X → Type 0) (xs : List X) (i : ℕ) → length xs ≤ i → AllWithin P xs 0 i
    → IsTrue true ↔ All P xs
every-true P xs i done before =
    (λ t. All-from_all_within P xs (λ k d low below. before k d low (omega (arith, done, below))), λ all. refl)

-- an answer to the last of two facts, where the first is known
pub both-second : (P Q : Type 0) (b : Bool) → P → IsTrue b ↔ Q → IsTrue b ↔ (P × Q)
both-second P Q b p answer = (λ t. (p, answer.0 t), λ s. answer.1 s.1)

-- one answer is the same as the other where they answer the same
pub same-answer : (P Q : Type 0) (a b : Bool) → IsTrue a ↔ P → IsTrue b ↔ Q → IsTrue (beq a b) ↔ (P ↔ Q)
same-answer P Q true true p q = (λ t. (λ x. q.0 refl, λ x. p.0 refl), λ s. refl)
same-answer P Q true false p q = (λ f. absurd (false≢true f), λ s. q.1 (s.0 (p.0 refl)))
same-answer P Q false true p q = (λ f. absurd (false≢true f), λ s. p.1 (s.1 (q.0 refl)))
same-answer P Q false false p q = (λ t. (λ x. absurd (false≢true (p.1 x)), λ x. absurd (false≢true (q.1 x))), λ s. refl)

pub mapped-answer : {X Y : Type 0} (P : Y → Type 0) (f : X → Y) (xs : List X) (b : Bool)
    → IsTrue b ↔ All (λ x. P (f x)) xs → IsTrue b ↔ All P (map f xs)
mapped-answer P f xs b answer = (λ t. All-map P f xs (answer.0 t), λ all. answer.1 (All-mapped P f xs all))

-- an answer under a premise that holds
pub under-premise : (K A : Type 0) (b : Bool) → K → IsTrue b ↔ A → IsTrue b ↔ (K → A)
under-premise K A b k answer = (λ t x. answer.0 t, λ f. answer.1 (f k))
