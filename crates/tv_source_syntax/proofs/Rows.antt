-- Statements in a row, as the loop reads them.
use Rattle.std.proofs.Common.{◌≡◌, ℕ, zero, suc, List, [], ◌∷◌, ◌++◌, true, false, map, Some, None, refl, sym}
use Rattle.std.proofs.Common.{◌∙◌, ap}
use Rattle.tv_lex.specs.Token.{SpecToken}
use Rattle.tv_phrases.specs.Reading.{taken, ◌>>=◌}
use Rattle.tv_phrases.specs.Lists.{with_front}
use Rattle.tv_phrases.specs.Repeated.{below, turn}
use Rattle.tv_phrases.proofs.Repeats.{front_none, front_end, front_start, pushed, turn_more, turn_end}
use Rattle.tv_phrases.proofs.Repeats.{turn_break}
use Rattle.tv_source_syntax.specs.Forms.{StatementText}
use Rattle.tv_source_syntax.specs.Reading.{begins_statement, statement_at, statements}

rows_steps : (n : ℕ) (ts : List SpecToken) → statements n ts ≡ (below n >>= λ m. turn begins_statement (statement_at (statements m)) (statements m) ts)
unfolding statements
rows_steps zero ts = refl
rows_steps (suc n) ts = refl

rows_step : (n m : ℕ) (ts : List SpecToken) → below n ≡ Some m → statements n ts ≡ turn begins_statement (statement_at (statements m)) (statements m) ts
rows_step n m ts e = rw (rows_steps n ts, e) refl

pub rows_more : {A : Type 0} (f : A → StatementText) (old new : List A) (a : A) (n m : ℕ) (ts us : List SpecToken) → new ≡ old ++ a ∷ [] → below n ≡ Some m → begins_statement ts ≡ true → statement_at (statements m) ts ≡ taken (f a) us → with_front (map f old) (statements n ts) ≡ with_front (map f new) (statements m us)
rows_more f old new a n m ts us p e b i = ap (with_front (map f old)) (rows_step n m ts e ∙ turn_more begins_statement (statement_at (statements m)) (statements m) ts us (f a) b i) ∙ pushed f old new a (statements m us) p

pub rows_end : (xs : List StatementText) (n m : ℕ) (ts : List SpecToken) → below n ≡ Some m → begins_statement ts ≡ false → with_front xs (statements n ts) ≡ taken xs ts
rows_end xs n m ts e b = front_end xs ts (statements n ts) (rows_step n m ts e ∙ turn_end begins_statement (statement_at (statements m)) (statements m) ts b)

pub rows_break : (xs : List StatementText) (n m : ℕ) (ts : List SpecToken) → below n ≡ Some m → begins_statement ts ≡ true → statement_at (statements m) ts ≡ None → with_front xs (statements n ts) ≡ None
rows_break xs n m ts e b i = front_none xs (statements n ts) (rows_step n m ts e ∙ turn_break begins_statement (statement_at (statements m)) (statements m) ts b i)

pub rows_out : (xs : List StatementText) (n : ℕ) (ts : List SpecToken) → below n ≡ None → with_front xs (statements n ts) ≡ None
rows_out xs n ts e = front_none xs (statements n ts) (rw (rows_steps n ts, e) refl)

pub rows_start : (xs : List StatementText) (n : ℕ) (ts : List SpecToken) → xs ≡ [] → statements n ts ≡ with_front xs (statements n ts)
rows_start xs n ts none = front_start (statements n ts) ∙ ap (λ ys. with_front ys (statements n ts)) (sym none)
