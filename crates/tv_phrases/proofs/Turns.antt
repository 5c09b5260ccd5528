-- Items read one after the other, as a loop with a counter does.
use Rattle.std.proofs.Common.{◌≡◌, ℕ, suc, ◌+◌, ◌-◌, ◌<◌, ◌≤◌, Bool, true, false, List, [], ◌∷◌, ◌++◌, Some}
use Rattle.std.proofs.Common.{None, sym, ap, ◌∙◌, arith}
use Rattle.tv_lex.specs.Token.{SpecToken}
use Rattle.tv_phrases.specs.declared.error.PhraseError.{PhraseError}
use Rattle.tv_phrases.specs.declared.error.PhraseError.TheVariants.{Unexpected, Memory}
use Rattle.tv_phrases.specs.Lists.{with_front}
use Rattle.tv_phrases.specs.Reading.{Reading, taken, Told, Refuses}
use Rattle.tv_phrases.specs.Repeated.{many, below}
use Rattle.tv_phrases.proofs.Repeats.{front_first, front_start, many_step, turn_more, many_end, many_break}
use Rattle.tv_phrases.proofs.Repeats.{many_out}

-- `before` is what i of the n turns have read, and `rest` is left; `total` is what all turns read
pub record SoFar {X : Type 0} (begins : List SpecToken → Bool) (item : List SpecToken → Reading X) (before : List X) (n i : ℕ) (rest : List SpecToken) (total : Reading (List X)) : Type 0 where
  pub same : total ≡ with_front before (many begins item (n - i) rest)

pub begun : {X : Type 0} (begins : List SpecToken → Bool) (item : List SpecToken → Reading X) (before : List X) (n : ℕ) (ts : List SpecToken) → before ≡ []
    → SoFar begins item before n 0 ts (many begins item n ts)
begun begins item before n ts none = record {
  same = front_start (many begins item n ts) ∙ ap (λ xs. with_front xs (many begins item n ts)) (sym none) ∙ ap (λ k. with_front before (many begins item k ts)) (whole n);
}
  where
    whole : (n : ℕ) → n ≡ n - 0
    whole n = omega arith

one_below : (n i : ℕ) → i < n → below (n - i) ≡ Some (n - (i + 1))
one_below n i lt = ap below (left n i lt)
  where
    left : (n i : ℕ) → i < n → n - i ≡ suc (n - (i + 1))
    left n i lt = omega (arith, lt)

none_below : (n i : ℕ) → n ≤ i → below (n - i) ≡ None
none_below n i le = ap below (left n i le)
  where
    left : (n i : ℕ) → n ≤ i → n - i ≡ 0
    left n i le = omega (arith, le)

module _ {X : Type 0} {begins : List SpecToken → Bool} {item : List SpecToken → Reading X} {before : List X} {n i : ℕ} {rest : List SpecToken} {total : Reading (List X)} where
  pub one_more : {x : X} {after : List SpecToken} → SoFar begins item before n i rest total → i < n → begins rest ≡ true
      → item rest ≡ taken x after → SoFar begins item (before ++ x ∷ []) n (i + 1) after total
  one_more {x} {after} so_far lt begun is = record {
    same = so_far.same
        ∙ ap (with_front before) (many_step begins item (n - i) (n - (i + 1)) rest (one_below n i lt) ∙ turn_more begins item (many begins item (n - (i + 1))) rest after x begun is)
        ∙ front_first before x (many begins item (n - (i + 1)) after);
  }

  pub fails : (e : PhraseError) → SoFar begins item before n i rest total → i < n → begins rest ≡ true
      → Told e (item rest ≡ None) → Told e (total ≡ None)
  fails Memory so_far lt begun is = tt
  fails (Unexpected at) so_far lt begun is = so_far.same ∙ many_break before begins item (n - i) (n - (i + 1)) rest (one_below n i lt) begun is

  -- the same of an item that takes no memory
  pub refused : (e : PhraseError) → SoFar begins item before n i rest total → i < n → begins rest ≡ true
      → Refuses e (item rest ≡ None) → Told e (total ≡ None)
  refused Memory so_far lt begun is = absurd is
  refused (Unexpected at) so_far lt begun is = fails (Unexpected at) so_far lt begun is

  pub ends : SoFar begins item before n i rest total → i < n → begins rest ≡ false → total ≡ taken before rest
  ends so_far lt over = so_far.same ∙ many_end before begins item (n - i) (n - (i + 1)) rest (one_below n i lt) over

  pub runs_out : SoFar begins item before n i rest total → n ≤ i → total ≡ None
  runs_out so_far le = so_far.same ∙ many_out before begins item (n - i) rest (none_below n i le)
