-- Texts that grow by one part after the other.
use Rattle.std.proofs.Common.{◌≡◌, ◌∙◌, ℕ, ◌+◌, List, ◌++◌, refl, sym, ap, append_assoc, add-one, codes}
use Rattle.std.proofs.Common.{Result, Ok, Err, OnOk, is_ok, if◌then◌else◌}
use Rattle.std.proofs.lemmas.Result.{on_ok_weaker}
use Rattle.tv_demo.specs.Texts.{numbered, variables_text, walk_text, walks_text}

-- one part more behind what was appended
module _ {X : Type 0} where
  pub more : (whole part out old new : List X) → old ≡ out ++ whole → new ≡ old ++ part
      → new ≡ out ++ (whole ++ part)
  more whole part out old new so_far is = is ∙ ap (λ t. t ++ part) so_far ∙ append_assoc out whole part

  -- the last part is there where the call that appends it went well
  pub last_part : {T E : Type 0} (r : Result T E) (old part new : List X)
      → new ≡ (if is_ok r then old ++ part else old) → OnOk r (new ≡ old ++ part)
  last_part (Ok x) old part new is = is
  last_part (Err e) old part new is = tt

  -- three parts one behind the other, and a last one
  pub three_parts : {T E : Type 0} (r : Result T E) (a b c last out one two three new : List X)
      → one ≡ out ++ a → two ≡ one ++ b → three ≡ two ++ c
      → new ≡ (if is_ok r then three ++ last else three) → OnOk r (new ≡ out ++ (((a ++ b) ++ c) ++ last))
  three_parts r a b c last out one two three new first second third is =
      on_ok_weaker r
      (more ((a ++ b) ++ c) last out three new (more (a ++ b) c out two three (more a b out one two first second) third))
      (last_part r three last new is)

-- where one part more makes the text of one number more
pub one_more : (whole part : ℕ → List ℕ) → ((i : ℕ) → whole (i + 1) ≡ whole i ++ part i)
    → (i : ℕ) (before out new : List ℕ) → out ≡ before ++ whole i → new ≡ out ++ part i
    → new ≡ before ++ whole (i + 1)
one_more whole part next i before out new so_far is =
    more (whole i) (part i) before out new so_far is ∙ ap (λ t. before ++ t) (sym (next i))

pub next_variable : (i : ℕ) → variables_text (i + 1) ≡ variables_text i ++ numbered (codes ", y") (i + 1)
next_variable i = rw (add-one i) refl

pub next_walk : (i : ℕ) → walks_text (i + 1) ≡ walks_text i ++ walk_text i (i + 1)
next_walk i = rw (add-one i) refl
