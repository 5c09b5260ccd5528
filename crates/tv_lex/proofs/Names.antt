-- Names of files as text.
use Rattle.std.proofs.Common.{◌≡◌, ℕ, ◌+◌, ◌-◌, ◌<◌, List, Some, None, false, length, get_or, ap, sym, ◌∙◌}
use Rattle.std.proofs.Common.{subst, ⊎_elim, arith, IsUtf8}
use Rattle.std.specs.Prelude.{reverse}
use Rattle.std.specs.List.{suffix_len}
use Rattle.std.specs.Str.{is_utf8, IsCharBoundary}
use Rattle.std.proofs.lemmas.Str.{is_utf8-from_IsUtf8, IsUtf8-from_is_utf8, IsCharBoundary-start}
use Rattle.std.proofs.lemmas.Str.{IsCharBoundary-after_ascii}
use Rattle.std.proofs.lemmas.List.{get_or-reverse, length-reverse}
use Rattle.std.proofs.lemmas.List.Sums.{prefix_len_stops}
use Rattle.std.proofs.lemmas.Bool.{cases_lt, cond-true, cond-false, false_from_ne_true, not-false, eqb-true}
use Rattle.tv_lex.specs.Include.{text_if, is_not_slash}

pub text_some : (bytes text : List ℕ) → (text ≡ bytes) × IsUtf8 bytes → Some text ≡ text_if bytes
text_some bytes text h = ap Some h.0 ∙ sym (cond-true (is_utf8 bytes) _ _ (is_utf8-from_IsUtf8 bytes h.1))

pub text_none : (bytes : List ℕ) → ¬ (IsUtf8 bytes) → None ≡ text_if bytes
text_none bytes h = sym (cond-false (is_utf8 bytes) _ _ (false_from_ne_true (is_utf8 bytes) (λ e. h (IsUtf8-from_is_utf8 bytes e))))

-- the byte before the last part of a name is `/`
slash_before : (name : List ℕ) → suffix_len is_not_slash name < length name → get_or name (length name - suffix_len is_not_slash name - 1) 0 ≡ 47
slash_before name h =
    let n = suffix_len is_not_slash name in
    let len = length-reverse name in
    let stops : is_not_slash (get_or (reverse name) n 0) ≡ false = prefix_len_stops is_not_slash (reverse name) 0 (omega arith) in
    let turned : get_or (reverse name) n 0 ≡ get_or name (length name - 1 - n) 0 = get_or-reverse name n 0 h in
    let place : length name - 1 - n ≡ length name - n - 1 = omega arith in
    sym (turned ∙ ap (λ k. get_or name k 0) place) ∙ eqb-true _ 47 (not-false _ stops)

pub folder_boundary : (name : List ℕ) → IsUtf8 name → IsCharBoundary name (length name - suffix_len is_not_slash name)
folder_boundary name utf8 =
    let n = suffix_len is_not_slash name in
    ⊎_elim
    (λ some.
    let slash = slash_before name some in
    let shift : length name - n - 1 + 1 ≡ length name - n = omega arith in
    subst (IsCharBoundary name) shift (IsCharBoundary-after_ascii name (length name - n - 1) utf8 (omega arith) (omega (arith, slash))))
    (λ none.
    let start : 0 ≡ length name - n = omega arith in
    subst (IsCharBoundary name) start (IsCharBoundary-start name utf8))
    (cases_lt n (length name))
