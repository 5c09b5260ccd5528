-- What stands at the front of a text is no longer than what the reader takes there, and of its kind where it is as long.
use Rattle.std.proofs.Common.{◌≡◌, ℕ, suc, ◌+◌, ◌≤◌, List, [], ◌∷◌, ◌++◌, Option, Some, None, Result, Ok, Err}
use Rattle.std.proofs.Common.{Bool, true, false, cond, eqb, length, get_or, ap, sym, refl, ◌∙◌, subst, inl}
use Rattle.std.proofs.Common.{inr, arith, append_assoc, length-append}
use Rattle.std.specs.List.{prefix_len, list_all, AllByRecursion}
use Rattle.std.proofs.lemmas.Bool.{and_parts, and_from, or_cases, false≢true, cases_Bool, cond-true}
use Rattle.std.proofs.lemmas.Bool.{cond-false, eqb-true, ne_eqb}
use Rattle.std.proofs.lemmas.List.{get_or_at}
use Rattle.tv_lex.specs.Bytes.{is_blank, is_word_byte, is_letter, is_text_byte, stays_on_line}
use Rattle.tv_lex.specs.Pieces.{Stands, IsOneOf, IsRunOf, punctuations, close_at}
use Rattle.tv_lex.specs.Front.{front, gap, token, is_half, word_front, string_front, block_front}
use Rattle.tv_lex.specs.Front.{comment_front, percent_front, punct_front, is_triple, is_pair, is_single}
use Rattle.tv_lex.specs.declared.front.Front.{Front}
use Rattle.tv_lex.specs.declared.token.TokenKind.{TokenKind}
use Rattle.tv_lex.specs.declared.token.TokenKind.TheVariants.{Word, Half, Text, Directive, Parts, Punct}
use Rattle.tv_lex.specs.declared.token.LexError.{LexError}
use Rattle.tv_lex.specs.declared.token.LexError.TheVariants.{BadByte}
use Rattle.tv_lex.proofs.Runs.{prefix_len-append-le, prefix_len-append-stop, close_at-append}

-- at least n bytes were taken, and no more only as this kind
abbrev pub Takes : Result Front LexError → Option TokenKind → ℕ → Type 0
Takes (Ok f) kind n = (n ≤ f.len) × (n ≡ f.len → f.kind ≡ kind)
Takes (Err e) kind n = ⊥

-- ---- bytes of one class aren't of another

word_byte_not_blank : (b : ℕ) → is_word_byte b ≡ true → is_blank b ≡ false
word_byte_not_blank b h = elim (cases_Bool (is_blank b)) [
  | inl e ↦ elim (or_cases (eqb b 32) _ e) [
    | inl p ↦ absurd (false≢true (subst (λ c. is_word_byte c ≡ true) (eqb-true b 32 p) h))
    | inr e ↦ elim (or_cases (eqb b 9) _ e) [
      | inl p ↦ absurd (false≢true (subst (λ c. is_word_byte c ≡ true) (eqb-true b 9 p) h))
      | inr e ↦ elim (or_cases (eqb b 13) _ e) [
        | inl p ↦ absurd (false≢true (subst (λ c. is_word_byte c ≡ true) (eqb-true b 13 p) h))
        | inr p ↦ absurd (false≢true (subst (λ c. is_word_byte c ≡ true) (eqb-true b 10 p) h))
      ]
    ]
  ]
  | inr e ↦ e
]

pub letter_not_percent : (b : ℕ) → is_letter b ≡ true → eqb b 37 ≡ false
letter_not_percent b h = ne_eqb b 37 (λ e. false≢true (subst (λ c. is_letter c ≡ true) e h))

-- ---- the reader's choice by the first byte

pub front-blank : (b : ℕ) (t : List ℕ) → is_blank b ≡ true → front (b ∷ t) ≡ gap 1
unfolding front
front-blank b t h = cond-true (is_blank b) _ _ h

pub front-word : (b : ℕ) (t : List ℕ) → is_word_byte b ≡ true → front (b ∷ t) ≡ word_front (b ∷ t)
unfolding front
front-word b t h = cond-false (is_blank b) _ _ (word_byte_not_blank b h) ∙ cond-true (is_word_byte b) _ _ h

pub front-quote : (t : List ℕ) → front (34 ∷ t) ≡ string_front t
unfolding front
front-quote t = refl

pub front-slash : (t : List ℕ) → front (47 ∷ t) ≡ comment_front (47 ∷ t)
unfolding front
front-slash t = refl

pub front-percent : (t : List ℕ) → front (37 ∷ t) ≡ percent_front (37 ∷ t)
unfolding front
front-percent t = refl

-- ---- piece by piece

takes-word : (b : ℕ) (bs rest : List ℕ) → is_word_byte b ≡ true → list_all is_word_byte bs ≡ true → Takes (word_front (b ∷ bs ++ rest)) (Some Word) (suc (length bs))
takes-word b [] rest first all = elim (cases_Bool (is_half (b ∷ rest))) [
  | inl e ↦ subst (λ r. Takes r (Some Word) 1) (sym (cond-true (is_half (b ∷ rest)) _ _ e)) (omega arith, λ same. absurd (omega arith))
  | inr e ↦ subst (λ r. Takes r (Some Word) 1) (sym (cond-false (is_half (b ∷ rest)) _ _ e))
      (prefix_len-append-le is_word_byte (b ∷ []) rest (and_from _ _ first refl), λ same. refl)
]
takes-word b (c ∷ cs) rest first all = elim (cases_Bool (is_half (b ∷ c ∷ cs ++ rest))) [
  | inl e ↦
      let tests = and_parts _ _ (and_parts _ _ e).0 in
      let slash : c ≡ 47 = eqb-true c 47 (and_parts _ _ tests.1).0 in
      absurd (false≢true (subst (λ d. is_word_byte d ≡ true) slash (and_parts _ _ all).0))
  | inr e ↦ subst (λ r. Takes r (Some Word) (suc (suc (length cs)))) (sym (cond-false (is_half (b ∷ c ∷ cs ++ rest)) _ _ e))
      (prefix_len-append-le is_word_byte (b ∷ c ∷ cs) rest (and_from _ _ first all), λ same. refl)
]

takes-half : (rest : List ℕ) → is_word_byte (get_or rest 0 0) ≡ false → Takes (front (49 ∷ 47 ∷ 50 ∷ rest)) (Some Half) 3
unfolding front
takes-half rest h = rw h (omega arith, λ same. refl)

takes-string : (inside rest : List ℕ) → list_all is_text_byte inside ≡ true → Takes (string_front (inside ++ 34 ∷ rest)) (Some Text) (length inside + 2)
takes-string inside rest h =
    let stop : prefix_len is_text_byte (inside ++ 34 ∷ rest) ≡ length inside = prefix_len-append-stop is_text_byte inside (34 ∷ rest) h refl in
    let quote : get_or (inside ++ 34 ∷ rest) (prefix_len is_text_byte (inside ++ 34 ∷ rest)) 0 ≡ 34 = get_or_at inside 34 rest 0 _ (sym stop) in
    rw quote (omega arith, λ same. refl)

takes-directive : (c : ℕ) (cs rest : List ℕ) → is_letter c ≡ true → list_all is_letter cs ≡ true → Takes (percent_front (37 ∷ c ∷ cs ++ rest)) (Some Directive) (suc (suc (length cs)))
takes-directive c cs rest first all =
    let run = prefix_len-append-le is_letter (c ∷ cs) rest (and_from _ _ first all) in
    subst (λ r. Takes r (Some Directive) (suc (suc (length cs)))) (sym (cond-false (eqb c 37) _ _ (letter_not_percent c first) ∙ cond-true (is_letter c) _ _ first))
    (omega (arith, run), λ same. refl)

takes-block : (inside rest : List ℕ) (n : ℕ) → close_at inside ≡ Some n → n + 2 ≡ length inside → Takes (block_front (close_at (inside ++ rest))) None (suc (suc (length inside)))
takes-block inside rest n closes len =
    subst (λ o. Takes (block_front o) None (suc (suc (length inside)))) (sym (close_at-append inside rest n closes)) (omega arith, λ same. refl)

takes_pair : (t : Bool) → Takes (cond t (token Punct 3) (token Punct 2)) (Some Punct) 2
takes_pair true = (omega arith, λ same. refl)
takes_pair false = (omega arith, λ same. refl)

takes_single : (t u v : Bool) → v ≡ true → Takes (cond t (token Punct 3) (cond u (token Punct 2) (cond v (token Punct 1) (Err BadByte)))) (Some Punct) 1
takes_single true u v h = (omega arith, λ same. refl)
takes_single false true v h = (omega arith, λ same. refl)
takes_single false false v h = rw h (omega arith, λ same. refl)

-- whatever follows a punctuation, at least it is taken
abbrev TakenAlways : List ℕ → Type 0
TakenAlways m = (rest : List ℕ) → Takes (front (m ++ rest)) (Some Punct) (length m)

taken_always : (ms : List (List ℕ)) (bytes : List ℕ) → AllByRecursion TakenAlways ms → IsOneOf ms bytes → TakenAlways bytes
taken_always [] bytes all one = absurd one
taken_always (m ∷ ms) bytes all one = elim one [
  | inl e ↦ subst TakenAlways (sym e) all.0
  | inr later ↦ taken_always ms bytes all.1 later
]

single_always : (b : ℕ) → ((rest : List ℕ) → front (b ∷ rest) ≡ punct_front (b ∷ rest)) → is_single b ≡ true → TakenAlways (b ∷ [])
single_always b choice h rest = subst (λ r. Takes r (Some Punct) 1) (sym (choice rest)) (takes_single (is_triple b (get_or rest 0 0) (get_or rest 1 0)) (is_pair b (get_or rest 0 0)) (is_single b) h)

punctuations_always : AllByRecursion TakenAlways punctuations
unfolding front
punctuations_always = (
  λ rest. (omega arith, λ same. refl),
  (
    λ rest. (omega arith, λ same. refl),
    (
      λ rest. (omega arith, λ same. refl),
      (
        λ rest. takes_pair (is_triple 61 61 (get_or rest 0 0)),
        (
          λ rest. (omega arith, λ same. refl),
          (
            single_always 40 (λ rest. refl) refl,
            (
              single_always 41 (λ rest. refl) refl,
              (
                single_always 123 (λ rest. refl) refl,
                (
                  single_always 125 (λ rest. refl) refl,
                  (
                    single_always 91 (λ rest. refl) refl,
                    (
                      single_always 93 (λ rest. refl) refl,
                      (
                        single_always 44 (λ rest. refl) refl,
                        (
                          single_always 58 (λ rest. refl) refl,
                          (
                            single_always 43 (λ rest. refl) refl,
                            (
                              single_always 45 (λ rest. refl) refl,
                              (
                                single_always 42 (λ rest. refl) refl,
                                (
                                  single_always 61 (λ rest. refl) refl,
                                  (
                                    single_always 33 (λ rest. refl) refl,
                                    (
                                      single_always 38 (λ rest. refl) refl,
                                      (
                                        single_always 124 (λ rest. refl) refl,
                                        (
                                          single_always 63 (λ rest. refl) refl,
                                          tt,
                                        ),
                                      ),
                                    ),
                                  ),
                                ),
                              ),
                            ),
                          ),
                        ),
                      ),
                    ),
                  ),
                ),
              ),
            ),
          ),
        ),
      ),
    ),
  ),
)

directive_taken : (name rest : List ℕ) → IsRunOf is_letter name → Takes (front (37 ∷ name ++ rest)) (Some Directive) (suc (length name))
directive_taken [] rest run = absurd (omega (arith, run.0))
directive_taken (c ∷ cs) rest run =
    let both = and_parts _ _ run.1 in
    subst (λ r. Takes r (Some Directive) (suc (suc (length cs)))) (sym (front-percent (c ∷ cs ++ rest))) (takes-directive c cs rest both.0 both.1)

-- ---- all pieces

pub front_takes : (kind : Option TokenKind) (bytes rest : List ℕ) → Stands kind bytes rest → Takes (front (bytes ++ rest)) kind (length bytes)
front_takes None bytes rest stands = elim stands [
  | inl blank ↦
      let e : bytes ≡ blank.0 ∷ [] = blank.1 in
      let P : List ℕ → Type 0 = λ bs. Takes (front (bs ++ rest)) None (length bs) in
      subst P (sym e) (subst (λ r. Takes r None 1) (sym (front-blank blank.0 rest blank.2)) (omega arith, λ same. refl))
  | inr (inl line) ↦
      let P : List ℕ → Type 0 = λ bs. Takes (front (bs ++ rest)) None (length bs) in
      let run = prefix_len-append-le stays_on_line line.0 rest line.2 in
      subst P (sym line.1) (subst (λ r. Takes r None (suc (suc (length line.0)))) (sym (front-slash (47 ∷ line.0 ++ rest))) (omega (arith, run), λ same. refl))
  | inr (inr block) ↦
      let P : List ℕ → Type 0 = λ bs. Takes (front (bs ++ rest)) None (length bs) in
      subst P (sym block.2) (subst (λ r. Takes r None (suc (suc (length block.0)))) (sym (front-slash (42 ∷ block.0 ++ rest))) (takes-block block.0 rest block.1 block.3 block.4))
]
front_takes (Some Word) [] rest stands = absurd (omega (arith, stands.0))
front_takes (Some Word) (b ∷ bs) rest stands =
    let both = and_parts _ _ stands.1 in
    subst (λ r. Takes r (Some Word) (suc (length bs))) (sym (front-word b (bs ++ rest) both.0)) (takes-word b bs rest both.0 both.1)
front_takes (Some Half) bytes rest stands =
    let P : List ℕ → Type 0 = λ bs. Takes (front (bs ++ rest)) (Some Half) (length bs) in
    subst P (sym stands.0) (takes-half rest stands.1)
front_takes (Some Text) bytes rest stands =
    let P : List ℕ → Type 0 = λ bs. Takes (front (bs ++ rest)) (Some Text) (length bs) in
    let len : length stands.0 + 2 ≡ suc (length (stands.0 ++ 34 ∷ [])) = omega (arith, length-append stands.0 (34 ∷ [])) in
    let grouped : stands.0 ++ 34 ∷ [] ++ rest ≡ stands.0 ++ 34 ∷ rest = append_assoc stands.0 (34 ∷ []) rest in
    subst P (sym stands.1) (subst (λ r. Takes r (Some Text) (suc (length (stands.0 ++ 34 ∷ [])))) (sym (front-quote (stands.0 ++ 34 ∷ [] ++ rest) ∙ ap string_front grouped))
    (subst (Takes (string_front (stands.0 ++ 34 ∷ rest)) (Some Text)) len (takes-string stands.0 rest stands.2)))
front_takes (Some Directive) bytes rest stands =
    let P : List ℕ → Type 0 = λ bs. Takes (front (bs ++ rest)) (Some Directive) (length bs) in
    subst P (sym stands.1) (directive_taken stands.0 rest stands.2)
front_takes (Some Parts) bytes rest stands =
    let P : List ℕ → Type 0 = λ bs. Takes (front (bs ++ rest)) (Some Parts) (length bs) in
    subst P (sym stands) (subst (λ r. Takes r (Some Parts) 2) (sym (front-percent (37 ∷ rest))) (omega arith, λ same. refl))
front_takes (Some Punct) bytes rest stands = taken_always punctuations bytes punctuations_always stands rest
