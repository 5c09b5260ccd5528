-- The name in an include line is read exactly from lines of that form.
use Rattle.std.proofs.Common.{◌≡◌, ℕ, suc, ◌<◌, List, [], ◌∷◌, ◌++◌, Option, Some, None, ◌⊎◌, ◌↔◌, true, ◌&&◌}
use Rattle.std.proofs.Common.{eqb, ltb, length, take, drop, ap, sym, refl, ◌∙◌, subst, inl, inr, arith}
use Rattle.std.proofs.Common.{take-append-drop, IsUtf8}
use Rattle.std.specs.List.{prefix_len, list_all}
use Rattle.std.specs.Str.{is_utf8}
use Rattle.std.specs.Cmp.Lexicographic.{pointwise, bytes_decides}
use Rattle.std.proofs.lemmas.Str.{is_utf8-from_IsUtf8, IsUtf8-from_is_utf8}
use Rattle.std.proofs.lemmas.Bool.{and_parts, and_from, or_cases, cases_Bool, cond-true, cond-false, ltb-true}
use Rattle.std.proofs.lemmas.Bool.{lt-ltb, eqb-true}
use Rattle.std.proofs.lemmas.List.{drop_at, take_at}
use Rattle.tv_lex.specs.Pieces.{IsOneOf}
use Rattle.tv_lex.specs.Include.{is_gap, without_gaps, behind_mark, is_feed, ends_line, is_not_quote, text_if}
use Rattle.tv_lex.specs.Include.{checked_name, include_word, include_name, IsIncludeLine}
use Rattle.tv_lex.specs.Options.{◌>>=◌}
use Rattle.tv_lex.proofs.Runs.{prefix_len-append-stop, list_all-take-prefix_len}

-- ---- from the form to the name

without_gaps-append : (gaps text : List ℕ) → list_all is_gap gaps ≡ true → prefix_len is_gap text ≡ 0 → without_gaps (gaps ++ text) ≡ text
without_gaps-append gaps text all none = ap (λ n. drop n (gaps ++ text)) (prefix_len-append-stop is_gap gaps text all none) ∙ drop_at gaps text (length gaps) refl

abbrev line_ends : List (List ℕ)
line_ends = [] ∷ (13 ∷ []) ∷ (10 ∷ []) ∷ (13 ∷ 10 ∷ []) ∷ []

-- one of the ends of a line is no gap, and ends it
end_ends : (end : List ℕ) → IsOneOf line_ends end → (prefix_len is_gap end ≡ 0) × (ends_line end ≡ true)
end_ends end one = elim one [
  | inl e ↦ subst (λ t. (prefix_len is_gap t ≡ 0) × (ends_line t ≡ true)) (sym e) (refl, refl)
  | inr (inl e) ↦ subst (λ t. (prefix_len is_gap t ≡ 0) × (ends_line t ≡ true)) (sym e) (refl, refl)
  | inr (inr (inl e)) ↦ subst (λ t. (prefix_len is_gap t ≡ 0) × (ends_line t ≡ true)) (sym e) (refl, refl)
  | inr (inr (inr (inl e))) ↦ subst (λ t. (prefix_len is_gap t ≡ 0) × (ends_line t ≡ true)) (sym e) (refl, refl)
  | inr (inr (inr (inr none))) ↦ absurd none
]

name_from_form : (line name : List ℕ) → IsIncludeLine line name → include_name line ≡ Some name
unfolding include_name
name_from_form line name form =
    let last = form.behind_name ++ form.end in
    let quoted = name ++ (34 ∷ last) in
    let word = include_word ++ (form.before_name ++ (34 ∷ quoted)) in
    let ends = end_ends form.end form.ended in
    let at_mark : without_gaps line ≡ 35 ∷ (form.before_word ++ word) = ap without_gaps form.spelled ∙ without_gaps-append form.indent (35 ∷ (form.before_word ++ word)) form.gaps.0 refl in
    let at_word : without_gaps (form.before_word ++ word) ≡ word = without_gaps-append form.before_word word form.gaps.1 refl in
    let at_quote : without_gaps (form.before_name ++ (34 ∷ quoted)) ≡ 34 ∷ quoted = without_gaps-append form.before_name (34 ∷ quoted) form.gaps.2 refl in
    let name_len : prefix_len is_not_quote quoted ≡ length name = prefix_len-append-stop is_not_quote name (34 ∷ last) form.unquoted refl in
    let name_is : take (length name) quoted ≡ name = take_at name (34 ∷ last) (length name) refl in
    let rest_is : drop (length name) quoted ≡ 34 ∷ last = drop_at name (34 ∷ last) (length name) refl in
    let at_end : without_gaps last ≡ form.end = without_gaps-append form.behind_name form.end form.gaps.3 ends.0 in
    let checked : checked_name name last ≡ Some name =
    cond-true _ _ _ (and_from (ltb 0 (length name)) (ends_line (without_gaps last)) (lt-ltb 0 (length name) form.named) (ap ends_line at_end ∙ ends.1)) ∙ cond-true (is_utf8 name) _ _ (is_utf8-from_IsUtf8 name form.text) in
    rw (at_mark, at_word, at_quote, name_len, name_is, rest_is) checked

-- ---- from the name to the form

bind_some : {A B : Type 0} (o : Option A) (f : A → Option B) (x : B) → (o >>= f) ≡ Some x → (y : A) × (o ≡ Some y) × (f y ≡ Some x)
bind_some None f x h = cc
bind_some (Some y) f x h = (y, refl, h)

mark_some : (mark text rest : List ℕ) → behind_mark mark text ≡ Some rest → text ≡ mark ++ rest
mark_some mark text rest h = elim (cases_Bool (pointwise eqb mark (take (length mark) text))) [
  | inl e ↦
      let found : Some (drop (length mark) text) ≡ Some rest = sym (cond-true _ (Some (drop (length mark) text)) None e) ∙ h in
      let rest_is : drop (length mark) text ≡ rest = cc in
      let mark_is : mark ≡ take (length mark) text = (bytes_decides mark (take (length mark) text)).0 e in
      sym (take-append-drop (length mark) text) ∙ (λ i. sym mark_is i ++ rest_is i)
  | inr e ↦
      let none : None ≡ Some rest = sym (cond-false _ (Some (drop (length mark) text)) None e) ∙ h in
      cc
]

gaps_first : (text : List ℕ) → text ≡ take (prefix_len is_gap text) text ++ without_gaps text
gaps_first text = sym (take-append-drop (prefix_len is_gap text) text)

pub record Checked (name rest found : List ℕ) : Type 0 where
  pub same : name ≡ found
  pub named : 0 < length name
  pub ended : ends_line (without_gaps rest) ≡ true
  pub text : IsUtf8 name

checked_some : (name rest found : List ℕ) → checked_name name rest ≡ Some found → Checked name rest found
checked_some name rest found h = elim (cases_Bool (ltb 0 (length name) && ends_line (without_gaps rest))) [
  | inl e ↦
      let both = and_parts (ltb 0 (length name)) (ends_line (without_gaps rest)) e in
      let text : text_if name ≡ Some found = sym (cond-true _ (text_if name) None e) ∙ h in
      elim (cases_Bool (is_utf8 name)) [
        | inl u ↦
            let same : Some name ≡ Some found = sym (cond-true (is_utf8 name) (Some name) None u) ∙ text in
            record { same = cc; named = ltb-true 0 (length name) both.0; ended = both.1; text = IsUtf8-from_is_utf8 name u }
        | inr u ↦
            let none : None ≡ Some found = sym (cond-false (is_utf8 name) (Some name) None u) ∙ text in
            cc
      ]
  | inr e ↦
      let none : None ≡ Some found = sym (cond-false _ (text_if name) None e) ∙ h in
      cc
]

feed_end : (rest : List ℕ) → is_feed rest ≡ true → (rest ≡ []) ⊎ (rest ≡ 10 ∷ [])
feed_end [] h = inl refl
feed_end (b ∷ []) h = inr (ap (λ c. c ∷ []) (eqb-true b 10 h))
feed_end (b ∷ c ∷ cs) h = elim (or_cases (eqb (length (b ∷ c ∷ cs)) 0) (eqb (length (b ∷ c ∷ cs)) 1 && eqb b 10) h) [
  | inl e ↦ absurd (let n : suc (suc (length cs)) ≡ 0 = eqb-true _ _ e in omega arith)
  | inr e ↦ absurd (let n : suc (suc (length cs)) ≡ 1 = eqb-true _ _ (and_parts (eqb (length (b ∷ c ∷ cs)) 1) (eqb b 10) e).0 in omega arith)
]

ends_end : (text : List ℕ) → ends_line text ≡ true → IsOneOf line_ends text
ends_end [] h = inl refl
ends_end (b ∷ bs) h = elim (cases_Bool (eqb b 13)) [
  | inl e ↦
      let feed : is_feed bs ≡ true = sym (ap is_feed (cond-true (eqb b 13) bs (b ∷ bs) e)) ∙ h in
      elim (feed_end bs feed) [
        | inl none ↦ inr (inl (λ i. eqb-true b 13 e i ∷ none i))
        | inr one ↦ inr (inr (inr (inl (λ i. eqb-true b 13 e i ∷ one i))))
      ]
  | inr e ↦
      let feed : is_feed (b ∷ bs) ≡ true = sym (ap is_feed (cond-false (eqb b 13) bs (b ∷ bs) e)) ∙ h in
      elim (feed_end (b ∷ bs) feed) [
        | inl none ↦ inl none
        | inr one ↦ inr (inr (inl one))
      ]
]

form_from_name : (line name : List ℕ) → include_name line ≡ Some name → IsIncludeLine line name
unfolding include_name
form_from_name line name h =
    let first = bind_some (behind_mark (35 ∷ []) (without_gaps line)) _ name h in
    let word = first.0 in
    let second = bind_some (behind_mark include_word (without_gaps word)) _ name first.2 in
    let quote = second.0 in
    let third = bind_some (behind_mark (34 ∷ []) (without_gaps quote)) _ name second.2 in
    let quoted = third.0 in
    let n = prefix_len is_not_quote quoted in
    let fourth = bind_some (behind_mark (34 ∷ []) (drop n quoted)) _ name third.2 in
    let rest = fourth.0 in
    let checked = checked_some (take n quoted) rest name fourth.2 in
    let line_is : line ≡ take (prefix_len is_gap line) line ++ (35 ∷ word) = gaps_first line ∙ ap (λ t. take (prefix_len is_gap line) line ++ t) (mark_some (35 ∷ []) (without_gaps line) word first.1) in
    let word_is : word ≡ take (prefix_len is_gap word) word ++ (include_word ++ quote) = gaps_first word ∙ ap (λ t. take (prefix_len is_gap word) word ++ t) (mark_some include_word (without_gaps word) quote second.1) in
    let quote_is : quote ≡ take (prefix_len is_gap quote) quote ++ (34 ∷ quoted) = gaps_first quote ∙ ap (λ t. take (prefix_len is_gap quote) quote ++ t) (mark_some (34 ∷ []) (without_gaps quote) quoted third.1) in
    let quoted_is : quoted ≡ take n quoted ++ (34 ∷ rest) = sym (take-append-drop n quoted) ∙ ap (λ t. take n quoted ++ t) (mark_some (34 ∷ []) (drop n quoted) rest fourth.1) in
    let rest_is : rest ≡ take (prefix_len is_gap rest) rest ++ without_gaps rest = gaps_first rest in
    subst (IsIncludeLine line) checked.same (record {
      indent = take (prefix_len is_gap line) line;
      before_word = take (prefix_len is_gap word) word;
      before_name = take (prefix_len is_gap quote) quote;
      behind_name = take (prefix_len is_gap rest) rest;
      end = without_gaps rest;
      spelled = line_is ∙ ap (λ t. take (prefix_len is_gap line) line ++ (35 ∷ t)) (word_is
          ∙ ap (λ t. take (prefix_len is_gap word) word ++ (include_word ++ t)) (quote_is
          ∙ ap (λ t. take (prefix_len is_gap quote) quote ++ (34 ∷ t)) (quoted_is
          ∙ ap (λ t. take n quoted ++ (34 ∷ t)) rest_is)));
      gaps = (list_all-take-prefix_len is_gap line, list_all-take-prefix_len is_gap word, list_all-take-prefix_len is_gap quote, list_all-take-prefix_len is_gap rest);
      ended = ends_end (without_gaps rest) checked.ended;
      named = checked.named;
      unquoted = list_all-take-prefix_len is_not_quote quoted;
      text = checked.text;
    })

pub include_form : (line name : List ℕ) → (include_name line ≡ Some name) ↔ IsIncludeLine line name
include_form line name = (form_from_name line name, name_from_form line name)
