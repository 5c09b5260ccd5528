-- Texts of whole lines.
use Rattle.std.proofs.Common.{◌≡◌, ◌∙◌, ℕ, ◌<◌, List, [], ◌∷◌, ◌++◌, true, false, length, refl, sym, ap}
use Rattle.std.proofs.Common.{subst}
use Rattle.std.proofs.Common.{inl, inr, arith, append_assoc}
use Rattle.std.specs.Prelude.{◌==◌}
use Rattle.std.specs.List.{list_all}
use Rattle.std.proofs.lemmas.Bool.{and_parts, and_from, cases_Bool, cond-false, cond-true, eqb-true}
use Rattle.std.proofs.lemmas.Bool.{false≢true}
use Rattle.std.proofs.lemmas.Bool.{not_from_false, not-true}
use Rattle.tv_lex.specs.Bytes.{stays_on_line}
use Rattle.tv_lex.specs.Comments.{IsWholeLines}
use Rattle.tv_lex.specs.Include.{lines_of, onto}

-- ---- whole lines

pub whole_append : (x y : List ℕ) → IsWholeLines x → IsWholeLines y → IsWholeLines (x ++ y)
whole_append [] y whole more = more
whole_append (b ∷ []) [] whole more = whole
whole_append (b ∷ []) (c ∷ cs) whole more = more
whole_append (b ∷ c ∷ cs) y whole more = whole_append (c ∷ cs) y whole more

pub whole_behind : (x y : List ℕ) → IsWholeLines (x ++ y) → IsWholeLines y
whole_behind [] y whole = whole
whole_behind (b ∷ []) [] whole = tt
whole_behind (b ∷ []) (c ∷ cs) whole = whole
whole_behind (b ∷ c ∷ cs) y whole = whole_behind (c ∷ cs) y whole

pub whole_line : (body : List ℕ) → IsWholeLines (body ++ 10 ∷ [])
whole_line [] = refl
whole_line (b ∷ []) = refl
whole_line (b ∷ c ∷ cs) = whole_line (c ∷ cs)

-- whole lines, at least one, have a line feed
pub has_feed : (x : List ℕ) → IsWholeLines x → 0 < length x → list_all stays_on_line x ≡ true → ⊥
has_feed [] whole some all = omega (arith, some)
has_feed (b ∷ []) whole some all = false≢true (subst (λ c. list_all stays_on_line (c ∷ []) ≡ true) whole all)
has_feed (b ∷ c ∷ cs) whole some all =
    has_feed (c ∷ cs) whole (omega arith) (and_parts (stays_on_line b) (list_all stays_on_line (c ∷ cs)) all).1

-- ---- a text and its lines

pub record IsLine (line : List ℕ) : Type 0 where
  pub body : List ℕ
  pub spelled : line ≡ body ++ 10 ∷ []
  pub plain : list_all stays_on_line body ≡ true

abbrev pub AreLines : List (List ℕ) → Type 0
AreLines [] = Unit {0}
AreLines (line ∷ lines) = IsLine line × AreLines lines

abbrev pub joined : List (List ℕ) → List ℕ
joined [] = []
joined (line ∷ lines) = line ++ joined lines

pub joined_lines : (text : List ℕ) → joined (lines_of text) ≡ text
joined_lines [] = refl
joined_lines (b ∷ bs) = elim (cases_Bool (b == 10)) [
  | inl e ↦ ap joined (cond-true (b == 10) _ _ e) ∙ (λ i. sym (eqb-true b 10 e) i ∷ joined_lines bs i)
  | inr e ↦ ap joined (cond-false (b == 10) _ _ e) ∙ joined_onto b (lines_of bs) ∙ ap (λ t. b ∷ t) (joined_lines bs)
]
  where
    joined_onto : (b : ℕ) (lines : List (List ℕ)) → joined (onto b lines) ≡ b ∷ joined lines
    joined_onto b [] = refl
    joined_onto b (line ∷ lines) = refl

pub joined_append : (before after : List (List ℕ)) → joined (before ++ after) ≡ joined before ++ joined after
joined_append [] after = refl
joined_append (line ∷ lines) after =
    ap (λ t. line ++ t) (joined_append lines after) ∙ sym (append_assoc line (joined lines) (joined after))

-- there is a line
abbrev HasLine : List (List ℕ) → Type 0
HasLine [] = ⊥
HasLine (line ∷ lines) = Unit {0}

some_onto : (b : ℕ) (lines : List (List ℕ)) → HasLine (onto b lines)
some_onto b [] = tt
some_onto b (line ∷ lines) = tt

some_line : (b : ℕ) (bs : List ℕ) → HasLine (lines_of (b ∷ bs))
some_line b bs = elim (cases_Bool (b == 10)) [
  | inl e ↦ subst HasLine (sym (cond-true (b == 10) _ _ e)) tt
  | inr e ↦ subst HasLine (sym (cond-false (b == 10) _ _ e)) (some_onto b (lines_of bs))
]

onto_lines : (b : ℕ) → (b == 10) ≡ false → (lines : List (List ℕ)) → HasLine lines → AreLines lines
    → AreLines (onto b lines)
onto_lines b e [] some are = absurd some
onto_lines b e (line ∷ lines) some are = (
  record {
    body = b ∷ are.0.body;
    spelled = ap (λ t. b ∷ t) are.0.spelled;
    plain = and_from (stays_on_line b) (list_all stays_on_line are.0.body) (not_from_false (b == 10) e) are.0.plain;
  },
  are.1,
)

pub are_lines : (text : List ℕ) → IsWholeLines text → AreLines (lines_of text)
are_lines [] whole = tt
are_lines (b ∷ []) whole =
    subst (λ c. AreLines (lines_of (c ∷ []))) (sym whole) (record { body = []; spelled = refl; plain = refl }, tt)
are_lines (b ∷ c ∷ cs) whole = elim (cases_Bool (b == 10)) [
  | inl e ↦
      subst AreLines (sym (cond-true (b == 10) _ _ e))
      (record { body = []; spelled = refl; plain = refl }, are_lines (c ∷ cs) whole)
  | inr e ↦
      subst AreLines (sym (cond-false (b == 10) _ _ e))
      (onto_lines b e (lines_of (c ∷ cs)) (some_line c cs) (are_lines (c ∷ cs) whole))
]

-- a line in front of a text is the first of its lines
line_front : (body rest : List ℕ) → list_all stays_on_line body ≡ true
    → lines_of (body ++ 10 ∷ rest) ≡ (body ++ 10 ∷ []) ∷ lines_of rest
line_front [] rest plain = refl
line_front (b ∷ body) rest plain =
    let both = and_parts (stays_on_line b) (list_all stays_on_line body) plain in
    let other : (b == 10) ≡ false = not-true (b == 10) both.0 in
    cond-false (b == 10) _ _ other ∙ ap (onto b) (line_front body rest both.1)

pub lines_again : (lines : List (List ℕ)) → AreLines lines → lines_of (joined lines) ≡ lines
lines_again [] are = refl
lines_again (line ∷ lines) are =
    let cut : line ++ joined lines ≡ are.0.body ++ 10 ∷ joined lines
    = ap (λ l. l ++ joined lines) are.0.spelled ∙ append_assoc are.0.body (10 ∷ []) (joined lines) in
    ap lines_of cut ∙ line_front are.0.body (joined lines) are.0.plain
    ∙ (λ i. sym are.0.spelled i ∷ lines_again lines are.1 i)

pub joined_whole : (lines : List (List ℕ)) → AreLines lines → IsWholeLines (joined lines)
joined_whole [] are = tt
joined_whole (line ∷ lines) are =
    whole_append line (joined lines) (subst IsWholeLines (sym are.0.spelled) (whole_line are.0.body))
    (joined_whole lines are.1)

pub are_also : (before after : List (List ℕ)) → AreLines before → AreLines after → AreLines (before ++ after)
are_also [] after are more = more
are_also (line ∷ lines) after are more = (are.0, are_also lines after are.1 more)
