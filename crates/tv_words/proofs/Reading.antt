-- The reader of lines gives exactly the line that the words are.
use Rattle.std.proofs.Common.{◌≡◌, ◌∙◌, ℕ, Bool, true, false, not, refl, sym, ap, subst, List, [], ◌∷◌, ◌++◌}
use Rattle.std.proofs.Common.{Option, Some, None, inl, inr}
use Rattle.std.specs.Prelude.{IfSome}
use Rattle.std.specs.List.{list_all}
use Rattle.std.proofs.lemmas.Bool.{and_from, and_parts, or_cases, not-true, cond-true, cond-false, true≢false}
use Rattle.tv_lemmas.proofs.Texts.{same_text}
use Rattle.clap.proofs.CutLemmas.{Lacks, list_any-at}
use Rattle.clap.specs.Lexer.{has_byte, name_and_value}
use Rattle.clap.proofs.LexerLemmas.{name_and_value-at, name_and_value-without}
use Rattle.tv_words.specs.Line.{Part, Operand, Flag, Setting, IsSpelled, Spells, IsLine, is_operand, dashed}
use Rattle.tv_words.specs.Line.{assigned as assigned_word, is_among, is_allowed}
use Rattle.tv_words.specs.Setup.{is_name, are_names}
use Rattle.tv_words.proofs.Reader.{Class, dashes, flag, setting, assigned, plain, unknown, Line, Tells, Cut}
use Rattle.tv_words.proofs.Reader.{cut, class_of, named_class, class_tells, class_plain, with_part, step_open}
use Rattle.tv_words.proofs.Reader.{step, read}

-- ---- what is read is spelled

module _ (flags settings : List (List ℕ)) where
  -- what was read of these words, where this setting awaits its value
  abbrev Said : Option (List ℕ) → List (List ℕ) → Line → Type 0
  Said None words line = IsLine flags settings line.0 line.1 words
  Said (Some name) words line = is_among settings name ≡ true → IsLine flags settings line.0 line.1
      (dashed name ∷ words)

  abbrev SaidIf : Option (List ℕ) → List (List ℕ) → Option Line → Type 0
  SaidIf awaited words found = IfSome found (Said awaited words)

  with_said : (part : Part) (own words : List (List ℕ)) (found : Option Line) → is_allowed flags settings part
      ≡ true → IsSpelled part own
      → SaidIf None words found → IfSome (with_part part found) (λ line. IsLine flags settings line.0 line.1
      (own ++ words))
  with_said part own words None known is h = tt
  with_said part own words (Some line) known is h = record {
    spelled = (own, words, is, refl, h.spelled);
    allowed = and_from _ _ known h.allowed;
  }

  await_said : (name word : List ℕ) (words : List (List ℕ)) (found : Option Line) → is_operand word ≡ true
      → SaidIf None words found → SaidIf (Some name) (word ∷ words) (with_part (Setting name word) found)
  await_said name word words None is h = tt
  await_said name word words (Some line) is h = λ known. with_said (Setting name word)
      (dashed name ∷ word ∷ []) words (Some line) known
      (inl (is, refl)) h

  open_said : (class : Class) (word : List ℕ) (words : List (List ℕ)) (next : Option (List ℕ) → Option Line)
      → Tells flags settings class word
      → ((awaited : Option (List ℕ)) → SaidIf awaited words (next awaited))
      → SaidIf None (word ∷ words) (step_open class word words (next None) (λ name. next (Some name)))
  open_said dashes word words next tells h = record {
    spelled = inr (ap (λ w. w ∷ words) tells);
    allowed =
        refl;
  }
  open_said (flag name) word words next tells h = with_said (Flag name) (word ∷ []) words (next None) tells.0
      (ap (λ w. w ∷ []) tells.1) (h None)
  open_said (setting name) word words next tells h = go (next (Some name)) (h (Some name))
    where
      go : (found : Option Line) → SaidIf (Some name) words found → SaidIf None (word ∷ words) found
      go None said = tt
      go (Some line) said = subst (λ w. IsLine flags settings line.0 line.1 (w ∷ words)) (sym tells.1)
          (said tells.0)
  open_said (assigned name value) word words next tells h =
      with_said (Setting name value) (word ∷ []) words (next None) tells.0 (inr (ap (λ w. w ∷ []) tells.1))
      (h None)
  open_said plain word words next tells h = with_said (Operand word) (word ∷ []) words (next None) refl
      (tells, refl) (h None)
  open_said unknown word words next tells h = tt

  step_said : (awaited : Option (List ℕ)) (class : Class) (word : List ℕ) (words : List (List ℕ))
      (next : Option (List ℕ) → Option Line)
      → Tells flags settings class word → ((other : Option (List ℕ)) → SaidIf other words (next other))
      → SaidIf awaited (word ∷ words) (step awaited class word words next)
  step_said None class word words next tells h = open_said class word words next tells h
  step_said (Some name) plain word words next tells h = await_said name word words (next None) tells (h None)
  step_said (Some name) dashes word words next tells h = tt
  step_said (Some name) (flag n) word words next tells h = tt
  step_said (Some name) (setting n) word words next tells h = tt
  step_said (Some name) (assigned n v) word words next tells h = tt
  step_said (Some name) unknown word words next tells h = tt

  pub read_said : (words : List (List ℕ)) (awaited : Option (List ℕ))
      → SaidIf awaited words (read flags settings awaited words)
  read_said [] None = record { spelled = inl (refl, refl); allowed = refl }
  read_said [] (Some name) = tt
  read_said (word ∷ words) awaited = step_said awaited (class_of flags settings word) word words
      (λ next. read flags settings next words)
      (class_tells flags settings word) (λ other. read_said words other)

-- ---- what is spelled is read

pub among_passes : (p : List ℕ → Bool) (names : List (List ℕ)) (name : List ℕ) → list_all p names ≡ true
    → is_among names name ≡ true → p name ≡ true
among_passes p [] name all here = absurd (true≢false (sym here))
among_passes p (x ∷ xs) name all here = elim (or_cases _ _ here) [
  | inl e ↦ subst (λ y. p y ≡ true) (same_text x name e) (and_parts _ _ all).0
  | inr e ↦ among_passes p xs name (and_parts _ _ all).1 e
]

lacks : (name : List ℕ) → has_byte 61 name ≡ false → Lacks 61 name
lacks name e = go (cut name)
  where
    go : Cut name → Lacks 61 name
    go (inl h) = h
    go (inr (before, after, is, h)) =
        absurd (true≢false (sym (ap (has_byte 61) is ∙ list_any-at 61 before after) ∙ e))

module _ (flags settings : List (List ℕ)) where
  long_class_of : (x : ℕ) (xs : List ℕ) (p : List ℕ × Option (List ℕ)) → name_and_value (x ∷ xs) ≡ p
      → class_of flags settings (45 ∷ 45 ∷ x ∷ xs) ≡ named_class flags settings p.0 p.1
  long_class_of x xs p e = ap (λ q. named_class flags settings q.0 q.1) e

  class_flag : (name : List ℕ) → is_name name ≡ true → is_among flags name ≡ true → class_of flags settings
      (dashed name) ≡ flag name
  class_flag [] is known = absurd (true≢false (sym is))
  class_flag (x ∷ xs) is known =
      long_class_of x xs _ (name_and_value-without (x ∷ xs) (lacks (x ∷ xs) (not-true _ is)))
      ∙ cond-true (is_among flags (x ∷ xs)) _ _ known

  class_setting : (name : List ℕ) → is_name name ≡ true → is_among flags name ≡ false → is_among settings name
      ≡ true
      → class_of flags settings (dashed name) ≡ setting name
  class_setting [] is other known = absurd (true≢false (sym is))
  class_setting (x ∷ xs) is other known =
      long_class_of x xs _ (name_and_value-without (x ∷ xs) (lacks (x ∷ xs) (not-true _ is)))
      ∙ cond-false (is_among flags (x ∷ xs)) _ _ other ∙ cond-true (is_among settings (x ∷ xs)) _ _ known

  class_assigned : (name value : List ℕ) → is_name name ≡ true → is_among flags name ≡ false
      → is_among settings name ≡ true
      → class_of flags settings (assigned_word name value) ≡ assigned name value
  class_assigned [] value is other known = absurd (true≢false (sym is))
  class_assigned (x ∷ xs) value is other known =
      long_class_of x (xs ++ 61 ∷ value) _ (name_and_value-at (x ∷ xs) value (lacks (x ∷ xs) (not-true _ is)))
      ∙ cond-false (is_among flags (x ∷ xs)) _ _ other ∙ cond-true (is_among settings (x ∷ xs)) _ _ known

  module _ (fit : are_names flags settings ≡ true) where
    flag_fits : (name : List ℕ) → is_among flags name ≡ true → is_name name ≡ true
    flag_fits name known = among_passes is_name flags name (and_parts _ _ fit).0 known

    setting_fits : (name : List ℕ) → is_among settings name ≡ true → is_name name ≡ true
    setting_fits name known = among_passes is_name settings name (and_parts _ _ (and_parts _ _ fit).1).0 known

    pub no_flag : (name : List ℕ) → is_among settings name ≡ true → is_among flags name ≡ false
    no_flag name known = not-true _ (among_passes (λ n. not (is_among flags n)) settings name
        (and_parts _ _ (and_parts _ _ fit).1).1 known)

    read_from : Option (List ℕ) → List (List ℕ) → Option Line
    read_from = read flags settings

    part_read : (part : Part) (own rest : List (List ℕ)) (line : Line) → IsSpelled part own
        → is_allowed flags settings part ≡ true
        → read flags settings None rest ≡ Some line → read flags settings None (own ++ rest)
        ≡ Some (part ∷ line.0, line.1)
    part_read (Operand word) own rest line is known e =
        ap (λ w. read flags settings None (w ++ rest)) is.1
        ∙ ap (λ c. step None c word rest (λ next. read flags settings next rest))
        (class_plain flags settings word is.0)
        ∙ ap (with_part (Operand word)) e
    part_read (Flag name) own rest line is known e =
        ap (λ w. read flags settings None (w ++ rest)) is
        ∙ ap (λ c. step None c (dashed name) rest (λ next. read flags settings next rest))
        (class_flag name (flag_fits name known) known)
        ∙ ap (with_part (Flag name)) e
    part_read (Setting name value) own rest line (inl is) known e =
        ap (λ w. read flags settings None (w ++ rest)) is.1
        ∙ ap (λ c. step None c (dashed name) (value ∷ rest) (λ next. read flags settings next (value ∷ rest)))
        (class_setting name (setting_fits name known) (no_flag name known) known)
        ∙ ap (λ c. step (Some name) c value rest (λ next. read flags settings next rest))
        (class_plain flags settings value is.0)
        ∙ ap (with_part (Setting name value)) e
    part_read (Setting name value) own rest line (inr is) known e =
        ap (λ w. read flags settings None (w ++ rest)) is
        ∙ ap (λ c. step None c (assigned_word name value) rest (λ next. read flags settings next rest))
        (class_assigned name value (setting_fits name known) (no_flag name known) known)
        ∙ ap (with_part (Setting name value)) e

    parts_read : (parts : List Part) (behind words : List (List ℕ)) → Spells parts behind words
        → list_all (is_allowed flags settings) parts ≡ true
        → read flags settings None words ≡ Some (parts, behind)
    parts_read [] behind words (inl is) known = ap (read flags settings None) is.0 ∙ ap (λ b. Some ([], b))
        (sym is.1)
    parts_read [] behind words (inr is) known = ap (read flags settings None) is
    parts_read (part ∷ parts) behind words (own, rest, is, whole, more) known =
        let each = and_parts _ _ known in
        ap (read flags settings None) whole ∙ part_read part own rest (parts, behind) is each.0
        (parts_read parts behind rest more each.1)

    -- a line is read as its parts
    pub line_read : (parts : List Part) (behind words : List (List ℕ)) → IsLine flags settings parts behind
        words
        → read flags settings None words ≡ Some (parts, behind)
    line_read parts behind words line = parts_read parts behind words line.spelled line.allowed

    -- words are one line at most
    pub one_line : (words : List (List ℕ)) (parts other_parts : List Part)
        (behind other_behind : List (List ℕ)) → IsLine flags settings parts behind words
        → IsLine flags settings other_parts other_behind words → (parts ≡ other_parts)
        × (behind ≡ other_behind)
    one_line words parts other_parts behind other_behind a b =
        let same : Some (parts, behind) ≡ Some (other_parts, other_behind) =
        sym (line_read parts behind words a) ∙ line_read other_parts other_behind words b in
        let pair : (parts, behind) ≡ (other_parts, other_behind) = cc in
        (ap (λ (p : Line). p.0) pair, ap (λ (p : Line). p.1) pair)
