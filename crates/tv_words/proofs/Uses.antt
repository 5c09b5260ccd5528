-- What a use of an argument changes, and that it is never refused.
use Rattle.std.proofs.Common.{◌≡◌, ◌∙◌, ◌+◌, ◌&&◌, ℕ, Bool, true, false, not, refl, sym, ap, subst, arith}
use Rattle.std.proofs.Common.{List, [], ◌∷◌, ◌++◌, map, min, inl, inr, append-nil, append_assoc}
use Rattle.std.specs.Prelude.{codes, pos}
use Rattle.std.specs.List.{list_any}
use Rattle.std.specs.Str.{bytes_eq}
use Rattle.std.proofs.lemmas.Bool.{cases_Bool, and_parts, not-true, true≢false}
use Rattle.tv_lemmas.proofs.Texts.{text_itself, same_text}
use Rattle.clap.specs.Walk.{Row, count_of, has_row, reading_by, used, with_default}
use Rattle.clap.specs.Faults.{check_fault, default_fault, defaults_fault, use_fault}
use Rattle.clap.specs.Kinds.{check_kinds, or_else}
use Rattle.clap.specs.Matches.{count_text}
use Rattle.clap.specs.ValueTests.{accepts}
use Rattle.clap.specs.Takes.{is_given}
use Rattle.clap.specs.declared.builder.value_parser.ValueParser.TheVariants.{Signed}
use Rattle.clap.specs.declared.parser.matches.ValueSource.TheVariants.{CommandLine}
use Rattle.clap.proofs.CountText.{IsSignedIn-count_text}
use Rattle.clap.proofs.ValueTestLemmas.{Accepts-accepts}
use Rattle.tv_words.specs.Line.{Part, Operand, Flag, Setting, is_among, operands_of, uses_of, values_of}
use Rattle.tv_words.proofs.Reader.{Line}
use Rattle.tv_words.specs.Setup.{is_fit}
use Rattle.tv_words.proofs.Reading.{no_flag}
use Rattle.tv_words.proofs.Rows.{texts_of, texts_grow, texts_stay, count_stays, counted_as}
use Rattle.tv_words.proofs.Rows.{texts_not_counted, count_not_counted}
use Rattle.tv_words.proofs.Shapes.{built_operand, built_flag, built_setting, built_options, built_rules}
use Rattle.tv_words.proofs.Shapes.{built_shape}

-- ---- no use is refused

pub operand_fault : (word : List ℕ) (rows : List Row) → use_fault false built_operand (word ∷ []) rows ≡ []
operand_fault word rows = refl

pub setting_fault : (name word : List ℕ) (rows : List Row) → use_fault false (built_setting name)
    (word ∷ []) rows ≡ []
setting_fault name word rows = refl

count_accepted : (n : ℕ) → accepts false (Signed (pos 0) (pos 255)) (count_text (min n 255)) ≡ true
count_accepted n = Accepts-accepts false (Signed (pos 0) (pos 255)) (count_text (min n 255))
    (IsSignedIn-count_text (min n 255) (omega arith))

pub flag_fault : (name : List ℕ) (rows : List Row) → use_fault false (built_flag name) [] rows ≡ []
flag_fault name rows = rw (count_accepted (count_of name rows + 1)) refl

-- a setting without its value is refused
pub missing_value : (name : List ℕ) (rows : List Row) → use_fault false (built_setting name) [] rows ≡ [] → ⊥
missing_value name rows e = cc

-- ---- what a use changes

module _ (flags settings : List (List ℕ)) where
  -- the rows have grown by this line
  pub record Grown (rows : List Row) (line : Line) (grown : List Row) : Type 0 where
    pub operands : texts_of (codes "operands") grown ≡ texts_of (codes "operands") rows ++
        (operands_of line.0 ++ line.1)
    pub uses : (name : List ℕ) → is_among flags name ≡ true → min (count_of name grown) 255
        ≡ min (count_of name rows + uses_of name line.0) 255
    pub values : (name : List ℕ) → is_among settings name ≡ true → texts_of name grown
        ≡ texts_of name rows ++ values_of name line.0

  pub grown_not : (rows : List Row) → Grown rows ([], []) rows
  grown_not rows = record {
    operands = sym (append-nil _);
    uses = λ name known. ap (λ n. min n 255) (omega arith);
    values = λ name known. sym (append-nil _);
  }

  -- ---- one line behind another

  operands_more : (part : Part) (parts : List Part) → operands_of (part ∷ parts) ≡ operands_of (part ∷ []) ++
      operands_of parts
  operands_more (Operand word) parts = refl
  operands_more (Flag name) parts = refl
  operands_more (Setting name value) parts = refl

  uses_more : (name : List ℕ) (part : Part) (parts : List Part) → uses_of name (part ∷ parts) ≡ uses_of name
      (part ∷ []) + uses_of name parts
  uses_more name (Operand word) parts = omega arith
  uses_more name (Flag other) parts = elim (cases_Bool (bytes_eq other name)) [
    | inl e ↦ rw e (omega arith)
    | inr e ↦ rw e (omega arith)
  ]
  uses_more name (Setting other value) parts = omega arith

  values_more : (name : List ℕ) (part : Part) (parts : List Part) → values_of name (part ∷ parts)
      ≡ values_of name (part ∷ []) ++ values_of name parts
  values_more name (Operand word) parts = refl
  values_more name (Flag other) parts = refl
  values_more name (Setting other value) parts = elim (cases_Bool (bytes_eq other name)) [
    | inl e ↦ rw e refl
    | inr e ↦ rw e refl
  ]

  capped : (a b c d e f : ℕ) → min a 255 ≡ min (b + c) 255 → min b 255 ≡ min (d + e) 255 → f ≡ e + c
      → min a 255 ≡ min (d + f) 255
  capped a b c d e f p q r = omega arith

  pub add_part : (part : Part) (line : Line) (rows one grown : List Row) → Grown rows (part ∷ [], []) one
      → Grown one line grown
      → Grown rows (part ∷ line.0, line.1) grown
  add_part part line rows one grown g h = record {
    operands = h.operands ∙ ap (λ t. t ++ (operands_of line.0 ++ line.1)) (g.operands
        ∙ ap (λ t. texts_of (codes "operands") rows ++ t) (append-nil _))
        ∙ append_assoc (texts_of (codes "operands") rows) (operands_of (part ∷ []))
        (operands_of line.0 ++ line.1)
        ∙ ap (λ t. texts_of (codes "operands") rows ++ t)
        (sym (append_assoc (operands_of (part ∷ [])) (operands_of line.0) line.1)
        ∙ ap (λ t. t ++ line.1) (sym (operands_more part line.0)));
    uses = λ name known. capped _ _ _ _ _ _ (h.uses name known) (g.uses name known)
        (uses_more name part line.0);
    values = λ name known. h.values name known ∙ ap (λ t. t ++ values_of name line.0) (g.values name known)
        ∙ append_assoc (texts_of name rows) (values_of name (part ∷ [])) (values_of name line.0)
        ∙ ap (λ t. texts_of name rows ++ t) (sym (values_more name part line.0));
  }

  pub add_behind : (word : List ℕ) (words : List (List ℕ)) (rows one grown : List Row)
      → Grown rows ([], word ∷ []) one → Grown one ([], words) grown
      → Grown rows ([], word ∷ words) grown
  add_behind word words rows one grown g h = record {
    operands = h.operands ∙ ap (λ t. t ++ words) g.operands ∙ append_assoc (texts_of (codes "operands") rows)
        (word ∷ []) words;
    uses = λ name known. capped _ _ _ _ _ _ (h.uses name known) (g.uses name known) refl;
    values = λ name known. h.values name known ∙ append-nil _ ∙ g.values name known;
  }

  -- ---- the uses

  apart : (a b : List ℕ) → (a ≡ b → ⊥) → bytes_eq a b ≡ false
  apart a b ne = go (bytes_eq a b) refl
    where
      go : (t : Bool) → bytes_eq a b ≡ t → t ≡ false
      go false e = refl
      go true e = absurd (ne (same_text a b e))

  -- a name in one list isn't one that the other lacks
  unlike : (names : List (List ℕ)) (a b : List ℕ) → is_among names a ≡ true → is_among names b ≡ false → a ≡ b
      → ⊥
  unlike names a b known out e = true≢false (sym known ∙ ap (is_among names) e ∙ out)

  module _ (fit : is_fit flags settings ≡ true) where
    no_operands_flag : is_among flags (codes "operands") ≡ false
    no_operands_flag = not-true _ (and_parts _ _ (and_parts _ _ fit).1).0

    no_operands_setting : is_among settings (codes "operands") ≡ false
    no_operands_setting = not-true _ (and_parts _ _ (and_parts _ _ fit).1).1

    pub no_flag_of : (name : List ℕ) → is_among settings name ≡ true → is_among flags name ≡ false
    no_flag_of name known = no_flag flags settings (and_parts _ _ fit).0 name known

    flag_apart : (name : List ℕ) → is_among flags name ≡ true → bytes_eq (codes "operands") name ≡ false
    flag_apart name known = apart (codes "operands") name (λ e. unlike flags name (codes "operands") known
        no_operands_flag (sym e))

    pub setting_apart : (name : List ℕ) → is_among settings name ≡ true → bytes_eq (codes "operands") name
        ≡ false
    setting_apart name known = apart (codes "operands") name (λ e. unlike settings name (codes "operands")
        known no_operands_setting (sym e))

    operand_taken : (word : List ℕ) (rows : List Row) (line : Line) → operands_of line.0 ++ line.1 ≡ word ∷ []
        → ((name : List ℕ) → uses_of name line.0 ≡ 0) → ((name : List ℕ) → values_of name line.0 ≡ [])
        → Grown rows line (used built_operand (word ∷ []) rows)
    operand_taken word rows line is none empty = record {
      operands = texts_grow (codes "operands") _ _ (word ∷ []) rows
          ∙ ap (λ t. texts_of (codes "operands") rows ++ t) (sym is);
      uses = λ name known. let e = count_stays (codes "operands") name (flag_apart name known)
          (reading_by built_operand) CommandLine (word ∷ []) rows in
          let z = none name in omega (arith, e, z);
      values = λ name known. texts_stay (codes "operands") name (setting_apart name known) _ _
          (word ∷ []) rows
          ∙ sym (append-nil _) ∙ ap (λ t. texts_of name rows ++ t) (sym (empty name));
    }

    pub operand_used : (word : List ℕ) (rows : List Row) → Grown rows (Operand word ∷ [], [])
        (used built_operand (word ∷ []) rows)
    operand_used word rows = operand_taken word rows (Operand word ∷ [], []) refl (λ name. refl)
        (λ name. refl)

    pub behind_used : (word : List ℕ) (rows : List Row) → Grown rows ([], word ∷ [])
        (used built_operand (word ∷ []) rows)
    behind_used word rows = operand_taken word rows ([], word ∷ []) refl (λ name. refl) (λ name. refl)

    pub flag_used : (flag : List ℕ) (rows : List Row) → is_among flags flag ≡ true
        → Grown rows (Flag flag ∷ [], []) (used (built_flag flag) [] rows)
    flag_used flag rows here = record {
      operands = texts_not_counted flag (codes "operands") (apart flag (codes "operands")
          (unlike flags flag (codes "operands") here no_operands_flag)) (reading_by (built_flag flag))
          CommandLine (min (count_of flag rows + 1) 255) rows
          ∙ sym (append-nil _);
      uses = λ name known. elim (cases_Bool (bytes_eq flag name)) [
        | inl e ↦ subst (λ n. min (count_of n (used (built_flag flag) [] rows)) 255
            ≡ min (count_of n rows + uses_of n (Flag flag ∷ [])) 255) (same_text flag name e)
            (rw (text_itself flag) (let c = counted_as flag (reading_by (built_flag flag)) CommandLine
            (min (count_of flag rows + 1) 255) rows in omega (arith, c)))
        | inr e ↦ rw e (let c = count_not_counted flag name e (reading_by (built_flag flag)) CommandLine
            (min (count_of flag rows + 1) 255) rows in omega (arith, c))
      ];
      values = λ name known. texts_not_counted flag name
          (apart flag name (unlike flags flag name here (no_flag_of name known)))
          (reading_by (built_flag flag)) CommandLine (min (count_of flag rows + 1) 255) rows
          ∙ sym (append-nil _);
    }

    pub setting_used : (setting value : List ℕ) (rows : List Row) → is_among settings setting ≡ true
        → Grown rows (Setting setting value ∷ [], []) (used (built_setting setting) (value ∷ []) rows)
    setting_used setting value rows here = record {
      operands = texts_stay setting (codes "operands") (apart setting (codes "operands")
          (unlike settings setting (codes "operands") here no_operands_setting)) _ _ _ rows
          ∙ sym (append-nil _);
      uses = λ name known. let ne = apart setting name (λ e. unlike flags name setting known
          (no_flag_of setting here) (sym e)) in
          let how = reading_by (built_setting setting) in
          let c = count_stays setting name ne how CommandLine (value ∷ []) rows
          in omega (arith, c);
      values = λ name known. elim (cases_Bool (bytes_eq setting name)) [
        | inl e ↦ subst (λ n. texts_of n (used (built_setting setting) (value ∷ []) rows)
            ≡ texts_of n rows ++ values_of n (Setting setting value ∷ [])) (same_text setting name e)
            (rw (text_itself setting) (texts_grow setting _ _ (value ∷ []) rows))
        | inr e ↦ rw e (texts_stay setting name e _ _ (value ∷ []) rows ∙ sym (append-nil _))
      ];
    }

-- ---- what stands behind the walk: defaults, and no argument that is wanted

default_unasked : (rows : List Row) (name : List ℕ) → default_fault rows (built_flag name) ≡ []
default_unasked rows name = elim (cases_Bool (has_row name rows)) [
  | inl e ↦ rw e refl
  | inr e ↦ rw e refl
]

settings_unasked : (settings : List (List ℕ)) (rows : List Row)
    → defaults_fault rows (map built_setting settings) ≡ []
unfolding defaults_fault
settings_unasked [] rows = refl
settings_unasked (s ∷ ss) rows = elim (cases_Bool (has_row s rows)) [
  | inl e ↦ rw e (settings_unasked ss _)
  | inr e ↦ rw e (settings_unasked ss _)
]

options_unasked : (flags settings : List (List ℕ)) (rows : List Row)
    → defaults_fault rows (built_options flags settings) ≡ []
unfolding defaults_fault
options_unasked [] settings rows = settings_unasked settings rows
options_unasked (f ∷ fs) settings rows =
    ap (λ k. or_else k (defaults_fault (with_default rows (built_flag f)) (built_options fs settings)))
    (default_unasked rows f)
    ∙ options_unasked fs settings (with_default rows (built_flag f))

pub no_default_fault : (flags settings : List (List ℕ)) (rows : List Row)
    → defaults_fault rows (built_rules flags settings) ≡ []
unfolding defaults_fault
no_default_fault flags settings rows = elim (cases_Bool (has_row (codes "operands") rows)) [
  | inl e ↦ rw e (options_unasked flags settings _)
  | inr e ↦ rw e (options_unasked flags settings _)
]

settings_unwanted : (settings : List (List ℕ)) (rows : List Row)
    → list_any (λ a. a.required && not (is_given a.id rows)) (map built_setting settings) ≡ false
settings_unwanted [] rows = refl
settings_unwanted (s ∷ ss) rows = settings_unwanted ss rows

options_unwanted : (flags settings : List (List ℕ)) (rows : List Row)
    → list_any (λ a. a.required && not (is_given a.id rows)) (built_options flags settings) ≡ false
options_unwanted [] settings rows = settings_unwanted settings rows
options_unwanted (f ∷ fs) settings rows = options_unwanted fs settings rows

pub no_check_fault : (name : List ℕ) (flags settings : List (List ℕ)) (rows : List Row)
    → check_fault (built_shape name flags settings) rows false ≡ []
no_check_fault name flags settings rows = ap (λ b. check_kinds false false b)
    (options_unwanted flags settings rows)
