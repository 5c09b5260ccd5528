-- The walk of `clap` over a line reads it as the reader of lines does.
use Rattle.std.proofs.Common.{◌≡◌, ◌∙◌, ◌==◌, ◌&&◌, ℕ, Bool, cond, true, false, refl, sym, ap, ap₂, subst}
use Rattle.std.proofs.Common.{List, [], ◌∷◌, Option, Some, None, inl, inr}
use Rattle.std.specs.Prelude.{codes, fold}
use Rattle.std.specs.Option.{option_map_or}
use Rattle.std.specs.Str.{bytes_eq, IsUtf8}
use Rattle.std.proofs.lemmas.Bool.{cases_Bool, cond-true, cond-false, eqb-true}
use Rattle.tv_lemmas.proofs.Texts.{text_itself}
use Rattle.clap.specs.Lexer.{long_of, short_of}
use Rattle.clap.specs.Walk.{Held, Row, Rule, Text, Waiting, Walk, idle, nothing_held, option, positional}
use Rattle.clap.specs.Walk.{after_step, arg_by_id, arg_by_long, arg_by_short, is_pending, long_or_other}
use Rattle.clap.specs.Walk.{positional_held, settled, settled_rows, subcommand_met, used, used_by_id}
use Rattle.clap.specs.Walk.{walk_from, walked}
use Rattle.clap.specs.Simple.{Shape}
use Rattle.clap.specs.Kinds.{Kinds, or_else}
use Rattle.clap.specs.declared.error.kind.ErrorKind.{ErrorKind}
use Rattle.clap.specs.declared.error.kind.ErrorKind.TheVariants.{TooManyValues, UnknownArgument}
use Rattle.clap.specs.Faults.{bundle_fault, flags_fault, flag_word_fault, positional_fault, settle_fault}
use Rattle.clap.specs.Faults.{step_fault, turn_fault, use_fault, walk_fault}
use Rattle.tv_words.specs.Line.{Part, Operand, Flag, Setting, is_among}
use Rattle.tv_words.proofs.Reader.{Class, Line, Shows, char_behind, class_shows, class_of, dashes, flag}
use Rattle.tv_words.proofs.Reader.{setting, assigned, plain, unknown, read, step, with_part}
use Rattle.tv_words.specs.Setup.{is_fit}
use Rattle.tv_words.proofs.Shapes.{built_operand, built_flag, built_setting, built_rules, built_shape, by_id}
use Rattle.tv_words.proofs.Shapes.{by_long, by_short}
use Rattle.tv_words.proofs.Uses.{Grown, grown_not, add_part, add_behind, operand_fault, setting_fault}
use Rattle.tv_words.proofs.Uses.{flag_fault, missing_value, operand_used, behind_used, flag_used}
use Rattle.tv_words.proofs.Uses.{setting_used, no_flag_of, setting_apart}

-- ---- several steps

or_else_assoc : (a b c : Kinds) → or_else (or_else a b) c ≡ or_else a (or_else b c)
or_else_assoc [] b c = refl
or_else_assoc (k ∷ ks) b c = refl

first_none : (a b : Kinds) → or_else a b ≡ [] → a ≡ []
first_none [] b e = refl
first_none (k ∷ ks) b e = e

one_fault : (k : ErrorKind) → k ∷ [] ≡ [] → ⊥
one_fault k e = cc

no_subcommand : (w : Waiting) (word : List ℕ) → subcommand_met [] w word ≡ None
no_subcommand idle word = refl
no_subcommand (option id) word = refl
no_subcommand positional word = refl

-- each word is text
abbrev pub AllText : List (List ℕ) → Type 0
AllText [] = Unit {0}
AllText (word ∷ words) = IsUtf8 word × AllText words

module _ (s : Shape) where
  -- the faults of a walk over the words, and of what is pending at its end
  abbrev pub faults : Walk → List Text → Kinds
  faults w words = or_else (walk_fault s [] w words) (settle_fault s.rules s.args_override_self
      (fold (walked s.rules []) w words).held)

  -- the rows at its end
  abbrev pub rows_then : Walk → List Text → List Row
  rows_then w words = (settled s.rules (fold (walked s.rules []) w words).held).rows

  pub faults_none : (w : Walk) → faults w [] ≡ settle_fault s.rules s.args_override_self w.held
  unfolding walk_fault
  faults_none w = refl

  pub faults_more : (w : Walk) (word : Text) (words : List Text)
      → faults w (word ∷ words) ≡ or_else (turn_fault s [] w word) (faults (walked s.rules [] w word) words)
  unfolding walk_fault
  faults_more w word words = or_else_assoc (turn_fault s [] w word)
      (walk_fault s [] (walked s.rules [] w word) words) _

module _ (name : List ℕ) (flags settings : List (List ℕ)) (fit : is_fit flags settings ≡ true) where
  abbrev shape : Shape
  shape = built_shape name flags settings

  abbrev rules : List Rule
  rules = built_rules flags settings

  -- what is held stands for these rows: what is pending has its value
  record Ready (h : Held) (rows : List Row) : Type 0 where
    pub settles : settle_fault rules false h ≡ []
    pub rows_are : settled_rows rules h.pending h.rows ≡ rows
    pub no_skip : h.skip ≡ 0

  -- what the walk gives: refused exactly where no line was read, else the rows grown by the line
  abbrev pub Agrees : List Row → Option Line → Kinds → List Row → Type 0
  Agrees rows None kinds grown = kinds ≡ [] → ⊥
  Agrees rows (Some line) kinds grown = (kinds ≡ []) × Grown flags settings rows line grown

  -- ---- behind `--`

  abbrev trailing_walk : Held → Waiting → Walk
  trailing_walk h waiting = record {
    held = h;
    waiting = waiting;
    position = 1;
    is_trailing = true;
    stopped = None;
  }

  abbrev open_walk : Held → Waiting → Walk
  open_walk h waiting = record {
    held = h;
    waiting = waiting;
    position = 1;
    is_trailing = false;
    stopped = None;
  }

  positional_ready : (h : Held) → settle_fault rules false h ≡ [] → positional_fault rules false built_operand
      h ≡ []
  positional_ready h e = elim (cases_Bool (is_pending built_operand h.pending)) [
    | inl p ↦ rw p e
    | inr p ↦ rw p e
  ]

  -- the word is pending as an operand
  abbrev with_operand : List Row → ℕ → List ℕ → Held
  with_operand rows skip word = record {
    rows = rows;
    pending = Some (codes "operands", word ∷ []);
    skip = skip;
  }

  to_operand : (h : Held) (word : List ℕ) → positional_held rules built_operand word h ≡ with_operand
      (settled_rows rules h.pending h.rows) h.skip word
  to_operand h word = elim (cases_Bool (is_pending built_operand h.pending)) [
    | inl p ↦ rw p refl
    | inr p ↦ rw p refl
  ]

  operand_ready : (rows : List Row) (word : List ℕ) → Ready (with_operand rows 0 word)
      (used built_operand (word ∷ []) rows)
  operand_ready rows word = record { settles = operand_fault word rows; rows_are = refl; no_skip = refl }

  trailing_turn : (h : Held) (waiting : Waiting) (word : List ℕ)
      → turn_fault shape [] (trailing_walk h waiting) word ≡ positional_fault rules false built_operand h
  trailing_turn h waiting word = refl

  trailing_next : (h : Held) (waiting : Waiting) (word : List ℕ)
      → walked rules [] (trailing_walk h waiting) word ≡ trailing_walk
      (with_operand (settled_rows rules h.pending h.rows) h.skip word) positional
  unfolding walked
  trailing_next h waiting word = ap (λ k. trailing_walk k positional) (to_operand h word)

  ready_after : (h : Held) (rows : List Row) (word : List ℕ) → Ready h rows
      → with_operand (settled_rows rules h.pending h.rows) h.skip word ≡ with_operand rows 0 word
  ready_after h rows word r = ap₂ (λ rs n. with_operand rs n word) r.rows_are r.no_skip

  trailing_agrees : (words : List (List ℕ)) (h : Held) (rows : List Row) (waiting : Waiting) → Ready h rows
      → Agrees rows (Some ([], words)) (faults shape (trailing_walk h waiting) words)
      (rows_then shape (trailing_walk h waiting) words)
  trailing_agrees [] h rows waiting r = (
    faults_none shape (trailing_walk h waiting) ∙ r.settles,
    subst (λ rs. Grown flags settings rows ([], []) rs) (sym r.rows_are) (grown_not flags settings rows),
  )
  trailing_agrees (word ∷ words) h rows waiting r =
      let next : walked rules [] (trailing_walk h waiting) word ≡ trailing_walk (with_operand rows 0 word)
      positional =
      trailing_next h waiting word ∙ ap (λ k. trailing_walk k positional) (ready_after h rows word r) in
      let after = trailing_agrees words (with_operand rows 0 word) (used built_operand (word ∷ []) rows)
      positional (operand_ready rows word) in
      let turn : turn_fault shape [] (trailing_walk h waiting) word ≡ [] = positional_ready h r.settles in (
        faults_more shape (trailing_walk h waiting) word words ∙ ap₂ (λ k w. or_else k (faults shape w words))
            turn next ∙ after.0,
        subst (λ w. Grown flags settings rows ([], word ∷ words) (rows_then shape w words)) (sym next)
            (add_behind flags settings word words rows _ _
            (behind_used flags settings fit word rows) after.1),
      )

  setting_ready : (rows : List Row) (id word : List ℕ) → is_among settings id ≡ true
      → Ready (record { rows = rows; pending = Some (id, word ∷ []); skip = 0 })
      (used (built_setting id) (word ∷ []) rows)
  setting_ready rows id word known =
      let found : arg_by_id rules id ≡ Some (built_setting id) =
      by_id flags settings id (setting_apart flags settings fit id known)
      (no_flag_of flags settings fit id known) known in
      record {
        settles = ap (λ a. option_map_or (λ b. use_fault false b (word ∷ []) rows) a []) found
            ∙ setting_fault id word rows;
        rows_are = ap (λ a. used_by_id a (word ∷ []) rows) found;
        no_skip = refl;
      }

  -- ---- a setting that has no value

  abbrev lone : List Row → List ℕ → Held
  lone rows id = record { rows = rows; pending = Some (id, []); skip = 0 }

  lone_refused : (id : List ℕ) (rows : List Row) → is_among settings id ≡ true → settle_fault rules false
      (lone rows id) ≡ [] → ⊥
  lone_refused id rows known e =
      missing_value id rows (sym (ap (λ a. option_map_or (λ a. use_fault false a [] rows) a [])
      (by_id flags settings id (setting_apart flags settings fit id known)
      (no_flag_of flags settings fit id known) known)) ∙ e)

  trailing_refused : (words : List (List ℕ)) (id : List ℕ) (rows : List Row) (waiting : Waiting)
      → is_among settings id ≡ true
      → faults shape (trailing_walk (lone rows id) waiting) words ≡ [] → ⊥
  trailing_refused [] id rows waiting known e =
      lone_refused id rows known (sym (faults_none shape (trailing_walk (lone rows id) waiting)) ∙ e)
  trailing_refused (word ∷ words) id rows waiting known e =
      let turn = first_none _ _ (sym (faults_more shape (trailing_walk (lone rows id) waiting) word words)
      ∙ e) in
      lone_refused id rows known (go (is_pending built_operand (Some (id, []))) turn)
    where
      go : (b : Bool) → cond (b && false) [] (settle_fault rules false (lone rows id)) ≡ []
          → settle_fault rules false (lone rows id) ≡ []
      go true h = h
      go false h = h

  -- ---- before `--`

  -- no option awaits its value
  abbrev IsRestful : Waiting → Type 0
  IsRestful idle = Unit {0}
  IsRestful (option id) = ⊥
  IsRestful positional = Unit {0}

  abbrev held_after : List Row → Held
  held_after rows = record { rows = rows; pending = None; skip = 0 }

  ready_held : (rows : List Row) → Ready (held_after rows) rows
  ready_held rows = record { settles = refl; rows_are = refl; no_skip = refl }

  -- the faults of a word that isn't `--`, and the walk behind it
  abbrev word_faults : Held → Waiting → List ℕ → Option (List ℕ × Option (List ℕ)) → Kinds
  word_faults h waiting word l = or_else (flag_word_fault rules false l word h)
      (step_fault shape 1 (long_or_other rules waiting word l h).0 (long_or_other rules waiting word l h).1)

  abbrev word_walk : Held → Waiting → List ℕ → Option (List ℕ × Option (List ℕ)) → Walk
  word_walk h waiting word l =
      after_step rules word (open_walk h waiting) (long_or_other rules waiting word l h).0
      (long_or_other rules waiting word l h).1

  turn_is : (h : Held) (waiting : Waiting) (word : List ℕ) (l : Option (List ℕ × Option (List ℕ)))
      → bytes_eq word (codes "--") ≡ false → long_of word ≡ l
      → turn_fault shape [] (open_walk h waiting) word ≡ word_faults h waiting word l
  turn_is h waiting word l b is =
      let none = no_subcommand waiting word in
      rw (none, b, is) refl

  walked_is : (h : Held) (waiting : Waiting) (word : List ℕ) (l : Option (List ℕ × Option (List ℕ)))
      → bytes_eq word (codes "--") ≡ false → long_of word ≡ l
      → walked rules [] (open_walk h waiting) word ≡ word_walk h waiting word l
  unfolding walked
  walked_is h waiting word l b is =
      let none = no_subcommand waiting word in
      rw (none, b, is) refl

  -- ---- the faults and the walk by what the word is

  abbrev dashes_turn : Held → Waiting → List ℕ → Type 0
  dashes_turn h waiting word = (turn_fault shape [] (open_walk h waiting) word ≡ [])
      × (walked rules [] (open_walk h waiting) word ≡ trailing_walk h waiting)

  at_dashes : (h : Held) (waiting : Waiting) (word : List ℕ) → bytes_eq word (codes "--") ≡ true
      → dashes_turn h waiting word
  unfolding walked
  at_dashes h waiting word b =
      let none = no_subcommand waiting word in
      (rw (none, b) refl, rw (none, b) refl)

  flag_rule_is : (id : List ℕ) → is_among flags id ≡ true → arg_by_long rules id ≡ Some (built_flag id)
  flag_rule_is id known = by_long flags settings id ∙ cond-true (is_among flags id) _ _ known

  setting_rule_is : (id : List ℕ) → is_among flags id ≡ false → is_among settings id ≡ true
      → arg_by_long rules id ≡ Some (built_setting id)
  setting_rule_is id other known = by_long flags settings id ∙ cond-false (is_among flags id) _ _ other
      ∙ cond-true (is_among settings id) _ _ known

  no_rule_is : (id : List ℕ) → is_among flags id ≡ false → is_among settings id ≡ false → arg_by_long rules id
      ≡ None
  no_rule_is id other neither = by_long flags settings id ∙ cond-false (is_among flags id) _ _ other
      ∙ cond-false (is_among settings id) _ _ neither

  flag_faults : (h : Held) (waiting : Waiting) (word id : List ℕ) → is_among flags id ≡ true
      → word_faults h waiting word (Some (id, None)) ≡ or_else (or_else (settle_fault rules false h)
      (use_fault false (built_flag id) [] (settled_rows rules h.pending h.rows))) []
  flag_faults h waiting word id known = let found = flag_rule_is id known in rw found refl

  flag_walk : (h : Held) (waiting : Waiting) (word id : List ℕ) → is_among flags id ≡ true
      → word_walk h waiting word (Some (id, None)) ≡ open_walk (record {
        rows = used (built_flag id) [] (settled_rows rules h.pending h.rows);
        pending = None;
        skip = h.skip;
      }) idle
  flag_walk h waiting word id known = let found = flag_rule_is id known in rw found refl

  setting_faults : (h : Held) (waiting : Waiting) (word id : List ℕ) → is_among flags id ≡ false
      → is_among settings id ≡ true
      → word_faults h waiting word (Some (id, None)) ≡ or_else (settle_fault rules false h) []
  setting_faults h waiting word id other known = let found = setting_rule_is id other known in rw found refl

  setting_walk : (h : Held) (waiting : Waiting) (word id : List ℕ) → is_among flags id ≡ false
      → is_among settings id ≡ true
      → word_walk h waiting word (Some (id, None)) ≡ open_walk (record {
        rows = settled_rows rules h.pending h.rows;
        pending = Some (id, []);
        skip = h.skip;
      }) (option id)
  setting_walk h waiting word id other known = let found = setting_rule_is id other known in rw found refl

  assigned_faults : (h : Held) (waiting : Waiting) (word id text : List ℕ) → is_among flags id ≡ false
      → is_among settings id ≡ true
      → word_faults h waiting word (Some (id, Some text))
      ≡ or_else (or_else (settle_fault rules false h) (use_fault false (built_setting id) (text ∷ [])
      (settled_rows rules h.pending h.rows))) []
  assigned_faults h waiting word id text other known = let found = setting_rule_is id other known in
      rw found refl

  assigned_walk : (h : Held) (waiting : Waiting) (word id text : List ℕ) → is_among flags id ≡ false
      → is_among settings id ≡ true
      → word_walk h waiting word (Some (id, Some text)) ≡ open_walk (record {
        rows = used (built_setting id) (text ∷ []) (settled_rows rules h.pending h.rows);
        pending = None;
        skip = h.skip;
      }) idle
  assigned_walk h waiting word id text other known = let found = setting_rule_is id other known in
      rw found refl

  plain_faults : (h : Held) (waiting : Waiting) (word : List ℕ) → IsRestful waiting → short_of word ≡ None
      → word_faults h waiting word None ≡ positional_fault rules false built_operand h
  plain_faults h idle word rest short = rw short refl
  plain_faults h positional word rest short = rw short refl
  plain_faults h (option id) word rest short = absurd rest

  plain_walk : (h : Held) (waiting : Waiting) (word : List ℕ) → IsRestful waiting → short_of word ≡ None
      → word_walk h waiting word None ≡ open_walk (positional_held rules built_operand word h) positional
  plain_walk h idle word rest short = rw short refl
  plain_walk h positional word rest short = rw short refl
  plain_walk h (option id) word rest short = absurd rest

  awaited_faults : (h : Held) (id word : List ℕ) → short_of word ≡ None → word_faults h (option id) word None
      ≡ []
  awaited_faults h id word short = rw short refl

  awaited_walk : (rows : List Row) (id word : List ℕ) → short_of word ≡ None → is_among settings id ≡ true
      → word_walk (lone rows id) (option id) word None
      ≡ open_walk (record { rows = rows; pending = Some (id, word ∷ []); skip = 0 }) idle
  awaited_walk rows id word short known =
      let found : arg_by_id rules id ≡ Some (built_setting id) =
      by_id flags settings id (setting_apart flags settings fit id known)
      (no_flag_of flags settings fit id known) known in
      let same = text_itself id in
      rw (short, found, same) refl

  -- ---- a word that is refused

  no_bundle : (h : Held) (x : ℕ) (xs : List ℕ) → h.skip ≡ 0 → IsUtf8 (45 ∷ x ∷ xs) → bundle_fault rules false
      (x ∷ xs) h ≡ [] → ⊥
  unfolding flags_fault
  no_bundle h x xs none is e =
      let first = char_behind x xs is in
      let short : arg_by_short rules first.0 ≡ None = by_short flags settings first.0 in
      let refused : bundle_fault rules false (x ∷ xs) h ≡ UnknownArgument ∷ [] =
      rw (none, first.1, short) refl in
      one_fault _ (sym refused ∙ e)

  short_word : (word rest : List ℕ) → short_of word ≡ Some rest → (x : ℕ) × (xs : List ℕ) × (rest ≡ x ∷ xs)
      × (word ≡ 45 ∷ x ∷ xs)
  short_word [] rest e = cc
  short_word (a ∷ []) rest e = elim (cases_Bool (a == 45)) [
    | inl is ↦ let none : short_of (a ∷ []) ≡ None = rw is refl in cc
    | inr is ↦ let none : short_of (a ∷ []) ≡ None = rw is refl in cc
  ]
  short_word (a ∷ x ∷ xs) rest e = elim (cases_Bool (a == 45)) [
    | inl is ↦ elim (cases_Bool (x == 45)) [
      | inl two ↦ let none : short_of (a ∷ x ∷ xs) ≡ None = rw (is, two) refl in cc
      | inr one ↦ let same : short_of (a ∷ x ∷ xs) ≡ Some (x ∷ xs) = rw (is, one) refl in
          (x, xs, cc, ap (λ n. n ∷ x ∷ xs) (eqb-true a 45 is))
    ]
    | inr is ↦ let none : short_of (a ∷ x ∷ xs) ≡ None = rw is refl in cc
  ]

  strange_refused : (h : Held) (waiting : Waiting) (word : List ℕ) → h.skip ≡ 0 → IsUtf8 word
      → Shows flags settings unknown word
      → turn_fault shape [] (open_walk h waiting) word ≡ [] → ⊥
  strange_refused h waiting word none is (b, inl (l, (rest, s))) e =
      let parts = short_word word rest s in
      let faults_are : flag_word_fault rules false None word h ≡ bundle_fault rules false rest h =
      rw s refl in
      no_bundle h parts.0 parts.1 none (subst IsUtf8 parts.3 is)
      (sym (ap (λ r. bundle_fault rules false r h) parts.2) ∙ sym faults_are
      ∙ first_none _ _ (sym (turn_is h waiting word None b l) ∙ e))
  strange_refused h waiting word none is (b, inr (inl (id, text, l, known))) e =
      let found = flag_rule_is id known in
      let faults_are : flag_word_fault rules false (Some (id, Some text)) word h ≡ TooManyValues ∷ [] =
      rw found refl in
      one_fault _ (sym faults_are ∙ first_none _ _ (sym (turn_is h waiting word (Some (id, Some text)) b l)
      ∙ e))
  strange_refused h waiting word none is (b, inr (inr (id, text, l, other, neither))) e =
      let found = no_rule_is id other neither in
      let faults_are : flag_word_fault rules false (Some (id, text)) word h ≡ UnknownArgument ∷ [] =
      rw found refl in
      one_fault _ (sym faults_are ∙ first_none _ _ (sym (turn_is h waiting word (Some (id, text)) b l) ∙ e))

  -- ---- the words one after the other

  with_agrees : (part : Part) (found : Option Line) (rows one : List Row) (kinds : Kinds) (grown : List Row)
      → Grown flags settings rows (part ∷ [], []) one
      → Agrees one found kinds grown → Agrees rows (with_part part found) kinds grown
  with_agrees part None rows one kinds grown g h = h
  with_agrees part (Some line) rows one kinds grown g h =
      (h.0, add_part flags settings part line rows one grown g h.1)

  -- a turn without a fault, and what the walk gives behind it
  turned : (w next : Walk) (word : List ℕ) (words : List (List ℕ)) (rows : List Row) (found : Option Line)
      → turn_fault shape [] w word ≡ []
      → walked rules [] w word ≡ next → Agrees rows found (faults shape next words)
      (rows_then shape next words)
      → Agrees rows found (faults shape w (word ∷ words)) (rows_then shape w (word ∷ words))
  turned w next word words rows found turn is h =
      let kinds : faults shape w (word ∷ words) ≡ faults shape next words = faults_more shape w word words
      ∙ ap₂ (λ k v. or_else k (faults shape v words)) turn is in
      subst (λ k. Agrees rows found k (rows_then shape w (word ∷ words))) (sym kinds)
      (subst (λ v. Agrees rows found (faults shape next words) (rows_then shape v words)) (sym is) h)

  -- a turn with a fault
  turned_refused : (w : Walk) (word : List ℕ) (words : List (List ℕ)) → (turn_fault shape [] w word ≡ [] → ⊥)
      → faults shape w (word ∷ words) ≡ [] → ⊥
  turned_refused w word words refused e = refused (first_none _ _ (sym (faults_more shape w word words) ∙ e))

  abbrev OpenAgrees : List (List ℕ) → Type 0
  OpenAgrees words = (h : Held) (rows : List Row) (waiting : Waiting) → IsRestful waiting → Ready h rows
      → Agrees rows (read flags settings None words) (faults shape (open_walk h waiting) words)
      (rows_then shape (open_walk h waiting) words)

  abbrev AwaitAgrees : List (List ℕ) → Type 0
  AwaitAgrees words = (rows : List Row) (id : List ℕ) → is_among settings id ≡ true
      → Agrees rows (read flags settings (Some id) words) (faults shape (open_walk (lone rows id) (option id))
      words) (rows_then shape (open_walk (lone rows id) (option id)) words)

  open_step : (class : Class) (word : List ℕ) (words : List (List ℕ)) (h : Held) (rows : List Row)
      (waiting : Waiting) → IsRestful waiting → Ready h rows
      → IsUtf8 word → Shows flags settings class word → OpenAgrees words → AwaitAgrees words
      → Agrees rows (step None class word words (λ next. read flags settings next words))
      (faults shape (open_walk h waiting) (word ∷ words)) (rows_then shape (open_walk h waiting)
      (word ∷ words))
  open_step dashes word words h rows waiting rest r is shows open_more await_more =
      let at = at_dashes h waiting word shows in
      turned (open_walk h waiting) (trailing_walk h waiting) word words rows (Some ([], words)) at.0 at.1
      (trailing_agrees words h rows waiting r)
  open_step (flag id) word words h rows waiting rest r is (b, l, known) open_more await_more =
      let turn : turn_fault shape [] (open_walk h waiting) word ≡ [] =
      turn_is h waiting word (Some (id, None)) b l ∙ flag_faults h waiting word id known
      ∙ ap₂ (λ j k. or_else (or_else j k) []) r.settles
      (flag_fault id (settled_rows rules h.pending h.rows)) in
      let next : walked rules [] (open_walk h waiting) word
      ≡ open_walk (held_after (used (built_flag id) [] rows)) idle =
      walked_is h waiting word (Some (id, None)) b l ∙ flag_walk h waiting word id known
      ∙ ap₂ (λ rs n. open_walk (record { rows = used (built_flag id) [] rs; pending = None; skip = n })
      idle) r.rows_are r.no_skip in
      turned (open_walk h waiting) (open_walk (held_after (used (built_flag id) [] rows)) idle) word words
      rows (with_part (Flag id) (read flags settings None words)) turn next
      (with_agrees (Flag id) (read flags settings None words) rows _ _ _
      (flag_used flags settings fit id rows known)
      (open_more (held_after (used (built_flag id) [] rows)) (used (built_flag id) [] rows) idle tt
      (ready_held (used (built_flag id) [] rows))))
  open_step (setting id) word words h rows waiting rest r is (b, l, other, known) open_more await_more =
      let turn : turn_fault shape [] (open_walk h waiting) word ≡ [] =
      turn_is h waiting word (Some (id, None)) b l ∙ setting_faults h waiting word id other known
      ∙ ap (λ j. or_else j []) r.settles in
      let next : walked rules [] (open_walk h waiting) word ≡ open_walk (lone rows id) (option id) =
      walked_is h waiting word (Some (id, None)) b l ∙ setting_walk h waiting word id other known
      ∙ ap₂ (λ rs n. open_walk (record { rows = rs; pending = Some (id, []); skip = n }) (option id))
      r.rows_are r.no_skip in
      turned (open_walk h waiting) (open_walk (lone rows id) (option id)) word words rows
      (read flags settings (Some id) words) turn next (await_more rows id known)
  open_step (assigned id text) word words h rows waiting rest r is (b, l, other, known) open_more await_more =
      let turn : turn_fault shape [] (open_walk h waiting) word ≡ [] =
      turn_is h waiting word (Some (id, Some text)) b l ∙ assigned_faults h waiting word id text other
      known
      ∙ ap₂ (λ j k. or_else (or_else j k) []) r.settles
      (setting_fault id text (settled_rows rules h.pending h.rows)) in
      let next : walked rules [] (open_walk h waiting) word
      ≡ open_walk (held_after (used (built_setting id) (text ∷ []) rows)) idle =
      walked_is h waiting word (Some (id, Some text)) b l ∙ assigned_walk h waiting word id text other
      known
      ∙ ap₂ (λ rs n. open_walk (record {
        rows = used (built_setting id) (text ∷ []) rs;
        pending = None;
        skip = n;
      }) idle) r.rows_are r.no_skip in
      turned (open_walk h waiting) (open_walk (held_after (used (built_setting id) (text ∷ []) rows)) idle)
      word words rows (with_part (Setting id text) (read flags settings None words)) turn next
      (with_agrees (Setting id text) (read flags settings None words) rows _ _ _
      (setting_used flags settings fit id text rows known)
      (open_more (held_after (used (built_setting id) (text ∷ []) rows))
      (used (built_setting id) (text ∷ []) rows) idle tt
      (ready_held (used (built_setting id) (text ∷ []) rows))))
  open_step plain word words h rows waiting rest r is (b, l, short) open_more await_more =
      let turn : turn_fault shape [] (open_walk h waiting) word ≡ [] =
      turn_is h waiting word None b l ∙ plain_faults h waiting word rest short
      ∙ positional_ready h r.settles in
      let next : walked rules [] (open_walk h waiting) word ≡ open_walk (with_operand rows 0 word) positional
      =
      walked_is h waiting word None b l ∙ plain_walk h waiting word rest short
      ∙ ap (λ k. open_walk k positional) (to_operand h word ∙ ready_after h rows word r) in
      turned (open_walk h waiting) (open_walk (with_operand rows 0 word) positional) word words rows
      (with_part (Operand word) (read flags settings None words)) turn next
      (with_agrees (Operand word) (read flags settings None words) rows _ _ _
      (operand_used flags settings fit word rows)
      (open_more (with_operand rows 0 word) (used built_operand (word ∷ []) rows) positional tt
      (operand_ready rows word)))
  open_step unknown word words h rows waiting rest r is shows open_more await_more =
      turned_refused (open_walk h waiting) word words (strange_refused h waiting word r.no_skip is shows)

  await_step : (class : Class) (word : List ℕ) (words : List (List ℕ)) (rows : List Row) (id : List ℕ)
      → is_among settings id ≡ true
      → IsUtf8 word → Shows flags settings class word → OpenAgrees words
      → Agrees rows (step (Some id) class word words (λ next. read flags settings next words))
      (faults shape (open_walk (lone rows id) (option id)) (word ∷ words))
      (rows_then shape (open_walk (lone rows id) (option id)) (word ∷ words))
  await_step dashes word words rows id known is shows open_more =
      let at = at_dashes (lone rows id) (option id) word shows in
      λ e. trailing_refused words id rows (option id) known
      (sym (faults_more shape (open_walk (lone rows id) (option id)) word words
      ∙ ap₂ (λ k w. or_else k (faults shape w words)) at.0 at.1) ∙ e)
  await_step (flag other) word words rows id known is (b, l, here) open_more =
      turned_refused (open_walk (lone rows id) (option id)) word words (λ e. lone_refused id rows known
      (first_none _ _ (first_none _ _ (sym (turn_is (lone rows id) (option id) word (Some (other, None)) b l
      ∙ flag_faults (lone rows id) (option id) word other here) ∙ e))))
  await_step (setting other) word words rows id known is (b, l, out, here) open_more =
      turned_refused (open_walk (lone rows id) (option id)) word words (λ e. lone_refused id rows known
      (first_none _ _ (sym (turn_is (lone rows id) (option id) word (Some (other, None)) b l
      ∙ setting_faults (lone rows id) (option id) word other out here) ∙ e)))
  await_step (assigned other text) word words rows id known is (b, l, out, here) open_more =
      turned_refused (open_walk (lone rows id) (option id)) word words (λ e. lone_refused id rows known
      (first_none _ _
      (first_none _ _ (sym (turn_is (lone rows id) (option id) word (Some (other, Some text)) b l
      ∙ assigned_faults (lone rows id) (option id) word other text out here) ∙ e))))
  await_step plain word words rows id known is (b, l, short) open_more =
      let turn : turn_fault shape [] (open_walk (lone rows id) (option id)) word ≡ [] =
      turn_is (lone rows id) (option id) word None b l ∙ awaited_faults (lone rows id) id word short in
      let next : walked rules [] (open_walk (lone rows id) (option id)) word
      ≡ open_walk (record { rows = rows; pending = Some (id, word ∷ []); skip = 0 }) idle =
      walked_is (lone rows id) (option id) word None b l ∙ awaited_walk rows id word short known in
      turned (open_walk (lone rows id) (option id))
      (open_walk (record { rows = rows; pending = Some (id, word ∷ []); skip = 0 }) idle) word words rows
      (with_part (Setting id word) (read flags settings None words)) turn next
      (with_agrees (Setting id word) (read flags settings None words) rows _ _ _
      (setting_used flags settings fit id word rows known)
      (open_more (record { rows = rows; pending = Some (id, word ∷ []); skip = 0 })
      (used (built_setting id) (word ∷ []) rows) idle tt (setting_ready rows id word known)))
  await_step unknown word words rows id known is shows open_more =
      turned_refused (open_walk (lone rows id) (option id)) word words (strange_refused (lone rows id)
      (option id) word refl is shows)

  walk_agrees : (words : List (List ℕ)) → AllText words → OpenAgrees words × AwaitAgrees words
  walk_agrees [] are = (
    λ h rows waiting rest r. (
      faults_none shape (open_walk h waiting) ∙ r.settles,
      subst (λ rs. Grown flags settings rows ([], []) rs) (sym r.rows_are) (grown_not flags settings rows),
    ),
    λ rows id known e. lone_refused id rows known
        (sym (faults_none shape (open_walk (lone rows id) (option id))) ∙ e),
  )
  walk_agrees (word ∷ words) are =
      let more = walk_agrees words are.1 in (
        λ h rows waiting rest r. open_step (class_of flags settings word) word words h rows waiting rest r
            are.0 (class_shows flags settings word) more.0 more.1,
        λ rows id known. await_step (class_of flags settings word) word words rows id known are.0
            (class_shows flags settings word) more.0,
      )

  -- a walk from nothing
  pub from_nothing : (words : List (List ℕ)) → AllText words
      → Agrees [] (read flags settings None words) (faults shape (walk_from nothing_held) words)
      (rows_then shape (walk_from nothing_held) words)
  from_nothing words are = (walk_agrees words are).0 nothing_held [] idle tt (ready_held [])
