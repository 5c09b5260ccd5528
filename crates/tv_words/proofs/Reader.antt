-- Lines, read word by word.
use Rattle.std.proofs.Common.{◌≡◌, ◌∙◌, ◌==◌, ◌⊎◌, ℕ, cond, true, false, zero, suc, refl, sym, ap, subst}
use Rattle.std.proofs.Common.{arith, List, [], ◌∷◌, ◌++◌, Option, Some, None, inl, inr}
use Rattle.std.specs.Prelude.{codes, slice_get, option_and_then}
use Rattle.std.specs.Str.{bytes_eq, IsUtf8}
use Rattle.std.specs.Str.{chars, encode_utf8_all as encodes}
use lib.Utf8.{encode}
use Rattle.std.proofs.lemmas.Str.{encodes-chars}
use Rattle.clap.proofs.CutLemmas.{Lacks}
use Rattle.clap.proofs.LexerLemmas.{name_and_value-at, name_and_value-without}
use Rattle.std.proofs.lemmas.Bool.{cases_eq, cases_Bool, eqb-true, not_from_false, not-true}
use Rattle.clap.specs.Lexer.{long_of, long_of_rest, name_and_value, short_of, short_of_rest, strip_byte}
use Rattle.tv_words.specs.Line.{Part, Operand, Flag, Setting, is_operand, dashed, assigned as assigned_word}
use Rattle.tv_words.specs.Line.{is_among}

-- what a word is where no value is awaited
pub data Class : Type 0 where
  dashes : Class
  flag : List ℕ → Class
  setting : List ℕ → Class
  assigned : (name value : List ℕ) → Class
  plain : Class
  unknown : Class

abbrev pub flag_class : List ℕ → Option (List ℕ) → Class
flag_class name None = flag name
flag_class name (Some value) = unknown

abbrev pub setting_class : List ℕ → Option (List ℕ) → Class
setting_class name None = setting name
setting_class name (Some value) = assigned name value

abbrev pub named_class : (flags settings : List (List ℕ)) → List ℕ → Option (List ℕ) → Class
named_class flags settings name value = cond (is_among flags name) (flag_class name value)
    (cond (is_among settings name) (setting_class name value) unknown)

abbrev pub short_class : Option (List ℕ) → Class
short_class None = plain
short_class (Some rest) = unknown

abbrev pub long_class : (flags settings : List (List ℕ)) → Option (List ℕ × Option (List ℕ)) → List ℕ → Class
long_class flags settings None word = short_class (short_of word)
long_class flags settings (Some p) word = named_class flags settings p.0 p.1

abbrev pub class_of : (flags settings : List (List ℕ)) → List ℕ → Class
class_of flags settings word =
    cond (bytes_eq word (codes "--")) dashes (long_class flags settings (long_of word) word)

-- a line that was read: its parts, and what stands behind `--`
abbrev pub Line : Type 0
Line = List Part × List (List ℕ)

abbrev pub with_part : Part → Option Line → Option Line
with_part part None = None
with_part part (Some line) = Some (part ∷ line.0, line.1)

-- the step at a word of this class, where none awaits a value
abbrev pub step_open : Class → (word : List ℕ) → (words : List (List ℕ)) → (after : Option Line)
    → (await : List ℕ → Option Line) → Option Line
step_open dashes word words after await = Some ([], words)
step_open (flag name) word words after await = with_part (Flag name) after
step_open (setting name) word words after await = await name
step_open (assigned name value) word words after await = with_part (Setting name value) after
step_open plain word words after await = with_part (Operand word) after
step_open unknown word words after await = None

-- the step at a word of this class, where the setting awaits its value
abbrev pub step_await : Class → (name word : List ℕ) → (after : Option Line) → Option Line
step_await plain name word after = with_part (Setting name word) after
step_await _ name word after = None

abbrev pub step : Option (List ℕ) → Class → (word : List ℕ) → (words : List (List ℕ))
    → (next : Option (List ℕ) → Option Line) → Option Line
step None class word words next = step_open class word words (next None) (λ name. next (Some name))
step (Some name) class word words next = step_await class name word (next None)

abbrev pub ended : Option (List ℕ) → Option Line
ended None = Some ([], [])
ended (Some name) = None

-- the line that the words are, where this setting awaits its value
abbrev pub read : (flags settings : List (List ℕ)) → Option (List ℕ) → List (List ℕ) → Option Line
read flags settings awaited [] = ended awaited
read flags settings awaited (word ∷ words) =
    step awaited (class_of flags settings word) word words (λ next. read flags settings next words)

-- ---- what a class tells of its word

-- the text has no `=`, or it is parted at its first one
abbrev pub Cut : List ℕ → Type 0
Cut text = Lacks 61 text ⊎ ((name value : List ℕ) × (text ≡ name ++ 61 ∷ value) × Lacks 61 name)

lacks_nothing : Lacks 61 []
lacks_nothing i lt = absurd (omega arith)

lacks_more : (x : ℕ) (xs : List ℕ) → (x ≡ 61 → ⊥) → Lacks 61 xs → Lacks 61 (x ∷ xs)
lacks_more x xs ne h zero lt = ne
lacks_more x xs ne h (suc i) lt = h i (omega arith)

cut_more : (x : ℕ) (text : List ℕ) → (x ≡ 61 → ⊥) → Cut text → Cut (x ∷ text)
cut_more x text ne (inl h) = inl (lacks_more x text ne h)
cut_more x text ne (inr (name, value, e, h)) =
    inr (x ∷ name, value, ap (λ t. x ∷ t) e, lacks_more x name ne h)

pub cut : (text : List ℕ) → Cut text
cut [] = inl lacks_nothing
cut (x ∷ text) = elim (cases_eq x 61) [
  | inl e ↦ inr ([], text, ap (λ y. y ∷ text) e, lacks_nothing)
  | inr ne ↦ cut_more x text ne (cut text)
]

-- ---- operands

without_hyphen : (x : ℕ) (rest : List ℕ) → (x == 45) ≡ false → strip_byte 45 (x ∷ rest) ≡ None
without_hyphen x rest e = rw e refl

no_option : (flags settings : List (List ℕ)) (x : ℕ) (rest : List ℕ) → (x == 45) ≡ false
    → class_of flags settings (x ∷ rest) ≡ plain
no_option flags settings x rest e =
    let none = without_hyphen x rest e in
    let same : bytes_eq (x ∷ rest) (codes "--") ≡ false = rw e refl in
    let long : long_of (x ∷ rest) ≡ None =
    ap (λ o. option_and_then long_of_rest (option_and_then (strip_byte 45) o)) none in
    let short : short_of (x ∷ rest) ≡ None = ap (option_and_then short_of_rest) none in
    ap (λ b. cond b dashes (long_class flags settings (long_of (x ∷ rest)) (x ∷ rest))) same
    ∙ ap (λ o. long_class flags settings o (x ∷ rest)) long ∙ ap short_class short

one_hyphen : (flags settings : List (List ℕ)) (y : ℕ) (rest : List ℕ) → (y == 45) ≡ false
    → class_of flags settings (45 ∷ y ∷ rest) ≡ unknown
one_hyphen flags settings y rest e =
    let same : bytes_eq (45 ∷ y ∷ rest) (codes "--") ≡ false = rw e refl in
    let long : long_of (45 ∷ y ∷ rest) ≡ None = ap (option_and_then long_of_rest) (without_hyphen y rest e) in
    let short : short_of (45 ∷ y ∷ rest) ≡ Some (y ∷ rest) = rw e refl in
    ap (λ b. cond b dashes (long_class flags settings (long_of (45 ∷ y ∷ rest)) (45 ∷ y ∷ rest))) same
    ∙ ap (λ o. long_class flags settings o (45 ∷ y ∷ rest)) long ∙ ap short_class short

pub class_plain : (flags settings : List (List ℕ)) (word : List ℕ) → is_operand word ≡ true
    → class_of flags settings word ≡ plain
class_plain flags settings [] is = refl
class_plain flags settings (x ∷ []) is = elim (cases_Bool (x == 45)) [
  | inl e ↦ ap (λ z. class_of flags settings (z ∷ [])) (eqb-true x 45 e)
  | inr e ↦ no_option flags settings x [] e
]
class_plain flags settings (x ∷ y ∷ rest) is = no_option flags settings x (y ∷ rest) (not-true (x == 45) is)

-- an option's name, and what follows it in its word
abbrev pub named_word : List ℕ → Option (List ℕ) → List ℕ
named_word name None = dashed name
named_word name (Some value) = assigned_word name value

module _ (flags settings : List (List ℕ)) where
  abbrev pub Tells : Class → List ℕ → Type 0
  Tells dashes word = word ≡ codes "--"
  Tells (flag name) word = (is_among flags name ≡ true) × (word ≡ dashed name)
  Tells (setting name) word = (is_among settings name ≡ true) × (word ≡ dashed name)
  Tells (assigned name value) word = (is_among settings name ≡ true) × (word ≡ assigned_word name value)
  Tells plain word = is_operand word ≡ true
  Tells unknown word = Unit {0}

  flag_tells : (name : List ℕ) (value : Option (List ℕ)) → is_among flags name ≡ true
      → Tells (flag_class name value) (named_word name value)
  flag_tells name None known = (known, refl)
  flag_tells name (Some value) known = tt

  setting_tells : (name : List ℕ) (value : Option (List ℕ)) → is_among settings name ≡ true
      → Tells (setting_class name value) (named_word name value)
  setting_tells name None known = (known, refl)
  setting_tells name (Some value) known = (known, refl)

  named_tells : (name : List ℕ) (value : Option (List ℕ)) → Tells (named_class flags settings name value)
      (named_word name value)
  named_tells name value = elim (cases_Bool (is_among flags name)) [
    | inl e ↦ rw e (flag_tells name value e)
    | inr e ↦ rw e (elim (cases_Bool (is_among settings name)) [
      | inl f ↦ rw f (setting_tells name value f)
      | inr f ↦ rw f tt
    ])
  ]

  -- a word that begins with two hyphens and isn't these alone
  long_tells : (x : ℕ) (xs : List ℕ) → Cut (x ∷ xs) → Tells (class_of flags settings (45 ∷ 45 ∷ x ∷ xs))
      (45 ∷ 45 ∷ x ∷ xs)
  long_tells x xs c = at (x ∷ xs) c
    where
      at : (text : List ℕ) → Cut text → Tells (named_class flags settings (name_and_value text).0
          (name_and_value text).1) (45 ∷ 45 ∷ text)
      at text (inl h) = subst (λ p. Tells (named_class flags settings p.0 p.1) (45 ∷ 45 ∷ text))
          (sym (name_and_value-without text h)) (named_tells text None)
      at text (inr (name, value, e, h)) =
          subst (λ t. Tells (named_class flags settings (name_and_value t).0 (name_and_value t).1)
          (45 ∷ 45 ∷ t)) (sym e)
          (subst (λ p. Tells (named_class flags settings p.0 p.1) (45 ∷ 45 ∷ (name ++ 61 ∷ value)))
          (sym (name_and_value-at name value h)) (named_tells name (Some value)))

  dashed_tells : (rest : List ℕ) → Tells (class_of flags settings (45 ∷ 45 ∷ rest)) (45 ∷ 45 ∷ rest)
  dashed_tells [] = refl
  dashed_tells (x ∷ xs) = long_tells x xs (cut (x ∷ xs))

  hyphen_tells : (y : ℕ) (rest : List ℕ) → Tells (class_of flags settings (45 ∷ y ∷ rest)) (45 ∷ y ∷ rest)
  hyphen_tells y rest = elim (cases_Bool (y == 45)) [
    | inl e ↦ subst (λ x. Tells (class_of flags settings (45 ∷ x ∷ rest)) (45 ∷ x ∷ rest))
        (sym (eqb-true y 45 e)) (dashed_tells rest)
    | inr e ↦ subst (λ c. Tells c (45 ∷ y ∷ rest)) (sym (one_hyphen flags settings y rest e)) tt
  ]

  pub class_tells : (word : List ℕ) → Tells (class_of flags settings word) word
  class_tells [] = refl
  class_tells (x ∷ []) = subst (λ c. Tells c (x ∷ [])) (sym (class_plain flags settings (x ∷ []) refl)) refl
  class_tells (x ∷ y ∷ rest) = elim (cases_Bool (x == 45)) [
    | inl e ↦ subst (λ z. Tells (class_of flags settings (z ∷ y ∷ rest)) (z ∷ y ∷ rest))
        (sym (eqb-true x 45 e)) (hyphen_tells y rest)
    | inr e ↦ let is : is_operand (x ∷ y ∷ rest) ≡ true = not_from_false (x == 45) e in
        subst (λ c. Tells c (x ∷ y ∷ rest)) (sym (class_plain flags settings (x ∷ y ∷ rest) is)) is
  ]

-- ---- what a class shows of the parts of its word

module _ (flags settings : List (List ℕ)) where
  -- a word that begins with a hyphen and is no option: one hyphen; a flag with a value; an unknown name
  abbrev pub IsStrange : List ℕ → Type 0
  IsStrange word = ((long_of word ≡ None) × ((rest : List ℕ) × (short_of word ≡ Some rest)))
      ⊎ (((name value : List ℕ) × (long_of word ≡ Some (name, Some value)) × (is_among flags name ≡ true))
      ⊎ ((name : List ℕ) × (value : Option (List ℕ)) × (long_of word ≡ Some (name, value))
      × (is_among flags name ≡ false) × (is_among settings name ≡ false)))

  abbrev pub Shows : Class → List ℕ → Type 0
  Shows dashes word = bytes_eq word (codes "--") ≡ true
  Shows (flag name) word = (bytes_eq word (codes "--") ≡ false) × (long_of word ≡ Some (name, None))
      × (is_among flags name ≡ true)
  Shows (setting name) word = (bytes_eq word (codes "--") ≡ false) × (long_of word ≡ Some (name, None))
      × (is_among flags name ≡ false) × (is_among settings name ≡ true)
  Shows (assigned name value) word =
      (bytes_eq word (codes "--") ≡ false) × (long_of word ≡ Some (name, Some value))
      × (is_among flags name ≡ false) × (is_among settings name ≡ true)
  Shows plain word = (bytes_eq word (codes "--") ≡ false) × (long_of word ≡ None) × (short_of word ≡ None)
  Shows unknown word = (bytes_eq word (codes "--") ≡ false) × IsStrange word

  flag_shows : (word name : List ℕ) (value : Option (List ℕ)) → bytes_eq word (codes "--") ≡ false
      → long_of word ≡ Some (name, value)
      → is_among flags name ≡ true → Shows (flag_class name value) word
  flag_shows word name None b l f = (b, l, f)
  flag_shows word name (Some value) b l f = (b, inr (inl (name, value, l, f)))

  setting_shows : (word name : List ℕ) (value : Option (List ℕ)) → bytes_eq word (codes "--") ≡ false
      → long_of word ≡ Some (name, value)
      → is_among flags name ≡ false → is_among settings name ≡ true → Shows (setting_class name value) word
  setting_shows word name None b l f s = (b, l, f, s)
  setting_shows word name (Some value) b l f s = (b, l, f, s)

  long_shows : (word : List ℕ) (l : Option (List ℕ × Option (List ℕ))) → bytes_eq word (codes "--") ≡ false
      → long_of word ≡ l
      → Shows (long_class flags settings l word) word
  long_shows word None b l = go (short_of word) refl
    where
      go : (o : Option (List ℕ)) → short_of word ≡ o → Shows (short_class o) word
      go None e = (b, l, e)
      go (Some rest) e = (b, inl (l, (rest, e)))
  long_shows word (Some p) b l = elim (cases_Bool (is_among flags p.0)) [
    | inl e ↦ rw e (flag_shows word p.0 p.1 b l e)
    | inr e ↦ rw e (elim (cases_Bool (is_among settings p.0)) [
      | inl f ↦ rw f (setting_shows word p.0 p.1 b l e f)
      | inr f ↦ rw f (b, inr (inr (p.0, p.1, l, e, f)))
    ])
  ]

  pub class_shows : (word : List ℕ) → Shows (class_of flags settings word) word
  class_shows word = elim (cases_Bool (bytes_eq word (codes "--"))) [
    | inl e ↦ rw e e
    | inr e ↦ rw e (long_shows word (long_of word) e refl)
  ]

-- ---- what follows a hyphen has a character

chars_behind : (x : ℕ) (xs : List ℕ) → chars (45 ∷ x ∷ xs) ≡ 45 ∷ chars (x ∷ xs)
unfolding chars
chars_behind x xs = refl

pub char_behind : (x : ℕ) (xs : List ℕ) → IsUtf8 (45 ∷ x ∷ xs)
    → (c : ℕ) × (slice_get (chars (x ∷ xs)) 0 ≡ Some c)
unfolding encode
char_behind x xs is = go (chars (x ∷ xs)) refl
  where
    go : (cs : List ℕ) → chars (x ∷ xs) ≡ cs → (c : ℕ) × (slice_get cs 0 ≡ Some c)
    go [] e =
        let same : encodes (45 ∷ []) ≡ 45 ∷ x ∷ xs =
        ap encodes (sym (chars_behind x xs ∙ ap (λ cs. 45 ∷ cs) e)) ∙ encodes-chars (45 ∷ x ∷ xs) is in
        let more : 45 ∷ [] ≡ 45 ∷ x ∷ xs = same in
        absurd (cc)
    go (c ∷ cs) e = (c, refl)
