-- A parse of `clap` refuses exactly the words that are no line, and else tells what stands on it.
use Rattle.std.proofs.Common.{◌≡◌, ◌∙◌, ◌+◌, ◌&&◌, ℕ, Bool, cond, true, false, not, refl, sym, ap, ap₂, subst}
use Rattle.std.proofs.Common.{arith, List, [], ◌∷◌, ◌++◌, map, min, Option, Some, None}
use Rattle.std.specs.Prelude.{codes, fold, is_some}
use Rattle.std.specs.Prelude.{IfSome}
use Rattle.std.specs.List.{list_all, list_any}
use Rattle.std.proofs.lemmas.Bool.{and_from, and_parts, not-true, or_parts}
use Rattle.clap.specs.Matches.{found_of}
use Rattle.clap.specs.declared.parser.matches.ArgMatches.{ArgMatches}
use Rattle.clap.specs.Walk.{is_early_multiple, rows_of, rows_after, Row, Rule, Text, count_of, finished}
use Rattle.clap.specs.Walk.{nothing_held, settled, walk, walk_from, with_default}
use Rattle.clap.specs.Simple.{App, is_buildable, is_in_order, is_ready, is_ready_leaf, entered, matches_of}
use Rattle.clap.specs.Simple.{names_of}
use Rattle.clap.specs.Kinds.{Kinds, or_else}
use Rattle.clap.specs.Faults.{is_free_app, is_simple_and_free, built_fault, entered_fault, fault_of}
use Rattle.clap.specs.Faults.{level_fault, settle_fault, walk_fault}
use Rattle.tv_words.specs.Line.{is_among, IsLine}
use Rattle.tv_words.proofs.Reader.{Line, read}
use Rattle.tv_words.specs.Setup.{flag_rule, setting_rule, is_fit, line_app, Finds, HasLine, HasNoLine}
use Rattle.tv_words.proofs.Reading.{line_read, no_flag, read_said}
use Rattle.tv_words.proofs.Rows.{texts_of, no_default, zero_default, other_default}
use Rattle.tv_words.proofs.Shapes.{built_app, built_flag, built_operand, built_is, built_options, built_rules}
use Rattle.tv_words.proofs.Shapes.{built_setting, built_shape}
use Rattle.tv_words.proofs.Uses.{Grown, no_default_fault, no_check_fault}
use Rattle.tv_words.proofs.Walks.{Agrees, AllText, faults, from_nothing, rows_then}

-- ---- defaults change nothing that is told

settings_stay : (settings : List (List ℕ)) (rows : List Row) → fold with_default rows
    (map built_setting settings) ≡ rows
settings_stay [] rows = refl
settings_stay (s ∷ ss) rows = ap (λ rs. fold with_default rs (map built_setting ss))
    (no_default (built_setting s) refl rows) ∙ settings_stay ss rows

counts_stay : (flags settings : List (List ℕ)) (id : List ℕ) (rows : List Row)
    → count_of id (fold with_default rows (built_options flags settings)) ≡ count_of id rows
counts_stay [] settings id rows = ap (count_of id) (settings_stay settings rows)
counts_stay (f ∷ fs) settings id rows = counts_stay fs settings id (with_default rows (built_flag f))
    ∙ zero_default (built_flag f) refl id rows

texts_stay : (flags settings : List (List ℕ)) (id : List ℕ) (rows : List Row) → is_among flags id ≡ false
    → texts_of id (fold with_default rows (built_options flags settings)) ≡ texts_of id rows
texts_stay [] settings id rows out = ap (texts_of id) (settings_stay settings rows)
texts_stay (f ∷ fs) settings id rows out =
    let parts = or_parts _ _ out in
    texts_stay fs settings id (with_default rows (built_flag f)) parts.1
    ∙ other_default (built_flag f) id parts.0 rows

-- ---- the whole parse

or_nothing : (k : Kinds) → or_else k [] ≡ k
or_nothing [] = refl
or_nothing (x ∷ xs) = refl

module _ (name : List ℕ) (flags settings : List (List ℕ)) (fit : is_fit flags settings ≡ true) where
  abbrev rules : List Rule
  rules = built_rules flags settings

  enters_nothing : (stop : Option (Text × List Text)) → entered (built_app name flags settings) stop ≡ None
  enters_nothing None = refl
  enters_nothing (Some p) = refl

  no_fault_below : (stop : Option (Text × List Text)) → entered_fault (built_app name flags settings) stop
      ≡ []
  no_fault_below None = refl
  no_fault_below (Some p) = refl

  built_faults : (words : List (List ℕ)) → built_fault (built_app name flags settings) nothing_held words
      ≡ faults (built_shape name flags settings) (walk_from nothing_held) words
  built_faults words =
      let w = walk rules [] nothing_held words in
      let here = enters_nothing w.stopped in
      let below = no_fault_below w.stopped in
      let defaults = no_default_fault flags settings (settled rules w.held).rows in
      let checks = no_check_fault name flags settings (finished rules w.held) in
      ap₂ (λ e k. level_fault (built_shape name flags settings) [] nothing_held words (is_some e) k) here
      below
      ∙ ap₂ (λ d k. or_else (walk_fault (built_shape name flags settings) [] (walk_from nothing_held) words)
      (or_else (settle_fault rules false w.held) (or_else d k))) defaults checks
      ∙ ap (λ k. or_else (walk_fault (built_shape name flags settings) [] (walk_from nothing_held) words) k)
      (or_nothing (settle_fault rules false w.held))

  parse_faults : (words : List (List ℕ)) → fault_of (line_app name flags settings) words
      ≡ faults (built_shape name flags settings) (walk_from nothing_held) words
  parse_faults words = ap (λ a. built_fault a nothing_held words) (built_is name flags settings)
      ∙ built_faults words

  parse_rows : (words : List (List ℕ)) → matches_of (line_app name flags settings) words ≡ fold with_default
      (rows_then (built_shape name flags settings) (walk_from nothing_held) words) rules
  parse_rows words = ap (λ a. matches_in a words) (built_is name flags settings)
    where
      matches_in : App → List Text → List Row
      matches_in a words = rows_after a.top.rules (names_of a) words

  -- ---- what is found on a line

  -- what the rows tell is what stands on a line that grew them from nothing
  found : (line : Line) (rows : List Row) (matches : ArgMatches) → Grown flags settings [] line rows
      → rows_of (found_of matches) ≡ fold with_default rows rules
      → Finds flags settings matches line.0 line.1
  found line rows matches g is = record {
    operands = ap (λ rs. texts_of (codes "operands") rs) (is ∙ operands_first rows)
        ∙ texts_stay flags settings (codes "operands") rows
        (not-true _ (and_parts _ _ (and_parts _ _ fit).1).0) ∙ g.operands;
    uses = λ flag known. ap (λ n. min n 255) (ap (count_of flag) (is ∙ operands_first rows)
        ∙ counts_stay flags settings flag rows) ∙ g.uses flag known
        ∙ ap (λ n. min n 255) (omega arith);
    values = λ setting known. ap (λ rs. texts_of setting rs) (is ∙ operands_first rows)
        ∙ texts_stay flags settings setting rows (no_flag flags settings (and_parts _ _ fit).0 setting known)
        ∙ g.values setting known;
  }
    where
      operands_first : (rows : List Row) → fold with_default rows rules ≡ fold with_default rows
          (built_options flags settings)
      operands_first rows = ap (λ rs. fold with_default rs (built_options flags settings))
          (no_default built_operand refl rows)

  agrees : (words : List (List ℕ)) → AllText words → (found_line : Option Line)
      → read flags settings None words ≡ found_line
      → Agrees name flags settings fit [] found_line (fault_of (line_app name flags settings) words)
      (rows_then (built_shape name flags settings) (walk_from nothing_held) words)
  agrees words are found_line e =
      subst (λ o. Agrees name flags settings fit [] o (fault_of (line_app name flags settings) words)
      (rows_then (built_shape name flags settings) (walk_from nothing_held) words)) e
      (subst (λ k. Agrees name flags settings fit [] (read flags settings None words) k
      (rows_then (built_shape name flags settings) (walk_from nothing_held) words))
      (sym (parse_faults words)) (from_nothing name flags settings fit words are))

  -- a parse without a fault found the line
  pub line_found : (words : List (List ℕ)) → AllText words → (matches : ArgMatches)
      → fault_of (line_app name flags settings) words ≡ []
      → rows_of (found_of matches) ≡ matches_of (line_app name flags settings) words
      → HasLine flags settings words matches
  line_found words are matches none rows = go (read flags settings None words) refl
    where
      go : (o : Option Line) → read flags settings None words ≡ o → HasLine flags settings words matches
      go None e = absurd (agrees words are None e none)
      go (Some line) e = record {
        parts = line.0;
        behind = line.1;
        line = subst (λ o. IfSome o (λ l. IsLine flags settings l.0 l.1 words)) e
            (read_said flags settings words None);
        finds = found line _ matches (agrees words are (Some line) e).1 (rows ∙ parse_rows words);
      }

  -- a parse with a fault found none
  pub no_line_found : (words : List (List ℕ)) → AllText words → (kinds : Kinds)
      → fault_of (line_app name flags settings) words ≡ kinds
      → (kinds ≡ [] → ⊥) → HasNoLine flags settings words
  no_line_found words are kinds is some = λ parts behind line.
      some (sym is
      ∙ (agrees words are (Some (parts, behind)) (line_read flags settings (and_parts _ _ fit).0 parts
      behind words line)).0)

-- ---- the command is one of which `clap` tells all

settings_pass : (p : Rule → Bool) → ((name : List ℕ) → p (setting_rule name) ≡ true)
    → (settings : List (List ℕ)) → list_all p (map setting_rule settings) ≡ true
settings_pass p is [] = refl
settings_pass p is (s ∷ ss) = and_from _ _ (is s) (settings_pass p is ss)

options_pass : (p : Rule → Bool) → ((name : List ℕ) → p (flag_rule name) ≡ true)
    → ((name : List ℕ) → p (setting_rule name) ≡ true)
    → (flags settings : List (List ℕ)) → list_all p (map flag_rule flags ++ map setting_rule settings) ≡ true
options_pass p is also [] settings = settings_pass p also settings
options_pass p is also (f ∷ fs) settings = and_from _ _ (is f) (options_pass p is also fs settings)

built_settings_pass : (p : Rule → Bool) → ((name : List ℕ) → p (built_setting name) ≡ true)
    → (settings : List (List ℕ)) → list_all p (map built_setting settings) ≡ true
built_settings_pass p is [] = refl
built_settings_pass p is (s ∷ ss) = and_from _ _ (is s) (built_settings_pass p is ss)

built_options_pass : (p : Rule → Bool) → ((name : List ℕ) → p (built_flag name) ≡ true)
    → ((name : List ℕ) → p (built_setting name) ≡ true)
    → (flags settings : List (List ℕ)) → list_all p (built_options flags settings) ≡ true
built_options_pass p is also [] settings = built_settings_pass p also settings
built_options_pass p is also (f ∷ fs) settings =
    and_from _ _ (is f) (built_options_pass p is also fs settings)

-- places counted on from n
abbrev placed_from : ℕ → List Rule → ℕ
placed_from n rules = fold (λ a r. a + cond (is_some r.index) 1 0) n rules

settings_unplaced : (settings : List (List ℕ)) (n : ℕ) → placed_from n (map built_setting settings) ≡ n
settings_unplaced [] n = refl
settings_unplaced (s ∷ ss) n = settings_unplaced ss (n + 0) ∙ omega arith

options_unplaced : (flags settings : List (List ℕ)) (n : ℕ) → placed_from n (built_options flags settings) ≡ n
options_unplaced [] settings n = settings_unplaced settings n
options_unplaced (f ∷ fs) settings n = options_unplaced fs settings (n + 0) ∙ omega arith

settings_late : (n : ℕ) (settings : List (List ℕ)) → list_any (is_early_multiple n)
    (map built_setting settings) ≡ false
settings_late n [] = refl
settings_late n (s ∷ ss) = settings_late n ss

options_late : (n : ℕ) (flags settings : List (List ℕ)) → list_any (is_early_multiple n)
    (built_options flags settings) ≡ false
options_late n [] settings = settings_late n settings
options_late n (f ∷ fs) settings = options_late n fs settings

in_order : (flags settings : List (List ℕ)) → is_in_order (built_rules flags settings) ≡ true
in_order flags settings =
    ap (λ n. not (list_any (is_early_multiple n) (built_rules flags settings)))
    (options_unplaced flags settings 1)
    ∙ ap not (options_late 1 flags settings)

-- what is asked of the command before and after it is built
abbrev asked : App → App → Bool
asked a b = (is_buildable a && (is_ready b.top && list_all is_ready_leaf b.subs)) && is_free_app b

pub told_of_all : (name : List ℕ) (flags settings : List (List ℕ))
    → is_simple_and_free (line_app name flags settings) ≡ true
told_of_all name flags settings =
    let plain = options_pass (λ a. a.is_simple) (λ n. refl) (λ n. refl) flags settings in
    let built_plain = built_options_pass (λ a. a.is_simple) (λ n. refl) (λ n. refl) flags settings in
    let free = built_options_pass (λ a. a.is_free) (λ n. refl) (λ n. refl) flags settings in
    ap (asked (line_app name flags settings)) (built_is name flags settings)
    ∙ and_from _ _ (and_from _ _ (and_from _ _ plain refl)
    (and_from _ _ (and_from _ _ built_plain (in_order flags settings)) refl)) (and_from _ _ free refl)
