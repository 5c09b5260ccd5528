-- What `clap` makes of the command of a line.
use Rattle.std.proofs.Common.{◌≡◌, ◌∙◌, ◌||◌, ℕ, Bool, cond, true, false, refl, sym, ap, List, [], ◌∷◌, ◌++◌}
use Rattle.std.proofs.Common.{map, Some, None, inl, inr}
use Rattle.std.specs.Prelude.{codes}
use Rattle.std.specs.Str.{bytes_eq}
use Rattle.std.proofs.lemmas.Bool.{cases_Bool, or_parts}
use Rattle.tv_lemmas.proofs.Texts.{same_text}
use Rattle.clap.specs.Walk.{Rule, arg_by_id, arg_by_index, arg_by_long, arg_by_short}
use Rattle.clap.specs.Simple.{App, Shape, built, filled, filled_from, new_shape, with_index}
use Rattle.tv_words.specs.Line.{is_among}
use Rattle.tv_words.specs.Setup.{line_app, operand_rule, flag_rule, setting_rule}

abbrev pub built_operand : Rule
built_operand = with_index 1 (filled operand_rule)

abbrev pub built_flag : List ℕ → Rule
built_flag name = filled (flag_rule name)

abbrev pub built_setting : List ℕ → Rule
built_setting name = filled (setting_rule name)

abbrev pub built_options : (flags settings : List (List ℕ)) → List Rule
built_options flags settings = map built_flag flags ++ map built_setting settings

abbrev pub built_rules : (flags settings : List (List ℕ)) → List Rule
built_rules flags settings = built_operand ∷ built_options flags settings

filled_settings : (i : ℕ) (settings : List (List ℕ)) → filled_from i (map setting_rule settings)
    ≡ map built_setting settings
filled_settings i [] = refl
filled_settings i (s ∷ ss) = ap (λ rs. built_setting s ∷ rs) (filled_settings i ss)

filled_options : (i : ℕ) (flags settings : List (List ℕ))
    → filled_from i (map flag_rule flags ++ map setting_rule settings) ≡ built_options flags settings
filled_options i [] settings = filled_settings i settings
filled_options i (f ∷ fs) settings = ap (λ rs. built_flag f ∷ rs) (filled_options i fs settings)

-- the command of a line, built
abbrev pub built_shape : List ℕ → (flags settings : List (List ℕ)) → Shape
built_shape name flags settings = record (new_shape name) {
  rules = built_rules flags settings;
  no_binary_name = true;
  disable_help_flag = true;
  disable_help_subcommand = true;
  is_built = true;
}

abbrev pub built_app : List ℕ → (flags settings : List (List ℕ)) → App
built_app name flags settings = record { top = built_shape name flags settings; subs = [] }

pub built_is : (name : List ℕ) (flags settings : List (List ℕ)) → built (line_app name flags settings)
    ≡ built_app name flags settings
built_is name flags settings = ap (λ rs. app_with name (built_operand ∷ rs)) (filled_options 2 flags settings)
  where
    app_with : List ℕ → List Rule → App
    app_with name rs = record {
      top = record (new_shape name) {
        rules = rs;
        no_binary_name = true;
        disable_help_flag =
            true;
        disable_help_subcommand = true;
        is_built = true;
      };
      subs = [];
    }

-- ---- the argument that a name or a place means

settings_by_long : (settings : List (List ℕ)) (name : List ℕ)
    → arg_by_long (map built_setting settings) name ≡ cond (is_among settings name)
    (Some (built_setting name)) None
settings_by_long [] name = refl
settings_by_long (s ∷ ss) name = elim (cases_Bool (bytes_eq s name)) [
  | inl e ↦ rw (e) (ap (λ n. Some (built_setting n)) (same_text s name e))
  | inr e ↦ rw (e) (settings_by_long ss name)
]

options_by_long : (flags settings : List (List ℕ)) (name : List ℕ)
    → arg_by_long (built_options flags settings) name
    ≡ cond (is_among flags name) (Some (built_flag name)) (cond (is_among settings name)
    (Some (built_setting name)) None)
options_by_long [] settings name = settings_by_long settings name
options_by_long (f ∷ fs) settings name = elim (cases_Bool (bytes_eq f name)) [
  | inl e ↦ rw (e) (ap (λ n. Some (built_flag n)) (same_text f name e))
  | inr e ↦ rw (e) (options_by_long fs settings name)
]

pub by_long : (flags settings : List (List ℕ)) (name : List ℕ) → arg_by_long (built_rules flags settings) name
    ≡ cond (is_among flags name) (Some (built_flag name)) (cond (is_among settings name)
    (Some (built_setting name)) None)
by_long flags settings name = options_by_long flags settings name

settings_by_short : (settings : List (List ℕ)) (x : ℕ) → arg_by_short (map built_setting settings) x ≡ None
settings_by_short [] x = refl
settings_by_short (s ∷ ss) x = settings_by_short ss x

pub by_short : (flags settings : List (List ℕ)) (x : ℕ) → arg_by_short (built_options flags settings) x ≡ None
by_short [] settings x = settings_by_short settings x
by_short (f ∷ fs) settings x = by_short fs settings x

setting_by_id : (settings : List (List ℕ)) (name : List ℕ) → is_among settings name ≡ true
    → arg_by_id (map built_setting settings) name ≡ Some (built_setting name)
setting_by_id [] name known = cc
setting_by_id (s ∷ ss) name known = elim (cases_Bool (bytes_eq s name)) [
  | inl e ↦ rw e (ap (λ n. Some (built_setting n)) (same_text s name e))
  | inr e ↦ rw e (setting_by_id ss name (or_right_of (bytes_eq s name) (is_among ss name) e known))
]
  where
    or_right_of : (a b : Bool) → a ≡ false → (a || b) ≡ true → b ≡ true
    or_right_of a b e h = ap (λ x. x || b) (sym e) ∙ h

option_by_id : (flags settings : List (List ℕ)) (name : List ℕ) → is_among flags name ≡ false
    → is_among settings name ≡ true
    → arg_by_id (built_options flags settings) name ≡ Some (built_setting name)
option_by_id [] settings name other known = setting_by_id settings name known
option_by_id (f ∷ fs) settings name other known =
    let parts = or_parts (bytes_eq f name) (is_among fs name) other in
    rw parts.0 (option_by_id fs settings name parts.1 known)

pub by_id : (flags settings : List (List ℕ)) (name : List ℕ) → bytes_eq (codes "operands") name ≡ false
    → is_among flags name ≡ false
    → is_among settings name ≡ true → arg_by_id (built_rules flags settings) name ≡ Some (built_setting name)
by_id flags settings name ne other known = rw ne (option_by_id flags settings name other known)

pub operands_by_id : (flags settings : List (List ℕ)) → arg_by_id (built_rules flags settings)
    (codes "operands") ≡ Some built_operand
operands_by_id flags settings = refl

pub operands_by_index : (flags settings : List (List ℕ)) → arg_by_index (built_rules flags settings) 1
    ≡ Some built_operand
operands_by_index flags settings = refl
