-- Names that a quantifier binds, one after the other.
use Rattle.std.specs.Prelude.{ℕ, List, [], ◌∷◌, ◌++◌, Ok}
use Rattle.tv_tree.specs.Names.{is_among}
use Rattle.tv_model.specs.Form.{Form}
use Rattle.tv_names.specs.declared.refusal.ResolveError.TheVariants.{NameTwice}
use Rattle.tv_names.specs.declared.binding.Bound.{Bound}
use Rattle.tv_names.specs.Refusal.{◌>>=◌, OrRefused, refused_if, one_by_one}
use Rattle.tv_names.specs.Naming.{NamingForm, sighted}
use Rattle.tv_names.specs.Copies.{place_form}
use Rattle.tv_names.specs.Resolving.{PlaceForm, Numbered, under}

-- the names so far, their variables, the place under their quantifiers, and the numbers
pub record BoundForm : Type 0 where
  pub place : PlaceForm
  pub earlier : List (List ℕ)
  pub vars : List ℕ
  pub numbers : NamingForm

abbrev pub bound_form : Bound → List (List ℕ) → NamingForm → BoundForm
bound_form bound names s =
    record { place = place_form bound.place; earlier = names; vars = bound.vars.items; numbers = s }

abbrev pub begun : PlaceForm → NamingForm → BoundForm
begun at s = record { place = at; earlier = []; vars = []; numbers = s }

-- one name more
abbrev pub bind : BoundForm → List ℕ → OrRefused BoundForm
bind x name = do
  new ← refused_if (is_among x.earlier name) NameTwice
  v ← sighted name x.numbers
  Ok
      (record {
        place = under x.place v.0;
        earlier = x.earlier ++ name ∷ [];
        vars = x.vars ++ v.0 ∷ [];
        numbers = v.1;
      })

-- a formula under quantifiers over these variables, of which the first stands outermost
abbrev pub over_all : (ℕ → Form → Form) → List ℕ → Form → Form
over_all quantifier [] f = f
over_all quantifier (v ∷ vars) f = quantifier v (over_all quantifier vars f)

-- the body at the place under all, and then the quantifiers over it
abbrev pub body_under : (ℕ → Form → Form) → (PlaceForm → NamingForm → Numbered Form) → BoundForm
    → Numbered Form
body_under quantifier body x = body x.place x.numbers >>= λ f. Ok (over_all quantifier x.vars f.0, f.1)

-- first all names, then the body
abbrev pub quantified_in_turn : (ℕ → Form → Form) → (PlaceForm → NamingForm → Numbered Form) → PlaceForm
    → List (List ℕ) → NamingForm → Numbered Form
quantified_in_turn quantifier body at names s =
    one_by_one bind (begun at s) names >>= body_under quantifier body
