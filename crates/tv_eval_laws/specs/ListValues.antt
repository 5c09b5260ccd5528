-- A linked list of two cells or more, as a structure of its head and one summary for all others, and
-- the values of some formulas in it.
use Rattle.std.specs.Prelude.{ℕ, ◌≡◌, ◌==◌, List, [], ◌∷◌, None, if◌then◌else◌}
use Rattle.tv_kleene.specs.declared.K3.{K3}
use Rattle.tv_kleene.specs.declared.K3.TheVariants.{No, Half, Yes}
use Rattle.tv_model.specs.Form.{Form, FAtom, FSame, FOr, FClosure}
use Rattle.tv_model.specs.Truth.{Assignment}
use Rattle.tv_embedding_laws.specs.LogicalStructure.{LogicalStructure}
use Rattle.tv_eval_laws.specs.Value.{value}

-- the next cell of the head, or of one of the others, may be one of the others
abbrev pub next_value : List ℕ → K3
next_value [] = No
next_value (u ∷ []) = No
next_value (u ∷ w ∷ []) = if w == 1 then Half else No
next_value (u ∷ w ∷ x ∷ more) = No

-- the head is individual 0, and individual 1 stands for all others; predicate 0 is "next"
abbrev pub list_structure : LogicalStructure
list_structure = record {
  individuals = 0 ∷ 1 ∷ [];
  value = λ pred tuple. next_value tuple;
  is_summary = λ u. u == 1;
  fresh = None;
}

-- variable 1 stands for w, and each other for u
abbrev pub pair_of : ℕ → ℕ → Assignment
pair_of u w = λ v. if v == 1 then w else u

-- one step of "next" or more lead from variable 0 to variable 1
abbrev pub some_steps : Form
some_steps = FClosure 0 1 2 3 (FAtom 0 (2 ∷ 3 ∷ []))

-- any number of steps lead from variable 0 to variable 1
abbrev pub any_steps : Form
any_steps = FOr (FSame 0 1) some_steps

pub record ListValues : Type 0 where
  pub no_way_round : value list_structure (pair_of 0 0) some_steps ≡ No
  pub head_to_itself : value list_structure (pair_of 0 0) any_steps ≡ Yes
  pub head_to_others : value list_structure (pair_of 0 1) any_steps ≡ Half
  pub others_to_others : value list_structure (pair_of 1 1) any_steps ≡ Half
  pub others_to_head : value list_structure (pair_of 1 0) any_steps ≡ No
  pub one_head : value list_structure (pair_of 0 0) (FSame 0 1) ≡ Yes
  pub one_of_others : value list_structure (pair_of 1 1) (FSame 0 1) ≡ Half
