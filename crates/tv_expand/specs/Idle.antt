-- Foreach that needn't be gone through for each member: they give nothing, or the same nothing for each.
use Rattle.std.specs.Prelude.{ℕ, ◌+◌, Bool, true, false, not, ◌&&◌, ◌||◌, List, [], ◌∷◌, Option, Some, None}
use Rattle.std.specs.Prelude.{is_some, length}
use Rattle.tv_tree.specs.declared.trees.SetSign.{SetSign}
use Rattle.tv_tree.specs.declared.trees.SetSign.TheVariants as sign
use Rattle.tv_tree.specs.Forms.{SetForm, SNamed, SMembers, SParen, SPlus, SMinus, Nest, Single, Foreach}
use Rattle.tv_tree.specs.Forms.{Nests, no_nest, with_nest}
use Rattle.tv_tree.specs.Names.{is_among}
use Rattle.tv_expand.specs.Sets.{Sets, find_set}
use Rattle.tv_expand.specs.Expansion.{Declared, Block}

-- whether each set that an expression names is declared
abbrev pub is_declared_set : Sets → SetForm → Bool
is_declared_set sets (SNamed name) = is_some (find_set sets name)
is_declared_set sets (SMembers xs) = true
is_declared_set sets (SParen s) = is_declared_set sets s
is_declared_set sets (SPlus s t) = is_declared_set sets s && is_declared_set sets t
is_declared_set sets (SMinus s t) = is_declared_set sets s && is_declared_set sets t

abbrev pub is_none : List (List ℕ) → Bool
is_none [] = true
is_none (x ∷ xs) = false

abbrev pub is_known_empty : Option (List (List ℕ)) → Bool
is_known_empty None = false
is_known_empty (Some xs) = is_none xs

-- whether an expression surely has no members, whatever is put in for words
abbrev pub is_empty_set : Sets → SetForm → Bool
is_empty_set sets (SNamed name) = is_known_empty (find_set sets name)
is_empty_set sets (SMembers xs) = is_none xs
is_empty_set sets (SParen s) = is_empty_set sets s
is_empty_set sets (SPlus s t) = is_empty_set sets s && is_empty_set sets t
is_empty_set sets (SMinus s t) = is_empty_set sets s && is_declared_set sets t

-- whether nothing comes in by a further set of an expression
abbrev pub is_empty_step : Sets → SetSign × SetForm → Bool
is_empty_step sets (sign.Plus, s) = is_empty_set sets s
is_empty_step sets (sign.Minus, s) = is_declared_set sets s

-- Bodies that give nothing: only foreach stands in them, over sets that surely have no members, or over
-- declared sets and with bodies that give nothing. They leave each state as it is, whatever is put in for
-- words.
abbrev mutual
  pub is_idle_nest : {X : Type 0} → Sets → Nest X → Bool
  is_idle_nest sets (Single x) = false
  is_idle_nest sets (Foreach var members body) =
      is_empty_set sets members || (is_declared_set sets members && is_idle sets body)

  pub is_idle : {X : Type 0} → Sets → Nests X → Bool
  is_idle sets no_nest = true
  is_idle sets (with_nest d ds) = is_idle_nest sets d && is_idle sets ds

-- whether a word stands nowhere in the braces of an expression
abbrev pub is_apart_set : List ℕ → SetForm → Bool
is_apart_set word (SNamed name) = true
is_apart_set word (SMembers xs) = not (is_among xs word)
is_apart_set word (SParen s) = is_apart_set word s
is_apart_set word (SPlus s t) = is_apart_set word s && is_apart_set word t
is_apart_set word (SMinus s t) = is_apart_set word s && is_apart_set word t

-- Whether a word stands nowhere in the sets of the foreach in a body. How often its parts are gone through is
-- then the same whatever is put in for the word.
abbrev mutual
  pub is_apart_nest : {X : Type 0} → List ℕ → Nest X → Bool
  is_apart_nest word (Single x) = true
  is_apart_nest word (Foreach var members body) = is_apart_set word members && is_apart word body

  pub is_apart : {X : Type 0} → List ℕ → Nests X → Bool
  is_apart word no_nest = true
  is_apart word (with_nest d ds) = is_apart_nest word d && is_apart word ds

-- how much is declared, and how many updates a block has
abbrev pub declared_count : Declared → ℕ
declared_count d = length d.sets + length d.preds + length d.rules

abbrev pub update_count : Block → ℕ
update_count s = length s.updates
