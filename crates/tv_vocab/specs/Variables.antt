-- The variables of an item: how many there are, and that there are too many exactly where they are over 32.
use Rattle.std.specs.Prelude.{ℕ, ◌≡◌, ◌+◌, ◌<◌, ◌≤◌, Bool, false, not, List, [], ◌∷◌, ◌++◌, length, filter}
use Rattle.std.specs.Prelude.{Option, Some, None, Ok, Err, if◌then◌else◌}
use Rattle.std.specs.List.{flat_map, list_all}
use Rattle.tv_tree.specs.Forms as tree
use Rattle.tv_tree.specs.Forms.{PieceForm}
use Rattle.tv_tree.specs.Names.{is_among}
use Rattle.tv_model.specs.Program.{PredForm}
use Rattle.tv_model.specs.Program as model
use Rattle.tv_names.specs.declared.refusal.ResolveError.TheVariants.{TooManyVariables}
use Rattle.tv_names.specs.Refusal.{OrRefused}
use Rattle.tv_names.specs.Symbols.{SymbolForm, KnownForm}
use Rattle.tv_names.specs.Numbers.{Sight, OfName, OfPair, sights, first_sights, variables_of}
use Rattle.tv_vocab.specs.Vocabulary.{definition, rule}
use Rattle.tv_vocab.specs.Actions.{PickingForm, focused, precondition, message, retain, update_of_pred}

-- ---- names that stand free

abbrev pub without_names : List (List ℕ) → List (List ℕ) → List (List ℕ)
without_names names xs = filter (λ x. not (is_among names x)) xs

-- the names of the variables that stand free in a formula, in reading order
abbrev pub free_names : tree.Form → List (List ℕ)
free_names tree.FZero = []
free_names tree.FOne = []
free_names tree.FHalf = []
free_names (tree.FSame v w) = v ∷ w ∷ []
free_names (tree.FDiffer v w) = v ∷ w ∷ []
free_names (tree.FAtom name arguments) = arguments
free_names (tree.FStar name v w) = v ∷ w ∷ []
free_names (tree.FPlus name v w) = v ∷ w ∷ []
free_names (tree.FParen f) = free_names f
free_names (tree.FNot f) = free_names f
free_names (tree.FAnd f g) = free_names f ++ free_names g
free_names (tree.FOr f g) = free_names f ++ free_names g
free_names (tree.FImp f g) = free_names f ++ free_names g
free_names (tree.FIff f g) = free_names f ++ free_names g
free_names (tree.FCond f g h) = free_names f ++ (free_names g ++ free_names h)
free_names (tree.FExists names f) = without_names names (free_names f)
free_names (tree.FForall names f) = without_names names (free_names f)
free_names (tree.FTc from to left right f) = from ∷ to ∷ without_names (left ∷ right ∷ []) (free_names f)

-- the names of the variables that a step picks: those that stand free in its precondition
abbrev pub picked_names : Option tree.Form → List (List ℕ)
picked_names None = []
picked_names (Some f) = free_names f

-- ---- how many variables

abbrev pub is_known : List (List ℕ) → Sight → Bool
is_known names (OfName name) = is_among names name
is_known names OfPair = false

-- how many variables stand there beside those of these names: each name counts once, and so do the two that
-- all `p*` and `p+` share
abbrev pub further_variables : List (List ℕ) → List Sight → ℕ
further_variables names xs = length (flat_map variables_of (first_sights (is_known names) xs))

-- The variables of an item: those that a step picks, the own ones of a definition or an update, and those of
-- its formulas. An own variable counts for itself where it has the name of a picked one.
abbrev pub variable_count : (picks : ℕ) → (picked own : List (List ℕ)) → List Sight → ℕ
variable_count picks picked own xs = picks + length own + further_variables (picked ++ own) xs

-- a retain formula has one variable more for the individual, where no name but picked ones stands free
abbrev pub one_more : (picked : List (List ℕ)) → tree.Form → ℕ
one_more picked f = if list_all (is_among picked) (free_names f) then 1 else 0

-- ---- 32 variables

-- so many variables are given numbers only where there are at most 32, and are too many only where there are
-- more
abbrev pub HasRoom : {A : Type 0} → ℕ → OrRefused A → Type 0
HasRoom n (Ok x) = n ≤ 32
HasRoom n (Err e) = e ≡ TooManyVariables → 32 < n

pub record ItemsHave32Variables : Type 0 where
  pub definitions : (symbols : List SymbolForm) (params : List (List ℕ)) (body : tree.Form) →
      HasRoom (variable_count 0 [] params (sights body)) (definition symbols params body)
  pub rules : (symbols : List SymbolForm) (body head : tree.Form) →
      HasRoom (variable_count 0 [] [] (sights body ++ sights head)) (rule symbols body head)
  pub focus : (symbols : List SymbolForm) (fs : List tree.Form) →
      HasRoom (variable_count 0 [] [] (flat_map sights fs)) (focused symbols fs)
  pub preconditions : (symbols : List SymbolForm) (f : tree.Form) →
      HasRoom (variable_count 0 [] [] (sights f)) (precondition symbols (Some f))
  pub messages : (symbols : List SymbolForm) (f : tree.Form) (pieces : List PieceForm) →
      HasRoom (variable_count 0 [] [] (sights f)) (message symbols f pieces)
  pub retained : (symbols : List SymbolForm) (fresh : Bool) (pre : Option tree.Form) (picking : PickingForm)
      (f : tree.Form) → precondition symbols pre ≡ Ok picking →
      HasRoom
      (variable_count (length picking.picks) (picked_names pre) [] (sights f) + one_more (picked_names pre) f)
      (retain symbols fresh picking (Some f))
  pub updates : (symbols : List SymbolForm) (preds : List PredForm) (fresh : Bool) (pre : Option tree.Form)
      (picking : PickingForm) (done : List model.UpdateForm) (known : KnownForm) (params : List (List ℕ))
      (body : tree.Form) → precondition symbols pre ≡ Ok picking →
      HasRoom (variable_count (length picking.picks) (picked_names pre) params (sights body))
      (update_of_pred symbols preds fresh picking done known params body)
