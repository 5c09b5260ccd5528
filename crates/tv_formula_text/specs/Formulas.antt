-- Formulas as they are written.
use Rattle.std.specs.Prelude.{ℕ, ◌+◌, ◌==◌, ◌&&◌, List, [], ◌∷◌, ◌++◌, Option, None, Some, is_some, nat_le}
use Rattle.std.specs.Prelude.{slice_get, if◌then◌else◌, codes, decimal}
use Rattle.tv_model.specs.Form.{Form, FZero, FOne, FAtom, FIsNew, FSame, FNot, FAnd, FOr, FIff, FCond}
use Rattle.tv_model.specs.Form.{FExists, FForall, FClosure}
use Rattle.tv_model.specs.Program.{PredForm}

-- v, v_1, v_2 and so on
abbrev pub variable_text : ℕ → List ℕ
variable_text v = if v == 0 then codes "v" else codes "v_" ++ decimal v

-- variables with commas between them
abbrev pub listed_text : List ℕ → List ℕ
listed_text [] = []
listed_text (v ∷ []) = variable_text v
listed_text (v ∷ w ∷ vars) = variable_text v ++ (codes ", " ++ listed_text (w ∷ vars))

abbrev pub terms_text : List ℕ → List ℕ
terms_text vars = codes "(" ++ (listed_text vars ++ codes ")")

abbrev pub equality_text : (mark : List ℕ) → (v w : ℕ) → List ℕ
equality_text mark v w = variable_text v ++ (mark ++ variable_text w)

abbrev pub name_of : Option PredForm → List ℕ
name_of None = []
name_of (Some d) = d.name

-- an atom, with a mark behind its predicate
abbrev pub atom_text : List PredForm → (pred : ℕ) → (mark : List ℕ) → (vars : List ℕ) → List ℕ
atom_text preds pred mark vars = name_of (slice_get preds pred) ++ (mark ++ terms_text vars)

-- ---- walks

-- a walk along the pairs of which a predicate holds
pub record WalkForm : Type 0 where
  pub pred : ℕ
  pub from : ℕ
  pub to : ℕ

-- the walk of at least one step, where the formula is the closure of an atom of its own two variables
abbrev pub some_walk : Form → Option WalkForm
some_walk (FClosure from to left right (FAtom p (v ∷ w ∷ []))) =
    if v == left && w == right then Some (record { pred = p; from = from; to = to }) else None
some_walk other = None

-- the same walk, where it leads from v to w
abbrev pub leading : (v w : ℕ) → Option WalkForm → Option WalkForm
leading v w None = None
leading v w (Some walk) = if walk.from == v && walk.to == w then Some walk else None

-- the walk of any number of steps, where the formulas are an equality and a walk between the same two
abbrev pub any_walk : Form → Form → Option WalkForm
any_walk (FSame v w) g = leading v w (some_walk g)
any_walk other g = None

abbrev pub walk_text : List PredForm → (mark : List ℕ) → WalkForm → List ℕ
walk_text preds mark w = atom_text preds w.pred mark (w.from ∷ w.to ∷ [])

-- the walk where there is one, else the text
abbrev pub walk_or : List PredForm → (mark : List ℕ) → Option WalkForm → List ℕ → List ℕ
walk_or preds mark None text = text
walk_or preds mark (Some w) text = walk_text preds mark w

-- ---- formulas

-- how tightly the text of a formula binds
abbrev pub tightness : Form → ℕ
tightness (FCond c f g) = 0
tightness (FExists v f) = 0
tightness (FForall v f) = 0
tightness (FClosure from to left right f) =
    if is_some (some_walk (FClosure from to left right f)) then 4 else 0
tightness (FIff f g) = 1
tightness (FOr f g) = if is_some (any_walk f g) then 4 else 2
tightness (FAnd f g) = 3
tightness other = 4

-- in parentheses where it binds less tightly than that
abbrev pub within_text : (bound tight : ℕ) → List ℕ → List ℕ
within_text bound tight text = if nat_le bound tight then text else codes "(" ++ (text ++ codes ")")

abbrev pub both_text : (bound : ℕ) → (mark : List ℕ) → (f_tight : ℕ) → List ℕ → (g_tight : ℕ) → List ℕ
    → List ℕ
both_text bound mark f_tight f g_tight g =
    within_text bound f_tight f ++ (mark ++ within_text (bound + 1) g_tight g)

abbrev pub form_text : List PredForm → Form → List ℕ
form_text preds FZero = codes "0"
form_text preds FOne = codes "1"
form_text preds (FAtom p vars) = atom_text preds p [] vars
form_text preds (FIsNew v) = codes "isNew" ++ terms_text (v ∷ [])
form_text preds (FSame v w) = equality_text (codes " == ") v w
form_text preds (FNot f) = codes "!" ++ within_text 4 (tightness f) (form_text preds f)
form_text preds (FAnd f g) =
    both_text 3 (codes " & ") (tightness f) (form_text preds f) (tightness g) (form_text preds g)
form_text preds (FOr f g) = walk_or preds (codes "*") (any_walk f g)
    (both_text 2 (codes " | ") (tightness f) (form_text preds f) (tightness g) (form_text preds g))
form_text preds (FIff f g) =
    both_text 1 (codes " <-> ") (tightness f) (form_text preds f) (tightness g) (form_text preds g)
form_text preds (FCond c f g) = within_text 1 (tightness c) (form_text preds c)
    ++ (codes " ? " ++ (form_text preds f ++ (codes " : " ++ form_text preds g)))
form_text preds (FExists v f) = codes "E" ++ (terms_text (v ∷ []) ++ (codes " " ++ form_text preds f))
form_text preds (FForall v f) = codes "A" ++ (terms_text (v ∷ []) ++ (codes " " ++ form_text preds f))
form_text preds (FClosure from to left right f) =
    walk_or preds (codes "+") (some_walk (FClosure from to left right f))
    (codes "TC" ++ (terms_text (from ∷ to ∷ []) ++ (terms_text (left ∷ right ∷ []) ++ (codes " "
    ++ form_text preds f))))
