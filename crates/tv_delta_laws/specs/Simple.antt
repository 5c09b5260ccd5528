-- Constructors that simplify: negation, conjunction and disjunction with 0 or 1, quantifiers over 0 or 1
-- where an empty heap doesn't matter, and conditionals whose branch is 0 or 1.
use Rattle.std.specs.Prelude.{ℕ, ◌+◌, Bool, true, false, ◌||◌, ◌&&◌, if◌then◌else◌, nat_le}
use Rattle.tv_model.specs.Form.{Form, FZero, FOne, FAtom, FIsNew, FSame, FNot, FAnd, FOr, FIff, FCond}
use Rattle.tv_model.specs.Form.{FExists, FForall, FClosure, height}

abbrev pub is_zero : Form → Bool
is_zero FZero = true
is_zero f = false

abbrev pub is_one : Form → Bool
is_one FOne = true
is_one f = false

abbrev pub simple_not : Form → Form
simple_not f = if is_zero f then FOne else if is_one f then FZero else FNot f

abbrev pub simple_and : Form → Form → Form
simple_and f g =
    if is_zero f || is_zero g then FZero else if is_one f then g else if is_one g then f else FAnd f g

abbrev pub simple_or : Form → Form → Form
simple_or f g =
    if is_one f || is_one g then FOne else if is_zero f then g else if is_zero g then f else FOr f g

-- over no individuals nothing exists: a quantifier over 1 stays
abbrev pub simple_exists : ℕ → Form → Form
simple_exists v f = if is_zero f then FZero else FExists v f

-- over no individuals all hold: a quantifier over 0 stays
abbrev pub simple_forall : ℕ → Form → Form
simple_forall v f = if is_one f then FOne else FForall v f

-- a conditional whose first branch is 1 is a disjunction, and one whose second is 0 is a conjunction
abbrev pub simple_cond : Form → Form → Form → Form
simple_cond c f g = if is_one f then simple_or c g else if is_zero g then simple_and c f else FCond c f g

-- the number of the formula's nodes
abbrev pub nodes : Form → ℕ
nodes FZero = 1
nodes FOne = 1
nodes (FAtom pred vars) = 1
nodes (FIsNew v) = 1
nodes (FSame v w) = 1
nodes (FNot f) = nodes f + 1
nodes (FAnd f g) = nodes f + nodes g + 1
nodes (FOr f g) = nodes f + nodes g + 1
nodes (FIff f g) = nodes f + nodes g + 1
nodes (FCond c f g) = nodes c + nodes f + nodes g + 1
nodes (FExists v f) = nodes f + 1
nodes (FForall v f) = nodes f + 1
nodes (FClosure from to left right f) = nodes f + 1

-- the formula has at most 65,536 nodes and is at most 1,000 high
abbrev pub is_small : Form → Bool
is_small f = nat_le (nodes f) 65536 && nat_le (height f) 1000
