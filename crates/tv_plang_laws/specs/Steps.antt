-- What programs of the pointer language do: steps from state to state.
use Rattle.std.specs.Prelude.{ℕ, ◌≡◌, ◌⊎◌, ◌+◌, true, false, List, [], ◌∷◌}
use Rattle.tv_source.specs.Forms.{TestForm, Stmt, SAssign, SIf, SWhile, SourceForm}
use Rattle.tv_plang_laws.specs.Memories.{Memory, Does, GoesWay}
use Rattle.tv_plang_laws.specs.Positions.{Numbered, numbered, count_all, last}

-- the statements that are left to be done, the first of them next, and the memory
pub record State : Type 0 where
  pub left : List Numbered
  pub memory : Memory

-- the number of the first statement, or the position behind the last
abbrev pub first_number : List Numbered → (last : ℕ) → ℕ
first_number [] last = last
first_number (n ∷ behind) last = n.number

abbrev pub position : SourceForm → State → ℕ
position p s = first_number s.left (last p)

-- a test changes no memory, and chooses what is left
abbrev pub Chooses : TestForm → (if_true if_false : List Numbered) → Memory → State → Type 0
Chooses test if_true if_false m t =
    (t.memory ≡ m)
    × ((GoesWay true test m × (t.left ≡ if_true)) ⊎ (GoesWay false test m × (t.left ≡ if_false)))

-- doing the statement of number k, behind which these are left, leads from the memory to the state
abbrev pub Performs : (k : ℕ) → Stmt → (behind : List Numbered) → Memory → State → Type 0
Performs k (SAssign a) behind m t = Does a m t.memory × (t.left ≡ behind)
Performs k (SIf test then_ else_) behind m t =
    Chooses test (numbered (k + 1) then_ behind) (numbered (k + 1 + count_all then_) else_ behind) m t
Performs k (SWhile test body) behind m t =
    Chooses test
    (numbered (k + 1) body (record { number = k; statement = SWhile test body } ∷ behind)) behind m t

abbrev pub StepsFrom : (left : List Numbered) → Memory → State → Type 0
StepsFrom [] m t = ⊥
StepsFrom (n ∷ behind) m t = Performs n.number n.statement behind m t

-- the program goes from one state to the other by doing the first statement that is left
abbrev pub Steps : State → State → Type 0
Steps s t = StepsFrom s.left s.memory t

-- each state is a step from the one before
abbrev pub GoThrough : State → List State → Type 0
GoThrough s [] = Unit {0}
GoThrough s (t ∷ later) = Steps s t × GoThrough t later

-- nothing of the program has been done yet
abbrev pub IsAtStart : SourceForm → State → Type 0
IsAtStart p s = s.left ≡ numbered 0 p.body []
