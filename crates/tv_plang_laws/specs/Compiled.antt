-- The program that a program of the pointer language is compiled to.
use Rattle.std.specs.Prelude.{ℕ, ◌≤◌, ◌+◌, ◌==◌, Bool, true, false, List, [], ◌∷◌, ◌++◌, length, map, Some}
use Rattle.std.specs.Prelude.{None, slice_get, unwrap_or, if◌then◌else◌, codes, decimal}
use Rattle.std.specs.List.{flat_map, position_or_len, range_with_len}
use Rattle.tv_model.specs.declared.program.Edge.{Edge}
use Rattle.tv_model.specs.Form.{Form, FZero, FAtom, FIsNew, FSame, FNot, FAnd, FOr, FIff, FExists, FForall}
use Rattle.tv_model.specs.Form.{FClosure}
use Rattle.tv_model.specs.Program.{PredForm, KCore, KDefined, CTo, UpdateForm, ActionForm, ProgramForm}
use Rattle.tv_model.specs.Program.{no_props}
use Rattle.tv_model.specs.Rules.{signed_form}
use Rattle.tv_model.specs.Valid.{first_occurrences}
use Rattle.tv_source.specs.Forms.{AssignForm, ANull, ANew, ACopy, ALoad, AStore, AClear, TestForm, TAny}
use Rattle.tv_source.specs.Forms.{TNull, TSame, Stmt, SAssign, SIf, SWhile, Stmts, no_stmts, with_stmt}
use Rattle.tv_source.specs.Forms.{SourceForm}
use Rattle.tv_plang_laws.specs.Memories.{agrees}
use Rattle.tv_plang_laws.specs.Positions.{count, count_all, last}

-- ---- predicates: each variable, each field, and for each field what each variable reaches along it

abbrev pub name_in : List (List ℕ) → ℕ → List ℕ
name_in names n = unwrap_or (slice_get names n) []

-- the number of a field's predicate; that of a variable's is the variable's own
abbrev pub field_number : SourceForm → ℕ → ℕ
field_number p f = length p.variables + f

-- x(v)
abbrev pub points : (x v : ℕ) → Form
points x v = FAtom x (v ∷ [])

-- f(v, w)
abbrev pub leads : SourceForm → (f v w : ℕ) → Form
leads p f v w = FAtom (field_number p f) (v ∷ w ∷ [])

-- f*(v, w)
abbrev pub leads_on : SourceForm → (f v w : ℕ) → Form
leads_on p f v w = FOr (FSame v w) (FClosure v w 2 3 (leads p f 2 3))

abbrev pub variable_pred : List ℕ → PredForm
variable_pred name =
    record { name = name; arity = 1; kind = KCore; abs = true; props = record no_props { unique = true } }

abbrev pub field_pred : List ℕ → PredForm
field_pred name =
    record { name = name; arity = 2; kind = KCore; abs = true; props = record no_props { function = true } }

-- r[f,x]
abbrev pub reach_name : SourceForm → (f x : ℕ) → List ℕ
reach_name p f x = codes "r[" ++ (name_in p.fields f ++ (codes "," ++ (name_in p.variables x ++ codes "]")))

-- r[f,x](v) = E(v_1) x(v_1) & f*(v_1, v)
abbrev pub reach_pred : SourceForm → (f x : ℕ) → PredForm
reach_pred p f x = record {
  name = reach_name p f x;
  arity = 1;
  kind = KDefined (0 ∷ []) (FExists 1 (FAnd (points x 1) (leads_on p f 1 0)));
  abs = true;
  props = no_props;
}

abbrev pub numbers_below : ℕ → List ℕ
numbers_below n = range_with_len 0 n

abbrev pub reach_preds : SourceForm → List PredForm
reach_preds p =
    flat_map (λ f. map (reach_pred p f) (numbers_below (length p.variables)))
    (numbers_below (length p.fields))

abbrev pub compiled_preds : SourceForm → List PredForm
compiled_preds p = map variable_pred p.variables ++ (map field_pred p.fields ++ reach_preds p)

-- ---- actions

abbrev pub no_action : ActionForm
no_action =
    record { pre = None; picks = []; focus = []; messages = []; fresh = false; retain = None; updates = [] }

-- x points to a cell: E(v) x(v)
abbrev pub points_somewhere : ℕ → Form
points_somewhere x = FExists 0 (points x 0)

-- `x(v) = ..`, where v is variable 0
abbrev pub sets_variable : (x : ℕ) → Form → List UpdateForm
sets_variable x f = record { pred = x; vars = 0 ∷ []; change = CTo f } ∷ []

-- `f(v_1, v_2) = ..`, where v_1 is variable 0 and v_2 variable 1
abbrev pub sets_field : SourceForm → (f : ℕ) → Form → List UpdateForm
sets_field p f g = record { pred = field_number p f; vars = 0 ∷ 1 ∷ []; change = CTo g } ∷ []

-- `f(v_1, v_2)` at all cells but the one that x has
abbrev pub kept_elsewhere : SourceForm → (x f : ℕ) → Form
kept_elsewhere p x f = FAnd (FNot (points x 0)) (leads p f 0 1)

-- nothing is done where z is null, and this is told
abbrev pub dereferences : SourceForm → (z : ℕ) → ActionForm
dereferences p z = record no_action {
  pre = Some (points_somewhere z);
  messages =
      record {
        cond = FNot (points_somewhere z);
        text = codes "null dereference of " ++ name_in p.variables z;
      } ∷ [];
}

abbrev pub assign_action : SourceForm → AssignForm → ActionForm
assign_action p (ANull x) = record no_action { updates = sets_variable x FZero }
assign_action p (ANew x) = record no_action { fresh = true; updates = sets_variable x (FIsNew 0) }
assign_action p (ACopy x y) =
    record no_action { focus = points y 0 ∷ []; updates = sets_variable x (points y 0) }
assign_action p (ALoad x y f) = record (dereferences p y) {
  focus = FExists 0 (FAnd (points y 0) (leads p f 0 1)) ∷ [];
  updates = sets_variable x (FExists 1 (FAnd (points y 1) (leads p f 1 0)));
}
assign_action p (AStore x f y) = record (dereferences p x) {
  focus = points x 0 ∷ points y 0 ∷ [];
  updates = sets_field p f (FOr (FAnd (points x 0) (points y 1)) (kept_elsewhere p x f));
}
assign_action p (AClear x f) = record (dereferences p x) {
  focus = points x 0 ∷ [];
  updates = sets_field p f (kept_elsewhere p x f);
}

-- one way of a test: the false one has the negated precondition, and `!=` swaps the two
abbrev pub test_action : (way : Bool) → TestForm → ActionForm
test_action way TAny = no_action
test_action way (TNull equal x) = record no_action {
  pre = Some (signed_form (agrees equal way) (FNot (points_somewhere x)));
  focus = points x 0 ∷ [];
}
test_action way (TSame equal x y) = record no_action {
  pre = Some (signed_form (agrees equal way) (FForall 0 (FIff (points x 0) (points y 0))));
  focus = points x 0 ∷ points y 0 ∷ [];
}

-- ---- edges between positions

pub record Arc : Type 0 where
  pub from : ℕ
  pub action : ActionForm
  pub to : ℕ

-- where control enters a block that begins with number k: an empty one leads where its end leads
abbrev pub entry : ℕ → Stmts → (behind : ℕ) → ℕ
entry k no_stmts behind = behind
entry k (with_stmt s more) behind = k

-- The edges of the statement of number k, behind which control goes to `behind`: a test has two, the true one
-- first. A loop's body leads back to the loop.
abbrev mutual
  pub arcs : SourceForm → ℕ → Stmt → (behind : ℕ) → List Arc
  arcs p k (SAssign a) behind = record { from = k; action = assign_action p a; to = behind } ∷ []
  arcs p k (SIf t then_ else_) behind =
      record { from = k; action = test_action true t; to = entry (k + 1) then_ behind }
      ∷ record { from = k; action = test_action false t; to = entry (k + 1 + count_all then_) else_ behind }
      ∷ (block_arcs p (k + 1) then_ behind ++ block_arcs p (k + 1 + count_all then_) else_ behind)
  arcs p k (SWhile t body) behind =
      record { from = k; action = test_action true t; to = entry (k + 1) body k }
      ∷ record { from = k; action = test_action false t; to = behind }
      ∷ block_arcs p (k + 1) body k

  pub block_arcs : SourceForm → ℕ → Stmts → (behind : ℕ) → List Arc
  block_arcs p k no_stmts behind = []
  block_arcs p k (with_stmt s more) behind =
      arcs p k s (entry (k + count s) more behind) ++ block_arcs p (k + count s) more behind

abbrev pub program_arcs : SourceForm → List Arc
program_arcs p = block_arcs p 0 p.body (last p)

-- ---- nodes, in the order in which edges first come to them

abbrev pub ends : Arc → List ℕ
ends a = a.from ∷ a.to ∷ []

abbrev pub node_positions : SourceForm → List ℕ
node_positions p = first_occurrences (flat_map ends (program_arcs p))

-- the place of a position among others
abbrev pub place_among : List ℕ → (position : ℕ) → ℕ
place_among positions k = position_or_len (λ m. m == k) positions

-- the node of a position
abbrev pub node_at : SourceForm → (position : ℕ) → ℕ
node_at p k = place_among (node_positions p) k

-- S0, S1, .., and Exit for the position behind the last statement
abbrev pub node_name : (last position : ℕ) → List ℕ
node_name last k = if k == last then codes "Exit" else codes "S" ++ decimal k

-- the edges of arcs between positions that have these nodes; the first has the action of number i
abbrev pub edges_between : List ℕ → (i : ℕ) → List Arc → List Edge
edges_between positions i [] = []
edges_between positions i (a ∷ more) =
    record {
      from = place_among positions a.from;
      action = i;
      to = place_among positions a.to;
    } ∷ edges_between positions (i + 1) more

-- each edge has an action of its own
abbrev pub compiled : SourceForm → ProgramForm
compiled p = record {
  preds = compiled_preds p;
  rules = [];
  actions = map (λ a. a.action) (program_arcs p);
  edges = edges_between (node_positions p) 0 (program_arcs p);
  nodes = map (node_name (last p)) (node_positions p);
}

-- the limits of programs
pub record IsSmall (p : ProgramForm) : Type 0 where
  pub preds : length p.preds ≤ 512
  pub nodes : length p.nodes ≤ 4096
  pub edges : length p.edges ≤ 16384
