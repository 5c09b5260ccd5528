-- The actions of a flat program.
use Rattle.std.specs.Prelude.{ℕ, Bool, true, false, not, ◌&&◌, ◌==◌, List, [], ◌∷◌, ◌++◌, length, Option}
use Rattle.std.specs.Prelude.{Some, None, Ok, slice_get, if◌then◌else◌}
use Rattle.std.specs.List.{list_any, flat_map}
use Rattle.tv_tree.specs.Forms as tree
use Rattle.tv_tree.specs.Names.{name_text}
use Rattle.tv_tree.specs.Forms.{Nest, Nests, no_nest, with_nest, Single, Foreach, UpdateForm, PieceForm}
use Rattle.tv_tree.specs.Forms.{Quoted, Spelled, PartForm, PFocus, PPre, PMessage, PNew, PRetain}
use Rattle.tv_tree.specs.Forms.{PBlock}
use Rattle.tv_model.specs.Form.{Form}
use Rattle.tv_model.specs.Program as model
use Rattle.tv_model.specs.Program.{PredForm, ChangeForm, CFree, CTo, RetainForm}
use Rattle.tv_model.specs.Program.{is_core_pred}
use Rattle.tv_model.specs.Program.{MessageForm, ActionForm}
use Rattle.tv_names.specs.declared.refusal.ResolveError.TheVariants.{NameUnknown, NameTwice, ArityWrong}
use Rattle.tv_names.specs.declared.refusal.ResolveError.TheVariants.{Reserved, UpdateTwice}
use Rattle.tv_names.specs.declared.place.Others.TheVariants.{Never, Once}
use Rattle.tv_names.specs.Refusal.{◌>>=◌, OrRefused, refused_if, or_refused, one_by_one}
use Rattle.tv_names.specs.Symbols.{SymbolForm, KnownForm, is_reserved, symbol_of}
use Rattle.tv_names.specs.Naming.{NamingForm, Nameless, filled, declared_all, no_names, kept_from}
use Rattle.tv_names.specs.Picks.{picks_in, flags_of, flagged}
use Rattle.tv_names.specs.Resolving.{PlaceForm, Numbered, resolved}
use Rattle.tv_vocab.specs.Vocabulary.{twice, anywhere, over}

-- ---- the parts of an action, in whatever order they stand

abbrev pub focus_in : List PartForm → List tree.Form
focus_in [] = []
focus_in (PFocus fs ∷ parts) = fs
focus_in (other ∷ parts) = focus_in parts

abbrev pub pre_in : List PartForm → Option tree.Form
pre_in [] = None
pre_in (PPre f ∷ parts) = Some f
pre_in (other ∷ parts) = pre_in parts

abbrev pub retain_in : List PartForm → Option tree.Form
retain_in [] = None
retain_in (PRetain f ∷ parts) = Some f
retain_in (other ∷ parts) = retain_in parts

abbrev pub adds_new : List PartForm → Bool
adds_new [] = false
adds_new (PNew ∷ parts) = true
adds_new (other ∷ parts) = adds_new parts

abbrev pub nest_list : {X : Type 0} → Nests X → List (Nest X)
nest_list no_nest = []
nest_list (with_nest d ds) = d ∷ nest_list ds

abbrev pub updates_in : List PartForm → List (Nest UpdateForm)
updates_in [] = []
updates_in (PBlock us ∷ parts) = nest_list us
updates_in (other ∷ parts) = updates_in parts

-- ---- focus and precondition

abbrev pub with_formula : PlaceForm → List Form × NamingForm → tree.Form → Numbered (List Form)
with_formula at done f = resolved at f done.1 >>= λ x. Ok (done.0 ++ x.0 ∷ [], x.1)

-- several formulas of one item
abbrev pub resolved_all : PlaceForm → List tree.Form → NamingForm → Numbered (List Form)
resolved_all at fs s = one_by_one (with_formula at) ([], s) fs

-- the focus formulas, which are one item
abbrev pub focused : List SymbolForm → List tree.Form → OrRefused (List Form)
focused symbols fs = resolved_all (anywhere symbols) fs no_names >>= λ x. Ok x.0

-- The precondition, the variables that a step picks, and the numbering with which retain formula and updates
-- begin: the picked variables keep their names and numbers.
pub record PickingForm : Type 0 where
  pub pre : Option Form
  pub picks : List ℕ
  pub picked : NamingForm

abbrev pub picking : Form → NamingForm → PickingForm
picking f s = record {
  pre = Some f;
  picks = picks_in f;
  picked = record no_names { slots = kept_from 0 (flags_of (picks_in f)) s.slots };
}

abbrev pub precondition : List SymbolForm → Option tree.Form → OrRefused PickingForm
precondition symbols None = Ok (record { pre = None; picks = []; picked = no_names })
precondition symbols (Some f) = do
  x ← resolved (anywhere symbols) f no_names
  Ok (picking x.0 x.1)

-- ---- messages

abbrev pub piece_text : PieceForm → List ℕ
piece_text (Quoted text) = text
piece_text (Spelled text) = text

unfoldable pub message : List SymbolForm → tree.Form → List PieceForm → OrRefused MessageForm
message symbols cond pieces = do
  f ← resolved (over symbols []) cond no_names
  Ok (record { cond = f.0; text = flat_map piece_text pieces })

abbrev pub with_part : List SymbolForm → List MessageForm → PartForm → OrRefused (List MessageForm)
with_part symbols done (PMessage f ps) = message symbols f ps >>= λ m. Ok (done ++ m ∷ [])
with_part symbols done other = Ok done

-- the messages, in the order of the text
abbrev pub messages : List SymbolForm → List PartForm → OrRefused (List MessageForm)
messages symbols parts = one_by_one (with_part symbols) [] parts

-- ---- retain formula

abbrev pub further_number : Option ℕ → NamingForm → OrRefused ℕ
further_number (Some v) s = Ok v
further_number None s = filled Nameless s >>= λ x. Ok x.0

-- where the retain formula stands: the picked variables and one further may be free
abbrev pub retaining : List SymbolForm → (fresh : Bool) → (picks : List ℕ) → PlaceForm
retaining symbols fresh picks =
    record { symbols = symbols; with_new = fresh; known = flags_of picks; others = Once }

-- the further free variable stands for the individual; without one, a variable that stands nowhere else
abbrev pub retain : List SymbolForm → (fresh : Bool) → PickingForm → Option tree.Form
    → OrRefused (Option RetainForm)
retain symbols fresh picking None = Ok None
retain symbols fresh picking (Some f) = do
  x ← resolved (retaining symbols fresh picking.picks) f picking.picked
  v ← further_number x.1.further x.1
  Ok (Some (record { var = v; keep = x.0 }))

-- ---- updates

-- where the formula of an update stands: its own variables and the picked ones may be free
abbrev pub updating : List SymbolForm → (fresh : Bool) → (vars picks : List ℕ) → PlaceForm
updating symbols fresh vars picks =
    record { symbols = symbols; with_new = fresh; known = flagged (flags_of vars) picks; others = Never }

abbrev pub is_half : tree.Form → Bool
is_half tree.FHalf = true
is_half other = false

abbrev pub is_updated : List model.UpdateForm → ℕ → Bool
is_updated done pred = list_any (λ w. w.pred == pred) done

-- `1/2` as the whole formula leaves a core predicate free
abbrev pub change : PlaceForm → (core : Bool) → tree.Form → NamingForm → OrRefused ChangeForm
change at core f s = if is_half f && core then Ok CFree else (resolved at f s >>= λ x. Ok (CTo x.0))

-- an update of this predicate, behind those that are done
unfoldable pub update_of_pred : List SymbolForm → List PredForm → (fresh : Bool) → PickingForm
    → (done : List model.UpdateForm) → KnownForm → (params : List (List ℕ)) → (body : tree.Form)
    → OrRefused model.UpdateForm
update_of_pred symbols preds fresh picking done known params body = do
  a ← refused_if (not (length params == known.arity)) ArityWrong
  b ← refused_if (twice params) NameTwice
  c ← refused_if (is_updated done known.pred) UpdateTwice
  vars ← declared_all params picking.picked
  to ← change (updating symbols fresh vars.0 picking.picks)
      (is_core_pred (slice_get preds known.pred)) body vars.1
  Ok (record { pred = known.pred; vars = vars.0; change = to })

unfoldable pub update : List SymbolForm → List PredForm → (fresh : Bool) → PickingForm
    → (done : List model.UpdateForm) → UpdateForm → OrRefused model.UpdateForm
update symbols preds fresh picking done u = do
  a ← refused_if (is_reserved (name_text u.name)) Reserved
  known ← or_refused (symbol_of (name_text u.name) symbols) NameUnknown
  update_of_pred symbols preds fresh picking done known u.params u.body

-- a flat block has no foreach
abbrev pub with_update : List SymbolForm → List PredForm → (fresh : Bool) → PickingForm
    → List model.UpdateForm → Nest UpdateForm → OrRefused (List model.UpdateForm)
with_update symbols preds fresh picking done (Single u) =
    update symbols preds fresh picking done u >>= λ w. Ok (done ++ w ∷ [])
with_update symbols preds fresh picking done (Foreach var members body) = Ok done

-- ---- actions

unfoldable pub action : List SymbolForm → List PredForm → List PartForm → OrRefused ActionForm
action symbols preds parts = do
  focus ← focused symbols (focus_in parts)
  picking ← precondition symbols (pre_in parts)
  said ← messages symbols parts
  keeps ← retain symbols (adds_new parts) picking (retain_in parts)
  updates ← one_by_one (with_update symbols preds (adds_new parts) picking) [] (updates_in parts)
  Ok (record {
    pre = picking.pre;
    picks = picking.picks;
    focus = focus;
    messages = said;
    fresh = adds_new parts;
    retain = keeps;
    updates = updates;
  })
