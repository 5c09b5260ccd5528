-- The edges of a flat form are those of its tree.
use Rattle.std.proofs.Common.{ℕ, ◌≡◌, ◌∙◌, Bool, true, false, List, [], ◌∷◌, ◌++◌, Result}
use Rattle.std.proofs.Common.{Ok, Err}
use Rattle.std.proofs.Common.{refl, sym, ap, subst, append_assoc, append-nil, length, ◌==◌}
use Rattle.std.specs.Prelude.{if◌then◌else◌}
use Rattle.std.specs.List.{AllZip, list_any, position_or_len, zip}
use Rattle.tv_expand.specs.Expansion.{Actions, Wired, all_declared, called, counted}
use Rattle.tv_expand.specs.Expansion.{expansion, find_action}
use Rattle.tv_expand.specs.Expansion.{gathered, limits, made, nothing_declared, nothing_wired}
use Rattle.tv_expand.specs.Expansion.{same_call}
use Rattle.tv_expand.specs.Expansion.{with_action, with_call, with_edge, wired, wired_to}
use Rattle.tv_expand.specs.Outcome.{each, ◌>>=◌}
use Rattle.tv_expand.specs.Sets.{Sets, known}
use Rattle.tv_expand.specs.declared.error.ExpandError.{ExpandError}
use Rattle.tv_expand.specs.declared.error.ExpandError.TheVariants.{ArgumentCount}
use Rattle.tv_flat.specs.FlatForm.{FlatEdgeForm, FlatForm}
use Rattle.tv_flat.specs.Replaced.{all_bound}
use Rattle.tv_tree.specs.Forms.{ActionForm, EdgeForm, ProgramForm}
use Rattle.tv_explain.proofs.EdgeSteps.{both_ok}

-- a flat edge has the names of the edge that was written
pub record IsFlatOf (written : EdgeForm) (flat : FlatEdgeForm) : Type 0 where
  pub from : flat.from ≡ written.from
  pub to : flat.to ≡ written.to

-- one edge more, with these names
abbrev OneMore : Wired → Wired → EdgeForm → Type 0
OneMore old new e = (flat : FlatEdgeForm) × (new.edges ≡ old.edges ++ flat ∷ []) × IsFlatOf e flat

abbrev edges_of : Result Wired ExpandError → List FlatEdgeForm
edges_of (Ok x) = x.edges
edges_of (Err m) = []

edge_more : (number : ℕ) (e : EdgeForm) (w new : Wired) → with_edge number e w ≡ Ok new → OneMore w new e
edge_more number e w new is =
    let step = both_ok (counted 0 w.room) _ new is in (
      record { from = e.from; action = number; to = e.to },
      ap edges_of (sym step.2),
      record { from = refl; to = refl },
    )

made_keeps : (sets : Sets) (a : ActionForm) (arguments : List (List ℕ)) (w new : Wired)
    → made sets a arguments w ≡ Ok new → new.edges ≡ w.edges
made_keeps sets a arguments w new is =
    let step = both_ok (each (gathered sets (all_bound [] (zip a.params arguments))) a.parts
    (record { parts = []; room = w.room })) _ new is in
    ap edges_of (sym step.2)

called_keeps : (sets : Sets) (a : ActionForm) (arguments : List (List ℕ)) (w new : Wired)
    → called sets a arguments w ≡ Ok new → new.edges ≡ w.edges
called_keeps sets a arguments w new is = by (list_any (same_call (a.name ∷ arguments)) w.calls) is
  where
    by : (known_call : Bool) → (if known_call then Ok w else made sets a arguments (with_call (a.name ∷ arguments) w))
        ≡ Ok new → new.edges ≡ w.edges
    by true e = ap edges_of (sym e)
    by false e = made_keeps sets a arguments (with_call (a.name ∷ arguments) w) new e

wired_to_more : (sets : Sets) (a : ActionForm) (e : EdgeForm) (w new : Wired) → wired_to sets a e w ≡ Ok new
    → OneMore w new e
wired_to_more sets a e w new is = by (length e.arguments == length a.params) is
  where
    number : ℕ
    number = position_or_len (same_call (a.name ∷ e.arguments)) w.calls

    by : (fit : Bool) → (if fit then (called sets a e.arguments w >>= with_edge number e) else Err ArgumentCount)
        ≡ Ok new → OneMore w new e
    by false bad = cc
    by true ok =
        let step = both_ok (called sets a e.arguments w) (with_edge number e) new ok in
        let more = edge_more number e step.0 new step.2 in
        (more.0, more.1 ∙ ap (λ es. es ++ more.0 ∷ []) (called_keeps sets a e.arguments w step.0 step.1), more.2)

wired_more : (sets : Sets) (actions : Actions) (e : EdgeForm) (w new : Wired) → wired sets actions e w ≡ Ok new
    → OneMore w new e
wired_more sets actions e w new is =
    let step = both_ok (known (find_action actions e.action)) (λ a. wired_to sets a e w) new is in
    wired_to_more sets step.0 e w new step.2

all_wired : (sets : Sets) (actions : Actions) (es : List EdgeForm) (w new : Wired)
    → each (wired sets actions) es w ≡ Ok new
    → (more : List FlatEdgeForm) × (new.edges ≡ w.edges ++ more) × AllZip IsFlatOf es more
all_wired sets actions [] w new is = ([], ap edges_of (sym is) ∙ sym (append-nil w.edges), tt)
all_wired sets actions (e ∷ es) w new is =
    let step = both_ok (wired sets actions e w) (each (wired sets actions) es) new is in
    let one = wired_more sets actions e w step.0 step.1 in
    let others = all_wired sets actions es step.0 new step.2 in (
      one.0 ∷ others.0,
      others.1 ∙ ap (λ fs. fs ++ others.0) one.1 ∙ append_assoc w.edges (one.0 ∷ []) others.0,
      (one.2, others.2),
    )

pub flat_edges : (t : ProgramForm) (f : FlatForm) → expansion t ≡ Ok f → AllZip IsFlatOf t.edges f.edges
flat_edges t f is =
    let declared = both_ok (all_declared [] t.decls (nothing_declared limits)) _ f is in
    let actions = both_ok (each with_action t.actions []) _ f declared.2 in
    let all = both_ok (each (wired declared.0.sets actions.0) t.edges (nothing_wired declared.0.room)) _ f actions.2 in
    let edges = all_wired declared.0.sets actions.0 t.edges (nothing_wired declared.0.room) all.0 all.1 in
    let same : f.edges ≡ all.0.edges = ap flat_edges_of (sym all.2) in
    subst (AllZip IsFlatOf t.edges) (sym (same ∙ edges.1)) edges.2
  where
    flat_edges_of : Result FlatForm ExpandError → List FlatEdgeForm
    flat_edges_of (Ok x) = x.edges
    flat_edges_of (Err m) = []
