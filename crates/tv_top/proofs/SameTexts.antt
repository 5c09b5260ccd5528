-- Programs that say the same have the same texts of reports and of replays.
use Rattle.std.proofs.Common.{◌≡◌, ℕ, zero, suc, ◌+◌, List, [], ◌∷◌, ◌++◌, map, Option, None, Some, refl, ap}
use Rattle.std.proofs.Common.{◌∙◌}
use Rattle.std.specs.Prelude.{codes, slice_get}
use Rattle.std.specs.List.{flat_map, zip}
use Rattle.tv_listing.specs.declared.analysis.Analysis.{Analysis}
use Rattle.tv_model.specs.Program.{PredForm, ProgramForm, pred_of, program_of}
use Rattle.tv_model.specs.declared.formula.PredId.{PredId}
use Rattle.tv_model.specs.declared.program.Pred.{Pred}
use Rattle.tv_model.specs.declared.program.Program.{Program}
use Rattle.tv_replay.specs.Text.{broken_text, first_text, head_text, judged_text, later_text, later_texts}
use Rattle.tv_replay.specs.Text.{own_name, place_text, states_text}
use Rattle.tv_replay_laws.specs.declared.state.State.{State}
use Rattle.tv_report.specs.Text.{map_text, message_text, node_text, nodes_text, report_text}
use Rattle.tv_structure_form.specs.StructureForm.{StructureForm}
use Rattle.tv_texts.specs.Agreement.{SameProgram}
use Rattle.tv_tvs.specs.Canonical.{canonical_text, preds_text}

texts_alike : {X : Type 0} (f g : X → List ℕ) → ((x : X) → f x ≡ g x) → (xs : List X) → flat_map f xs ≡ flat_map g xs
texts_alike f g each [] = refl
texts_alike f g each (x ∷ xs) = rw (each x, texts_alike f g each xs) refl

-- of a predicate its name and its number of parameters are written
preds_alike : (s : StructureForm) (k : ℕ) (ps qs : List Pred) → map pred_of ps ≡ map pred_of qs
    → preds_text s k ps ≡ preds_text s k qs
preds_alike s k [] [] e = refl
preds_alike s k [] (q ∷ qs) e = absurd cc
preds_alike s k (p ∷ ps) [] e = absurd cc
preds_alike s k (p ∷ ps) (q ∷ qs) e =
    let first : pred_of p ≡ pred_of q = cc in
    let others : map pred_of ps ≡ map pred_of qs = cc in
    let name : p.name ≡ q.name = ap (λ (d : PredForm). d.name) first in
    let arity : p.arity ≡ q.arity = ap (λ (d : PredForm). d.arity) first in
    rw (name, arity, preds_alike s (k + 1) ps qs others) refl

module _ (p q : Program) (same : SameProgram p q) where
  structure_alike : (s : StructureForm) → canonical_text p.vocab s ≡ canonical_text q.vocab s
  structure_alike s =
      rw (preds_alike s 0 p.vocab.preds q.vocab.preds (ap (λ (f : ProgramForm). f.preds) same)) refl

  node_alike : (name : List ℕ) (ss : List StructureForm) → node_text p.vocab name ss ≡ node_text q.vocab name ss
  node_alike name ss = rw (texts_alike (canonical_text p.vocab) (canonical_text q.vocab) structure_alike ss) refl

  names_alike : p.nodes ≡ q.nodes
  names_alike = ap (λ (f : ProgramForm). f.nodes) same

  nodes_alike : (listing : List (List StructureForm)) → nodes_text p.vocab p.nodes listing ≡ nodes_text q.vocab q.nodes listing
  nodes_alike listing =
      texts_alike (λ node. node_text p.vocab node.0 node.1) (λ node. node_text q.vocab node.0 node.1)
      (λ node. node_alike node.0 node.1) (zip p.nodes listing)
      ∙ ap (λ names. nodes_text q.vocab names listing) names_alike

  pub report_alike : (a : Analysis) → report_text p a ≡ report_text q a
  report_alike a =
      ap (λ texts. codes "tvla report 2\n" ++ (texts ++ (flat_map (message_text (program_of p)) a.messages
      ++ (flat_map map_text a.maps ++ codes "end\n")))) (nodes_alike a.listing)
      ∙ ap (λ f. codes "tvla report 2\n" ++ (nodes_text q.vocab q.nodes a.listing ++ (flat_map (message_text f) a.messages
      ++ (flat_map map_text a.maps ++ codes "end\n")))) same

  -- ---- a replay

  named : (ps qs : List Pred) → map pred_of ps ≡ map pred_of qs → (k : ℕ) → own_name (slice_get ps k) ≡ own_name (slice_get qs k)
  named [] [] e k = refl
  named [] (d ∷ qs) e k = absurd cc
  named (d ∷ ps) [] e k = absurd cc
  named (c ∷ ps) (d ∷ qs) e zero =
      let first : pred_of c ≡ pred_of d = cc in ap (λ (f : PredForm). f.name) first
  named (c ∷ ps) (d ∷ qs) e (suc k) =
      let others : map pred_of ps ≡ map pred_of qs = cc in named ps qs others k

  broken_alike : (broken : Option PredId) → broken_text p broken ≡ broken_text q broken
  broken_alike None = refl
  broken_alike (Some pred) =
      rw (named p.vocab.preds q.vocab.preds (ap (λ (f : ProgramForm). f.preds) same) pred.0) refl

  head_alike : (number : ℕ) (x : State) → head_text p number x ≡ head_text q number x
  head_alike number x = rw names_alike refl

  first_alike : (x : State) → first_text p x ≡ first_text q x
  first_alike x =
      ap (λ head. head ++ (codes "concrete" ++ (broken_text p x.broken ++ (codes "initial" ++ (place_text x.initial ++ judged_text x)))))
      (head_alike 0 x)
      ∙ ap (λ broken. head_text q 0 x ++ (codes "concrete" ++ (broken ++ (codes "initial" ++ (place_text x.initial ++ judged_text x)))))
      (broken_alike x.broken)

  later_alike : (number : ℕ) (x : State) → later_text p number x ≡ later_text q number x
  later_alike number x =
      ap (λ head. head ++ (codes "updates" ++ (broken_text p x.broken ++ judged_text x))) (head_alike number x)
      ∙ ap (λ broken. head_text q number x ++ (codes "updates" ++ (broken ++ judged_text x))) (broken_alike x.broken)

  laters_alike : (number : ℕ) (states : List State) → later_texts p number states ≡ later_texts q number states
  laters_alike number [] = refl
  laters_alike number (x ∷ states) =
      ap (λ text. text ++ later_texts p (number + 1) states) (later_alike number x)
      ∙ ap (λ texts. later_text q number x ++ texts) (laters_alike (number + 1) states)

  pub states_alike : (states : List State) → states_text p states ≡ states_text q states
  states_alike [] = refl
  states_alike (x ∷ states) =
      ap (λ text. text ++ (later_texts p 1 states ++ codes "end\n")) (first_alike x)
      ∙ ap (λ texts. first_text q x ++ (texts ++ codes "end\n")) (laters_alike 1 states)
