-- The program of the definitions of those predicates that aren't named.
use Rattle.std.proofs.Common.{◌≡◌, ◌⊎◌, ◌≢◌, ◌∙◌, ℕ, ◌||◌, Bool, true, false, List, [], ◌∷◌}
use Rattle.std.proofs.Common.{map}
use Rattle.std.proofs.Common.{Option, Some, None, slice_get, inl, inr, refl, sym, ap, subst, arith}
use Rattle.std.specs.Prelude.{codes, if◌then◌else◌}
use Rattle.std.specs.List.{AllPairs}
use Rattle.std.specs.Option.{option_map}
use Rattle.std.proofs.lemmas.List.{length-map}
use Rattle.std.proofs.lemmas.List.Elements.{All-map, All-nil, All-cons}
use Rattle.std.proofs.lemmas.Option.{slice_get-map, same_Some}
use Rattle.tv_model.specs.Form.{Form}
use Rattle.tv_model.specs.Program.{ProgramForm, PredForm, KindForm, KCore, KDefined}
use Rattle.tv_model.specs.Program.{is_core_kind}
use Rattle.tv_model.specs.Program.{action_of, pred_of, rule_of, program_of}
use Rattle.tv_model.specs.Spelling.{IsWord, IsLetter, IsDigit}
use Rattle.tv_model.specs.Valid.{IsValid, IsPred, IsKind, IsRank, IsFormulaOver, IsAction, IsEdge}
use Rattle.tv_model.specs.Valid.{program_arities}
use Rattle.tv_model.specs.declared.program.Program.{Program}
use Rattle.tv_model.proofs.Lists.{map-compose}
use Rattle.tv_structure_form.specs.StructureForm.{StructureForm, IsOver}
use Rattle.tv_tree.specs.Names.{is_among}
use Rattle.tv_update.specs.Redefined.{IsRedefined}
use Rattle.tv_update_laws.specs.Applied.{kind_at, kind_or_core}
use Rattle.tv_complete.specs.Completion.{is_settled, Completes}
use Rattle.tv_complete.specs.Kept.{kept_kind, core_if_named, idle_action, idle_edge, definitions_but}

module _ (names : List (List ℕ)) (p : ProgramForm) where
  arities-kept : program_arities (definitions_but names p) ≡ program_arities p
  arities-kept = map-compose (core_if_named names) (λ (d : PredForm). d.arity) p.preds

  names-kept : map (λ (d : PredForm). d.name) (definitions_but names p).preds ≡ map (λ (d : PredForm). d.name) p.preds
  names-kept = map-compose (core_if_named names) (λ (d : PredForm). d.name) p.preds

  kind-kept : (arity : ℕ) (kind : KindForm) → IsKind p arity kind → IsKind (definitions_but names p) arity kind
  kind-kept arity KCore is = tt
  kind-kept arity (KDefined vars body) is =
      (is.0, (subst (λ ns. IsFormulaOver ns body) (sym arities-kept) is.1.0, is.1.1), is.2)

  kind-left : (d : PredForm) → IsKind p d.arity d.kind → IsKind (definitions_but names p) d.arity (kept_kind names d)
  kind-left d is = by (is_among names d.name)
    where
      by : (b : Bool) → IsKind (definitions_but names p) d.arity (if b then KCore else d.kind)
      by true = tt
      by false = kind-kept d.arity d.kind is

  pred-kept : (d : PredForm) → IsPred p d → IsPred (definitions_but names p) (core_if_named names d)
  pred-kept d is = record { name = is.name; arity = is.arity; kind = kind-left d is.kind; props = is.props }

  -- a predicate of the program, and what is left of it
  found-kept : (q : ℕ) (d : PredForm) → slice_get p.preds q ≡ Some d
      → slice_get (definitions_but names p).preds q ≡ Some (core_if_named names d)
  found-kept q d found = slice_get-map (core_if_named names) p.preds q ∙ ap (option_map (core_if_named names)) found

  found-back : (q : ℕ) (e : PredForm) → slice_get (definitions_but names p).preds q ≡ Some e
      → (d : PredForm) × (slice_get p.preds q ≡ Some d) × (core_if_named names d ≡ e)
  found-back q e found = by (slice_get p.preds q) refl (sym (slice_get-map (core_if_named names) p.preds q) ∙ found)
    where
      by : (o : Option PredForm) → slice_get p.preds q ≡ o → option_map (core_if_named names) o ≡ Some e
          → (d : PredForm) × (slice_get p.preds q ≡ Some d) × (core_if_named names d ≡ e)
      by None at same = absurd cc
      by (Some d) at same = (d, at, same_Some (core_if_named names d) e same)

  still-defined : (d : PredForm) (vars : List ℕ) (body : Form) → kept_kind names d ≡ KDefined vars body
      → d.kind ≡ KDefined vars body
  still-defined d vars body = by (is_among names d.name)
    where
      by : (b : Bool) → (if b then KCore else d.kind) ≡ KDefined vars body → d.kind ≡ KDefined vars body
      by true e = absurd cc
      by false e = e

  falls-kept : (rank : ℕ → ℕ) → IsRank p rank → IsRank (definitions_but names p) rank
  falls-kept rank ranks = record {
    falls = λ q e found vars body k r m.
        let back : (d : PredForm) × (slice_get p.preds q ≡ Some d) × (core_if_named names d ≡ e) = found-back q e found
        in let kind : kept_kind names back.0 ≡ KDefined vars body = ap (λ (x : PredForm). x.kind) back.2 ∙ k
        in ranks.falls q back.0 back.1 vars body (still-defined back.0 vars body kind) r m;
  }

  idle-action : IsAction (definitions_but names p) idle_action
  idle-action = record {
    precondition = refl;
    focus = All-nil _;
    messages = All-nil _;
    message_count = omega arith;
    retain = tt;
    updates = All-nil _;
    updated_once = λ i j d less below. absurd (omega (arith, below));
  }

  zero-word : IsWord (codes "0")
  zero-word =
      let digit : IsDigit 48 = (omega arith, omega arith)
      in (omega arith, All-cons (λ b. IsLetter b ⊎ IsDigit b ⊎ (b ≡ 95)) 48 [] (inr (inl digit)) (All-nil _))

  its-edge : IsEdge (definitions_but names p) idle_edge
  its-edge = (omega arith, omega arith, omega arith)

  pub definitions-valid : IsValid p → IsValid (definitions_but names p)
  definitions-valid valid = record {
    preds = All-map (IsPred (definitions_but names p)) (core_if_named names) p.preds
        (λ k d lt. pred-kept _ (valid.preds k d lt));
    pred_names_differ = subst (AllPairs ◌≢◌) (sym names-kept) valid.pred_names_differ;
    pred_count = rw (length-map p.preds (core_if_named names)) valid.pred_count;
    rank = valid.rank;
    no_cycle = falls-kept valid.rank valid.no_cycle;
    rules = All-nil _;
    rule_count = omega arith;
    actions = All-cons (IsAction (definitions_but names p)) idle_action [] idle-action (All-nil _);
    edges = All-cons (IsEdge (definitions_but names p)) idle_edge [] its-edge (All-nil _);
    some_edge = omega arith;
    edge_count = omega arith;
    nodes = All-cons IsWord (codes "0") [] zero-word (All-nil _);
    node_names_differ = λ i j d less below. absurd (omega (arith, less, below));
    node_count = omega arith;
  }

  -- ---- the structure that comes of the definitions

  settled-kind : (d : PredForm) → is_settled names d ≡ true → kept_kind names d ≡ KCore
  settled-kind d = by (is_among names d.name) d.kind
    where
      by : (b : Bool) (kind : KindForm) → (is_core_kind kind || b) ≡ true → (if b then KCore else kind) ≡ KCore
      by true kind e = refl
      by false KCore e = refl
      by false (KDefined vars body) e = absurd cc

  missing-kind : (d : PredForm) (vars : List ℕ) (body : Form) → is_settled names d ≡ false → d.kind ≡ KDefined vars body
      → kept_kind names d ≡ KDefined vars body
  missing-kind d vars body settled k = by (is_among names d.name) d.kind settled k
    where
      by : (b : Bool) (kind : KindForm) → (is_core_kind kind || b) ≡ false → kind ≡ KDefined vars body
          → (if b then KCore else kind) ≡ KDefined vars body
      by true KCore e is = absurd cc
      by true (KDefined ws g) e is = absurd cc
      by false kind e is = is

  kept-at : (q : ℕ) (d : PredForm) → slice_get p.preds q ≡ Some d → kind_at (definitions_but names p) q ≡ kept_kind
      names d
  kept-at q d found = ap kind_or_core (found-kept q d found)

  pub completes : (s t : StructureForm) → IsRedefined (definitions_but names p) s t → Completes p names s t
  completes s t done = record {
    like = done.like;
    settled = λ q d found settled tuple. done.core q tuple (kept-at q d found ∙ settled-kind d settled);
    missing = λ q d found missing vars body k tuple within.
        done.defined q vars body (kept-at q d found ∙ missing-kind d vars body missing k) tuple within;
  }

-- ---- as programs

still-over : (names : List (List ℕ)) (program other : Program) → program_of other ≡ definitions_but names
    (program_of program)
    → (s : StructureForm) → IsOver program.vocab s → IsOver other.vocab s
still-over names program other is s over =
    over ∙ sym (map-compose pred_of (λ (d : PredForm). d.arity) program.vocab.preds)
    ∙ sym (arities-kept names (program_of program))
    ∙ sym (ap program_arities is)
    ∙ map-compose pred_of (λ (d : PredForm). d.arity) other.vocab.preds

module _ (names : List (List ℕ)) (program other : Program)
    (preds : map pred_of other.vocab.preds ≡ map (core_if_named names) (map pred_of program.vocab.preds))
    (rules : map rule_of other.rules ≡ []) (actions : map action_of other.actions ≡ idle_action ∷ [])
    (edges : other.edges ≡ idle_edge ∷ []) (nodes : other.nodes ≡ codes "0" ∷ []) where
  made : program_of other ≡ definitions_but names (program_of program)
  made = λ i. record { preds = preds i; rules = rules i; actions = actions i; edges = edges i; nodes = nodes i }

  pub made-valid : IsValid (program_of program) → IsValid (program_of other)
  made-valid valid = subst IsValid (sym made) (definitions-valid names (program_of program) valid)

  pub made-over : (s : StructureForm) → IsOver program.vocab s → IsOver other.vocab s
  made-over s over = still-over names program other made s over
