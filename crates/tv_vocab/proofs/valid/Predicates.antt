-- The predicates that resolution gives, with their definitions.
use Rattle.std.proofs.Common.{◌≡◌, ◌≢◌, ℕ, ◌<◌, ◌≤◌, false, get_or, List, [], ◌∷◌, ◌++◌, length, map, refl}
use Rattle.std.proofs.Common.{ap, sym, subst, ◌∙◌, arith, inl, inr, Ok, Option, Some, None}
use Rattle.std.specs.Prelude.{All, AllPairs, Contains, slice_get, unwrap_or}
use Rattle.std.specs.Option.{option_map}
use Rattle.std.proofs.lemmas.Bool.{false≢true}
use Rattle.std.proofs.lemmas.List.{length-map}
use Rattle.std.proofs.lemmas.List.Elements.{Contains-append_left, Contains-append_right}
use Rattle.std.proofs.lemmas.Option.{slice_get-map}
use Rattle.tv_tree.specs.Forms as tree
use Rattle.tv_model.specs.Form.{Form, FZero, FOne, FAtom, FIsNew, FSame, FNot, FAnd, FOr, FIff, FCond}
use Rattle.tv_model.specs.Form.{FExists, FForall, FClosure, Mentions}
use Rattle.tv_model.specs.Program.{ProgramForm, PredForm, KindForm, KCore, KDefined}
use Rattle.tv_model.specs.Valid.{IsPlainFormula, IsOver, AreVariables, IsKind, IsPred, IsRank, AreProperties}
use Rattle.tv_tree.specs.Spelled.{IsSpelledName}
use Rattle.tv_names.specs.declared.place.Others.TheVariants.{Any, Never, Once}
use Rattle.tv_names.specs.Refusal.{◌>>=◌, each}
use Rattle.tv_tree.specs.Names.{name_text}
use Rattle.tv_names.specs.Symbols.{SymbolForm, symbol_of}
use Rattle.tv_names.specs.Naming.{NamingForm, declared_all, no_names}
use Rattle.tv_names.specs.Resolving.{resolved}
use Rattle.tv_vocab.specs.Vocabulary as vocabulary
use Rattle.tv_vocab.specs.Vocabulary.{over, definition, kind, predicate, mentioned, mentioned_by, uses_of}
use Rattle.tv_vocab.specs.Vocabulary.{symbols, abs_at, props_of}
use Rattle.tv_vocab.specs.Cycles.{MentionsPred, has_cycle}
use Rattle.tv_vocab.proofs.CycleLaws.{ranks_unless_found}
use Rattle.tv_vocab.proofs.valid.Refusals.{ok_is, went}
use Rattle.tv_vocab.proofs.valid.Numbers.{IsHeld, IsSound, AreDeclared, declared_are, no_names_sound}
use Rattle.tv_vocab.proofs.valid.Parts.{AreSymbols, IsAllowed, AsKnown, AsAny, AsFurther}
use Rattle.tv_vocab.proofs.valid.Formulas.{formula_given}
use Rattle.tv_vocab.proofs.valid.Flags.{known_from}
use Rattle.tv_vocab.proofs.valid.Zips.{each_zip, zip_all, zip_map, zip_also}
use Rattle.tv_vocab.proofs.valid.Symbols.{IsDeclared, symbols_given, symbol_for, name_of, name_given}
use Rattle.tv_vocab.proofs.valid.Symbols.{not_reserved, properties_given, arities_given}

-- ---- formulas over some variables

pub never_any : Never ≡ Any → ⊥
never_any e = cc

pub never_once : Never ≡ Once → ⊥
never_once e = cc

allowed_over : (symbols : List SymbolForm) (vars : List ℕ) (t : NamingForm) (v : ℕ) → IsAllowed (over symbols vars) t v → Contains vars v
allowed_over symbols vars t v (AsKnown h) = known_from vars v h
allowed_over symbols vars t v (AsAny h) = absurd (never_any h)
allowed_over symbols vars t v (AsFurther h e) = absurd (never_once h)

pub held_among : (t : NamingForm) (vars : List ℕ) → ((k d : ℕ) → k < length vars → IsHeld t.slots (get_or vars k d)) → (v : ℕ) → Contains vars v → IsHeld t.slots v
held_among t vars held v h = subst (IsHeld t.slots) h.2 (held h.0 v h.1)

pub over_given : (p : ProgramForm) (symbols : List SymbolForm) (vars : List ℕ) (f : tree.Form) (s : NamingForm) (x : Form × NamingForm) → AreSymbols p symbols → IsSound s → ((v : ℕ) → Contains vars v → IsHeld s.slots v) → resolved (over symbols vars) f s ≡ Ok x → IsPlainFormula p x.0 × IsOver vars x.0
over_given p symbols vars f s x are sound held h =
    let gives = formula_given p f (over symbols vars) s x (record { sound = sound; symbols = are; known = λ v k. held v (known_from vars v k) }) h in
    ((gives.formed, λ k. false≢true (gives.new k)), λ v k. allowed_over symbols vars x.1 v (gives.free v k).allowed)

-- ---- definitions

arity_is : (params : List (List ℕ)) → length params ≤ 2 → vocabulary.arity_of params ≡ length params
arity_is [] le = refl
arity_is (v ∷ []) le = refl
arity_is (v ∷ w ∷ []) le = refl
arity_is (v ∷ w ∷ x ∷ more) le = absurd (omega arith)

pub variables_given : (s : NamingForm) (names : List (List ℕ)) (x : List ℕ × NamingForm) → AreDeclared s names x → AreVariables (length names) x.0
variables_given s names x are = (are.count, λ k d lt. (are.held k d lt).within, are.differ)

definition_given : (p : ProgramForm) (symbols : List SymbolForm) (params : List (List ℕ)) (body : tree.Form) (k : KindForm) → AreSymbols p symbols → definition symbols params body ≡ Ok k → IsKind p (length params) k
unfolding definition
definition_given p symbols params body k are h =
    let a = went (declared_all params no_names) (λ vars. resolved (over symbols vars.0) body vars.1 >>= λ f. Ok (KDefined vars.0 f.0)) k h in
    let b = went (resolved (over symbols a.x.0) body a.x.1) (λ f. Ok (KDefined a.x.0 f.0)) k a.rest in
    let vars = declared_are params no_names a.x no_names_sound a.gave in
    let formula = over_given p symbols a.x.0 body a.x.1 b.x are vars.after.sound (held_among a.x.1 a.x.0 vars.held) b.gave in
    subst (IsKind p (length params)) (ok_is (KDefined a.x.0 b.x.0) k b.rest) (variables_given no_names params a.x vars, formula.0, formula.1)

kind_given : (p : ProgramForm) (symbols : List SymbolForm) (params : List (List ℕ)) (body : Option tree.Form) (k : KindForm) → AreSymbols p symbols → kind symbols params body ≡ Ok k → IsKind p (length params) k
kind_given p symbols params None k are h = subst (IsKind p (length params)) (ok_is KCore k h) tt
kind_given p symbols params (Some body) k are h = definition_given p symbols params body k are h

-- ---- predicates

-- a predicate without its definition
record IsBare (symbols : List SymbolForm) (d : tree.PredForm) (y : PredForm) : Type 0 where
  kind : KindForm
  gave : vocabulary.kind symbols d.params d.body ≡ Ok kind
  is : ◌≡◌ {A = PredForm} (record { name = name_text d.name; arity = vocabulary.arity_of d.params; kind = kind; abs = abs_at (vocabulary.arity_of d.params) d.props; props = props_of d.props }) y

bare : (symbols : List SymbolForm) (d : tree.PredForm) (y : PredForm) → predicate symbols d ≡ Ok y → IsBare symbols d y
unfolding predicate
bare symbols d y h =
    let a = went (kind symbols d.params d.body) (λ k. Ok (record { name = name_text d.name; arity = vocabulary.arity_of d.params; kind = k; abs = abs_at (vocabulary.arity_of d.params) d.props; props = props_of d.props })) y h in
    record { kind = a.x; gave = a.gave; is = ok_is (record { name = name_text d.name; arity = vocabulary.arity_of d.params; kind = a.x; abs = abs_at (vocabulary.arity_of d.params) d.props; props = props_of d.props }) y a.rest }

predicate_arity : (symbols : List SymbolForm) (d : tree.PredForm) (y : PredForm) → IsDeclared d → predicate symbols d ≡ Ok y → y.arity ≡ length d.params
predicate_arity symbols d y declared h =
    let b = bare symbols d y h in
    ap (λ (e : PredForm). e.arity) (sym b.is) ∙ arity_is d.params declared.arity

predicate_name : (symbols : List SymbolForm) (d : tree.PredForm) (y : PredForm) → predicate symbols d ≡ Ok y → name_of (symbol_for d) ≡ y.name
predicate_name symbols d y h = ap (λ (e : PredForm). e.name) (bare symbols d y h).is

predicate_given : (p : ProgramForm) (symbols : List SymbolForm) (d : tree.PredForm) (y : PredForm) → AreSymbols p symbols → IsDeclared d → IsSpelledName d.name → predicate symbols d ≡ Ok y → IsPred p y
predicate_given p symbols d y are declared spelled h =
    let b = bare symbols d y h in
    let same = sym (arity_is d.params declared.arity) in
    let le = declared.arity in
    let words = not_reserved (name_text d.name) declared.free_name in
    subst (IsPred p) b.is
    (record {
      name = (name_given d.name spelled, words.0, words.1);
      arity = subst (λ (n : ℕ). n ≤ 2) same le;
      kind = subst (λ (n : ℕ). IsKind p n b.kind) same (kind_given p symbols d.params d.body b.kind are b.gave);
      props = subst (λ (n : ℕ). AreProperties n (props_of d.props)) same (properties_given (length d.params) d.props declared.fit);
    })

-- ---- ranks

mentions : (r : ℕ) (f : Form) → Mentions r f → Contains (mentioned f) r
mentions r FZero h = absurd h
mentions r FOne h = absurd h
mentions r (FAtom q vars) h = (0, omega arith, sym h)
mentions r (FIsNew v) h = absurd h
mentions r (FSame v w) h = absurd h
mentions r (FNot f) h = mentions r f h
mentions r (FAnd f g) (inl h) = Contains-append_left (mentioned f) (mentioned g) r (mentions r f h)
mentions r (FAnd f g) (inr h) = Contains-append_right (mentioned f) (mentioned g) r (mentions r g h)
mentions r (FOr f g) (inl h) = Contains-append_left (mentioned f) (mentioned g) r (mentions r f h)
mentions r (FOr f g) (inr h) = Contains-append_right (mentioned f) (mentioned g) r (mentions r g h)
mentions r (FIff f g) (inl h) = Contains-append_left (mentioned f) (mentioned g) r (mentions r f h)
mentions r (FIff f g) (inr h) = Contains-append_right (mentioned f) (mentioned g) r (mentions r g h)
mentions r (FCond c f g) (inl h) = Contains-append_left (mentioned c ++ mentioned f) (mentioned g) r (Contains-append_left (mentioned c) (mentioned f) r (mentions r c h))
mentions r (FCond c f g) (inr (inl h)) = Contains-append_left (mentioned c ++ mentioned f) (mentioned g) r (Contains-append_right (mentioned c) (mentioned f) r (mentions r f h))
mentions r (FCond c f g) (inr (inr h)) = Contains-append_right (mentioned c ++ mentioned f) (mentioned g) r (mentions r g h)
mentions r (FExists v f) h = mentions r f h
mentions r (FForall v f) h = mentions r f h
mentions r (FClosure from to left right f) h = mentions r f h

uses_at : (preds : List PredForm) (q : ℕ) (d : PredForm) (vars : List ℕ) (body : Form) → slice_get preds q ≡ Some d → d.kind ≡ KDefined vars body → slice_get (uses_of preds) q ≡ Some (mentioned body)
uses_at preds q d vars body at is =
    slice_get-map (λ (e : PredForm). mentioned_by e.kind) preds q ∙ ap (option_map (λ (e : PredForm). mentioned_by e.kind)) at ∙ ap (λ (k : KindForm). Some (mentioned_by k)) is

mentions_pred : (preds : List PredForm) (q : ℕ) (d : PredForm) (vars : List ℕ) (body : Form) → slice_get preds q ≡ Some d → d.kind ≡ KDefined vars body → (r : ℕ) → Mentions r body → MentionsPred (uses_of preds) q r
mentions_pred preds q d vars body at is r h =
    subst (λ (one : List ℕ). Contains one r) (sym (ap (λ (one : Option (List ℕ)). unwrap_or one []) (uses_at preds q d vars body at is))) (mentions r body h)

-- ---- all predicates

map_twice : (ds : List tree.PredForm) → map name_of (map symbol_for ds) ≡ map (λ d. name_of (symbol_for d)) ds
map_twice [] = refl
map_twice (d ∷ ds) = ap (λ (xs : List (List ℕ)). name_text d.name ∷ xs) (map_twice ds)

pub record AreValid (p : ProgramForm) (known : List SymbolForm) : Type 0 where
  pub symbols : AreSymbols p known
  pub preds : All (IsPred p) p.preds
  pub differ : AllPairs ◌≢◌ (map (λ d. d.name) p.preds)
  pub count : length p.preds ≤ 512
  pub rank : ℕ → ℕ
  pub no_cycle : IsRank p rank

pub vocabulary_valid : (p : ProgramForm) (ds : List tree.PredForm) (known : List SymbolForm) → All (λ (d : tree.PredForm). IsSpelledName d.name) ds → symbols ds ≡ Ok known → each (predicate known) ds ≡ Ok p.preds → has_cycle (uses_of p.preds) ≡ false → AreValid p known
vocabulary_valid p ds known spelled given defined none =
    let all = symbols_given ds known given in
    let zip = each_zip (predicate known) ds p.preds defined in
    let named = zip_map (λ x y. predicate known x ≡ Ok y) (λ d. name_of (symbol_for d)) (λ y. y.name) (λ d y h. predicate_name known d y h) ds p.preds zip in
    let arities = zip_also (λ x y. predicate known x ≡ Ok y) IsDeclared (λ d y. y.arity ≡ length d.params) (λ d y declared h. predicate_arity known d y declared h) ds p.preds zip all.declared in
    let are : AreSymbols p known = record { arities = λ name k h. arities_given ds p.preds arities name k (ap (symbol_of name) (sym all.is) ∙ h) } in
    let spelled_declared : All (λ d. IsDeclared d × IsSpelledName d.name) ds = λ k d lt. (all.declared k d lt, spelled k d lt) in
    let falling = ranks_unless_found (uses_of p.preds) none in
    let names : map name_of known ≡ map (λ d. d.name) p.preds = ap (map name_of) all.is ∙ map_twice ds ∙ named in
    let long = length-map p.preds (λ (d : PredForm). d.name) in
    let few = all.count in
    let same_length = ap length names in
    record {
      symbols = are;
      preds = zip_all (λ x y. predicate known x ≡ Ok y) (λ d. IsDeclared d × IsSpelledName d.name) (IsPred p) (λ d y q h. predicate_given p known d y are q.0 q.1 h) ds p.preds zip spelled_declared;
      differ = subst (AllPairs ◌≢◌) names all.differ;
      count = omega (arith, long, same_length, length-map known name_of, few);
      rank = falling.0;
      no_cycle = record { falls = λ q d at vars body is r h. falling.1 q r (mentions_pred p.preds q d vars body at is r h) };
    }
