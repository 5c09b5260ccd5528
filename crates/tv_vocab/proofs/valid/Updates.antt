-- The updates that resolution gives.
use Rattle.std.proofs.Common.{◌≡◌, ◌≢◌, ℕ, zero, suc, ◌<◌, Bool, true, false, not, ◌&&◌, ◌==◌, get_or, List}
use Rattle.std.proofs.Common.{[], ◌∷◌, ◌++◌, length, map, refl, ap, sym, subst, ◌∙◌, arith, inl, inr, Ok}
use Rattle.std.proofs.Common.{Option, Some, None, cond}
use Rattle.std.specs.Prelude.{All, AllPairs, Contains, slice_get}
use Rattle.std.specs.Option.{option_map}
use Rattle.std.proofs.lemmas.Bool.{eqb-true, eq-eqb, true≢false, false≢true, and_parts, or_parts, not-false}
use Rattle.std.proofs.lemmas.List.{map_push}
use Rattle.std.proofs.lemmas.Option.{slice_get-map}
use Rattle.std.proofs.lemmas.List.Elements.{All-nil, All-push, Contains-append_cases}
use Rattle.std.proofs.lemmas.List.Quantifiers.{all_pairs_push}
use Rattle.tv_tree.specs.Forms as tree
use Rattle.tv_tree.specs.Forms.{Nest, Single, Foreach}
use Rattle.tv_model.specs.Program.{ProgramForm, PredForm, KindForm, KCore, KDefined, ChangeForm, CFree, CTo}
use Rattle.tv_model.specs.Program.{UpdateForm, ActionForm, is_core_kind, is_core_pred}
use Rattle.tv_model.specs.Valid.{IsChange, IsUpdate, AreVariables, arity_of}
use Rattle.tv_names.specs.declared.refusal.ResolveError.TheVariants.{NameUnknown, NameTwice, ArityWrong}
use Rattle.tv_names.specs.declared.refusal.ResolveError.TheVariants.{Reserved, UpdateTwice}
use Rattle.tv_names.specs.Refusal.{◌>>=◌, OrRefused, refused_if, or_refused, one_by_one}
use Rattle.tv_tree.specs.Names.{name_text}
use Rattle.tv_names.specs.Symbols.{SymbolForm, KnownForm, is_reserved, symbol_of}
use Rattle.tv_names.specs.Naming.{NamingForm, declared_all}
use Rattle.tv_names.specs.Resolving.{resolved}
use Rattle.tv_vocab.specs.Vocabulary.{twice}
use Rattle.tv_vocab.specs.Actions.{PickingForm, updating, is_half, is_updated}
use Rattle.tv_vocab.specs.Actions.{change, update_of_pred, update, with_update}
use Rattle.tv_vocab.proofs.valid.Refusals.{ok_is, some_is, not_none, went, not_refused, was_some, after_each}
use Rattle.tv_vocab.proofs.valid.Numbers.{declared_are}
use Rattle.tv_vocab.proofs.valid.Parts.{AreSymbols, Stands, IsAllowed, AsKnown, AsAny, AsFurther}
use Rattle.tv_vocab.proofs.valid.Formulas.{formula_given}
use Rattle.tv_vocab.proofs.valid.Flags.{known_from_two}
use Rattle.tv_vocab.proofs.valid.Predicates.{never_any, never_once, held_among, variables_given}
use Rattle.tv_vocab.proofs.valid.Picked.{IsPicking}

-- ---- one update

abbrev OfArity : Option PredForm → ℕ → Type 0
OfArity o n = (d : PredForm) × (o ≡ Some d) × (d.arity ≡ n)

of_arity : (o : Option PredForm) (n : ℕ) → option_map (λ d. d.arity) o ≡ Some n → OfArity o n
of_arity None n e = absurd (not_none n e)
of_arity (Some d) n e = (d, refl, some_is d.arity n e)

core_kind : (k : KindForm) → is_core_kind k ≡ true → k ≡ KCore
core_kind KCore h = refl
core_kind (KDefined vars body) h = absurd (false≢true h)

allowed_in_update : (symbols : List SymbolForm) (fresh : Bool) (vars picks : List ℕ) (t : NamingForm) (v : ℕ) → IsAllowed (updating symbols fresh vars picks) t v → Contains (vars ++ picks) v
allowed_in_update symbols fresh vars picks t v (AsKnown h) = known_from_two vars picks v h
allowed_in_update symbols fresh vars picks t v (AsAny h) = absurd (never_any h)
allowed_in_update symbols fresh vars picks t v (AsFurther h e) = absurd (never_once h)

change_by : (p : ProgramForm) (symbols : List SymbolForm) (act : ActionForm) (d : PredForm) (vars picks : List ℕ) (f : tree.Form) (s : NamingForm) (b : Bool) (c : ChangeForm) → (b ≡ true → d.kind ≡ KCore) → Stands p (updating symbols act.fresh vars picks) s → picks ≡ act.picks → cond b (Ok CFree) (resolved (updating symbols act.fresh vars picks) f s >>= λ x. Ok (CTo x.0)) ≡ Ok c → IsChange p act d vars c
change_by p symbols act d vars picks f s true c core st same h = subst (IsChange p act d vars) (ok_is CFree c h) (core refl)
change_by p symbols act d vars picks f s false c core st same h =
    let at = updating symbols act.fresh vars picks in
    let a = went (resolved at f s) (λ x. Ok (CTo x.0)) c h in
    let gives = formula_given p f at s a.x st a.gave in
    subst (IsChange p act d vars) (ok_is (CTo a.x.0) c a.rest) (
      (gives.formed, gives.new),
      λ v k. subst (λ (ps : List ℕ). Contains (vars ++ ps) v) same (allowed_in_update symbols act.fresh vars picks a.x.1 v (gives.free v k).allowed),
    )

-- an update of a predicate that these don't update
record IsNewUpdate (p : ProgramForm) (act : ActionForm) (done : List UpdateForm) (w : UpdateForm) : Type 0 where
  is : IsUpdate p act w
  new : is_updated done w.pred ≡ false

changed : (p : ProgramForm) (symbols : List SymbolForm) (act : ActionForm) (picking : PickingForm) (done : List UpdateForm) (known : KnownForm) (params : List (List ℕ)) (body : tree.Form) (w : UpdateForm) → AreSymbols p symbols → arity_of p known.pred ≡ Some known.arity → IsPicking p picking → picking.picks ≡ act.picks → update_of_pred symbols p.preds act.fresh picking done known params body ≡ Ok w → IsNewUpdate p act done w
unfolding update_of_pred
changed p symbols act picking done known params body w are arity is same h =
    let core = is_core_pred (slice_get p.preds known.pred) in
    let with_vars : List ℕ × NamingForm → OrRefused UpdateForm = λ vars. change (updating symbols act.fresh vars.0 picking.picks) core body vars.1 >>= λ to. Ok (record { pred = known.pred; vars = vars.0; change = to }) in
    let new_pred : OrRefused UpdateForm = refused_if (is_updated done known.pred) UpdateTwice >>= λ c. declared_all params picking.picked >>= with_vars in
    let a = went (refused_if (not (length params == known.arity)) ArityWrong) (λ a. refused_if (twice params) NameTwice >>= λ b. new_pred) w h in
    let b = went (refused_if (twice params) NameTwice) (λ b. new_pred) w a.rest in
    let c = went (refused_if (is_updated done known.pred) UpdateTwice) (λ c. declared_all params picking.picked >>= with_vars) w b.rest in
    let e = went (declared_all params picking.picked) with_vars w c.rest in
    let at = updating symbols act.fresh e.x.0 picking.picks in
    let g = went (change at core body e.x.1) (λ to. Ok (record { pred = known.pred; vars = e.x.0; change = to })) w e.rest in
    let vars = declared_are params picking.picked e.x is.sound e.gave in
    let st : Stands p at e.x.1 = record {
      sound = vars.after.sound;
      symbols = are;
      known = λ v k. elim (Contains-append_cases e.x.0 picking.picks v (known_from_two e.x.0 picking.picks v k)) [
        | inl m ↦ held_among e.x.1 e.x.0 vars.held v m
        | inr m ↦ vars.after.held v (is.held v m)
      ];
    } in
    let d = of_arity (slice_get p.preds known.pred) known.arity (sym (slice_get-map (λ (e : PredForm). e.arity) p.preds known.pred) ∙ arity) in
    let as_long : length params ≡ known.arity = eqb-true (length params) known.arity (not-false (length params == known.arity) (not_refused (not (length params == known.arity)) ArityWrong a.x a.gave)) in
    let to = change_by p symbols act d.0 e.x.0 picking.picks body e.x.1 (is_half body && core) g.x
    (λ k. core_kind d.0.kind (ap is_core_pred (sym d.1) ∙ (and_parts (is_half body) core k).1)) st same g.gave in
    let made : UpdateForm = record { pred = known.pred; vars = e.x.0; change = g.x } in
    subst (IsNewUpdate p act done) (ok_is made w g.rest)
    (record {
      is = (d.0, d.1, subst (λ (n : ℕ). AreVariables n e.x.0) (as_long ∙ sym d.2) (variables_given picking.picked params e.x vars), to);
      new = not_refused (is_updated done known.pred) UpdateTwice c.x c.gave;
    })

update_given : (p : ProgramForm) (symbols : List SymbolForm) (act : ActionForm) (picking : PickingForm) (done : List UpdateForm) (u : tree.UpdateForm) (w : UpdateForm) → AreSymbols p symbols → IsPicking p picking → picking.picks ≡ act.picks → update symbols p.preds act.fresh picking done u ≡ Ok w → IsNewUpdate p act done w
unfolding update
update_given p symbols act picking done u w are is same h =
    let name = name_text u.name in
    let with_known : KnownForm → OrRefused UpdateForm = λ known. update_of_pred symbols p.preds act.fresh picking done known u.params u.body in
    let a = went (refused_if (is_reserved name) Reserved) (λ a. or_refused (symbol_of name symbols) NameUnknown >>= with_known) w h in
    let b = went (or_refused (symbol_of name symbols) NameUnknown) with_known w a.rest in
    let arity = are.arities name b.x (was_some (symbol_of name symbols) NameUnknown b.x b.gave) in
    changed p symbols act picking done b.x u.params u.body w are arity is same b.rest

-- ---- all updates

abbrev updated : List UpdateForm → List ℕ
updated done = map (λ w. w.pred) done

not_updated : (q : ℕ) (done : List UpdateForm) → is_updated done q ≡ false → (k d : ℕ) → k < length (updated done) → get_or (updated done) k d ≢ q
not_updated q [] h k d lt = absurd (omega arith)
not_updated q (w ∷ done) h zero d lt = λ same. true≢false (sym (eq-eqb w.pred q same) ∙ (or_parts (w.pred == q) (is_updated done q) h).0)
not_updated q (w ∷ done) h (suc k) d lt = not_updated q done (or_parts (w.pred == q) (is_updated done q) h).1 k d (omega arith)

pub record AreUpdates (p : ProgramForm) (act : ActionForm) (done : List UpdateForm) : Type 0 where
  pub all : All (IsUpdate p act) done
  pub once : AllPairs ◌≢◌ (map (λ w. w.pred) done)

updates_more : (p : ProgramForm) (symbols : List SymbolForm) (act : ActionForm) (picking : PickingForm) (done more : List UpdateForm) (u : Nest tree.UpdateForm) → AreSymbols p symbols → IsPicking p picking → picking.picks ≡ act.picks → AreUpdates p act done → with_update symbols p.preds act.fresh picking done u ≡ Ok more → AreUpdates p act more
updates_more p symbols act picking done more (Single u) are is same here h =
    let a = went (update symbols p.preds act.fresh picking done u) (λ w. Ok (done ++ w ∷ [])) more h in
    let w = update_given p symbols act picking done u a.x are is same a.gave in
    subst (AreUpdates p act) (ok_is (done ++ a.x ∷ []) more a.rest)
    (record {
      all = All-push (IsUpdate p act) done a.x here.all w.is;
      once = subst (AllPairs ◌≢◌) (sym (map_push (λ (x : UpdateForm). x.pred) done a.x))
          (all_pairs_push ◌≢◌ (updated done) a.x.pred here.once (not_updated a.x.pred done w.new));
    })
updates_more p symbols act picking done more (Foreach var members body) are is same here h = subst (AreUpdates p act) (ok_is done more h) here

pub updates_given : (p : ProgramForm) (symbols : List SymbolForm) (act : ActionForm) (picking : PickingForm) (us : List (Nest tree.UpdateForm)) (ws : List UpdateForm) → AreSymbols p symbols → IsPicking p picking → picking.picks ≡ act.picks → one_by_one (with_update symbols p.preds act.fresh picking) [] us ≡ Ok ws → AreUpdates p act ws
updates_given p symbols act picking us ws are is same h =
    let none : AreUpdates p act [] = record { all = All-nil (IsUpdate p act); once = λ i j d less lt. absurd (omega arith) } in
    after_each (with_update symbols p.preds act.fresh picking) (AreUpdates p act) (λ u. Unit {0}) (λ s t u q here given. updates_more p symbols act picking s t u are is same here given) us [] ws (λ k d lt. tt) none h
