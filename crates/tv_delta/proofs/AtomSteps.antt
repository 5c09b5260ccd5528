-- How atoms are opened: what is known of them, and the delta of a definition in place of an atom's.
use Rattle.std.proofs.Common.{ℕ, ◌≡◌, ◌∙◌, ◌+◌, ◌<◌, ◌≤◌, Bool, true, false, List, [], ◌∷◌, Option}
use Rattle.std.proofs.Common.{Some, None, Result, zero, suc, length, inl, inr, refl, sym, ap, subst, cond}
use Rattle.std.proofs.Common.{arith}
use Rattle.std.specs.Prelude.{slice_get, option_and_then, option_map, Contains}
use Rattle.std.specs.List.{zip}
use Rattle.std.proofs.lemmas.List.Elements.{All-contains}
use Rattle.std.proofs.lemmas.Option.{slice_get-map}
use Rattle.tv_model.specs.Form.{Form, FZero, FOne, FAtom, FIsNew, FSame, FNot, FAnd, FOr, FIff, FCond}
use Rattle.tv_model.specs.Form.{FExists, FForall, FClosure, Mentions, form_of, vars_of}
use Rattle.tv_model.specs.Program.{ProgramForm, PredForm, KDefined, program_of, action_of}
use Rattle.tv_model.specs.Valid.{IsValid, IsFormula, program_arities}
use Rattle.tv_model.specs.declared.formula.Formula.{Formula}
use Rattle.tv_delta_laws.specs.Deltas.{Delta as DeltaForm, is_flagged, unchanged, delta_of, delta_of_defined}
use Rattle.tv_delta_laws.specs.Deltas.{delta_by_kind, small_put}
use Rattle.tv_delta_laws.specs.Putting.{Arguments, Reserved, put_in}
use Rattle.tv_delta_laws.specs.Simple.{is_small}
use Rattle.tv_delta_laws.proofs.Options.{if-some}
use Rattle.tv_delta_form.proofs.Likes.{IsLike, put_like}
use Rattle.tv_delta_form.specs.declared.deltas.Delta.{Delta}
use Rattle.tv_delta_form.specs.declared.stop.Stop.{Stop}
use Rattle.tv_delta_form.specs.Views.{GivesFormed, delta_form}
use Rattle.tv_delta.specs.declared.opening.Opening.{Opening}
use Rattle.tv_delta.specs.declared.memo.Entry.{Entry}
use Rattle.tv_delta.proofs.Known.{known_is}
use Rattle.tv_delta.specs.declared.atoms.Start.{Start}
use Rattle.tv_delta.specs.declared.atoms.Start.TheVariants.{Done, Inside}
use Rattle.tv_delta.specs.Opening.{reserved_for, atom_at, lower_count, IsWithin, AreWithin, EndsWithin}
use Rattle.tv_delta.specs.Opening.{AreKnownAt, IsKnown, IsOf, Starts, StartsByKind}
use Rattle.tv_delta.proofs.Depth.{depth_is_enough, count-less, count-fewer, mentioned-below, mentioned-lower}
use Rattle.tv_delta.proofs.Depth.{mapped-length}

pub ruleset place_steps = (slice_get-map)

-- ---- what is known

pub known_gives : (o : Opening) (depth q : ℕ) (args : List ℕ) (e : Entry) (entries : List Entry) (r : Result Delta Stop)
    → AreKnownAt o entries → Contains entries e → IsOf e (vars_of o.own) q args
    → GivesFormed delta_form r (option_map delta_form e.delta) → GivesFormed delta_form r (atom_at o q args)
known_gives o depth q args e entries r known among of gives =
    subst (λ y. GivesFormed delta_form r y)
    (sym (known_is o e q args
    (All-contains (IsKnown o.program.now o.action.now o.affected.now) entries e known among) of)) gives

-- ---- one more definition changes nothing

abbrev by-pred : Opening → (q : ℕ) (args : List ℕ) → Option PredForm → Option DeltaForm
by-pred o q args found =
    option_and_then
    (λ (d : PredForm). delta_by_kind (reserved_for o) o.affected.now (action_of o.action.now) (atom_at o) q args d.kind)
    found

unrolled : (o : Opening) (q : ℕ) (args : List ℕ) → IsValid (program_of o.program.now)
    → q < length (program_of o.program.now).preds
    → atom_at o q args
    ≡ cond (is_flagged o.affected.now q) (by-pred o q args (slice_get (program_of o.program.now).preds q))
    (unchanged (FAtom q args))
unrolled o q args valid below =
    let p : ProgramForm = program_of o.program.now
    in let more : length p.preds ≤ suc (length p.preds) = omega arith
    in sym (depth_is_enough p (action_of o.action.now) (reserved_for o) o.affected.now (suc (length p.preds)) q args
    valid below more)

pub unflagged_is : (o : Opening) (depth q : ℕ) (args : List ℕ) (r : Result Delta Stop) → is_flagged o.affected.now q ≡ false
    → EndsWithin (program_of o.program.now) depth (FAtom q args) → GivesFormed delta_form r (unchanged (FAtom q args))
    → GivesFormed delta_form r (atom_at o q args)
unflagged_is o depth q args r off ends gives =
    let is : atom_at o q args ≡ unchanged (FAtom q args)
    = unrolled o q args ends.0 ends.1.0
    ∙ ap (λ b. cond b (by-pred o q args (slice_get (program_of o.program.now).preds q)) (unchanged (FAtom q args))) off
    in subst (λ y. GivesFormed delta_form r y) (sym is) gives

opened-is : (o : Opening) (depth q : ℕ) (args : List ℕ) (d : PredForm) → is_flagged o.affected.now q ≡ true
    → slice_get (program_of o.program.now).preds q ≡ Some d → EndsWithin (program_of o.program.now) depth (FAtom q args)
    → atom_at o q args
    ≡ delta_by_kind (reserved_for o) o.affected.now (action_of o.action.now) (atom_at o) q args d.kind
opened-is o depth q args d on found ends =
    unrolled o q args ends.0 ends.1.0
    ∙ ap (λ b. cond b (by-pred o q args (slice_get (program_of o.program.now).preds q)) (unchanged (FAtom q args))) on
    ∙ ap (by-pred o q args) found

-- ---- a definition with arguments put in

put-of : (b : Bool) (o : Option Form) (x : Form) → cond b o None ≡ Some x → o ≡ Some x
put-of true o x e = e
put-of false o x e = absurd (cc e)

within-all : (rank : ℕ → ℕ) (n depth : ℕ) (f : Form) → ((q : ℕ) → Mentions q f → IsWithin rank n depth q)
    → AreWithin rank n depth f
within-all rank n depth FZero each = tt
within-all rank n depth FOne each = tt
within-all rank n depth (FAtom q vars) each = each q refl
within-all rank n depth (FIsNew v) each = tt
within-all rank n depth (FSame v w) each = tt
within-all rank n depth (FNot f) each = within-all rank n depth f each
within-all rank n depth (FAnd f g) each =
    (within-all rank n depth f (λ q m. each q (inl m)), within-all rank n depth g (λ q m. each q (inr m)))
within-all rank n depth (FOr f g) each =
    (within-all rank n depth f (λ q m. each q (inl m)), within-all rank n depth g (λ q m. each q (inr m)))
within-all rank n depth (FIff f g) each =
    (within-all rank n depth f (λ q m. each q (inl m)), within-all rank n depth g (λ q m. each q (inr m)))
within-all rank n depth (FCond c f g) each = (
  within-all rank n depth c (λ q m. each q (inl m)),
  (
    within-all rank n depth f (λ q m. each q (inr (inl m))),
    within-all rank n depth g (λ q m. each q (inr (inr m))),
  ),
)
within-all rank n depth (FExists v f) each = within-all rank n depth f each
within-all rank n depth (FForall v f) each = within-all rank n depth f each
within-all rank n depth (FClosure from to left right f) each = within-all rank n depth f each

put-alike : (r : Reserved) (body x : Form) (m : Arguments) → small_put r body m ≡ Some x → IsLike body x
put-alike r body x m put =
    if-some (IsLike body) (put_in r body m) x (put_like r body m) (put-of (is_small body) (put_in r body m) x put)

-- no chain of definitions is longer than the vocabulary
pub put_ends : (o : Opening) (vars : List ℕ) (body x : Form) (n : ℕ) → IsValid (program_of o.program.now)
    → IsFormula (program_of o.program.now) body → small_put (reserved_for o) body (zip vars (vars_of o.own)) ≡ Some x
    → n ≡ length (program_of o.program.now).preds → EndsWithin (program_of o.program.now) n x
put_ends o vars body x n valid formula put all =
    (valid, within-all valid.rank (length p.preds) n x within)
  where
    p : ProgramForm
    p = program_of o.program.now

    like : IsLike body x
    like = put-alike (reserved_for o) body x (zip vars (vars_of o.own)) put

    within : (s : ℕ) → Mentions s x → IsWithin valid.rank (length p.preds) n s
    within s mentions =
        let under : s < length (program_arities p)
        = mentioned-below (program_arities p) body formula s (like.mentions_same s mentions)
        in let below : s < length p.preds = omega (arith, under, mapped-length p.preds)
        in let le : valid.rank s ≤ valid.rank s = omega arith
        in let fewer : lower_count valid.rank (valid.rank s) (length p.preds) < length p.preds
        = count-fewer valid.rank (valid.rank s) (length p.preds) s below le
        in (below, omega (arith, fewer, all))

-- chains of definitions are shorter inside a definition
inside-ends : (o : Opening) (n q : ℕ) (args : List ℕ) (d : PredForm) (vars : List ℕ) (body x : Form)
    → slice_get (program_of o.program.now).preds q ≡ Some d → d.kind ≡ KDefined vars body
    → small_put (reserved_for o) body (zip vars args) ≡ Some x
    → EndsWithin (program_of o.program.now) (n + 1) (FAtom q args) → EndsWithin (program_of o.program.now) n x
inside-ends o n q args d vars body x found kind put ends =
    (valid, within-all valid.rank (length p.preds) n x within)
  where
    p : ProgramForm
    p = program_of o.program.now

    valid : IsValid p
    valid = ends.0

    like : IsLike body x
    like = put-alike (reserved_for o) body x (zip vars args) put

    within : (s : ℕ) → Mentions s x → IsWithin valid.rank (length p.preds) n s
    within s mentions =
        let is : (s < length p.preds) × (valid.rank s < valid.rank q)
        = mentioned-lower p valid q d vars body found kind s (like.mentions_same s mentions)
        in let le : valid.rank s ≤ valid.rank s = omega arith
        in let fewer : lower_count valid.rank (valid.rank s) (length p.preds)
        < lower_count valid.rank (valid.rank q) (length p.preds)
        = count-less valid.rank (valid.rank s) (valid.rank q) (length p.preds) s is.0 le is.1
        in let whole : lower_count valid.rank (valid.rank q) (length p.preds) < n + 1 = ends.1.1
        in (is.0, omega (arith, fewer, whole))

-- ---- what is told of an atom

starts-inside : (o : Opening) (depth q : ℕ) (args : List ℕ) (d : PredForm) (x : Formula) → is_flagged o.affected.now q ≡ true
    → slice_get (program_of o.program.now).preds q ≡ Some d → StartsByKind o q args d.kind (Inside x)
    → EndsWithin (program_of o.program.now) depth (FAtom q args) → Starts o depth q args (Inside x)
starts-inside o zero q args d x on found (vars, body, kind, put, small) ends = absurd (let less = ends.1.1 in omega (arith, less))
starts-inside o (suc n) q args d x on found (vars, body, kind, put, small) ends =
    let one : suc n ≡ n + 1 = omega arith
    in let its : EndsWithin (program_of o.program.now) (n + 1) (FAtom q args)
    = subst (λ m. EndsWithin (program_of o.program.now) m (FAtom q args)) one ends
    in let inner : ℕ → List ℕ → Option DeltaForm = atom_at o
    in (
      n,
      one,
      small,
      inside-ends o n q args d vars body (form_of x) found kind put its,
      opened-is o (n + 1) q args d on found its
          ∙ ap (delta_by_kind (reserved_for o) o.affected.now (action_of o.action.now) inner q args) kind
          ∙ ap (λ y. option_and_then (delta_of_defined (FAtom q args)) (option_and_then (delta_of inner o.affected.now) y)) put,
    )

pub starts : (o : Opening) (depth q : ℕ) (args : List ℕ) (d : PredForm) (start : Start)
    → slice_get (program_of o.program.now).preds q ≡ Some d → StartsByKind o q args d.kind start
    → is_flagged o.affected.now q ≡ true → EndsWithin (program_of o.program.now) depth (FAtom q args)
    → Starts o depth q args start
starts o depth q args d (Done r) found by on ends =
    subst (λ y. GivesFormed delta_form r y) (sym (opened-is o depth q args d on found ends)) by
starts o depth q args d (Inside x) found by on ends = starts-inside o depth q args d x on found by ends

there-is : {X : Type 0} (xs : List X) (q : ℕ) → slice_get xs q ≡ None → q < length xs → ⊥
there-is [] q none below = omega (arith, below)
there-is (x ∷ xs) zero none below = cc none
there-is (x ∷ xs) (suc q) none below = let less : q < length xs = omega (arith, below) in there-is xs q none less

-- a predicate of the vocabulary is there
pub starts_nowhere : (o : Opening) (depth q : ℕ) (args : List ℕ) (start : Start)
    → slice_get (program_of o.program.now).preds q ≡ None → EndsWithin (program_of o.program.now) depth (FAtom q args)
    → Starts o depth q args start
starts_nowhere o depth q args start none ends =
    absurd (there-is (program_of o.program.now).preds q none ends.1.0)
