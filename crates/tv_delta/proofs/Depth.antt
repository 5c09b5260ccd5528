-- More depth changes no delta.
use Rattle.std.proofs.Common.{ℕ, ◌≡◌, ◌∙◌, ◌⊎◌, ◌<◌, ◌≤◌, Bool, true, false, List, [], ◌∷◌, Option, Some}
use Rattle.std.proofs.Common.{None, length, zero, suc, inl, inr, ⊎_elim, refl, sym, ap, subst, cond, arith}
use Rattle.std.specs.Prelude.{slice_get, option_and_then, nat_lt, map}
use Rattle.std.specs.List.{zip}
use Rattle.std.proofs.lemmas.Bool.{ltb-true, ltb-false, lt-ltb, le-ltb}
use Rattle.tv_model.specs.Form.{Form, FZero, FOne, FAtom, FIsNew, FSame, FNot, FAnd, FOr, FIff, FCond}
use Rattle.tv_model.specs.Form.{FExists, FForall, FClosure, Mentions}
use Rattle.tv_model.specs.Program.{ProgramForm, PredForm, KindForm, KCore, KDefined, ActionForm}
use Rattle.tv_model.specs.Valid.{IsValid, IsKind, IsFormulaOver, program_arities}
use Rattle.tv_delta_laws.specs.Deltas.{Delta, delta_of, negated, both, either, some, every, unchanged}
use Rattle.tv_delta_laws.specs.Deltas.{is_flagged, atom_delta, delta_by_kind, delta_of_defined}
use Rattle.tv_delta_laws.specs.Putting.{Reserved, put_in}
use Rattle.tv_delta_laws.specs.Simple.{is_small}
use Rattle.tv_delta_laws.proofs.AtomTruths.{its-kind}
use Rattle.tv_delta_laws.proofs.Options.{if-some}
use Rattle.tv_delta_form.proofs.Likes.{IsLike, put_like}
use Rattle.tv_delta.specs.Laws.{DepthIsEnough}
use Rattle.tv_delta.specs.Opening.{lower_count}
use Rattle.tv_model.proofs.Lists.{slice_get-below}

-- ---- a delta depends on the deltas of the atoms that stand there

abbrev pub Atoms : Type 0
Atoms = ℕ → List ℕ → Option Delta

local-two : (f : Option Delta → Option Delta → Option Delta) (a b c d : Option Delta) → a ≡ b → c ≡ d → f a c ≡ f b d
local-two f a b c d e g = ap (λ x. f x c) e ∙ ap (f b) g

delta-local : (a b : Atoms) (affected : List Bool) (f : Form)
    → ((q : ℕ) (args : List ℕ) → Mentions q f → a q args ≡ b q args) → delta_of a affected f ≡ delta_of b affected f
delta-local a b affected FZero same = refl
delta-local a b affected FOne same = refl
delta-local a b affected (FAtom q vars) same = same q vars refl
delta-local a b affected (FIsNew v) same = refl
delta-local a b affected (FSame v w) same = refl
delta-local a b affected (FNot f) same = ap negated (delta-local a b affected f same)
delta-local a b affected (FAnd f g) same =
    local-two both (delta_of a affected f) (delta_of b affected f) (delta_of a affected g) (delta_of b affected g)
    (delta-local a b affected f (λ q args m. same q args (inl m)))
    (delta-local a b affected g (λ q args m. same q args (inr m)))
delta-local a b affected (FOr f g) same =
    local-two either (delta_of a affected f) (delta_of b affected f) (delta_of a affected g) (delta_of b affected g)
    (delta-local a b affected f (λ q args m. same q args (inl m)))
    (delta-local a b affected g (λ q args m. same q args (inr m)))
delta-local a b affected (FIff f g) same =
    local-two (λ x y. both (either (negated x) y) (either (negated y) x)) (delta_of a affected f) (delta_of b affected f)
    (delta_of a affected g) (delta_of b affected g)
    (delta-local a b affected f (λ q args m. same q args (inl m)))
    (delta-local a b affected g (λ q args m. same q args (inr m)))
delta-local a b affected (FCond c f g) same =
    ap (λ x. either (both x (delta_of a affected f)) (both (negated x) (delta_of a affected g)))
    (delta-local a b affected c (λ q args m. same q args (inl m)))
    ∙ local-two (λ x y. either (both (delta_of b affected c) x) (both (negated (delta_of b affected c)) y))
    (delta_of a affected f) (delta_of b affected f) (delta_of a affected g) (delta_of b affected g)
    (delta-local a b affected f (λ q args m. same q args (inr (inl m))))
    (delta-local a b affected g (λ q args m. same q args (inr (inr m))))
delta-local a b affected (FExists v f) same = ap (some v) (delta-local a b affected f same)
delta-local a b affected (FForall v f) same = ap (every v) (delta-local a b affected f same)
delta-local a b affected (FClosure from to left right f) same = refl

-- ---- how many predicates have a lower rank

one-le : (x k m : ℕ) → k ≤ m → cond (nat_lt x k) 1 0 ≤ cond (nat_lt x m) 1 0
one-le x k m le = go (nat_lt x k) refl (nat_lt x m) refl
  where
    go : (b : Bool) → nat_lt x k ≡ b → (c : Bool) → nat_lt x m ≡ c → cond b 1 0 ≤ cond c 1 0
    go true e true f = omega arith
    go false e c f = omega arith
    go true e false f =
        let less : x < k = ltb-true x k e
        in let more : m ≤ x = ltb-false x m f
        in absurd (omega arith)

at-most-one : (b : Bool) → cond b 1 0 ≤ 1
at-most-one true = omega arith
at-most-one false = omega arith

count-le : (rank : ℕ → ℕ) (k m n : ℕ) → k ≤ m → lower_count rank k n ≤ lower_count rank m n
count-le rank k m zero le = omega arith
count-le rank k m (suc n) le = omega (arith, count-le rank k m n le, one-le (rank n) k m le)

count-all : (rank : ℕ → ℕ) (k n : ℕ) → lower_count rank k n ≤ n
count-all rank k zero = omega arith
count-all rank k (suc n) = omega (arith, count-all rank k n, at-most-one (nat_lt (rank n) k))

one-less : (x k m : ℕ) → k ≤ x → x < m → cond (nat_lt x k) 1 0 < cond (nat_lt x m) 1 0
one-less x k m le less = rw (le-ltb x k le, lt-ltb x m less) (omega arith)

none-here : (x k : ℕ) → k ≤ x → ◌≡◌ {A = ℕ} (cond (nat_lt x k) 1 0) 0
none-here x k le = rw (le-ltb x k le) refl

split : (x n : ℕ) → x < suc n → (x ≡ n) ⊎ (x < n)
split x n less = go (nat_lt x n) refl
  where
    go : (b : Bool) → nat_lt x n ≡ b → (x ≡ n) ⊎ (x < n)
    go true e = inr (ltb-true x n e)
    go false e = let more : n ≤ x = ltb-false x n e in inl (omega arith)

pub count-less : (rank : ℕ → ℕ) (k m n x : ℕ) → x < n → k ≤ rank x → rank x < m
    → lower_count rank k n < lower_count rank m n
count-less rank k m zero x below le less = absurd (omega arith)
count-less rank k m (suc n) x below le less =
    ⊎_elim
    (λ here. let at : k ≤ rank n = subst (λ i. k ≤ rank i) here le
    in let its : rank n < m = subst (λ i. rank i < m) here less
    in let wide : k ≤ m = omega arith
    in omega (arith, count-le rank k m n wide, one-less (rank n) k m at its))
    (λ before. let wide : k ≤ m = omega arith
    in omega (arith, count-less rank k m n x before le less, one-le (rank n) k m wide))
    (split x n below)

pub count-fewer : (rank : ℕ → ℕ) (k n x : ℕ) → x < n → k ≤ rank x → lower_count rank k n < n
count-fewer rank k zero x below le = absurd (omega arith)
count-fewer rank k (suc n) x below le =
    ⊎_elim
    (λ here. let at : k ≤ rank n = subst (λ i. k ≤ rank i) here le
    in omega (arith, count-all rank k n, none-here (rank n) k at))
    (λ before. omega (arith, count-fewer rank k n x before le, at-most-one (nat_lt (rank n) k)))
    (split x n below)

-- ---- predicates of a valid program

pub mapped-length : (preds : List PredForm) → length (map (λ (d : PredForm). d.arity) preds) ≡ length preds
mapped-length [] = refl
mapped-length (d ∷ preds) = ap suc (mapped-length preds)

pub mentioned-below : (arities : List ℕ) (f : Form) → IsFormulaOver arities f → (q : ℕ) → Mentions q f → q < length arities
mentioned-below arities FZero is q m = absurd m
mentioned-below arities FOne is q m = absurd m
mentioned-below arities (FAtom r vars) is q m =
    subst (λ x. x < length arities) (sym m) (slice_get-below arities r (length vars) is.0)
mentioned-below arities (FIsNew v) is q m = absurd m
mentioned-below arities (FSame v w) is q m = absurd m
mentioned-below arities (FNot f) is q m = mentioned-below arities f is q m
mentioned-below arities (FAnd f g) is q m =
    ⊎_elim (mentioned-below arities f is.0 q) (mentioned-below arities g is.1 q) m
mentioned-below arities (FOr f g) is q m =
    ⊎_elim (mentioned-below arities f is.0 q) (mentioned-below arities g is.1 q) m
mentioned-below arities (FIff f g) is q m =
    ⊎_elim (mentioned-below arities f is.0 q) (mentioned-below arities g is.1 q) m
mentioned-below arities (FCond c f g) is q m =
    ⊎_elim (mentioned-below arities c is.0 q)
    (λ t. ⊎_elim (mentioned-below arities f is.1 q) (mentioned-below arities g is.2 q) t) m
mentioned-below arities (FExists v f) is q m = mentioned-below arities f is.1 q m
mentioned-below arities (FForall v f) is q m = mentioned-below arities f is.1 q m
mentioned-below arities (FClosure from to left right f) is q m = mentioned-below arities f is.5 q m

-- ---- depth

-- the definition of q mentions predicates of the vocabulary alone, and of lower ranks
pub mentioned-lower : (p : ProgramForm) (valid : IsValid p) (q : ℕ) (d : PredForm) (vars : List ℕ) (body : Form)
    → slice_get p.preds q ≡ Some d → d.kind ≡ KDefined vars body → (s : ℕ) → Mentions s body
    → (s < length p.preds) × (valid.rank s < valid.rank q)
mentioned-lower p valid q d vars body found kind s mentions =
    let its : IsKind p d.arity (KDefined vars body) = its-kind p valid q d vars body found kind
    in let below : s < length (program_arities p) = mentioned-below (program_arities p) body its.1.0 s mentions
    in (
      omega (arith, below, mapped-length p.preds),
      valid.no_cycle.falls q d found vars body kind s mentions,
    )

deeper : (p : ProgramForm) (action : ActionForm) (r : Reserved) (affected : List Bool) (valid : IsValid p)
    (n m q : ℕ) (args : List ℕ) → lower_count valid.rank (valid.rank q) (length p.preds) < suc n
    → lower_count valid.rank (valid.rank q) (length p.preds) < suc m
    → ((s : ℕ) (given : List ℕ) → s < length p.preds → lower_count valid.rank (valid.rank s) (length p.preds) < n
    → lower_count valid.rank (valid.rank s) (length p.preds) < m
    → atom_delta n p action r affected s given ≡ atom_delta m p action r affected s given)
    → atom_delta (suc n) p action r affected q args ≡ atom_delta (suc m) p action r affected q args
deeper p action r affected valid n m q args deep wide same =
    ap (λ o. cond (is_flagged affected q) o (unchanged (FAtom q args))) (by_pred (slice_get p.preds q) refl)
  where
    lower : (d : PredForm) → slice_get p.preds q ≡ Some d → (vars : List ℕ) (body : Form) → d.kind ≡ KDefined vars body
        → (s : ℕ) (given : List ℕ) → Mentions s body
        → atom_delta n p action r affected s given ≡ atom_delta m p action r affected s given
    lower d found vars body kind s given mentions =
        let is : (s < length p.preds) × (valid.rank s < valid.rank q)
        = mentioned-lower p valid q d vars body found kind s mentions
        in let le : valid.rank s ≤ valid.rank s = omega arith
        in let fewer : lower_count valid.rank (valid.rank s) (length p.preds)
        < lower_count valid.rank (valid.rank q) (length p.preds)
        = count-less valid.rank (valid.rank s) (valid.rank q) (length p.preds) s is.0 le is.1
        in same s given is.0 (omega arith) (omega arith)

    by_put : (d : PredForm) → slice_get p.preds q ≡ Some d → (vars : List ℕ) (body : Form) → d.kind ≡ KDefined vars body
        → (b : Bool) → (o : Option Form) → put_in r body (zip vars args) ≡ o
        → option_and_then (delta_of (atom_delta n p action r affected) affected) (cond b o None)
        ≡ option_and_then (delta_of (atom_delta m p action r affected) affected) (cond b o None)
    by_put d found vars body kind false o put = refl
    by_put d found vars body kind true None put = refl
    by_put d found vars body kind true (Some x) put =
        let like : IsLike body x
        = if-some (IsLike body) (put_in r body (zip vars args)) x (put_like r body (zip vars args)) put
        in delta-local (atom_delta n p action r affected) (atom_delta m p action r affected) affected x
        (λ s given mentions. lower d found vars body kind s given (like.mentions_same s mentions))

    by_kind : (d : PredForm) → slice_get p.preds q ≡ Some d → (k : KindForm) → d.kind ≡ k
        → delta_by_kind r affected action (atom_delta n p action r affected) q args k
        ≡ delta_by_kind r affected action (atom_delta m p action r affected) q args k
    by_kind d found KCore kind = refl
    by_kind d found (KDefined vars body) kind =
        ap (option_and_then (delta_of_defined (FAtom q args)))
        (by_put d found vars body kind (is_small body) (put_in r body (zip vars args)) refl)

    by_pred : (o : Option PredForm) → slice_get p.preds q ≡ o
        → option_and_then (λ (d : PredForm). delta_by_kind r affected action (atom_delta n p action r affected) q args d.kind) o
        ≡ option_and_then (λ (d : PredForm). delta_by_kind r affected action (atom_delta m p action r affected) q args d.kind) o
    by_pred None found = refl
    by_pred (Some d) found = by_kind d found d.kind refl

depth : (p : ProgramForm) (action : ActionForm) (r : Reserved) (affected : List Bool) (valid : IsValid p)
    (n m q : ℕ) (args : List ℕ) → q < length p.preds → lower_count valid.rank (valid.rank q) (length p.preds) < n
    → lower_count valid.rank (valid.rank q) (length p.preds) < m
    → atom_delta n p action r affected q args ≡ atom_delta m p action r affected q args
depth p action r affected valid zero m q args below deep wide = absurd (omega arith)
depth p action r affected valid (suc n) zero q args below deep wide = absurd (omega arith)
depth p action r affected valid (suc n) (suc m) q args below deep wide =
    deeper p action r affected valid n m q args deep wide
    (λ s given its less more. depth p action r affected valid n m s given its less more)

pub depth_is_enough : DepthIsEnough
depth_is_enough p action r affected n q args valid below deep =
    let le : valid.rank q ≤ valid.rank q = omega arith
    in let few : lower_count valid.rank (valid.rank q) (length p.preds) < length p.preds
    = count-fewer valid.rank (valid.rank q) (length p.preds) q below le
    in depth p action r affected valid n (length p.preds) q args below (omega arith) few
