-- Resolution of one formula: names become numbers, in reading order, and the first refusal decides.
use Rattle.std.specs.Prelude.{ℕ, Bool, true, false, ◌&&◌, not, ◌==◌, List, [], ◌∷◌, ◌++◌, length, Option}
use Rattle.std.specs.Prelude.{Some, None, Ok, Err, get_or, slice_set, if◌then◌else◌}
use Rattle.std.specs.Str.{bytes_eq}
use Rattle.tv_tree.specs.Forms as tree
use Rattle.tv_tree.specs.Forms.{NameForm}
use Rattle.tv_tree.specs.Names.{is_among, name_text}
use Rattle.tv_model.specs.Form.{Form, FZero, FOne, FAtom, FIsNew, FSame, FNot, FAnd, FOr, FIff, FCond}
use Rattle.tv_model.specs.Form.{FExists, FForall, FClosure}
use Rattle.tv_names.specs.declared.refusal.ResolveError.TheVariants.{NameUnknown, NameTwice, ArityWrong}
use Rattle.tv_names.specs.declared.refusal.ResolveError.TheVariants.{Reserved, VariableUnbound, HalfLiteral}
use Rattle.tv_names.specs.declared.place.Others.{Others}
use Rattle.tv_names.specs.declared.place.Others.TheVariants.{Any, Never, Once}
use Rattle.tv_names.specs.Refusal.{◌>>=◌, OrRefused, refused_if, or_refused}
use Rattle.tv_names.specs.Symbols.{SymbolForm, is_sm, is_new_word, symbol_of}
use Rattle.tv_names.specs.Naming.{NamingForm, number_of, sighted, own_pair}

-- Where a formula stands: the predicates, whether `isNew` is allowed, which variables are known, by number,
-- since a quantifier around binds them or they are allowed to be free, and which others may be free.
pub record PlaceForm : Type 0 where
  pub symbols : List SymbolForm
  pub with_new : Bool
  pub known : List Bool
  pub others : Others

abbrev pub Numbered : Type 0 → Type 0
Numbered A = OrRefused (A × NamingForm)

abbrev pub is_known_at : List Bool → Option ℕ → Bool
is_known_at known None = false
is_known_at known (Some n) = get_or known n false

-- the one further variable is this one, or there is none yet
abbrev pub is_the_further : Option ℕ → Option ℕ → Bool
is_the_further None n = true
is_the_further (Some m) None = false
is_the_further (Some m) (Some n) = m == n

abbrev pub noted : ℕ × NamingForm → ℕ × NamingForm
noted x = (x.0, record x.1 { further = Some x.0 })

-- an occurrence of a variable that isn't known
abbrev pub other_variable : Others → List ℕ → NamingForm → Numbered ℕ
other_variable Any name s = sighted name s
other_variable Never name s = Err VariableUnbound
other_variable Once name s =
    if is_the_further s.further (number_of name s.slots) then (sighted name s >>= λ x. Ok (noted x))
    else Err VariableUnbound

-- an occurrence of a variable
unfoldable pub occurrence : PlaceForm → List ℕ → NamingForm → Numbered ℕ
occurrence at name s =
    if is_known_at at.known (number_of name s.slots) then sighted name s else other_variable at.others name s

-- the two arguments of a predicate or of an equality
unfoldable pub two_occurrences : PlaceForm → List ℕ → List ℕ → NamingForm → Numbered (ℕ × ℕ)
two_occurrences at v w s = do
  a ← occurrence at v s
  b ← occurrence at w a.1
  Ok ((a.0, b.0), b.1)

-- the arguments of an atom; no predicate has more than two
abbrev pub terms : PlaceForm → List (List ℕ) → NamingForm → Numbered (List ℕ)
terms at [] s = Ok ([], s)
terms at (v ∷ []) s = occurrence at v s >>= λ a. Ok (a.0 ∷ [], a.1)
terms at (v ∷ w ∷ []) s = two_occurrences at v w s >>= λ x. Ok (x.0.0 ∷ x.0.1 ∷ [], x.1)
terms at (v ∷ w ∷ x ∷ more) s = Err ArityWrong

-- the predicate of an atom with this many arguments
unfoldable pub pred_at : PlaceForm → List ℕ → (arguments : ℕ) → OrRefused ℕ
pred_at at name arguments = do
  known ← or_refused (symbol_of name at.symbols) NameUnknown
  right ← refused_if (not (known.arity == arguments)) ArityWrong
  Ok known.pred

-- the atom `isNew(..)`, where it is allowed
abbrev pub new_atom : PlaceForm → List (List ℕ) → NamingForm → Numbered Form
new_atom at [] s = Err ArityWrong
new_atom at (v ∷ []) s = occurrence at v s >>= λ a. Ok (FIsNew a.0, a.1)
new_atom at (v ∷ w ∷ more) s = Err ArityWrong

unfoldable pub pred_atom : PlaceForm → List ℕ → List (List ℕ) → NamingForm → Numbered Form
pred_atom at name arguments s = do
  pred ← pred_at at name (length arguments)
  vars ← terms at arguments s
  Ok (FAtom pred vars.0, vars.1)

unfoldable pub atom : PlaceForm → List ℕ → List (List ℕ) → NamingForm → Numbered Form
atom at name arguments s = do
  fine ← refused_if (is_sm name) Reserved
  if is_new_word name && at.with_new then new_atom at arguments s else pred_atom at name arguments s

-- the predicate of `p*` and `p+`, which has two variables
unfoldable pub closable : PlaceForm → List ℕ → OrRefused ℕ
closable at name = do
  fine ← refused_if (is_sm name) Reserved
  if is_new_word name && at.with_new then Err ArityWrong else pred_at at name 2

abbrev pub closure_of : ℕ → ℕ × ℕ → ℕ × ℕ → Form
closure_of pred ends own = FClosure ends.0 ends.1 own.0 own.1 (FAtom pred (own.0 ∷ own.1 ∷ []))

-- `p*` holds of one individual too
abbrev pub star_of : (reflexive : Bool) → ℕ → ℕ × ℕ → ℕ × ℕ → Form
star_of false pred ends own = closure_of pred ends own
star_of true pred ends own = FOr (FSame ends.0 ends.1) (closure_of pred ends own)

-- `p+(v, w)`, and `p*(v, w)` where the flag is true
unfoldable pub star : PlaceForm → (reflexive : Bool) → List ℕ → List ℕ → List ℕ → NamingForm → Numbered Form
star at reflexive name v w s = do
  pred ← closable at name
  ends ← two_occurrences at v w s
  own ← own_pair ends.1
  Ok (star_of reflexive pred ends.0 own.0, own.1)

-- the place under a quantifier of this variable
abbrev pub under : PlaceForm → ℕ → PlaceForm
under at n = record at { known = slice_set at.known n true }

-- a body under quantifiers of these names, where the quantifiers before them have the earlier names
abbrev pub quantified : (ℕ → Form → Form) → (PlaceForm → NamingForm → Numbered Form) → PlaceForm
    → (earlier names : List (List ℕ)) → NamingForm → Numbered Form
quantified quantifier body at earlier [] s = body at s
quantified quantifier body at earlier (name ∷ names) s = do
  new ← refused_if (is_among earlier name) NameTwice
  v ← sighted name s
  f ← quantified quantifier body (under at v.0) (earlier ++ name ∷ []) names v.1
  Ok (quantifier v.0 f.0, f.1)

-- two different variables that a closure binds
unfoldable pub two_bound : List ℕ → List ℕ → NamingForm → Numbered (ℕ × ℕ)
two_bound left right s = do
  a ← sighted left s
  new ← refused_if (bytes_eq left right) NameTwice
  b ← sighted right a.1
  Ok ((a.0, b.0), b.1)

-- what stands for a formula of the text: parentheses go, `a -> b` is `!a | b`, `a != b` is `!(a == b)`
unfoldable pub resolved : PlaceForm → tree.Form → NamingForm → Numbered Form
resolved at tree.FZero s = Ok (FZero, s)
resolved at tree.FOne s = Ok (FOne, s)
resolved at tree.FHalf s = Err HalfLiteral
resolved at (tree.FSame v w) s = two_occurrences at v w s >>= λ x. Ok (FSame x.0.0 x.0.1, x.1)
resolved at (tree.FDiffer v w) s = two_occurrences at v w s >>= λ x. Ok (FNot (FSame x.0.0 x.0.1), x.1)
resolved at (tree.FAtom name arguments) s = atom at (name_text name) arguments s
resolved at (tree.FStar name v w) s = star at true (name_text name) v w s
resolved at (tree.FPlus name v w) s = star at false (name_text name) v w s
resolved at (tree.FParen f) s = resolved at f s
resolved at (tree.FNot f) s = resolved at f s >>= λ x. Ok (FNot x.0, x.1)
resolved at (tree.FAnd f g) s = do
  x ← resolved at f s
  y ← resolved at g x.1
  Ok (FAnd x.0 y.0, y.1)
resolved at (tree.FOr f g) s = do
  x ← resolved at f s
  y ← resolved at g x.1
  Ok (FOr x.0 y.0, y.1)
resolved at (tree.FImp f g) s = do
  x ← resolved at f s
  y ← resolved at g x.1
  Ok (FOr (FNot x.0) y.0, y.1)
resolved at (tree.FIff f g) s = do
  x ← resolved at f s
  y ← resolved at g x.1
  Ok (FIff x.0 y.0, y.1)
resolved at (tree.FCond f g h) s = do
  x ← resolved at f s
  y ← resolved at g x.1
  z ← resolved at h y.1
  Ok (FCond x.0 y.0 z.0, z.1)
resolved at (tree.FExists names f) s = quantified FExists (λ inner t. resolved inner f t) at [] names s
resolved at (tree.FForall names f) s = quantified FForall (λ inner t. resolved inner f t) at [] names s
resolved at (tree.FTc from to left right f) s = do
  ends ← two_occurrences at from to s
  own ← two_bound left right ends.1
  body ← resolved (under (under at own.0.0) own.0.1) f own.1
  Ok (FClosure ends.0.0 ends.0.1 own.0.0 own.0.1 body.0, body.1)
