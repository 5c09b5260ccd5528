-- What resolution gives for a formula is a formula of the program, with only allowed variables free.
use Rattle.std.proofs.Common.{◌≡◌, ◌≢◌, ℕ, true, false, get_or, List, [], ◌∷◌, ◌++◌, ap, sym, subst, ◌∙◌, inl}
use Rattle.std.proofs.Common.{inr, ◌⊎◌, Ok}
use Rattle.std.specs.Str.{bytes_eq}
use Rattle.std.proofs.lemmas.Bool.{true≢false}
use Rattle.tv_tree.specs.Forms as tree
use Rattle.tv_model.specs.Form.{Form, FZero, FOne, FSame, FNot, FAnd, FOr, FIff, FCond, FExists, FForall}
use Rattle.tv_model.specs.Form.{FClosure, IsFree}
use Rattle.tv_model.specs.Program.{ProgramForm}
use Rattle.tv_model.specs.Valid.{IsFormula, NamesNew, IsVariable}
use Rattle.tv_names.specs.declared.refusal.ResolveError.TheVariants.{NameTwice, HalfLiteral}
use Rattle.tv_names.specs.Refusal.{◌>>=◌, refused_if}
use Rattle.tv_tree.specs.Names.{name_text}
use Rattle.tv_names.specs.Naming.{Vacant, is_named, NamingForm, sighted}
use Rattle.tv_tree.specs.Names.{is_among}
use Rattle.tv_names.specs.Resolving.{PlaceForm, Numbered, two_occurrences, under, quantified, two_bound}
use Rattle.tv_names.specs.Resolving.{resolved}
use Rattle.std.proofs.lemmas.List.Quantifiers.{position-Some}
use Rattle.tv_vocab.proofs.valid.Refusals.{ok_is, not_given, went, not_refused}
use Rattle.tv_vocab.proofs.valid.Numbers.{IsHeld, IsAfter, after_then, IsSighted, sighted_is, named_same}
use Rattle.tv_vocab.proofs.valid.Numbers.{not_held}
use Rattle.tv_vocab.proofs.valid.Parts.{Stands, stands_then, stands_under, part_after, Gives, GivesForm}
use Rattle.tv_vocab.proofs.valid.Parts.{given_as, both, reshaped, before, bound}
use Rattle.tv_vocab.proofs.valid.Occurrences.{two_given}
use Rattle.tv_vocab.proofs.valid.Atoms.{part_itself, atom_given, star_given}

constant_given : (p : ProgramForm) (at : PlaceForm) (s : NamingForm) → Stands p at s → Gives at s s (Unit {0}) ⊥ (λ v. ⊥)
constant_given p at s st = record { part = part_itself p at s st; formed = tt; new = λ k. absurd k; free = λ v k. absurd k }

-- ---- quantifiers

-- a quantifier of one variable
pub record IsQuantifier (p : ProgramForm) (q : ℕ → Form → Form) : Type 0 where
  pub formed : (v : ℕ) (f : Form) → IsVariable v → IsFormula p f → IsFormula p (q v f)
  pub new : (v : ℕ) (f : Form) → NamesNew (q v f) → NamesNew f
  pub free : (v : ℕ) (f : Form) (u : ℕ) → IsFree u (q v f) → (u ≢ v) × IsFree u f

exists_is : (p : ProgramForm) → IsQuantifier p FExists
exists_is p = record { formed = λ v f a b. (a, b); new = λ v f k. k; free = λ v f u k. k }

forall_is : (p : ProgramForm) → IsQuantifier p FForall
forall_is p = record { formed = λ v f a b. (a, b); new = λ v f k. k; free = λ v f u k. k }

module _ (p : ProgramForm) (q : ℕ → Form → Form) (is : IsQuantifier p q) (body : PlaceForm → NamingForm → Numbered Form) (given : (at : PlaceForm) (s : NamingForm) (x : Form × NamingForm) → Stands p at s → body at s ≡ Ok x → GivesForm p at s x) where
  pub quantified_given : (names earlier : List (List ℕ)) (at : PlaceForm) (s : NamingForm) (x : Form × NamingForm) → Stands p at s → quantified q body at earlier names s ≡ Ok x → GivesForm p at s x
  quantified_given [] earlier at s x st h = given at s x st h
  quantified_given (name ∷ names) earlier at s x st h =
      let a = went (refused_if (is_among earlier name) NameTwice) (λ new. sighted name s >>= λ v. quantified q body (under at v.0) (earlier ++ name ∷ []) names v.1 >>= λ f. Ok (q v.0 f.0, f.1)) x h in
      let b = went (sighted name s) (λ v. quantified q body (under at v.0) (earlier ++ name ∷ []) names v.1 >>= λ f. Ok (q v.0 f.0, f.1)) x a.rest in
      let c = went (quantified q body (under at b.x.0) (earlier ++ name ∷ []) names b.x.1) (λ f. Ok (q b.x.0 f.0, f.1)) x b.rest in
      let sight = sighted_is name s b.x st.sound b.gave in
      let part = part_after at s b.x.1 sight.after in
      let inside = stands_under p at b.x.1 b.x.0 (stands_then p at s b.x.1 st part) sight.held in
      let rest = quantified_given names (earlier ++ name ∷ []) (under at b.x.0) b.x.1 c.x inside c.gave in
      given_as p at s (q b.x.0 c.x.0, c.x.1) x c.rest
      (before at s b.x.1 c.x.1 part
      (reshaped at b.x.1 c.x.1 (is.formed b.x.0 c.x.0 sight.held.within) (is.new b.x.0 c.x.0) (is.free b.x.0 c.x.0)
      (bound at b.x.1 c.x.1 b.x.0 rest)))

-- ---- closures

-- two different variables
pub record AreBound (s : NamingForm) (x : (ℕ × ℕ) × NamingForm) : Type 0 where
  pub after : IsAfter s x.1
  pub left : IsHeld x.1.slots x.0.0
  pub right : IsHeld x.1.slots x.0.1
  pub differ : x.0.0 ≢ x.0.1

-- two names have two numbers
bound_differ : (left right : List ℕ) (s : NamingForm) (x y : ℕ × NamingForm) → IsSighted left s x → IsSighted right x.1 y → bytes_eq left right ≡ false → x.0 ≢ y.0
bound_differ left right s x y a b other same =
    elim b.seen [
      | inl e ↦
          let found = position-Some (is_named right) x.1.slots y.0 Vacant e in
          let here : is_named right (get_or x.1.slots x.0 Vacant) ≡ true = ap (λ (n : ℕ). is_named right (get_or x.1.slots n Vacant)) same ∙ found.1 in
          true≢false (sym (named_same left right (get_or x.1.slots x.0 Vacant) a.named here) ∙ other)
      | inr h ↦ not_held x.1.slots x.0 y.0 a.held h.1 same
    ]

bound_given : (left right : List ℕ) (s : NamingForm) (x : (ℕ × ℕ) × NamingForm) (p : ProgramForm) (at : PlaceForm) → Stands p at s → two_bound left right s ≡ Ok x → AreBound s x
unfolding two_bound
bound_given left right s x p at st h =
    let a = went (sighted left s) (λ v. refused_if (bytes_eq left right) NameTwice >>= λ new. sighted right v.1 >>= λ w. Ok ((v.0, w.0), w.1)) x h in
    let b = went (refused_if (bytes_eq left right) NameTwice) (λ new. sighted right a.x.1 >>= λ w. Ok ((a.x.0, w.0), w.1)) x a.rest in
    let c = went (sighted right a.x.1) (λ w. Ok ((a.x.0, w.0), w.1)) x b.rest in
    let one = sighted_is left s a.x st.sound a.gave in
    let two = sighted_is right a.x.1 c.x one.after.sound c.gave in
    let other = not_refused (bytes_eq left right) NameTwice b.x b.gave in
    subst (AreBound s) (ok_is ((a.x.0, c.x.0), c.x.1) x c.rest)
    (record {
      after = after_then s a.x.1 c.x.1 one.after two.after;
      left = two.after.held a.x.0 one.held;
      right = two.held;
      differ = bound_differ left right s a.x c.x one two other;
    })

-- ---- formulas

three_new : (A B C : Type 0) → A ⊎ (B ⊎ C) → (A ⊎ B) ⊎ C
three_new A B C (inl h) = inl (inl h)
three_new A B C (inr (inl h)) = inl (inr h)
three_new A B C (inr (inr h)) = inr h

closure_free : (from to left right : ℕ) (f : Form) (u : ℕ) → IsFree u (FClosure from to left right f) → ((u ≡ from) ⊎ (u ≡ to)) ⊎ ((u ≢ left) × ((u ≢ right) × IsFree u f))
closure_free from to left right f u (inl h) = inl (inl h)
closure_free from to left right f u (inr (inl h)) = inl (inr h)
closure_free from to left right f u (inr (inr h)) = inr (h.0, (h.1, h.2))

pub formula_given : (p : ProgramForm) (f : tree.Form) (at : PlaceForm) (s : NamingForm) (x : Form × NamingForm) → Stands p at s → resolved at f s ≡ Ok x → GivesForm p at s x
unfolding resolved
formula_given p tree.FZero at s x st h = given_as p at s (FZero, s) x h (constant_given p at s st)
formula_given p tree.FOne at s x st h = given_as p at s (FOne, s) x h (constant_given p at s st)
formula_given p tree.FHalf at s x st h = absurd (not_given HalfLiteral x h)
formula_given p (tree.FSame v w) at s x st h =
    let a = went (two_occurrences at v w s) (λ y. Ok (FSame y.0.0 y.0.1, y.1)) x h in
    let two = two_given p at v w s a.x st a.gave in
    given_as p at s (FSame a.x.0.0 a.x.0.1, a.x.1) x a.rest
    (reshaped at s a.x.1 (λ k. k) (λ k. absurd k) (λ u k. k) two)
formula_given p (tree.FDiffer v w) at s x st h =
    let a = went (two_occurrences at v w s) (λ y. Ok (FNot (FSame y.0.0 y.0.1), y.1)) x h in
    let two = two_given p at v w s a.x st a.gave in
    given_as p at s (FNot (FSame a.x.0.0 a.x.0.1), a.x.1) x a.rest
    (reshaped at s a.x.1 (λ k. k) (λ k. absurd k) (λ u k. k) two)
formula_given p (tree.FAtom name arguments) at s x st h = atom_given p at (name_text name) arguments s x st h
formula_given p (tree.FStar name v w) at s x st h = star_given p at true (name_text name) v w s x st h
formula_given p (tree.FPlus name v w) at s x st h = star_given p at false (name_text name) v w s x st h
formula_given p (tree.FParen f) at s x st h = formula_given p f at s x st h
formula_given p (tree.FNot f) at s x st h =
    let a = went (resolved at f s) (λ y. Ok (FNot y.0, y.1)) x h in
    given_as p at s (FNot a.x.0, a.x.1) x a.rest (formula_given p f at s a.x st a.gave)
formula_given p (tree.FAnd f g) at s x st h =
    let a = went (resolved at f s) (λ y. resolved at g y.1 >>= λ z. Ok (FAnd y.0 z.0, z.1)) x h in
    let b = went (resolved at g a.x.1) (λ z. Ok (FAnd a.x.0 z.0, z.1)) x a.rest in
    let one = formula_given p f at s a.x st a.gave in
    let two = formula_given p g at a.x.1 b.x (stands_then p at s a.x.1 st one.part) b.gave in
    given_as p at s (FAnd a.x.0 b.x.0, b.x.1) x b.rest (both at s a.x.1 b.x.1 one two)
formula_given p (tree.FOr f g) at s x st h =
    let a = went (resolved at f s) (λ y. resolved at g y.1 >>= λ z. Ok (FOr y.0 z.0, z.1)) x h in
    let b = went (resolved at g a.x.1) (λ z. Ok (FOr a.x.0 z.0, z.1)) x a.rest in
    let one = formula_given p f at s a.x st a.gave in
    let two = formula_given p g at a.x.1 b.x (stands_then p at s a.x.1 st one.part) b.gave in
    given_as p at s (FOr a.x.0 b.x.0, b.x.1) x b.rest (both at s a.x.1 b.x.1 one two)
formula_given p (tree.FImp f g) at s x st h =
    let a = went (resolved at f s) (λ y. resolved at g y.1 >>= λ z. Ok (FOr (FNot y.0) z.0, z.1)) x h in
    let b = went (resolved at g a.x.1) (λ z. Ok (FOr (FNot a.x.0) z.0, z.1)) x a.rest in
    let one = formula_given p f at s a.x st a.gave in
    let two = formula_given p g at a.x.1 b.x (stands_then p at s a.x.1 st one.part) b.gave in
    given_as p at s (FOr (FNot a.x.0) b.x.0, b.x.1) x b.rest (both at s a.x.1 b.x.1 one two)
formula_given p (tree.FIff f g) at s x st h =
    let a = went (resolved at f s) (λ y. resolved at g y.1 >>= λ z. Ok (FIff y.0 z.0, z.1)) x h in
    let b = went (resolved at g a.x.1) (λ z. Ok (FIff a.x.0 z.0, z.1)) x a.rest in
    let one = formula_given p f at s a.x st a.gave in
    let two = formula_given p g at a.x.1 b.x (stands_then p at s a.x.1 st one.part) b.gave in
    given_as p at s (FIff a.x.0 b.x.0, b.x.1) x b.rest (both at s a.x.1 b.x.1 one two)
formula_given p (tree.FCond f g e) at s x st h =
    let a = went (resolved at f s) (λ y. resolved at g y.1 >>= λ z. resolved at e z.1 >>= λ w. Ok (FCond y.0 z.0 w.0, w.1)) x h in
    let b = went (resolved at g a.x.1) (λ z. resolved at e z.1 >>= λ w. Ok (FCond a.x.0 z.0 w.0, w.1)) x a.rest in
    let c = went (resolved at e b.x.1) (λ w. Ok (FCond a.x.0 b.x.0 w.0, w.1)) x b.rest in
    let one = formula_given p f at s a.x st a.gave in
    let st2 = stands_then p at s a.x.1 st one.part in
    let two = formula_given p g at a.x.1 b.x st2 b.gave in
    let three = formula_given p e at b.x.1 c.x (stands_then p at a.x.1 b.x.1 st2 two.part) c.gave in
    given_as p at s (FCond a.x.0 b.x.0 c.x.0, c.x.1) x c.rest
    (reshaped at s c.x.1 (λ k. (k.0.0, k.0.1, k.1))
    (three_new (NamesNew a.x.0) (NamesNew b.x.0) (NamesNew c.x.0))
    (λ u. three_new (IsFree u a.x.0) (IsFree u b.x.0) (IsFree u c.x.0))
    (both at s b.x.1 c.x.1 (both at s a.x.1 b.x.1 one two) three))
formula_given p (tree.FExists names f) at s x st h =
    quantified_given p FExists (exists_is p) (λ inner t. resolved inner f t) (λ inner t y inside e. formula_given p f inner t y inside e) names [] at s x st h
formula_given p (tree.FForall names f) at s x st h =
    quantified_given p FForall (forall_is p) (λ inner t. resolved inner f t) (λ inner t y inside e. formula_given p f inner t y inside e) names [] at s x st h
formula_given p (tree.FTc from to left right f) at s x st h =
    let a = went (two_occurrences at from to s) (λ ends. two_bound left right ends.1 >>= λ own. resolved (under (under at own.0.0) own.0.1) f own.1 >>= λ body. Ok (FClosure ends.0.0 ends.0.1 own.0.0 own.0.1 body.0, body.1)) x h in
    let b = went (two_bound left right a.x.1) (λ own. resolved (under (under at own.0.0) own.0.1) f own.1 >>= λ body. Ok (FClosure a.x.0.0 a.x.0.1 own.0.0 own.0.1 body.0, body.1)) x a.rest in
    let c = went (resolved (under (under at b.x.0.0) b.x.0.1) f b.x.1) (λ body. Ok (FClosure a.x.0.0 a.x.0.1 b.x.0.0 b.x.0.1 body.0, body.1)) x b.rest in
    let ends = two_given p at from to s a.x st a.gave in
    let st2 = stands_then p at s a.x.1 st ends.part in
    let own = bound_given left right a.x.1 b.x p at st2 b.gave in
    let part = part_after at a.x.1 b.x.1 own.after in
    let st3 = stands_then p at a.x.1 b.x.1 st2 part in
    let st4 = stands_under p (under at b.x.0.0) b.x.1 b.x.0.1 (stands_under p at b.x.1 b.x.0.0 st3 own.left) own.right in
    let body = formula_given p f (under (under at b.x.0.0) b.x.0.1) b.x.1 c.x st4 c.gave in
    let inner = before at a.x.1 b.x.1 c.x.1 part (bound at b.x.1 c.x.1 b.x.0.0 (bound (under at b.x.0.0) b.x.1 c.x.1 b.x.0.1 body)) in
    given_as p at s (FClosure a.x.0.0 a.x.0.1 b.x.0.0 b.x.0.1 c.x.0, c.x.1) x c.rest
    (reshaped at s c.x.1 (λ k. (k.0.0, k.0.1, own.left.within, own.right.within, own.differ, k.1))
    (λ k. inr k)
    (closure_free a.x.0.0 a.x.0.1 b.x.0.0 b.x.0.1 c.x.0)
    (both at s a.x.1 c.x.1 ends inner))
