-- Atoms, and the closures of predicates.
use Rattle.std.proofs.Common.{◌≡◌, ◌≢◌, ℕ, zero, suc, ◌<◌, Bool, true, false, not, ◌&&◌, ◌==◌, get_or, List}
use Rattle.std.proofs.Common.{[], ◌∷◌, length, refl, ap, sym, subst, ◌∙◌, arith, inl, inr, ◌⊎◌, Ok, Err, Some}
use Rattle.std.proofs.Common.{cond}
use Rattle.std.specs.Prelude.{All, Contains}
use Rattle.std.proofs.lemmas.Bool.{and_parts, not-false, eqb-true}
use Rattle.std.proofs.lemmas.List.Elements.{All-cons, All-nil}
use Rattle.tv_model.specs.Form.{Form, FAtom, FIsNew}
use Rattle.tv_model.specs.Program.{ProgramForm}
use Rattle.tv_model.specs.Valid.{IsFormula, IsVariable, arity_of}
use Rattle.tv_names.specs.declared.refusal.ResolveError.TheVariants.{NameUnknown, ArityWrong, Reserved}
use Rattle.tv_names.specs.Refusal.{◌>>=◌, refused_if, or_refused}
use Rattle.tv_names.specs.Symbols.{symbol_of, is_sm, is_new_word}
use Rattle.tv_names.specs.Naming.{NamingForm, own_pair}
use Rattle.tv_names.specs.Resolving.{PlaceForm, occurrence, two_occurrences, terms, pred_at, new_atom}
use Rattle.tv_names.specs.Resolving.{pred_atom, atom, closable, closure_of, star_of, star}
use Rattle.tv_vocab.proofs.valid.Refusals.{ok_is, not_given, went, not_refused, was_some}
use Rattle.tv_vocab.proofs.valid.Numbers.{AreOwn, own_pair_is}
use Rattle.tv_vocab.proofs.valid.Parts.{AreSymbols, Stands, IsPart, Gives, GivesForm, part_after, reshaped}
use Rattle.tv_vocab.proofs.valid.Parts.{behind, given_as}
use Rattle.tv_vocab.proofs.valid.Occurrences.{occurrence_given, two_given}

pub pred_given : (p : ProgramForm) (at : PlaceForm) (name : List ℕ) (n q : ℕ) → AreSymbols p at.symbols → pred_at at name n ≡ Ok q → arity_of p q ≡ Some n
unfolding pred_at
pred_given p at name n q symbols h =
    let a = went (or_refused (symbol_of name at.symbols) NameUnknown) (λ known. refused_if (not (known.arity == n)) ArityWrong >>= λ right. Ok known.pred) q h in
    let b = went (refused_if (not (a.x.arity == n)) ArityWrong) (λ right. Ok a.x.pred) q a.rest in
    let known = was_some (symbol_of name at.symbols) NameUnknown a.x a.gave in
    let same = eqb-true a.x.arity n (not-false (a.x.arity == n) (not_refused (not (a.x.arity == n)) ArityWrong b.x b.gave)) in
    let e : a.x.pred ≡ q = ok_is a.x.pred q b.rest in
    ap (arity_of p) (sym e) ∙ symbols.arities name a.x known ∙ ap Some same

-- ---- arguments

pub record AreTerms (at : PlaceForm) (s : NamingForm) (n : ℕ) (x : List ℕ × NamingForm) : Type 0 where
  pub gives : Gives at s x.1 (All IsVariable x.0) ⊥ (λ w. Contains x.0 w)
  pub count : length x.0 ≡ n

one_at : (v w k : ℕ) → k < 1 → get_or (v ∷ []) k w ≡ w → w ≡ v
one_at v w zero lt e = sym e
one_at v w (suc k) lt e = absurd (omega arith)

pub contains_one : (v w : ℕ) → Contains (v ∷ []) w → w ≡ v
contains_one v w h = one_at v w h.0 h.1 h.2

two_at : (u v w k : ℕ) → k < 2 → get_or (u ∷ v ∷ []) k w ≡ w → (w ≡ u) ⊎ (w ≡ v)
two_at u v w zero lt e = inl (sym e)
two_at u v w (suc zero) lt e = inr (sym e)
two_at u v w (suc (suc k)) lt e = absurd (omega arith)

pub contains_two : (u v w : ℕ) → Contains (u ∷ v ∷ []) w → (w ≡ u) ⊎ (w ≡ v)
contains_two u v w h = two_at u v w h.0 h.1 h.2

pub contains_none : (w : ℕ) → Contains [] w → ⊥
contains_none w h = let lt : h.0 < 0 = h.1 in absurd (omega arith)

pub part_itself : (p : ProgramForm) (at : PlaceForm) (s : NamingForm) → Stands p at s → IsPart at s s
part_itself p at s st = record { sound = st.sound; held = λ v h. h; further = λ v e. e; new_further = λ v e. inl e }

pub all_one : (v : ℕ) → IsVariable v → All IsVariable (v ∷ [])
all_one v h = All-cons IsVariable v [] h (All-nil IsVariable)

pub all_two : (v w : ℕ) → IsVariable v → IsVariable w → All IsVariable (v ∷ w ∷ [])
all_two v w a b = All-cons IsVariable v (w ∷ []) a (all_one w b)

pub terms_given : (p : ProgramForm) (at : PlaceForm) (names : List (List ℕ)) (s : NamingForm) (x : List ℕ × NamingForm) → Stands p at s → terms at names s ≡ Ok x → AreTerms at s (length names) x
terms_given p at [] s x st h =
    subst (AreTerms at s 0) (ok_is ([], s) x h)
    (record { gives = record { part = part_itself p at s st; formed = All-nil IsVariable; new = λ k. absurd k; free = λ w k. absurd (contains_none w k) }; count = refl })
terms_given p at (v ∷ []) s x st h =
    let a = went (occurrence at v s) (λ y. Ok (y.0 ∷ [], y.1)) x h in
    let one = occurrence_given p at v s st a.x a.gave in
    subst (AreTerms at s 1) (ok_is (a.x.0 ∷ [], a.x.1) x a.rest)
    (record { gives = reshaped at s a.x.1 (λ k. all_one a.x.0 k) (λ k. k) (λ w k. contains_one a.x.0 w k) one; count = refl })
terms_given p at (v ∷ w ∷ []) s x st h =
    let a = went (two_occurrences at v w s) (λ y. Ok (y.0.0 ∷ y.0.1 ∷ [], y.1)) x h in
    let two = two_given p at v w s a.x st a.gave in
    subst (AreTerms at s 2) (ok_is (a.x.0.0 ∷ a.x.0.1 ∷ [], a.x.1) x a.rest)
    (record { gives = reshaped at s a.x.1 (λ k. all_two a.x.0.0 a.x.0.1 k.0 k.1) (λ k. inl k) (λ u k. contains_two a.x.0.0 a.x.0.1 u k) two; count = refl })
terms_given p at (v ∷ w ∷ z ∷ more) s x st h = absurd (not_given ArityWrong x h)

-- ---- atoms

pred_atom_given : (p : ProgramForm) (at : PlaceForm) (name : List ℕ) (arguments : List (List ℕ)) (s : NamingForm) (x : Form × NamingForm) → Stands p at s → pred_atom at name arguments s ≡ Ok x → GivesForm p at s x
unfolding pred_atom
pred_atom_given p at name arguments s x st h =
    let a = went (pred_at at name (length arguments)) (λ pred. terms at arguments s >>= λ vars. Ok (FAtom pred vars.0, vars.1)) x h in
    let b = went (terms at arguments s) (λ vars. Ok (FAtom a.x vars.0, vars.1)) x a.rest in
    let arity = pred_given p at name (length arguments) a.x st.symbols a.gave in
    let vars = terms_given p at arguments s b.x st b.gave in
    given_as p at s (FAtom a.x b.x.0, b.x.1) x b.rest
    (reshaped at s b.x.1 (λ k. (arity ∙ ap Some (sym vars.count), k)) (λ k. k) (λ w k. k) vars.gives)

new_atom_given : (p : ProgramForm) (at : PlaceForm) (arguments : List (List ℕ)) (s : NamingForm) (x : Form × NamingForm) → at.with_new ≡ true → Stands p at s → new_atom at arguments s ≡ Ok x → GivesForm p at s x
new_atom_given p at [] s x new st h = absurd (not_given ArityWrong x h)
new_atom_given p at (v ∷ []) s x new st h =
    let a = went (occurrence at v s) (λ y. Ok (FIsNew y.0, y.1)) x h in
    let one = occurrence_given p at v s st a.x a.gave in
    given_as p at s (FIsNew a.x.0, a.x.1) x a.rest
    (record { part = one.part; formed = one.formed; new = λ k. new; free = one.free })
new_atom_given p at (v ∷ w ∷ more) s x new st h = absurd (not_given ArityWrong x h)

atom_by : (p : ProgramForm) (at : PlaceForm) (name : List ℕ) (arguments : List (List ℕ)) (s : NamingForm) (x : Form × NamingForm) (b : Bool) → (is_new_word name && at.with_new) ≡ b → Stands p at s → cond b (new_atom at arguments s) (pred_atom at name arguments s) ≡ Ok x → GivesForm p at s x
atom_by p at name arguments s x true new st h = new_atom_given p at arguments s x (and_parts (is_new_word name) at.with_new new).1 st h
atom_by p at name arguments s x false new st h = pred_atom_given p at name arguments s x st h

pub atom_given : (p : ProgramForm) (at : PlaceForm) (name : List ℕ) (arguments : List (List ℕ)) (s : NamingForm) (x : Form × NamingForm) → Stands p at s → atom at name arguments s ≡ Ok x → GivesForm p at s x
unfolding atom
atom_given p at name arguments s x st h =
    let a = went (refused_if (is_sm name) Reserved) (λ fine. cond (is_new_word name && at.with_new) (new_atom at arguments s) (pred_atom at name arguments s)) x h in
    atom_by p at name arguments s x (is_new_word name && at.with_new) refl st a.rest

-- ---- closures of predicates

closable_by : (p : ProgramForm) (at : PlaceForm) (name : List ℕ) (q : ℕ) (b : Bool) → AreSymbols p at.symbols → cond b (Err ArityWrong) (pred_at at name 2) ≡ Ok q → arity_of p q ≡ Some 2
closable_by p at name q true symbols h = absurd (not_given ArityWrong q h)
closable_by p at name q false symbols h = pred_given p at name 2 q symbols h

closable_given : (p : ProgramForm) (at : PlaceForm) (name : List ℕ) (q : ℕ) → AreSymbols p at.symbols → closable at name ≡ Ok q → arity_of p q ≡ Some 2
unfolding closable
closable_given p at name q symbols h =
    let a = went (refused_if (is_sm name) Reserved) (λ fine. cond (is_new_word name && at.with_new) (Err ArityWrong) (pred_at at name 2)) q h in
    closable_by p at name q (is_new_word name && at.with_new) symbols a.rest

free_in_closure : (u from to left right : ℕ) → (u ≡ from) ⊎ ((u ≡ to) ⊎ ((u ≢ left) × (u ≢ right) × Contains (left ∷ right ∷ []) u)) → (u ≡ from) ⊎ (u ≡ to)
free_in_closure u from to left right (inl h) = inl h
free_in_closure u from to left right (inr (inl h)) = inr h
free_in_closure u from to left right (inr (inr h)) = absurd (elim (contains_two left right u h.2) [ inl e ↦ h.0 e | inr e ↦ h.1 e ])

either : (A : Type 0) → A ⊎ A → A
either A (inl h) = h
either A (inr h) = h

closure_formed : (p : ProgramForm) (pred : ℕ) (ends own : ℕ × ℕ) → arity_of p pred ≡ Some 2 → AreOwn own.0 own.1 → IsVariable ends.0 × IsVariable ends.1 → IsFormula p (closure_of pred ends own)
closure_formed p pred ends own arity fine k = (k.0, k.1, fine.left, fine.right, fine.differ, (arity, all_two own.0 own.1 fine.left fine.right))

star_by : (p : ProgramForm) (at : PlaceForm) (reflexive : Bool) (pred : ℕ) (ends own : ℕ × ℕ) (s t : NamingForm) → arity_of p pred ≡ Some 2 → AreOwn own.0 own.1 → Gives at s t (IsVariable ends.0 × IsVariable ends.1) (⊥ ⊎ ⊥) (λ w. (w ≡ ends.0) ⊎ (w ≡ ends.1)) → GivesForm p at s (star_of reflexive pred ends own, t)
star_by p at false pred ends own s t arity fine g =
    reshaped at s t (closure_formed p pred ends own arity fine) (λ k. inl k) (λ u k. free_in_closure u ends.0 ends.1 own.0 own.1 k) g
star_by p at true pred ends own s t arity fine g =
    reshaped at s t (λ k. (k, closure_formed p pred ends own arity fine k)) (λ k. k)
    (λ u k. elim k [ inl e ↦ e | inr e ↦ free_in_closure u ends.0 ends.1 own.0 own.1 e ]) g

pub star_given : (p : ProgramForm) (at : PlaceForm) (reflexive : Bool) (name v w : List ℕ) (s : NamingForm) (x : Form × NamingForm) → Stands p at s → star at reflexive name v w s ≡ Ok x → GivesForm p at s x
unfolding star
star_given p at reflexive name v w s x st h =
    let a = went (closable at name) (λ pred. two_occurrences at v w s >>= λ ends. own_pair ends.1 >>= λ own. Ok (star_of reflexive pred ends.0 own.0, own.1)) x h in
    let b = went (two_occurrences at v w s) (λ ends. own_pair ends.1 >>= λ own. Ok (star_of reflexive a.x ends.0 own.0, own.1)) x a.rest in
    let c = went (own_pair b.x.1) (λ own. Ok (star_of reflexive a.x b.x.0 own.0, own.1)) x b.rest in
    let ends = two_given p at v w s b.x st b.gave in
    let own = own_pair_is b.x.1 c.x ends.part.sound c.gave in
    given_as p at s (star_of reflexive a.x b.x.0 c.x.0, c.x.1) x c.rest
    (star_by p at reflexive a.x b.x.0 c.x.0 s c.x.1 (closable_given p at name a.x st.symbols a.gave) own.own
    (behind at s b.x.1 c.x.1 ends (part_after at b.x.1 c.x.1 own.after)))
