-- What a resolved part of a formula leaves behind, and how parts are put together.
use Rattle.std.proofs.Common.{◌≡◌, ◌≢◌, ℕ, zero, suc, Bool, true, false, get_or, set, List, [], ◌∷◌, refl}
use Rattle.std.proofs.Common.{sym, subst, ◌∙◌, inl, inr, ◌⊎◌, Ok, Some}
use Rattle.std.specs.Prelude.{IsTrue}
use Rattle.std.proofs.lemmas.Bool.{cases_eq, true≢false}
use Rattle.std.proofs.lemmas.List.{get_or-set_other}
use Rattle.tv_model.specs.Form.{Form, IsFree}
use Rattle.tv_model.specs.Program.{ProgramForm}
use Rattle.tv_model.specs.Valid.{IsFormula, NamesNew, arity_of}
use Rattle.tv_names.specs.declared.place.Others.TheVariants.{Any, Once}
use Rattle.tv_names.specs.Refusal.{OrRefused}
use Rattle.tv_names.specs.Symbols.{SymbolForm, KnownForm, symbol_of}
use Rattle.tv_names.specs.Naming.{NamingForm}
use Rattle.tv_names.specs.Resolving.{PlaceForm, under}
use Rattle.tv_vocab.proofs.valid.Numbers.{IsHeld, IsSound, IsAfter}
use Rattle.tv_vocab.proofs.valid.Refusals.{ok_is}

-- the symbols are the predicates of the program
pub record AreSymbols (p : ProgramForm) (symbols : List SymbolForm) : Type 0 where
  pub arities : (name : List ℕ) (k : KnownForm) → symbol_of name symbols ≡ Some k → arity_of p k.pred ≡ Some k.arity

-- a formula may stand here: the numbers that are known are held
pub record Stands (p : ProgramForm) (at : PlaceForm) (s : NamingForm) : Type 0 where
  pub sound : IsSound s
  pub symbols : AreSymbols p at.symbols
  pub known : (v : ℕ) → get_or at.known v false ≡ true → IsHeld s.slots v

pub record IsPart (at : PlaceForm) (s t : NamingForm) : Type 0 where
  pub sound : IsSound t
  pub held : (v : ℕ) → IsHeld s.slots v → IsHeld t.slots v
  pub further : (v : ℕ) → s.further ≡ Some v → t.further ≡ Some v
  pub new_further : (v : ℕ) → t.further ≡ Some v → (s.further ≡ Some v) ⊎ (get_or at.known v false ≡ false)

-- the variable may stand free
pub data IsAllowed (at : PlaceForm) (t : NamingForm) (v : ℕ) : Type 0 where
  AsKnown : get_or at.known v false ≡ true → IsAllowed at t v
  AsAny : at.others ≡ Any → IsAllowed at t v
  AsFurther : at.others ≡ Once → t.further ≡ Some v → IsAllowed at t v

pub record IsFine (at : PlaceForm) (t : NamingForm) (v : ℕ) : Type 0 where
  pub allowed : IsAllowed at t v
  pub held : IsHeld t.slots v

-- a part that is well formed, speaks of a new individual only where that is allowed, and has only allowed variables free
pub record Gives (at : PlaceForm) (s t : NamingForm) (Formed New : Type 0) (Free : ℕ → Type 0) : Type 0 where
  pub part : IsPart at s t
  pub formed : Formed
  pub new : New → IsTrue at.with_new
  pub free : (v : ℕ) → Free v → IsFine at t v

abbrev pub GivesForm : ProgramForm → PlaceForm → NamingForm → Form × NamingForm → Type 0
GivesForm p at s x = Gives at s x.1 (IsFormula p x.0) (NamesNew x.0) (λ v. IsFree v x.0)

pub given_as : (p : ProgramForm) (at : PlaceForm) (s : NamingForm) (y x : Form × NamingForm) → ◌≡◌ {A = OrRefused (Form × NamingForm)} (Ok y) (Ok x) → GivesForm p at s y → GivesForm p at s x
given_as p at s y x e g = subst (GivesForm p at s) (ok_is y x e) g

pub part_then : (at : PlaceForm) (s t u : NamingForm) → IsPart at s t → IsPart at t u → IsPart at s u
part_then at s t u a b = record {
  sound = b.sound;
  held = λ v h. b.held v (a.held v h);
  further = λ v e. b.further v (a.further v e);
  new_further = λ v e. elim (b.new_further v e) [ inl h ↦ a.new_further v h | inr h ↦ inr h ];
}

pub part_after : (at : PlaceForm) (s t : NamingForm) → IsAfter s t → IsPart at s t
part_after at s t a = record {
  sound = a.sound;
  held = a.held;
  further = λ v e. a.further ∙ e;
  new_further = λ v e. inl (sym a.further ∙ e);
}

pub allowed_then : (at : PlaceForm) (t u : NamingForm) (v : ℕ) → IsPart at t u → IsAllowed at t v → IsAllowed at u v
allowed_then at t u v part (AsKnown h) = AsKnown h
allowed_then at t u v part (AsAny h) = AsAny h
allowed_then at t u v part (AsFurther h e) = AsFurther h (part.further v e)

pub fine_then : (at : PlaceForm) (t u : NamingForm) (v : ℕ) → IsPart at t u → IsFine at t v → IsFine at u v
fine_then at t u v part h = record { allowed = allowed_then at t u v part h.allowed; held = part.held v h.held }

pub stands_then : (p : ProgramForm) (at : PlaceForm) (s t : NamingForm) → Stands p at s → IsPart at s t → Stands p at t
stands_then p at s t st part = record { sound = part.sound; symbols = st.symbols; known = λ v h. part.held v (st.known v h) }

pub both : (at : PlaceForm) (s t u : NamingForm) {F N G M : Type 0} {R Q : ℕ → Type 0} → Gives at s t F N R → Gives at t u G M Q → Gives at s u (F × G) (N ⊎ M) (λ v. R v ⊎ Q v)
both at s t u a b = record {
  part = part_then at s t u a.part b.part;
  formed = (a.formed, b.formed);
  new = λ h. elim h [ inl k ↦ a.new k | inr k ↦ b.new k ];
  free = λ v h. elim h [ inl k ↦ fine_then at t u v b.part (a.free v k) | inr k ↦ b.free v k ];
}

pub reshaped : (at : PlaceForm) (s t : NamingForm) {F N G M : Type 0} {R Q : ℕ → Type 0} → (F → G) → (M → N) → ((v : ℕ) → Q v → R v) → Gives at s t F N R → Gives at s t G M Q
reshaped at s t formed new free g = record {
  part = g.part;
  formed = formed g.formed;
  new = λ h. g.new (new h);
  free = λ v h. g.free v (free v h);
}

-- numbers that were given before
pub before : (at : PlaceForm) (s t u : NamingForm) {F N : Type 0} {R : ℕ → Type 0} → IsPart at s t → Gives at t u F N R → Gives at s u F N R
before at s t u part g = record { part = part_then at s t u part g.part; formed = g.formed; new = g.new; free = g.free }

-- and after
pub behind : (at : PlaceForm) (s t u : NamingForm) {F N : Type 0} {R : ℕ → Type 0} → Gives at s t F N R → IsPart at t u → Gives at s u F N R
behind at s t u g part = record {
  part = part_then at s t u g.part part;
  formed = g.formed;
  new = g.new;
  free = λ v h. fine_then at t u v part (g.free v h);
}

unset : (flags : List Bool) (n v : ℕ) → get_or (set flags n true) v false ≡ false → get_or flags v false ≡ false
unset [] n v h = refl
unset (b ∷ flags) zero zero h = absurd (true≢false h)
unset (b ∷ flags) zero (suc v) h = h
unset (b ∷ flags) (suc n) zero h = h
unset (b ∷ flags) (suc n) (suc v) h = unset flags n v h

pub stands_under : (p : ProgramForm) (at : PlaceForm) (s : NamingForm) (n : ℕ) → Stands p at s → IsHeld s.slots n → Stands p (under at n) s
stands_under p at s n st held = record {
  sound = st.sound;
  symbols = st.symbols;
  known = λ v h. elim (cases_eq v n) [
    | inl same ↦ subst (IsHeld s.slots) (sym same) held
    | inr other ↦ st.known v (sym (get_or-set_other at.known n v true false other) ∙ h)
  ];
}

allowed_over : (at : PlaceForm) (t : NamingForm) (n v : ℕ) → v ≢ n → IsAllowed (under at n) t v → IsAllowed at t v
allowed_over at t n v other (AsKnown h) = AsKnown (sym (get_or-set_other at.known n v true false other) ∙ h)
allowed_over at t n v other (AsAny h) = AsAny h
allowed_over at t n v other (AsFurther h e) = AsFurther h e

-- a part under a quantifier, seen from outside
pub bound : (at : PlaceForm) (s t : NamingForm) (n : ℕ) {F N : Type 0} {R : ℕ → Type 0} → Gives (under at n) s t F N R → Gives at s t F N (λ v. (v ≢ n) × R v)
bound at s t n g =
    let part = g.part in
    record {
      part = record {
        sound = part.sound;
        held = part.held;
        further = part.further;
        new_further = λ v e. elim (part.new_further v e) [ inl h ↦ inl h | inr h ↦ inr (unset at.known n v h) ];
      };
      formed = g.formed;
      new = g.new;
      free = λ v h. let fine = g.free v h.1 in record { allowed = allowed_over at t n v h.0 fine.allowed; held = fine.held };
    }
