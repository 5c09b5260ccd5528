-- The variables that a step picks: they are free in the precondition, and keep their numbers.
use Rattle.std.proofs.Common.{◌≡◌, ◌≢◌, ℕ, zero, suc, ◌+◌, Bool, true, false, not, ◌==◌, get_or, List, []}
use Rattle.std.proofs.Common.{◌∷◌, ◌++◌, length, refl, ap, sym, subst, ◌∙◌, arith, inl, inr, Ok, Option, Some}
use Rattle.std.proofs.Common.{None, cond}
use Rattle.std.specs.Prelude.{Contains}
use Rattle.std.proofs.lemmas.Bool.{eq-eqb, true≢false}
use Rattle.std.proofs.lemmas.List.Elements.{Contains-append_cases}
use Rattle.tv_tree.specs.Forms as tree
use Rattle.tv_model.specs.Form.{Form, FZero, FOne, FAtom, FIsNew, FSame, FNot, FAnd, FOr, FIff, FCond}
use Rattle.tv_model.specs.Form.{FExists, FForall, FClosure, IsFree}
use Rattle.tv_model.specs.Program.{ProgramForm}
use Rattle.tv_model.specs.Valid.{without, free_occurrences, first_occurrences, IsPrecondition}
use Rattle.tv_names.specs.Symbols.{SymbolForm}
use Rattle.tv_names.specs.Naming.{SlotForm, Vacant, is_vacant, NamingForm, no_names, kept_slot, kept_from}
use Rattle.tv_names.specs.Picks.{picks_in, flags_of}
use Rattle.tv_names.specs.Resolving.{resolved}
use Rattle.tv_vocab.specs.Vocabulary.{anywhere}
use Rattle.tv_vocab.specs.Actions.{PickingForm, picking, precondition}
use Rattle.tv_vocab.proofs.valid.Refusals.{ok_is, not_none, went}
use Rattle.tv_vocab.proofs.valid.Numbers.{IsHeld, IsSound, no_names_sound}
use Rattle.tv_vocab.proofs.valid.Parts.{AreSymbols, GivesForm}
use Rattle.tv_vocab.proofs.valid.Atoms.{contains_one, contains_two, contains_none}
use Rattle.tv_vocab.proofs.valid.Formulas.{formula_given}
use Rattle.tv_vocab.proofs.valid.Flags.{contains_head, contains_tail, contains_split, known_to}
use Rattle.tv_vocab.proofs.valid.Rules.{stands_anywhere, plain}

-- ---- occurrences

without_by : (v x u : ℕ) (xs : List ℕ) (b : Bool) → (x == v) ≡ b → (Contains (without v xs) u → (u ≢ v) × Contains xs u) → Contains (cond (not b) (x ∷ without v xs) (without v xs)) u → (u ≢ v) × Contains (x ∷ xs) u
without_by v x u xs true e rest h = let k = rest h in (k.0, contains_tail x u xs k.1)
without_by v x u xs false e rest h =
    elim (contains_split x u (without v xs) h) [
      | inl same ↦ (λ here. true≢false (sym (eq-eqb x v (sym same ∙ here)) ∙ e), subst (λ (y : ℕ). Contains (y ∷ xs) u) same (contains_head u xs))
      | inr k ↦ let l = rest k in (l.0, contains_tail x u xs l.1)
    ]

without_from : (v u : ℕ) (xs : List ℕ) → Contains (without v xs) u → (u ≢ v) × Contains xs u
without_from v u [] h = absurd (contains_none u h)
without_from v u (x ∷ xs) h = without_by v x u xs (x == v) refl (without_from v u xs) h

first_from : (u : ℕ) (xs : List ℕ) → Contains (first_occurrences xs) u → Contains xs u
first_from u [] h = h
first_from u (x ∷ xs) h =
    elim (contains_split x u (without x (first_occurrences xs)) h) [
      | inl same ↦ subst (λ (y : ℕ). Contains (y ∷ xs) u) same (contains_head u xs)
      | inr k ↦ contains_tail x u xs (first_from u xs (without_from x u (first_occurrences xs) k).1)
    ]

free_from : (u : ℕ) (f : Form) → Contains (free_occurrences f) u → IsFree u f
free_from u FZero h = contains_none u h
free_from u FOne h = contains_none u h
free_from u (FAtom q vars) h = h
free_from u (FIsNew v) h = contains_one v u h
free_from u (FSame v w) h = contains_two v w u h
free_from u (FNot f) h = free_from u f h
free_from u (FAnd f g) h = elim (Contains-append_cases (free_occurrences f) (free_occurrences g) u h) [ inl k ↦ inl (free_from u f k) | inr k ↦ inr (free_from u g k) ]
free_from u (FOr f g) h = elim (Contains-append_cases (free_occurrences f) (free_occurrences g) u h) [ inl k ↦ inl (free_from u f k) | inr k ↦ inr (free_from u g k) ]
free_from u (FIff f g) h = elim (Contains-append_cases (free_occurrences f) (free_occurrences g) u h) [ inl k ↦ inl (free_from u f k) | inr k ↦ inr (free_from u g k) ]
free_from u (FCond c f g) h =
    elim (Contains-append_cases (free_occurrences c ++ free_occurrences f) (free_occurrences g) u h) [
      | inl r ↦ elim (Contains-append_cases (free_occurrences c) (free_occurrences f) u r) [ inl k ↦ inl (free_from u c k) | inr k ↦ inr (inl (free_from u f k)) ]
      | inr k ↦ inr (inr (free_from u g k))
    ]
free_from u (FExists v f) h = let k = without_from v u (free_occurrences f) h in (k.0, free_from u f k.1)
free_from u (FForall v f) h = let k = without_from v u (free_occurrences f) h in (k.0, free_from u f k.1)
free_from u (FClosure from to left right f) h =
    let inner = without left (without right (free_occurrences f)) in
    elim (contains_split from u (to ∷ inner) h) [
      | inl e ↦ inl e
      | inr r ↦
          elim (contains_split to u inner r) [
            | inl e ↦ inr (inl e)
            | inr k ↦
                let a = without_from left u (without right (free_occurrences f)) k in
                let b = without_from right u (free_occurrences f) a.1 in
                inr (inr (a.0, b.0, free_from u f b.1))
          ]
    ]

pub picked_free : (u : ℕ) (f : Form) → Contains (picks_in f) u → IsFree u f
picked_free u f h = free_from u f (first_from u (free_occurrences f) h)

-- ---- the numbers that the picked variables keep

pub kept_length : (n : ℕ) (flags : List Bool) (slots : List SlotForm) → length (kept_from n flags slots) ≡ length slots
kept_length n flags [] = refl
kept_length n flags (slot ∷ slots) = let e = kept_length (n + 1) flags slots in omega (arith, e)

pub kept_at : (n v : ℕ) (flags : List Bool) (slots : List SlotForm) → get_or flags (n + v) false ≡ true → get_or (kept_from n flags slots) v Vacant ≡ get_or slots v Vacant
kept_at n v flags [] h = refl
kept_at n zero flags (slot ∷ slots) h =
    let e : n + 0 ≡ n = omega arith in
    let g : get_or flags n false ≡ true = ap (λ (m : ℕ). get_or flags m false) (sym e) ∙ h in
    ap (λ (b : Bool). kept_slot b slot) g
kept_at n (suc v) flags (slot ∷ slots) h =
    let e : (n + 1) + v ≡ n + suc v = omega arith in
    kept_at (n + 1) v flags slots (ap (λ (m : ℕ). get_or flags m false) e ∙ h)

-- what a step begins its retain formula and its updates with
pub record IsPicking (p : ProgramForm) (x : PickingForm) : Type 0 where
  pub precondition : IsPrecondition p x.pre x.picks
  pub sound : IsSound x.picked
  pub none : x.picked.further ≡ None
  pub held : (v : ℕ) → Contains x.picks v → IsHeld x.picked.slots v

picking_given : (p : ProgramForm) (symbols : List SymbolForm) (x : Form × NamingForm) → GivesForm p (anywhere symbols) no_names x → IsPicking p (picking x.0 x.1)
picking_given p symbols x gives =
    let flags = flags_of (picks_in x.0) in
    record {
      precondition = (plain p symbols no_names x gives, refl);
      sound = record { size = kept_length 0 flags x.1.slots ∙ gives.part.sound.size; own = λ pair e. absurd (not_none pair e); further = λ v e. absurd (not_none v e) };
      none = refl;
      held = λ v h.
          let held = (gives.free v (picked_free v x.0 h)).held in
          let e : 0 + v ≡ v = omega arith in
          record {
            within = held.within;
            taken = ap is_vacant (kept_at 0 v flags x.1.slots (ap (λ (m : ℕ). get_or flags m false) e ∙ known_to (picks_in x.0) v held.within h)) ∙ held.taken;
          };
    }

pub precondition_given : (p : ProgramForm) (symbols : List SymbolForm) (pre : Option tree.Form) (x : PickingForm) → AreSymbols p symbols → precondition symbols pre ≡ Ok x → IsPicking p x
precondition_given p symbols None x are h =
    subst (IsPicking p) (ok_is (record { pre = None; picks = []; picked = no_names }) x h)
    (record { precondition = refl; sound = no_names_sound; none = refl; held = λ v k. absurd (contains_none v k) })
precondition_given p symbols (Some f) x are h =
    let a = went (resolved (anywhere symbols) f no_names) (λ y. Ok (picking y.0 y.1)) x h in
    subst (IsPicking p) (ok_is (picking a.x.0 a.x.1) x a.rest)
    (picking_given p symbols a.x (formula_given p f (anywhere symbols) no_names a.x (stands_anywhere p symbols are) a.gave))
