-- What stands free in a formula, by names, is what stands free in what it is resolved to, by numbers.
use Rattle.std.proofs.Common.{◌≡◌, ℕ, Bool, true, false, cond, ◌||◌, ◌&&◌, ◌==◌, List, [], ◌∷◌, ◌++◌, length}
use Rattle.std.proofs.Common.{refl, ap, sym, subst, ◌∙◌, append_assoc, inl, inr, Ok, Err}
use Rattle.std.specs.Prelude.{is_some}
use Rattle.std.specs.Str.{bytes_eq}
use Rattle.std.proofs.lemmas.Bool.{cases_Bool, eq-eqb}
use Rattle.tv_tree.specs.Forms as tree
use Rattle.tv_tree.specs.Names.{is_among, name_text}
use Rattle.tv_model.specs.Form.{Form, FZero, FOne, FAtom, FIsNew, FSame, FNot, FAnd, FOr, FIff, FCond}
use Rattle.tv_model.specs.Form.{FExists, FForall, FClosure}
use Rattle.tv_model.specs.Valid.{without, free_occurrences}
use Rattle.tv_names.specs.declared.place.Others.{Others}
use Rattle.tv_names.specs.declared.place.Others.TheVariants.{Any, Never, Once}
use Rattle.tv_names.specs.declared.refusal.ResolveError.TheVariants.{NameTwice, ArityWrong, Reserved}
use Rattle.tv_names.specs.declared.refusal.ResolveError.TheVariants.{VariableUnbound, HalfLiteral}
use Rattle.tv_names.specs.Refusal.{◌>>=◌, refused_if}
use Rattle.tv_names.specs.Symbols.{is_sm, is_new_word}
use Rattle.tv_names.specs.Naming.{NamingForm, number_of, sighted, own_pair}
use Rattle.tv_names.specs.Picks.{is_one_of}
use Rattle.tv_names.specs.Resolving.{PlaceForm, Numbered, is_known_at, is_the_further, noted, other_variable}
use Rattle.tv_names.specs.Resolving.{occurrence, two_occurrences, terms, pred_at, new_atom, pred_atom, atom}
use Rattle.tv_names.specs.Resolving.{closable, closure_of, star_of, star, under, quantified, two_bound}
use Rattle.tv_names.specs.Resolving.{resolved}
use Rattle.tv_vocab.specs.Variables.{without_names, free_names}
use Rattle.tv_vocab.proofs.valid.Refusals.{ok_is, not_given, went}
use Rattle.tv_vocab.proofs.items.Numbered.{IsSeen, sighted_seen, seen_later, pair_quiet, Knows, knows_seen}
use Rattle.tv_vocab.proofs.items.Numbered.{knows_under}
use Rattle.tv_vocab.proofs.items.Frees.{Frees, frees_none, frees_quiet, frees_both, frees_as, frees_seen}
use Rattle.tv_vocab.proofs.items.Frees.{frees_bound, frees_behind, without_more}

-- ---- occurrences

abbrev FreesOne : PlaceForm → (List ℕ → Bool) → List ℕ → NamingForm → ℕ × NamingForm → Type 0
FreesOne at K name s x = Frees at K s x.1 (name ∷ []) (x.0 ∷ [])

module _ (at : PlaceForm) (K : List ℕ → Bool) (name : List ℕ) (s : NamingForm)
    (knows : Knows at.known K s) where
  known_free : (x : ℕ × NamingForm) → K name ≡ true → sighted name s ≡ Ok x → FreesOne at K name s x
  known_free x known h =
      let seen = sighted_seen name s x h in
      frees_seen at K name s x x.1 knows seen refl
      (λ once. ap is_some seen.further ∙ rw known (or_false (is_some s.further)))
    where
      or_false : (b : Bool) → b ≡ (b || false)
      or_false true = refl
      or_false false = refl

  noted_free : (b : Bool) (x : ℕ × NamingForm) → K name ≡ false
      → cond b (sighted name s >>= λ y. Ok (noted y)) (Err VariableUnbound) ≡ Ok x → FreesOne at K name s x
  noted_free true x other h =
      let a = went (sighted name s) (λ y. Ok (noted y)) x h in
      subst (FreesOne at K name s) (ok_is (noted a.x) x a.rest)
      (frees_seen at K name s a.x (noted a.x).1 knows (sighted_seen name s a.x a.gave) refl
      (λ once. rw other (or_true (is_some s.further))))
    where
      or_true : (b : Bool) → true ≡ (b || true)
      or_true true = refl
      or_true false = refl
  noted_free false x other h = absurd (not_given VariableUnbound x h)

  other_free : (o : Others) (x : ℕ × NamingForm) → at.others ≡ o → K name ≡ false
      → other_variable o name s ≡ Ok x
      → FreesOne at K name s x
  other_free Any x is other h =
      frees_seen at K name s x x.1 knows (sighted_seen name s x h) refl
      (λ once. absurd (apart (sym is ∙ once)))
    where
      apart : ◌≡◌ {A = Others} Any Once → ⊥
      apart e = cc
  other_free Never x is other h = absurd (not_given VariableUnbound x h)
  other_free Once x is other h = noted_free (is_the_further s.further (number_of name s.slots)) x other h

  free_by : (b : Bool) (x : ℕ × NamingForm) → is_known_at at.known (number_of name s.slots) ≡ b
      → cond b (sighted name s) (other_variable at.others name s) ≡ Ok x → FreesOne at K name s x
  free_by true x is h = known_free x (sym (knows.named name) ∙ is) h
  free_by false x is h = other_free at.others x refl (sym (knows.named name) ∙ is) h

  occurrence_free : (x : ℕ × NamingForm) → occurrence at name s ≡ Ok x → FreesOne at K name s x
  unfolding occurrence
  occurrence_free x h = free_by (is_known_at at.known (number_of name s.slots)) x refl h

two_free : (at : PlaceForm) (K : List ℕ → Bool) (v w : List ℕ) (s : NamingForm) (x : (ℕ × ℕ) × NamingForm)
    → Knows at.known K s → two_occurrences at v w s ≡ Ok x
    → Frees at K s x.1 (v ∷ w ∷ []) (x.0.0 ∷ x.0.1 ∷ [])
unfolding two_occurrences
two_free at K v w s x knows h =
    let a = went (occurrence at v s) (λ y. occurrence at w y.1 >>= λ z. Ok ((y.0, z.0), z.1)) x h in
    let b = went (occurrence at w a.x.1) (λ z. Ok ((a.x.0, z.0), z.1)) x a.rest in
    let left = occurrence_free at K v s knows a.x a.gave in
    let right = occurrence_free at K w a.x.1 left.knows b.x b.gave in
    subst (λ (y : (ℕ × ℕ) × NamingForm). Frees at K s y.1 (v ∷ w ∷ []) (y.0.0 ∷ y.0.1 ∷ []))
    (ok_is ((a.x.0, b.x.0), b.x.1) x b.rest)
    (frees_both at K s a.x.1 b.x.1 (v ∷ []) (w ∷ []) (a.x.0 ∷ []) (b.x.0 ∷ []) left right)

-- ---- atoms

terms_free : (at : PlaceForm) (K : List ℕ → Bool) (names : List (List ℕ)) (s : NamingForm)
    (x : List ℕ × NamingForm)
    → Knows at.known K s → terms at names s ≡ Ok x → Frees at K s x.1 names x.0
terms_free at K [] s x knows h =
    subst (λ (y : List ℕ × NamingForm). Frees at K s y.1 [] y.0) (ok_is ([], s) x h) (frees_none at K s knows)
terms_free at K (v ∷ []) s x knows h =
    let a = went (occurrence at v s) (λ y. Ok (y.0 ∷ [], y.1)) x h in
    subst (λ (y : List ℕ × NamingForm). Frees at K s y.1 (v ∷ []) y.0) (ok_is (a.x.0 ∷ [], a.x.1) x a.rest)
    (occurrence_free at K v s knows a.x a.gave)
terms_free at K (v ∷ w ∷ []) s x knows h =
    let a = went (two_occurrences at v w s) (λ y. Ok (y.0.0 ∷ y.0.1 ∷ [], y.1)) x h in
    subst (λ (y : List ℕ × NamingForm). Frees at K s y.1 (v ∷ w ∷ []) y.0)
    (ok_is (a.x.0.0 ∷ a.x.0.1 ∷ [], a.x.1) x a.rest) (two_free at K v w s a.x knows a.gave)
terms_free at K (v ∷ w ∷ z ∷ more) s x knows h = absurd (not_given ArityWrong x h)

-- a formula: what stands free in it are these names
abbrev pub FreesForm : PlaceForm → (List ℕ → Bool) → NamingForm → List (List ℕ) → Form × NamingForm → Type 0
FreesForm at K s names x = Frees at K s x.1 names (free_occurrences x.0)

new_atom_free : (at : PlaceForm) (K : List ℕ → Bool) (names : List (List ℕ)) (s : NamingForm)
    (x : Form × NamingForm)
    → Knows at.known K s → new_atom at names s ≡ Ok x → FreesForm at K s names x
new_atom_free at K [] s x knows h = absurd (not_given ArityWrong x h)
new_atom_free at K (v ∷ []) s x knows h =
    let a = went (occurrence at v s) (λ y. Ok (FIsNew y.0, y.1)) x h in
    subst (FreesForm at K s (v ∷ [])) (ok_is (FIsNew a.x.0, a.x.1) x a.rest)
    (occurrence_free at K v s knows a.x a.gave)
new_atom_free at K (v ∷ w ∷ more) s x knows h = absurd (not_given ArityWrong x h)

pred_atom_free : (at : PlaceForm) (K : List ℕ → Bool) (name : List ℕ) (names : List (List ℕ)) (s : NamingForm)
    (x : Form × NamingForm) → Knows at.known K s → pred_atom at name names s ≡ Ok x → FreesForm at K s names x
unfolding pred_atom
pred_atom_free at K name names s x knows h =
    let a = went (pred_at at name (length names)) (λ pred. terms at names s >>= λ vars.
    Ok (FAtom pred vars.0, vars.1)) x h in
    let b = went (terms at names s) (λ vars. Ok (FAtom a.x vars.0, vars.1)) x a.rest in
    subst (FreesForm at K s names) (ok_is (FAtom a.x b.x.0, b.x.1) x b.rest)
    (terms_free at K names s b.x knows b.gave)

atom_free : (at : PlaceForm) (K : List ℕ → Bool) (name : List ℕ) (names : List (List ℕ)) (s : NamingForm)
    (x : Form × NamingForm) → Knows at.known K s → atom at name names s ≡ Ok x → FreesForm at K s names x
unfolding atom
atom_free at K name names s x knows h =
    let a = went (refused_if (is_sm name) Reserved)
    (λ fine. cond (is_new_word name && at.with_new) (new_atom at names s) (pred_atom at name names s)) x
    h in
    by (is_new_word name && at.with_new) a.rest
  where
    by : (b : Bool) → cond b (new_atom at names s) (pred_atom at name names s) ≡ Ok x
        → FreesForm at K s names x
    by true k = new_atom_free at K names s x knows k
    by false k = pred_atom_free at K name names s x knows k

-- ---- closures of predicates

-- the own variables of `p*` and `p+` are bound
own_bound : (left right : ℕ) → without left (without right (left ∷ right ∷ [])) ≡ []
own_bound left right =
    elim (cases_Bool (left == right)) [
      | inl e ↦ rw (e, eq-eqb right right refl) refl
      | inr e ↦ rw (e, eq-eqb right right refl, eq-eqb left left refl) refl
    ]

star_frees : (at : PlaceForm) (K : List ℕ → Bool) (reflexive : Bool) (pred : ℕ) (ends own : ℕ × ℕ)
    (v w : List ℕ) (s t : NamingForm)
    → Frees at K s t (v ∷ w ∷ []) (ends.0 ∷ ends.1 ∷ [])
    → FreesForm at K s (v ∷ w ∷ []) (star_of reflexive pred ends own, t)
star_frees at K false pred ends own v w s t a =
    frees_as at K s t (v ∷ w ∷ []) (ends.0 ∷ ends.1 ∷ []) (free_occurrences (closure_of pred ends own))
    (λ n. ap (λ (vs : List ℕ). is_one_of (ends.0 ∷ ends.1 ∷ vs) n) (own_bound own.0 own.1)) a
star_frees at K true pred ends own v w s t a =
    frees_as at K s t (v ∷ w ∷ []) (ends.0 ∷ ends.1 ∷ []) (free_occurrences (star_of true pred ends own))
    (λ n. ap (λ (vs : List ℕ). is_one_of (ends.0 ∷ ends.1 ∷ ends.0 ∷ ends.1 ∷ vs) n) (own_bound own.0 own.1)
    ∙ again (ends.0 == n) (ends.1 == n)) a
  where
    again : (p q : Bool) → (p || (q || (p || (q || false)))) ≡ (p || (q || false))
    again true q = refl
    again false true = refl
    again false false = refl

star_free : (at : PlaceForm) (K : List ℕ → Bool) (reflexive : Bool) (name v w : List ℕ) (s : NamingForm)
    (x : Form × NamingForm) → Knows at.known K s → star at reflexive name v w s ≡ Ok x
    → FreesForm at K s (v ∷ w ∷ []) x
unfolding star
star_free at K reflexive name v w s x knows h =
    let a = went (closable at name) (λ pred. two_occurrences at v w s >>= λ ends. own_pair ends.1 >>= λ own.
    Ok (star_of reflexive pred ends.0 own.0, own.1)) x h in
    let b = went (two_occurrences at v w s) (λ ends. own_pair ends.1 >>= λ own.
    Ok (star_of reflexive a.x ends.0 own.0, own.1)) x a.rest in
    let c = went (own_pair b.x.1) (λ own. Ok (star_of reflexive a.x b.x.0 own.0, own.1)) x b.rest in
    let ends = two_free at K v w s b.x knows b.gave in
    let quiet = frees_quiet at K b.x.1 c.x.1 ends.knows (pair_quiet b.x.1 c.x c.gave) in
    let both = frees_both at K s b.x.1 c.x.1 (v ∷ w ∷ []) [] (b.x.0.0 ∷ b.x.0.1 ∷ []) [] ends quiet in
    subst (FreesForm at K s (v ∷ w ∷ [])) (ok_is (star_of reflexive a.x b.x.0 c.x.0, c.x.1) x c.rest)
    (star_frees at K reflexive a.x b.x.0 c.x.0 v w s c.x.1 both)

-- ---- quantifiers and closures

module _ (q : ℕ → Form → Form)
    (free : (v : ℕ) (f : Form) → free_occurrences (q v f) ≡ without v (free_occurrences f))
    (body : PlaceForm → NamingForm → Numbered Form) (xs : List (List ℕ))
    (given : (at : PlaceForm) (K : List ℕ → Bool) (s : NamingForm) (x : Form × NamingForm)
    → Knows at.known K s → body at s ≡ Ok x → FreesForm at K s xs x) where
  quantified_free : (names earlier : List (List ℕ)) (at : PlaceForm) (K : List ℕ → Bool) (s : NamingForm)
      (x : Form × NamingForm) → Knows at.known K s → quantified q body at earlier names s ≡ Ok x
      → FreesForm at K s (without_names names xs) x
  quantified_free [] earlier at K s x knows h = subst (λ (ys : List (List ℕ)). FreesForm at K s ys x)
      (none_away xs) (given at K s x knows h)
    where
      none_away : (ys : List (List ℕ)) → ys ≡ without_names [] ys
      none_away [] = refl
      none_away (y ∷ ys) = ap (λ (zs : List (List ℕ)). y ∷ zs) (none_away ys)
  quantified_free (name ∷ names) earlier at K s x knows h =
      let a = went (refused_if (is_among earlier name) NameTwice)
      (λ new. sighted name s >>= λ v. quantified q body (under at v.0) (earlier ++ name ∷ []) names v.1
      >>= λ f. Ok (q v.0 f.0, f.1)) x h in
      let b = went (sighted name s) (λ v. quantified q body (under at v.0) (earlier ++ name ∷ []) names v.1
      >>= λ f. Ok (q v.0 f.0, f.1)) x a.rest in
      let c = went (quantified q body (under at b.x.0) (earlier ++ name ∷ []) names b.x.1)
      (λ f. Ok (q b.x.0 f.0, f.1)) x b.rest in
      let seen = sighted_seen name s b.x b.gave in
      let known = knows_seen at.known K name s b.x knows seen in
      let inside = knows_under at.known K name b.x.0 b.x.1 known seen.number in
      let rest = quantified_free names (earlier ++ name ∷ []) (under at b.x.0) (λ y. bytes_eq y name || K y)
      b.x.1 c.x inside c.gave in
      let bound = frees_bound at K name b.x.0 b.x.1 c.x.1 (without_names names xs) (free_occurrences c.x.0)
      known seen.number rest in
      subst (FreesForm at K s (without_names (name ∷ names) xs)) (ok_is (q b.x.0 c.x.0, c.x.1) x c.rest)
      (frees_behind at K name s b.x c.x.1 knows seen (without_names (name ∷ names) xs)
      (free_occurrences (q b.x.0 c.x.0))
      (subst (λ (ys : List (List ℕ)). Frees at K b.x.1 c.x.1 ys (free_occurrences (q b.x.0 c.x.0)))
      (without_more name names xs)
      (subst (λ (vs : List ℕ). Frees at K b.x.1 c.x.1 (without_names (name ∷ []) (without_names names xs)) vs)
      (sym (free b.x.0 c.x.0)) bound)))

-- two different variables that a closure binds
record AreSeen (left right : List ℕ) (s : NamingForm) (x : (ℕ × ℕ) × NamingForm) : Type 0 where
  mid : NamingForm
  first : IsSeen left s (x.0.0, mid)
  second : IsSeen right mid (x.0.1, x.1)

bound_seen : (left right : List ℕ) (s : NamingForm) (x : (ℕ × ℕ) × NamingForm) → two_bound left right s ≡ Ok x
    → AreSeen left right s x
unfolding two_bound
bound_seen left right s x h =
    let a = went (sighted left s) (λ v. refused_if (bytes_eq left right) NameTwice >>= λ new.
    sighted right v.1 >>= λ w. Ok ((v.0, w.0), w.1)) x h in
    let b = went (refused_if (bytes_eq left right) NameTwice)
    (λ new. sighted right a.x.1 >>= λ w. Ok ((a.x.0, w.0), w.1)) x a.rest in
    let c = went (sighted right a.x.1) (λ w. Ok ((a.x.0, w.0), w.1)) x b.rest in
    subst (AreSeen left right s) (ok_is ((a.x.0, c.x.0), c.x.1) x c.rest)
    (record {
      mid = a.x.1;
      first = sighted_seen left s a.x a.gave;
      second =
          sighted_seen right a.x.1 c.x c.gave;
    })

closure_free : (left right : List ℕ) (f : tree.Form) (at : PlaceForm) (K : List ℕ → Bool) (s : NamingForm)
    (own : (ℕ × ℕ) × NamingForm) (x : Form × NamingForm) → Knows at.known K s → AreSeen left right s own
    → ((L : List ℕ → Bool) → Knows (under (under at own.0.0) own.0.1).known L own.1
    → FreesForm (under (under at own.0.0) own.0.1) L own.1 (free_names f) x)
    → Frees at K s x.1 (without_names (left ∷ right ∷ []) (free_names f))
    (without own.0.0 (without own.0.1 (free_occurrences x.0)))
closure_free left right f at K s own x knows seen given =
    let first = knows_seen at.known K left s (own.0.0, seen.mid) knows seen.first in
    let second = knows_seen at.known K right seen.mid (own.0.1, own.1) first seen.second in
    let at_left = seen_later right seen.mid (own.0.1, own.1) seen.second left own.0.0 seen.first.number in
    let inside = knows_under at.known K left own.0.0 own.1 second at_left in
    let L : List ℕ → Bool = λ y. bytes_eq y left || K y in
    let innermost = knows_under (under at own.0.0).known L right own.0.1 own.1 inside seen.second.number in
    let body = given (λ y. bytes_eq y right || L y) innermost in
    let without_right = frees_bound (under at own.0.0) L right own.0.1 own.1 x.1 (free_names f)
    (free_occurrences x.0) inside seen.second.number body in
    let without_left = frees_bound at K left own.0.0 own.1 x.1 (without_names (right ∷ []) (free_names f))
    (without own.0.1 (free_occurrences x.0)) second at_left without_right in
    let outer = subst (λ (ys : List (List ℕ)). Frees at K own.1 x.1 ys
    (without own.0.0 (without own.0.1 (free_occurrences x.0))))
    (without_more left (right ∷ []) (free_names f)) without_left in
    frees_behind at K left s (own.0.0, seen.mid) x.1 knows seen.first
    (without_names (left ∷ right ∷ []) (free_names f))
    (without own.0.0 (without own.0.1 (free_occurrences x.0)))
    (frees_behind at K right seen.mid (own.0.1, own.1) x.1 first seen.second
    (without_names (left ∷ right ∷ []) (free_names f))
    (without own.0.0 (without own.0.1 (free_occurrences x.0))) outer)

-- ---- formulas

two_forms : (at : PlaceForm) (K : List ℕ → Bool) (s : NamingForm) (xs ys : List (List ℕ))
    (a b : Form × NamingForm)
    → FreesForm at K s xs a → FreesForm at K a.1 ys b
    → Frees at K s b.1 (xs ++ ys) (free_occurrences a.0 ++ free_occurrences b.0)
two_forms at K s xs ys a b p q = frees_both at K s a.1 b.1 xs ys (free_occurrences a.0) (free_occurrences b.0)
    p q

pub formula_free : (f : tree.Form) (at : PlaceForm) (K : List ℕ → Bool) (s : NamingForm)
    (x : Form × NamingForm)
    → Knows at.known K s → resolved at f s ≡ Ok x → FreesForm at K s (free_names f) x
unfolding resolved
formula_free tree.FZero at K s x knows h = subst (FreesForm at K s []) (ok_is (FZero, s) x h)
    (frees_none at K s knows)
formula_free tree.FOne at K s x knows h = subst (FreesForm at K s []) (ok_is (FOne, s) x h)
    (frees_none at K s knows)
formula_free tree.FHalf at K s x knows h = absurd (not_given HalfLiteral x h)
formula_free (tree.FSame v w) at K s x knows h =
    let a = went (two_occurrences at v w s) (λ y. Ok (FSame y.0.0 y.0.1, y.1)) x h in
    subst (FreesForm at K s (v ∷ w ∷ [])) (ok_is (FSame a.x.0.0 a.x.0.1, a.x.1) x a.rest)
    (two_free at K v w s a.x knows a.gave)
formula_free (tree.FDiffer v w) at K s x knows h =
    let a = went (two_occurrences at v w s) (λ y. Ok (FNot (FSame y.0.0 y.0.1), y.1)) x h in
    subst (FreesForm at K s (v ∷ w ∷ [])) (ok_is (FNot (FSame a.x.0.0 a.x.0.1), a.x.1) x a.rest)
    (two_free at K v w s a.x knows a.gave)
formula_free (tree.FAtom name arguments) at K s x knows h =
    atom_free at K (name_text name) arguments s x knows h
formula_free (tree.FStar name v w) at K s x knows h = star_free at K true (name_text name) v w s x knows h
formula_free (tree.FPlus name v w) at K s x knows h = star_free at K false (name_text name) v w s x knows h
formula_free (tree.FParen f) at K s x knows h = formula_free f at K s x knows h
formula_free (tree.FNot f) at K s x knows h =
    let a = went (resolved at f s) (λ y. Ok (FNot y.0, y.1)) x h in
    subst (FreesForm at K s (free_names f)) (ok_is (FNot a.x.0, a.x.1) x a.rest)
    (formula_free f at K s a.x knows a.gave)
formula_free (tree.FAnd f g) at K s x knows h =
    let a = went (resolved at f s) (λ y. resolved at g y.1 >>= λ z. Ok (FAnd y.0 z.0, z.1)) x h in
    let b = went (resolved at g a.x.1) (λ z. Ok (FAnd a.x.0 z.0, z.1)) x a.rest in
    let one = formula_free f at K s a.x knows a.gave in
    let two = formula_free g at K a.x.1 b.x one.knows b.gave in
    subst (FreesForm at K s (free_names f ++ free_names g)) (ok_is (FAnd a.x.0 b.x.0, b.x.1) x b.rest)
    (two_forms at K s (free_names f) (free_names g) a.x b.x one two)
formula_free (tree.FOr f g) at K s x knows h =
    let a = went (resolved at f s) (λ y. resolved at g y.1 >>= λ z. Ok (FOr y.0 z.0, z.1)) x h in
    let b = went (resolved at g a.x.1) (λ z. Ok (FOr a.x.0 z.0, z.1)) x a.rest in
    let one = formula_free f at K s a.x knows a.gave in
    let two = formula_free g at K a.x.1 b.x one.knows b.gave in
    subst (FreesForm at K s (free_names f ++ free_names g)) (ok_is (FOr a.x.0 b.x.0, b.x.1) x b.rest)
    (two_forms at K s (free_names f) (free_names g) a.x b.x one two)
formula_free (tree.FImp f g) at K s x knows h =
    let a = went (resolved at f s) (λ y. resolved at g y.1 >>= λ z. Ok (FOr (FNot y.0) z.0, z.1)) x h in
    let b = went (resolved at g a.x.1) (λ z. Ok (FOr (FNot a.x.0) z.0, z.1)) x a.rest in
    let one = formula_free f at K s a.x knows a.gave in
    let two = formula_free g at K a.x.1 b.x one.knows b.gave in
    subst (FreesForm at K s (free_names f ++ free_names g)) (ok_is (FOr (FNot a.x.0) b.x.0, b.x.1) x b.rest)
    (two_forms at K s (free_names f) (free_names g) a.x b.x one two)
formula_free (tree.FIff f g) at K s x knows h =
    let a = went (resolved at f s) (λ y. resolved at g y.1 >>= λ z. Ok (FIff y.0 z.0, z.1)) x h in
    let b = went (resolved at g a.x.1) (λ z. Ok (FIff a.x.0 z.0, z.1)) x a.rest in
    let one = formula_free f at K s a.x knows a.gave in
    let two = formula_free g at K a.x.1 b.x one.knows b.gave in
    subst (FreesForm at K s (free_names f ++ free_names g)) (ok_is (FIff a.x.0 b.x.0, b.x.1) x b.rest)
    (two_forms at K s (free_names f) (free_names g) a.x b.x one two)
formula_free (tree.FCond f g e) at K s x knows h =
    let a = went (resolved at f s) (λ y. resolved at g y.1 >>= λ z. resolved at e z.1 >>= λ w.
    Ok (FCond y.0 z.0 w.0, w.1)) x h in
    let b = went (resolved at g a.x.1) (λ z. resolved at e z.1 >>= λ w. Ok (FCond a.x.0 z.0 w.0, w.1)) x
    a.rest in
    let c = went (resolved at e b.x.1) (λ w. Ok (FCond a.x.0 b.x.0 w.0, w.1)) x b.rest in
    let one = formula_free f at K s a.x knows a.gave in
    let two = formula_free g at K a.x.1 b.x one.knows b.gave in
    let three = formula_free e at K b.x.1 c.x two.knows c.gave in
    let first = two_forms at K s (free_names f) (free_names g) a.x b.x one two in
    let all = frees_both at K s b.x.1 c.x.1 (free_names f ++ free_names g) (free_names e)
    (free_occurrences a.x.0 ++ free_occurrences b.x.0) (free_occurrences c.x.0) first three in
    subst (FreesForm at K s (free_names f ++ (free_names g ++ free_names e)))
    (ok_is (FCond a.x.0 b.x.0 c.x.0, c.x.1) x c.rest)
    (subst (λ (ys : List (List ℕ)). Frees at K s c.x.1 ys
    ((free_occurrences a.x.0 ++ free_occurrences b.x.0) ++ free_occurrences c.x.0))
    (append_assoc (free_names f) (free_names g) (free_names e)) all)
formula_free (tree.FExists names f) at K s x knows h =
    quantified_free FExists (λ v g. refl) (λ inner t. resolved inner f t) (free_names f)
    (λ inner L t y k e. formula_free f inner L t y k e) names [] at K s x knows h
formula_free (tree.FForall names f) at K s x knows h =
    quantified_free FForall (λ v g. refl) (λ inner t. resolved inner f t) (free_names f)
    (λ inner L t y k e. formula_free f inner L t y k e) names [] at K s x knows h
formula_free (tree.FTc from to left right f) at K s x knows h =
    let a = went (two_occurrences at from to s) (λ ends. two_bound left right ends.1 >>= λ own.
    resolved (under (under at own.0.0) own.0.1) f own.1 >>= λ body.
    Ok (FClosure ends.0.0 ends.0.1 own.0.0 own.0.1 body.0, body.1)) x h in
    let b = went (two_bound left right a.x.1) (λ own. resolved (under (under at own.0.0) own.0.1) f own.1
    >>= λ body. Ok (FClosure a.x.0.0 a.x.0.1 own.0.0 own.0.1 body.0, body.1)) x a.rest in
    let c = went (resolved (under (under at b.x.0.0) b.x.0.1) f b.x.1)
    (λ body. Ok (FClosure a.x.0.0 a.x.0.1 b.x.0.0 b.x.0.1 body.0, body.1)) x b.rest in
    let ends = two_free at K from to s a.x knows a.gave in
    let own = bound_seen left right a.x.1 b.x b.gave in
    let inner = closure_free left right f at K a.x.1 b.x c.x ends.knows own
    (λ L k. formula_free f (under (under at b.x.0.0) b.x.0.1) L b.x.1 c.x k c.gave) in
    subst (FreesForm at K s (free_names (tree.FTc from to left right f)))
    (ok_is (FClosure a.x.0.0 a.x.0.1 b.x.0.0 b.x.0.1 c.x.0, c.x.1) x c.rest)
    (frees_both at K s a.x.1 c.x.1 (from ∷ to ∷ []) (without_names (left ∷ right ∷ []) (free_names f))
    (a.x.0.0 ∷ a.x.0.1 ∷ []) (without b.x.0.0 (without b.x.0.1 (free_occurrences c.x.0))) ends inner)
