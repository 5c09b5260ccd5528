-- Each part of a formula sees its sights, in reading order.
use Rattle.std.proofs.Common.{◌≡◌, ℕ, ◌≤◌, Bool, true, false, not, ◌&&◌, ◌||◌, List, [], ◌∷◌, ◌++◌, length}
use Rattle.std.proofs.Common.{map, refl, ap, sym, subst, ◌∙◌, arith, Option, Some, None, Ok, Err}
use Rattle.std.specs.Prelude.{◌==◌, is_some, if◌then◌else◌}
use Rattle.std.specs.Str.{bytes_eq}
use Rattle.tv_tree.specs.Forms as tree
use Rattle.tv_tree.specs.Forms.{NameForm}
use Rattle.tv_tree.specs.Names.{is_among, name_text}
use Rattle.tv_model.specs.Form.{Form, FAtom, FIsNew, FSame, FNot, FAnd, FOr, FIff, FCond, FExists, FForall}
use Rattle.tv_model.specs.Form.{FClosure}
use Rattle.tv_names.specs.declared.refusal.ResolveError.{ResolveError}
use Rattle.tv_names.specs.declared.refusal.ResolveError.TheVariants.{NameUnknown, NameTwice, ArityWrong}
use Rattle.tv_names.specs.declared.refusal.ResolveError.TheVariants.{Reserved, VariableUnbound, HalfLiteral}
use Rattle.tv_names.specs.declared.refusal.ResolveError.TheVariants.{TooManyVariables}
use Rattle.tv_names.specs.declared.place.Others.{Others}
use Rattle.tv_names.specs.declared.place.Others.TheVariants.{Any, Never, Once}
use Rattle.tv_names.specs.Refusal.{◌>>=◌, OrRefused, refused_if, or_refused}
use Rattle.tv_names.specs.Symbols.{KnownForm, is_sm, is_new_word, symbol_of}
use Rattle.tv_names.specs.Naming.{SlotForm, Nameless, NamingForm, number_of, filled, sighted, two_more}
use Rattle.tv_names.specs.Naming.{own_at, own_pair}
use Rattle.tv_names.specs.Numbers.{Sight, OfName, OfPair, sights, is_same_sight, is_numbered, vacant_count}
use Rattle.tv_names.specs.Numbers.{filled_with, NumbersFollowSights, TooManyHaveNoRoom}
use Rattle.tv_names.specs.Resolving.{PlaceForm, Numbered, is_known_at, is_the_further, noted, other_variable}
use Rattle.tv_names.specs.Resolving.{occurrence, two_occurrences, terms, pred_at, new_atom, pred_atom, atom}
use Rattle.tv_names.specs.Resolving.{closable, star_of, star, under, quantified, two_bound, resolved}
use Rattle.tv_names.proofs.SlotFills.{fill_append, fill_count, filled_name}
use Rattle.tv_names.proofs.Sightings.{Follows, Sees, IsFilled, Fills, fills, known_stays, sees_then, sees_map}
use Rattle.tv_names.proofs.Sightings.{sees_none, sees_guard, name_sees}

-- ---- refusals of other kinds

unbound : VariableUnbound ≡ TooManyVariables → ⊥
unbound e = cc

wrong_arity : ArityWrong ≡ TooManyVariables → ⊥
wrong_arity e = cc

half : HalfLiteral ≡ TooManyVariables → ⊥
half e = cc

guard_if : (wrong : Bool) (e : ResolveError) → (e ≡ TooManyVariables → ⊥) → refused_if wrong e ≡ Err TooManyVariables → ⊥
guard_if true e never h = never (error_is e TooManyVariables h)
  where
    error_is : (d c : ResolveError) → ◌≡◌ {A = OrRefused (Unit {0})} (Err d) (Err c) → d ≡ c
    error_is d c k = cc
guard_if false e never h = cc

pred_no_matter : (at : PlaceForm) (name : List ℕ) (arguments : ℕ) → pred_at at name arguments ≡ Err TooManyVariables → ⊥
unfolding pred_at
pred_no_matter at name arguments h = by (symbol_of name at.symbols) h
  where
    flag : (wrong : Bool) (known : KnownForm) → (refused_if wrong ArityWrong >>= λ right. Ok known.pred) ≡ Err TooManyVariables → ⊥
    flag true known k = cc
    flag false known k = cc

    by : (o : Option KnownForm) → (or_refused o NameUnknown >>= λ known. refused_if (not (known.arity == arguments)) ArityWrong >>= λ right. Ok known.pred) ≡ Err TooManyVariables → ⊥
    by None k = cc
    by (Some known) k = flag (not (known.arity == arguments)) known k

closable_no_matter : (at : PlaceForm) (name : List ℕ) → closable at name ≡ Err TooManyVariables → ⊥
unfolding closable
closable_no_matter at name h = by (is_sm name) (is_new_word name && at.with_new) h
  where
    by : (sm new : Bool) → (refused_if sm Reserved >>= λ fine. if new then Err ArityWrong else pred_at at name 2) ≡ Err TooManyVariables → ⊥
    by true new k = cc
    by false true k = cc
    by false false k = pred_no_matter at name 2 k

-- ---- variables

sees_noted : (s : NamingForm) (xs : List Sight) (r : Numbered ℕ) → Sees s xs r → Sees s xs (r >>= λ x. Ok (noted x))
sees_noted s xs (Ok x) p = record { slots = p.slots; room = p.room; known = λ y. same y ∙ p.known y }
  where
    same : (y : Sight) → is_numbered (noted x).1 y ≡ is_numbered x.1 y
    same (OfName name) = refl
    same OfPair = refl
sees_noted s xs (Err e) p = p

other_sees : (others : Others) (name : List ℕ) (s : NamingForm) → Sees s (OfName name ∷ []) (other_variable others name s)
other_sees Any name s = name_sees name s
other_sees Never name s = λ is. absurd (unbound is)
other_sees Once name s = by (is_the_further s.further (number_of name s.slots))
  where
    by : (b : Bool) → Sees s (OfName name ∷ []) (if b then (sighted name s >>= λ x. Ok (noted x)) else Err VariableUnbound)
    by true = sees_noted s (OfName name ∷ []) (sighted name s) (name_sees name s)
    by false = λ is. absurd (unbound is)

occurrence_sees : (at : PlaceForm) (name : List ℕ) (s : NamingForm) → Sees s (OfName name ∷ []) (occurrence at name s)
unfolding occurrence
occurrence_sees at name s = by (is_known_at at.known (number_of name s.slots))
  where
    by : (b : Bool) → Sees s (OfName name ∷ []) (if b then sighted name s else other_variable at.others name s)
    by true = name_sees name s
    by false = other_sees at.others name s

two_see : (at : PlaceForm) (v w : List ℕ) (s : NamingForm) → Sees s (OfName v ∷ OfName w ∷ []) (two_occurrences at v w s)
unfolding two_occurrences
two_see at v w s =
    sees_then s (OfName v ∷ []) (OfName w ∷ []) (occurrence at v s) (λ a. occurrence at w a.1 >>= λ b. Ok ((a.0, b.0), b.1)) (occurrence_sees at v s)
    (λ a. sees_map a.1 (OfName w ∷ []) (occurrence at w a.1) (λ b. (a.0, b.0)) (occurrence_sees at w a.1))

terms_see : (at : PlaceForm) (vars : List (List ℕ)) (s : NamingForm) → Sees s (map OfName vars) (terms at vars s)
terms_see at [] s = sees_none s
terms_see at (v ∷ []) s = sees_map s (OfName v ∷ []) (occurrence at v s) (λ a. a.0 ∷ []) (occurrence_sees at v s)
terms_see at (v ∷ w ∷ []) s = sees_map s (OfName v ∷ OfName w ∷ []) (two_occurrences at v w s) (λ x. x.0.0 ∷ x.0.1 ∷ []) (two_see at v w s)
terms_see at (v ∷ w ∷ x ∷ more) s = λ is. absurd (wrong_arity is)

-- ---- atoms

new_atom_sees : (at : PlaceForm) (vars : List (List ℕ)) (s : NamingForm) → Sees s (map OfName vars) (new_atom at vars s)
new_atom_sees at [] s = λ is. absurd (wrong_arity is)
new_atom_sees at (v ∷ []) s = sees_map s (OfName v ∷ []) (occurrence at v s) (λ a. FIsNew a.0) (occurrence_sees at v s)
new_atom_sees at (v ∷ w ∷ more) s = λ is. absurd (wrong_arity is)

pred_atom_sees : (at : PlaceForm) (name : List ℕ) (vars : List (List ℕ)) (s : NamingForm) → Sees s (map OfName vars) (pred_atom at name vars s)
unfolding pred_atom
pred_atom_sees at name vars s =
    sees_guard s (map OfName vars) (pred_at at name (length vars)) (λ pred. terms at vars s >>= λ x. Ok (FAtom pred x.0, x.1)) (pred_no_matter at name (length vars))
    (λ pred. sees_map s (map OfName vars) (terms at vars s) (λ x. FAtom pred x.0) (terms_see at vars s))

atom_sees : (at : PlaceForm) (name : List ℕ) (vars : List (List ℕ)) (s : NamingForm) → Sees s (map OfName vars) (atom at name vars s)
unfolding atom
atom_sees at name vars s =
    sees_guard s (map OfName vars) (refused_if (is_sm name) Reserved) (λ fine. if is_new_word name && at.with_new then new_atom at vars s else pred_atom at name vars s) (guard_if (is_sm name) Reserved (λ e. cc))
    (λ fine. by (is_new_word name && at.with_new))
  where
    by : (b : Bool) → Sees s (map OfName vars) (if b then new_atom at vars s else pred_atom at name vars s)
    by true = new_atom_sees at vars s
    by false = pred_atom_sees at name vars s

-- ---- the own variables of `p*` and `p+`

pair_known : (s : NamingForm) → is_some s.own ≡ true → Follows s (OfPair ∷ []) s
pair_known s h = record { slots = rw h refl; room = rw h (omega arith); known = λ y. known_stays (is_numbered s) OfPair y false h }

abbrev both_filled : ℕ × NamingForm → ℕ × NamingForm → (ℕ × ℕ) × NamingForm
both_filled left right = ((left.0, right.0), record right.1 { own = Some (left.0, right.0) })

second_fills : (s : NamingForm) (left : ℕ × NamingForm) (out : Numbered ℕ) → is_some s.own ≡ false → IsFilled Nameless s left.1 → Fills Nameless left.1 out → Sees s (OfPair ∷ []) (out >>= λ right. Ok (both_filled left right))
second_fills s left (Err e) new p q = λ is.
    let count = rw (sym p.slots) at (fill_count s.slots (Nameless ∷ []) refl p.some) in
    rw new (omega (arith, count, q))
second_fills s left (Ok right) new p q =
    let count = fill_count s.slots (Nameless ∷ []) refl p.some in
    let more : 1 ≤ vacant_count (filled_with s.slots (Nameless ∷ [])) = subst (λ (slots : List SlotForm). 1 ≤ vacant_count slots) p.slots q.some in
    record {
      slots = rw new (q.slots ∙ ap (λ (slots : List SlotForm). filled_with slots (Nameless ∷ [])) p.slots ∙ fill_append s.slots (Nameless ∷ []) (Nameless ∷ []) refl);
      room = rw new (omega (arith, count, more));
      known = λ y. known y;
    }
  where
    known : (y : Sight) → is_numbered (both_filled left right).1 y ≡ ((is_same_sight y OfPair || false) || is_numbered s y)
    known (OfName v) = rw q.slots (filled_name v left.1.slots Nameless q.some ∙ (rw p.slots (filled_name v s.slots Nameless p.some)))
    known OfPair = refl

pair_new : (s : NamingForm) (out : Numbered ℕ) → is_some s.own ≡ false → Fills Nameless s out → Sees s (OfPair ∷ []) (out >>= λ left. filled Nameless left.1 >>= λ right. Ok (both_filled left right))
pair_new s (Ok left) new p = second_fills s left (filled Nameless left.1) new p (fills Nameless left.1)
pair_new s (Err e) new p = λ is. rw (new, p) (omega arith)

pair_sees : (s : NamingForm) → Sees s (OfPair ∷ []) (own_pair s)
unfolding own_pair two_more
pair_sees s = by s.own refl
  where
    by : (o : Option (ℕ × ℕ)) → s.own ≡ o → Sees s (OfPair ∷ []) (own_at o s)
    by (Some pair) e = pair_known s (ap is_some e)
    by None e = pair_new s (filled Nameless s) (ap is_some e) (fills Nameless s)

star_sees : (at : PlaceForm) (reflexive : Bool) (name v w : List ℕ) (s : NamingForm) → Sees s (OfName v ∷ OfName w ∷ OfPair ∷ []) (star at reflexive name v w s)
unfolding star
star_sees at reflexive name v w s =
    sees_guard s (OfName v ∷ OfName w ∷ OfPair ∷ []) (closable at name) (λ pred. two_occurrences at v w s >>= λ ends. own_pair ends.1 >>= λ own. Ok (star_of reflexive pred ends.0 own.0, own.1)) (closable_no_matter at name)
    (λ pred. sees_then s (OfName v ∷ OfName w ∷ []) (OfPair ∷ []) (two_occurrences at v w s) (λ ends. own_pair ends.1 >>= λ own. Ok (star_of reflexive pred ends.0 own.0, own.1)) (two_see at v w s)
    (λ ends. sees_map ends.1 (OfPair ∷ []) (own_pair ends.1) (λ own. star_of reflexive pred ends.0 own.0) (pair_sees ends.1)))

-- ---- quantifiers and closures

quantified_sees : (q : ℕ → Form → Form) (body : PlaceForm → NamingForm → Numbered Form) (xs : List Sight) → ((at : PlaceForm) (t : NamingForm) → Sees t xs (body at t)) → (at : PlaceForm) (earlier names : List (List ℕ)) (s : NamingForm) → Sees s (map OfName names ++ xs) (quantified q body at earlier names s)
quantified_sees q body xs sees at earlier [] s = sees at s
quantified_sees q body xs sees at earlier (name ∷ names) s =
    sees_guard s (OfName name ∷ (map OfName names ++ xs)) (refused_if (is_among earlier name) NameTwice)
    (λ new. sighted name s >>= λ v. quantified q body (under at v.0) (earlier ++ name ∷ []) names v.1 >>= λ f. Ok (q v.0 f.0, f.1)) (guard_if (is_among earlier name) NameTwice (λ e. cc))
    (λ new. sees_then s (OfName name ∷ []) (map OfName names ++ xs) (sighted name s) (λ v. quantified q body (under at v.0) (earlier ++ name ∷ []) names v.1 >>= λ f. Ok (q v.0 f.0, f.1)) (name_sees name s)
    (λ v. sees_map v.1 (map OfName names ++ xs) (quantified q body (under at v.0) (earlier ++ name ∷ []) names v.1) (λ f. q v.0 f.0) (quantified_sees q body xs sees (under at v.0) (earlier ++ name ∷ []) names v.1)))

bound_see : (left right : List ℕ) (s : NamingForm) → Sees s (OfName left ∷ OfName right ∷ []) (two_bound left right s)
unfolding two_bound
bound_see left right s =
    sees_then s (OfName left ∷ []) (OfName right ∷ []) (sighted left s) (λ a. refused_if (bytes_eq left right) NameTwice >>= λ new. sighted right a.1 >>= λ b. Ok ((a.0, b.0), b.1)) (name_sees left s)
    (λ a. sees_guard a.1 (OfName right ∷ []) (refused_if (bytes_eq left right) NameTwice) (λ new. sighted right a.1 >>= λ b. Ok ((a.0, b.0), b.1)) (guard_if (bytes_eq left right) NameTwice (λ e. cc))
    (λ new. sees_map a.1 (OfName right ∷ []) (sighted right a.1) (λ b. (a.0, b.0)) (name_sees right a.1)))

-- ---- formulas

two_formulas : (at : PlaceForm) (s : NamingForm) (xs ys : List Sight) (first : Numbered Form) (second : NamingForm → Numbered Form) (join : Form → Form → Form) → Sees s xs first → ((t : NamingForm) → Sees t ys (second t)) → Sees s (xs ++ ys) (first >>= λ x. second x.1 >>= λ y. Ok (join x.0 y.0, y.1))
two_formulas at s xs ys first second join p q =
    sees_then s xs ys first (λ x. second x.1 >>= λ y. Ok (join x.0 y.0, y.1)) p (λ x. sees_map x.1 ys (second x.1) (λ y. join x.0 y.0) (q x.1))

pub resolved_sees : (at : PlaceForm) (f : tree.Form) (s : NamingForm) → Sees s (sights f) (resolved at f s)
unfolding resolved
resolved_sees at tree.FZero s = sees_none s
resolved_sees at tree.FOne s = sees_none s
resolved_sees at tree.FHalf s = λ is. absurd (half is)
resolved_sees at (tree.FSame v w) s = sees_map s (OfName v ∷ OfName w ∷ []) (two_occurrences at v w s) (λ x. FSame x.0.0 x.0.1) (two_see at v w s)
resolved_sees at (tree.FDiffer v w) s = sees_map s (OfName v ∷ OfName w ∷ []) (two_occurrences at v w s) (λ x. FNot (FSame x.0.0 x.0.1)) (two_see at v w s)
resolved_sees at (tree.FAtom name arguments) s = atom_sees at (name_text name) arguments s
resolved_sees at (tree.FStar name v w) s = star_sees at true (name_text name) v w s
resolved_sees at (tree.FPlus name v w) s = star_sees at false (name_text name) v w s
resolved_sees at (tree.FParen f) s = resolved_sees at f s
resolved_sees at (tree.FNot f) s = sees_map s (sights f) (resolved at f s) (λ x. FNot x.0) (resolved_sees at f s)
resolved_sees at (tree.FAnd f g) s = two_formulas at s (sights f) (sights g) (resolved at f s) (λ t. resolved at g t) FAnd (resolved_sees at f s) (λ t. resolved_sees at g t)
resolved_sees at (tree.FOr f g) s = two_formulas at s (sights f) (sights g) (resolved at f s) (λ t. resolved at g t) FOr (resolved_sees at f s) (λ t. resolved_sees at g t)
resolved_sees at (tree.FImp f g) s = two_formulas at s (sights f) (sights g) (resolved at f s) (λ t. resolved at g t) (λ x y. FOr (FNot x) y) (resolved_sees at f s) (λ t. resolved_sees at g t)
resolved_sees at (tree.FIff f g) s = two_formulas at s (sights f) (sights g) (resolved at f s) (λ t. resolved at g t) FIff (resolved_sees at f s) (λ t. resolved_sees at g t)
resolved_sees at (tree.FCond f g h) s =
    sees_then s (sights f) (sights g ++ sights h) (resolved at f s) (λ x. resolved at g x.1 >>= λ y. resolved at h y.1 >>= λ z. Ok (FCond x.0 y.0 z.0, z.1)) (resolved_sees at f s)
    (λ x. two_formulas at x.1 (sights g) (sights h) (resolved at g x.1) (λ t. resolved at h t) (λ y z. FCond x.0 y z) (resolved_sees at g x.1) (λ t. resolved_sees at h t))
resolved_sees at (tree.FExists names f) s = quantified_sees FExists (λ inner t. resolved inner f t) (sights f) (λ inner t. resolved_sees inner f t) at [] names s
resolved_sees at (tree.FForall names f) s = quantified_sees FForall (λ inner t. resolved inner f t) (sights f) (λ inner t. resolved_sees inner f t) at [] names s
resolved_sees at (tree.FTc from to left right f) s =
    sees_then s (OfName from ∷ OfName to ∷ []) (OfName left ∷ OfName right ∷ sights f) (two_occurrences at from to s)
    (λ ends. two_bound left right ends.1 >>= λ own. resolved (under (under at own.0.0) own.0.1) f own.1 >>= λ body. Ok (FClosure ends.0.0 ends.0.1 own.0.0 own.0.1 body.0, body.1)) (two_see at from to s)
    (λ ends. sees_then ends.1 (OfName left ∷ OfName right ∷ []) (sights f) (two_bound left right ends.1)
    (λ own. resolved (under (under at own.0.0) own.0.1) f own.1 >>= λ body. Ok (FClosure ends.0.0 ends.0.1 own.0.0 own.0.1 body.0, body.1)) (bound_see left right ends.1)
    (λ own. sees_map own.1 (sights f) (resolved (under (under at own.0.0) own.0.1) f own.1) (λ body. FClosure ends.0.0 ends.0.1 own.0.0 own.0.1 body.0) (resolved_sees (under (under at own.0.0) own.0.1) f own.1)))

pub numbers_follow : NumbersFollowSights
numbers_follow = λ at f s x h. let p : Follows s (sights f) x.1 = subst (Sees s (sights f)) h (resolved_sees at f s) in (p.slots, p.room)

pub no_room : TooManyHaveNoRoom
no_room = λ at f s h. (subst (Sees s (sights f)) h (resolved_sees at f s)) refl
