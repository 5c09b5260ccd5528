-- What stands in a base rule stands in each of its further rules, and the other way round.
use Rattle.std.proofs.Common.{ℕ, zero, suc, ◌≡◌, ◌<◌, ◌⊎◌, ◌↔◌, ◌∙◌, Bool, true, false, IsTrue, List, [], ◌∷◌}
use Rattle.std.proofs.Common.{map, length, slice_index_or, Option, None, Some, slice_get, inl, inr, ⊎_elim}
use Rattle.std.proofs.Common.{refl, sym, ap, subst, All}
use Rattle.std.specs.List.{AllZip}
use Rattle.std.proofs.lemmas.Option.{slice_get_within}
use Rattle.std.proofs.lemmas.List.Elements.{All-nil, All-cons, All-append, All-map, All-weaker}
use Rattle.tv_model.specs.Form.{Form, FZero, FOne, FAtom, FIsNew, FSame, FNot, FAnd, FOr, FIff, FCond}
use Rattle.tv_model.specs.Form.{FExists, FForall, FClosure, IsFree, Mentions}
use Rattle.tv_model.specs.Program.{HeadForm, HNever, HAtom, HSame, RuleForm}
use Rattle.tv_model.specs.Rules.{IsInHead}
use Rattle.tv_model.specs.Rules.{IsFreeInRule}
use Rattle.tv_rules.specs.Closing.{closed_set, Swap, swap_left, swap_right, swaps, signed_head, negated}
use Rattle.tv_rules.specs.Closing.{negated_head}
use Rattle.tv_rules.specs.Decoded.{IsRuleAbout, IsEntry}
use Rattle.tv_rules.specs.EntryForms.{EntryForm, entry_of, closed_entries}
use Rattle.tv_rules.specs.declared.entries.Entry.{Entry}
use Rattle.tv_rules.specs.Flags.{Flags, base_flag, IsOfBase, IsOfBaseOrTwice, has_twice}
use Rattle.tv_rules.specs.Standing.{StandsIn, IsHeadOf, HasEquality, IsEquality, HasEqualityIn, HasTwice}
use Rattle.tv_rules.specs.Standing.{SeesSummaries}
use Rattle.tv_model.proofs.FreeTests.{or-parts, or-first, or-second}
use Rattle.tv_rules.proofs.EntryLemmas.{entries-kept}
use Rattle.tv_rules.proofs.MetByHeaps.{All-found, All-mapped}
use Rattle.tv_rules.proofs.RuleTests.{twice-answer}

-- what is read in formulas, and alike in heads: it reads through negation and conjunction
pub record Reads (P : Form → Type 0) (H : HeadForm → Type 0) : Type 0 where
  conjunction : (f g : Form) → P (FAnd f g) ↔ (P f ⊎ P g)
  negation : (f : Form) → P (FNot f) ↔ P f
  atom : (flag : Bool) (pred : ℕ) (vars : List ℕ) → P (FAtom pred vars) ↔ H (HAtom flag pred vars)
  equality : (flag : Bool) (v w : ℕ) → P (FSame v w) ↔ H (HSame flag v w)
  one : ¬ P FOne
  never : ¬ H HNever

itself : {A : Type 0} → A ↔ A
itself = (λ k. k, λ k. k)

pub mentions-read : (q : ℕ) → Reads (Mentions q) (IsHeadOf q)
mentions-read q = record {
  conjunction = λ f g. itself;
  negation = λ f. itself;
  atom = λ flag pred vars. itself;
  equality = λ flag v w. itself;
  one = λ k. k;
  never = λ k. k;
}

pub equalities-read : Reads HasEquality IsEquality
equalities-read = record {
  conjunction = λ f g. itself;
  negation = λ f. itself;
  atom = λ flag pred vars. itself;
  equality = λ flag v w. itself;
  one = λ k. k;
  never = λ k. k;
}

pub free-read : (v : ℕ) → Reads (IsFree v) (IsInHead v)
free-read u = record {
  conjunction = λ f g. itself;
  negation = λ f. itself;
  atom = λ flag pred vars. itself;
  equality = λ flag v w. itself;
  one = λ k. k;
  never = λ k. k;
}

module _ (P : Form → Type 0) (H : HeadForm → Type 0) (reads : Reads P H) where
  -- what is read of a formula is read of the rest or of the swapped conjunct, and the other way round
  record Parts (x f : Form) (s : Swap) : Type 0 where
    from : P f → P s.body ⊎ P s.conjunct
    conjunct : P s.conjunct → P f
    body : P s.body → P f ⊎ P x
    put : P x → P s.body

  parts-whole : (x f : Form) → All (Parts x f) (record { conjunct = f; body = x } ∷ [])
  parts-whole x f =
      All-cons (Parts x f) (record { conjunct = f; body = x }) []
      (record { from = λ k. inr k; conjunct = λ k. k; body = λ k. inr k; put = λ k. k })
      (All-nil (Parts x f))

  parts-left : (x f g : Form) (s : Swap) → Parts x f s → Parts x (FAnd f g) (swap_left g s)
  parts-left x f g s is = record {
    from = λ k. ⊎_elim
        (λ l. ⊎_elim (λ b. inl ((reads.conjunction s.body g).1 (inl b))) (λ c. inr c) (is.from l))
        (λ r. inl ((reads.conjunction s.body g).1 (inr r)))
        ((reads.conjunction f g).0 k);
    conjunct = λ k. (reads.conjunction f g).1 (inl (is.conjunct k));
    body = λ k. ⊎_elim
        (λ b. ⊎_elim (λ l. inl ((reads.conjunction f g).1 (inl l))) (λ p. inr p) (is.body b))
        (λ r. inl ((reads.conjunction f g).1 (inr r)))
        ((reads.conjunction s.body g).0 k);
    put = λ k. (reads.conjunction s.body g).1 (inl (is.put k));
  }

  parts-right : (x f g : Form) (s : Swap) → Parts x g s → Parts x (FAnd f g) (swap_right f s)
  parts-right x f g s is = record {
    from = λ k. ⊎_elim
        (λ l. inl ((reads.conjunction f s.body).1 (inl l)))
        (λ r. ⊎_elim (λ b. inl ((reads.conjunction f s.body).1 (inr b))) (λ c. inr c) (is.from r))
        ((reads.conjunction f g).0 k);
    conjunct = λ k. (reads.conjunction f g).1 (inr (is.conjunct k));
    body = λ k. ⊎_elim
        (λ l. inl ((reads.conjunction f g).1 (inl l)))
        (λ b. ⊎_elim (λ r. inl ((reads.conjunction f g).1 (inr r))) (λ p. inr p) (is.body b))
        ((reads.conjunction f s.body).0 k);
    put = λ k. (reads.conjunction f s.body).1 (inr (is.put k));
  }

  parts : (x f : Form) → All (Parts x f) (swaps x f)
  parts x (FAnd f g) =
      All-append (Parts x (FAnd f g)) (map (swap_left g) (swaps x f)) (map (swap_right f) (swaps x g))
      (All-map (Parts x (FAnd f g)) (swap_left g) (swaps x f)
      (All-weaker (Parts x f) (λ s. Parts x (FAnd f g) (swap_left g s)) (parts-left x f g) (swaps x f) (parts x f)))
      (All-map (Parts x (FAnd f g)) (swap_right f) (swaps x g)
      (All-weaker (Parts x g) (λ s. Parts x (FAnd f g) (swap_right f s)) (parts-right x f g) (swaps x g) (parts x g)))
  parts x FZero = parts-whole x FZero
  parts x FOne = parts-whole x FOne
  parts x (FAtom p vars) = parts-whole x (FAtom p vars)
  parts x (FIsNew v) = parts-whole x (FIsNew v)
  parts x (FSame v w) = parts-whole x (FSame v w)
  parts x (FNot f) = parts-whole x (FNot f)
  parts x (FOr f g) = parts-whole x (FOr f g)
  parts x (FIff f g) = parts-whole x (FIff f g)
  parts x (FCond c f g) = parts-whole x (FCond c f g)
  parts x (FExists v f) = parts-whole x (FExists v f)
  parts x (FForall v f) = parts-whole x (FForall v f)
  parts x (FClosure from to left right f) = parts-whole x (FClosure from to left right f)

  head-read : (head : HeadForm) → P (negated_head head) ↔ H head
  head-read HNever = (λ k. absurd (reads.one k), λ k. absurd (reads.never k))
  head-read (HAtom true p vars) = (
    λ k. (reads.atom true p vars).0 ((reads.negation (FAtom p vars)).0 k),
    λ k. (reads.negation (FAtom p vars)).1 ((reads.atom true p vars).1 k),
  )
  head-read (HAtom false p vars) = reads.atom false p vars
  head-read (HSame true v w) = (
    λ k. (reads.equality true v w).0 ((reads.negation (FSame v w)).0 k),
    λ k. (reads.negation (FSame v w)).1 ((reads.equality true v w).1 k),
  )
  head-read (HSame false v w) = reads.equality false v w

  signed-read : (flag : Bool) (f : Form) (head : HeadForm) → signed_head flag f ≡ Some head → P f ↔ H head
  signed-read flag (FAtom p vars) head e =
      let same : HAtom flag p vars ≡ head = cc e in let Of : HeadForm → Type 0 = λ h. P (FAtom p vars) ↔ H h
      in subst Of same (reads.atom flag p vars)
  signed-read flag (FSame v w) head e =
      let same : HSame flag v w ≡ head = cc e in let Of : HeadForm → Type 0 = λ h. P (FSame v w) ↔ H h
      in subst Of same (reads.equality flag v w)
  signed-read flag FZero head e = absurd (cc e)
  signed-read flag FOne head e = absurd (cc e)
  signed-read flag (FIsNew v) head e = absurd (cc e)
  signed-read flag (FNot f) head e = absurd (cc e)
  signed-read flag (FAnd f g) head e = absurd (cc e)
  signed-read flag (FOr f g) head e = absurd (cc e)
  signed-read flag (FIff f g) head e = absurd (cc e)
  signed-read flag (FCond c f g) head e = absurd (cc e)
  signed-read flag (FExists v f) head e = absurd (cc e)
  signed-read flag (FForall v f) head e = absurd (cc e)
  signed-read flag (FClosure from to left right f) head e = absurd (cc e)

  literal-read : (f : Form) (head : HeadForm) → negated f ≡ Some head → P f ↔ H head
  literal-read (FNot f) head e =
      let inner : P f ↔ H head = signed-read true f head e
      in (λ k. inner.0 ((reads.negation f).0 k), λ k. (reads.negation f).1 (inner.1 k))
  literal-read (FAtom p vars) head e = signed-read false (FAtom p vars) head e
  literal-read (FSame v w) head e = signed-read false (FSame v w) head e
  literal-read FZero head e = absurd (cc e)
  literal-read FOne head e = absurd (cc e)
  literal-read (FIsNew v) head e = absurd (cc e)
  literal-read (FAnd f g) head e = absurd (cc e)
  literal-read (FOr f g) head e = absurd (cc e)
  literal-read (FIff f g) head e = absurd (cc e)
  literal-read (FCond c f g) head e = absurd (cc e)
  literal-read (FExists v f) head e = absurd (cc e)
  literal-read (FForall v f) head e = absurd (cc e)
  literal-read (FClosure from to left right f) head e = absurd (cc e)

  -- the rules of a family read alike
  pub family : (o : Option ℕ) (base rule : RuleForm) → IsRuleAbout o base rule
      → (P rule.body ⊎ H rule.head) ↔ (P base.body ⊎ H base.head)
  family None base rule is =
      let Of : RuleForm → Type 0 = λ r. (P r.body ⊎ H r.head) ↔ (P base.body ⊎ H base.head)
      in subst Of (sym is) (λ k. k, λ k. k)
  family (Some k) base rule (s, there, body, head) =
      let part : Parts (negated_head base.head) base.body s
      = All-found (Parts (negated_head base.head) base.body) (swaps (negated_head base.head) base.body) k s
      (parts (negated_head base.head) base.body) there
      in let Of : Form → Type 0 = λ f. P f
      in (
        λ at. ⊎_elim
            (λ b. ⊎_elim (λ l. inl l) (λ x. inr ((head-read base.head).0 x)) (part.body (subst Of body b)))
            (λ h. inl (part.conjunct ((literal-read s.conjunct rule.head head).1 h)))
            at,
        λ at. ⊎_elim
            (λ f. ⊎_elim (λ b. inl (subst Of (sym body) b)) (λ c. inr ((literal-read s.conjunct rule.head head).0 c)) (part.from f))
            (λ h. inl (subst Of (sym body) (part.put ((head-read base.head).1 h))))
            at,
      )

-- the flag of an entry's base rule says what is so of its rule
flag-at : (IsSo : RuleForm → Type 0) (bases : List RuleForm) (flags : List Bool) → AllZip (Flags IsSo) bases flags
    → (n : ℕ) (base : RuleForm) → slice_get bases n ≡ Some base → IsTrue (slice_index_or flags n false) ↔ IsSo base
flag-at IsSo [] flags all n base there = absurd (cc there)
flag-at IsSo (first ∷ bases) [] all n base there = absurd all
flag-at IsSo (first ∷ bases) (flag ∷ flags) all zero base there =
    let same : first ≡ base = cc there in let Of : RuleForm → Type 0 = λ r. IsTrue flag ↔ IsSo r in subst Of same all.0
flag-at IsSo (first ∷ bases) (flag ∷ flags) all (suc n) base there = flag-at IsSo bases flags all.1 n base there

-- rules of one family are so alike
abbrev pub AreAlike : (RuleForm → Type 0) → Type 0
AreAlike IsSo = (o : Option ℕ) (base rule : RuleForm) → IsRuleAbout o base rule → IsSo rule ↔ IsSo base

pub flags-of_bases : (IsSo : RuleForm → Type 0) → AreAlike IsSo → (bases : List RuleForm) (flags : List Bool) → AllZip (Flags IsSo) bases flags
    → (rules : List RuleForm) (entries : List EntryForm) (found : List Bool)
    → AllZip (IsEntry bases) rules entries → AllZip (IsOfBase flags) entries found → AllZip (Flags IsSo) rules found
flags-of_bases IsSo alike bases flags are [] [] [] kept all = tt
flags-of_bases IsSo alike bases flags are [] [] (f ∷ found) kept all = absurd all
flags-of_bases IsSo alike bases flags are [] (e ∷ entries) found kept all = absurd kept
flags-of_bases IsSo alike bases flags are (rule ∷ rules) [] found kept all = absurd kept
flags-of_bases IsSo alike bases flags are (rule ∷ rules) (e ∷ entries) [] kept all = absurd all
flags-of_bases IsSo alike bases flags are (rule ∷ rules) (e ∷ entries) (f ∷ found) kept all =
    let of_base : IsTrue (base_flag flags e) ↔ IsSo kept.0.base = flag-at IsSo bases flags are e.base kept.0.base kept.0.there
    in let same : IsSo rule ↔ IsSo kept.0.base = alike e.conjunct kept.0.base rule kept.0.about
    in (
      (λ t. same.1 (of_base.0 (sym all.0 ∙ t)), λ k. all.0 ∙ of_base.1 (same.0 k)),
      flags-of_bases IsSo alike bases flags are rules entries found kept.1 all.1,
    )

pub flags-of_bases_or_twice : (bases : List RuleForm) (flags : List Bool) → AllZip (Flags HasEqualityIn) bases flags
    → (rules : List RuleForm) (entries : List EntryForm) (found : List Bool)
    → AllZip (IsEntry bases) rules entries → AllZip (IsOfBaseOrTwice flags) entries found → AllZip (Flags SeesSummaries) rules found
flags-of_bases_or_twice bases flags are [] [] [] kept all = tt
flags-of_bases_or_twice bases flags are [] [] (f ∷ found) kept all = absurd all
flags-of_bases_or_twice bases flags are [] (e ∷ entries) found kept all = absurd kept
flags-of_bases_or_twice bases flags are (rule ∷ rules) [] found kept all = absurd kept
flags-of_bases_or_twice bases flags are (rule ∷ rules) (e ∷ entries) [] kept all = absurd all
flags-of_bases_or_twice bases flags are (rule ∷ rules) (e ∷ entries) (f ∷ found) kept all =
    let of_base : IsTrue (base_flag flags e) ↔ HasEqualityIn kept.0.base = flag-at HasEqualityIn bases flags are e.base kept.0.base kept.0.there
    in let same : HasEqualityIn rule ↔ HasEqualityIn kept.0.base = family HasEquality IsEquality equalities-read e.conjunct kept.0.base rule kept.0.about
    in let twice : IsTrue (has_twice e.head) ↔ HasTwice e.head = twice-answer e.head
    in let Of : HeadForm → Type 0 = λ h. HasTwice h
    in (
      (
        λ t. ⊎_elim (λ l. inl (same.1 (of_base.0 l))) (λ r. inr (subst Of kept.0.head (twice.0 r)))
            (or-parts (base_flag flags e) (has_twice e.head) (sym all.0 ∙ t)),
        λ k. all.0 ∙ ⊎_elim (λ l. or-first (base_flag flags e) (has_twice e.head) (of_base.1 (same.0 l)))
            (λ r. or-second (base_flag flags e) (has_twice e.head) (twice.1 (subst Of (sym kept.0.head) r))) k,
      ),
      flags-of_bases_or_twice bases flags are rules entries found kept.1 all.1,
    )

pub standing-alike : (q : ℕ) → AreAlike (StandsIn q)
standing-alike q o base rule is = family (Mentions q) (IsHeadOf q) (mentions-read q) o base rule is

pub free-alike : (v : ℕ) → AreAlike (IsFreeInRule v)
free-alike v o base rule is = family (IsFree v) (IsInHead v) (free-read v) o base rule is

zip-below : (bases : List RuleForm) (rules : List RuleForm) (entries : List EntryForm) → AllZip (IsEntry bases) rules entries
    → All (λ e. e.base < length bases) entries
zip-below bases [] [] all = All-nil (λ e. e.base < length bases)
zip-below bases [] (e ∷ entries) all = absurd all
zip-below bases (rule ∷ rules) [] all = absurd all
zip-below bases (rule ∷ rules) (e ∷ entries) all =
    All-cons (λ x. x.base < length bases) e entries (slice_get_within bases e.base all.0.base all.0.there)
    (zip-below bases rules entries all.1)

pub zip-length : {X Y : Type 0} (R : X → Y → Type 0) (xs : List X) (ys : List Y) → AllZip R xs ys → length xs ≡ length ys
zip-length R [] [] all = refl
zip-length R [] (y ∷ ys) all = absurd all
zip-length R (x ∷ xs) [] all = absurd all
zip-length R (x ∷ xs) (y ∷ ys) all = ap suc (zip-length R xs ys all.1)

below : {Y : Type 0} (R : RuleForm → Y → Type 0) (bases : List RuleForm) (flags : List Y) (entries : List Entry)
    → map entry_of entries ≡ closed_entries bases → AllZip R bases flags → All (λ (e : Entry). e.base < length flags) entries
below R bases flags entries is are =
    let Below : EntryForm → Type 0 = λ e. e.base < length flags
    in let Of : List EntryForm → Type 0 = λ es. All Below es
    in let At : ℕ → Type 0 = λ n. All (λ (e : EntryForm). e.base < n) (closed_entries bases)
    in All-mapped Below entry_of entries
    (subst Of (sym is)
    (subst At (zip-length R bases flags are) (zip-below bases (closed_set bases) (closed_entries bases) (entries-kept bases))))

-- each entry's base rule has its flag
pub bases-below : {Y : Type 0} (R : RuleForm → Y → Type 0) (bases : List RuleForm) (flags : List Y) (entries : List Entry)
    → (read : List Y) → read ≡ flags → map entry_of entries ≡ closed_entries bases → AllZip R bases flags
    → All (λ (e : Entry). e.base < length read) entries
bases-below {Y} R bases flags entries read same is are =
    let Read : List Y → Type 0 = λ ys. All (λ (e : Entry). e.base < length ys) entries in subst Read (sym same) (below R bases flags entries is are)

-- what stands at one place of two lists
pub zip-at : {X Y : Type 0} (R : X → Y → Type 0) (xs : List X) (ys : List Y) → AllZip R xs ys
    → (n : ℕ) (x : X) (y : Y) → slice_get xs n ≡ Some x → slice_get ys n ≡ Some y → R x y
zip-at R [] ys all n x y there at = absurd (cc there)
zip-at R (u ∷ xs) [] all n x y there at = absurd all
zip-at {X} {Y} R (u ∷ xs) (v ∷ ys) all zero x y there at =
    let first : u ≡ x = cc there in let second : v ≡ y = cc at
    in let Of : Y → Type 0 = λ z. R x z in let Is : X → Type 0 = λ z. R z v
    in subst Of second (subst Is first all.0)
zip-at R (u ∷ xs) (v ∷ ys) all (suc n) x y there at = zip-at R xs ys all.1 n x y there at

pub standing_flags : (q : ℕ) (bases : List RuleForm) (flags : List Bool) (entries : List Entry) (found read : List Bool)
    → read ≡ flags → map entry_of entries ≡ closed_entries bases → AllZip (Flags (StandsIn q)) bases flags
    → AllZip (IsOfBase read) (map entry_of entries) found → AllZip (Flags (StandsIn q)) (closed_set bases) found
standing_flags q bases flags entries found read same is are given =
    let Of : List EntryForm → Type 0 = λ es. AllZip (IsOfBase flags) es found
    in let Read : List Bool → Type 0 = λ fs. AllZip (IsOfBase fs) (map entry_of entries) found
    in let of_bases : AllZip (IsOfBase flags) (map entry_of entries) found = subst Read same given
    in flags-of_bases (StandsIn q) (standing-alike q) bases flags are (closed_set bases) (closed_entries bases) found
    (entries-kept bases) (subst Of is of_bases)

pub summary_flags : (bases : List RuleForm) (flags : List Bool) (entries : List Entry) (found read : List Bool)
    → read ≡ flags → map entry_of entries ≡ closed_entries bases → AllZip (Flags HasEqualityIn) bases flags
    → AllZip (IsOfBaseOrTwice read) (map entry_of entries) found → AllZip (Flags SeesSummaries) (closed_set bases) found
summary_flags bases flags entries found read same is are given =
    let Of : List EntryForm → Type 0 = λ es. AllZip (IsOfBaseOrTwice flags) es found
    in let Read : List Bool → Type 0 = λ fs. AllZip (IsOfBaseOrTwice fs) (map entry_of entries) found
    in let of_bases : AllZip (IsOfBaseOrTwice flags) (map entry_of entries) found = subst Read same given
    in flags-of_bases_or_twice bases flags are (closed_set bases) (closed_entries bases) found
    (entries-kept bases) (subst Of is of_bases)
