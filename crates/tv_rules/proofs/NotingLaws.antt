-- Which predicates stand in a rule, as a list, and what noting a number for some of them does.
use Rattle.std.proofs.Common.{ℕ, zero, suc, ◌≡◌, ◌<◌, ◌≤◌, ◌+◌, ◌⊎◌, ◌↔◌, ◌∙◌, List, [], ◌∷◌, ◌++◌, length}
use Rattle.std.proofs.Common.{map, take, replicate, slice_get, slice_set, slice_index_or, Some, All}
use Rattle.std.proofs.Common.{Contains, Bool, true, false, inl, inr, ⊎_elim, refl, sym, ap, subst, arith}
use Rattle.std.specs.List.{AllZip, flat_map}
use Rattle.std.proofs.lemmas.Bool.{false≢true}
use Rattle.std.proofs.lemmas.List.{length-set, take_all, take_more}
use Rattle.std.proofs.lemmas.List.Elements.{Contains-append_left, Contains-append_right}
use Rattle.std.proofs.lemmas.List.Elements.{Contains-append_cases}
use Rattle.tv_model.proofs.Lists.{Contains-here, Contains-there, Contains-none, Contains-cases, pushed-cases}
use Rattle.tv_model.proofs.Lists.{pushed-old}
use Rattle.tv_model.proofs.Lists.{pushed-last}
use Rattle.tv_model.specs.Form.{Form, FZero, FOne, FAtom, FIsNew, FSame, FNot, FAnd, FOr, FIff, FCond}
use Rattle.tv_model.specs.Form.{FExists, FForall, FClosure, Mentions}
use Rattle.tv_model.specs.Program.{HeadForm, HNever, HAtom, HSame, RuleForm, rule_of}
use Rattle.tv_model.specs.declared.program.Rule.{Rule}
use Rattle.tv_rules.specs.Closing.{further_rules}
use Rattle.tv_rules.specs.EntryForms.{rules_of}
use Rattle.tv_rules.specs.Flags.{Flags}
use Rattle.tv_rules.specs.Noting.{AreBasesWith, AreNotedTo, Notes, mentioned, mentioned_by, mentioned_in}
use Rattle.tv_rules.specs.Standing.{IsHeadOf, StandsIn}

within : {X : Type 0} (xs : List X) (k : ℕ) (x : X) → slice_get xs k ≡ Some x → k < length xs
within [] k x e = absurd (cc e)
within (y ∷ xs) zero x e = omega arith
within (y ∷ xs) (suc k) x e = omega (arith, within xs k x e)

at_index : (xs : List ℕ) (k d : ℕ) → k < length xs → Contains xs (slice_index_or xs k d)
at_index [] k d below = absurd (omega (arith, below))
at_index (x ∷ xs) zero d below = Contains-here x xs
at_index (x ∷ xs) (suc k) d below = Contains-there x (slice_index_or xs k d) xs (at_index xs k d (omega (arith, below)))

-- ---- what stands in a formula

none : {P : Type 0} (q : ℕ) → (P → ⊥) → Contains [] q ↔ P
none q not = (λ at. absurd (Contains-none q at), λ p. absurd (not p))

one : (p q : ℕ) → Contains (p ∷ []) q ↔ (q ≡ p)
one p q = (
  λ at. ⊎_elim (λ e. sym e) (λ later. absurd (Contains-none q later)) (Contains-cases p q [] at),
  λ e. let In : ℕ → Type 0 = λ x. Contains (p ∷ []) x in subst In (sym e) (Contains-here p []),
)

both : {P Q : Type 0} (xs ys : List ℕ) (q : ℕ) → Contains xs q ↔ P → Contains ys q ↔ Q → Contains (xs ++ ys) q ↔ (P ⊎ Q)
both xs ys q left right = (
  λ at. ⊎_elim (λ l. inl (left.0 l)) (λ r. inr (right.0 r)) (Contains-append_cases xs ys q at),
  λ or. ⊎_elim (λ p. Contains-append_left xs ys q (left.1 p)) (λ p. Contains-append_right xs ys q (right.1 p)) or,
)

regrouped : {A P Q R : Type 0} → A ↔ ((P ⊎ Q) ⊎ R) → A ↔ (P ⊎ Q ⊎ R)
regrouped k = (
  λ a. ⊎_elim (λ pq. ⊎_elim (λ p. inl p) (λ q. inr (inl q)) pq) (λ r. inr (inr r)) (k.0 a),
  λ or. ⊎_elim (λ p. k.1 (inl (inl p))) (λ qr. ⊎_elim (λ q. k.1 (inl (inr q))) (λ r. k.1 (inr r)) qr) or,
)

mentions : (f : Form) (q : ℕ) → Contains (mentioned f) q ↔ Mentions q f
mentions FZero q = none q (λ k. k)
mentions FOne q = none q (λ k. k)
mentions (FAtom p vars) q = one p q
mentions (FIsNew v) q = none q (λ k. k)
mentions (FSame v w) q = none q (λ k. k)
mentions (FNot f) q = mentions f q
mentions (FAnd f g) q = both (mentioned f) (mentioned g) q (mentions f q) (mentions g q)
mentions (FOr f g) q = both (mentioned f) (mentioned g) q (mentions f q) (mentions g q)
mentions (FIff f g) q = both (mentioned f) (mentioned g) q (mentions f q) (mentions g q)
mentions (FCond c f g) q =
    regrouped (both (mentioned c ++ mentioned f) (mentioned g) q (both (mentioned c) (mentioned f) q (mentions c q) (mentions f q))
    (mentions g q))
mentions (FExists v f) q = mentions f q
mentions (FForall v f) q = mentions f q
mentions (FClosure from to left right f) q = mentions f q

head-of : (h : HeadForm) (q : ℕ) → Contains (mentioned_by h) q ↔ IsHeadOf q h
head-of HNever q = none q (λ k. k)
head-of (HAtom flag p vars) q = one p q
head-of (HSame flag v w) q = none q (λ k. k)

stands : (rule : RuleForm) (q : ℕ) → Contains (mentioned_in rule) q ↔ StandsIn q rule
stands rule q = both (mentioned rule.body) (mentioned_by rule.head) q (mentions rule.body q) (head-of rule.head q)

-- ---- a number is noted

-- a list grows by the number, and no other list changes
noted-one : (lists : List (List ℕ)) (p number : ℕ) (list more : List ℕ) → slice_get lists p ≡ Some list
    → ((n : ℕ) → Contains more n ↔ (Contains list n ⊎ (n ≡ number))) → (q n : ℕ) → q < length lists
    → Contains (slice_index_or (slice_set lists p more) q []) n
    ↔ (Contains (slice_index_or lists q []) n ⊎ ((n ≡ number) × (q ≡ p)))
noted-one [] p number list more is grows q n below = absurd (omega (arith, below))
noted-one (l ∷ lists) zero number list more is grows zero n below =
    let same : l ≡ list = cc is
    in let In : List ℕ → Type 0 = λ xs. Contains xs n
    in (
      λ at. ⊎_elim (λ old. inl (subst In (sym same) old)) (λ e. inr (e, refl)) ((grows n).0 at),
      λ or. ⊎_elim (λ old. (grows n).1 (inl (subst In same old))) (λ new. (grows n).1 (inr new.0)) or,
    )
noted-one (l ∷ lists) zero number list more is grows (suc q) n below =
    (λ at. inl at, λ or. ⊎_elim (λ old. old) (λ new. absurd (omega (arith, new.1))) or)
noted-one (l ∷ lists) (suc p) number list more is grows zero n below =
    (λ at. inl at, λ or. ⊎_elim (λ old. old) (λ new. absurd (omega (arith, new.1))) or)
noted-one (l ∷ lists) (suc p) number list more is grows (suc q) n below =
    let r : Contains (slice_index_or (slice_set lists p more) q []) n
    ↔ (Contains (slice_index_or lists q []) n ⊎ ((n ≡ number) × (q ≡ p)))
    = noted-one lists p number list more is grows q n (omega (arith, below))
    in (
      λ at. ⊎_elim (λ old. inl old) (λ new. inr (new.0, ap suc new.1)) (r.0 at),
      λ or. ⊎_elim (λ old. r.1 (inl old)) (λ new. r.1 (inr (new.0, omega (arith, new.1)))) or,
    )

pub notes-none : (number : ℕ) (lists : List (List ℕ)) → Notes [] number lists lists
notes-none number lists = record {
  count = refl;
  exact = λ q n below. (
    λ at. inl at,
    λ or. ⊎_elim (λ old. old) (λ new. absurd (Contains-none q new.1)) or,
  );
}

-- a number that was noted for some predicates is noted for one more
pub notes-more : (preds : List ℕ) (number p : ℕ) (old mid : List (List ℕ)) (list more : List ℕ) → Notes preds number old mid
    → slice_get mid p ≡ Some list → length (slice_set mid p more) ≡ length mid
    → ((n : ℕ) → Contains more n ↔ (Contains list n ⊎ (n ≡ number)))
    → Notes (preds ++ p ∷ []) number old (slice_set mid p more)
notes-more preds number p old mid list more so_far is long grows = record {
  count = long ∙ so_far.count;
  exact = λ q n below.
      let last : Contains (slice_index_or (slice_set mid p more) q []) n
      ↔ (Contains (slice_index_or mid q []) n ⊎ ((n ≡ number) × (q ≡ p)))
      = noted-one mid p number list more is grows q n (omega (arith, below, so_far.count))
      in (
        λ at. ⊎_elim
            (λ mid_has. ⊎_elim (λ o. inl o) (λ new. inr (new.0, pushed-old preds p q new.1)) ((so_far.exact q n below).0 mid_has))
            (λ new. inr (new.0, pushed-last preds p q new.1))
            (last.0 at),
        λ or. ⊎_elim
            (λ o. last.1 (inl ((so_far.exact q n below).1 (inl o))))
            (λ new. ⊎_elim
            (λ before. last.1 (inl ((so_far.exact q n below).1 (inr (new.0, before)))))
            (λ e. last.1 (inr (new.0, e)))
            (pushed-cases preds p q new.1))
            or,
      );
}

-- the same of the first predicates of a list
pub notes-next : (preds : List ℕ) (i number p : ℕ) (old mid : List (List ℕ)) (list more : List ℕ) → i < length preds
    → p ≡ slice_index_or preds i 0 → Notes (take i preds) number old mid → slice_get mid p ≡ Some list
    → ((n : ℕ) → Contains more n ↔ (Contains list n ⊎ (n ≡ number))) → Notes (take (i + 1) preds) number old (slice_set mid p more)
notes-next preds i number p old mid list more below is so_far at grows =
    let Of : List ℕ → Type 0 = λ ps. Notes ps number old (slice_set mid p more)
    in subst Of (sym (longer preds i p below is))
    (notes-more (take i preds) number p old mid list more so_far at (length-set mid p more) grows)
  where
    longer : (xs : List ℕ) (i x : ℕ) → i < length xs → x ≡ slice_index_or xs i 0 → take (i + 1) xs ≡ take i xs ++ x ∷ []
    longer [] i x below is = absurd (omega (arith, below))
    longer (y ∷ xs) zero x below is = ap (λ z. z ∷ []) (sym is)
    longer (y ∷ xs) (suc i) x below is =
        let next : suc i + 1 ≡ suc (i + 1) = omega arith
        in ap (λ n. take n (y ∷ xs)) next ∙ ap (λ zs. y ∷ zs) (longer xs i x (omega (arith, below)) is)

-- ---- rules are noted, one after the other

pub noted-none : (rules : List RuleForm) (lists : List (List ℕ)) → lists ≡ replicate (length lists) [] → AreNotedTo 0 rules lists
noted-none rules lists empty = record {
  exact = λ q n below. (
    λ at. let In : List (List ℕ) → Type 0 = λ ls. Contains (slice_index_or ls q []) n
        in absurd (nothing (length lists) q n (subst In empty at)),
    λ or. absurd (omega (arith, or.0)),
  );
}
  where
    nothing : (count q n : ℕ) → Contains (slice_index_or (replicate count []) q []) n → ⊥
    nothing zero q n at = Contains-none n at
    nothing (suc count) zero n at = Contains-none n at
    nothing (suc count) (suc q) n at = nothing count q n at

pub noted-next : (count : ℕ) (rules : List RuleForm) (rule : RuleForm) (preds : List ℕ) (old new : List (List ℕ))
    → slice_get rules count ≡ Some rule → preds ≡ mentioned_in rule → AreNotedTo count rules old
    → Notes preds count old new → AreNotedTo (count + 1) rules new
noted-next count rules rule preds old new is are so_far notes = record {
  exact = λ q n below.
      let step : Contains (slice_index_or new q []) n ↔ (Contains (slice_index_or old q []) n ⊎ ((n ≡ count) × Contains preds q))
      = notes.exact q n (omega (arith, below, notes.count))
      in let before : Contains (slice_index_or old q []) n
      ↔ ((n < count) × ((r : RuleForm) × (slice_get rules n ≡ Some r) × StandsIn q r))
      = so_far.exact q n (omega (arith, below, notes.count))
      in let In : List ℕ → Type 0 = λ ps. Contains ps q
      in let At : ℕ → Type 0 = λ m. slice_get rules m ≡ Some rule
      in (
        λ at. ⊎_elim
            (λ o. (omega (arith, (before.0 o).0), (before.0 o).1))
            (λ here. (
              omega (arith, here.0),
              (rule, subst At (sym here.0) is, (stands rule q).0 (subst In are here.1)),
            ))
            (step.0 at),
        λ or. ⊎_elim
            (λ less. step.1 (inl (before.1 (less, or.1))))
            (λ same. let r_is : slice_get rules count ≡ Some or.1.0 = subst (λ m. slice_get rules m ≡ Some or.1.0) same or.1.1
            in let one_rule : or.1.0 ≡ rule = cc (r_is, is)
            in let Of : RuleForm → Type 0 = λ r. StandsIn q r
            in step.1 (inr (same, subst In (sym are) ((stands rule q).1 (subst Of one_rule or.1.2)))))
            (last_or_less n count or.0),
      );
}
  where
    last_or_less : (n count : ℕ) → n < count + 1 → (n < count) ⊎ (n ≡ count)
    last_or_less n zero less = inr (omega (arith, less))
    last_or_less zero (suc count) less = inl (omega arith)
    last_or_less (suc n) (suc count) less =
        ⊎_elim (λ l. inl (omega (arith, l))) (λ e. inr (ap suc e)) (last_or_less n count (omega (arith, less)))

-- where all rules are noted, each list has the numbers of the rules in which its predicate stands
pub noted-all : (count : ℕ) (rules : List RuleForm) (lists : List (List ℕ)) → length rules ≤ count
    → AreNotedTo count rules lists → (q : ℕ) (ns : List ℕ) → slice_get lists q ≡ Some ns → AreBasesWith q rules ns
noted-all count rules lists all noted q ns is n =
    let at : slice_index_or lists q [] ≡ ns = at_place lists q ns is
    in let In : List ℕ → Type 0 = λ xs. Contains xs n
    in let r : Contains (slice_index_or lists q []) n
    ↔ ((n < count) × ((rule : RuleForm) × (slice_get rules n ≡ Some rule) × StandsIn q rule))
    = noted.exact q n (within lists q ns is)
    in (
      λ has. (r.0 (subst In (sym at) has)).1,
      λ stands_in. subst In at (r.1 (omega (arith, all, within rules n stands_in.0 stands_in.1), stands_in)),
    )
  where
    at_place : (xs : List (List ℕ)) (k : ℕ) (x : List ℕ) → slice_get xs k ≡ Some x → slice_index_or xs k [] ≡ x
    at_place [] k x e = absurd (cc e)
    at_place (y ∷ xs) zero x e = cc e
    at_place (y ∷ xs) (suc k) x e = at_place xs k x e

    within : {X : Type 0} (xs : List X) (k : ℕ) (x : X) → slice_get xs k ≡ Some x → k < length xs
    within [] k x e = absurd (cc e)
    within (y ∷ xs) zero x e = omega arith
    within (y ∷ xs) (suc k) x e = omega (arith, within xs k x e)

-- an element that was read; and that of a mapped list
pub read-at : {X : Type 0} (xs : List X) (i : ℕ) (x : X) → i < length xs → x ≡ slice_index_or xs i x → slice_get xs i ≡ Some x
read-at [] i x below is = absurd (omega (arith, below))
read-at (y ∷ xs) zero x below is = ap (λ z. Some z) (sym is)
read-at (y ∷ xs) (suc i) x below is = read-at xs i x (omega (arith, below)) is

pub mapped-at : {X Y : Type 0} (f : X → Y) (xs : List X) (i : ℕ) (x : X) → i < length xs → x ≡ slice_index_or xs i x
    → slice_get (map f xs) i ≡ Some (f x)
mapped-at f [] i x below is = absurd (omega (arith, below))
mapped-at f (y ∷ xs) zero x below is = ap (λ z. Some (f z)) (sym is)
mapped-at f (y ∷ xs) (suc i) x below is = mapped-at f xs i x (omega (arith, below)) is

-- a predicate that is noted for a rule is among the lists
pub preds-below : (rules : List RuleForm) (n count : ℕ) (rule : RuleForm) (preds : List ℕ) → slice_get rules n ≡ Some rule
    → preds ≡ mentioned_in rule
    → ((q k : ℕ) (r : RuleForm) → slice_get rules k ≡ Some r → StandsIn q r → q < count) → All (λ q. q < count) preds
preds-below rules n count rule preds is are range k d below =
    let In : List ℕ → Type 0 = λ ps. Contains ps (slice_index_or preds k d)
    in range (slice_index_or preds k d) n rule is ((stands rule (slice_index_or preds k d)).0 (subst In are (at_index preds k d below)))

-- ---- flags of rules whose numbers are listed

pub flags-of_places : (IsSo : RuleForm → Type 0) (rules : List RuleForm) (flags : List Bool) → length flags ≡ length rules
    → ((n : ℕ) → (slice_get flags n ≡ Some true) ↔ ((rule : RuleForm) × (slice_get rules n ≡ Some rule) × IsSo rule))
    → AllZip (Flags IsSo) rules flags
flags-of_places IsSo [] [] long exact = tt
flags-of_places IsSo [] (flag ∷ flags) long exact = absurd (omega (arith, long))
flags-of_places IsSo (rule ∷ rules) [] long exact = absurd (omega (arith, long))
flags-of_places IsSo (rule ∷ rules) (flag ∷ flags) long exact = (
  (
    λ is. let r : (r : RuleForm) × (Some rule ≡ Some r) × IsSo r = (exact 0).0 (ap (λ b. Some b) is)
        in let Of : RuleForm → Type 0 = λ x. IsSo x
        in let same : rule ≡ r.0 = cc r.1
        in subst Of (sym same) r.2,
    λ so. let e : Some flag ≡ Some true = (exact 0).1 (rule, refl, so) in cc e,
  ),
  flags-of_places IsSo rules flags (omega (arith, long)) (λ n. exact (suc n)),
)

set-flag : (flags : List Bool) (k n : ℕ) → k < length flags
    → (slice_get (slice_set flags k true) n ≡ Some true) ↔ ((slice_get flags n ≡ Some true) ⊎ (n ≡ k))
set-flag [] k n below = absurd (omega (arith, below))
set-flag (flag ∷ flags) zero zero below = (λ at. inr refl, λ or. refl)
set-flag (flag ∷ flags) zero (suc n) below = (λ at. inl at, λ or. ⊎_elim (λ at. at) (λ e. absurd (omega (arith, e))) or)
set-flag (flag ∷ flags) (suc k) zero below = (λ at. inl at, λ or. ⊎_elim (λ at. at) (λ e. absurd (omega (arith, e))) or)
set-flag (flag ∷ flags) (suc k) (suc n) below =
    let r : (slice_get (slice_set flags k true) n ≡ Some true) ↔ ((slice_get flags n ≡ Some true) ⊎ (n ≡ k))
    = set-flag flags k n (omega (arith, below))
    in (
      λ at. ⊎_elim (λ o. inl o) (λ e. inr (ap suc e)) (r.0 at),
      λ or. ⊎_elim (λ o. r.1 (inl o)) (λ e. r.1 (inr (omega (arith, e)))) or,
    )

pub no-flags : (count n : ℕ) → (slice_get (replicate count false) n ≡ Some true) ↔ Contains [] n
no-flags zero n = (λ at. absurd (cc at), λ none. absurd (Contains-none n none))
no-flags (suc count) zero = (λ at. absurd (not_true at), λ none. absurd (Contains-none 0 none))
  where
    not_true : Some false ≡ Some true → ⊥
    not_true e = let same : false ≡ true = cc e in absurd (false≢true same)
no-flags (suc count) (suc n) = (
  λ at. absurd (Contains-none n ((no-flags count n).0 at)),
  λ none. absurd (Contains-none (suc n) none),
)

-- the flags are set at the first numbers of a list; then at one more of them
pub flags-next : (flags : List Bool) (numbers : List ℕ) (i number : ℕ) → i < length numbers → number < length flags
    → number ≡ slice_index_or numbers i 0
    → ((n : ℕ) → (slice_get flags n ≡ Some true) ↔ Contains (take i numbers) n)
    → (n : ℕ) → (slice_get (slice_set flags number true) n ≡ Some true) ↔ Contains (take (i + 1) numbers) n
flags-next flags numbers i number below inside is so_far n =
    let In : List ℕ → Type 0 = λ ns. Contains ns n
    in let longer : take (i + 1) numbers ≡ take i numbers ++ number ∷ []
    = take_more numbers i 0 below ∙ ap (λ x. take i numbers ++ x ∷ []) (sym is)
    in let r : (slice_get (slice_set flags number true) n ≡ Some true) ↔ ((slice_get flags n ≡ Some true) ⊎ (n ≡ number))
    = set-flag flags number n inside
    in (
      λ at. subst In (sym longer)
          (⊎_elim (λ o. pushed-old (take i numbers) number n ((so_far n).0 o)) (λ e. pushed-last (take i numbers) number n e) (r.0 at)),
      λ has. ⊎_elim (λ o. r.1 (inl ((so_far n).1 o))) (λ e. r.1 (inr e))
          (pushed-cases (take i numbers) number n (subst In longer has)),
    )

-- where the numbers are those of the rules with the predicate, the flags say which rules have it
pub flags-done : (q : ℕ) (rules : List RuleForm) (flags : List Bool) (numbers : List ℕ) (i : ℕ) → length numbers ≤ i
    → length flags ≡ length rules → AreBasesWith q rules numbers
    → ((n : ℕ) → (slice_get flags n ≡ Some true) ↔ Contains (take i numbers) n) → AllZip (Flags (StandsIn q)) rules flags
flags-done q rules flags numbers i all long with so_far =
    let whole : take i numbers ≡ numbers = take_all i numbers all
    in let In : List ℕ → ℕ → Type 0 = λ ns n. Contains ns n
    in flags-of_places (StandsIn q) rules flags long (λ n. (
      λ at. (with n).0 (subst (λ ns. In ns n) whole ((so_far n).0 at)),
      λ has. (so_far n).1 (subst (λ ns. In ns n) (sym whole) ((with n).1 has)),
    ))

-- each of the numbers is below the number of rules
pub bases-within : (q : ℕ) (rules : List RuleForm) (numbers : List ℕ) (k : ℕ) → AreBasesWith q rules numbers → k < length numbers
    → slice_index_or numbers k 0 < length rules
bases-within q rules numbers k with below =
    let r : (rule : RuleForm) × (slice_get rules (slice_index_or numbers k 0) ≡ Some rule) × StandsIn q rule
    = (with (slice_index_or numbers k 0)).0 (at_index numbers k 0 below)
    in within rules (slice_index_or numbers k 0) r.0 r.1

-- what holds of the predicates of all closed rules holds of those of the base rules
pub bases-range : (bases read : List Rule) (count : ℕ) → read ≡ bases
    → ((q n : ℕ) (rule : RuleForm) → slice_get (rules_of bases) n ≡ Some rule → StandsIn q rule → q < count)
    → (q n : ℕ) (rule : RuleForm) → slice_get (map rule_of read) n ≡ Some rule → StandsIn q rule → q < count
bases-range bases read count same range q n rule at so =
    let At : List Rule → Type 0 = λ rs. slice_get (map rule_of rs) n ≡ Some rule
    in range q n rule (first_of (map rule_of bases) (flat_map further_rules (map rule_of bases)) n rule (subst At same at)) so
  where
    first_of : (xs ys : List RuleForm) (k : ℕ) (x : RuleForm) → slice_get xs k ≡ Some x → slice_get (xs ++ ys) k ≡ Some x
    first_of [] ys k x e = absurd (cc e)
    first_of (z ∷ xs) ys zero x e = e
    first_of (z ∷ xs) ys (suc k) x e = first_of xs ys k x e
