-- The lists that stand beside the base rules.
use Rattle.std.proofs.Common.{ℕ, zero, suc, ◌≡◌, ◌<◌, ◌+◌, ◌-◌, ◌⊎◌, ◌↔◌, ◌∙◌, Bool, true, false, List, []}
use Rattle.std.proofs.Common.{◌∷◌}
use Rattle.std.proofs.Common.{◌++◌, length, map, Option, None, Some, slice_get, slice_set, unwrap_or}
use Rattle.std.proofs.Common.{inl, inr, ⊎_elim, refl, sym, ap, subst, Contains, arith}
use Rattle.std.specs.List.{AllZip}
use Rattle.std.specs.Option.{option_map}
use Rattle.std.proofs.lemmas.List.{length-append, length-map}
use Rattle.std.proofs.lemmas.Option.{slice_get-map, slice_get_within}
use Rattle.tv_model.proofs.Lists.{Contains-none}
use Rattle.tv_model.specs.declared.program.Rule.{Rule}
use Rattle.tv_model.specs.Form.{Form, FZero, FOne, FAtom, FIsNew, FSame, FNot, FAnd, FOr, FIff, FCond}
use Rattle.tv_model.specs.Form.{FExists, FForall, FClosure}
use Rattle.tv_model.specs.Program.{HeadForm, HNever, HAtom, HSame, RuleForm, head_of, rule_of}
use Rattle.tv_model.specs.Rules.{IsFreeInRule}
use Rattle.tv_rules.specs.declared.entries.Entry.{Entry}
use Rattle.tv_coerce_members.specs.Members.{IsLaidOut, MemberForm, member_of, members_of}
use Rattle.tv_coerce_members.specs.declared.shapes.Shape.{Shape}
use Rattle.tv_rules.specs.Closing.{Swap, swaps, puttings, conjuncts, closed_set, negated, negated_head}
use Rattle.tv_rules.specs.Closing.{negated_if, signed_head}
use Rattle.tv_rules.specs.Decoded.{IsRuleAbout, IsEntry}
use Rattle.tv_rules.specs.EntryForms.{EntryForm, swapped_at, AreFreeIn, entry_of}
use Rattle.tv_rules.specs.EntryForms.{closed_entries, rules_of}
use Rattle.tv_rules.specs.Kept.{AreWatched, AreRuleLists}
use Rattle.tv_rules.specs.Standing.{AreNumbersOf, StandsIn, SeesSummaries}
use Rattle.tv_rules.specs.Waiting.{IsAllBut, IsShape, forms_in}
use Rattle.tv_rules.proofs.AllBut.{OtherAt, before-all, behind-all, but-last, but-set}
use Rattle.tv_rules.proofs.EntryLemmas.{entries-kept}
use Rattle.tv_rules.proofs.Family.{zip-at, zip-length, bases-below, free-alike}
use Rattle.tv_rules.proofs.MetByHeaps.{All-found}
use Rattle.tv_rules.proofs.Written.{swaps_are_of_conjuncts}

-- what is read at a place of a list stands there in the same list
pub read-at : {X : Type 0} (read items : List X) (n : ℕ) (x : X) → read ≡ items → slice_get read n ≡ Some x → slice_get items n ≡ Some x
read-at read items n x same at = sym (ap (λ xs. slice_get xs n) same) ∙ at

pushed-at : (lists : List (List ℕ)) (ns : List ℕ) (k : ℕ) (xs : List ℕ) → slice_get (lists ++ ns ∷ []) k ≡ Some xs
    → (slice_get lists k ≡ Some xs) ⊎ ((k ≡ length lists) × (ns ≡ xs))
pushed-at [] ns zero xs at = inr (refl, cc at)
pushed-at [] ns (suc k) xs at = absurd (cc at)
pushed-at (l ∷ lists) ns zero xs at = inl at
pushed-at (l ∷ lists) ns (suc k) xs at =
    ⊎_elim (λ before. inl before) (λ new. inr (ap suc new.0, new.1)) (pushed-at lists ns k xs at)

-- the numbers of one predicate more
pub watched-more : (rules : List RuleForm) (q : ℕ) (lists new : List (List ℕ)) (ns : List ℕ)
    → (length lists ≡ q) × ((k : ℕ) (xs : List ℕ) → slice_get lists k ≡ Some xs → AreNumbersOf (StandsIn k) rules xs)
    → AreNumbersOf (StandsIn q) rules ns → new ≡ lists ++ ns ∷ []
    → (length new ≡ q + 1) × ((k : ℕ) (xs : List ℕ) → slice_get new k ≡ Some xs → AreNumbersOf (StandsIn k) rules xs)
watched-more rules q lists new ns before here put = (
  ap length put ∙ length-append lists (ns ∷ []) ∙ ap (λ n. n + 1) before.0,
  λ k xs at. each k xs (pushed-at lists ns k xs (subst (λ (ls : List (List ℕ)). slice_get ls k ≡ Some xs) put at)),
)
  where
    each : (k : ℕ) (xs : List ℕ) → (slice_get lists k ≡ Some xs) ⊎ ((k ≡ length lists) × (ns ≡ xs)) → AreNumbersOf (StandsIn k) rules xs
    each k xs (inl was) = before.1 k xs was
    each k xs (inr is) =
        let same : q ≡ k = sym (is.0 ∙ before.0)
        in let At : ℕ → Type 0 = λ r. AreNumbersOf (StandsIn r) rules ns in let Of : List ℕ → Type 0 = λ zs. AreNumbersOf (StandsIn k) rules zs
        in subst Of is.1 (subst At same here)

-- what was found of the rules as they were read, four times
pub are-kept : (bases : List Rule) (shapes : List Shape) (entries : List Entry) (by_pred : List (List ℕ)) (by_sm : List ℕ)
    → (v e p s : List Rule) → v ≡ bases → e ≡ bases → p ≡ bases → s ≡ bases
    → AllZip IsShape (map rule_of v) shapes
    → map entry_of entries ≡ closed_entries (map rule_of e)
    → ((q : ℕ) (ns : List ℕ) → slice_get by_pred q ≡ Some ns → AreNumbersOf (StandsIn q) (closed_set (map rule_of p)) ns)
    → ((q k : ℕ) (rule : RuleForm) → slice_get (rules_of bases) k ≡ Some rule → StandsIn q rule → q < length by_pred)
    → AreNumbersOf SeesSummaries (closed_set (map rule_of s)) by_sm
    → AreRuleLists bases shapes entries by_pred by_sm
are-kept bases shapes entries by_pred by_sm v e p s ev ee ep es shaped kept numbers places seeing = record {
  shaped = subst (λ (rs : List Rule). AllZip IsShape (map rule_of rs) shapes) ev shaped;
  kept = subst (λ (rs : List Rule). map entry_of entries ≡ closed_entries (map rule_of rs)) ee kept;
  watched = record {
    numbers = subst (λ (rs : List Rule). (q : ℕ) (ns : List ℕ) → slice_get by_pred q ≡ Some ns → AreNumbersOf (StandsIn q) (closed_set (map rule_of rs)) ns) ep numbers;
    places = places;
  };
  seeing = subst (λ (rs : List Rule). AreNumbersOf SeesSummaries (closed_set (map rule_of rs)) by_sm) es seeing;
}

pub below-count : (rules : List RuleForm) (lists : List (List ℕ)) (n : ℕ) → length lists ≡ n
    → ((q k : ℕ) (rule : RuleForm) → slice_get rules k ≡ Some rule → StandsIn q rule → q < n)
    → (q k : ℕ) (rule : RuleForm) → slice_get rules k ≡ Some rule → StandsIn q rule → q < length lists
below-count rules lists n count below q k rule at stands = omega (arith, below q k rule at stands, count)

pub range-of : (bases read : List Rule) → read ≡ bases
    → ((v : ℕ) (rule : RuleForm) → Contains (map rule_of bases) rule → IsFreeInRule v rule → v < 32)
    → (v : ℕ) (rule : RuleForm) → Contains (map rule_of read) rule → IsFreeInRule v rule → v < 32
range-of bases read same range =
    subst (λ (rs : List Rule). (v : ℕ) (rule : RuleForm) → Contains (map rule_of rs) rule → IsFreeInRule v rule → v < 32) (sym same) range

-- there is a rule at each number below their count
pub some-at : {X : Type 0} (xs : List X) (n : ℕ) → n < length xs → (x : X) × (slice_get xs n ≡ Some x)
some-at [] n below = absurd (omega (arith, below))
some-at (x ∷ xs) zero below = (x, refl)
some-at (x ∷ xs) (suc n) below = some-at xs n (omega (arith, below))

-- the numbers of a predicate's rules, also where it has no place
pub watched-at : (rules : List RuleForm) (by_pred : List (List ℕ)) → AreWatched rules by_pred → (q : ℕ) (found : List ℕ)
    → found ≡ unwrap_or (slice_get by_pred q) [] → AreNumbersOf (StandsIn q) rules found
watched-at rules by_pred watched q found is = go (slice_get by_pred q) refl is
  where
    none : slice_get by_pred q ≡ None → AreNumbersOf (StandsIn q) rules []
    none past = record {
      exact = λ n. (
        λ at. absurd (Contains-none n at),
        λ k. let below : q < length by_pred = watched.places q n k.0 k.1 k.2
            in let there : (ns : List ℕ) × (slice_get by_pred q ≡ Some ns) = some-at by_pred q below
            in absurd (cc (past, there.1)),
      );
      increasing = λ k less. absurd (omega (arith, less));
    }

    go : (o : Option (List ℕ)) → slice_get by_pred q ≡ o → found ≡ unwrap_or o [] → AreNumbersOf (StandsIn q) rules found
    go None past e = let Of : List ℕ → Type 0 = λ ns. AreNumbersOf (StandsIn q) rules ns in subst Of (sym e) (none past)
    go (Some ns) there e = let Of : List ℕ → Type 0 = λ zs. AreNumbersOf (StandsIn q) rules zs in subst Of (sym e) (watched.numbers q ns there)

-- a literal at a negated head's place is one conjunct
negated_head-whole : (head : HeadForm) → conjuncts (negated_head head) ≡ negated_head head ∷ []
negated_head-whole HNever = refl
negated_head-whole (HAtom true p vars) = refl
negated_head-whole (HAtom false p vars) = refl
negated_head-whole (HSame true v w) = refl
negated_head-whole (HSame false v w) = refl

puttings-at : (x : Form) (fs : List Form) (k : ℕ) (gs : List Form) → slice_get (puttings x fs) k ≡ Some gs → slice_set fs k x ≡ gs
puttings-at x [] k gs at = absurd (cc at)
puttings-at x (f ∷ fs) zero gs at = cc at
puttings-at x (f ∷ fs) (suc k) gs at =
    go (slice_get (puttings x fs) k) (λ hs there. puttings-at x fs k hs there) (sym (slice_get-map (λ hs. f ∷ hs) (puttings x fs) k) ∙ at)
  where
    go : (o : Option (List Form)) → ((hs : List Form) → o ≡ Some hs → slice_set fs k x ≡ hs)
        → option_map (λ hs. f ∷ hs) o ≡ Some gs → f ∷ slice_set fs k x ≡ gs
    go None later none = absurd (cc none)
    go (Some hs) later same = let last : f ∷ hs ≡ gs = cc same in ap (λ zs. f ∷ zs) (later hs refl) ∙ last

pub about-conjuncts : (o : Option ℕ) (base rule : RuleForm) → IsRuleAbout o base rule
    → swapped_at o (negated_head base.head) (conjuncts base.body) ≡ conjuncts rule.body
about-conjuncts None base rule is = ap (λ (r : RuleForm). conjuncts r.body) (sym is)
about-conjuncts (Some k) base rule is =
    let x : Form = negated_head base.head
    in let C : Swap → List Form = λ s. conjuncts s.body
    in let mapped : slice_get (map C (swaps x base.body)) k ≡ Some (conjuncts is.0.body)
    = slice_get-map C (swaps x base.body) k ∙ ap (option_map C) is.1
    in let put : slice_get (puttings x (conjuncts base.body)) k ≡ Some (conjuncts is.0.body)
    = ap (λ ls. slice_get ls k) (sym ((swaps_are_of_conjuncts x base.body).bodies (negated_head-whole base.head))) ∙ mapped
    in puttings-at x (conjuncts base.body) k (conjuncts is.0.body) put ∙ ap conjuncts (sym is.2)

-- a literal is the negation of the head that it gives
signed-denied : (f : Form) (flag : Bool) (head : HeadForm) → signed_head flag f ≡ Some head → negated_if flag f ≡ negated_head head
signed-denied FZero flag head e = absurd (cc e)
signed-denied FOne flag head e = absurd (cc e)
signed-denied (FAtom p vars) flag head e = let same : HAtom flag p vars ≡ head = cc e in ap negated_head same
signed-denied (FIsNew v) flag head e = absurd (cc e)
signed-denied (FSame v w) flag head e = let same : HSame flag v w ≡ head = cc e in ap negated_head same
signed-denied (FNot f) flag head e = absurd (cc e)
signed-denied (FAnd f g) flag head e = absurd (cc e)
signed-denied (FOr f g) flag head e = absurd (cc e)
signed-denied (FIff f g) flag head e = absurd (cc e)
signed-denied (FCond c f g) flag head e = absurd (cc e)
signed-denied (FExists v f) flag head e = absurd (cc e)
signed-denied (FForall v f) flag head e = absurd (cc e)
signed-denied (FClosure from to left right f) flag head e = absurd (cc e)

literal-denied : (f : Form) (head : HeadForm) → negated f ≡ Some head → f ≡ negated_head head
literal-denied (FNot f) head e = signed-denied f true head e
literal-denied FZero head e = signed-denied FZero false head e
literal-denied FOne head e = signed-denied FOne false head e
literal-denied (FAtom p vars) head e = signed-denied (FAtom p vars) false head e
literal-denied (FIsNew v) head e = signed-denied (FIsNew v) false head e
literal-denied (FSame v w) head e = signed-denied (FSame v w) false head e
literal-denied (FAnd f g) head e = signed-denied (FAnd f g) false head e
literal-denied (FOr f g) head e = signed-denied (FOr f g) false head e
literal-denied (FIff f g) head e = signed-denied (FIff f g) false head e
literal-denied (FCond c f g) head e = signed-denied (FCond c f g) false head e
literal-denied (FExists v f) head e = signed-denied (FExists v f) false head e
literal-denied (FForall v f) head e = signed-denied (FForall v f) false head e
literal-denied (FClosure from to left right f) head e = signed-denied (FClosure from to left right f) false head e

-- all conjuncts of a base rule and its negated head, but the one that a rule of its family denies
pub but-about : (o : Option ℕ) (base rule : RuleForm) → IsRuleAbout o base rule
    → IsAllBut (conjuncts base.body ++ negated_head base.head ∷ []) (unwrap_or o (length (conjuncts base.body))) rule
but-about None base rule is =
    let fs : List Form = conjuncts base.body
    in let x : Form = negated_head base.head
    in subst (IsAllBut (fs ++ x ∷ []) (length fs)) (sym is)
    (record { others = λ f. but-last fs x f; denied = behind-all fs x })
but-about (Some k) base rule is = record {
  others = λ f. subst (λ gs. Contains gs f ↔ OtherAt (fs ++ x ∷ []) k f) (about-conjuncts (Some k) base rule is) (but-set fs k x f inside);
  denied = before-all fs x (negated_head rule.head) k read;
}
  where
    fs : List Form
    fs = conjuncts base.body

    x : Form
    x = negated_head base.head

    C : Swap → Form
    C s = s.conjunct

    read : slice_get fs k ≡ Some (negated_head rule.head)
    read = ap (λ gs. slice_get gs k) (sym ((swaps_are_of_conjuncts x base.body).each)) ∙ slice_get-map C (swaps x base.body) k
        ∙ ap (option_map C) is.1 ∙ ap Some (literal-denied is.0.conjunct rule.head is.3)

    inside : k < length fs
    inside = slice_get_within fs k (negated_head rule.head) read

pub members-counted : (rule : RuleForm) (shape : Shape) → IsShape rule shape → length shape.members ≡ length (conjuncts rule.body) + 1
members-counted rule shape shaped =
    sym (length-map (members_of shape.members) (λ (m : MemberForm). m.form) ∙ length-map shape.members member_of)
    ∙ ap length shaped.members ∙ length-append (conjuncts rule.body) (negated_head rule.head ∷ [])

module _ (bases : List Rule) (shapes : List Shape) (entries : List Entry) (by_pred : List (List ℕ)) (by_sm : List ℕ)
    (is : AreRuleLists bases shapes entries by_pred by_sm) where
  zipped : AllZip (IsEntry (map rule_of bases)) (rules_of bases) (map entry_of entries)
  zipped =
      let Of : List EntryForm → Type 0 = λ es. AllZip (IsEntry (map rule_of bases)) (rules_of bases) es
      in subst Of (sym is.kept) (entries-kept (map rule_of bases))

  pub count-of : length (rules_of bases) ≡ length entries
  count-of = zip-length (IsEntry (map rule_of bases)) (rules_of bases) (map entry_of entries) zipped ∙ length-map entries entry_of

  pub entries-below : (now : List Rule) → bases ≡ now → (n : ℕ) → n < length (rules_of now) → n < length entries
  entries-below now same n lt = omega (arith, lt, count-of, ap (λ (b : List Rule). length (rules_of b)) same)

  pub entry-is : (n : ℕ) (rule : RuleForm) (e : Entry) → slice_get (rules_of bases) n ≡ Some rule → slice_get entries n ≡ Some e
      → IsEntry (map rule_of bases) rule (entry_of e)
  entry-is n rule e there at =
      zip-at (IsEntry (map rule_of bases)) (rules_of bases) (map entry_of entries) zipped n rule (entry_of e) there
      (slice_get-map entry_of entries n ∙ ap (option_map entry_of) at)

  pub head-is : (n : ℕ) (rule : RuleForm) (e : Entry) → slice_get (rules_of bases) n ≡ Some rule → slice_get entries n ≡ Some e
      → head_of e.head ≡ rule.head
  head-is n rule e there at = (entry-is n rule e there at).head

  -- each entry's base rule has its place
  base-below : {Y : Type 0} (R : RuleForm → Y → Type 0) (ys : List Y) → AllZip R (map rule_of bases) ys
      → (n : ℕ) (e : Entry) → slice_get entries n ≡ Some e → e.base < length ys
  base-below R ys all n e at =
      All-found (λ (x : Entry). x.base < length ys) entries n e
      (bases-below R (map rule_of bases) ys entries ys refl is.kept all) at

  pub shapes-below : (n : ℕ) (e : Entry) → slice_get entries n ≡ Some e → e.base < length shapes
  shapes-below n e at = base-below IsShape shapes is.shaped n e at

  pub variables-are : (n : ℕ) (rule : RuleForm) (e : Entry) (shape : Shape) → slice_get (rules_of bases) n ≡ Some rule
      → slice_get entries n ≡ Some e → slice_get shapes e.base ≡ Some shape → AreFreeIn rule shape.variables
  variables-are n rule e shape there at found v =
      let entry : IsEntry (map rule_of bases) rule (entry_of e) = entry-is n rule e there at
      in let free : AreFreeIn entry.base shape.variables
      = (zip-at IsShape (map rule_of bases) shapes is.shaped e.base entry.base shape entry.there found).free
      in let same : IsFreeInRule v rule ↔ IsFreeInRule v entry.base = free-alike v e.conjunct entry.base rule entry.about
      in (λ k. same.1 ((free v).0 k), λ k. (free v).1 (same.0 k))

  pub shape-is : (n : ℕ) (rule : RuleForm) (e : Entry) (shape : Shape) (there : slice_get (rules_of bases) n ≡ Some rule)
      (at : slice_get entries n ≡ Some e) → slice_get shapes e.base ≡ Some shape → IsShape (entry-is n rule e there at).base shape
  shape-is n rule e shape there at found =
      let entry : IsEntry (map rule_of bases) rule (entry_of e) = entry-is n rule e there at
      in zip-at IsShape (map rule_of bases) shapes is.shaped e.base entry.base shape entry.there found

  -- what trying a rule goes by
  pub waits-are : (n : ℕ) (rule : RuleForm) (e : Entry) (shape : Shape) (skip : ℕ) → slice_get (rules_of bases) n ≡ Some rule
      → slice_get entries n ≡ Some e → slice_get shapes e.base ≡ Some shape → skip ≡ unwrap_or e.conjunct (length shape.members - 1)
      → IsAllBut (forms_in shape) skip rule × IsLaidOut shape
  waits-are n rule e shape skip there at found skips =
      let entry : IsEntry (map rule_of bases) rule (entry_of e) = entry-is n rule e there at
      in let shaped : IsShape entry.base shape = shape-is n rule e shape there at found
      in let count : skip ≡ unwrap_or e.conjunct (length (conjuncts entry.base.body))
      = skips ∙ ap (unwrap_or e.conjunct) (omega (arith, members-counted entry.base shape shaped))
      in let With : List Form → Type 0 = λ fs. IsAllBut fs skip rule
      in let At : ℕ → Type 0 = λ k. IsAllBut (conjuncts entry.base.body ++ negated_head entry.base.head ∷ []) k rule
      in (subst With (sym shaped.members) (subst At (sym count) (but-about e.conjunct entry.base rule entry.about)), shaped.laid)

  pub members-some : (n : ℕ) (e : Entry) (shape : Shape) → n < length (rules_of bases) → slice_get entries n ≡ Some e
      → slice_get shapes e.base ≡ Some shape → 0 < length shape.members
  members-some n e shape below at found =
      let rule : (r : RuleForm) × (slice_get (rules_of bases) n ≡ Some r) = some-at (rules_of bases) n below
      in omega (arith, members-counted (entry-is n rule.0 e rule.1 at).base shape (shape-is n rule.0 e shape rule.1 at found))
