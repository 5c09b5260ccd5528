-- Members of base rules are noted for changes, and closed rules that see a change are found by them.
use Rattle.std.proofs.Common.{ℕ, zero, suc, ◌≡◌, ◌≢◌, ◌<◌, ◌≤◌, ◌+◌, ◌⊎◌, ◌∙◌, ◌++◌, List, [], ◌∷◌, length}
use Rattle.std.proofs.Common.{map, replicate}
use Rattle.std.proofs.Common.{Option, None, Some, slice_get, slice_set, slice_index_or, true, false, All}
use Rattle.std.proofs.Common.{Contains, refl, sym, ap, subst}
use Rattle.std.proofs.Common.{inl, inr, ⊎_elim, arith}
use Rattle.std.specs.List.{AllZip}
use Rattle.std.specs.Option.{option_map}
use Rattle.std.proofs.lemmas.Bool.{cases_eq, eq-eqb}
use Rattle.std.proofs.lemmas.List.{length-map}
use Rattle.std.proofs.lemmas.List.Elements.{Contains-append_left, Contains-append_right}
use Rattle.tv_model.proofs.Lists.{Contains-here, Contains-none, Contains-cases, pushed-cases, pushed-last}
use Rattle.tv_model.proofs.Lists.{pushed-old}
use Rattle.std.proofs.lemmas.Option.{slice_get-get_or, slice_get-map}
use Rattle.tv_model.proofs.Lists.{All-from_contains, slice_get-below}
use Rattle.tv_model.specs.Form.{Form, FZero, FOne, FAtom, FIsNew, FSame, FNot, FAnd, FOr, FIff, FCond}
use Rattle.tv_model.specs.Form.{FExists, FForall, FClosure}
use Rattle.tv_model.specs.Program.{HeadForm, HNever, HAtom, HSame, RuleForm, rule_of}
use Rattle.tv_model.specs.declared.program.Rule.{Rule}
use Rattle.tv_coerce_moves.specs.declared.list.Occurrence.{Occurrence}
use Rattle.tv_coerce_moves.specs.declared.list.Moving.{Moving}
use Rattle.tv_coerce_moves.specs.declared.list.Moving.TheVariants.{Alone, Several}
use Rattle.tv_coerce_moves.specs.Moves.{MayMove, MayTell}
use Rattle.tv_coerce_moves.specs.Occurrences.{AreNoted, HasMember, HasPlaces, IsAmong, IsListed, KeepsMembers}
use Rattle.tv_coerce_moves.specs.Occurrences.{OccurrenceLists}
use Rattle.tv_coerce_moves.specs.Occurrences.{MovesOther}
use Rattle.tv_coerce_moves.specs.Occurrences.{list_for}
use Rattle.tv_coerce_moves.proofs.MoveLaws.{moves-shows}
use Rattle.tv_coerce_moves.proofs.NotedLaws.{keeps-all, keeps-both}
use Rattle.tv_rules.specs.declared.entries.Entry.{Entry}
use Rattle.tv_rules.specs.Closing.{conjuncts, negated_head, closed_set}
use Rattle.tv_rules.specs.Decoded.{IsEntry}
use Rattle.tv_rules.specs.EntryForms.{EntryForm, closed_entries, entry_of, rules_of, swapped_at}
use Rattle.tv_rules.specs.Flags.{are_twice, has_twice}
use Rattle.tv_rules.specs.Kin.{base_in}
use Rattle.tv_rules.specs.Moved.{AreConjunctsNoted, AreFamilies, AreHeadsNoted, AreMovedBy, AreOccurrences}
use Rattle.tv_rules.specs.Moved.{AreRulesNoted}
use Rattle.tv_rules.specs.Moved.{IsHeadNoted, IsMovedBySomeOf, IsMovedOf, IsRuleNoted, member, member_at}
use Rattle.tv_rules.specs.Moved.{other_place}
use Rattle.tv_rules.specs.Seen.{Sees, SeesTwice}
use Rattle.tv_rules.specs.Standing.{HasTwice, StandsIn}
use Rattle.tv_rules.proofs.EntryLemmas.{entries-kept}
use Rattle.tv_rules.proofs.Family.{zip-at, zip-length}
use Rattle.tv_rules.proofs.KeptLemmas.{about-conjuncts, some-at}

-- ---- members of a rule

pub less-or-last : (k count : ℕ) → k < count + 1 → (k < count) ⊎ (k ≡ count)
less-or-last k count less = ⊎_elim (λ e. inr e) (λ ne. inl (omega (arith, less, ne))) (cases_eq k count)

pub conjuncts-none : (number : ℕ) (forms : List Form) (lists : OccurrenceLists) → AreConjunctsNoted 0 number forms lists lists
conjuncts-none number forms lists = record {
  kept = keeps-all lists;
  noted = λ k f head below at listed moves. absurd (omega (arith, below));
}

pub conjuncts-next : (count number : ℕ) (forms : List Form) (f : Form) (old mid new : OccurrenceLists) → slice_get forms count ≡ Some f
    → AreConjunctsNoted count number forms old mid → AreNoted (λ head. MayMove head true f) (member number (Some count)) mid new
    → AreConjunctsNoted (count + 1) number forms old new
conjuncts-next count number forms f old mid new is before last = record {
  kept = keeps-both old mid new before.kept last.kept;
  noted = λ k g head below at listed moves. ⊎_elim
      (λ less. last.kept.members head (member number (Some k)) (before.noted k g head less at listed moves))
      (λ e. here k g head e at listed moves)
      (less-or-last k count below);
}
  where
    here : (k : ℕ) (g : Form) (head : HeadForm) → k ≡ count → slice_get forms k ≡ Some g → IsListed head old → MayMove head true g
        → HasMember (member number (Some k)) (list_for new head)
    here k g head e at listed moves =
        let found : slice_get forms count ≡ Some g = subst (λ j. slice_get forms j ≡ Some g) e at
        in let same : g ≡ f = cc (found, is)
        in subst (λ j. HasMember (member number (Some j)) (list_for new head)) (sym e)
        (last.there head ((before.kept.listed head).0 listed) (subst (MayMove head true) same moves))

pub rule-noted : (count number : ℕ) (rule : RuleForm) (forms : List Form) (f : Form) (old mid new : OccurrenceLists)
    → length forms ≤ count → forms ≡ conjuncts rule.body → f ≡ negated_head rule.head
    → AreConjunctsNoted count number forms old mid
    → AreNoted (λ head. MayMove head true f) (member number None) mid new → IsRuleNoted number rule new
rule-noted count number rule forms f old mid new all are is before last None g head at listed moves =
    let same : g ≡ f = cc (at, is)
    in last.there head ((last.kept.listed head).1 listed) (subst (MayMove head true) same moves)
rule-noted count number rule forms f old mid new all are is before last (Some k) g head at listed moves =
    let found : slice_get forms k ≡ Some g = ap (λ fs. slice_get fs k) are ∙ at
    in last.kept.members head (member number (Some k))
    (before.noted k g head (omega (arith, all, slice_get-below forms k g found)) found
    ((before.kept.listed head).1 ((last.kept.listed head).1 listed)) moves)

-- ---- rules

pub rules-none : (rules : List RuleForm) (lists : OccurrenceLists) → AreRulesNoted 0 rules lists
rules-none rules lists n rule below at place f head is listed moves = absurd (omega (arith, below))

pub rules-next : (count : ℕ) (rules : List RuleForm) (rule : RuleForm) (old new : OccurrenceLists) → slice_get rules count ≡ Some rule
    → AreRulesNoted count rules old → KeepsMembers old new → IsRuleNoted count rule new → AreRulesNoted (count + 1) rules new
rules-next count rules rule old new is before kept here n other below at =
    ⊎_elim
    (λ less place f head member_is listed moves. kept.members head (member n place)
    (before n other less at place f head member_is ((kept.listed head).1 listed) moves))
    (λ e. let found : slice_get rules count ≡ Some other = subst (λ j. slice_get rules j ≡ Some other) e at
    in let same : rule ≡ other = cc (found, is)
    in subst (λ j. IsRuleNoted j other new) (sym e) (subst (λ r. IsRuleNoted count r new) same here))
    (less-or-last n count below)

-- ---- heads

pub twice_is : (head : HeadForm) → HasTwice head → has_twice head ≡ true
twice_is HNever (v, twice) = absurd twice
twice_is (HAtom flag pred vars) (v, twice) = ap are_twice twice ∙ eq-eqb v v refl
twice_is (HSame flag x y) (v, twice) = eq-eqb x y (twice.0 ∙ sym twice.1)

pub heads-none : (entries : List EntryForm) (lists : OccurrenceLists) → AreHeadsNoted 0 entries lists
heads-none entries lists n e below at twice head listed tells = absurd (omega (arith, below))

pub heads-next : (count : ℕ) (entries : List EntryForm) (e : EntryForm) (old new : OccurrenceLists) → slice_get entries count ≡ Some e
    → AreHeadsNoted count entries old → KeepsMembers old new → IsHeadNoted new e → AreHeadsNoted (count + 1) entries new
heads-next count entries e old new is before kept here n other below at =
    ⊎_elim
    (λ less twice head listed tells. kept.members head (member other.base (other_place other.conjunct))
    (before n other less at twice head ((kept.listed head).1 listed) tells))
    (λ same. let found : slice_get entries count ≡ Some other = subst (λ j. slice_get entries j ≡ Some other) same at
    in let one : e ≡ other = cc (found, is)
    in subst (IsHeadNoted new) one here)
    (less-or-last n count below)

-- notes of more members keep these
pub rules-stay : (count : ℕ) (rules : List RuleForm) (old new : OccurrenceLists) → AreRulesNoted count rules old → KeepsMembers old new
    → AreRulesNoted count rules new
rules-stay count rules old new before kept n rule below at place f head is listed moves =
    kept.members head (member n place) (before n rule below at place f head is ((kept.listed head).1 listed) moves)

-- ---- closed rules that see a change

-- a body that is moved has a conjunct that is
pub moves-conjunct : (head : HeadForm) (f : Form) → MayMove head true f → (g : Form) × Contains (conjuncts f) g × MayMove head true g
moves-conjunct head FZero k = absurd k
moves-conjunct head FOne k = absurd k
moves-conjunct head (FAtom q vars) k = (FAtom q vars, Contains-here (FAtom q vars) [], k)
moves-conjunct head (FIsNew v) k = absurd k
moves-conjunct head (FSame v w) k = (FSame v w, Contains-here (FSame v w) [], k)
moves-conjunct head (FNot f) k = (FNot f, Contains-here (FNot f) [], k)
moves-conjunct head (FAnd f g) k =
    ⊎_elim
    (λ l. let at : (h : Form) × Contains (conjuncts f) h × MayMove head true h = moves-conjunct head f l
    in (at.0, Contains-append_left (conjuncts f) (conjuncts g) at.0 at.1, at.2))
    (λ r. let at : (h : Form) × Contains (conjuncts g) h × MayMove head true h = moves-conjunct head g r
    in (at.0, Contains-append_right (conjuncts f) (conjuncts g) at.0 at.1, at.2)) k
moves-conjunct head (FOr f g) k = (FOr f g, Contains-here (FOr f g) [], k)
moves-conjunct head (FIff f g) k = (FIff f g, Contains-here (FIff f g) [], k)
moves-conjunct head (FCond c f g) k = (FCond c f g, Contains-here (FCond c f g) [], k)
moves-conjunct head (FExists v f) k = (FExists v f, Contains-here (FExists v f) [], k)
moves-conjunct head (FForall v f) k = (FForall v f, Contains-here (FForall v f) [], k)
moves-conjunct head (FClosure from to left right f) k =
    (FClosure from to left right f, Contains-here (FClosure from to left right f) [], k)

contains-at : {X : Type 0} (xs : List X) (x : X) → Contains xs x → (k : ℕ) × (slice_get xs k ≡ Some x)
contains-at [] x at = absurd (Contains-none x at)
contains-at {X} (y ∷ xs) x at =
    ⊎_elim (λ e. (0, ap (λ (z : X). Some z) e))
    (λ later. let r : (k : ℕ) × (slice_get xs k ≡ Some x) = contains-at xs x later in (suc r.0, r.1)) (Contains-cases y x xs at)

set-cases : {X : Type 0} (xs : List X) (k j : ℕ) (x y : X) → slice_get (slice_set xs k x) j ≡ Some y
    → (x ≡ y) ⊎ ((j ≢ k) × (slice_get xs j ≡ Some y))
set-cases [] k j x y at = absurd (cc at)
set-cases (z ∷ xs) zero zero x y at = inl (cc at)
set-cases (z ∷ xs) zero (suc j) x y at = inr (λ e. omega (arith, e), at)
set-cases (z ∷ xs) (suc k) zero x y at = inr (λ e. omega (arith, e), at)
set-cases (z ∷ xs) (suc k) (suc j) x y at =
    ⊎_elim (λ e. inl e) (λ other. inr (λ e. other.0 (omega (arith, e)), other.1)) (set-cases xs k j x y at)

some-apart : (j k : ℕ) → j ≢ k → Some j ≢ Some k
some-apart j k ne e = ne (cc e)

-- a conjunct of a closed rule is a member of its base rule that the closed rule doesn't deny
other-member : (o : Option ℕ) (base : RuleForm) (g : Form) → Contains (swapped_at o (negated_head base.head) (conjuncts base.body)) g
    → (place : Option ℕ) × (place ≢ o) × (member_at place base ≡ Some g)
other-member None base g at =
    let r : (k : ℕ) × (slice_get (conjuncts base.body) k ≡ Some g) = contains-at (conjuncts base.body) g at
    in (Some r.0, λ e. absurd (cc e), r.1)
other-member (Some k) base g at =
    let r : (j : ℕ) × (slice_get (slice_set (conjuncts base.body) k (negated_head base.head)) j ≡ Some g)
    = contains-at (slice_set (conjuncts base.body) k (negated_head base.head)) g at
    in ⊎_elim
    (λ e. (None, λ same. absurd (cc same), ap (λ (f : Form). Some f) e))
    (λ other. (Some r.0, some-apart r.0 k other.0, other.1))
    (set-cases (conjuncts base.body) k r.0 (negated_head base.head) g r.1)

other-place-apart : (o : Option ℕ) → other_place o ≢ o
other-place-apart None e = absurd (cc e)
other-place-apart (Some k) e = absurd (cc e)

others-move : (place denied : Option ℕ) (moving : Moving) → place ≢ denied → IsAmong place moving → MovesOther denied moving
others-move place denied (Alone other) ne among = λ e. ne (sym among ∙ e)
others-move place denied Several ne among = tt

-- the changes that a rule sees have lists
seen-listed : (preds : ℕ) (lists : OccurrenceLists) (rule : RuleForm) → HasPlaces preds lists → ((q : ℕ) → StandsIn q rule → q < preds)
    → (head : HeadForm) → Sees head rule → IsListed head lists
seen-listed preds lists rule places range HNever sees = ⊎_elim (λ k. moves-shows HNever rule.body true k) (λ k. k.0) sees
seen-listed preds lists rule places range (HAtom true pred vars) sees =
    let below : pred < preds
    = range pred (⊎_elim (λ k. inl (moves-shows (HAtom true pred vars) rule.body true k)) (λ k. inr k.0) sees)
    in omega (arith, below, places.to_yes)
seen-listed preds lists rule places range (HAtom false pred vars) sees =
    let below : pred < preds
    = range pred (⊎_elim (λ k. inl (moves-shows (HAtom false pred vars) rule.body true k)) (λ k. inr k.0) sees)
    in omega (arith, below, places.to_no)
seen-listed preds lists rule places range (HSame flag v w) sees = tt

module _ (bases : List RuleForm) (preds : ℕ) (empty lists : OccurrenceLists) (places : HasPlaces preds empty) (whole : KeepsMembers empty lists)
    (range : (q n : ℕ) (rule : RuleForm) → slice_get (closed_set bases) n ≡ Some rule → StandsIn q rule → q < preds)
    (rules : AreRulesNoted (length bases) bases lists)
    (heads : AreHeadsNoted (length (closed_entries bases)) (closed_entries bases) lists) where
  found-by : (head : HeadForm) (n : ℕ) (e : EntryForm) (place : Option ℕ) → slice_get (closed_entries bases) n ≡ Some e → place ≢ e.conjunct
      → HasMember (member e.base place) (list_for lists head) → IsMovedBySomeOf bases (list_for lists head) n
  found-by head n e place at ne has = record {
    at = has.at;
    occurrence = has.occurrence;
    there = has.there;
    moved = record {
      entry = e;
      there = at;
      base = sym has.rule;
      other = others-move place e.conjunct has.occurrence.moving ne has.among;
    };
  }

  by-body : (head : HeadForm) (n : ℕ) (rule : RuleForm) (e : EntryForm) → slice_get (closed_entries bases) n ≡ Some e → IsEntry bases rule e
      → IsListed head lists → MayMove head true rule.body → IsMovedBySomeOf bases (list_for lists head) n
  by-body head n rule e at is listed moves =
      let g : (g : Form) × Contains (conjuncts rule.body) g × MayMove head true g = moves-conjunct head rule.body moves
      in let other : (place : Option ℕ) × (place ≢ e.conjunct) × (member_at place is.base ≡ Some g.0)
      = other-member e.conjunct is.base g.0 (subst (λ fs. Contains fs g.0) (sym (about-conjuncts e.conjunct is.base rule is.about)) g.1)
      in found-by head n e other.0 at other.1
      (rules e.base is.base (slice_get-below bases e.base is.base is.there) is.there other.0 g.0 head other.2 listed g.2)

  by-head : (head : HeadForm) (n : ℕ) (rule : RuleForm) (e : EntryForm) → slice_get (closed_entries bases) n ≡ Some e → IsEntry bases rule e
      → IsListed head lists → SeesTwice head rule.head → IsMovedBySomeOf bases (list_for lists head) n
  by-head head n rule e at is listed sees =
      found-by head n e (other_place e.conjunct) at (other-place-apart e.conjunct)
      (heads n e (slice_get-below (closed_entries bases) n e at) at (subst HasTwice (sym is.head) sees.1) head listed
      (subst (λ h. MayTell h head) (sym is.head) sees.0))

  pub occurrences-are : AreOccurrences bases lists
  occurrences-are head n rule found sees =
      let kept : AllZip (IsEntry bases) (closed_set bases) (closed_entries bases) = entries-kept bases
      in let below : n < length (closed_entries bases)
      = omega (arith, slice_get-below (closed_set bases) n rule found, zip-length (IsEntry bases) (closed_set bases) (closed_entries bases) kept)
      in let e : (e : EntryForm) × (slice_get (closed_entries bases) n ≡ Some e) = some-at (closed_entries bases) n below
      in let is : IsEntry bases rule e.0 = zip-at (IsEntry bases) (closed_set bases) (closed_entries bases) kept n rule e.0 found e.1
      in let listed : IsListed head lists
      = (whole.listed head).0 (seen-listed preds empty rule places (λ q stands. range q n rule found stands) head sees)
      in ⊎_elim (λ moves. by-body head n rule e.0 e.1 is listed moves) (λ twice. by-head head n rule e.0 e.1 is listed twice) sees

-- ---- families

own-list : (lists : List (List ℕ)) (b : ℕ) (old new : List ℕ) → slice_get lists b ≡ Some old → slice_index_or (slice_set lists b new) b [] ≡ new
own-list [] b old new at = absurd (cc at)
own-list (l ∷ lists) zero old new at = refl
own-list (l ∷ lists) (suc b) old new at = own-list lists b old new at

old-list : (lists : List (List ℕ)) (b : ℕ) (old : List ℕ) → slice_get lists b ≡ Some old → slice_index_or lists b [] ≡ old
old-list [] b old at = absurd (cc at)
old-list (l ∷ lists) zero old at = cc at
old-list (l ∷ lists) (suc b) old at = old-list lists b old at

other-list : (lists : List (List ℕ)) (b c : ℕ) (new : List ℕ) → c ≢ b → slice_index_or (slice_set lists b new) c [] ≡ slice_index_or lists c []
other-list [] b c new ne = refl
other-list (l ∷ lists) zero zero new ne = absurd (ne refl)
other-list (l ∷ lists) zero (suc c) new ne = refl
other-list (l ∷ lists) (suc b) zero new ne = refl
other-list (l ∷ lists) (suc b) (suc c) new ne = other-list lists b c new (λ e. ne (ap suc e))

pub families-none : (entries : List EntryForm) (count : ℕ) → AreFamilies 0 entries (replicate count [])
families-none entries count = record {
  there = λ n e below at. absurd (omega (arith, below));
  within = λ b n at. absurd (nothing count b n at);
}
  where
    nothing : (count b n : ℕ) → Contains (slice_index_or (replicate count []) b []) n → ⊥
    nothing zero b n at = Contains-none n at
    nothing (suc count) zero n at = Contains-none n at
    nothing (suc count) (suc b) n at = nothing count b n at

pub families-next : (count : ℕ) (entries : List EntryForm) (e : EntryForm) (lists : List (List ℕ)) (old new : List ℕ)
    → slice_get entries count ≡ Some e → slice_get lists e.base ≡ Some old → new ≡ old ++ count ∷ [] → AreFamilies count entries lists
    → AreFamilies (count + 1) entries (slice_set lists e.base new)
families-next count entries e lists old new is at put before = record {
  there = λ n other below found.
      ⊎_elim (λ less. stays other.base n (before.there n other less found)) (λ same. here n other same found) (less-or-last n count below);
  within = λ b n has. below b n has (cases_eq b e.base);
}
  where
    has-pushed : (n : ℕ) → Contains (old ++ count ∷ []) n → Contains (slice_index_or (slice_set lists e.base new) e.base []) n
    has-pushed n has = subst (λ ns. Contains ns n) (sym (own-list lists e.base old new at ∙ put)) has

    stays : (b n : ℕ) → Contains (slice_index_or lists b []) n → Contains (slice_index_or (slice_set lists e.base new) b []) n
    stays b n has = go (cases_eq b e.base)
      where
        go : (b ≡ e.base) ⊎ (b ≢ e.base) → Contains (slice_index_or (slice_set lists e.base new) b []) n
        go (inl same) =
            subst (λ c. Contains (slice_index_or (slice_set lists e.base new) c []) n) (sym same)
            (has-pushed n (pushed-old old count n (subst (λ ns. Contains ns n) (old-list lists e.base old at)
            (subst (λ c. Contains (slice_index_or lists c []) n) same has))))
        go (inr ne) = subst (λ ns. Contains ns n) (sym (other-list lists e.base b new ne)) has

    here : (n : ℕ) (other : EntryForm) → n ≡ count → slice_get entries n ≡ Some other
        → Contains (slice_index_or (slice_set lists e.base new) other.base []) n
    here n other same found =
        let there : slice_get entries count ≡ Some other = subst (λ j. slice_get entries j ≡ Some other) same found
        in let one : e ≡ other = cc (there, is)
        in subst (λ (x : EntryForm). Contains (slice_index_or (slice_set lists e.base new) x.base []) n) one
        (has-pushed n (pushed-last old count n same))

    more : (b n : ℕ) → (n < count) × (base_in (slice_get entries n) ≡ b)
        → (n < count + 1) × (base_in (slice_get entries n) ≡ b)
    more b n is = (omega (arith, is.0), is.1)

    below : (b n : ℕ) → Contains (slice_index_or (slice_set lists e.base new) b []) n → (b ≡ e.base) ⊎ (b ≢ e.base)
        → (n < count + 1) × (base_in (slice_get entries n) ≡ b)
    below b n has (inl same) =
        subst (λ c. (n < count + 1) × (base_in (slice_get entries n) ≡ c)) (sym same)
        (⊎_elim
        (λ was. more e.base n (before.within e.base n (subst (λ ns. Contains ns n) (sym (old-list lists e.base old at)) was)))
        (λ last. (omega (arith, last), ap base_in (ap (slice_get entries) last ∙ is)))
        (pushed-cases old count n (subst (λ ns. Contains ns n) (own-list lists e.base old new at ∙ put)
        (subst (λ c. Contains (slice_index_or (slice_set lists e.base new) c []) n) same has))))
    below b n has (inr ne) =
        more b n (before.within b n (subst (λ ns. Contains ns n) (other-list lists e.base b new ne) has))

-- ---- what stands beside base rules

pub entry-count : (bases : List RuleForm) → length (closed_set bases) ≡ length (closed_entries bases)
entry-count bases = zip-length (IsEntry bases) (closed_set bases) (closed_entries bases) (entries-kept bases)

pub are-moved_by : (bases : List Rule) (lists : OccurrenceLists) (families : List (List ℕ)) (entries : List Entry) (read : List Rule) (given : List Entry)
    → read ≡ bases → given ≡ entries → map entry_of entries ≡ closed_entries (map rule_of bases)
    → AreOccurrences (map rule_of read) lists → AreFamilies (length given) (map entry_of given) families → AreMovedBy bases lists families
are-moved_by bases lists families entries read given same is kept occurrences grouped = record {
  seen = subst (λ (rs : List Rule). AreOccurrences (map rule_of rs) lists) same occurrences;
  grouped = subst (λ (es : List EntryForm). AreFamilies (length (rules_of bases)) es families) kept
      (subst (λ count. AreFamilies count (map entry_of entries) families) count
      (subst (λ (es : List Entry). AreFamilies (length es) (map entry_of es) families) is grouped));
}
  where
    count : length entries ≡ length (rules_of bases)
    count = sym (length-map entries entry_of) ∙ ap length kept ∙ sym (entry-count (map rule_of bases))

module _ (bases : List Rule) (lists : OccurrenceLists) (families : List (List ℕ)) (by : AreMovedBy bases lists families) where
  pub family-has : (occurrence : Occurrence) (n : ℕ) → IsMovedOf (map rule_of bases) occurrence n → Contains (slice_index_or families occurrence.rule []) n
  family-has occurrence n moved =
      subst (λ b. Contains (slice_index_or families b []) n) moved.base
      (by.grouped.there n moved.entry
      (omega (arith, slice_get-below (closed_entries (map rule_of bases)) n moved.entry moved.there, entry-count (map rule_of bases)))
      moved.there)

  pub family-within : (b : ℕ) → All (λ n. n < length (rules_of bases)) (slice_index_or families b [])
  family-within b = All-from_contains (λ n. n < length (rules_of bases)) (slice_index_or families b []) (λ n has. (by.grouped.within b n has).0)

-- the entry of a closed rule is the one at its number
pub same-entry : (bases : List RuleForm) (entries : List Entry) (n : ℕ) (e : Entry) (f : EntryForm) → map entry_of entries ≡ closed_entries bases
    → slice_get entries n ≡ Some e → slice_get (closed_entries bases) n ≡ Some f → entry_of e ≡ f
same-entry bases entries n e f kept at found =
    let mapped : slice_get (map entry_of entries) n ≡ Some (entry_of e)
    = slice_get-map entry_of entries n ∙ ap (option_map entry_of) at
    in let read : slice_get (map entry_of entries) n ≡ Some f = ap (λ es. slice_get es n) kept ∙ found
    in cc (mapped, read)

-- each entry's base rule is one of so many
pub base-within : (bases read : List Rule) (entries given : List Entry) → read ≡ bases → given ≡ entries
    → map entry_of entries ≡ closed_entries (map rule_of read) → (n : ℕ) (e : EntryForm) → slice_get (map entry_of given) n ≡ Some e
    → e.base < length bases
base-within bases read entries given same is kept n e at =
    let found : slice_get (closed_entries (map rule_of bases)) n ≡ Some e
    = ap (λ (rs : List Rule). slice_get (closed_entries (map rule_of rs)) n) (sym same) ∙ sym (ap (λ es. slice_get es n) kept)
    ∙ sym (ap (λ (es : List Entry). slice_get (map entry_of es) n) is) ∙ at
    in let below : n < length (closed_set (map rule_of bases))
    = omega (arith, slice_get-below (closed_entries (map rule_of bases)) n e found, entry-count (map rule_of bases))
    in let rule : (r : RuleForm) × (slice_get (closed_set (map rule_of bases)) n ≡ Some r) = some-at (closed_set (map rule_of bases)) n below
    in let entry : IsEntry (map rule_of bases) rule.0 e
    = zip-at (IsEntry (map rule_of bases)) (closed_set (map rule_of bases)) (closed_entries (map rule_of bases)) (entries-kept (map rule_of bases)) n rule.0 e rule.1 found
    in omega (arith, slice_get-below (map rule_of bases) e.base entry.base entry.there, length-map bases rule_of)

-- ---- loops that are over

pub conjuncts-done : (count all number : ℕ) (forms : List Form) (old new : OccurrenceLists) → all ≤ count
    → AreConjunctsNoted count number forms old new → AreConjunctsNoted all number forms old new
conjuncts-done count all number forms old new done before = record {
  kept = before.kept;
  noted = λ k f head below at listed moves. before.noted k f head (omega (arith, below, done)) at listed moves;
}

pub rules-done : (count all : ℕ) (rules : List RuleForm) (lists : OccurrenceLists) → all ≤ count → AreRulesNoted count rules lists
    → AreRulesNoted all rules lists
rules-done count all rules lists done before n rule below at = before n rule (omega (arith, below, done)) at

pub heads-done : (count all : ℕ) (entries : List EntryForm) (lists : OccurrenceLists) → all ≤ count → AreHeadsNoted count entries lists
    → AreHeadsNoted all entries lists
heads-done count all entries lists done before n e below at = before n e (omega (arith, below, done)) at

-- ---- reads in loops

pub mapped-or : {X Y : Type 0} (f : X → Y) (xs : List X) (i : ℕ) (d : X) → i < length xs
    → slice_get (map f xs) i ≡ Some (f (slice_index_or xs i d))
mapped-or f xs i d below = slice_get-map f xs i ∙ ap (option_map f) (slice_get-get_or xs i d below)
