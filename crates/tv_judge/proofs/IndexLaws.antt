-- Indexes of lines.
use Rattle.std.proofs.Common.{ℕ, ◌≡◌, ◌<◌, ◌≤◌, ◌+◌, ◌&&◌, ◌||◌, ◌==◌, ◌↔◌, IsTrue, Bool, true, false, cond}
use Rattle.std.proofs.Common.{List, [], ◌∷◌, ◌++◌, length, get_or, take, drop, Option, None, Some, refl, sym}
use Rattle.std.proofs.Common.{ap, subst, ◌∙◌}
use Rattle.std.specs.Prelude.{if◌then◌else◌, is_some, Any}
use Rattle.std.specs.Borrow.{Bor}
use Rattle.std.specs.Option.{option_map, option_or}
use Rattle.std.specs.Map.{lookup}
use Rattle.std.specs.List.{list_any}
use Rattle.std.proofs.lemmas.Bool.{eqb-true, and_parts, and_from, eq-eqb}
use Rattle.std.proofs.lemmas.List.{drop_more, drop_all, take_all}
use Rattle.std.proofs.lemmas.List.Folds.{list_any-append, list_any_more, Any-from_list_any, list_any-from_Any}
use Rattle.std.proofs.Math.Bool.{or-false}
use Rattle.tv_lemmas.proofs.Options.{or_none}
use Rattle.indexmap.specs.IndexMap.{insert_entry}
use Rattle.indexmap.specs.IndexSet.{insert_key}
use Rattle.tv_listing.specs.declared.analysis.Item.{Item}
use Rattle.tv_listing.specs.declared.analysis.Item.TheVariants.{Initial, Result}
use Rattle.tv_listing.specs.declared.analysis.MapLine.{MapLine}
use Rattle.tv_listing.specs.declared.analysis.MessageLine.{MessageLine}
use Rattle.tv_step_laws.specs.Closed.{HasLine}
use Rattle.tv_judge.specs.Items.{is_same_item, own_line}
use Rattle.tv_judge.specs.Index.{line_at, line_for, NotesLine, IsLineIndex, is_said, IsMessageIndex}

-- ---- conjunctions of tests

pub same-is : (a b : Item) → is_same_item a b ≡ true → a ≡ b
same-is (Initial m) (Initial n) e = ap Initial (eqb-true m n e)
same-is (Initial m) (Result edge structure result) e = absurd cc
same-is (Result edge structure result) (Initial n) e = absurd cc
same-is (Result edge structure result) (Result f s r) e =
    let p = and_parts (edge == f) (structure == s && result == r) e
    in let q = and_parts (structure == s) (result == r) p.1
    in rw (eqb-true edge f p.0, eqb-true structure s q.0, eqb-true result r q.1) refl

-- ---- map lines

or-some : {X : Type 0} (a b : Option X) → is_some a ≡ true → option_or a b ≡ a
or-some None b e = absurd cc
or-some (Some x) b e = refl

or-or : {X : Type 0} (a b c : Option X) → option_or (option_or a b) c ≡ option_or a (option_or b c)
or-or None b c = refl
or-or (Some x) b c = refl

abbrev Entries : Type 0
Entries = List (Item × Bor MapLine)

-- a line whose item has one changes nothing
pub noted-old : (es : Entries) (line : MapLine) → is_some (lookup (is_same_item line.item) es) ≡ true
    → NotesLine es line es
noted-old es line there item = by (is_same_item item line.item) refl
  where
    same : is_some (lookup (is_same_item item) es) ≡ true → is_some (line_at es item) ≡ true
    same = at (lookup (is_same_item item) es)
      where
        at : (o : Option (Bor MapLine)) → is_some o ≡ true
            → is_some (option_map (λ (l : Bor MapLine). l.now) o) ≡ true
        at None e = absurd cc
        at (Some l) e = refl

    by : (b : Bool) → is_same_item item line.item ≡ b
        → line_at es item ≡ option_or (line_at es item) (if b then Some line else None)
    by false e = sym (or_none (line_at es item))
    by true e = sym (or-some (line_at es item) (Some line)
        (same (subst (λ i. is_some (lookup (is_same_item i) es) ≡ true)
        (sym (same-is item line.item e)) there)))

-- one whose item has none is put behind the others
pub noted-new : (es : Entries) (line : Bor MapLine) → is_some (lookup (is_same_item line.now.item) es) ≡ false
    → NotesLine es line.now (insert_entry is_same_item es line.now.item line)
noted-new [] line absent item = by (is_same_item item line.now.item)
  where
    by : (b : Bool) → option_map (λ (l : Bor MapLine). l.now) (cond b (Some line) None) ≡ option_or None
        (if b then Some line.now else None)
    by true = refl
    by false = refl
noted-new (e ∷ es) line absent item = by (is_same_item line.now.item e.0)
    (λ h. noted-new es line h item) absent
  where
    next : (b : Bool) → line_at (insert_entry is_same_item es line.now.item line) item ≡ option_or
        (line_at es item) (line_for item line.now)
        → option_map (λ (l : Bor MapLine). l.now)
        (cond b (Some e.1) (lookup (is_same_item item) (insert_entry is_same_item es line.now.item line)))
        ≡ option_or (option_map (λ (l : Bor MapLine). l.now)
        (cond b (Some e.1) (lookup (is_same_item item) es))) (line_for item line.now)
    next true rest = refl
    next false rest = rest

    by : (a : Bool) → (is_some (lookup (is_same_item line.now.item) es) ≡ false
        → line_at (insert_entry is_same_item es line.now.item line) item ≡ option_or (line_at es item)
        (line_for item line.now))
        → is_some (cond a (Some e.1) (lookup (is_same_item line.now.item) es)) ≡ false
        → line_at (if a then (e.0, line) ∷ es else e ∷ insert_entry is_same_item es line.now.item line) item
        ≡ option_or (line_at (e ∷ es) item) (line_for item line.now)
    by true rest none = absurd cc
    by false rest none = next (is_same_item item e.0) (rest none)

-- the lines so far and those that are left give what all lines give
pub IsNotedTo : Entries → List MapLine → ℕ → Type 0
IsNotedTo es lines i = (item : Item)
    → option_or (line_at es item) (own_line (drop i lines) item) ≡ own_line lines item

pub noted-next : (es new : Entries) (lines : List MapLine) (i : ℕ) (d : MapLine) → i < length lines
    → IsNotedTo es lines i → NotesLine es (get_or lines i d) new → IsNotedTo new lines (i + 1)
unfolding IsNotedTo
noted-next es new lines i d within before notes item =
    rw (notes item) (or-or (line_at es item) (line_for item (get_or lines i d))
    (own_line (drop (i + 1) lines) item))
    ∙ ap (option_or (line_at es item)) (by (is_same_item item (get_or lines i d).item)
    ∙ ap (λ ls. own_line ls item) (sym left))
    ∙ before item
  where
    left : drop i lines ≡ get_or lines i d ∷ drop (i + 1) lines
    left = drop_more lines i d within

    by : (b : Bool) → option_or (if b then Some (get_or lines i d) else None)
        (own_line (drop (i + 1) lines) item)
        ≡ (if b then Some (get_or lines i d) else own_line (drop (i + 1) lines) item)
    by true = refl
    by false = refl

pub noted-none : (es : Entries) (lines : List MapLine) → es ≡ [] → IsNotedTo es lines 0
unfolding IsNotedTo
noted-none es lines e item = rw e refl

pub noted-all : (es : Entries) (lines : List MapLine) (i : ℕ) → length lines ≤ i → IsNotedTo es lines i
    → IsLineIndex es lines
unfolding IsNotedTo
noted-all es lines i past noted item =
    sym (or_none (line_at es item))
    ∙ ap (λ ls. option_or (line_at es item) (own_line ls item)) (sym (drop_all i lines past)) ∙ noted item

-- ---- messages

-- whether there is a line for the message
abbrev pub has_line : List MessageLine → (edge number : ℕ) → Bool
has_line lines edge number = list_any (λ line. edge == line.edge && number == line.number) lines

is-line : (edge number : ℕ) (line : MessageLine) → (edge == line.edge && number == line.number) ≡ true
    → (line.edge ≡ edge) × (line.number ≡ number)
is-line edge number line e =
    let p = and_parts (edge == line.edge) (number == line.number) e
    in (sym (eqb-true edge line.edge p.0), sym (eqb-true number line.number p.1))

has-true : (lines : List MessageLine) (edge number : ℕ)
    → IsTrue (has_line lines edge number) ↔ HasLine lines edge number
has-true lines edge number = record { 0 = there; 1 = back }
  where
    there : IsTrue (has_line lines edge number) → HasLine lines edge number
    there e = found (Any-from_list_any (λ line. edge == line.edge && number == line.number) lines e)
      where
        found : Any (λ line. (edge == line.edge && number == line.number) ≡ true) lines
            → HasLine lines edge number
        found (k, line, within, at, is) = (k, line, within, at, is-line edge number line is)

    back : HasLine lines edge number → IsTrue (has_line lines edge number)
    back (k, line, within, at, is) =
        list_any-from_Any (λ line. edge == line.edge && number == line.number) lines (
          k,
          line,
          within,
          at,
          and_from (edge == line.edge) (number == line.number)
              (eq-eqb edge line.edge (sym is.0)) (eq-eqb number line.number (sym is.1)),
        )

-- a test that is the same as the items' own
pub insert-same : (eq : Item → Item → Bool) → ((a b : Item) → eq a b ≡ is_same_item a b)
    → (es : Entries) (k : Item)
    (v : Bor MapLine) → insert_entry eq es k v ≡ insert_entry is_same_item es k v
insert-same eq same es k v = λ j. insert_entry (λ a b. same a b j) es k v

pub lookup-same : (eq : Item → Item → Bool) → ((a b : Item) → eq a b ≡ is_same_item a b)
    → (es : Entries) (k : Item)
    → lookup (eq k) es ≡ lookup (is_same_item k) es
lookup-same eq same es k = λ j. lookup (λ b. same k b j) es

-- these are the messages of the lines so far
pub AreSaidTo : List (ℕ × ℕ) → List MessageLine → ℕ → Type 0
AreSaidTo keys lines i = (edge number : ℕ) → is_said keys edge number ≡ has_line (take i lines) edge number

pub said-next : (keys new : List (ℕ × ℕ)) (lines : List MessageLine) (i : ℕ) (d : MessageLine)
    → i < length lines
    → new ≡ insert_key (λ a b. a.0 == b.0 && a.1 == b.1) keys
    ((get_or lines i d).edge, (get_or lines i d).number)
    → AreSaidTo keys lines i → AreSaidTo new lines (i + 1)
unfolding AreSaidTo
said-next keys new lines i d within put before edge number =
    ap (λ ks. is_said ks edge number) put
    ∙ by (list_any (λ key. (get_or lines i d).edge == key.0 && (get_or lines i d).number == key.1) keys) refl
    ∙ ap (λ b. b || (edge == (get_or lines i d).edge && number == (get_or lines i d).number))
    (before edge number)
    ∙ sym (list_any_more (λ l. edge == l.edge && number == l.number) lines i d within)
  where
    known : (t : Bool) → (edge == (get_or lines i d).edge && number == (get_or lines i d).number) ≡ t
        → is_said keys (get_or lines i d).edge (get_or lines i d).number ≡ true
        → is_said keys edge number ≡ (is_said keys edge number || t)
    known false e said = sym (or-false (is_said keys edge number))
    known true e said =
        let p = and_parts (edge == (get_or lines i d).edge) (number == (get_or lines i d).number) e
        in rw (
          eqb-true edge (get_or lines i d).edge p.0,
          eqb-true number
              (get_or lines i d).number p.1,
          said,
        ) refl

    by : (b : Bool) → list_any (λ key. (get_or lines i d).edge == key.0 &&
        (get_or lines i d).number == key.1) keys ≡ b
        → is_said (if b then keys else keys ++
        ((get_or lines i d).edge, (get_or lines i d).number) ∷ []) edge number
        ≡ (is_said keys edge number || (edge == (get_or lines i d).edge && number ==
        (get_or lines i d).number))
    by true e = known (edge == (get_or lines i d).edge && number == (get_or lines i d).number) refl e
    by false e =
        list_any-append (λ (key : ℕ × ℕ). edge == key.0 && number == key.1) keys
        (((get_or lines i d).edge, (get_or lines i d).number) ∷ [])
        ∙ ap (λ b. is_said keys edge number || b)
        (or-false (edge == (get_or lines i d).edge && number == (get_or lines i d).number))

pub said-none : (keys : List (ℕ × ℕ)) (lines : List MessageLine) → keys ≡ [] → AreSaidTo keys lines 0
unfolding AreSaidTo
said-none keys lines e edge number = rw e refl

pub said-all : (keys : List (ℕ × ℕ)) (lines : List MessageLine) (i : ℕ) → length lines ≤ i
    → AreSaidTo keys lines i
    → IsMessageIndex keys lines
unfolding AreSaidTo
said-all keys lines i past said edge number =
    let e : is_said keys edge number ≡ has_line lines edge number
    = said edge number ∙ ap (λ ls. has_line ls edge number) (take_all i lines past)
    in subst (λ b. IsTrue b ↔ HasLine lines edge number) (sym e) (has-true lines edge number)
