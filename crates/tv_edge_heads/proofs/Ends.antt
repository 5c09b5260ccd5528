-- Tokens at the end of others.
use Rattle.std.proofs.Common.{◌≡◌, ℕ, List, [], ◌∷◌, ◌++◌, Option, Some, None, Bool, true, false, refl, sym}
use Rattle.std.proofs.Common.{◌∙◌}
use lib.Seq.{append_snoc}
use Rattle.std.specs.Prelude.{IfSome, is_some, codes}
use Rattle.std.specs.Str.{bytes_eq}
use Rattle.tv_lex.specs.Token.{SpecToken}
use Rattle.tv_phrases.specs.Reading.{Reading, taken}
use Rattle.tv_phrases.specs.Tokens.{after, first, identifier_item, text_item}
use Rattle.tv_phrases.specs.Lists.{with_front, items_from, comma_list, optional_list, between, params}
use Rattle.tv_phrases.specs.Lists.{variables, optional_brackets, name, two_items, pair}
use Rattle.tv_formula.specs.Grammar.{arrow}
use Rattle.tv_phrases.proofs.Facts.{on_bind, on_read, on_choose, on_if, at_some}

-- the tokens are the last of the whole
abbrev pub Ends : (whole rest : List SpecToken) → Type 0
Ends whole rest = (front : List SpecToken) × (whole ≡ front ++ rest)

pub ends_whole : (whole : List SpecToken) → Ends whole whole
ends_whole whole = ([], refl)

pub ends_behind : (whole ts : List SpecToken) (t : SpecToken) → Ends whole (t ∷ ts) → Ends whole ts
ends_behind whole ts t h = (h.0 ++ t ∷ [], h.1 ∙ sym (append_snoc h.0 t ts))

-- a reading that leaves tokens at the end
abbrev pub Leaves : (whole : List SpecToken) → {X : Type 0} → Reading X → Type 0
Leaves whole read = IfSome read (λ x. Ends whole x.1)

pub left : (whole : List SpecToken) {X : Type 0} (read : Reading X) (x : X) (us : List SpecToken) → Leaves whole read
    → read ≡ taken x us → Ends whole us
left whole read x us leaves is = at_some read (λ y. Ends whole y.1) (x, us) leaves is

pub leaves_after : (whole : List SpecToken) (m : List ℕ) (ts : List SpecToken) → Ends whole ts
    → IfSome (after m ts) (Ends whole)
unfolding after
leaves_after whole m [] at = tt
leaves_after whole m (t ∷ ts) at =
    on_if (bytes_eq t.bytes m) (Some ts) None (Ends whole) (λ e. ends_behind whole ts t at) (λ e. tt)

pub after_ends : (whole : List SpecToken) (m : List ℕ) (ts us : List SpecToken) → after m ts ≡ Some us → Ends whole ts
    → Ends whole us
after_ends whole m ts us is at = at_some (after m ts) (Ends whole) us (leaves_after whole m ts at) is

pub leaves_first : (whole : List SpecToken) {X : Type 0} (item : SpecToken → Option X) (ts : List SpecToken)
    → Ends whole ts → Leaves whole (first item ts)
unfolding first
leaves_first whole item [] at = tt
leaves_first whole item (t ∷ ts) at = on_bind (item t) _ _ (λ x e. ends_behind whole ts t at)

pub first_ends : (whole : List SpecToken) {X : Type 0} (item : SpecToken → Option X) (ts us : List SpecToken) (x : X)
    → first item ts ≡ taken x us → Ends whole ts → Ends whole us
first_ends whole item ts us x is at = left whole (first item ts) x us (leaves_first whole item ts at) is

leaves_items : (whole : List SpecToken) {X : Type 0} (item : SpecToken → Option X) (flag : Bool) (ts : List SpecToken)
    → Ends whole ts → Leaves whole (items_from item flag ts)
unfolding items_from with_front
leaves_items whole item true [] at = tt
leaves_items whole item true (t ∷ ts) at = on_bind (item t) _ _ (λ x e.
    on_read (items_from item false ts) _ _ _ (leaves_items whole item false ts (ends_behind whole ts t at)) (λ y q. q))
leaves_items whole item false [] at = at
leaves_items whole item false (t ∷ ts) at = on_choose (after (codes ",") (t ∷ ts)) _ _ _ (λ e. at) (λ us e.
    leaves_items whole item true ts (ends_behind whole ts t at))

leaves_optional : (whole : List SpecToken) {X : Type 0} (item : SpecToken → Option X) (ts : List SpecToken)
    → Ends whole ts → Leaves whole (optional_list item ts)
unfolding optional_list
leaves_optional whole {X} item ts at =
    on_if (is_some (first item ts)) (comma_list item ts) (taken [] ts) (λ (x : List X × List SpecToken). Ends whole x.1)
    (λ e. leaves_items whole item true ts at) (λ e. at)

leaves_between : (whole : List SpecToken) {X : Type 0} (o c : List ℕ) (read : List SpecToken → Reading X)
    → ((us : List SpecToken) → Ends whole us → Leaves whole (read us)) → (ts : List SpecToken) → Ends whole ts
    → Leaves whole (between o c read ts)
unfolding between
leaves_between whole o c read inner ts at =
    on_read (after o ts) _ _ _ (leaves_after whole o ts at) (λ us b.
    on_read (read us) _ _ _ (inner us b) (λ x p. on_read (after c x.1) _ _ _ (leaves_after whole c x.1 p) (λ rest d. d)))

leaves_brackets : (whole : List SpecToken) (ts : List SpecToken) → Ends whole ts → Leaves whole (optional_brackets ts)
unfolding optional_brackets
leaves_brackets whole ts at = on_choose (after (codes "[") ts) _ _ _ (λ e. at) (λ us e.
    leaves_between whole (codes "[") (codes "]") (comma_list identifier_item) (leaves_items whole identifier_item true) ts at)

leaves_name : (whole : List SpecToken) (ts : List SpecToken) → Ends whole ts → Leaves whole (name ts)
unfolding name
leaves_name whole ts at =
    on_read (first identifier_item ts) _ _ _ (leaves_first whole identifier_item ts at) (λ w p.
    on_read (optional_brackets w.1) _ _ _ (leaves_brackets whole w.1 p) (λ b q. q))

leaves_two : (whole : List SpecToken) (ts : List SpecToken) → Ends whole ts → Leaves whole (two_items ts)
unfolding two_items
leaves_two whole ts at =
    on_read (first identifier_item ts) _ _ _ (leaves_first whole identifier_item ts at) (λ v p.
    on_read (after (codes ",") v.1) _ _ _ (leaves_after whole (codes ",") v.1 p) (λ us b.
    on_read (first identifier_item us) _ _ _ (leaves_first whole identifier_item us b) (λ w q. q)))

pub params_end : (whole : List SpecToken) (ts us : List SpecToken) (xs : List (List ℕ)) → params ts ≡ taken xs us
    → Ends whole ts → Ends whole us
params_end whole ts us xs is at = left whole (params ts) xs us
    (leaves_between whole (codes "(") (codes ")") (optional_list identifier_item) (leaves_optional whole identifier_item) ts at) is

pub members_end : (whole : List SpecToken) (ts us : List SpecToken) (xs : List (List ℕ))
    → between (codes "{") (codes "}") (optional_list identifier_item) ts ≡ taken xs us → Ends whole ts → Ends whole us
members_end whole ts us xs is at = left whole (between (codes "{") (codes "}") (optional_list identifier_item) ts) xs us
    (leaves_between whole (codes "{") (codes "}") (optional_list identifier_item) (leaves_optional whole identifier_item) ts at) is

pub variables_end : (whole : List SpecToken) (ts us : List SpecToken) (xs : List (List ℕ)) → variables ts ≡ taken xs us
    → Ends whole ts → Ends whole us
variables_end whole ts us xs is at = left whole (variables ts) xs us
    (leaves_between whole (codes "(") (codes ")") (comma_list identifier_item) (leaves_items whole identifier_item true) ts at) is

pub pair_ends : (whole : List SpecToken) (ts us : List SpecToken) (x : List ℕ × List ℕ) → pair ts ≡ taken x us
    → Ends whole ts → Ends whole us
pair_ends whole ts us x is at = left whole (pair ts) x us
    (leaves_between whole (codes "(") (codes ")") two_items (leaves_two whole) ts at) is

pub name_ends : (whole : List SpecToken) (ts us : List SpecToken) (n : List ℕ × List (List ℕ)) → name ts ≡ taken n us
    → Ends whole ts → Ends whole us
name_ends whole ts us n is at = left whole (name ts) n us (leaves_name whole ts at) is

leaves_arrow : (whole : List SpecToken) (ts : List SpecToken) → Ends whole ts → IfSome (arrow ts) (Ends whole)
unfolding arrow
leaves_arrow whole ts at = on_read (after (codes "->") ts) _ _ _ (leaves_after whole (codes "->") ts at) (λ us b.
    on_choose (first text_item us) _ _ _ (λ e. b) (λ text e. tt))

pub arrow_ends : (whole : List SpecToken) (ts us : List SpecToken) → arrow ts ≡ Some us → Ends whole ts → Ends whole us
arrow_ends whole ts us is at = at_some (arrow ts) (Ends whole) us (leaves_arrow whole ts at) is
