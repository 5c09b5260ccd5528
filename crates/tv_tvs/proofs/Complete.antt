-- What the grammar says is read, so that it says one thing at most.
use Rattle.std.proofs.Common.{◌≡◌, ℕ, ◌+◌, ◌<◌, ◌≤◌, Bool, true, List, [], ◌∷◌}
use Rattle.std.proofs.Common.{length, Option, Some, None, refl, sym, ap, ◌∙◌, arith}
use Rattle.std.specs.Prelude.{codes}
use Rattle.std.proofs.lemmas.Option.{same_Some}
use Rattle.tv_kleene.specs.declared.K3.{K3}
use Rattle.tv_lex.specs.Token.{SpecToken}
use Rattle.tv_phrases.specs.Reading.{Reading, taken}
use Rattle.tv_phrases.specs.Tokens.{word_item}
use Rattle.tv_tvs.specs.Tree.{ItemTree, ContentTree, OneValue, Listed, StructTree}
use Rattle.tv_tvs.specs.Grammar.{value_item, IsSecond, IsItemValue, IsItemTree, IsNextItem, AreItems}
use Rattle.tv_tvs.specs.Grammar.{IsContent, IsEntry, IsOpening, IsStruct, AreStructs, begins_comma}
use Rattle.tv_tvs.specs.Grammar.{begins_word, begins_name, begins_struct}
use Rattle.tv_tvs.specs.Reading.{second_at, item_value_at, item_at, next_item_at, one_or_more_at, items_at}
use Rattle.tv_tvs.specs.Reading.{one_value_at, braces_at, content_at, entry_at, opening_at, struct_at}
use Rattle.tv_tvs.specs.Reading.{text_of_structs}
use Rattle.tv_phrases.specs.Repeated.{Repeated, all_of}
use Rattle.tv_phrases.proofs.Takes.{after_takes, first_takes, name_takes, optional_takes}
use Rattle.tv_phrases.proofs.Repeats.{many_read}

-- ---- what the grammar says takes tokens, and is read

abbrev pub Shorter : {X : Type 0} → (List SpecToken → X → List SpecToken → Type 0) → Type 0
Shorter {X} Part = (ts : List SpecToken) (x : X) (us : List SpecToken) → Part ts x us → length us < length ts

abbrev pub Complete : {X : Type 0} → (List SpecToken → Reading X) → (List SpecToken → X → List SpecToken → Type 0) → Type 0
Complete {X} part Part = (ts : List SpecToken) (x : X) (us : List SpecToken) → Part ts x us → part ts ≡ Some (x, us)

parts_read : {X : Type 0} (begins : List SpecToken → Bool) (part : List SpecToken → Reading X) (Part : List SpecToken → X → List SpecToken → Type 0)
    → Complete part Part → Shorter Part → (ts : List SpecToken) (xs : List X) (rest : List SpecToken) → Repeated begins Part ts xs rest
    → (all_of begins part ts ≡ taken xs rest) × (length rest ≤ length ts)
parts_read begins part Part complete shorter ts xs rest are =
    many_read begins part Part (λ us vs x is. (complete us x vs is, shorter us x vs is)) xs ts rest are (length ts + 1) (omega arith)

parts_complete : {X : Type 0} (begins : List SpecToken → Bool) (part : List SpecToken → Reading X) (Part : List SpecToken → X → List SpecToken → Type 0)
    → Complete part Part → Shorter Part → Complete (all_of begins part) (Repeated begins Part)
parts_complete begins part Part complete shorter ts xs rest are = (parts_read begins part Part complete shorter ts xs rest are).0

second_complete : Complete second_at IsSecond
unfolding second_at
second_complete ts None us p = rw (p.0) (ap (λ vs. Some (None, vs)) (sym p.1))
second_complete ts (Some w) us p = rw (p.1, p.2) refl

item_value_complete : Complete item_value_at IsItemValue
unfolding item_value_at
item_value_complete ts None us p = rw (p.0) (ap (λ vs. Some (None, vs)) (sym p.1))
item_value_complete ts (Some k) us p = rw (p.1, p.2) refl

second_shorter : (ts : List SpecToken) (x : Option (List ℕ)) (us : List SpecToken) → IsSecond ts x us → length us ≤ length ts
second_shorter ts None us p = rw (p.1) (omega arith)
second_shorter ts (Some w) us p = omega (arith, after_takes (codes "->") ts p.0 p.1, first_takes word_item p.0 us w p.2)

item_value_shorter : (ts : List SpecToken) (x : Option K3) (us : List SpecToken) → IsItemValue ts x us → length us ≤ length ts
item_value_shorter ts None us p = rw (p.1) (omega arith)
item_value_shorter ts (Some k) us p = omega (arith, after_takes (codes ":") ts p.0 p.1, first_takes value_item p.0 us k p.2)

item_complete : Complete item_at IsItemTree
unfolding item_at
item_complete ts item rest p =
    rw (p.2, second_complete p.0 item.second p.1 p.3, item_value_complete p.1 item.value rest p.4) refl

item_shorter : Shorter IsItemTree
item_shorter ts item rest p =
    omega (arith, first_takes word_item ts p.0 item.first p.2, second_shorter p.0 item.second p.1 p.3, item_value_shorter p.1 item.value rest p.4)

next_item_complete : Complete next_item_at IsNextItem
unfolding next_item_at
next_item_complete ts item rest p = rw (p.1) (item_complete p.0 item rest p.2)

next_item_shorter : Shorter IsNextItem
next_item_shorter ts item rest p = omega (arith, after_takes (codes ",") ts p.0 p.1, item_shorter p.0 item rest p.2)

items_complete : Complete items_at AreItems
unfolding items_at one_or_more_at
items_complete ts [] rest p = rw (p.0) (ap (λ us. Some ([], us)) (sym p.1))
items_complete ts (item ∷ items) rest p =
    let word : begins_word ts ≡ true = rw (p.1.2) refl
    in rw (word, item_complete ts item p.0 p.1, parts_complete begins_comma next_item_at IsNextItem next_item_complete next_item_shorter p.0 items rest p.2) refl

items_shorter : (ts : List SpecToken) (items : List ItemTree) (rest : List SpecToken) → AreItems ts items rest → length rest ≤ length ts
items_shorter ts [] rest p = rw (p.1) (omega arith)
items_shorter ts (item ∷ items) rest p =
    omega (arith, item_shorter ts item p.0 p.1, (parts_read begins_comma next_item_at IsNextItem next_item_complete next_item_shorter p.0 items rest p.2).1)

content_complete : Complete content_at IsContent
unfolding content_at one_value_at braces_at
content_complete ts (OneValue k) rest p = rw (p.0, p.1) refl
content_complete ts (Listed items) rest p = rw (p.2, items_complete p.0 items p.1 p.3, p.4) refl

content_shorter : (ts : List SpecToken) (c : ContentTree) (rest : List SpecToken) → IsContent ts c rest → length rest ≤ length ts
content_shorter ts (OneValue k) rest p = omega (arith, first_takes value_item ts rest k p.1)
content_shorter ts (Listed items) rest p =
    omega (arith, after_takes (codes "{") ts p.0 p.2, items_shorter p.0 items p.1 p.3, after_takes (codes "}") p.1 rest p.4)

entry_complete : Complete entry_at IsEntry
unfolding entry_at
entry_complete ts entry rest p = rw (p.2, p.3, content_complete p.1 entry.content rest p.4) refl

entry_shorter : Shorter IsEntry
entry_shorter ts entry rest p =
    omega (arith, name_takes ts p.0 entry.name p.2, after_takes (codes "=") p.0 p.1 p.3, content_shorter p.1 entry.content rest p.4)

opening_complete : (directive : List ℕ) (ts us : List SpecToken) → IsOpening directive ts us → opening_at directive ts ≡ Some us
unfolding opening_at
opening_complete directive ts us p = rw (p.2, p.3) p.4

opening_shorter : (directive : List ℕ) (ts us : List SpecToken) → IsOpening directive ts us → length us < length ts
opening_shorter directive ts us p =
    omega (arith, after_takes directive ts p.0 p.2, after_takes (codes "=") p.0 p.1 p.3, after_takes (codes "{") p.1 us p.4)

pub struct_complete : Complete struct_at IsStruct
unfolding struct_at
struct_complete ts t rest p =
    rw (
      opening_complete (codes "%n") ts p.individuals p.opens,
      p.words,
      p.closes,
      opening_complete (codes "%p") p.middle p.entries p.opens_entries,
      parts_complete begins_name entry_at IsEntry entry_complete entry_shorter p.entries t.entries p.last p.are_entries,
      p.closes_entries,
    )
    refl

pub struct_shorter : Shorter IsStruct
struct_shorter ts t rest p =
    omega (
      arith,
      opening_shorter (codes "%n") ts p.individuals p.opens,
      optional_takes word_item p.individuals p.end t.individuals p.words,
      after_takes (codes "}") p.end p.middle p.closes,
      opening_shorter (codes "%p") p.middle p.entries p.opens_entries,
      (parts_read begins_name entry_at IsEntry entry_complete entry_shorter p.entries t.entries p.last p.are_entries).1,
      after_takes (codes "}") p.last rest p.closes_entries,
    )

pub text_complete : (ts : List SpecToken) (trees : List StructTree) → AreStructs ts trees → text_of_structs ts ≡ Some trees
unfolding text_of_structs
text_complete ts trees p =
    rw (parts_complete begins_struct struct_at IsStruct struct_complete struct_shorter ts trees [] p) refl

-- ---- at most one tree

pub one_struct : (ts : List SpecToken) (t u : StructTree) (us vs : List SpecToken) → IsStruct ts t us → IsStruct ts u vs → (t ≡ u) × (us ≡ vs)
one_struct ts t u us vs p q =
    let same : (t, us) ≡ (u, vs) = same_Some (t, us) (u, vs) (sym (struct_complete ts t us p) ∙ struct_complete ts u vs q)
    in (ap (λ (z : StructTree × List SpecToken). z.0) same, ap (λ (z : StructTree × List SpecToken). z.1) same)

pub one_text : (ts : List SpecToken) (a b : List StructTree) → AreStructs ts a → AreStructs ts b → a ≡ b
one_text ts a b p q = same_Some a b (sym (text_complete ts a p) ∙ text_complete ts b q)
