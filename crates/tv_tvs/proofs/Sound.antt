-- What is read is what the grammar says.
use Rattle.std.proofs.Common.{◌≡◌, ℕ, ◌+◌, Bool, true, cond, List, [], ◌∷◌, length, Option, Some, None}
use Rattle.std.proofs.Common.{refl, subst, inl, inr, arith, eqb}
use Rattle.std.specs.Prelude.{codes}
use Rattle.std.proofs.lemmas.Option.{same_Some, cond_some}
use Rattle.std.proofs.lemmas.Bool.{eqb-true}
use Rattle.tv_kleene.specs.declared.K3.{K3}
use Rattle.tv_lex.specs.Token.{SpecToken}
use Rattle.tv_phrases.specs.Reading.{Reading, ◌>>=◌}
use Rattle.tv_phrases.specs.Tokens.{after, first, word_item}
use Rattle.tv_phrases.specs.Lists.{optional_list, name}
use Rattle.tv_phrases.specs.Repeated.{Repeated, all_of}
use Rattle.tv_phrases.proofs.Values.{bind_some, chosen, tested}
use Rattle.tv_phrases.proofs.Repeats.{many_sound}
use Rattle.tv_tvs.specs.Tree.{ItemTree, ContentTree, OneValue, Listed, EntryTree, StructTree}
use Rattle.tv_tvs.specs.Grammar.{value_item, IsSecond, IsItemValue, IsItemTree, IsNextItem, AreItems}
use Rattle.tv_tvs.specs.Grammar.{IsContent, IsEntry, IsOpening, IsStruct, AreStructs, begins_comma}
use Rattle.tv_tvs.specs.Grammar.{begins_word, begins_name, begins_struct}
use Rattle.tv_tvs.specs.Reading.{second_at, item_value_at, item_at, next_item_at, next_items_at}
use Rattle.tv_tvs.specs.Reading.{one_or_more_at, items_at, one_value_at, braces_at, content_at, entry_at}
use Rattle.tv_tvs.specs.Reading.{entries_at, opening_at, struct_at, structs_at, text_of_structs}

-- what the reading gives is a phrase
abbrev pub Sound : {X : Type 0} → (List SpecToken → Reading X) → (List SpecToken → X → List SpecToken → Type 0) → Type 0
Sound {X} part Part = (ts : List SpecToken) (y : X × List SpecToken) → part ts ≡ Some y → Part ts y.0 y.1

-- the same of any number of parts
parts_sound : {X : Type 0} (begins : List SpecToken → Bool) (part : List SpecToken → Reading X) (Part : List SpecToken → X → List SpecToken → Type 0)
    → Sound part Part → Sound (all_of begins part) (Repeated begins Part)
parts_sound begins part Part sound ts y e =
    many_sound begins part Part (λ us vs x is. sound us (x, vs) is) (length ts + 1) ts y.1 y.0 e

second_sound : Sound second_at IsSecond
unfolding second_at
second_sound ts y e =
    elim (chosen (after (codes "->") ts) (Some (None, ts)) (λ us. first word_item us >>= λ w. Some (Some w.0, w.1)) (Some y) e) [
      | inl h ↦ subst (λ (z : Option (List ℕ) × List SpecToken). IsSecond ts z.0 z.1) (same_Some (None, ts) y h.1) (h.0, refl)
      | inr h ↦
          let b = bind_some (first word_item h.0) (λ w. Some (Some w.0, w.1)) y h.2
          in subst (λ (z : Option (List ℕ) × List SpecToken). IsSecond ts z.0 z.1) (same_Some (Some b.0.0, b.0.1) y b.2) (h.0, h.1, b.1)
    ]

item_value_sound : Sound item_value_at IsItemValue
unfolding item_value_at
item_value_sound ts y e =
    elim (chosen (after (codes ":") ts) (Some (None, ts)) (λ us. first value_item us >>= λ k. Some (Some k.0, k.1)) (Some y) e) [
      | inl h ↦ subst (λ (z : Option K3 × List SpecToken). IsItemValue ts z.0 z.1) (same_Some (None, ts) y h.1) (h.0, refl)
      | inr h ↦
          let b = bind_some (first value_item h.0) (λ k. Some (Some k.0, k.1)) y h.2
          in subst (λ (z : Option K3 × List SpecToken). IsItemValue ts z.0 z.1) (same_Some (Some b.0.0, b.0.1) y b.2) (h.0, h.1, b.1)
    ]

abbrev item_with : List ℕ → Option (List ℕ) → Option K3 → ItemTree
item_with word second value = record { first = word; second = second; value = value }

item_sound : Sound item_at IsItemTree
unfolding item_at
item_sound ts y e =
    let a = bind_some (first word_item ts) (λ word. second_at word.1 >>= λ second. item_value_at second.1 >>= λ value. Some (item_with word.0 second.0 value.0, value.1)) y e
    in let b = bind_some (second_at a.0.1) (λ second. item_value_at second.1 >>= λ value. Some (item_with a.0.0 second.0 value.0, value.1)) y a.2
    in let c = bind_some (item_value_at b.0.1) (λ value. Some (item_with a.0.0 b.0.0 value.0, value.1)) y b.2
    in subst (λ (z : ItemTree × List SpecToken). IsItemTree ts z.0 z.1) (same_Some (item_with a.0.0 b.0.0 c.0.0, c.0.1) y c.2)
    (a.0.1, b.0.1, a.1, second_sound a.0.1 b.0 b.1, item_value_sound b.0.1 c.0 c.1)

next_item_sound : Sound next_item_at IsNextItem
unfolding next_item_at
next_item_sound ts y e =
    let a = bind_some (after (codes ",") ts) item_at y e
    in (a.0, a.1, item_sound a.0 y a.2)

items_sound : Sound items_at AreItems
unfolding items_at one_or_more_at
items_sound ts y e =
    elim (tested (begins_word ts) (one_or_more_at ts) (Some ([], ts)) (Some y) e) [
      | inl h ↦
          let a = bind_some (item_at ts) (λ item. next_items_at item.1 >>= λ items. Some (item.0 ∷ items.0, items.1)) y h.1
          in let b = bind_some (next_items_at a.0.1) (λ items. Some (a.0.0 ∷ items.0, items.1)) y a.2
          in subst (λ (z : List ItemTree × List SpecToken). AreItems ts z.0 z.1) (same_Some (a.0.0 ∷ b.0.0, b.0.1) y b.2)
          (a.0.1, item_sound ts a.0 a.1, parts_sound begins_comma next_item_at IsNextItem next_item_sound a.0.1 b.0 b.1)
      | inr h ↦ subst (λ (z : List ItemTree × List SpecToken). AreItems ts z.0 z.1) (same_Some ([], ts) y h.1) (h.0, refl)
    ]

content_sound : Sound content_at IsContent
unfolding content_at one_value_at braces_at
content_sound ts y e =
    elim (chosen (after (codes "{") ts) (one_value_at ts) braces_at (Some y) e) [
      | inl h ↦
          let a = bind_some (first value_item ts) (λ k. Some (OneValue k.0, k.1)) y h.1
          in subst (λ (z : ContentTree × List SpecToken). IsContent ts z.0 z.1) (same_Some (OneValue a.0.0, a.0.1) y a.2) (h.0, a.1)
      | inr h ↦
          let a = bind_some (items_at h.0) (λ items. after (codes "}") items.1 >>= λ rest. Some (Listed items.0, rest)) y h.2
          in let b = bind_some (after (codes "}") a.0.1) (λ rest. Some (Listed a.0.0, rest)) y a.2
          in subst (λ (z : ContentTree × List SpecToken). IsContent ts z.0 z.1) (same_Some (Listed a.0.0, b.0) y b.2)
          (h.0, a.0.1, h.1, items_sound h.0 a.0 a.1, b.1)
    ]

abbrev entry_with : List ℕ × List (List ℕ) → ContentTree → EntryTree
entry_with n content = record { name = n; content = content }

entry_sound : Sound entry_at IsEntry
unfolding entry_at
entry_sound ts y e =
    let a = bind_some (name ts) (λ n. after (codes "=") n.1 >>= λ us. content_at us >>= λ content. Some (entry_with n.0 content.0, content.1)) y e
    in let b = bind_some (after (codes "=") a.0.1) (λ us. content_at us >>= λ content. Some (entry_with a.0.0 content.0, content.1)) y a.2
    in let c = bind_some (content_at b.0) (λ content. Some (entry_with a.0.0 content.0, content.1)) y b.2
    in subst (λ (z : EntryTree × List SpecToken). IsEntry ts z.0 z.1) (same_Some (entry_with a.0.0 c.0.0, c.0.1) y c.2)
    (a.0.1, b.0, a.1, b.1, content_sound b.0 c.0 c.1)

opening_sound : (directive : List ℕ) (ts us : List SpecToken) → opening_at directive ts ≡ Some us → IsOpening directive ts us
unfolding opening_at
opening_sound directive ts us e =
    let a = bind_some (after directive ts) (λ vs. after (codes "=") vs >>= λ ws. after (codes "{") ws) us e
    in let b = bind_some (after (codes "=") a.0) (λ ws. after (codes "{") ws) us a.2
    in (a.0, b.0, a.1, b.1, b.2)

abbrev struct_with : List (List ℕ) → List EntryTree → StructTree
struct_with individuals entries = record { individuals = individuals; entries = entries }

pub struct_sound : Sound struct_at IsStruct
unfolding struct_at
struct_sound ts y e =
    let a = bind_some (opening_at (codes "%n") ts) (λ us. optional_list word_item us >>= λ individuals. after (codes "}") individuals.1 >>= λ vs. opening_at (codes "%p") vs >>= λ ws. entries_at ws >>= λ entries. after (codes "}") entries.1 >>= λ rest. Some (struct_with individuals.0 entries.0, rest)) y e
    in let b = bind_some (optional_list word_item a.0) (λ individuals. after (codes "}") individuals.1 >>= λ vs. opening_at (codes "%p") vs >>= λ ws. entries_at ws >>= λ entries. after (codes "}") entries.1 >>= λ rest. Some (struct_with individuals.0 entries.0, rest)) y a.2
    in let c = bind_some (after (codes "}") b.0.1) (λ vs. opening_at (codes "%p") vs >>= λ ws. entries_at ws >>= λ entries. after (codes "}") entries.1 >>= λ rest. Some (struct_with b.0.0 entries.0, rest)) y b.2
    in let d = bind_some (opening_at (codes "%p") c.0) (λ ws. entries_at ws >>= λ entries. after (codes "}") entries.1 >>= λ rest. Some (struct_with b.0.0 entries.0, rest)) y c.2
    in let f = bind_some (entries_at d.0) (λ entries. after (codes "}") entries.1 >>= λ rest. Some (struct_with b.0.0 entries.0, rest)) y d.2
    in let g = bind_some (after (codes "}") f.0.1) (λ rest. Some (struct_with b.0.0 f.0.0, rest)) y f.2
    in subst (λ (z : StructTree × List SpecToken). IsStruct ts z.0 z.1) (same_Some (struct_with b.0.0 f.0.0, g.0) y g.2)
    (record {
      individuals = a.0;
      end = b.0.1;
      middle = c.0;
      entries = d.0;
      last = f.0.1;
      opens = opening_sound (codes "%n") ts a.0 a.1;
      words = b.1;
      closes = c.1;
      opens_entries = opening_sound (codes "%p") c.0 d.0 d.1;
      are_entries = parts_sound begins_name entry_at IsEntry entry_sound d.0 f.0 f.1;
      closes_entries = g.1;
    })

none_left : (ts : List SpecToken) → eqb (length ts) 0 ≡ true → ts ≡ []
none_left [] e = refl
none_left (t ∷ ts) e = let h = eqb-true (length (t ∷ ts)) 0 e in absurd (omega (arith, h))

pub text_sound : (ts : List SpecToken) (trees : List StructTree) → text_of_structs ts ≡ Some trees → AreStructs ts trees
unfolding text_of_structs
text_sound ts trees e =
    let a = bind_some (structs_at ts) (λ x. cond (eqb (length x.1) 0) (Some x.0) None) trees e
    in let b = cond_some (eqb (length a.0.1) 0) a.0.0 trees a.2
    in let all : Repeated begins_struct IsStruct ts a.0.0 a.0.1 = parts_sound begins_struct struct_at IsStruct struct_sound ts a.0 a.1
    in subst (λ us. Repeated begins_struct IsStruct ts trees us) (none_left a.0.1 b.0) (subst (λ xs. Repeated begins_struct IsStruct ts xs a.0.1) b.1 all)
