-- What is read of the structures in a text is told of the structures of the grammar.
use Rattle.std.proofs.Common.{◌≡◌, ◌∙◌, ℕ, suc, ◌+◌, ◌<◌, List, [], ◌∷◌, length, map, Option, Some, None}
use Rattle.std.proofs.Common.{refl, sym, ap, subst, arith}
use Rattle.std.specs.Prelude.{codes}
use Rattle.std.proofs.lemmas.Option.{same_Some}
use Rattle.tv_lex.specs.Token.{SpecToken}
use Rattle.tv_phrases.specs.Reading.{Reading, taken, ◌>>=◌}
use Rattle.tv_phrases.specs.Tokens.{after, word_item}
use Rattle.tv_phrases.specs.Lists.{optional_list}
use Rattle.tv_phrases.specs.Repeated.{Repeated, all_of}
use Rattle.tv_phrases.proofs.Repeats.{many_read, one_list}
use Rattle.tv_tvs.specs.Grammar.{IsStruct, AreStructs, begins_name, begins_struct}
use Rattle.tv_tvs.specs.Reading.{opening_at, entry_at, struct_at}
use Rattle.tv_tvs.specs.Tree.{NameTree, EntryTree, StructTree}
use Rattle.tv_tvs.proofs.Complete.{struct_complete, struct_shorter}
use Rattle.tv_complete_text.specs.Ends.{entry_name}
use Rattle.tv_complete_text.specs.Named.{NamedForm, named_with, named_of, IsNamed, AreNamed, named_at}
use Rattle.tv_complete_text.specs.Named.{text_of_named}
use Rattle.tv_complete_text.proofs.Ending.{entries-named, entry_named, mapped}

-- ---- one structure

then : {A B C : Type 0} (o : Option A) (f : A → Option B) (g : A → Option C) (k : B → Option C)
    → ((x : A) → g x ≡ (f x >>= k)) → (o >>= g) ≡ ((o >>= f) >>= k)
then None f g k same = refl
then (Some x) f g k same = same x

abbrev struct_with : List (List ℕ) → List EntryTree → StructTree
struct_with individuals entries = record { individuals = individuals; entries = entries }

abbrev told_of : StructTree × List SpecToken → Reading NamedForm
told_of x = Some (named_of x.0 x.1, x.1)

abbrev close_names : List (List ℕ) → List NameTree × List SpecToken → Reading NamedForm
close_names individuals names = after (codes "}") names.1 >>= λ rest. Some (named_with individuals names.0 rest, rest)

abbrev close_entries : List (List ℕ) → List EntryTree × List SpecToken → Reading StructTree
close_entries individuals entries = after (codes "}") entries.1 >>= λ rest. Some
    (struct_with individuals entries.0, rest)

abbrev with_names : List (List ℕ) → List SpecToken → Reading NamedForm
with_names individuals ws = all_of begins_name entry_name ws >>= close_names individuals

abbrev with_entries : List (List ℕ) → List SpecToken → Reading StructTree
with_entries individuals ws = all_of begins_name entry_at ws >>= close_entries individuals

abbrev names_in : List (List ℕ) → List SpecToken → Reading NamedForm
names_in individuals vs = opening_at (codes "%p") vs >>= with_names individuals

abbrev entries_in : List (List ℕ) → List SpecToken → Reading StructTree
entries_in individuals vs = opening_at (codes "%p") vs >>= with_entries individuals

abbrev behind_names : List (List ℕ) × List SpecToken → Reading NamedForm
behind_names individuals = after (codes "}") individuals.1 >>= names_in individuals.0

abbrev behind_entries : List (List ℕ) × List SpecToken → Reading StructTree
behind_entries individuals = after (codes "}") individuals.1 >>= entries_in individuals.0

abbrev inside_names : List SpecToken → Reading NamedForm
inside_names us = optional_list word_item us >>= behind_names

abbrev inside_entries : List SpecToken → Reading StructTree
inside_entries us = optional_list word_item us >>= behind_entries

closed : (individuals : List (List ℕ)) (r : Reading (List EntryTree))
    → (mapped (map entry_named) r >>= close_names individuals)
    ≡ ((r >>= close_entries individuals) >>= told_of)
closed individuals None = refl
closed individuals (Some x) =
    then (after (codes "}") x.1) (λ rest. Some (struct_with individuals x.0, rest))
    (λ rest. Some (named_with individuals (map entry_named x.0) rest, rest)) told_of (λ rest. refl)

abbrev names_close : List (List ℕ) → Reading (List NameTree) → Reading NamedForm
names_close individuals r = r >>= close_names individuals

named-read : (ts : List SpecToken) → named_at ts ≡ (struct_at ts >>= told_of)
unfolding named_at struct_at
named-read ts =
    then (opening_at (codes "%n") ts) inside_entries inside_names told_of (λ us.
    then (optional_list word_item us) behind_entries behind_names told_of (λ individuals.
    then (after (codes "}") individuals.1) (entries_in individuals.0) (names_in individuals.0) told_of (λ vs.
    then (opening_at (codes "%p") vs) (with_entries individuals.0) (with_names individuals.0) told_of (λ ws.
    ap (names_close individuals.0) (entries-named begins_name ws) ∙ closed individuals.0
    (all_of begins_name entry_at ws)))))

abbrev IsRead : Type 0
IsRead = (ts us : List SpecToken) (x : NamedForm) → IsNamed ts x us → (named_at ts ≡ taken x us)
    × (length us < length ts)

named-is_read : IsRead
named-is_read ts us x h = (
  named-read ts ∙ ap (λ r. r >>= told_of) (struct_complete ts h.0 us h.1) ∙ ap (λ y. taken y us) (sym h.2),
  struct_shorter ts h.0 us h.1,
)

-- ---- all structures

-- so many structures are told of
pub record AreTold (ts : List SpecToken) (trees : List StructTree) (rest : List SpecToken) : Type 0 where
  pub list : List NamedForm
  pub are : Repeated begins_struct IsNamed ts list rest
  pub count : length list ≡ length trees

told : (trees : List StructTree) (ts rest : List SpecToken) → Repeated begins_struct IsStruct ts trees rest → AreTold
    ts trees rest
told [] ts rest h = record { list = []; are = h; count = refl }
told (t ∷ trees) ts rest h =
    let later : AreTold h.0 trees rest = told trees h.0 rest h.3
    in record {
      list = named_of t h.0 ∷ later.list;
      are = (h.0, h.1, (t, h.2, refl), later.are);
      count = ap (λ n. suc n) later.count;
    }

all-read : (ts : List SpecToken) (xs : List NamedForm) → AreNamed ts xs → all_of begins_struct named_at ts ≡ taken xs []
all-read ts xs h = (many_read begins_struct named_at IsNamed named-is_read xs ts [] h (length ts + 1) (omega arith)).0

text-read : (ts : List SpecToken) (xs : List NamedForm) → AreNamed ts xs → text_of_named ts ≡ Some xs
unfolding text_of_named
text-read ts xs h = rw (all-read ts xs h) refl

-- structures are read
pub never-refused : (ts : List SpecToken) (trees : List StructTree) → AreStructs ts trees → text_of_named ts ≡ None → ⊥
never-refused ts trees h none =
    let t : AreTold ts trees [] = told trees ts [] h
    in let clash : None ≡ Some t.list = sym none ∙ text-read ts t.list t.are
    in absurd cc

pub are-named : (ts : List SpecToken) (trees : List StructTree) (xs : List NamedForm) → AreStructs ts trees
    → text_of_named ts ≡ Some xs → AreNamed ts xs
are-named ts trees xs h read =
    let t : AreTold ts trees [] = told trees ts [] h
    in subst (AreNamed ts) (same_Some t.list xs (sym (text-read ts t.list t.are) ∙ read)) t.are

-- as many as there are
pub named-count : (ts : List SpecToken) (trees : List StructTree) (xs : List NamedForm) → AreStructs ts trees
    → AreNamed ts xs → length xs ≡ length trees
named-count ts trees xs h named =
    let t : AreTold ts trees [] = told trees ts [] h
    in ap length (one_list begins_struct named_at IsNamed named-is_read ts [] [] xs t.list named t.are).0 ∙ t.count
