-- What the readers answer is what the tokens mean.
use Rattle.std.proofs.Common.{◌≡◌, ℕ, zero, suc, ◌-◌, ◌<◌, ◌≤◌, Bool, true, false, cond, List, [], ◌∷◌}
use Rattle.std.proofs.Common.{◌++◌, length, drop, Option, Some, None, Result, Ok, Err, refl, sym, ap, subst}
use Rattle.std.proofs.Common.{◌∙◌, inl, inr, arith, append_assoc, length-append}
use Rattle.std.specs.Prelude.{codes, is_some}
use Rattle.std.specs.Str.{bytes_eq}
use Rattle.std.proofs.lemmas.Option.{same_Some, none-some}
use Rattle.std.proofs.lemmas.List.{drop_at}
use Rattle.std.specs.Prelude.{IfOk, IfErr, take}
use Rattle.std.proofs.Common.{take-append-drop, length-drop}
use Rattle.std.proofs.lemmas.List.{length-map}
use Rattle.tv_lex.specs.Token.{SpecToken, spec_token, spec_tokens}
use Rattle.tv_lex.specs.declared.token.Token.{Token}
use Rattle.tv_model.specs.declared.program.Vocab.{Vocab}
use Rattle.tv_phrases.specs.declared.error.PhraseError.{PhraseError}
use Rattle.tv_phrases.specs.declared.error.PhraseError.TheVariants as phrase
use Rattle.tv_phrases.specs.Reading.{◌>>=◌, choose, Told}
use Rattle.tv_phrases.specs.Tokens.{after, first, word_item, identifier_item}
use Rattle.tv_phrases.specs.Lists.{with_front, items_from, optional_list, optional_brackets, between, name}
use Rattle.tv_structure_form.specs.StructureForm.{StructureForm}
use Rattle.tv_tvs.specs.declared.error.TvsError.{TvsError}
use Rattle.tv_tvs.specs.declared.error.TvsError.TheVariants.{Syntax, IndividualUnknown, IndividualTwice}
use Rattle.tv_tvs.specs.declared.error.TvsError.TheVariants.{NameUnknown, ArityWrong, BadSm}
use Rattle.tv_tvs.specs.declared.error.TvsError.TheVariants.{TooManyIndividuals, Memory}
use Rattle.tv_tvs.specs.Tree.{OneValue, Listed, StructTree}
use Rattle.tv_tvs.specs.Grammar.{value_item, IsSecond, IsItemValue, IsItemTree, IsNextItem, AreItems}
use Rattle.tv_tvs.specs.Grammar.{IsContent, IsEntry, IsOpening, IsStruct, begins_comma, begins_name}
use Rattle.tv_tvs.specs.Reading.{struct_at, text_of_structs}
use Rattle.tv_tvs.specs.Meaning.{struct_meant, structs_meant, MeansStructs, MeansStruct, IsStructuresCause}
use Rattle.tv_tvs.specs.Meaning.{IsCauseOfOne, RefusesStructures, Answers, Refused}
use Rattle.tv_phrases.specs.Repeated.{Repeated}
use Rattle.tv_phrases.proofs.Values.{bind_some, chosen, tested}
use Rattle.tv_tvs.proofs.Sound.{struct_sound, text_sound}
use Rattle.tv_tvs.proofs.Complete.{struct_complete, text_complete, struct_shorter}

-- ---- whole texts

pub structs_read : (vocab : Vocab) (tokens : List SpecToken) (trees : List StructTree) (ss : List StructureForm)
    → text_of_structs tokens ≡ Some trees → structs_meant vocab.preds trees ≡ Ok ss → MeansStructs vocab tokens (Ok ss)
structs_read vocab tokens trees ss read meant = record { trees = trees; are = text_sound tokens trees read; meant = meant }

pub no_text : (vocab : Vocab) (tokens : List SpecToken) (fault : PhraseError) (e : TvsError) → Refused fault e
    → Told fault (text_of_structs tokens ≡ None) → IsStructuresCause vocab tokens e
no_text vocab tokens (phrase.Unexpected at) e refused read =
    subst (IsStructuresCause vocab tokens) (sym refused.1) (λ trees are. none-some trees (sym read ∙ text_complete tokens trees are))
no_text vocab tokens phrase.Memory e refused read = subst (IsStructuresCause vocab tokens) (sym refused) tt

pub text_refused : (vocab : Vocab) (tokens : List SpecToken) (trees : List StructTree) (e : TvsError) → text_of_structs tokens ≡ Some trees
    → RefusesStructures e (structs_meant vocab.preds trees) → IsStructuresCause vocab tokens e
text_refused vocab tokens trees (Syntax place) read meant = absurd meant
text_refused vocab tokens trees IndividualUnknown read meant = record { trees = trees; are = text_sound tokens trees read; meant = meant }
text_refused vocab tokens trees IndividualTwice read meant = record { trees = trees; are = text_sound tokens trees read; meant = meant }
text_refused vocab tokens trees NameUnknown read meant = record { trees = trees; are = text_sound tokens trees read; meant = meant }
text_refused vocab tokens trees ArityWrong read meant = record { trees = trees; are = text_sound tokens trees read; meant = meant }
text_refused vocab tokens trees BadSm read meant = record { trees = trees; are = text_sound tokens trees read; meant = meant }
text_refused vocab tokens trees TooManyIndividuals read meant = record { trees = trees; are = text_sound tokens trees read; meant = meant }
text_refused vocab tokens trees Memory read meant = tt

-- ---- one structure

pub struct_read : (vocab : Vocab) (tokens rest : List SpecToken) (t : StructTree) (s : StructureForm)
    → struct_at tokens ≡ Some (t, rest) → struct_meant vocab.preds t ≡ Ok s → MeansStruct vocab tokens rest (Ok s)
struct_read vocab tokens rest t s read meant = record { tree = t; is = struct_sound tokens (t, rest) read; meant = meant }

pub none_begins : (vocab : Vocab) (tokens : List SpecToken) (fault : PhraseError) (e : TvsError) → Refused fault e
    → Told fault (struct_at tokens ≡ None) → IsCauseOfOne vocab tokens e
none_begins vocab tokens (phrase.Unexpected at) e refused read =
    subst (IsCauseOfOne vocab tokens) (sym refused.1) (λ t rest is. none-some (t, rest) (sym read ∙ struct_complete tokens t rest is))
none_begins vocab tokens phrase.Memory e refused read = subst (IsCauseOfOne vocab tokens) (sym refused) tt

pub struct_refused : (vocab : Vocab) (tokens rest : List SpecToken) (t : StructTree) (e : TvsError) → struct_at tokens ≡ Some (t, rest)
    → RefusesStructures e (struct_meant vocab.preds t) → IsCauseOfOne vocab tokens e
struct_refused vocab tokens rest t (Syntax place) read meant = absurd meant
struct_refused vocab tokens rest t IndividualUnknown read meant = (rest, record { tree = t; is = struct_sound tokens (t, rest) read; meant = meant })
struct_refused vocab tokens rest t IndividualTwice read meant = (rest, record { tree = t; is = struct_sound tokens (t, rest) read; meant = meant })
struct_refused vocab tokens rest t NameUnknown read meant = (rest, record { tree = t; is = struct_sound tokens (t, rest) read; meant = meant })
struct_refused vocab tokens rest t ArityWrong read meant = (rest, record { tree = t; is = struct_sound tokens (t, rest) read; meant = meant })
struct_refused vocab tokens rest t BadSm read meant = (rest, record { tree = t; is = struct_sound tokens (t, rest) read; meant = meant })
struct_refused vocab tokens rest t TooManyIndividuals read meant = (rest, record { tree = t; is = struct_sound tokens (t, rest) read; meant = meant })
struct_refused vocab tokens rest t Memory read meant = tt

-- ---- the tokens behind a structure

-- some tokens stand before these
abbrev pub Ends : List SpecToken → List SpecToken → Type 0
Ends ts us = (front : List SpecToken) × (ts ≡ front ++ us)

ends_same : (ts us : List SpecToken) → us ≡ ts → Ends ts us
ends_same ts us e = ([], sym e)

ends_then : (ts us vs : List SpecToken) → Ends ts us → Ends us vs → Ends ts vs
ends_then ts us vs a b = (a.0 ++ b.0, a.1 ∙ ap (λ ws. a.0 ++ ws) b.1 ∙ sym (append_assoc a.0 b.0 vs))

taken_one : {X : Type 0} (o : Option X) (ts : List SpecToken) (y : X × List SpecToken) → (o >>= λ x. Some (x, ts)) ≡ Some y → y.1 ≡ ts
taken_one {X} None ts y e = absurd cc
taken_one {X} (Some x) ts y e = ap (λ (z : X × List SpecToken). z.1) (sym (same_Some (x, ts) y e))

first_ends : {X : Type 0} (item : SpecToken → Option X) (ts : List SpecToken) (x : X) (us : List SpecToken) → first item ts ≡ Some (x, us) → Ends ts us
unfolding first
first_ends item [] x us e = absurd cc
first_ends item (t ∷ ts) x us e = (t ∷ [], ap (λ ws. t ∷ ws) (sym (taken_one (item t) ts (x, us) e)))

after_ends : (mark : List ℕ) (ts us : List SpecToken) → after mark ts ≡ Some us → Ends ts us
unfolding after
after_ends mark [] us e = absurd cc
after_ends mark (t ∷ ts) us e =
    elim (tested (bytes_eq t.bytes mark) (Some ts) None (Some us) e) [
      | inl h ↦ (t ∷ [], ap (λ ws. t ∷ ws) (same_Some ts us h.1))
      | inr h ↦ absurd cc
    ]

after_is : (t : SpecToken) (ts : List SpecToken) → after (codes ",") (t ∷ ts) ≡ cond (bytes_eq t.bytes (codes ",")) (Some ts) None
unfolding after
after_is t ts = refl

items_from_ends : {X : Type 0} (item : SpecToken → Option X) (b : Bool) (ts : List SpecToken) (y : List X × List SpecToken)
    → items_from item b ts ≡ Some y → Ends ts y.1
unfolding items_from with_front
items_from_ends item true [] y e = absurd cc
items_from_ends {X} item false [] y e = ends_same [] y.1 (ap (λ (z : List X × List SpecToken). z.1) (sym (same_Some ([], []) y e)))
items_from_ends {X} item true (t ∷ ts) y e =
    let a = bind_some (item t) (λ x. with_front (x ∷ []) (items_from item false ts)) y e
    in let b = bind_some (items_from item false ts) (λ more. Some (a.0 ∷ more.0, more.1)) y a.2
    in let same : b.0.1 ≡ y.1 = ap (λ (z : List X × List SpecToken). z.1) (same_Some (a.0 ∷ b.0.0, b.0.1) y b.2)
    in ends_then (t ∷ ts) ts y.1 (t ∷ [], refl) (subst (Ends ts) same (items_from_ends item false ts b.0 b.1))
items_from_ends {X} item false (t ∷ ts) y e =
    elim (tested (bytes_eq t.bytes (codes ",")) (Some ts) None (after (codes ",") (t ∷ ts)) (sym (after_is t ts))) [
      | inl h ↦
          let read : items_from item true ts ≡ Some y = subst (λ o. choose o (Some ([], t ∷ ts)) (λ us. items_from item true ts) ≡ Some y) (sym h.1) e
          in ends_then (t ∷ ts) ts y.1 (t ∷ [], refl) (items_from_ends item true ts y read)
      | inr h ↦
          let read : Some ([], t ∷ ts) ≡ Some y = subst (λ o. choose o (Some ([], t ∷ ts)) (λ us. items_from item true ts) ≡ Some y) (sym h.1) e
          in ends_same (t ∷ ts) y.1 (ap (λ (z : List X × List SpecToken). z.1) (sym (same_Some ([], t ∷ ts) y read)))
    ]

optional_list_ends : {X : Type 0} (item : SpecToken → Option X) (ts : List SpecToken) (y : List X × List SpecToken)
    → optional_list item ts ≡ Some y → Ends ts y.1
unfolding optional_list
optional_list_ends {X} item ts y e =
    elim (tested (is_some (first item ts)) (items_from item true ts) (Some ([], ts)) (Some y) e) [
      | inl h ↦ items_from_ends item true ts y h.1
      | inr h ↦ ends_same ts y.1 (ap (λ (z : List X × List SpecToken). z.1) (sym (same_Some ([], ts) y h.1)))
    ]

brackets_ends : (ts : List SpecToken) (y : List (List ℕ) × List SpecToken) → optional_brackets ts ≡ Some y → Ends ts y.1
unfolding optional_brackets between
brackets_ends ts y e =
    elim (chosen (after (codes "[") ts) (Some ([], ts)) (λ us. after (codes "[") ts >>= λ us. items_from identifier_item true us >>= λ x. after (codes "]") x.1 >>= λ rest. Some (x.0, rest)) (Some y) e) [
      | inl h ↦ ends_same ts y.1 (ap (λ (z : List (List ℕ) × List SpecToken). z.1) (sym (same_Some ([], ts) y h.1)))
      | inr h ↦
          let a = bind_some (after (codes "[") ts) (λ us. items_from identifier_item true us >>= λ x. after (codes "]") x.1 >>= λ rest. Some (x.0, rest)) y h.2
          in let b = bind_some (items_from identifier_item true a.0) (λ x. after (codes "]") x.1 >>= λ rest. Some (x.0, rest)) y a.2
          in let c = bind_some (after (codes "]") b.0.1) (λ rest. Some (b.0.0, rest)) y b.2
          in let same : c.0 ≡ y.1 = ap (λ (z : List (List ℕ) × List SpecToken). z.1) (same_Some (b.0.0, c.0) y c.2)
          in subst (Ends ts) same
          (ends_then ts a.0 c.0 (after_ends (codes "[") ts a.0 a.1) (ends_then a.0 b.0.1 c.0 (items_from_ends identifier_item true a.0 b.0 b.1) (after_ends (codes "]") b.0.1 c.0 c.1)))
    ]

name_ends : (ts : List SpecToken) (n : List ℕ × List (List ℕ)) (us : List SpecToken) → name ts ≡ Some (n, us) → Ends ts us
unfolding name
name_ends ts n us e =
    let a = bind_some (first identifier_item ts) (λ word. optional_brackets word.1 >>= λ brackets. Some ((word.0, brackets.0), brackets.1)) (n, us) e
    in let b = bind_some (optional_brackets a.0.1) (λ brackets. Some ((a.0.0, brackets.0), brackets.1)) (n, us) a.2
    in let same : b.0.1 ≡ us = ap (λ (z : (List ℕ × List (List ℕ)) × List SpecToken). z.1) (same_Some ((a.0.0, b.0.0), b.0.1) (n, us) b.2)
    in ends_then ts a.0.1 us (first_ends identifier_item ts a.0.0 a.0.1 a.1) (subst (Ends a.0.1) same (brackets_ends a.0.1 b.0 b.1))

abbrev EndsAll : {X : Type 0} → (List SpecToken → X → List SpecToken → Type 0) → Type 0
EndsAll {X} Part = (ts : List SpecToken) (x : X) (us : List SpecToken) → Part ts x us → Ends ts us

many_ends : {X : Type 0} (begins : List SpecToken → Bool) (Part : List SpecToken → X → List SpecToken → Type 0) → EndsAll Part
    → (ts : List SpecToken) (xs : List X) (rest : List SpecToken) → Repeated begins Part ts xs rest → Ends ts rest
many_ends begins Part ends ts [] rest m = ends_same ts rest m.1
many_ends begins Part ends ts (x ∷ xs) rest m =
    ends_then ts m.0 rest (ends ts x m.0 m.2) (many_ends begins Part ends m.0 xs rest m.3)

second_ends : EndsAll IsSecond
second_ends ts None us p = ends_same ts us p.1
second_ends ts (Some w) us p = ends_then ts p.0 us (after_ends (codes "->") ts p.0 p.1) (first_ends word_item p.0 w us p.2)

item_value_ends : EndsAll IsItemValue
item_value_ends ts None us p = ends_same ts us p.1
item_value_ends ts (Some k) us p = ends_then ts p.0 us (after_ends (codes ":") ts p.0 p.1) (first_ends value_item p.0 k us p.2)

item_ends : EndsAll IsItemTree
item_ends ts item rest p =
    ends_then ts p.0 rest (first_ends word_item ts item.first p.0 p.2)
    (ends_then p.0 p.1 rest (second_ends p.0 item.second p.1 p.3) (item_value_ends p.1 item.value rest p.4))

next_item_ends : EndsAll IsNextItem
next_item_ends ts item rest p = ends_then ts p.0 rest (after_ends (codes ",") ts p.0 p.1) (item_ends p.0 item rest p.2)

items_ends : EndsAll AreItems
items_ends ts [] rest p = ends_same ts rest p.1
items_ends ts (item ∷ items) rest p =
    ends_then ts p.0 rest (item_ends ts item p.0 p.1) (many_ends begins_comma IsNextItem next_item_ends p.0 items rest p.2)

content_ends : EndsAll IsContent
content_ends ts (OneValue k) rest p = first_ends value_item ts k rest p.1
content_ends ts (Listed items) rest p =
    ends_then ts p.0 rest (after_ends (codes "{") ts p.0 p.2) (ends_then p.0 p.1 rest (items_ends p.0 items p.1 p.3) (after_ends (codes "}") p.1 rest p.4))

entry_ends : EndsAll IsEntry
entry_ends ts entry rest p =
    ends_then ts p.0 rest (name_ends ts entry.name p.0 p.2) (ends_then p.0 p.1 rest (after_ends (codes "=") p.0 p.1 p.3) (content_ends p.1 entry.content rest p.4))

opening_ends : (directive : List ℕ) (ts us : List SpecToken) → IsOpening directive ts us → Ends ts us
opening_ends directive ts us p =
    ends_then ts p.0 us (after_ends directive ts p.0 p.2) (ends_then p.0 p.1 us (after_ends (codes "=") p.0 p.1 p.3) (after_ends (codes "{") p.1 us p.4))

pub struct_ends : EndsAll IsStruct
struct_ends ts t rest p =
    ends_then ts p.individuals rest (opening_ends (codes "%n") ts p.individuals p.opens)
    (ends_then p.individuals p.end rest (optional_list_ends word_item p.individuals (t.individuals, p.end) p.words)
    (ends_then p.end p.middle rest (after_ends (codes "}") p.end p.middle p.closes)
    (ends_then p.middle p.entries rest (opening_ends (codes "%p") p.middle p.entries p.opens_entries)
    (ends_then p.entries p.last rest (many_ends begins_name IsEntry entry_ends p.entries t.entries p.last p.are_entries)
    (after_ends (codes "}") p.last rest p.closes_entries)))))

-- the tokens at the end are those behind as many as are missing
pub behind_is : (ts us : List SpecToken) → Ends ts us → us ≡ drop (length ts - length us) ts
behind_is ts us ends =
    let count : length ends.0 ≡ length ts - length us = omega (arith, ap length ends.1, length-append ends.0 us)
    in sym (drop_at ends.0 us (length ts - length us) count) ∙ ap (drop (length ts - length us)) (sym ends.1)

-- ---- what the calls answer

pub text_answered : (vocab : Vocab) (tokens : List SpecToken) (trees : List StructTree) (r : Result (List StructureForm) TvsError) → text_of_structs tokens ≡ Some trees
    → Answers (λ (ss : List StructureForm). ss) r (structs_meant vocab.preds trees) → IfOk r (λ ss. MeansStructs vocab tokens (Ok ss))
text_answered vocab tokens trees (Ok ss) read meant = structs_read vocab tokens trees ss read meant
text_answered vocab tokens trees (Err e) read meant = tt

pub text_fault : (vocab : Vocab) (tokens : List SpecToken) (trees : List StructTree) (r : Result (List StructureForm) TvsError) → text_of_structs tokens ≡ Some trees
    → Answers (λ (ss : List StructureForm). ss) r (structs_meant vocab.preds trees) → IfErr r (IsStructuresCause vocab tokens)
text_fault vocab tokens trees (Ok ss) read meant = tt
text_fault vocab tokens trees (Err e) read meant = text_refused vocab tokens trees e read meant

drop-map : (bytes : List ℕ) (n : ℕ) (ts : List Token) → spec_tokens bytes (drop n ts) ≡ drop n (spec_tokens bytes ts)
drop-map bytes zero ts = refl
drop-map bytes (suc n) [] = refl
drop-map bytes (suc n) (t ∷ ts) = drop-map bytes n ts

module _ (vocab : Vocab) (bytes : List ℕ) (all here : List Token) (at : ℕ) (here_is : here ≡ drop at all) where
  tokens_here : spec_tokens bytes here ≡ drop at (spec_tokens bytes all)
  tokens_here = ap (spec_tokens bytes) here_is ∙ drop-map bytes at all

  pub none_here : (fault : PhraseError) (e : TvsError) → Refused fault e → Told fault (struct_at (spec_tokens bytes here) ≡ None)
      → IsCauseOfOne vocab (drop at (spec_tokens bytes all)) e
  none_here fault e refused read = subst (λ ts. IsCauseOfOne vocab ts e) tokens_here (none_begins vocab (spec_tokens bytes here) fault e refused read)

  module _ (rest : List Token) (t : StructTree) (read : struct_at (spec_tokens bytes here) ≡ Some (t, spec_tokens bytes rest)) where
    pub refused_here : (e : TvsError) → RefusesStructures e (struct_meant vocab.preds t) → IsCauseOfOne vocab (drop at (spec_tokens bytes all)) e
    refused_here e fails = subst (λ ts. IsCauseOfOne vocab ts e) tokens_here (struct_refused vocab (spec_tokens bytes here) (spec_tokens bytes rest) t e read fails)

    shorter : length rest < length here
    shorter =
        let less = struct_shorter (spec_tokens bytes here) t (spec_tokens bytes rest) (struct_sound (spec_tokens bytes here) (t, spec_tokens bytes rest) read)
        in omega (arith, less, length-map rest (spec_token bytes), length-map here (spec_token bytes))

    here_count : length here ≡ length all - at
    here_count = ap length here_is ∙ length-drop at all

    pub within : length rest ≤ length all
    within = omega (arith, shorter, here_count)

    pub behind_at : at < length all - length rest
    behind_at = omega (arith, shorter, here_count)

    all_ends : Ends (spec_tokens bytes all) (spec_tokens bytes here)
    all_ends = (take at (spec_tokens bytes all), sym (ap (λ us. take at (spec_tokens bytes all) ++ us) tokens_here ∙ take-append-drop at (spec_tokens bytes all)))

    pub read_here : (s : StructureForm) (next : ℕ) → next ≡ length all - length rest → struct_meant vocab.preds t ≡ Ok s
        → MeansStruct vocab (drop at (spec_tokens bytes all)) (drop next (spec_tokens bytes all)) (Ok s)
    read_here s next next_is meant =
        let ends : Ends (spec_tokens bytes all) (spec_tokens bytes rest)
        = ends_then (spec_tokens bytes all) (spec_tokens bytes here) (spec_tokens bytes rest) all_ends
        (struct_ends (spec_tokens bytes here) t (spec_tokens bytes rest) (struct_sound (spec_tokens bytes here) (t, spec_tokens bytes rest) read))
        in let count : length (spec_tokens bytes all) - length (spec_tokens bytes rest) ≡ next
        = ap (λ n. n - length (spec_tokens bytes rest)) (length-map all (spec_token bytes)) ∙ ap (λ n. length all - n) (length-map rest (spec_token bytes)) ∙ sym next_is
        in let rest_is : spec_tokens bytes rest ≡ drop next (spec_tokens bytes all)
        = behind_is (spec_tokens bytes all) (spec_tokens bytes rest) ends ∙ ap (λ n. drop n (spec_tokens bytes all)) count
        in subst (λ ts. MeansStruct vocab ts (drop next (spec_tokens bytes all)) (Ok s)) tokens_here
        (subst (λ us. MeansStruct vocab (spec_tokens bytes here) us (Ok s)) rest_is (struct_read vocab (spec_tokens bytes here) (spec_tokens bytes rest) t s read meant))
