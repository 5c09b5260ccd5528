-- Nodes that are listed one after the other.
use Rattle.std.proofs.Common.{◌≡◌, ◌≢◌, ℕ, suc, ◌+◌, ◌-◌, ◌<◌, ◌≤◌, List, [], ◌∷◌, ◌++◌, length, map, get_or}
use Rattle.std.proofs.Common.{set, replicate, Option, Some, None, refl, sym, ap, ◌∙◌, subst, ◌⊎◌, inl, inr}
use Rattle.std.proofs.Common.{arith, append_assoc}
use Rattle.std.specs.Prelude.{All, AllPairs, Contains, slice_get}
use Rattle.std.proofs.lemmas.Bool.{cases_eq, cases_lt}
use Rattle.std.proofs.lemmas.List.{map_push, length-map, length-append, length_push, get_or_at, get_or-map}
use Rattle.std.proofs.lemmas.List.{get_or-set_same, get_or-set_other, get_or-replicate, set-set, length-set}
use Rattle.std.proofs.lemmas.List.{set-get_or, append-nil, length-replicate, ext_get_or}
use Rattle.std.proofs.lemmas.List.Elements.{All-push, Contains-append_left, Contains-append_right}
use Rattle.std.proofs.lemmas.Option.{same_Some, slice_get_within, slice_get-get_or, get_or_from_slice_get}
use Rattle.tv_lex.specs.Token.{SpecToken}
use Rattle.tv_listing.specs.ListingForm.{at_node, appended}
use Rattle.tv_model.specs.declared.program.Program.{Program}
use Rattle.tv_model.specs.declared.program.Vocab.{Vocab}
use Rattle.tv_phrases.specs.Reading.{taken, ◌>>=◌, Told}
use Rattle.tv_phrases.specs.declared.error.PhraseError.{PhraseError}
use Rattle.tv_phrases.specs.declared.error.PhraseError.TheVariants.{Unexpected, Memory}
use Rattle.tv_structure_form.specs.StructureForm.{StructureForm}
use Rattle.tv_tvs.specs.Reading.{structure_at}
use Rattle.tv_tvs.specs.Targets.{IsRead}
use Rattle.tv_report.specs.Meaning.{NamedNode, ListsNodes, node_name}
use Rattle.tv_report.specs.Nodes.{AreRead, IsPut, CannotPut}
use Rattle.tv_report.specs.Reading.{structures_at}
use Rattle.tv_report.proofs.OnceLaws.{goes_once, goes_keys, breaks_once, contains_or}

-- ---- the structures of one node

-- `before` is what i of the structures are, and the others begin at `rest`
pub record SoMany (vocab : Vocab) (before : List StructureForm) (count i : ℕ) (rest : List SpecToken) (total : Option (List StructureForm)) : Type 0 where
  pub same : total ≡ (structures_at vocab (count - i) rest >>= λ ss. Some (before ++ ss))
  pub read : All (IsRead vocab) before
  pub some : length before ≡ i

pub none_yet : (vocab : Vocab) (before : List StructureForm) (count : ℕ) (rest : List SpecToken) → before ≡ []
    → SoMany vocab before count 0 rest (structures_at vocab count rest)
none_yet vocab before count rest none = record {
  same = at (structures_at vocab count rest) ∙ ap (λ k. structures_at vocab k rest >>= λ ss. Some ([] ++ ss)) (whole count) ∙ ap (λ bs. structures_at vocab (count - 0) rest >>= λ ss. Some (bs ++ ss)) (sym none);
  read = subst (All (IsRead vocab)) (sym none) (λ k d lt. absurd (omega (arith, lt)));
  some = ap length none;
}
  where
    at : (read : Option (List StructureForm)) → read ≡ (read >>= λ ss. Some ([] ++ ss))
    at None = refl
    at (Some ss) = refl

    whole : (n : ℕ) → n ≡ n - 0
    whole n = omega arith

left_over : (count i : ℕ) → i < count → count - i ≡ suc (count - (i + 1))
left_over count i lt = omega (arith, lt)

step_more : (vocab : Vocab) (before : List StructureForm) (n : ℕ) (rest behind : List SpecToken) (s : StructureForm) → structure_at vocab rest ≡ taken s behind
    → (structures_at vocab (suc n) rest >>= λ ss. Some (before ++ ss)) ≡ (structures_at vocab n behind >>= λ ss. Some ((before ++ s ∷ []) ++ ss))
unfolding structures_at
step_more vocab before n rest behind s is = rw is (at (structures_at vocab n behind))
  where
    at : (read : Option (List StructureForm))
        → ((read >>= λ ss. Some (s ∷ ss)) >>= λ ss. Some (before ++ ss)) ≡ (read >>= λ ss. Some ((before ++ s ∷ []) ++ ss))
    at None = refl
    at (Some ss) = ap Some (sym (append_assoc before (s ∷ []) ss))

step_none : (vocab : Vocab) (before : List StructureForm) (n : ℕ) (rest : List SpecToken) → structure_at vocab rest ≡ None
    → (structures_at vocab (suc n) rest >>= λ ss. Some (before ++ ss)) ≡ None
unfolding structures_at
step_none vocab before n rest is = rw is refl

step_end : (vocab : Vocab) (before : List StructureForm) (rest : List SpecToken) → (structures_at vocab 0 rest >>= λ ss. Some (before ++ ss)) ≡ Some before
unfolding structures_at
step_end vocab before rest = ap Some (append-nil before)

module _ {vocab : Vocab} {before : List StructureForm} {count i : ℕ} {rest : List SpecToken} {total : Option (List StructureForm)} where
  pub one_read : {s : StructureForm} {behind : List SpecToken} → SoMany vocab before count i rest total → i < count → structure_at vocab rest ≡ taken s behind
      → IsRead vocab s → SoMany vocab (before ++ s ∷ []) count (i + 1) behind total
  one_read {s} {behind} so_many lt is read = record {
    same = so_many.same ∙ ap (λ k. structures_at vocab k rest >>= λ ss. Some (before ++ ss)) (left_over count i lt) ∙ step_more vocab before (count - (i + 1)) rest behind s is;
    read = All-push (IsRead vocab) before s so_many.read read;
    some = length_push before s ∙ ap (λ k. k + 1) so_many.some;
  }

  pub one_refused : (e : PhraseError) → SoMany vocab before count i rest total → i < count → Told e (structure_at vocab rest ≡ None) → Told e (total ≡ None)
  one_refused Memory so_many lt is = tt
  one_refused (Unexpected at) so_many lt is =
      so_many.same ∙ ap (λ k. structures_at vocab k rest >>= λ ss. Some (before ++ ss)) (left_over count i lt) ∙ step_none vocab before (count - (i + 1)) rest is

  pub all_read : SoMany vocab before count i rest total → count ≤ i → total ≡ Some before
  all_read so_many le =
      let none : count - i ≡ 0 = omega (arith, le)
      in so_many.same ∙ ap (λ k. structures_at vocab k rest >>= λ ss. Some (before ++ ss)) none ∙ step_end vocab before rest

-- ---- structures that are put behind those of a node

pub put_more : (old new more : List (List StructureForm)) (node : ℕ) (put : List StructureForm) (s : StructureForm) → node < length old
    → new ≡ set old node (at_node old node ++ put) → more ≡ appended new node s → more ≡ set old node (at_node old node ++ (put ++ s ∷ []))
put_more old new more node put s lt so_far is =
    let there : at_node new node ≡ at_node old node ++ put
    = ap (λ l. at_node l node) so_far ∙ get_or-set_same old node (at_node old node ++ put) [] lt
    in is ∙ ap (λ ss. set new node (ss ++ s ∷ [])) there ∙ ap (λ l. set l node ((at_node old node ++ put) ++ s ∷ [])) so_far
    ∙ set-set old node (at_node old node ++ put) ((at_node old node ++ put) ++ s ∷ []) ∙ ap (set old node) (append_assoc (at_node old node) put (s ∷ []))

pub put_none : (old : List (List StructureForm)) (node : ℕ) (put : List StructureForm) → put ≡ [] → old ≡ set old node (at_node old node ++ put)
put_none old node put none =
    sym (set-get_or old node []) ∙ ap (set old node) (sym (append-nil (at_node old node)) ∙ ap (λ ss. at_node old node ++ ss) (sym none))

-- ---- the nodes

-- names that differ stand at one place each
pub one_place : (names : List (List ℕ)) (i j : ℕ) (name : List ℕ) → AllPairs ◌≢◌ names → slice_get names i ≡ Some name → slice_get names j ≡ Some name → i ≡ j
one_place names i j name differ a b = at (cases_eq i j)
  where
    in_i : i < length names
    in_i = slice_get_within names i name a

    in_j : j < length names
    in_j = slice_get_within names j name b

    at_i : get_or names i name ≡ name
    at_i = get_or_from_slice_get names i name name a

    at_j : get_or names j name ≡ name
    at_j = get_or_from_slice_get names j name name b

    order : (i ≡ j → ⊥) → (i < j) ⊎ (j < i)
    order ne = elim (cases_lt i j) [ inl lt ↦ inl lt | inr le ↦ inr (omega (arith, le, ne)) ]

    at : (i ≡ j) ⊎ (i ≡ j → ⊥) → i ≡ j
    at (inl e) = e
    at (inr ne) = elim (order ne) [
      | inl lt ↦ absurd (differ i j name lt in_j (at_i ∙ sym at_j))
      | inr lt ↦ absurd (differ j i name lt in_i (at_j ∙ sym at_i))
    ]

pub no_nodes : (program : Program) (listing : List (List StructureForm)) (n : ℕ) → n ≡ length program.nodes → listing ≡ replicate n []
    → ListsNodes program [] listing
no_nodes program listing n count is = record {
  names = (λ k d lt. absurd (omega (arith, lt)), λ i j d less lt. absurd (omega (arith, less, lt)));
  count = ap length is ∙ length-replicate n [] ∙ count;
  named = λ number k d lt. absurd (omega (arith, lt));
  others = λ number name at apart.
      let lt : number < n = let l = slice_get_within program.nodes number name at in omega (arith, l, count)
      in ap (λ l. at_node l number) is ∙ get_or-replicate n number [] [] lt;
}

module _ (program : Program) (differ : AllPairs ◌≢◌ program.nodes) (nodes : List NamedNode) (node : NamedNode) (old new : List (List ℕ)) (before after : List (List StructureForm)) (seen : old ≡ map node_name nodes) (listed : ListsNodes program nodes before) (put : IsPut program.nodes old new before after node) where
  abbrev Known : NamedNode → Type 0
  Known n = Contains program.nodes n.name

  apart : ¬ Contains (map node_name nodes) node.name
  apart = subst (λ ns. ¬ Contains ns node.name) seen put.goes_on.1.0

  empty : at_node before put.number ≡ []
  empty = listed.others put.number node.name put.found apart

  within : put.number < length before
  within = let l = slice_get_within program.nodes put.number node.name put.found in let c = listed.count in omega (arith, l, c)

  here : at_node after put.number ≡ put.structures
  here = ap (λ l. at_node l put.number) put.put ∙ get_or-set_same before put.number (at_node before put.number ++ put.structures) [] within
      ∙ ap (λ ss. ss ++ put.structures) empty

  elsewhere : (number : ℕ) → number ≢ put.number → at_node after number ≡ at_node before number
  elsewhere number ne = ap (λ l. at_node l number) put.put ∙ get_or-set_other before put.number number (at_node before put.number ++ put.structures) [] ne

  abbrev Means : ℕ → NamedNode → Type 0
  Means number n = slice_get program.nodes number ≡ Some n.name → n.structures ≡ Some (at_node after number)

  kept : (number : ℕ) → All (Means number) nodes
  kept number k d lt at =
      let named = listed.named number k d lt at
      in let other : number ≢ put.number = λ e.
      let name : (get_or nodes k d).name ≡ node.name = same_Some (get_or nodes k d).name node.name (sym at ∙ ap (slice_get program.nodes) e ∙ put.found)
      in apart (k, rw (length-map nodes node_name) lt, get_or-map node_name nodes k d node.name lt ∙ name)
      in named ∙ ap Some (sym (elsewhere number other))

  added : (number : ℕ) → Means number node
  added number at =
      let same : number ≡ put.number = one_place program.nodes number put.number node.name differ at put.found
      in put.meant ∙ ap Some (sym here ∙ ap (at_node after) (sym same))

  pub listed_more : ListsNodes program (nodes ++ node ∷ []) after
  listed_more = record {
    names = goes_once Known node_name nodes node old new listed.names seen put.goes_on;
    count = ap length put.put ∙ length-set before put.number (at_node before put.number ++ put.structures) ∙ listed.count;
    named = λ number. All-push (Means number) nodes node (kept number) (added number);
    others = λ number name at gone.
        let in_old : ¬ Contains (map node_name nodes) name
        = λ has. gone (subst (λ ns. Contains ns name) (sym (map_push node_name nodes node)) (Contains-append_left (map node_name nodes) (node.name ∷ []) name has))
        in let other : number ≢ put.number = λ e.
        let same : name ≡ node.name = same_Some name node.name (sym at ∙ ap (slice_get program.nodes) e ∙ put.found)
        in gone (subst (λ ns. Contains ns name) (sym (map_push node_name nodes node)) (Contains-append_right (map node_name nodes) (node.name ∷ []) name (0, omega arith, sym same)))
        in elsewhere number other ∙ listed.others number name at in_old;
  }

  pub seen_more : new ≡ map node_name (nodes ++ node ∷ [])
  seen_more = goes_keys Known node_name nodes node old new seen put.goes_on

-- no structures are what is read
pub kept_none : (vocab : Vocab) (listing : List (List StructureForm)) (n : ℕ) → listing ≡ replicate n [] → All (AreRead vocab) listing
kept_none vocab listing n is = subst (All (AreRead vocab)) (sym is) each
  where
    none : List StructureForm
    none = []

    each : All (AreRead vocab) (replicate n [])
    each k d lt =
        let count = length-replicate n none
        in let few : k < n = omega (arith, lt, count)
        in subst (AreRead vocab) (sym (get_or-replicate n k none d few)) ((λ i e less. absurd (omega (arith, less))), omega arith)

-- a node that can't be put
pub cannot_list : (program : Program) (all before after : List NamedNode) (node : NamedNode) (old : List (List ℕ)) → all ≡ before ++ node ∷ after
    → old ≡ map node_name before → CannotPut program.nodes old node → (listing : List (List StructureForm)) → ¬ ListsNodes program all listing
cannot_list program all before after node old whole seen (inl broken) listing listed =
    breaks_once (λ n. Contains program.nodes n.name) node_name all before after node old whole seen broken listed.names
cannot_list program all before after node old whole seen (inr none) listing listed =
    let lt : length before < length all = rw (whole, length-append before (node ∷ after)) (omega arith)
    in let is : get_or all (length before) node ≡ node = ap (λ ns. get_or ns (length before) node) whole ∙ get_or_at before node after node (length before) refl
    in let has : Contains program.nodes node.name = subst (λ (n : NamedNode). Contains program.nodes n.name) is (listed.names.0 (length before) node lt)
    in let at : slice_get program.nodes has.0 ≡ Some node.name = slice_get-get_or program.nodes has.0 node.name has.1 ∙ ap Some has.2
    in let meant : node.structures ≡ Some (at_node listing has.0)
    = subst (λ (n : NamedNode). slice_get program.nodes has.0 ≡ Some n.name → n.structures ≡ Some (at_node listing has.0)) is (listed.named has.0 (length before) node lt) at
    in absurd (none_some (at_node listing has.0) (sym none ∙ meant))
  where
    none_some : (ss : List StructureForm) → None ≡ Some ss → ⊥
    none_some ss e = cc

-- ---- one listing

nameless : NamedNode
nameless = record { name = []; structures = None }

pub same_listing : (program : Program) (nodes : List NamedNode) (l m : List (List StructureForm)) → ListsNodes program nodes l → ListsNodes program nodes m → l ≡ m
same_listing program nodes l m a b =
    ext_get_or [] l m (a.count ∙ sym b.count) (λ number lt. at number lt (contains_or (map node_name nodes) (get_or program.nodes number [])))
  where
    there : (number : ℕ) → number < length l → slice_get program.nodes number ≡ Some (get_or program.nodes number [])
    there number lt = let c = a.count in slice_get-get_or program.nodes number [] (omega (arith, lt, c))

    at : (number : ℕ) → number < length l
        → Contains (map node_name nodes) (get_or program.nodes number []) ⊎ (¬ Contains (map node_name nodes) (get_or program.nodes number []))
        → at_node l number ≡ at_node m number
    at number lt (inl (k, within, is)) =
        let few : k < length nodes = let e = length-map nodes node_name in omega (arith, within, e)
        in let name : get_or program.nodes number [] ≡ (get_or nodes k nameless).name
        = sym is ∙ get_or-map node_name nodes k nameless (get_or program.nodes number []) few
        in let named : slice_get program.nodes number ≡ Some (get_or nodes k nameless).name = there number lt ∙ ap Some name
        in same_Some (at_node l number) (at_node m number) (sym (a.named number k nameless few named) ∙ b.named number k nameless few named)
    at number lt (inr gone) =
        a.others number (get_or program.nodes number []) (there number lt) gone
        ∙ sym (b.others number (get_or program.nodes number []) (there number lt) gone)
