-- What is listed at nodes, and what changes where one node does.
use Rattle.std.proofs.Common.{ℕ, ◌≡◌, ◌≢◌, ◌<◌, ◌≤◌, ◌+◌, ◌⊎◌, inl, inr, List, [], ◌∷◌, ◌++◌, length, get_or}
use Rattle.std.proofs.Common.{set, replicate, refl, sym, ap, subst, ◌∙◌, arith}
use Rattle.std.proofs.lemmas.Bool.{cases_eq, cases_lt}
use Rattle.std.proofs.lemmas.List.{get_or-map, get_or_past, get_or-set_same, get_or-set_other, set-get_or}
use Rattle.std.proofs.lemmas.List.{set-set, get_or_append_left, get_or_push, length_push, get_or-replicate}
use Rattle.std.proofs.lemmas.List.{length-replicate, length-map, length-set, same_lists, get_or_default}
use Rattle.std.proofs.lemmas.Option.{slice_get_within}
use Rattle.tv_model.specs.Program.{ProgramForm}
use Rattle.tv_model.proofs.Lists.{Contains-none}
use Rattle.tv_listing.specs.ListingForm.{at_node}
use Rattle.tv_structure_form.specs.StructureForm.{StructureForm}
use Rattle.tv_join.specs.Members.{MembersForm}
use Rattle.tv_join.proofs.Indexing.{indexed-none}
use Rattle.tv_join.specs.Flags.{key_flags}
use Rattle.tv_join.specs.State.{no_members, members_at, listing_of, IsNode}

-- what the listing has at a node
pub listing-at : (nodes : List MembersForm) (k : ℕ) → at_node (listing_of nodes) k ≡ (members_at nodes k).structures
listing-at nodes k = by (cases_lt k (length nodes))
  where
    by : (k < length nodes) ⊎ (length nodes ≤ k) → at_node (listing_of nodes) k ≡ (members_at nodes k).structures
    by (inl lt) = get_or-map (λ (m : MembersForm). m.structures) nodes k no_members [] lt
    by (inr past) =
        get_or_past (listing_of nodes) k [] (omega (arith, past, length-map nodes (λ (m : MembersForm). m.structures)))
        ∙ sym (ap (λ (m : MembersForm). m.structures) (get_or_past nodes k no_members past))

-- where there is a structure there is a node
pub member-within : (nodes : List MembersForm) (node at : ℕ) → at < length (members_at nodes node).structures
    → node < length nodes
member-within nodes node at within = by (cases_lt node (length nodes))
  where
    by : (node < length nodes) ⊎ (length nodes ≤ node) → node < length nodes
    by (inl lt) = lt
    by (inr past) =
        absurd (omega (arith, within, ap (λ (m : MembersForm). length m.structures) (get_or_past nodes node no_members past)))

pub node-none : (p : ProgramForm) → IsNode p no_members
node-none p = record {
  indexed = indexed-none (key_flags p) no_members refl (λ q. refl);
  plain = λ s has. absurd (Contains-none s has);
  own = λ i j s t at. absurd (omega (arith, slice_get_within [] i s at));
}

-- nodes without structures
pub none-at : (n k : ℕ) → members_at (replicate n no_members) k ≡ no_members
none-at n k = by (cases_lt k n)
  where
    by : (k < n) ⊎ (n ≤ k) → members_at (replicate n no_members) k ≡ no_members
    by (inl lt) = get_or-replicate n k no_members no_members lt
    by (inr past) = get_or_past (replicate n no_members) k no_members (omega (arith, past, length-replicate n no_members))

module _ (nodes : List MembersForm) (k : ℕ) (node : MembersForm) (lt : k < length nodes) where
  pub set-same : members_at (set nodes k node) k ≡ node
  set-same = get_or-set_same nodes k node no_members lt

  pub set-other : (j : ℕ) → j ≢ k → members_at (set nodes k node) j ≡ members_at nodes j
  set-other j apart = get_or-set_other nodes k j node no_members apart

  -- the listing changes at the node
  pub set-listing : listing_of (set nodes k node) ≡ set (listing_of nodes) k node.structures
  set-listing = same_lists (listing_of (set nodes k node)) (set (listing_of nodes) k node.structures)
      (length-map (set nodes k node) structures ∙ length-set nodes k node
      ∙ sym (length-set (listing_of nodes) k node.structures ∙ length-map nodes structures))
      (λ j d within.
      get_or_default (listing_of (set nodes k node)) j d [] within ∙ listing-at (set nodes k node) j ∙ at j (cases_eq j k)
      ∙ get_or_default (set (listing_of nodes) k node.structures) j [] d (omega (
        arith,
        within,
        length-map (set nodes k node) structures,
        length-set nodes k node,
        length-set (listing_of nodes) k node.structures,
        length-map nodes structures,
      )))
    where
      structures : MembersForm → List StructureForm
      structures m = m.structures

      at : (j : ℕ) → (j ≡ k) ⊎ (j ≢ k)
          → (members_at (set nodes k node) j).structures ≡ get_or (set (listing_of nodes) k node.structures) j []
      at j (inl same) =
          ap (λ n. (members_at (set nodes k node) n).structures) same ∙ ap structures set-same
          ∙ sym (ap (λ n. get_or (set (listing_of nodes) k node.structures) n []) same
          ∙ get_or-set_same (listing_of nodes) k node.structures [] (omega (arith, lt, length-map nodes structures)))
      at j (inr apart) =
          ap structures (set-other j apart) ∙ sym (listing-at nodes j)
          ∙ sym (get_or-set_other (listing_of nodes) k j node.structures [] apart)

-- ---- nodes are listed, one after the other

-- the first nodes are listed, and the others have nothing
pub record AreFilled (nodes : List MembersForm) (n count : ℕ) (listing : List (List StructureForm)) : Type 0 where
  pub long : length listing ≡ count
  pub number : n ≡ length nodes
  pub done : (k : ℕ) → k < n → at_node listing k ≡ (members_at nodes k).structures
  pub left : (k : ℕ) → n ≤ k → at_node listing k ≡ []

pub filled-none : (count : ℕ) (listing : List (List StructureForm)) → listing ≡ replicate count [] → AreFilled [] 0 count listing
filled-none count listing e = record {
  long = ap length e ∙ length-replicate {A = List StructureForm} count [];
  number = refl;
  done = λ k lt. absurd (omega (arith, lt));
  left = λ k le. ap (λ l. at_node l k) e ∙ by k (cases_lt k count);
}
  where
    by : (k : ℕ) → (k < count) ⊎ (count ≤ k) → at_node (replicate count []) k ≡ []
    by k (inl lt) = get_or-replicate count k [] [] lt
    by k (inr past) = get_or_past (replicate count []) k [] (omega (arith, past, length-replicate {A = List StructureForm} count []))

pub filled-next : (nodes : List MembersForm) (n count : ℕ) (listing new : List (List StructureForm)) (m : MembersForm)
    → AreFilled nodes n count listing → n < count → new ≡ set listing n m.structures
    → AreFilled (nodes ++ m ∷ []) (n + 1) count new
filled-next nodes n count listing new m are lt e = record {
  long = ap length e ∙ length-set listing n m.structures ∙ are.long;
  number = omega (arith, are.number, length_push nodes m);
  done = λ k less. done k less (cases_lt k n);
  left = λ k le.
      ap (λ l. at_node l k) e ∙ get_or-set_other listing n k m.structures [] (λ same. omega (arith, same, le))
      ∙ are.left k (omega (arith, le));
}
  where
    done : (k : ℕ) → k < n + 1 → (k < n) ⊎ (n ≤ k) → at_node new k ≡ (members_at (nodes ++ m ∷ []) k).structures
    done k less (inl before) =
        ap (λ l. at_node l k) e ∙ get_or-set_other listing n k m.structures [] (λ same. omega (arith, same, before))
        ∙ are.done k before
        ∙ sym (ap (λ (x : MembersForm). x.structures) (get_or_append_left nodes (m ∷ []) no_members k (omega (arith, before, are.number))))
    done k less (inr past) =
        let last : n ≡ k = omega (arith, less, past)
        in subst (λ i. at_node new i ≡ (members_at (nodes ++ m ∷ []) i).structures) last
        (ap (λ l. at_node l n) e ∙ get_or-set_same listing n m.structures [] (omega (arith, lt, are.long))
        ∙ sym (ap (λ (x : MembersForm). x.structures) (get_or_push nodes m no_members n (sym are.number))))

pub filled-all : (nodes : List MembersForm) (n count : ℕ) (listing : List (List StructureForm)) → AreFilled nodes n count listing
    → (k : ℕ) → at_node listing k ≡ (members_at nodes k).structures
filled-all nodes n count listing are k = by (cases_lt k n)
  where
    by : (k < n) ⊎ (n ≤ k) → at_node listing k ≡ (members_at nodes k).structures
    by (inl lt) = are.done k lt
    by (inr past) =
        are.left k past
        ∙ sym (ap (λ (x : MembersForm). x.structures) (get_or_past nodes k no_members (omega (arith, past, are.number))))

-- a listing that has at each node what is listed there
pub listing-same : (nodes : List MembersForm) (listing : List (List StructureForm)) → length listing ≡ length nodes
    → ((k : ℕ) → at_node listing k ≡ (members_at nodes k).structures) → listing ≡ listing_of nodes
listing-same nodes listing count each =
    same_lists listing (listing_of nodes) (count ∙ sym (length-map nodes (λ (m : MembersForm). m.structures)))
    (λ k d lt. get_or_default listing k d [] lt ∙ each k ∙ sym (listing-at nodes k)
    ∙ get_or_default (listing_of nodes) k [] d (omega (arith, lt, count, length-map nodes (λ (m : MembersForm). m.structures))))

-- ---- structures are put at a node, one after the other

pub push-start : (listing : List (List StructureForm)) (node : ℕ) → at_node listing node ≡ [] → listing ≡ set listing node []
push-start listing node none = sym (set-get_or listing node []) ∙ ap (set listing node) none

pub push-next : (first listing new : List (List StructureForm)) (node : ℕ) (structures : List StructureForm) (s : StructureForm)
    → node < length first → listing ≡ set first node structures → new ≡ set listing node (at_node listing node ++ s ∷ [])
    → new ≡ set first node (structures ++ s ∷ [])
push-next first listing new node structures s lt is e =
    e ∙ ap (λ l. set l node (at_node l node ++ s ∷ [])) is
    ∙ ap (λ xs. set (set first node structures) node (xs ++ s ∷ [])) (get_or-set_same first node structures [] lt)
    ∙ set-set first node structures (structures ++ s ∷ [])
