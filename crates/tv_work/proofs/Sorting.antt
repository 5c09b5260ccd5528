-- What is known of a listing is known of it in order.
use Rattle.std.proofs.Common.{ℕ, ◌≡◌, ◌<◌, ◌≤◌, ◌⊎◌, inl, inr, List, [], length, get_or, map, sym, ap, subst}
use Rattle.std.proofs.Common.{◌∙◌, arith}
use Rattle.std.specs.Prelude.{All, Contains, sum_by, sum}
use Rattle.std.specs.List.Sorted.{IsStrictlySortedBy}
use Rattle.std.proofs.lemmas.Bool.{cases_lt}
use Rattle.std.proofs.lemmas.List.{get_or-map, get_or_past, get_or_default, length-map, same_lists}
use Rattle.std.proofs.lemmas.List.Elements.{All-weaker}
use Rattle.std.proofs.lemmas.List.Sums.{sum-map}
use Rattle.std.proofs.lemmas.List.Sorted.{Contains-permutation, IsPermutation-sym, length_permutation}
use Rattle.tv_kleene.specs.declared.K3.{K3}
use Rattle.tv_model.specs.declared.program.Program.{Program}
use Rattle.tv_model.specs.Program.{program_of}
use Rattle.tv_model.proofs.Lists.{All-from_contains, Contains-none}
use Rattle.tv_listing.specs.ListingForm.{at_node, AreSorted}
use Rattle.tv_struct.specs.Order.{structure_cmp}
use Rattle.tv_structure_form.specs.StructureForm.{StructureForm, IsStructure, IsOver}
use Rattle.tv_step_laws.specs.Shaped.{IsShaped}
use Rattle.tv_step_laws.proofs.Shapes.{shaped-over}
use Rattle.tv_work.specs.Explored.{IsExplored, IsOpenedIn, KeepsListed}
use Rattle.tv_work.specs.Reach.{Point, IsListed}
use Rattle.tv_work.specs.Search.{IsOnce}
use Rattle.tv_work.specs.Task.{TaskForm}
use Rattle.tv_work.proofs.Advancing.{done-kept, opened-kept, rises-none}
use Rattle.tv_work.proofs.Once.{once-none, once-permuted, once-strict}
use Rattle.tv_work.proofs.Saying.{said-kept}

-- what is listed is listed at a node
pub listed-within : (listing : List (List StructureForm)) (x : Point) → IsListed listing x
    → x.node < length listing
listed-within listing x has = by (cases_lt x.node (length listing))
  where
    by : (x.node < length listing) ⊎ (length listing ≤ x.node) → x.node < length listing
    by (inl lt) = lt
    by (inr past) = absurd
        (Contains-none x.structure (subst (λ l. Contains l x.structure) (get_or_past listing x.node [] past)
        has))

-- structures over the program that are listed are over its vocabulary
pub all-over : (program : Program) (t : TaskForm) (listing : List (List StructureForm))
    → t.program ≡ program_of program
    → ((x : Point) → IsListed listing x → IsStructure x.structure × IsShaped t.program x.structure)
    → All (All (λ s. IsStructure s × IsOver program.vocab s)) listing
all-over program t listing is shaped k d within =
    subst (All (λ s. IsStructure s × IsOver program.vocab s)) (get_or_default listing k [] d within)
    (All-from_contains (λ s. IsStructure s × IsOver program.vocab s) (at_node listing k) at)
  where
    at : (s : StructureForm) → Contains (at_node listing k) s → IsStructure s × IsOver program.vocab s
    at s has =
        let known = shaped (record { node = k; structure = s }) has
        in (known.0, shaped-over program s (subst (λ p. IsShaped p s) is known.1))

module _ (old new : List (List StructureForm)) (sorted : AreSorted old new) where
  pub sorted-keeps : KeepsListed old new
  sorted-keeps x has = Contains-permutation (at_node old x.node) (at_node new x.node) x.structure
      (sorted.each x.node (listed-within old x has)).same has

  pub sorted-only : KeepsListed new old
  sorted-only x has =
      let within : x.node < length old = omega (arith, listed-within new x has, sorted.nodes)
      in Contains-permutation (at_node new x.node) (at_node old x.node) x.structure
      (IsPermutation-sym (at_node old x.node) (at_node new x.node) (sorted.each x.node within).same) has

  -- as many at each node
  same-lengths : map length new ≡ map length old
  same-lengths = same_lists (map length new) (map length old)
      (length-map new length ∙ sorted.nodes ∙ sym (length-map old length)) at
    where
      at : (k d : ℕ) → k < length (map length new) → get_or (map length new) k d ≡ get_or (map length old) k d
      at k d lt =
          let in-new : k < length new = omega (arith, lt, length-map new length)
          in let in-old : k < length old = omega (arith, in-new, sorted.nodes)
          in get_or-map length new k [] d in-new
          ∙ length_permutation (at_node old k) (at_node new k) (sorted.each k in-old).same
          ∙ sym (get_or-map length old k [] d in-old)

  pub same-total : sum_by length new ≡ sum_by length old
  same-total = sym (sum-map length new) ∙ ap sum same-lengths ∙ sum-map length old

  sorted-once : ((node : ℕ) → IsOnce (at_node old node)) → (node : ℕ) → IsOnce (at_node new node)
  sorted-once once node = by (cases_lt node (length old))
    where
      by : (node < length old) ⊎ (length old ≤ node) → IsOnce (at_node new node)
      by (inl lt) = once-permuted (at_node old node) (at_node new node) (sorted.each node lt).same (once node)
      by (inr past) = subst IsOnce (sym (get_or_past new node [] (omega (arith, past, sorted.nodes))))
          once-none

  pub sorted-strict : ((node : ℕ) → IsOnce (at_node old node)) → All (IsStrictlySortedBy structure_cmp) new
  sorted-strict once k d within =
      subst (IsStrictlySortedBy structure_cmp) (get_or_default new k [] d within)
      (once-strict (at_node new k) (sorted.each k (omega (arith, within, sorted.nodes))).ascending
      (sorted-once once k))

  pub sorted-explored : (t : TaskForm) (told : List (List K3)) → IsExplored t old told → IsExplored t new told
  sorted-explored t told ex = record {
    nodes = sorted.nodes ∙ ex.nodes;
    once = sorted-once ex.once;
    within = omega (arith, same-total, ex.within);
    reached = λ x has. ex.reached x (sorted-only x has);
    settled = λ x has. ex.settled x (sorted-only x has);
    opened = All-weaker (IsOpenedIn t old) (IsOpenedIn t new) (opened-kept t old new sorted-keeps) t.initial
        ex.opened;
    said = said-kept t old new told sorted-keeps ex.said;
    done = λ x has. done-kept t old new told told sorted-keeps (rises-none told) x
        (ex.done x (sorted-only x has));
  }
