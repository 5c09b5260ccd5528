-- The edges of which losses are told, one after the other.
use Rattle.std.proofs.Common.{ℕ, ◌≡◌, ◌≢◌, ◌∙◌, ◌<◌, ◌+◌, ◌⊎◌, inl, inr, List, [], ◌∷◌, ◌++◌, Option, None}
use Rattle.std.proofs.Common.{Some, length, get_or}
use Rattle.std.proofs.Common.{refl, sym, subst, arith, All, Contains, slice_get}
use Rattle.std.specs.Prelude.{AllPairs, Any, IfSome, IfNone}
use Rattle.std.proofs.lemmas.List.{append-nil}
use Rattle.std.proofs.lemmas.Bool.{cases_eq}
use Rattle.std.proofs.lemmas.List.Elements.{All-append, All-cons, All-nil, Contains-append_left}
use Rattle.std.proofs.lemmas.List.Elements.{Contains-push}
use Rattle.std.proofs.lemmas.List.Quantifiers.{all_pairs_push}
use Rattle.tv_listing.specs.ListingForm.{at_node}
use Rattle.tv_model.specs.declared.program.Edge.{Edge}
use Rattle.tv_model.specs.declared.program.Mode.{Mode}
use Rattle.tv_model.specs.Program.{ProgramForm}
use Rattle.tv_model.proofs.Lists.{Contains-none}
use Rattle.tv_structure_form.specs.StructureForm.{StructureForm}
use Rattle.tv_losses.specs.Losses.{AreExactly, IsLostAt, IsEdgeLoss, AreEdgeLosses}
use Rattle.tv_losses.specs.Tasks.{Tells, list_of}
use Rattle.tv_losses.specs.declared.told.EdgeLoss.{EdgeLoss}

-- one of these is told of the edge
abbrev pub IsTold : List EdgeLoss → (edge : ℕ) → Type 0
IsTold losses edge = Any (λ loss. loss.edge ≡ edge) losses

-- the edges below n, along which a structure is lost
pub record AreTold (p : ProgramForm) (mode : Mode) (listing : List (List StructureForm)) (n : ℕ)
    (losses : List EdgeLoss) : Type 0 where
  pub each : All (IsEdgeLoss p mode listing) losses
  pub all : (edge place : ℕ) (taken : Edge) → edge < n → slice_get p.edges edge ≡ Some taken
      → IsLostAt p mode edge (at_node listing taken.from) place → IsTold losses edge
  pub below : All (λ loss. loss.edge < n) losses
  pub ordered : AllPairs (λ a b. a.edge < b.edge) losses

any-left : (losses : List EdgeLoss) (loss : EdgeLoss) (edge : ℕ) → IsTold losses edge
    → IsTold (losses ++ loss ∷ []) edge
any-left losses loss edge (k, own, lt, is, e) =
    let there = Contains-append_left losses (loss ∷ []) own (k, lt, is) in (there.0, own, there.1, there.2, e)

any-last : (losses : List EdgeLoss) (loss : EdgeLoss) → IsTold (losses ++ loss ∷ []) loss.edge
any-last losses loss =
    let there = Contains-push losses loss in (there.0, loss, there.1, there.2, refl)

module _ (p : ProgramForm) (mode : Mode) (listing : List (List StructureForm)) where
  pub told-none : AreTold p mode listing 0 []
  told-none = record {
    each = All-nil (IsEdgeLoss p mode listing);
    all = λ edge place taken lt is lost. absurd (omega (arith, lt));
    below = All-nil (λ loss. loss.edge < 0);
    ordered = λ i j d before within. absurd (omega (arith, within));
  }

  pub none-told : (losses : List EdgeLoss) → losses ≡ [] → AreTold p mode listing 0 losses
  none-told losses none = subst (AreTold p mode listing 0) (sym none) told-none

  module _ (n : ℕ) (taken : Edge) (is_edge : slice_get p.edges n ≡ Some taken) (places : List ℕ)
      (are : AreExactly (IsLostAt p mode n (at_node listing taken.from)) places)
      (losses : List EdgeLoss) (told : AreTold p mode listing n losses) where
    same-edge : (other : Edge) → slice_get p.edges n ≡ Some other → other ≡ taken
    same-edge other is = let e : Some other ≡ Some taken = sym is ∙ is_edge in cc

    -- nothing is lost along it
    pub told-less : places ≡ [] → AreTold p mode listing (n + 1) losses
    told-less none = record {
      each = told.each;
      all = all;
      below = λ k d lt. let before : (get_or losses k d).edge < n = told.below k d lt in omega (arith, before);
      ordered = told.ordered;
    }
      where
        all : (edge place : ℕ) (other : Edge) → edge < n + 1 → slice_get p.edges edge ≡ Some other
            → IsLostAt p mode edge (at_node listing other.from) place → IsTold losses edge
        all edge place other lt is lost = by (cases_eq edge n)
          where
            by : (edge ≡ n) ⊎ (edge ≢ n) → IsTold losses edge
            by (inr differs) = told.all edge place other (omega (arith, lt, differs)) is lost
            by (inl e) =
                let at_n : slice_get p.edges n ≡ Some other
                = subst (λ k. slice_get p.edges k ≡ Some other) e is
                in let own : IsLostAt p mode n (at_node listing taken.from) place
                = subst (λ (w : Edge). IsLostAt p mode n (at_node listing w.from) place) (same-edge other at_n)
                (subst (λ k. IsLostAt p mode k (at_node listing other.from) place) e lost)
                in absurd (Contains-none place (subst (λ ns. Contains ns place) none ((are.each place).1 own)))

    -- what is told of it is right
    pub tells-right : (loss : EdgeLoss) → Tells n (length (at_node listing taken.from)) places loss
        → IsEdgeLoss p mode listing loss
    tells-right loss tells = record {
      taken = taken;
      is_edge = subst (λ k. slice_get p.edges k ≡ Some taken) (sym tells.edge_is) is_edge;
      places = places;
      are = subst (λ k. AreExactly (IsLostAt p mode k (at_node listing taken.from)) places) (sym tells.edge_is)
          are;
      lost = tells.lost;
      first = tells.first;
      listed = tells.listed_are;
    }

    pub told-more : (loss : EdgeLoss) → Tells n (length (at_node listing taken.from)) places loss
        → AreTold p mode listing (n + 1) (losses ++ loss ∷ [])
    told-more loss tells = record {
      each = All-append (IsEdgeLoss p mode listing) losses (loss ∷ []) told.each
          (All-cons (IsEdgeLoss p mode listing) loss [] (tells-right loss tells)
          (All-nil (IsEdgeLoss p mode listing)));
      all = all;
      below = All-append Below losses (loss ∷ [])
          (λ k d lt. let before : (get_or losses k d).edge < n = told.below k d lt in omega (arith, before))
          (All-cons Below loss [] (omega (arith, tells.edge_is)) (All-nil Below));
      ordered = all_pairs_push (λ a b. a.edge < b.edge) losses loss told.ordered
          (λ k d lt. let before : (get_or losses k d).edge < n = told.below k d lt
          in omega (arith, before, tells.edge_is));
    }
      where
        Below : EdgeLoss → Type 0
        Below own = own.edge < n + 1

        all : (edge place : ℕ) (other : Edge) → edge < n + 1 → slice_get p.edges edge ≡ Some other
            → IsLostAt p mode edge (at_node listing other.from) place → IsTold (losses ++ loss ∷ []) edge
        all edge place other lt is lost = by (cases_eq edge n)
          where
            by : (edge ≡ n) ⊎ (edge ≢ n) → IsTold (losses ++ loss ∷ []) edge
            by (inr differs) = any-left losses loss edge (told.all edge place other (omega (arith, lt, differs)) is lost)
            by (inl e) = subst (IsTold (losses ++ loss ∷ [])) (tells.edge_is ∙ sym e) (any-last losses loss)

    pub told-next : (loss : Option EdgeLoss) (new : List EdgeLoss)
        → IfSome loss (Tells n (length (at_node listing taken.from)) places) → IfNone loss (places ≡ [])
        → new ≡ losses ++ list_of loss → AreTold p mode listing (n + 1) new
    told-next None new some none is =
        subst (AreTold p mode listing (n + 1)) (sym (is ∙ append-nil losses)) (told-less none)
    told-next (Some loss) new some none is =
        subst (AreTold p mode listing (n + 1)) (sym is) (told-more loss some)

  pub told-all : (n : ℕ) (losses : List EdgeLoss) → AreTold p mode listing n losses
      → ((edge : ℕ) (taken : Edge) → slice_get p.edges edge ≡ Some taken → edge < n)
      → AreEdgeLosses p mode listing losses
  told-all n losses told most = record {
    each = told.each;
    all = λ edge place taken is lost. told.all edge place taken (most edge taken is) is lost;
    ordered = told.ordered;
  }
