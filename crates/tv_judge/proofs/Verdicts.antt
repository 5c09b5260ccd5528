-- Verdicts, where all demands are met.
use Rattle.std.proofs.Common.{ℕ, ◌≡◌, ◌⊎◌, inl, inr, true, List, [], ◌∷◌, Some, refl, sym, ap, subst, ◌∙◌}
use Rattle.std.proofs.Common.{arith}
use Rattle.std.specs.Prelude.{slice_get, slice_index_or}
use Rattle.std.proofs.lemmas.Option.{slice_get-get_or}
use Rattle.tv_lemmas.proofs.Lists.{All-found}
use Rattle.tv_model.specs.declared.program.Edge.{Edge}
use Rattle.tv_model.specs.Valid.{IsValid}
use Rattle.tv_model.proofs.Lists.{slice_get-contains}
use Rattle.tv_listing.specs.ListingForm.{at_node}
use Rattle.tv_listing.specs.declared.analysis.Item.{Item}
use Rattle.tv_listing.specs.declared.analysis.Item.TheVariants as item
use Rattle.tv_listing.specs.declared.analysis.MapLine.{MapLine}
use Rattle.tv_structure_form.specs.StructureForm.{StructureForm}
use Rattle.tv_step_laws.specs.Closed.{IsCovered, IsOpened as IsOpenedIn, IsFollowed, IsClosed}
use Rattle.tv_step_laws.specs.Transfer.{IsOpening, HasNoOpening}
use Rattle.tv_step_laws.proofs.Exact.{opening-once, results-once}
use Rattle.tv_step_laws.proofs.Runs.{closed_listings_cover_runs}
use Rattle.tv_judge.specs.Items.{IsSource, IsMet}
use Rattle.tv_judge.specs.Judged.{Case, IsThere, IsClosedReport, KeepsAllBudgets, Demand, Covering, Stepping}
use Rattle.tv_judge.specs.Judged.{Saying, demand_order, StandsBefore, AreMapsOf}
use Rattle.tv_judge.specs.Laws.{ClosedListingsAreClosedReports}
use Rattle.tv_judge.specs.Progress.{IsDoneItem, MeetsDemand, IsDoneTo, IsDone}
use Rattle.tv_judge.specs.Verdicts.{IsSound}
use Rattle.tv_judge.proofs.Reports.{covered, line-meets, no-opening}

-- lines that are asked for are those of all items
pub asked-done : (c : Case) (maps : List MapLine) → IsDone c true maps → IsDoneTo c (2 ∷ []) maps
asked-done c maps (lines, done, kept) = subst (IsDoneTo c (2 ∷ [])) (sym (kept refl)) done

-- each demand stands before the end
before-end : (d : Demand) → StandsBefore (demand_order d) (2 ∷ [])
before-end (Covering (item.Initial number)) = inl (omega arith)
before-end (Covering (item.Result edge structure result)) = inl (omega arith)
before-end (Stepping edge structure) = inl (omega arith)
before-end (Saying edge structure number) = inl (omega arith)

module _ (c : Case) (lines : List MapLine) (done : IsDoneTo c (2 ∷ []) lines) where
  all-done : (d : Demand) → MeetsDemand c lines d
  all-done d = done.done d (before-end d)

  items-done : (i : Item) → IsDoneItem c lines i
  items-done (item.Initial number) = (all-done (Covering (item.Initial number))).1
  items-done (item.Result edge structure result) = all-done (Covering (item.Result edge structure result))

  pub done-closed : IsClosedReport c
  done-closed = record {
    items = λ i s targets there.
        let kept = items-done i s targets there
        in line-meets c.analysis.maps i targets s kept.line kept.is_line;
    messages = λ edge structure number say. all-done (Saying edge structure number) say;
  }

  pub done-budgets : KeepsAllBudgets c
  done-budgets = λ edge taken structure from source.
      (all-done (Stepping edge structure) taken from source).budgets

  pub done-maps : AreMapsOf c lines
  done-maps = record {
    each = λ i s targets there.
        let kept = items-done i s targets there in (kept.line, kept.among, kept.is_line.item_is);
    only = done.only;
    ordered = done.ordered;
  }

  item-covered : (i : Item) (s : StructureForm) (targets : List StructureForm) → IsThere c i s targets
      → IsCovered targets s
  item-covered i s targets there =
      let kept = items-done i s targets there
      in covered targets s kept.line.target kept.line.map kept.is_line.covers

  opened-at : (k : ℕ) (s : StructureForm) → slice_get c.initial k ≡ Some s
      → IsOpenedIn c.program (at_node c.analysis.listing 0) s
  opened-at k s at = by ((all-done (Covering (item.Initial k))).0 s at)
    where
      by : HasNoOpening c.program s ⊎ ((t : StructureForm) × IsOpening c.program s t)
          → IsOpenedIn c.program (at_node c.analysis.listing 0) s
      by (inl none) = inl none
      by (inr (t, opening)) = inr (
        t,
        opening,
        item-covered (item.Initial k) t (at_node c.analysis.listing 0)
            (record { first = s; is_initial = at; opening = opening; targets_are = refl }),
      )

  followed-at : (edge : ℕ) (taken : Edge) → slice_get c.program.edges edge ≡ Some taken
      → (k : ℕ) (s : StructureForm)
      → slice_get (at_node c.analysis.listing taken.from) k ≡ Some s
      → IsFollowed c.program c.mode edge s (at_node c.analysis.listing taken.to) c.analysis.messages
  followed-at edge taken is k s at =
      let source : IsSource c.program c.analysis.listing edge taken k s = record { is_edge = is; listed = at }
      in let step = all-done (Stepping edge k) taken s source
      in record {
        results = (
          step.results,
          step.are_results,
          λ r d within. item-covered (item.Result edge k r) (slice_index_or step.results r d)
              (at_node c.analysis.listing taken.to)
              (record {
                taken = taken;
                from = s;
                source = source;
                results = step.results;
                are_results =
                    step.are_results;
                is_result = slice_get-get_or step.results r d within;
                targets_are = refl;
              }),
        );
        messages = λ number k' value some. all-done (Saying edge k number)
            (record { taken = taken; from = s; source = source; k = k'; value = value; some = some });
      }

  pub done-is-closed : IsClosed c.program c.mode c.initial c.analysis.listing c.analysis.messages
  done-is-closed = record {
    opened = λ k d within. opened-at k (slice_index_or c.initial k d) (slice_get-get_or c.initial k d within);
    followed = λ edge taken is s has. followed-at edge taken is has.0 s
        (slice_get-get_or (at_node c.analysis.listing taken.from) has.0 s has.1 ∙ ap Some has.2);
  }

  pub done-sound : IsValid c.program → IsSound c
  done-sound valid = (
    done-is-closed,
    closed_listings_cover_runs c.program c.mode c.initial c.analysis.listing
        c.analysis.messages valid done-is-closed,
  )

-- ---- the law

pub closed-report : ClosedListingsAreClosedReports
closed-report c valid plain closed = record {
  items = each;
  messages = λ edge structure number say.
      (closed.followed edge say.taken say.source.is_edge say.from
      (slice_get-contains (at_node c.analysis.listing say.taken.from) structure say.from
      say.source.listed)).messages
      number say.k say.value say.some;
}
  where
    met : (i : Item) (targets : List StructureForm) (s : StructureForm) → IsCovered targets s
        → IsMet c.analysis.maps i targets s
    met i targets s is = subst (λ ls. IsMet ls i targets s) (sym plain) is

    initial : (number : ℕ) (s : StructureForm) (targets : List StructureForm)
        → IsThere c (item.Initial number) s targets → IsCovered targets s
    initial number s targets there =
        by (All-found (IsOpenedIn c.program
        (at_node c.analysis.listing 0)) c.initial number there.first closed.opened there.is_initial)
      where
        by : IsOpenedIn c.program (at_node c.analysis.listing 0) there.first → IsCovered targets s
        by (inl none) = absurd (no-opening c.program there.first s none there.opening)
        by (inr (t, opening, is)) =
            subst (λ ts. IsCovered ts s) (sym there.targets_are)
            (subst (IsCovered (at_node c.analysis.listing 0))
            (opening-once c.program there.first t s opening there.opening) is)

    result : (edge structure number : ℕ) (s : StructureForm) (targets : List StructureForm)
        → IsThere c (item.Result edge structure number) s targets
        → IsCovered targets s
    result edge structure number s targets there =
        let followed = closed.followed edge there.taken there.source.is_edge there.from
        (slice_get-contains (at_node c.analysis.listing there.taken.from) structure there.from
        there.source.listed)
        in let same = results-once c.program valid c.mode edge there.from there.results followed.results.0
        there.are_results followed.results.1
        in subst (λ ts. IsCovered ts s) (sym there.targets_are)
        (All-found (IsCovered (at_node c.analysis.listing there.taken.to)) followed.results.0 number s
        followed.results.2 (subst (λ rs. slice_get rs number ≡ Some s) same there.is_result))

    each : (i : Item) (s : StructureForm) (targets : List StructureForm) → IsThere c i s targets
        → IsMet c.analysis.maps i targets s
    each (item.Initial number) s targets there = met (item.Initial number) targets s
        (initial number s targets there)
    each (item.Result edge structure number) s targets there = met
        (item.Result edge structure number) targets s (result edge structure number s targets there)
