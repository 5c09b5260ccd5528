-- From one demand to the next.
use Rattle.std.proofs.Common.{ℕ, ◌<◌, ◌⊎◌, inl, inr, List, [], ◌∷◌, ◌++◌, arith}
use Rattle.std.proofs.lemmas.List.Elements.{Contains-append_left, All-push}
use Rattle.std.proofs.lemmas.List.Quantifiers.{all_pairs_push}
use Rattle.tv_listing.specs.declared.analysis.Item.{Item}
use Rattle.tv_listing.specs.declared.analysis.Item.TheVariants as item
use Rattle.tv_listing.specs.declared.analysis.MapLine.{MapLine}
use Rattle.tv_judge.specs.Judged.{Case, Demand, Covering, Stepping, Saying, demand_order, StandsBefore}
use Rattle.tv_judge.specs.Judged.{IsBefore, IsMapLine}
use Rattle.tv_judge.specs.Progress.{IsDoneItem, MeetsDemand, IsDoneTo}
use Rattle.tv_judge.proofs.Orders.{before-trans}

-- ---- more lines

kept-more : (c : Case) (lines : List MapLine) (line : MapLine) (item : Item) → IsDoneItem c lines item
    → IsDoneItem c (lines ++ line ∷ []) item
kept-more c lines line item done s targets there =
    let kept = done s targets there
    in record {
      line = kept.line;
      among = Contains-append_left lines
          (line ∷ []) kept.line kept.among;
      is_line = kept.is_line;
    }

done-more : (c : Case) (lines : List MapLine) (line : MapLine) (d : Demand) → MeetsDemand c lines d
    → MeetsDemand c (lines ++ line ∷ []) d
done-more c lines line (Covering (item.Initial number)) done =
    (done.0, kept-more c lines line (item.Initial number) done.1)
done-more c lines line (Covering (item.Result edge structure result)) done =
    kept-more c lines line (item.Result edge structure result) done
done-more c lines line (Stepping edge structure) done = done
done-more c lines line (Saying edge structure number) done = done

-- ---- bounds

-- nothing is done at first
pub done-none : (c : Case) → IsDoneTo c (0 ∷ 0 ∷ []) []
done-none c = record {
  done = λ d before. absurd (never d before);
  only = λ k d within. absurd (no-less k within);
  before = λ k d within. absurd (no-less k within);
  ordered = λ i j d less within. absurd (no-less j within);
}
  where
    no-less : (k : ℕ) → k < 0 → ⊥
    no-less k l = omega (arith, l)

    never : (d : Demand) → StandsBefore (demand_order d) (0 ∷ 0 ∷ []) → ⊥
    never (Covering (item.Initial number)) (inl l) = no-less 0 l
    never (Covering (item.Initial number)) (inr (e, inl l)) = no-less number l
    never (Covering (item.Initial number)) (inr (e, inr (f, none))) = none
    never (Covering (item.Result edge structure result)) (inl l) = no-less 1 l
    never (Covering (item.Result edge structure result)) (inr (e, rest)) = omega (arith, e)
    never (Stepping edge structure) (inl l) = no-less 1 l
    never (Stepping edge structure) (inr (e, rest)) = omega (arith, e)
    never (Saying edge structure number) (inl l) = no-less 1 l
    never (Saying edge structure number) (inr (e, rest)) = omega (arith, e)

-- the bound is moved over demands that are met
pub done-on : (c : Case) (b b' : List ℕ) (lines : List MapLine) → StandsBefore b b'
    → ((d : Demand) → StandsBefore (demand_order d) b' → StandsBefore (demand_order d) b ⊎ MeetsDemand c lines d)
    → IsDoneTo c b lines → IsDoneTo c b' lines
done-on c b b' lines ahead between so-far = record {
  done = λ d before. by d (between d before);
  only = so-far.only;
  before = λ k d within. before-trans _ b b' (so-far.before k d within) ahead;
  ordered = so-far.ordered;
}
  where
    by : (d : Demand) → StandsBefore (demand_order d) b ⊎ MeetsDemand c lines d → MeetsDemand c lines d
    by d (inl before) = so-far.done d before
    by d (inr done) = done

-- the bound is moved over the item of a line, and the line is put behind the others
pub done-line : (c : Case) (b' : List ℕ) (lines : List MapLine) (line : MapLine)
    → StandsBefore (demand_order (Covering line.item)) b'
    → ((d : Demand) → StandsBefore (demand_order d) b'
    → StandsBefore (demand_order d) (demand_order (Covering line.item)) ⊎ MeetsDemand c (lines ++ line ∷ []) d)
    → IsMapLine c line
    → IsDoneTo c (demand_order (Covering line.item)) lines → IsDoneTo c b' (lines ++ line ∷ [])
done-line c b' lines line ahead between is-line so-far = record {
  done = λ d before. by d (between d before);
  only = All-push (IsMapLine c) lines line so-far.only is-line;
  before = All-push (λ l. StandsBefore (demand_order (Covering l.item)) b') lines line
      (λ k d within. before-trans _ (demand_order (Covering line.item)) b'
      (so-far.before k d within) ahead) ahead;
  ordered = all_pairs_push (λ (x : MapLine) (y : MapLine). IsBefore (Covering x.item)
      (Covering y.item)) lines line so-far.ordered
      (λ k d within. so-far.before k d within);
}
  where
    by : (d : Demand) → StandsBefore (demand_order d) (demand_order (Covering line.item))
        ⊎ MeetsDemand c (lines ++ line ∷ []) d
        → MeetsDemand c (lines ++ line ∷ []) d
    by d (inl before) = done-more c lines line d (so-far.done d before)
    by d (inr done) = done
