use Rattle.std.proofs.Common.{[], ◌∷◌, ◌++◌, ap, sym, subst, ◌∙◌}
use Rattle.std.specs.Prelude.{IfSome, IfNone}
use Rattle.tv_listing.specs.ListingForm.{at_node}
use Rattle.tv_structure_form.specs.StructureForm.{arities_of}
use Rattle.tv_judge.specs.Items.{IsMet}
use Rattle.tv_judge.specs.Judged.{IsRejection}
use Rattle.tv_judge.specs.Progress.{IsLineFor}
use Rattle.tv_judge.specs.Setting.{case_in}
use Rattle.tv_judge.proofs.Passing.{item-passes}
use Rattle.tv_judge.proofs.Reports.{listed-alike, listed-structure, plain-line}
use Rattle.tv_judge.proofs.Stopping.{unmet-stops}
use Rattle.tv_judge.proofs.items.test_item.Goals as goal

pub returns-in-None-clause-stop : goal.returns-in-None-clause-stop
returns-in-None-clause-stop c =
    let targets = at_node c.args.x.now.analysis.now.listing c.args.node
    in subst (IsRejection (case_in c.args.x.now)) (sym c.rejection_of.ensures)
    (unmet-stops (case_in c.args.x.now) c.requires.so_far.lines c.args.item c.args.s.now targets c.requires.there
    (subst (λ o. IfNone o (¬ IsMet c.args.x.now.analysis.now.maps c.args.item targets c.args.s.now))
    c.in-None.is c.in_ok-owed_line.ensures.none)
    c.requires.so_far.done)

pub returns-then-is_plain-clause-next : goal.returns-then-is_plain-clause-next
returns-then-is_plain-clause-next c =
    let listing = c.args.x.now.analysis.now.listing
    in let targets = at_node listing c.args.node
    in let program = c.args.x.now.program.now
    in let (line, is) = plain-line c.args.x.now.analysis.now.maps c.args.item targets c.args.s.now c.in_ok-place.place
    (c.is_plain.ensures.own c.if-is_plain.true) (c.is_plain.ensures.listed c.if-is_plain.true)
    c.in_ok-place.ensures.place
    (λ k listed. listed-structure program listing c.args.node k c.args.s.now c.requires.ready.listing c.requires.node listed)
    (listed-alike program listing c.args.node (arities_of c.args.s.now) c.requires.ready.listing c.requires.node c.requires.over)
    in record {
      lines = c.requires.so_far.lines ++ line ∷ [];
      done = item-passes (case_in c.args.x.now) c.requires.ready.valid c.requires.so_far.lines c.args.item line c.args.s.now
          targets c.requires.there is c.requires.so_far.done;
      kept = λ asked. absurd (c.is_plain.ensures.asked c.if-is_plain.true asked);
      stable = c.in_ok-place.ensures.stable;
    }

pub returns-in_ok-put_line-in-Some-clause-next : goal.returns-in_ok-put_line-in-Some-clause-next
returns-in_ok-put_line-in-Some-clause-next c =
    let targets = at_node c.args.x.now.analysis.now.listing c.args.node
    in record {
      lines = c.requires.so_far.lines ++ c.in-Some.line ∷ [];
      done =
          item-passes (case_in c.args.x.now) c.requires.ready.valid c.requires.so_far.lines c.args.item c.in-Some.line
          c.args.s.now targets c.requires.there
          (subst (λ o. IfSome o (IsLineFor c.args.x.now.analysis.now.maps c.args.item targets c.args.s.now))
          c.in-Some.is c.in_ok-owed_line.ensures.some)
          c.requires.so_far.done;
      kept = λ asked.
          c.in_ok-put_line-in-Some.ensures asked
          ∙ ap (λ lines. lines ++ c.in-Some.line ∷ []) (c.note_stable.ensures.maps ∙ c.requires.so_far.kept asked);
      stable = c.in_ok-place.ensures.stable;
    }
