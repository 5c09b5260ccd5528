use Rattle.std.proofs.Common.{ℕ, ◌≡◌, ◌≢◌, ◌∙◌, List, [], get_or, All, AllPairs, sym, subst, below_more}
use Rattle.std.proofs.lemmas.List.{get_or_default}
use Rattle.std.proofs.lemmas.List.Elements.{All-push}
use Rattle.tv_model.specs.Heap.{Heap}
use Rattle.tv_start_laws.specs.Starts.{FitsBelow}
use Rattle.tv_structure_form.specs.StructureForm.{StructureForm, arities_of, structure_of, split}
use Rattle.tv_openings.specs.Openings.{IsPlainOpening, LiesInOne}
use Rattle.tv_openings.specs.Parts.{HavePlace}
use Rattle.tv_openings.proofs.OpeningLaws.{cleared_opening, found_still, openings_all, openings_more}
use Rattle.tv_openings.proofs.opened.open_each.Goals as goal

pub loop-parts-preserved : goal.loop-parts-preserved
loop-parts-preserved c =
    let s : StructureForm = c.args.s.now
    in let lists : List (List ℕ) = c.args.lists.now
    in let k : ℕ = c.loop-parts.parts-index
    in let ws : List StructureForm = c.loop-parts.all.items
    in let more : List StructureForm = c.push.new.self.items
    in let there : get_or lists k [] ≡ c.parts-item.result
    = get_or_default lists k [] c.parts-item.result c.loop-parts-test.true ∙ sym c.parts-item.is
    in let have : HavePlace s c.args.cells 0 c.parts-item.result
    = subst (HavePlace s c.args.cells 0) there (c.requires.parts.each k [] c.loop-parts-test.true)
    in let opening : IsPlainOpening (arities_of s) c.args.cells c.in_ok-t.t
    = cleared_opening s c.in_ok-t.t c.args.cells c.parts-item.result c.size.ensures.kept c.requires.can.0 have
    c.in_ok-t.ensures
    in record {
      each = subst (All (IsPlainOpening (arities_of s) c.args.cells)) (sym c.in_ok-push.ensures.items)
          (All-push (IsPlainOpening (arities_of s) c.args.cells) ws c.in_ok-t.t c.loop-parts.invariant.each opening);
      found = below_more (λ (j : ℕ). (h : Heap) → AllPairs ◌≢◌ h.individuals
          → FitsBelow h (structure_of (split s (get_or lists j []))) → LiesInOne more h) k
          (λ j lt h apart fits. found_still ws more c.in_ok-t.t c.in_ok-push.ensures.items h
          (c.loop-parts.invariant.found j lt h apart fits))
          (openings_more s lists k c.parts-item.result ws more c.in_ok-t.t there c.in_ok-t.ensures
          c.loop-parts.invariant.found c.in_ok-push.ensures.items);
    }

pub returns : goal.returns
returns c =
    openings_all c.args.s.now c.args.cells c.args.lists.now c.loop-parts.parts-index c.loop-parts.all.items
    c.size.ensures.kept c.requires.parts c.loop-parts-test.false c.loop-parts.invariant.each
    c.loop-parts.invariant.found
