use Rattle.std.proofs.Common.{ap, arith, length, map, subst}
use Rattle.std.proofs.lemmas.List.{length-map}
use Rattle.tv_model.specs.Program.{rule_of}
use Rattle.tv_coerce_moves.proofs.NotedLaws.{keeps-both}
use Rattle.tv_rules.specs.EntryForms.{EntryForm, closed_entries, entry_of}
use Rattle.tv_rules.specs.Moved.{AreHeadsNoted}
use Rattle.std.proofs.Common.{List}
use Rattle.tv_rules.proofs.MovedLaws.{heads-done, occurrences-are, rules-done, rules-stay}
use Rattle.tv_rules.proofs.moved.occurrences_of.Goals as goal

pub returns : goal.returns
returns c =
    let bases = map rule_of c.args.bases.now
    in let empty = c.in_ok-occurrences.occurrences
    in let mid = c.note_rules.new.occurrences
    in let last = c.note_heads.new.occurrences
    in occurrences-are bases c.args.preds empty last c.in_ok-occurrences.ensures
    (keeps-both empty mid last c.in_ok-note_rules.ensures.kept c.in_ok-note_heads.ensures.kept) c.requires.preds
    (rules-done (length c.args.bases.now) (length bases) bases last (omega (arith, length-map c.args.bases.now rule_of))
    (rules-stay (length c.args.bases.now) bases mid last c.in_ok-note_rules.ensures.noted c.in_ok-note_heads.ensures.kept))
    (heads-done (length c.args.entries.now) (length (closed_entries bases)) (closed_entries bases) last
    (omega (arith, length-map c.args.entries.now entry_of, ap length c.requires.entries))
    (subst (λ (es : List EntryForm). AreHeadsNoted (length c.args.entries.now) es last) c.requires.entries c.in_ok-note_heads.ensures.noted))
