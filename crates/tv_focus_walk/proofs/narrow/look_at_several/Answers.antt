use Rattle.std.proofs.Common.{◌≡◌, ◌∙◌, false, rules, refl, subst, sym, length}
use Rattle.tv_structure_form.specs.StructureForm.{summary_at}
use Rattle.tv_focus.specs.Seen.{aim_of}
use Rattle.tv_focus_walk.proofs.Coercing.{are-plain}
use Rattle.tv_focus_walk.proofs.Foretelling.{ordinary-refutes}
use Rattle.tv_focus_walk.proofs.Looking.{can-split, foretold, several-leads, several-over, several-ready}
use Rattle.tv_focus_walk.proofs.narrow.look_at_several.Goals as goal

pub returns-then-not-summary-clause-outlook : goal.returns-then-not-summary-clause-outlook
returns-then-not-summary-clause-outlook c =
    let hand = c.args.hand
    in let plain : c.summary.result ≡ false = search rules
    in ordinary-refutes c.args.w.now c.args.scratch.now c.args.begun.now hand.structure.now c.args.set.now c.requires.can
    c.requires.several
    (subst (λ p. summary_at hand.structure.now p ≡ false) c.requires.hand.1 (sym c.summary.ensures ∙ plain))

pub with_copies-requires : goal.with_copies-requires
with_copies-requires c =
    let hand = c.args.hand
    in can-split c.args.w.now c.args.begun.now hand.structure.now (aim_of hand.aim.now) hand.since hand.at _
    c.requires.hand.0 c.requires.hand.1 c.requires.place (search rules) (search rules) (search rules)

pub put_all-since-requires-clause-plain : goal.put_all-since-requires-clause-plain
put_all-since-requires-clause-plain c = are-plain c.args.w.now c.args.scratch.now c.requires.can

pub put_all-since-requires-clause-aim : goal.put_all-since-requires-clause-aim
put_all-since-requires-clause-aim c =
    let hand = c.args.hand
    in (several-over c.args.w.now c.args.begun.now c.args.set.now hand.structure.now c.in_ok-structure.structure
    (aim_of hand.aim.now) (aim_of c.in_ok-aim.aim) hand.at (length c.args.set.now) hand.since c.requires.hand.0
    c.requires.hand.1 c.requires.place c.requires.several refl c.in_ok-structure.ensures.value
    c.in_ok-structure.ensures.over c.in_ok-aim.ensures).0

pub put_all-since-requires-clause-copies : goal.put_all-since-requires-clause-copies
put_all-since-requires-clause-copies c =
    let hand = c.args.hand
    in (several-over c.args.w.now c.args.begun.now c.args.set.now hand.structure.now c.in_ok-structure.structure
    (aim_of hand.aim.now) (aim_of c.in_ok-aim.aim) hand.at (length c.args.set.now) hand.since c.requires.hand.0
    c.requires.hand.1 c.requires.place c.requires.several refl c.in_ok-structure.ensures.value
    c.in_ok-structure.ensures.over c.in_ok-aim.ensures).1

pub narrowed-requires-clause-ready : goal.narrowed-requires-clause-ready
narrowed-requires-clause-ready c =
    let hand = c.args.hand
    in several-ready c.args.w.now c.args.scratch.now c.args.begun.now c.args.set.now hand.structure.now
    c.in_ok-structure.structure c.put_all-since.new.t (aim_of hand.aim.now) (aim_of c.in_ok-aim.aim) hand.at
    (length c.args.set.now) hand.since c.with_copies-2.result c.put_all-since.result
    c.requires.can c.requires.hand.0 c.requires.hand.1 c.requires.place c.requires.several refl
    c.in_ok-structure.ensures.value c.in_ok-structure.ensures.over c.put_all-since.ensures.size
    c.put_all-since.ensures.over c.put_all-since.ensures.kept c.in_ok-aim.ensures c.with_copies-2.ensures.no
    c.with_copies-2.ensures.yes c.with_copies-2.ensures.copies c.with_copies-2.ensures.any
    c.put_all-since.ensures.rest

pub returns-clause-outlook : goal.returns-clause-outlook
returns-clause-outlook c =
    let hand = c.args.hand
    in foretold c.args.w.now c.args.begun.now c.args.set.now hand.structure.now c.put_all-since.new.t c.narrowed.result
    (several-leads c.args.w.now c.args.scratch.now c.args.begun.now c.args.set.now hand.structure.now
    c.in_ok-structure.structure c.put_all-since.new.t (aim_of hand.aim.now) (aim_of c.in_ok-aim.aim) hand.at
    (length c.args.set.now) hand.since c.put_all-since.result
    c.vectors_lead.ensures c.requires.can c.requires.hand.0 c.requires.hand.1 c.requires.place c.requires.several refl
    c.in_ok-structure.ensures.value c.in_ok-structure.ensures.kept
    (several-ready c.args.w.now c.args.scratch.now c.args.begun.now c.args.set.now hand.structure.now
    c.in_ok-structure.structure c.put_all-since.new.t (aim_of hand.aim.now) (aim_of c.in_ok-aim.aim) hand.at
    (length c.args.set.now) hand.since c.with_copies-2.result c.put_all-since.result
    c.requires.can c.requires.hand.0 c.requires.hand.1 c.requires.place c.requires.several refl
    c.in_ok-structure.ensures.value c.in_ok-structure.ensures.over c.put_all-since.ensures.size
    c.put_all-since.ensures.over c.put_all-since.ensures.kept c.in_ok-aim.ensures c.with_copies-2.ensures.no
    c.with_copies-2.ensures.yes c.with_copies-2.ensures.copies c.with_copies-2.ensures.any
    c.put_all-since.ensures.rest)
    c.put_all-since.ensures.over c.put_all-since.ensures.size c.put_all-since.ensures.value)
    c.narrowed.ensures.outlook
