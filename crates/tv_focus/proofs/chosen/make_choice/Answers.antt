use Rattle.std.proofs.Common.{◌≡◌, ◌∙◌, ◌++◌, ap, sym, arith}
use Rattle.tv_structure_form.specs.StructureForm.{StructureForm, split}
use Rattle.tv_focus_laws.specs.Tables.{parts_of}
use Rattle.tv_focus_laws.specs.Written.{written}
use Rattle.tv_focus.specs.Puts.{choice_writes, aim_in}
use Rattle.tv_focus.specs.Seen.{aim_of}
use Rattle.tv_focus.proofs.Parts.{parts-are, split-size, aims-within, aim-over}
use Rattle.tv_focus.proofs.AllWrites.{all-writes-are}
use Rattle.tv_focus.proofs.chosen.make_choice.Goals as goal

pub aim_among-requires-clause-aim : goal.aim_among-requires-clause-aim
aim_among-requires-clause-aim c =
    aims-within c.args.s.now c.args.p.0 (aim_of c.args.aim.now) c.args.choice.now
    (parts-are c.args.s.now c.args.p.0 (aim_of c.args.aim.now) c.args.choice.now c.size.ensures.kept c.requires.choice) c.requires.aim

pub split_by-requires-clause-individuals : goal.split_by-requires-clause-individuals
split_by-requires-clause-individuals c =
    rw (c.as_slice.ensures.value, c.in_ok-push_parts.ensures, c.new-parts.ensures.items)
    (parts-are c.args.s.now c.args.p.0 (aim_of c.args.aim.now) c.args.choice.now c.size.ensures.kept c.requires.choice).count

pub split_by-requires-clause-each : goal.split_by-requires-clause-each
split_by-requires-clause-each c =
    rw (c.as_slice.ensures.value, c.in_ok-push_parts.ensures, c.new-parts.ensures.items)
    (parts-are c.args.s.now c.args.p.0 (aim_of c.args.aim.now) c.args.choice.now c.size.ensures.kept c.requires.choice).some

pub split_by-requires-clause-fresh_once : goal.split_by-requires-clause-fresh_once
split_by-requires-clause-fresh_once c =
    rw (c.as_slice.ensures.value, c.in_ok-push_parts.ensures, c.new-parts.ensures.items)
    (parts-are c.args.s.now c.args.p.0 (aim_of c.args.aim.now) c.args.choice.now c.size.ensures.kept c.requires.choice).fresh

pub put_choice-requires-clause-aim : goal.put_choice-requires-clause-aim
put_choice-requires-clause-aim c =
    let same : c.in_ok-t.t ≡ split c.args.s.now (parts_of c.args.choice.now)
    = c.in_ok-t.ensures.value
    ∙ ap (split c.args.s.now) (c.as_slice.ensures.value ∙ c.in_ok-push_parts.ensures ∙ ap (λ xs. xs ++ parts_of c.args.choice.now) c.new-parts.ensures.items)
    in rw (c.in_ok-among.ensures)
    (aim-over c.args.s.now c.in_ok-t.t c.args.p.0 (aim_of c.args.aim.now) c.args.choice.now
    (parts-are c.args.s.now c.args.p.0 (aim_of c.args.aim.now) c.args.choice.now c.size.ensures.kept c.requires.choice)
    c.in_ok-t.ensures.over
    (ap (λ (t : StructureForm). t.size) same ∙ split-size c.args.s.now c.args.choice.now) c.requires.aim)

pub put_choice-requires-clause-copies : goal.put_choice-requires-clause-copies
put_choice-requires-clause-copies c =
    let same : c.in_ok-t.t ≡ split c.args.s.now (parts_of c.args.choice.now)
    = c.in_ok-t.ensures.value
    ∙ ap (split c.args.s.now) (c.as_slice.ensures.value ∙ c.in_ok-push_parts.ensures ∙ ap (λ xs. xs ++ parts_of c.args.choice.now) c.new-parts.ensures.items)
    in omega (arith, ap (λ (t : StructureForm). t.size) same, split-size c.args.s.now c.args.choice.now)

pub returns : goal.returns
returns c =
    let same : c.in_ok-t.t ≡ split c.args.s.now (parts_of c.args.choice.now)
    = c.in_ok-t.ensures.value
    ∙ ap (split c.args.s.now) (c.as_slice.ensures.value ∙ c.in_ok-push_parts.ensures ∙ ap (λ xs. xs ++ parts_of c.args.choice.now) c.new-parts.ensures.items)
    in c.put_choice.ensures.value
    ∙ ap (λ aim. written c.in_ok-t.t c.args.p.0 (choice_writes aim 0 c.args.choice.now)) (c.in_ok-among.ensures)
    ∙ ap (λ t. written t c.args.p.0 (choice_writes (aim_in c.args.choice.now (aim_of c.args.aim.now)) 0 c.args.choice.now)) same
    ∙ ap (written (split c.args.s.now (parts_of c.args.choice.now)) c.args.p.0)
    (sym (all-writes-are c.args.s.now c.args.p.0 (aim_of c.args.aim.now) c.args.choice.now
    (parts-are c.args.s.now c.args.p.0 (aim_of c.args.aim.now) c.args.choice.now c.size.ensures.kept c.requires.choice) c.requires.aim))
