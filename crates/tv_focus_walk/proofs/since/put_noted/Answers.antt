use Rattle.std.proofs.Common.{subst, sym}
use Rattle.tv_focus.specs.Seen.{aim_of}
use Rattle.tv_structure_form.specs.StructureForm.{IsStructure}
use Rattle.tv_focus_laws.proofs.Writes.{IsWritten, is_written}
use Rattle.tv_focus_step_laws.specs.Above.{writes_at}
use Rattle.tv_focus_walk.specs.Walk.{IsNoted, walk_pred}
use Rattle.tv_focus_walk.proofs.Ready.{vector-entries}
use Rattle.tv_focus_walk.proofs.Signs.{vector-keeps}
use Rattle.tv_focus_walk.proofs.since.put_noted.Goals as goal

pub returns-clause-rest : goal.returns-clause-rest
returns-clause-rest c =
    let w = c.args.w.now
    in let writes = writes_at (aim_of c.args.aim.now) c.args.at c.args.vector.now
    in vector-keeps w (aim_of c.args.aim.now) c.args.at c.args.vector.now c.args.since c.noted.result c.does_pass-are_under.result
    c.args.t.now c.put_vector.new.t c.requires.plain
    (subst (λ t. IsWritten c.args.t.now t (walk_pred w) writes) (sym c.put_vector.ensures.value)
    (is_written c.args.t.now (walk_pred w) writes c.requires.table
    (vector-entries c.args.t.now (walk_pred w) (aim_of c.args.aim.now) c.args.at c.args.vector.now c.requires.aim
    c.requires.copy)))
    (subst (λ values. IsNoted c.args.since c.does_pass-are_under.result values c.noted.result) c.as_slice.ensures c.noted.ensures)
    (λ yes. c.does_pass-are_under.ensures yes)

pub returns-clause-kept : goal.returns-clause-kept
returns-clause-kept c =
    let w = c.args.w.now
    in let writes = writes_at (aim_of c.args.aim.now) c.args.at c.args.vector.now
    in subst IsStructure (sym c.put_vector.ensures.value)
    (is_written c.args.t.now (walk_pred w) writes c.requires.table
    (vector-entries c.args.t.now (walk_pred w) (aim_of c.args.aim.now) c.args.at c.args.vector.now c.requires.aim
    c.requires.copy)).is
