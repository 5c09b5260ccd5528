use Rattle.tv_rules.proofs.shapes.note_alone.Goals as goal

pub returns-in_ok-note : goal.returns-in_ok-note
returns-in_ok-note c = λ w at. (c.in_ok-note.ensures w).0 at
