use Rattle.std.proofs.Common.{◌⊎◌, ap, true, false}
use Rattle.tv_model.specs.Program.{head_of}
use Rattle.tv_coerce_moves.specs.Moves.{IsEquality, MayTell, Turns}
use Rattle.tv_coerce_moves.proofs.NotedLaws.{noted-both, on-ok, told-atom}
use Rattle.tv_coerce_moves.proofs.occurrences.Occurrences.note_head.Goals as goal

pub returns-in_ok-note_yes-in-Atom : goal.returns-in_ok-note_yes-in-Atom
returns-in_ok-note_yes-in-Atom c =
    let p = c.in-Atom.p.0
    in on-ok c.note_no.result
    (λ last. noted-both (λ change. IsEquality change ⊎ Turns change true p) (λ change. Turns change false p) (MayTell (head_of c.args.head))
    c.args.member c.args.self.now c.note_yes.new.self c.note_no.new.self
    (told-atom (head_of c.args.head) _ p _ (ap head_of c.in-Atom.is))
    (noted-both IsEquality (λ change. Turns change true p) (λ change. IsEquality change ⊎ Turns change true p) c.args.member
    c.args.self.now c.note_ordinary.new.self c.note_yes.new.self (λ change k. k) c.in_ok-note_ordinary.ensures c.in_ok-note_yes-in-Atom.ensures)
    last) c.note_no.ensures
