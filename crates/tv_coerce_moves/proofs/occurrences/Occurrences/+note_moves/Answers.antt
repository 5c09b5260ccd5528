use Rattle.std.proofs.Common.{◌≡◌, ◌⊎◌, ap, inl, inr, refl, ⊎_elim}
use Rattle.tv_model.specs.Form.{Form, FAnd, FOr, form_of}
use Rattle.tv_coerce_moves.specs.Moves.{MayMove, Shows}
use Rattle.tv_coerce_moves.proofs.NotedLaws.{moved-alike, moved-three, moved-two, noted-both, on-ok}
use Rattle.tv_coerce_moves.proofs.NotedLaws.{same-parts}
use Rattle.tv_coerce_moves.proofs.occurrences.Occurrences.+note_moves.Goals as goal

pub returns-in_ok-note_shown-in-Iff : goal.returns-in_ok-note_shown-in-Iff
returns-in_ok-note_shown-in-Iff t c =
    let G = form_of c.deref-in-Iff.result.now
    in let H = form_of c.deref-in-Iff-2.result.now
    in on-ok c.note_shown-in-Iff.result
    (λ last. noted-both (λ head. Shows head G) (λ head. Shows head H) (λ head. MayMove head c.args.up (form_of c.args.f.now))
    c.args.member c.args.self.now c.note_shown.new.self c.note_shown-in-Iff.new.self
    (moved-alike c.args.up (form_of c.args.f.now) G H (rw (c.in-Iff.is, c.deref-in-Iff.ensures, c.deref-in-Iff-2.ensures) refl))
    c.in_ok-note_shown-in-Iff.ensures last) c.note_shown-in-Iff.ensures

pub returns-in_ok-note_moves-in-Cond : goal.returns-in_ok-note_moves-in-Cond
returns-in_ok-note_moves-in-Cond t c =
    let C = form_of c.deref-in-Cond.result.now
    in let G = form_of c.deref-in-Cond-2.result.now
    in let H = form_of c.deref-in-Cond-3.result.now
    in on-ok c.note_moves-in-Cond-2.result
    (λ last. noted-both (λ head. Shows head C ⊎ MayMove head c.args.up G) (λ head. MayMove head c.args.up H)
    (λ head. MayMove head c.args.up (form_of c.args.f.now))
    c.args.member c.args.self.now c.note_moves-in-Cond.new.self c.note_moves-in-Cond-2.new.self
    (moved-three c.args.up (form_of c.args.f.now) C G H
    (rw (c.in-Cond.is, c.deref-in-Cond.ensures, c.deref-in-Cond-2.ensures, c.deref-in-Cond-3.ensures) refl))
    (noted-both (λ head. Shows head C) (λ head. MayMove head c.args.up G) (λ head. Shows head C ⊎ MayMove head c.args.up G) c.args.member
    c.args.self.now c.note_shown-in-Cond.new.self c.note_moves-in-Cond.new.self (λ head k. k) c.in_ok-note_shown-in-Cond.ensures
    c.in_ok-note_moves-in-Cond.ensures)
    last) c.note_moves-in-Cond-2.ensures

pub returns-in_ok-note_moves-in-And : goal.returns-in_ok-note_moves-in-And
returns-in_ok-note_moves-in-And t c =
    let G = form_of c.deref-in-And.result.now
    in let H = form_of c.deref-in-And-2.result.now
    in let parts : (F : Form → Form → Form) → form_of c.args.f.now ≡ F (form_of c.in-And.g.value) (form_of c.in-And.h.value)
    → form_of c.args.f.now ≡ F G H
    = λ F is. same-parts F (form_of c.args.f.now) (form_of c.in-And.g.value) (form_of c.in-And.h.value) G H is
    (ap form_of c.deref-in-And.ensures) (ap form_of c.deref-in-And-2.ensures)
    in on-ok c.note_moves-in-And-2.result
    (λ last. noted-both (λ head. MayMove head c.args.up G) (λ head. MayMove head c.args.up H)
    (λ head. MayMove head c.args.up (form_of c.args.f.now))
    c.args.member c.args.self.now c.note_moves-in-And.new.self c.note_moves-in-And-2.new.self
    (moved-two c.args.up (form_of c.args.f.now) G H
    (⊎_elim (λ e. inl (parts FAnd (ap form_of e))) (λ e. inr (parts FOr (ap form_of e))) c.in-And.is))
    c.in_ok-note_moves-in-And.ensures last) c.note_moves-in-And-2.ensures
