use Rattle.std.proofs.Common.{◌≡◌, ◌⊎◌, ap, inl, inr, refl, ⊎_elim}
use Rattle.tv_model.specs.Form.{Form, FAnd, FOr, FIff, form_of}
use Rattle.tv_coerce_moves.specs.Moves.{Shows}
use Rattle.tv_coerce_moves.proofs.NotedLaws.{noted-both, on-ok, same-parts, shown-three, shown-two}
use Rattle.tv_coerce_moves.proofs.occurrences.Occurrences.+note_shown.Goals as goal

pub returns-in_ok-note_shown-in-Cond-2 : goal.returns-in_ok-note_shown-in-Cond-2
returns-in_ok-note_shown-in-Cond-2 t c =
    let C = form_of c.deref.result.now
    in let G = form_of c.deref-in-Cond.result.now
    in let H = form_of c.deref-in-Cond-2.result.now
    in on-ok c.note_shown-in-Cond-2.result
    (λ last. noted-both (λ head. Shows head C ⊎ Shows head G) (λ head. Shows head H) (λ head. Shows head (form_of c.args.f.now))
    c.args.member c.args.self.now c.note_shown-in-Cond.new.self c.note_shown-in-Cond-2.new.self
    (shown-three (form_of c.args.f.now) C G H
    (rw (c.in-Cond.is, c.deref.ensures, c.deref-in-Cond.ensures, c.deref-in-Cond-2.ensures) refl))
    (noted-both (λ head. Shows head C) (λ head. Shows head G) (λ head. Shows head C ⊎ Shows head G) c.args.member
    c.args.self.now c.note_shown.new.self c.note_shown-in-Cond.new.self (λ head k. k) c.in_ok-note_shown-in-Cond.ensures
    c.in_ok-note_shown-in-Cond-2.ensures)
    last) c.note_shown-in-Cond-2.ensures

pub returns-in_ok-note_shown-in-And : goal.returns-in_ok-note_shown-in-And
returns-in_ok-note_shown-in-And t c =
    let G = form_of c.deref-in-And.result.now
    in let H = form_of c.deref-in-And-2.result.now
    in let parts : (F : Form → Form → Form) → form_of c.args.f.now ≡ F (form_of c.in-And.g.value) (form_of c.in-And.h.value)
    → form_of c.args.f.now ≡ F G H
    = λ F is. same-parts F (form_of c.args.f.now) (form_of c.in-And.g.value) (form_of c.in-And.h.value) G H is
    (ap form_of c.deref-in-And.ensures) (ap form_of c.deref-in-And-2.ensures)
    in on-ok c.note_shown-in-And-2.result
    (λ last. noted-both (λ head. Shows head G) (λ head. Shows head H) (λ head. Shows head (form_of c.args.f.now))
    c.args.member c.args.self.now c.note_shown-in-And.new.self c.note_shown-in-And-2.new.self
    (shown-two (form_of c.args.f.now) G H
    (⊎_elim (λ e. inl (parts FAnd (ap form_of e))) (⊎_elim (λ e. inr (inl (parts FOr (ap form_of e)))) (λ e. inr (inr (parts FIff (ap form_of e)))))
    c.in-And.is))
    c.in_ok-note_shown-in-And.ensures last) c.note_shown-in-And-2.ensures
