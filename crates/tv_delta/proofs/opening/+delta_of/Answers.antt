use Rattle.std.proofs.Common.{◌≡◌, ◌∙◌, ◌+◌, ◌-◌, arith, ap, sym, subst}
use Rattle.tv_model.specs.Form.{form_of}
use Rattle.tv_model.specs.Program.{program_of}
use Rattle.tv_delta_laws.specs.Simple.{nodes}
use Rattle.tv_delta_form.proofs.DeltaSteps.{and_stops, or_stops, alike_stops, choice_stops}
use Rattle.tv_delta_form.proofs.DeltaSteps.{choice_stops_second}
use Rattle.tv_delta_form.specs.Views.{GivesFormed, delta_form}
use Rattle.tv_model.specs.Quantifiers.{bound_by}
use Rattle.tv_delta.specs.Opening.{delta_at, EndsWithin}
use Rattle.tv_delta.specs.Quantified.{quantified_by}
use Rattle.tv_delta.proofs.QuantifiedLaws.{ends_under, under_is}
use Rattle.tv_delta.proofs.opening.+delta_of.Goals as goal

-- ---- a definition is opened

pub delta_of-d-requires : goal.delta_of-d-requires
delta_of-d-requires t c =
    let ends = rw c.in-Atom.is at c.requires.ends
    in let starts = c.in-Inside.ensures c.args.depth ends
    in let less : starts.0 ≡ c.args.depth - 1 = omega (arith, starts.1)
    in let inner : EndsWithin (program_of c.args.o.now.program.now) (c.args.depth - 1) (form_of c.in-Inside.x)
    = subst (λ m. EndsWithin (program_of c.args.o.now.program.now) m (form_of c.in-Inside.x)) less starts.3
    in (omega (arith, c.decreases, starts.1, starts.2), (c.requires.known, inner))

pub returns-in-Done-clause-delta : goal.returns-in-Done-clause-delta
returns-in-Done-clause-delta t c =
    let ends = rw c.in-Atom.is at c.requires.ends
    in rw c.in-Atom.is (c.in-Done.ensures c.args.depth ends)

pub returns-in-Inside-clause-delta : goal.returns-in-Inside-clause-delta
returns-in-Inside-clause-delta t c =
    let ends = rw c.in-Atom.is at c.requires.ends
    in let starts = c.in-Inside.ensures c.args.depth ends
    in let made = c.atom_end.ensures.delta (delta_at c.args.o.now (form_of c.in-Inside.x)) c.delta_of-d.ensures.delta
    in rw c.in-Atom.is (subst (λ o. GivesFormed delta_form c.atom_end.result o) (sym starts.4) made)

pub returns-in-Inside-clause-known : goal.returns-in-Inside-clause-known
returns-in-Inside-clause-known t c =
    let ends = rw c.in-Atom.is at c.requires.ends
    in let starts = c.in-Inside.ensures c.args.depth ends
    in c.atom_end.ensures.known (delta_at c.args.o.now (form_of c.in-Inside.x)) c.delta_of-d.ensures.known
    c.delta_of-d.ensures.delta starts.4

-- ---- parts are smaller, and known atoms stay known

pub delta_of-requires : goal.delta_of-requires
delta_of-requires t c =
    let part = rw c.in-Not.is at c.requires.ends
    in let whole : nodes (form_of c.args.f.now) ≡ nodes (form_of c.in-Not.g.value) + 1
    = ap (λ x. nodes (form_of x)) c.in-Not.is
    in let its : nodes (form_of c.deref.result.now) ≡ nodes (form_of c.in-Not.g.value)
    = ap (λ x. nodes (form_of x)) c.deref.ensures
    in (omega (arith, c.decreases, whole, its), (c.requires.known, rw c.deref.ensures (part.0, part.1)))

pub delta_of-requires-in-And : goal.delta_of-requires-in-And
delta_of-requires-in-And t c =
    let part = rw c.in-And.is at c.requires.ends
    in let whole : nodes (form_of c.args.f.now) ≡ nodes (form_of c.in-And.g.value) + nodes (form_of c.in-And.h.value) + 1
    = ap (λ x. nodes (form_of x)) c.in-And.is
    in let its : nodes (form_of c.deref-in-And.result.now) ≡ nodes (form_of c.in-And.g.value)
    = ap (λ x. nodes (form_of x)) c.deref-in-And.ensures
    in (omega (arith, c.decreases, whole, its), (c.requires.known, rw c.deref-in-And.ensures (part.0, part.1.0)))

pub delta_of-requires-in-Ok : goal.delta_of-requires-in-Ok
delta_of-requires-in-Ok t c =
    let part = rw c.in-And.is at c.requires.ends
    in let whole : nodes (form_of c.args.f.now) ≡ nodes (form_of c.in-And.g.value) + nodes (form_of c.in-And.h.value) + 1
    = ap (λ x. nodes (form_of x)) c.in-And.is
    in let its : nodes (form_of c.deref-in-Ok.result.now) ≡ nodes (form_of c.in-And.h.value)
    = ap (λ x. nodes (form_of x)) c.deref-in-Ok.ensures
    in (omega (arith, c.decreases, whole, its), (c.delta_of-in-And.ensures.known, rw c.deref-in-Ok.ensures (part.0, part.1.1)))

pub delta_of-requires-in-Or : goal.delta_of-requires-in-Or
delta_of-requires-in-Or t c =
    let part = rw c.in-Or.is at c.requires.ends
    in let whole : nodes (form_of c.args.f.now) ≡ nodes (form_of c.in-Or.g.value) + nodes (form_of c.in-Or.h.value) + 1
    = ap (λ x. nodes (form_of x)) c.in-Or.is
    in let its : nodes (form_of c.deref-in-Or.result.now) ≡ nodes (form_of c.in-Or.g.value)
    = ap (λ x. nodes (form_of x)) c.deref-in-Or.ensures
    in (omega (arith, c.decreases, whole, its), (c.requires.known, rw c.deref-in-Or.ensures (part.0, part.1.0)))

pub delta_of-requires-in-Ok-delta_of : goal.delta_of-requires-in-Ok-delta_of
delta_of-requires-in-Ok-delta_of t c =
    let part = rw c.in-Or.is at c.requires.ends
    in let whole : nodes (form_of c.args.f.now) ≡ nodes (form_of c.in-Or.g.value) + nodes (form_of c.in-Or.h.value) + 1
    = ap (λ x. nodes (form_of x)) c.in-Or.is
    in let its : nodes (form_of c.deref-in-Ok-delta_of.result.now) ≡ nodes (form_of c.in-Or.h.value)
    = ap (λ x. nodes (form_of x)) c.deref-in-Ok-delta_of.ensures
    in (omega (arith, c.decreases, whole, its), (c.delta_of-in-Or.ensures.known, rw c.deref-in-Ok-delta_of.ensures (part.0, part.1.1)))

pub delta_of-requires-in-Iff : goal.delta_of-requires-in-Iff
delta_of-requires-in-Iff t c =
    let part = rw c.in-Iff.is at c.requires.ends
    in let whole : nodes (form_of c.args.f.now) ≡ nodes (form_of c.in-Iff.g.value) + nodes (form_of c.in-Iff.h.value) + 1
    = ap (λ x. nodes (form_of x)) c.in-Iff.is
    in let its : nodes (form_of c.deref-in-Iff.result.now) ≡ nodes (form_of c.in-Iff.g.value)
    = ap (λ x. nodes (form_of x)) c.deref-in-Iff.ensures
    in (omega (arith, c.decreases, whole, its), (c.requires.known, rw c.deref-in-Iff.ensures (part.0, part.1.0)))

pub delta_of-requires-in-Ok-delta_of-2 : goal.delta_of-requires-in-Ok-delta_of-2
delta_of-requires-in-Ok-delta_of-2 t c =
    let part = rw c.in-Iff.is at c.requires.ends
    in let whole : nodes (form_of c.args.f.now) ≡ nodes (form_of c.in-Iff.g.value) + nodes (form_of c.in-Iff.h.value) + 1
    = ap (λ x. nodes (form_of x)) c.in-Iff.is
    in let its : nodes (form_of c.deref-in-Ok-delta_of-2.result.now) ≡ nodes (form_of c.in-Iff.h.value)
    = ap (λ x. nodes (form_of x)) c.deref-in-Ok-delta_of-2.ensures
    in (omega (arith, c.decreases, whole, its), (c.delta_of-in-Iff.ensures.known, rw c.deref-in-Ok-delta_of-2.ensures (part.0, part.1.1)))

pub delta_of-requires-in-Cond : goal.delta_of-requires-in-Cond
delta_of-requires-in-Cond t c =
    let part = rw c.in-Cond.is at c.requires.ends
    in let whole : nodes (form_of c.args.f.now) ≡ nodes (form_of c.in-Cond.c.value) + nodes (form_of c.in-Cond.g.value) + nodes (form_of c.in-Cond.h.value) + 1
    = ap (λ x. nodes (form_of x)) c.in-Cond.is
    in let its : nodes (form_of c.deref-in-Cond.result.now) ≡ nodes (form_of c.in-Cond.c.value)
    = ap (λ x. nodes (form_of x)) c.deref-in-Cond.ensures
    in (omega (arith, c.decreases, whole, its), (c.requires.known, rw c.deref-in-Cond.ensures (part.0, part.1.0)))

pub delta_of-requires-in-Ok-delta_of-3 : goal.delta_of-requires-in-Ok-delta_of-3
delta_of-requires-in-Ok-delta_of-3 t c =
    let part = rw c.in-Cond.is at c.requires.ends
    in let whole : nodes (form_of c.args.f.now) ≡ nodes (form_of c.in-Cond.c.value) + nodes (form_of c.in-Cond.g.value) + nodes (form_of c.in-Cond.h.value) + 1
    = ap (λ x. nodes (form_of x)) c.in-Cond.is
    in let its : nodes (form_of c.deref-in-Ok-delta_of-3.result.now) ≡ nodes (form_of c.in-Cond.g.value)
    = ap (λ x. nodes (form_of x)) c.deref-in-Ok-delta_of-3.ensures
    in (omega (arith, c.decreases, whole, its), (c.delta_of-in-Cond.ensures.known, rw c.deref-in-Ok-delta_of-3.ensures (part.0, part.1.1.0)))

pub delta_of-requires-in-Ok-delta_of-4 : goal.delta_of-requires-in-Ok-delta_of-4
delta_of-requires-in-Ok-delta_of-4 t c =
    let part = rw c.in-Cond.is at c.requires.ends
    in let whole : nodes (form_of c.args.f.now) ≡ nodes (form_of c.in-Cond.c.value) + nodes (form_of c.in-Cond.g.value) + nodes (form_of c.in-Cond.h.value) + 1
    = ap (λ x. nodes (form_of x)) c.in-Cond.is
    in let its : nodes (form_of c.deref-in-Ok-delta_of-4.result.now) ≡ nodes (form_of c.in-Cond.h.value)
    = ap (λ x. nodes (form_of x)) c.deref-in-Ok-delta_of-4.ensures
    in (omega (arith, c.decreases, whole, its), (c.delta_of-in-Ok-delta_of-3.ensures.known, rw c.deref-in-Ok-delta_of-4.ensures (part.0, part.1.1.1)))

-- ---- where a part isn't formed the whole isn't

pub returns-in-Err-clause-delta : goal.returns-in-Err-clause-delta
returns-in-Err-clause-delta t c =
    let part = rw c.deref-in-And.ensures at c.in-Err.ensures.delta
    in rw c.in-And.is (and_stops c.in-Err.stop _ _ part)

pub returns-in-Err-delta_of-clause-delta : goal.returns-in-Err-delta_of-clause-delta
returns-in-Err-delta_of-clause-delta t c =
    let part = rw c.deref-in-Or.ensures at c.in-Err-delta_of.ensures.delta
    in rw c.in-Or.is (or_stops c.in-Err-delta_of.stop _ _ part)

pub returns-in-Err-delta_of-2-clause-delta : goal.returns-in-Err-delta_of-2-clause-delta
returns-in-Err-delta_of-2-clause-delta t c =
    let part = rw c.deref-in-Iff.ensures at c.in-Err-delta_of-2.ensures.delta
    in rw c.in-Iff.is (alike_stops c.in-Err-delta_of-2.stop _ _ part)

pub returns-in-Err-delta_of-3-clause-delta : goal.returns-in-Err-delta_of-3-clause-delta
returns-in-Err-delta_of-3-clause-delta t c =
    let part = rw c.deref-in-Cond.ensures at c.in-Err-delta_of-3.ensures.delta
    in rw c.in-Cond.is (choice_stops c.in-Err-delta_of-3.stop _ _ _ part)

pub returns-in-Err-delta_of-4-clause-delta : goal.returns-in-Err-delta_of-4-clause-delta
returns-in-Err-delta_of-4-clause-delta t c =
    let part = rw c.deref-in-Ok-delta_of-3.ensures at c.in-Err-delta_of-4.ensures.delta
    in rw c.in-Cond.is (choice_stops_second c.in-Err-delta_of-4.stop _ _ _ part)

-- ---- quantifiers one in the other

pub delta_of-d-requires-in-Ok-head_of : goal.delta_of-d-requires-in-Ok-head_of
delta_of-d-requires-in-Ok-head_of t c =
    let part = rw c.in-Exists.is at c.requires.ends
    in let whole : nodes (form_of c.args.f.now) ≡ nodes (form_of c.in-Exists.g.value) + 1
    = ap (λ x. nodes (form_of x)) c.in-Exists.is
    in let its : nodes (form_of c.deref-in-Exists.result.now) ≡ nodes (form_of c.in-Exists.g.value)
    = ap (λ x. nodes (form_of x)) c.deref-in-Exists.ensures
    in let parts : bound_by c.in-Ok-head_of.bindings.items (form_of c.in-Ok-head_of.body.now) ≡ form_of c.in-Exists.g.value
    = c.in-Ok-head_of.ensures.parts ∙ ap form_of c.deref-in-Exists.ensures
    in (
      omega (arith, c.decreases, whole, its, c.in-Ok-head_of.ensures.nodes),
      (c.requires.known, ends_under _ c.args.depth c.in-Ok-head_of.bindings.items (form_of c.in-Ok-head_of.body.now) _ parts part),
    )

pub delta_of-d-requires-in-Ok-head_of-2 : goal.delta_of-d-requires-in-Ok-head_of-2
delta_of-d-requires-in-Ok-head_of-2 t c =
    let part = rw c.in-Forall.is at c.requires.ends
    in let whole : nodes (form_of c.args.f.now) ≡ nodes (form_of c.in-Forall.g.value) + 1
    = ap (λ x. nodes (form_of x)) c.in-Forall.is
    in let its : nodes (form_of c.deref-in-Forall.result.now) ≡ nodes (form_of c.in-Forall.g.value)
    = ap (λ x. nodes (form_of x)) c.deref-in-Forall.ensures
    in let parts : bound_by c.in-Ok-head_of-2.bindings.items (form_of c.in-Ok-head_of-2.body.now) ≡ form_of c.in-Forall.g.value
    = c.in-Ok-head_of-2.ensures.parts ∙ ap form_of c.deref-in-Forall.ensures
    in (
      omega (arith, c.decreases, whole, its, c.in-Ok-head_of-2.ensures.nodes),
      (c.requires.known, ends_under _ c.args.depth c.in-Ok-head_of-2.bindings.items (form_of c.in-Ok-head_of-2.body.now) _ parts part),
    )

pub returns-in-Ok-head_of-clause-delta : goal.returns-in-Ok-head_of-clause-delta
returns-in-Ok-head_of-clause-delta t c =
    let parts : bound_by c.in-Ok-head_of.bindings.items (form_of c.in-Ok-head_of.body.now) ≡ form_of c.in-Exists.g.value
    = c.in-Ok-head_of.ensures.parts ∙ ap form_of c.deref-in-Exists.ensures
    in let inner : quantified_by c.in-Ok-head_of.bindings.items (delta_at c.args.o.now (form_of c.in-Ok-head_of.body.now))
    ≡ delta_at c.args.o.now (form_of c.in-Exists.g.value)
    = under_is c.args.o.now c.in-Ok-head_of.bindings.items (form_of c.in-Ok-head_of.body.now) (form_of c.in-Exists.g.value) parts
    in let made = c.some_with.ensures _ (c.bound_with.ensures _ c.delta_of-d-in-Ok-head_of.ensures.delta)
    in rw c.in-Exists.is (rw inner at made)

pub returns-in-Ok-head_of-2-clause-delta : goal.returns-in-Ok-head_of-2-clause-delta
returns-in-Ok-head_of-2-clause-delta t c =
    let parts : bound_by c.in-Ok-head_of-2.bindings.items (form_of c.in-Ok-head_of-2.body.now) ≡ form_of c.in-Forall.g.value
    = c.in-Ok-head_of-2.ensures.parts ∙ ap form_of c.deref-in-Forall.ensures
    in let inner : quantified_by c.in-Ok-head_of-2.bindings.items (delta_at c.args.o.now (form_of c.in-Ok-head_of-2.body.now))
    ≡ delta_at c.args.o.now (form_of c.in-Forall.g.value)
    = under_is c.args.o.now c.in-Ok-head_of-2.bindings.items (form_of c.in-Ok-head_of-2.body.now) (form_of c.in-Forall.g.value) parts
    in let made = c.every_with.ensures _ (c.bound_with-in-Ok-head_of-2.ensures _ c.delta_of-d-in-Ok-head_of-2.ensures.delta)
    in rw c.in-Forall.is (rw inner at made)
