use Rattle.std.proofs.Common.{◌≡◌, ◌∙◌, ◌∷◌, [], None, ap, arith, length, subst, sym, All}
use Rattle.std.proofs.lemmas.List.Elements.{All-push}
use Rattle.std.proofs.lemmas.List.{length-append}
use Rattle.tv_model.specs.Program.{program_of}
use Rattle.tv_structure_form.specs.StructureForm.{StructureForm, IsOver}
use Rattle.tv_complete_text.proofs.Weaving.{AreSoFar, completed-step, completed-done, still-over}
use Rattle.tv_complete.specs.Completion.{Completes}
use Rattle.tv_complete_text.specs.declared.named.NamedText.{NamedText}
use Rattle.tv_complete_text.proofs.text.all_completed.Goals as goal

pub loop-k-preserved : goal.loop-k-preserved
loop-k-preserved c =
    let completes : Completes (program_of c.args.program.now) c.index-named-k.result.names.items c.index-given-k.result
    c.in_ok-complete.field-0
    = subst (λ names. Completes (program_of c.args.program.now) names c.index-given-k.result c.in_ok-complete.field-0)
    (c.deref.ensures.value ∙ ap (λ (x : NamedText). x.names.items) (sym c.index-named-k.is)) c.in_ok-complete.ensures
    in record {
      completes = λ bytes.
          completed-step (program_of c.args.program.now) bytes c.args.named.now c.args.given.now c.loop-k.list.items
          c.push.new.self.items c.loop-k.k c.index-named-k.result c.index-given-k.result c.in_ok-complete.field-0
          (omega (arith, c.loop-k-test.true, c.requires.count)) c.index-named-k.is
          (omega (arith, c.loop-k-test.true)) c.index-given-k.is
          completes c.in_ok-push.ensures.items (c.loop-k.invariant.completes bytes);
      over = subst (All (λ (t : StructureForm). IsOver c.args.program.now.vocab t × (t.fresh ≡ None)))
          (sym c.in_ok-push.ensures.items)
          (All-push (λ (t : StructureForm). IsOver c.args.program.now.vocab t × (t.fresh ≡ None)) c.loop-k.list.items
          c.in_ok-complete.field-0 c.loop-k.invariant.over
          (still-over c.args.program.now c.args.given.now c.loop-k.k c.index-given-k.result c.in_ok-complete.field-0
          c.index-named-k.result.names.items c.requires.over (omega (arith, c.loop-k-test.true)) c.index-given-k.is
          completes));
      count = ap length c.in_ok-push.ensures.items ∙ omega (
        arith,
        length-append c.loop-k.list.items (c.in_ok-complete.field-0 ∷ []),
        c.loop-k.invariant.count,
      );
    }

pub returns-clause-completes : goal.returns-clause-completes
returns-clause-completes c = λ bytes.
    completed-done (program_of c.args.program.now) bytes c.args.named.now c.args.given.now c.from_vec.result c.loop-k.k
    (omega (arith, c.loop-k-test.false, c.requires.count)) (omega (arith, c.loop-k-test.false))
    (subst (λ ts. AreSoFar (program_of c.args.program.now) bytes c.args.named.now c.args.given.now ts c.loop-k.k)
    (sym c.from_vec.ensures) (c.loop-k.invariant.completes bytes))
