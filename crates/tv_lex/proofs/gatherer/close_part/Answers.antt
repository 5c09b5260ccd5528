use Rattle.std.proofs.Common.{refl, sym, subst, arith, ◌≡◌, ◌≤◌, length}
use Rattle.tv_lex.specs.Parts.{AreParts}
use Rattle.tv_lex.specs.declared.gatherer.Part.{Part}
use Rattle.tv_lex.proofs.Parting.{closed_part, nothing_open}
use Rattle.tv_lex.proofs.gatherer.close_part.Goals as goal

pub returns-in_ok-push-clause-parts : goal.returns-in_ok-push-clause-parts
returns-in_ok-push-clause-parts c = λ rest traced its.
    let part : Part = record { name = c.in_ok-name.name; line = c.args.reading.first; start = c.args.reading.start; end = c.len-end.result } in
    let end : c.len-end.result ≡ length c.args.out.now.bytes.items = omega (arith, c.len-end.ensures) in (
      its.bytes,
      subst (λ ps. AreParts 0 ps traced) (sym c.in_ok-push.ensures.items)
          (closed_part c.args.name.now rest traced c.args.out.now c.args.reading part its c.in_ok-name.ensures.ok refl refl end),
    )

pub returns-else-reading-end-clause-parts : goal.returns-else-reading-end-clause-parts
returns-else-reading-end-clause-parts c = λ rest traced its.
    let some : length c.args.out.now.bytes.items ≤ c.args.reading.start = omega (arith, c.len-end.ensures, c.if-reading-end.false) in
    (its.bytes, nothing_open c.args.name.now rest traced c.args.out.now c.args.reading its some)
