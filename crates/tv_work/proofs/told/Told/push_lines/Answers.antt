use Rattle.std.proofs.Common.{◌≡◌, ◌<◌, ◌+◌, ◌∙◌, [], ap, arith, length, get_or, refl, subst, sym, List}
use Rattle.std.proofs.lemmas.List.{get_or_read_under}
use Rattle.tv_kleene.specs.declared.K3.{K3}
use Rattle.tv_kleene.specs.declared.K3.TheVariants.{No}
use Rattle.tv_work.specs.Told.{AreLinesTo}
use Rattle.tv_work.proofs.Lines.{lines-next, lines-row}
use Rattle.tv_work.proofs.told.Told.push_lines.Goals as goal

pub loop-number-preserved : goal.loop-number-preserved
loop-number-preserved c =
    let rows : List (List K3) = c.self.inside.rows.items
    in let within = subst (λ (xs : List (List K3)). c.args.edge < length xs) (sym c.self.view_is)
    c.requires.edge
    in let row : c.as_slice-row.result.now ≡ get_or c.args.self.now c.args.edge []
    = c.as_slice-row.ensures ∙ get_or_read_under rows c.args.edge (length rows) c.index.result.now []
    c.index.ensures within refl
    ∙ ap (λ (xs : List (List K3)). get_or xs c.args.edge []) c.self.view_is
    in subst (AreLinesTo c.args.self.now c.args.edge (c.loop-number.number + 1))
    (sym c.in_ok-push_line.ensures)
    (lines-next c.args.self.now c.args.edge c.loop-number.number c.loop-number.lines c.loop-number.invariant
    (get_or c.as_slice-row.result.now c.loop-number.number No)
    (ap (λ (r : List K3). get_or r c.loop-number.number No) (sym row)))

pub returns : goal.returns
returns c =
    let rows : List (List K3) = c.self.inside.rows.items
    in let within = subst (λ (xs : List (List K3)). c.args.edge < length xs) (sym c.self.view_is)
    c.requires.edge
    in let row : c.as_slice-row.result.now ≡ get_or c.args.self.now c.args.edge []
    = c.as_slice-row.ensures ∙ get_or_read_under rows c.args.edge (length rows) c.index.result.now []
    c.index.ensures within refl
    ∙ ap (λ (xs : List (List K3)). get_or xs c.args.edge []) c.self.view_is
    in lines-row c.args.self.now c.args.edge c.loop-number.number c.loop-number.lines c.loop-number.invariant
    (omega (arith, c.loop-number-test.false, ap length row))
