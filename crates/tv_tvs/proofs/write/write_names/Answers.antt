use Rattle.std.proofs.Common.{◌∙◌, ◌-◌, ap, arith, take}
use Rattle.tv_tvs.proofs.RowTexts.{names_cut, no_names}
use Rattle.tv_tvs.proofs.write.write_names.Goals as goal

pub returns-then-count-gt0 : goal.returns-then-count-gt0
returns-then-count-gt0 c =
    c.cut.ensures ∙ ap (λ n. take (n - 2) c.put_names.new.out) c.len.ensures
    ∙ names_cut c.args.count c.args.out.now c.put_names.new.out (omega (arith, c.if-count-gt0.true)) c.in_ok-put_names.ensures

pub returns-else-count-gt0 : goal.returns-else-count-gt0
returns-else-count-gt0 c =
    no_names c.args.count c.args.out.now c.put_names.new.out (omega (arith, c.if-count-gt0.false)) c.in_ok-put_names.ensures
