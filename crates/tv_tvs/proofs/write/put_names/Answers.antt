use Rattle.std.proofs.Common.{◌≡◌, ◌++◌, ◌∙◌, ap, arith}
use Rattle.std.specs.List.{flat_map, range_with_len}
use Rattle.tv_tvs.specs.Rows.{listed_name}
use Rattle.tv_tvs.proofs.Written.{turn}
use Rattle.tv_tvs.proofs.write.put_names.Goals as goal

pub loop-u-preserved : goal.loop-u-preserved
loop-u-preserved c =
    c.in_ok-put.ensures ∙ ap (λ t. c.loop-u.out ++ t) c.last.ensures
    ∙ turn listed_name c.args.out.now c.loop-u.out 0 c.loop-u.u c.loop-u.u (omega arith) c.loop-u.invariant

pub returns : goal.returns
returns c =
    let all : c.loop-u.u ≡ c.args.count = omega (arith, c.loop-u-test.false, c.loop-u.auto.u-end)
    in c.loop-u.invariant ∙ ap (λ n. c.args.out.now ++ flat_map listed_name (range_with_len 0 n)) all
