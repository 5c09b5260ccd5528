use Rattle.std.proofs.Common.{◌≡◌, ◌++◌, ◌-◌, length, take, drop, ap, sym, ◌∙◌, arith, length-drop}
use Rattle.std.proofs.lemmas.List.{take_all}
use Rattle.std.proofs.lemmas.Bool.Decides.{Decides-eqb}
use Rattle.std.proofs.lemmas.Slice.Eq.{starts_is}
use Rattle.tv_layout.proofs.text.behind.Goals as goal

pub returns-then-starts_with : goal.returns-then-starts_with
returns-then-starts_with c =
    let bytes = c.args.bytes.now
    in let text = c.args.text.now
    in let whole = (starts_is Decides-eqb bytes text c.starts_with.result c.starts_with.ensures.value).0 c.if-starts_with.true
    in let count = length-drop (length text) bytes
    in whole ∙ ap (λ t. text ++ t) (sym (take_all (length bytes - length text) (drop (length text) bytes) (omega (arith, count))))
