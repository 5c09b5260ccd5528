use Rattle.std.proofs.Common.{ap₂, codes, ◌≡◌, ◌∙◌}
use Rattle.std.proofs.lemmas.Result.{IfOk-weaker}
use Rattle.clap.specs.Simple.{App}
use Rattle.clap.specs.Words.{app_of, with_rule}
use Rattle.tv_words.specs.Setup.{bare_app, operand_rule, flag_rule}
use Rattle.tv_words.proofs.line.command_line.Goals as goal

pub returns : goal.returns
returns c =
    let open_line : App = with_rule (bare_app (codes "tvla")) operand_rule in
    let one : app_of c.in_ok-arg.field-0 ≡ open_line =
    c.in_ok-arg.ensures.shape c.operands.ensures.local
    ∙ ap₂ with_rule c.bare_line.ensures c.operands.ensures.rule in
    let two : app_of c.in_ok-arg-2.field-0 ≡ with_rule open_line (flag_rule (codes "recompute")) =
    c.in_ok-arg-2.ensures.shape c.flag-recompute.ensures.local
    ∙ ap₂ with_rule one c.flag-recompute.ensures.rule in
    let three : app_of c.in_ok-arg-3.field-0 ≡ with_rule (with_rule open_line (flag_rule (codes "recompute")))
    (flag_rule (codes "delta")) =
    c.in_ok-arg-3.ensures.shape c.flag-delta.ensures.local
    ∙ ap₂ with_rule two c.flag-delta.ensures.rule in
    let four : app_of c.in_ok-arg-4.field-0 ≡ with_rule (with_rule (with_rule open_line (flag_rule (codes "recompute")))
    (flag_rule (codes "delta"))) (flag_rule (codes "maps")) =
    c.in_ok-arg-4.ensures.shape c.flag-maps.ensures.local
    ∙ ap₂ with_rule three c.flag-maps.ensures.rule in
    IfOk-weaker c.arg-5.result _ _ (λ l added. added.shape c.setting-max.ensures.local
    ∙ ap₂ with_rule four c.setting-max.ensures.rule) c.arg-5.ensures
