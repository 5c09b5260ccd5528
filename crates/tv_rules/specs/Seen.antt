-- Which rules see the changes that a head asks for.
use Rattle.std.specs.Prelude.{◌⊎◌, true}
use Rattle.tv_model.specs.Program.{HeadForm, RuleForm}
use Rattle.tv_coerce_moves.specs.Moves.{MayMove, MayTell}
use Rattle.tv_rules.specs.Standing.{HasTwice}

-- a head that has one variable twice may have been met by a value that such changes make known
abbrev pub SeesTwice : HeadForm → HeadForm → Type 0
SeesTwice head other = MayTell other head × HasTwice other

-- such changes may make the rule unmet: they may make its body greater, or its head known
abbrev pub Sees : HeadForm → RuleForm → Type 0
Sees head rule = MayMove head true rule.body ⊎ SeesTwice head rule.head
