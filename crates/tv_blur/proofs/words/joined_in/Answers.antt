use Rattle.std.proofs.Common.{◌<◌, ◌∙◌, ap, arith, length}
use Rattle.std.proofs.lemmas.List.{length-replicate}
use Rattle.std.proofs.lemmas.List.Elements.{All-contains}
use Rattle.tv_kleene.specs.declared.K3.TheVariants.{No}
use Rattle.tv_blur.proofs.WordLaws.{first_word, same_joins}
use Rattle.tv_blur.proofs.words.joined_in.Goals as goal

pub returns : goal.returns
returns c =
    same_joins c.put_word.new.self c.args.word c.args.members.now c.joined.result
    (λ u has.
    let low : u < 64 = All-contains (λ x. x < 64) c.args.members.now u c.requires.within has
    in first_word c.of-row.result c.put_word.new.self c.args.word c.put_word.ensures.values u low
    (omega (arith, low, ap length c.of-row.ensures ∙ length-replicate 64 No)))
    c.joined.ensures
