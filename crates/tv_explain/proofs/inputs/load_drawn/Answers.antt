use Rattle.std.proofs.lemmas.Result.{IfOk-weaker}
use Rattle.tv_texts.proofs.Begins.{begins_anyway}
use Rattle.tv_explain.proofs.inputs.load_drawn.Goals as goal

pub returns-clause-means : goal.returns-clause-means
returns-clause-means g c = IfOk-weaker c.drawn_in.result _ _
    (λ drawn is. (
      c.in_ok-gathered.gathered.bytes.items,
      c.in_ok-gathered.ensures.text,
      is _ c.args.name.now c.in_ok-gathered.ensures.parts,
    ))
    c.drawn_in.ensures.means

pub returns-clause-begins : goal.returns-clause-begins
returns-clause-begins g c =
    begins_anyway c.drawn_in.result _ _ _ _ c.in_ok-gathered.ensures.begins
