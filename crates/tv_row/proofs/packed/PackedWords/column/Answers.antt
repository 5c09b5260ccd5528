use Rattle.std.proofs.Common.{◌+◌, ◌*◌, ◌∙◌, ◌∷◌, [], cond, length, get_or, ap, arith}
use Rattle.std.proofs.lemmas.Bool.{lt-ltb, le-ltb}
use Rattle.std.proofs.lemmas.List.FromFn.{fill_by_all}
use Rattle.tv_kleene.specs.declared.K3.TheVariants.{No}
use Rattle.tv_row.specs.Places.{value_in}
use Rattle.tv_row.proofs.PackedLaws.{alone_value}
use Rattle.tv_row.proofs.PlaceLaws.{length-row_of}
use Rattle.tv_row.proofs.WordOps.{length-padded, get_or-padded}
use Rattle.tv_row.proofs.packed.PackedWords.column.Goals as goal

pub alone-requires-clause-long : goal.alone-requires-clause-long
alone-requires-clause-long c =
    ap length c.first.ensures
    ∙ length-padded c.args.rows c.column_word-word.result (omega (arith, c.if-rows-le64.true)) c.column_word-word.ensures.long

pub alone-requires-clause-unused : goal.alone-requires-clause-unused
alone-requires-clause-unused c = λ u le low.
    ap (λ word. get_or word u No) c.first.ensures
    ∙ get_or-padded c.args.rows c.column_word-word.result u (omega (arith, c.if-rows-le64.true)) c.column_word-word.ensures.long low
    ∙ ap (λ t. cond t (get_or c.column_word-word.result u No) No) (le-ltb u c.args.rows le)

pub returns-then-rows-le64 : goal.returns-then-rows-le64
returns-then-rows-le64 c =
    fill_by_all (λ u. value_in c.args.self.now.words (c.args.start + u * c.args.width) c.args.column) c.alone.result c.args.rows No
    (ap length c.alone.ensures ∙ length-row_of (c.first.result ∷ []) c.args.rows 0)
    (λ u lt.
    ap (λ row. get_or row u No) c.alone.ensures ∙ alone_value c.first.result c.args.rows u (omega (arith, c.if-rows-le64.true)) lt
    ∙ ap (λ word. get_or word u No) c.first.ensures
    ∙ get_or-padded c.args.rows c.column_word-word.result u (omega (arith, c.if-rows-le64.true)) c.column_word-word.ensures.long
    (omega (arith, lt, c.if-rows-le64.true))
    ∙ ap (λ t. cond t (get_or c.column_word-word.result u No) No) (lt-ltb u c.args.rows lt)
    ∙ c.column_word-word.ensures.values u lt)
