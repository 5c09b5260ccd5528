use Rattle.std.proofs.Common.{◌∙◌, ℕ, List, fold, ap, sym}
use Rattle.tv_kleene.specs.declared.K3.{K3}
use Rattle.tv_row.specs.Mixed.{word_mixed}
use Rattle.tv_row.specs.Packed.{PackedForm, cells_for, packed}
use Rattle.tv_struct.specs.Signature.{table_packed}
use Rattle.tv_structure_form.specs.TableForm.{TableForm}
use Rattle.tv_struct.proofs.WordsLaws.{table_words_are}
use Rattle.tv_struct.proofs.planes.Planes.mix.Goals as goal

pub returns : goal.returns
returns c =
    c.mix.ensures.value
    ∙ ap (λ (f : PackedForm). fold word_mixed c.args.hash (packed f))
    (ap (λ (n : ℕ). record { cells = n; words = c.self.inside.words.words }) c.self.invariant.room
    ∙ ap (λ (ws : List (List K3)). record { cells = cells_for c.self.inside.layout.size; words = ws })
    (sym (table_words_are c.self.inside.layout c.self.inside.words.words c.self.invariant.table c.mix.ensures.words)))
    ∙ ap (λ (t : TableForm). fold word_mixed c.args.hash (table_packed t)) c.self.view_is
