use Rattle.std.proofs.Common.{◌∙◌, refl, replicate, ℕ, subst, sym, ap, arith}
use Rattle.tv_kleene.specs.declared.K3.TheVariants.{No}
use Rattle.tv_row.specs.Packed.{PackedForm, cells_for}
use Rattle.tv_struct.specs.LayoutForm.{HoldsPackedTable, table_held}
use Rattle.tv_struct.proofs.HeldLaws.{IsTable-held, HoldsTable-no, table_no, words_small}
use Rattle.tv_struct.proofs.planes.all_no.Goals as goal

pub of_no-requires : goal.of_no-requires
of_no-requires c = omega (arith, c.word_count.ensures, (words_small c.args.layout c.requires).2)

pub invariant_of-result : goal.invariant_of-result
invariant_of-result c =
    subst (HoldsPackedTable c.args.layout)
    (sym (c.in_ok-words.ensures
    ∙ ap (λ (n : ℕ). record { cells = cells_for n; words = replicate c.word_count.result (replicate 64 No) }) c.size.ensures.size
    ∙ ap (λ (n : ℕ). record { cells = cells_for c.args.layout.size; words = replicate n (replicate 64 No) }) c.word_count.ensures))
    (record { table = HoldsTable-no c.args.layout c.requires; room = refl })

pub returns-clause-value : goal.returns-clause-value
returns-clause-value c =
    ap (λ (f : PackedForm). table_held c.args.layout f.words) c.in_ok-words.ensures ∙ table_no c.args.layout c.word_count.result

pub returns-clause-kept : goal.returns-clause-kept
returns-clause-kept c = IsTable-held c.args.layout c.in_ok-words.words.words c.requires
