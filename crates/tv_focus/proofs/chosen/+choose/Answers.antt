use Rattle.std.proofs.Common.{◌≡◌, ◌∙◌, List, [], ◌∷◌, ◌++◌, ap, sym, subst, arith, length, get_or}
use Rattle.std.specs.List.{flat_map, between}
use Rattle.std.proofs.lemmas.Slice.{first_rest}
use Rattle.tv_structure_form.specs.StructureForm.{StructureForm}
use Rattle.tv_focus_laws.specs.Choices.{ChoiceForm, VectorSet}
use Rattle.tv_focus_laws.specs.Written.{chosen_table}
use Rattle.tv_focus.specs.Puts.{chosen_tables}
use Rattle.tv_focus.specs.Seen.{aim_of}
use Rattle.tv_focus.proofs.ChosenTables.{one_more}
use Rattle.tv_focus.proofs.chosen.+choose.Goals as goal

pub choose_one-returns-in_ok-choose_one-in-len1-up-clause-out :
    goal.choose_one-returns-in_ok-choose_one-in-len1-up-clause-out
choose_one-returns-in_ok-choose_one-in-len1-up-clause-out t c =
    let table : ChoiceForm → StructureForm = chosen_table c.args.s.now c.args.p.0 (aim_of c.args.aim.now)
    in let whole : c.args.first.now
    ≡ get_or c.args.first.now 0 c.set-item.result ∷ between 1 (length c.args.first.now) c.args.first.now
    = first_rest c.args.first.now c.set-item.result (omega (arith, c.in-len1-up.len_at_least))
    in let Out : List VectorSet → Type 0 = λ sets. c.choose_one.new.out
    ≡ c.args.out.now ++ flat_map (λ one. chosen_tables table (c.args.choice.now.items ++ one ∷ []) c.args.rest.now) sets
    in subst Out (sym whole)
    (one_more table c.args.choice.now.items c.choose_with.new.choice.items c.args.rest.now
    (get_or c.args.first.now 0 c.set-item.result) (between 1 (length c.args.first.now) c.args.first.now)
    c.args.out.now c.choose_with.new.out c.choose_one.new.out c.in_ok-choose_with-in-len1-up.ensures.choice
    (c.in_ok-choose_with-in-len1-up.ensures.out
    ∙ ap (λ set. c.args.out.now ++ chosen_tables table (c.args.choice.now.items ++ set ∷ []) c.args.rest.now)
    (c.as_slice.ensures ∙ c.set-item.is))
    c.in_ok-choose_one-in-len1-up.ensures.out)
