use Rattle.std.proofs.Common.{◌≡◌, ◌++◌, ◌∙◌, List, ℕ, OnOk, ap, codes, subst}
use Rattle.tv_stages_text.specs.Texts.{for_text, value_word}
use Rattle.tv_stages_text.proofs.Turns.{put, rest}
use Rattle.tv_stages_text.proofs.words.append_precondition.Goals as goal

pub returns : goal.returns
returns c =
    let r = c.extend_from_slice-3.result in
    let new = c.extend_from_slice-3.new.self.items in
    let value = value_word c.args.pick.now.value in
    let picked = for_text c.args.pick.now.individuals in
    rest r c.args.out.now.items c.extend_from_slice.new.self.items new (codes "stage     precondition is ")
    (value ++ (picked ++ codes "\n")) c.in_ok-extend_from_slice.ensures.items
    (rest r c.extend_from_slice.new.self.items c.extend_from_slice-2.new.self.items new value
    (picked ++ codes "\n")
    (c.in_ok-extend_from_slice-2.ensures.items ∙ ap (λ xs. c.extend_from_slice.new.self.items ++ xs) c.value_word.ensures)
    (rest r c.extend_from_slice-2.new.self.items c.append_for.new.out.items new picked (codes "\n")
    (subst (λ (us : List ℕ). c.append_for.new.out.items ≡ c.extend_from_slice-2.new.self.items ++ for_text us)
    c.as_slice.ensures c.in_ok-append_for.ensures)
    (put r c.append_for.new.out.items new (codes "\n") c.extend_from_slice-3.ensures.items)))
