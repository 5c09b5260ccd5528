use Rattle.std.proofs.Common.{ℕ, List, ◌≡◌, ◌<◌, ◌∙◌, [], ◌∷◌, get_or, refl, arith}
use Rattle.std.proofs.lemmas.List.{get_or_default}
use Rattle.tv_kleene.specs.declared.K3.{K3}
use Rattle.tv_row.specs.Bits.{paired, IsPairing}
use Rattle.tv_row.specs.Places.{word_at}
use Rattle.tv_row.proofs.RowOps.{FilledTo, four_filled, both_hold, both_rows}
use Rattle.tv_row.proofs.row.Row.word_by_word.Given as given
use Rattle.tv_row.proofs.row.Row.word_by_word.Goals as goal

made_at : (g : given.Over) (c : goal.After-drop-op g) (value : K3 → K3 → K3) (p : ℕ) (made a b : List K3) → p < 4
    → made ≡ paired value (get_or c.self.inside.words p a) (get_or c.other.inside.words p b)
    → made ≡ paired value (word_at c.self.inside.words p) (word_at c.other.inside.words p)
made_at g c value p made a b lt e =
    e
    ∙ (rw (
      get_or_default c.self.inside.words p a [] (omega (arith, c.self.invariant.as_many)),
      get_or_default c.other.inside.words p b [] (omega (arith, c.other.invariant.as_many)),
    ) refl)

filled : (g : given.Over) (c : goal.After-drop-op g) (value : K3 → K3 → K3) → IsPairing value (given.F-post g c.args.op)
    → FilledTo (c.op.result ∷ c.op-2.result ∷ c.op-3.result ∷ c.op-4.result ∷ []) 4
    (λ v. paired value (word_at c.self.inside.words v) (word_at c.other.inside.words v))
filled g c value is =
    four_filled c.op.result c.op-2.result c.op-3.result c.op-4.result
    (λ v. paired value (word_at c.self.inside.words v) (word_at c.other.inside.words v))
    (made_at g c value 0 c.op.result c.index-self-0.result c.index-other-0.result (omega arith) (is.each _ _ c.op.result c.op.ensures))
    (made_at g c value 1 c.op-2.result c.index-self-1.result c.index-other-1.result (omega arith) (is.each _ _ c.op-2.result c.op-2.ensures))
    (made_at g c value 2 c.op-3.result c.index-self-2.result c.index-other-2.result (omega arith) (is.each _ _ c.op-3.result c.op-3.ensures))
    (made_at g c value 3 c.op-4.result c.index-self-3.result c.index-other-3.result (omega arith) (is.each _ _ c.op-4.result c.op-4.ensures))

pub invariant_of-result : goal.invariant_of-result
invariant_of-result g c =
    both_hold c.self.inside.words c.other.inside.words _ c.self.inside.size c.other.inside.size 4 c.args.self.now c.args.other.now
    c.requires.pairing.0 c.requires.pairing.1.none c.self.invariant c.other.invariant c.self.view_is c.other.view_is
    c.requires.lengths (filled g c c.requires.pairing.0 c.requires.pairing.1) (omega (arith, c.self.invariant.small)) (omega arith)

pub returns : goal.returns
returns g c = λ value is.
    both_rows c.self.inside.words c.other.inside.words _ c.self.inside.size c.other.inside.size 4 c.args.self.now c.args.other.now
    value is.none c.self.invariant c.other.invariant c.self.view_is c.other.view_is c.requires.lengths (filled g c value is)
    (omega (arith, c.self.invariant.small)) (omega arith)
