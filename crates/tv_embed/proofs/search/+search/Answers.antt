use Rattle.std.proofs.Common.{ℕ, ◌≡◌, ◌<◌, ◌+◌, ◌-◌, ◌*◌, [], length, get_or, refl, ap, ◌∙◌, arith, rules}
use Rattle.std.proofs.lemmas.List.{get_or_read, length_push}
use Rattle.tv_embed.specs.Fits.{IsCandidate, FitsSoFar}
use Rattle.tv_embed.proofs.FitLaws.{FitsSoFar-push}
use Rattle.tv_embed.proofs.SearchLaws.{trying_none, trying_more, trying_found, trying_all, trying_fits}
use Rattle.tv_embed.proofs.SearchLaws.{searched_case, searched_none, none_joins}
use Rattle.tv_embed.proofs.search.+search.Goals as goal

pub search-loop-w-init : goal.search-loop-w-init
search-loop-w-init t c =
    let u : ℕ = length c.args.images.now.items
    in let count : c.len-u.result ≡ u = omega (arith, c.len-u.ensures)
    in let few : u < c.args.small.now.size = omega (arith, c.requires.few, c.requires.candidates.count, c.if-u-candidates.false)
    in let within : c.len-u.result < length c.args.candidates.now = omega (arith, c.requires.candidates.count)
    in trying_none c.args.small.now c.args.large.now c.args.images.now.items c.as_slice-w-items.result.now c.args.candidates.now
    c.requires.candidates few
    (c.as_slice-w-items.ensures
    ∙ get_or_read c.args.candidates.now c.len-u.result c.index-candidates-u.result within c.index-candidates-u.is []
    ∙ ap (λ k. get_or c.args.candidates.now k []) count)

pub search-try_image-requires : goal.search-try_image-requires
search-try_image-requires t c =
    let fits : (length c.loop-w.images.items < c.args.small.now.size) × FitsSoFar c.args.small.now c.args.large.now c.loop-w.images.items
    × (get_or c.as_slice-w-items.result.now c.loop-w.w-index 0 < c.args.large.now.size)
    × IsCandidate c.args.small.now c.args.large.now (length c.loop-w.images.items) (get_or c.as_slice-w-items.result.now c.loop-w.w-index 0)
    = trying_fits c.args.small.now c.args.large.now c.args.images.now.items c.loop-w.images.items c.as_slice-w-items.result.now
    c.loop-w.w-index c.loop-w.invariant c.loop-w-test.true c.requires.so_far
    in let same : length c.loop-w.images.items ≡ length c.args.images.now.items = ap length c.loop-w.invariant.same
    in let falls : 2 * (c.args.small.now.size - length c.loop-w.images.items) < t = omega (arith, c.decreases, same)
    in (search rules, (c.requires.vocabulary, (c.requires.candidates, (c.requires.bounds, (fits.0, (fits.1, (fits.2, fits.3)))))))

pub search-returns-then-branch : goal.search-returns-then-branch
search-returns-then-branch t c =
    trying_found c.args.small.now c.args.large.now c.args.images.now.items c.loop-w.images.items c.as_slice-w-items.result.now
    c.try_image.new.images.items c.loop-w.w-index c.loop-w.invariant c.loop-w-test.true
    (searched_case c.args.small.now c.args.large.now _ c.loop-w.images.items c.in_ok-try_image.field-0 c.try_image.new.images.items
    c.in_ok-try_image.ensures c.if-branch.true)

pub search-loop-w-preserved : goal.search-loop-w-preserved
search-loop-w-preserved t c =
    trying_more c.args.small.now c.args.large.now c.args.images.now.items c.loop-w.images.items c.as_slice-w-items.result.now
    c.try_image.new.images.items c.loop-w.w-index c.loop-w.invariant c.loop-w-test.true
    (searched_none c.args.small.now c.args.large.now _ c.loop-w.images.items c.in_ok-try_image.field-0 c.try_image.new.images.items
    c.in_ok-try_image.ensures c.if-branch.false)

pub search-returns : goal.search-returns
search-returns t c =
    trying_all c.args.small.now c.args.large.now c.args.images.now.items c.loop-w.images.items c.as_slice-w-items.result.now
    c.loop-w.w-index c.loop-w.invariant c.loop-w-test.false

pub try_image-returns-then-not-joins_up : goal.try_image-returns-then-not-joins_up
try_image-returns-then-not-joins_up t c = (
  none_joins c.args.small.now c.args.large.now c.args.images.now.items c.args.w c.requires.few
      (λ joins. absurd (cc (c.joins_up.ensures.1 (rw c.deref.ensures.value joins)))),
  refl,
)

pub try_image-search-requires : goal.try_image-search-requires
try_image-search-requires t c =
    let count : length c.push.new.self.items ≡ length c.args.images.now.items + 1
    = ap length c.in_ok-push.ensures.items ∙ length_push c.args.images.now.items c.args.w
    in let falls : 2 * (c.args.small.now.size - length c.push.new.self.items) + 1 < t = omega (arith, c.decreases, c.requires.few, count)
    in (
      search rules,
      (
        c.requires.vocabulary,
        (
          c.requires.candidates,
          (
            c.requires.bounds,
            (
              omega (arith, c.requires.few, count),
              rw c.in_ok-push.ensures.items
                  (FitsSoFar-push c.args.small.now c.args.large.now c.args.images.now.items c.args.w c.requires.so_far
                  c.requires.image c.requires.candidate
                  (rw c.deref.ensures.value at (c.joins_up.ensures.0 c.if-not-joins_up.false))),
            ),
          ),
        ),
      ),
    )
