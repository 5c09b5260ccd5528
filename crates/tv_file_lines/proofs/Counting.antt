-- Line feeds that are counted on from place to place.
use Rattle.std.proofs.Common.{◌≡◌, ℕ, ◌+◌, ◌-◌, ◌≤◌, List, ◌++◌, length, take, drop, ap, ◌∙◌, arith}
use Rattle.std.specs.Prelude.{slice_range}
use Rattle.std.proofs.Math.Seq.{take-add}
use Rattle.std.proofs.lemmas.List.{drop-drop}
use Rattle.std.proofs.lemmas.List.Sums.{sum_by-append}
use Rattle.tv_lex.specs.Parts.{line_feeds}
use Rattle.tv_file_lines.specs.Counts.{IsCountIn}
use Rattle.tv_file_lines.specs.declared.count.Count.{Count}

joined : (text : List ℕ) (start mid end : ℕ) → start ≤ mid → mid ≤ end
    → slice_range text start end ≡ slice_range text start mid ++ slice_range text mid end
joined text start mid end first last =
    let whole : end - start ≡ (mid - start) + (end - mid) = omega (arith, first, last) in
    let from : start + (mid - start) ≡ mid = omega (arith, first) in
    ap (λ n. take n (drop start text)) whole ∙ take-add (mid - start) (end - mid) (drop start text)
    ∙ ap (λ l. take (mid - start) (drop start text) ++ take (end - mid) l)
    (drop-drop (mid - start) start text ∙ ap (λ n. drop n text) from)

pub counted : (text : List ℕ) (count : Count) (start end more : ℕ) → IsCountIn text count → count.start ≡ start
    → count.end ≤ end → end ≤ length text → more ≡ line_feeds (slice_range text count.end end)
    → IsCountIn text (record { start = start; end = end; feeds = count.feeds + more })
counted text count start end more is from order within further =
    let parts : line_feeds (slice_range text count.start end)
    ≡ line_feeds (slice_range text count.start count.end) + line_feeds (slice_range text count.end end) =
    ap line_feeds (joined text count.start count.end end is.order order)
    ∙ sum_by-append _ (slice_range text count.start count.end) (slice_range text count.end end) in
    let same : line_feeds (slice_range text count.start end) ≡ line_feeds (slice_range text start end) =
    ap (λ n. line_feeds (slice_range text n end)) from in
    record {
      order = omega (arith, from, is.order, order);
      within = within;
      feeds = omega (arith, parts, same, is.feeds, further);
    }
