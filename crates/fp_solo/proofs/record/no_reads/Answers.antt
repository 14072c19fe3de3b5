use Rattle.std.proofs.Common.{◌≡◌, ℕ, List, false, get_or, [], slice_index, ap, ◌∙◌, arith}
use Rattle.fp_links.specs.Linked.{Pair, has_task}
use Rattle.fp_solo.specs.Recorded.{is_read}
use Rattle.fp_solo.proofs.CountLemmas.{count-none}
use Rattle.fp_solo.proofs.record.no_reads.Goals as goal

pub returns-clause-reads : goal.returns-clause-reads
returns-clause-reads g c =
    let none : (t p : ℕ) → is_read c.reserve.new.self t p ≡ false =
    λ t p. ap (λ (es : List Pair). has_task es t) (c.reserve.ensures.rows p ∙ ap (λ (rows : List (List Pair)). get_or rows p []) c.new-links.ensures.rows) in
    record {
      places = omega (arith, c.in_ok-reserve.ensures.known.1, c.places.ensures);
      tasks = omega (arith, c.in_ok-reserve.ensures.known.0, c.tasks.ensures);
      readers = λ t p h. let never = none t p in cc;
    }

pub returns-clause-counts : goal.returns-clause-counts
returns-clause-counts g c =
    let none : (t p : ℕ) → is_read c.reserve.new.self t p ≡ false =
    λ t p. ap (λ (es : List Pair). has_task es t) (c.reserve.ensures.rows p ∙ ap (λ (rows : List (List Pair)). get_or rows p []) c.new-links.ensures.rows) in
    record {
      long = c.in_ok-counts.ensures.long ∙ c.tasks-2.ensures;
      counts = λ t lt. count-none (is_read c.reserve.new.self t) (slice_index c.in_ok-counts.counts.items t) (none t) (c.in_ok-counts.ensures.zeros t);
    }

pub returns-clause-none : goal.returns-clause-none
returns-clause-none g c t p =
    ap (λ (es : List Pair). has_task es t) (c.reserve.ensures.rows p ∙ ap (λ (rows : List (List Pair)). get_or rows p []) c.new-links.ensures.rows)
