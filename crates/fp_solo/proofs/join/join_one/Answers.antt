use Rattle.std.proofs.Common.{◌≡◌, ◌<◌, length, get_or, set, slice_index, bit_or, ap, sym, ◌∙◌}
use Rattle.std.proofs.lemmas.List.{get_or_read, get_or-set_same}
use Rattle.fp_eqs.specs.Solved.{flag_at}
use Rattle.fp_solo.specs.Recorded.{is_read}
use Rattle.fp_solo.proofs.JoinLemmas.{joins-here, joins-nothing, wakes-none, wakes-one}
use Rattle.fp_solo.proofs.join.join_one.Goals as goal

pub returns-then-joined-value-clause-values : goal.returns-then-joined-value-clause-values
returns-then-joined-value-clause-values g c =
    let values = c.args.values.now.items in
    let inside : c.args.place < length values = rw c.requires.values c.requires.place in
    let word : c.index-value.result.now ≡ get_or values c.args.place 0 = get_or_read values c.args.place _ inside c.index-value.ensures 0 in
    let same : bit_or (get_or values c.args.place 0) c.args.bits ≡ get_or values c.args.place 0 = ap (λ v. bit_or v c.args.bits) (sym word) ∙ c.if-joined-value.true ∙ word in
    joins-nothing (slice_index values) c.args.place c.args.bits same

pub returns-then-joined-value-clause-wakes : goal.returns-then-joined-value-clause-wakes
returns-then-joined-value-clause-wakes g c =
    wakes-none (g.S.System.equations c.args.system.now.system).places (is_read c.args.reads.now) (slice_index c.args.values.now.items) (flag_at c.args.due.now.flags.items)

pub returns-clause-values : goal.returns-clause-values
returns-clause-values g c =
    let values = c.args.values.now.items in
    let inside : c.args.place < length values = rw c.requires.values c.requires.place in
    joins-here values c.args.place c.args.bits c.index-value.result.now inside (get_or_read values c.args.place _ inside c.index-value.ensures 0)

pub returns-clause-wakes : goal.returns-clause-wakes
returns-clause-wakes g c =
    let values = c.args.values.now.items in
    let inside : c.args.place < length values = rw c.requires.values c.requires.place in
    let word : c.index-value.result.now ≡ get_or values c.args.place 0 = get_or_read values c.args.place _ inside c.index-value.ensures 0 in
    let joined = bit_or c.index-value.result.now c.args.bits in
    wakes-one (g.S.System.equations c.args.system.now.system).places (is_read c.args.reads.now) (slice_index values) (slice_index (set values c.args.place joined))
    (flag_at c.args.due.now.flags.items) (flag_at c.wake.new.due.flags.items) c.args.place c.args.bits c.requires.place
    (joins-here values c.args.place c.args.bits c.index-value.result.now inside word)
    (λ same. c.if-joined-value.false (sym (get_or-set_same values c.args.place joined 0 inside) ∙ sym same ∙ sym word))
    c.in_ok-wake.ensures.woken
