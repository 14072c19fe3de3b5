use Rattle.std.proofs.Common.{◌≡◌, filter, map, ap, sym, subst, ◌∙◌}
use Rattle.std.specs.List.Sorted.{IsStrictlyIncreasing}
use Rattle.fp_facts.specs.Hierarchy.{has_number}
use Rattle.fp_facts.specs.Selection.{bits_of}
use Rattle.fp_hier.specs.Bits.{as_reached, has_bits}
use Rattle.fp_hier.proofs.TargetBits.{bits-rise}
use Rattle.fp_hier.proofs.ToldCalls.{targets-told, told_bits}
use Rattle.fp_hier.proofs.bits.told_targets.Goals as goal

pub watched-requires-clause-always_rising : goal.watched-requires-clause-always_rising
watched-requires-clause-always_rising c =
    subst IsStrictlyIncreasing (sym (c.as_slice-3.ensures.value ∙ c.in_ok-always_bits.ensures)) (bits-rise c.as_slice.result.now (as_reached c.args.always.now))

pub returns : goal.returns
returns c =
    let always = c.args.always.now in
    let told = c.args.by_class.now in
    let targets = c.ascending-targets.result.items in
    let same : c.from_vec.result ≡ targets = c.from_vec.ensures in
    targets-told always told (record { targets = c.from_vec.result; always = c.from_vec-2.result; watch = c.from_vec-3.result })
    (subst IsStrictlyIncreasing (sym same) c.ascending-targets.ensures.rising)
    (λ m.
    ap (λ l. has_number l m) same ∙ c.ascending-targets.ensures.members m
    ∙ ap (λ l. has_number l m) c.in_ok-all_methods.ensures)
    (c.from_vec-2.ensures ∙ c.in_ok-always_bits.ensures ∙ ap (λ l. bits_of l (as_reached always)) (c.as_slice.ensures.value ∙ sym same))
    (c.from_vec-3.ensures ∙ c.in_ok-watch.ensures
    ∙ ap (λ l. filter has_bits (map (told_bits l c.as_slice-3.result.now) told)) (c.as_slice-2.ensures.value ∙ sym same)
    ∙ ap (λ l. filter has_bits (map (told_bits c.from_vec.result l) told)) (c.as_slice-3.ensures.value ∙ sym c.from_vec-2.ensures))
