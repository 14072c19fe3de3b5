use Rattle.std.proofs.Common.{◌≡◌, ◌≤◌, ◌<◌, ℕ, List, filter, get_or, length, rules, arith, ap, subst, ◌∙◌}
use Rattle.fp_flow.specs.declared.control.handlers.Handler.{Handler}
use Rattle.fp_flow.specs.Handlers.{is_active}
use Rattle.fp_flow.proofs.RisingOffsets.{instrs-few, offset-here}
use Rattle.fp_flow.proofs.Extending.{behind-more, behind-all}
use Rattle.fp_facts.specs.Edges.{edges_of}
use Rattle.fp_flow.proofs.control.edges_by.Goals as goal

pub loop-k-init : goal.loop-k-init
unfolding edges_of
loop-k-init c = search rules

pub overflow_cast-from : goal.overflow_cast-from
overflow_cast-from c =
    let few : length c.args.code.now.instrs ≤ 65536 = instrs-few c.args.code.now c.args.pcs.now 65536 c.requires.sound c.requires.pcs (λ k. omega (arith, c.type_inv.pcs k)) in
    omega (arith, ap length c.as_slice-placed-items.ensures)

pub push_from-requires-clause-next : goal.push_from-requires-clause-next
push_from-requires-clause-next c =
    let few : length c.args.code.now.instrs ≤ 65536 = instrs-few c.args.code.now c.args.pcs.now 65536 c.requires.sound c.requires.pcs (λ k. omega (arith, c.type_inv.pcs k)) in
    omega (arith, ap length c.as_slice-placed-items.ensures)

pub push_from-requires-clause-near : goal.push_from-requires-clause-near
push_from-requires-clause-near c =
    let same = c.as_slice-placed-items.ensures in
    let within : c.loop-k.k < length c.args.code.now.instrs = omega (arith, ap length same) in
    let here : c.placed-item.result ≡ get_or c.args.code.now.instrs c.loop-k.k c.placed-item.result = c.placed-item.is ∙ ap (λ l. get_or l c.loop-k.k c.placed-item.result) same in
    let at : get_or c.args.pcs.now c.loop-k.k 0 ≡ c.placed-item.result.0 = offset-here c.args.code.now c.args.pcs.now c.loop-k.k c.placed-item.result c.requires.pcs within here in
    let P : ℕ → Type 0 = λ pc. filter (is_active pc) c.in_ok-near.near.handlers.items ≡ filter (is_active pc) c.args.handlers.now in
    ap (λ (l : List Handler). filter (is_active c.placed-item.result.0) l) c.as_slice.ensures.value ∙
    subst P at (c.in_ok-near.ensures.active c.loop-k.k (omega arith) c.in_ok-near.ensures.until) ∙ ap (λ (l : List Handler). filter (is_active c.placed-item.result.0) l) c.requires.handlers

pub loop-k-preserved : goal.loop-k-preserved
loop-k-preserved c =
    let same = c.as_slice-placed-items.ensures in
    let within : c.loop-k.k < length c.args.code.now.instrs = omega (arith, ap length same) in
    let here : c.placed-item.result ≡ get_or c.args.code.now.instrs c.loop-k.k c.placed-item.result = c.placed-item.is ∙ ap (λ l. get_or l c.loop-k.k c.placed-item.result) same in
    record {
      edges =
          behind-more c.args.code.now c.loop-k.k c.placed-item.result c.loop-k.edges.items c.push_from.new.edges.items (edges_of c.args.code.now) within here c.loop-k.invariant.edges c.in_ok-push_from.ensures;
      near = λ j from to. c.in_ok-near.ensures.active j (omega arith) to;
    }

pub returns : goal.returns
returns c =
    let past : length c.args.code.now.instrs ≤ c.loop-k.k = omega (arith, ap length c.as_slice-placed-items.ensures) in
    behind-all c.args.code.now c.loop-k.k c.loop-k.edges.items (edges_of c.args.code.now) past c.loop-k.invariant.edges
