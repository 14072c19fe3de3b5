use Rattle.std.proofs.Common.{sym, arith, length-take-le}
use Rattle.fp_attr.proofs.Spelled.{behind_found}
use Rattle.fp_attr.proofs.attribute.attribute.Goals as goal

pub slice_bounds-window-end : goal.slice_bounds-window-end
slice_bounds-window-end c =
    let found = behind_found c.args.bytes.now c.in_ok-len.len c.in_ok-len.start c.in_ok-end.end c.in_ok-end.ensures in
    sym (length-take-le c.in_ok-end.end c.args.bytes.now (omega (arith, found.0, found.1)))
