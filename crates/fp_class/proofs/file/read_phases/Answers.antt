use Rattle.std.proofs.Common.{◌≡◌, Ok, length, subst, arith}
use Rattle.std.proofs.lemmas.Result.{err_from_is_err_and}
use Rattle.fp_model.specs.References.{entries_checked}
use Rattle.std.proofs.lemmas.Bool.{ltb-true}
use Rattle.fp_class.specs.ClassFile.{entries_start}
use Rattle.fp_class.proofs.Heads.{layout_inside, layout_room}
use Rattle.fp_class.proofs.Facts.{layout_facts}
use Rattle.fp_class.proofs.Phases.{fails_named}
use Rattle.fp_class.proofs.file.read_phases.Goals as goal

pub check_references-requires : goal.check_references-requires
check_references-requires c =
    let room = layout_room c.args.bytes.now (record { below = λ i. omega (arith, c.type_inv.bytes i) }) c.in_ok-layout.layout c.in_ok-layout.ensures in
    let inside = layout_inside c.args.bytes.now (record { below = λ i. omega (arith, c.type_inv.bytes i) }) c.in_ok-layout.layout c.in_ok-layout.ensures in
    rw c.as_slice.ensures (omega (arith, room.0, room.1, inside, c.requires))

pub check_names-requires : goal.check_names-requires
check_names-requires c =
    let room = layout_room c.args.bytes.now (record { below = λ i. omega (arith, c.type_inv.bytes i) }) c.in_ok-layout.layout c.in_ok-layout.ensures in
    let inside = layout_inside c.args.bytes.now (record { below = λ i. omega (arith, c.type_inv.bytes i) }) c.in_ok-layout.layout c.in_ok-layout.ensures in
    omega (arith, room.1, inside, c.requires)

pub returns-in_err-check_names : goal.returns-in_err-check_names
returns-in_err-check_names c =
    let p = err_from_is_err_and c.from_residual-in_err-check_names.result c.from_residual-in_err-check_names.ensures.1 in
    let entries = c.in_ok-layout.layout.pool.entries in
    let referred = subst (λ l. entries_checked l entries_start l ≡ Ok tt) c.as_slice.ensures c.in_ok-check_references.ensures in
    rw (p.1, p.2)
    (fails_named c.in_err-check_names.field-0.0 c.args.bytes.now c.in_ok-layout.layout c.in_ok-layout.ensures referred c.in_err-check_names.ensures)

pub read_parts-requires-clause-few : goal.read_parts-requires-clause-few
read_parts-requires-clause-few c =
    let facts = layout_facts c.args.bytes.now (record { below = λ i. omega (arith, c.type_inv.bytes i) }) c.in_ok-layout.layout c.in_ok-layout.ensures in
    omega (arith, ltb-true (length c.in_ok-layout.layout.pool.entries) 65536 facts.few_entries)

pub read_parts-requires-clause-short : goal.read_parts-requires-clause-short
read_parts-requires-clause-short c = (layout_facts c.args.bytes.now (record { below = λ i. omega (arith, c.type_inv.bytes i) }) c.in_ok-layout.layout c.in_ok-layout.ensures).short

pub read_parts-requires-clause-room : goal.read_parts-requires-clause-room
read_parts-requires-clause-room c =
    let room = layout_room c.args.bytes.now (record { below = λ i. omega (arith, c.type_inv.bytes i) }) c.in_ok-layout.layout c.in_ok-layout.ensures in
    let inside = layout_inside c.args.bytes.now (record { below = λ i. omega (arith, c.type_inv.bytes i) }) c.in_ok-layout.layout c.in_ok-layout.ensures in
    omega (arith, room.0, room.1, inside, c.requires)
