use Rattle.std.proofs.Common.{◌++◌}
use Rattle.fp_facts.specs.References.{same_reference}
use Rattle.fp_extract.proofs.MetReferences.{first-stays, number-told, same-self, table-told}
use Rattle.fp_extract.proofs.references.References.number.Goals as goal

pub returns-clause-table : goal.returns-clause-table
returns-clause-table c =
    let keys = c.in_ok-number.ensures.keys in
    let told = table-told c.args.self.now c.args.reference in
    let view = c.self.view_is in
    cc

pub returns-clause-number : goal.returns-clause-number
returns-clause-number c = λ more.
    let keys = c.in_ok-number.ensures.keys in
    let index = c.in_ok-number.ensures.index in
    let view = c.self.view_is in
    let same = c.in-Ok.ensures in
    let told = number-told (c.insert_full.new.self.keys ++ more) c.args.reference in
    let first = first-stays (same_reference c.args.reference) c.args.self.now c.args.reference more (same-self c.args.reference) in
    cc
