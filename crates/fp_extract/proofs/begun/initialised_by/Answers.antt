use Rattle.fp_hier.proofs.DeclaringClasses.{declaring, declaring-field}
use Rattle.fp_extract.proofs.InitialisedClasses.{by-static-call, by-static-field}
use Rattle.fp_extract.proofs.begun.initialised_by.Goals as goal

pub returns-in_ok-method-in-InvokeStatic : goal.returns-in_ok-method-in-InvokeStatic
returns-in_ok-method-in-InvokeStatic c =
    let call = c.in-InvokeStatic in
    let found = c.in_ok-method-in-InvokeStatic in
    let class = c.class_of_method in
    by-static-call c.args.set.now.classes c.args.instr.now call.class call.name call.descr call.kinds found.method class.result call.is found.ensures.method
    (declaring c.args.set.now.classes found.method class.result class.ensures.class class.ensures.from class.ensures.to)

pub returns-in_ok-field-in-GetStatic : goal.returns-in_ok-field-in-GetStatic
returns-in_ok-field-in-GetStatic c =
    let found = c.in_ok-field-in-GetStatic in
    let class = c.class_of_field in
    by-static-field c.args.set.now.classes c.args.instr.now found.field class.result c.in-GetStatic.is found.ensures.field
    (declaring-field c.args.set.now.classes found.field class.result class.ensures.class class.ensures.from class.ensures.to)
