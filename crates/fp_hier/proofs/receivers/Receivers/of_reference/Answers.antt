use Rattle.std.proofs.Common.{◌≡◌, ◌+◌, false, true, ap, sym, ◌∙◌, arith}
use Rattle.std.proofs.lemmas.Result.{IfOk-weaker}
use Rattle.fp_facts.specs.Hierarchy.{is_array_name, is_object}
use Rattle.fp_facts.specs.Selection.{receivers}
use Rattle.fp_hier.specs.Receivers.{marked_in}
use Rattle.fp_hier.proofs.ReceiverNames.{of-class, of-object, of-other}
use Rattle.fp_hier.proofs.receivers.Receivers.of_reference.Goals as goal

pub returns-in-Some : goal.returns-in-Some
returns-in-Some c =
    let set = c.args.set.now in
    let r = c.args.self.now in
    IfOk-weaker c.of_row.result (λ ids. ids.items ≡ marked_in set r c.in-Some.id) (λ ids. ids.items ≡ receivers set c.args.name)
    (λ ids is. is ∙ of-class set r c.requires.rows c.args.name c.in-Some.id (sym c.in-Some.ensures.class))
    c.of_row.ensures

pub returns-then-is_object : goal.returns-then-is_object
returns-then-is_object c =
    let set = c.args.set.now in
    let r = c.args.self.now in
    let array : is_array_name set.names c.args.name ≡ false = ap (λ names. is_array_name names c.args.name) (sym c.names.ensures.names) ∙ sym c.if-is_array_name.ensures in
    let object : is_object set.names c.args.name ≡ true = ap (λ names. is_object names c.args.name) (sym c.names-2.ensures.names) ∙ sym c.if-is_object.ensures in
    let row = ap (λ n. marked_in set r (n + 1)) c.counts-classes.ensures.classes in
    IfOk-weaker c.of_row-then-is_object.result (λ ids. ids.items ≡ marked_in set r (c.counts-classes.result.0 + 1)) (λ ids. ids.items ≡ receivers set c.args.name)
    (λ ids is. is ∙ row ∙ of-object set r c.requires.rows c.args.name c.find_class.ensures.set.names (sym c.in_default.ensures.class) array object)
    c.of_row-then-is_object.ensures

pub returns : goal.returns
returns c =
    let set = c.args.set.now in
    let r = c.args.self.now in
    let array : is_array_name set.names c.args.name ≡ false = ap (λ names. is_array_name names c.args.name) (sym c.names.ensures.names) ∙ sym c.if-is_array_name.ensures in
    let object : is_object set.names c.args.name ≡ false = ap (λ names. is_object names c.args.name) (sym c.names-2.ensures.names) ∙ sym c.if-is_object.ensures in
    let row = ap (λ n. marked_in set r n) (omega (arith, c.counts-classes.ensures.classes)) in
    IfOk-weaker c.of_row-2.result (λ ids. ids.items ≡ marked_in set r (c.counts-classes.result.0 + 0)) (λ ids. ids.items ≡ receivers set c.args.name)
    (λ ids is. is ∙ row ∙ of-other set r c.requires.rows c.args.name (sym c.in_default.ensures.class) array object)
    c.of_row-2.ensures
