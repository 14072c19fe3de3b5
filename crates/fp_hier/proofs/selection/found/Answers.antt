use Rattle.std.proofs.Common.{◌≡◌, false, true, not, refl, ap, ◌∙◌}
use Rattle.fp_facts.specs.Resolution.{has_code, is_native}
use Rattle.fp_hier.proofs.SelectedTargets.{found-at, found-coded, found-uncoded, none-told, one-told}
use Rattle.fp_hier.proofs.selection.found.Goals as goal

pub returns-then-is_none : goal.returns-then-is_none
returns-then-is_none c =
    let classes = c.args.set.now.classes in
    let m = c.method-method.result.now in
    let coded : has_code m ≡ false = c.is_none.ensures ∙ ap not c.if-is_none.true in
    none-told _ (is_native m) _ c.none.result (found-at classes c.args.id m c.method-method.ensures ∙ found-uncoded c.args.id m coded) c.none.ensures.methods (c.none.ensures.outside ∙ c.is_native.ensures)

pub returns : goal.returns
returns c =
    let classes = c.args.set.now.classes in
    let m = c.method-method.result.now in
    let coded : has_code m ≡ true = c.is_none.ensures ∙ ap not c.if-is_none.false in
    one-told _ c.args.id _ (record { methods = c.from_vec.result; outside = false }) c.requires (found-at classes c.args.id m c.method-method.ensures ∙ found-coded c.args.id m coded) (c.from_vec.ensures ∙ c.in_ok-from_array.ensures.items) refl
