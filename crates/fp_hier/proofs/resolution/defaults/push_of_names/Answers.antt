use Rattle.std.proofs.Common.{◌+◌, ◌++◌, ℕ, List, Option, drop, ap, ◌∙◌}
use Rattle.std.specs.List.{flat_map}
use Rattle.std.specs.Option.{option_to_list}
use Rattle.fp_facts.specs.Hierarchy.{classes_among}
use Rattle.fp_hier.specs.Given.{given_by_interface, is_open_with_code}
use Rattle.fp_hier.proofs.FirstNamed.{more-given, name-known, name-outside, none-given}
use Rattle.fp_hier.proofs.resolution.defaults.push_of_names.Goals as goal
use Rattle.fp_hier.proofs.resolution.defaults.push_of_names.Goals.{in-Some-of_interface+in_ok-push, in_default-of_interface}

pub loop-interface-preserved-in_default : goal.loop-interface-preserved-in_default
loop-interface-preserved-in_default c =
    let all : List ℕ → List ℕ = λ ids. flat_map (λ id. option_to_list (given_by_interface c.args.set.now.classes is_open_with_code c.args.signature.name c.args.signature.descr id)) ids in
    ap (λ (ids : List ℕ). c.loop-interface.methods.items ++ all ids) (name-outside c.args.set.now.classes c.args.names.now c.loop-interface.interface-index c.loop-interface-test.true c.in_default.ensures.class)
    ∙ c.loop-interface.invariant

pub loop-interface-preserved : goal.loop-interface-preserved
loop-interface-preserved c =
    let give : ℕ → Option ℕ = given_by_interface c.args.set.now.classes is_open_with_code c.args.signature.name c.args.signature.descr in
    let all : List ℕ → List ℕ = λ ids. flat_map (λ id. option_to_list (give id)) ids in
    let before : List ℕ = c.loop-interface.methods.items in
    let rest : List ℕ = classes_among c.args.set.now.classes (drop (c.loop-interface.interface-index + 1) c.args.names.now) in
    let known = ap (λ (ids : List ℕ). before ++ all ids) (name-known c.args.set.now.classes c.args.names.now c.loop-interface.interface-index c.loop-interface-test.true c.in-Some.id c.in-Some.ensures.class) in
    elim c.match-of_interface.branch [
      | in-Some-of_interface+in_ok-push w ↦
          more-given give c.in-Some.id w.in-Some-of_interface.method rest before c.match-of_interface.methods.items w.in-Some-of_interface.ensures (ap (λ v. v.items) w.methods-is ∙ w.in_ok-push.ensures.items)
          ∙ known
          ∙ c.loop-interface.invariant
      | in_default-of_interface w ↦
          ap (λ v. v.items ++ all rest) w.methods-is
          ∙ none-given give c.in-Some.id rest before w.in_default-of_interface.ensures
          ∙ known
          ∙ c.loop-interface.invariant
    ]
