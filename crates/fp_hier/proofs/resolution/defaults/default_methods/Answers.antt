use Rattle.std.proofs.Common.{◌≡◌, ◌++◌, ℕ, List, sym, ap, ◌∙◌}
use Rattle.std.specs.List.{flat_map}
use Rattle.fp_facts.specs.Hierarchy.{classes_among, superclasses, superinterfaces_at}
use Rattle.fp_hier.specs.Given.{is_open_with_code}
use Rattle.fp_hier.specs.Lineages.{classes_up, rest_of}
use Rattle.fp_hier.proofs.FirstNamed.{list-given}
use Rattle.fp_hier.proofs.InterfaceMethods.{all-above, all_of}
use Rattle.fp_hier.proofs.resolution.defaults.default_methods.Goals as goal

pub loop-id-init : goal.loop-id-init
loop-id-init c =
    let classes = c.args.set.now.classes in
    let own = c.class-own.result.now in
    let all : List ℕ → List ℕ = all_of classes is_open_with_code c.args.signature.name c.args.signature.descr in
    let each : List ℕ → List ℕ = flat_map (λ id. all (classes_among classes (superinterfaces_at classes id))) in
    let pushed : c.push_of_superclasses.new.methods.items ≡ all (classes_among classes (superclasses classes own)) =
    c.in_ok-push_of_superclasses.ensures ∙ ap (λ l. l ++ all (classes_among classes (superclasses classes own))) c.new-methods.ensures.items in
    record {
      known = c.of-rest.ensures.known;
      pushed = λ d is.
          ap (λ ids. c.push_of_superclasses.new.methods.items ++ each ids) c.of-rest.ensures.rest
          ∙ ap (λ l. l ++ each (classes_up classes c.args.class)) pushed
          ∙ all-above classes is_open_with_code c.args.signature.name c.args.signature.descr c.args.class own d c.class-own.ensures.class is;
    }

pub loop-id-preserved : goal.loop-id-preserved
loop-id-preserved c =
    let classes = c.args.set.now.classes in
    let of_names : List ℕ → List ℕ = λ names. all_of classes is_open_with_code c.args.signature.name c.args.signature.descr (classes_among classes names) in
    let each : ℕ → List ℕ = λ id. of_names (superinterfaces_at classes id) in
    let before = c.loop-id.methods.items in
    record {
      known = c.in-Some.ensures.known;
      pushed = λ d is.
          list-given each c.in-Some.id (rest_of classes c.step.new.self) before (of_names c.of-names.result.now) c.push_of_names.new.methods.items (ap of_names (c.of-names.ensures c.args.set.now.classes c.requires.hier.lists)) c.in_ok-push_of_names.ensures
          ∙ ap (λ ids. before ++ flat_map each ids) (sym c.in-Some.ensures.one)
          ∙ c.loop-id.invariant.pushed d is;
    }
