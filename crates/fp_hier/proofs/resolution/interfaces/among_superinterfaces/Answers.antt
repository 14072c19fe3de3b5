use Rattle.std.proofs.Common.{ℕ, List, Option, sym, ap, ◌∙◌}
use Rattle.fp_facts.specs.Hierarchy.{classes_among, superinterfaces_at}
use Rattle.fp_facts.specs.Resolution.{first_given}
use Rattle.fp_hier.specs.Given.{given_by_interface}
use Rattle.fp_hier.specs.Sought.{passes}
use Rattle.fp_hier.specs.Lineages.{rest_of}
use Rattle.fp_hier.proofs.FirstNamed.{gives-first, gives-later}
use Rattle.fp_hier.proofs.resolution.interfaces.among_superinterfaces.Goals as goal

pub returns-in-Some-among_names : goal.returns-in-Some-among_names
returns-in-Some-among_names c =
    let classes = c.args.set.now.classes in
    let among : List ℕ → Option ℕ = λ names. first_given (given_by_interface classes (passes c.args.wanted) c.args.signature.name c.args.signature.descr) (classes_among classes names) in
    let give : ℕ → Option ℕ = λ id. among (superinterfaces_at classes id) in
    gives-first give c.in-Some.id c.in-Some-among_names.method (rest_of classes c.step.new.self) (c.in-Some-among_names.ensures ∙ ap among (c.of-names.ensures c.args.set.now.classes c.requires.hier.lists))
    ∙ ap (first_given give) (sym c.in-Some.ensures.one)
    ∙ c.loop-id.invariant.given

pub loop-id-preserved : goal.loop-id-preserved
loop-id-preserved c =
    let classes = c.args.set.now.classes in
    let among : List ℕ → Option ℕ = λ names. first_given (given_by_interface classes (passes c.args.wanted) c.args.signature.name c.args.signature.descr) (classes_among classes names) in
    let give : ℕ → Option ℕ = λ id. among (superinterfaces_at classes id) in
    record {
      known = c.in-Some.ensures.known;
      given = gives-later give c.in-Some.id (rest_of classes c.step.new.self) (c.in_default-among_names.ensures ∙ ap among (c.of-names.ensures c.args.set.now.classes c.requires.hier.lists))
          ∙ ap (first_given give) (sym c.in-Some.ensures.one)
          ∙ c.loop-id.invariant.given;
    }
