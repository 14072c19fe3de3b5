use Rattle.std.proofs.Common.{◌++◌, refl, sym, ap, ◌∙◌}
use Rattle.std.proofs.lemmas.List.{append-nil}
use Rattle.fp_base.specs.Files.{texts}
use Rattle.fp_class.specs.Naming.{taken_names}
use Rattle.fp_model.proofs.Taking.{kept_by}
use Rattle.fp_load.proofs.GatheringLemmas.{class_named, full_named, gets_full, has_room, module_named, path_with_class, path_without_class, stays_full}
use Rattle.fp_load.proofs.gathering.add_raw.Goals as goal

pub returns-then-gathered-clause-numbered : goal.returns-then-gathered-clause-numbered
returns-then-gathered-clause-numbered c = λ raws numbered.
    stays_full raws c.args.raw.now c.args.gathered.now.names c.args.gathered.now.classes.items c.args.gathered.now.full c.if-gathered.true c.requires numbered

pub returns-in_ok-add_class-in-Ok-Some-clause-paths : goal.returns-in_ok-add_class-in-Ok-Some-clause-paths
returns-in_ok-add_class-in-Ok-Some-clause-paths c = λ _.
    c.in_ok-add_class-in-Ok-Some.ensures.paths
    ∙ ap (λ l. texts c.args.gathered.now.paths.items ++ l) (sym (path_with_class c.args.path.now c.args.raw.now c.in-Ok-Some.class (rw c.in-Ok-Some.field-0-is at c.in-Ok-Some.ensures.none)))

pub returns-in_ok-add_class-in-Ok-Some-clause-numbered : goal.returns-in_ok-add_class-in-Ok-Some-clause-numbered
returns-in_ok-add_class-in-Ok-Some-clause-numbered c = λ raws numbered.
    has_room raws c.args.raw.now c.args.gathered.now.names c.to_class.new.names c.args.gathered.now.classes.items c.add_class.new.classes.items c.args.gathered.now.full c.if-gathered.false c.requires
    (λ raws named.
    class_named raws c.args.raw.now c.args.gathered.now.names c.to_class.new.names c.args.gathered.now.classes.items c.add_class.new.classes.items c.in-Ok-Some.class
    (kept_by c.to_class.result c.args.gathered.now.names c.to_class.new.names (taken_names c.args.raw.now) c.to_class.ensures.names)
    c.in-Ok-Some.ensures.names.names
    (rw c.in-Ok-Some.field-0-is at c.in-Ok-Some.ensures.class)
    (rw c.in-Ok-Some.field-0-is at c.in-Ok-Some.ensures.none)
    c.in_ok-add_class-in-Ok-Some.ensures.classes
    named)
    numbered

pub returns-in-Ok-None-clause-paths : goal.returns-in-Ok-None-clause-paths
returns-in-Ok-None-clause-paths c = λ _.
    sym (append-nil (texts c.args.gathered.now.paths.items))
    ∙ ap (λ l. texts c.args.gathered.now.paths.items ++ l) (sym (path_without_class c.args.path.now c.args.raw.now ((rw c.in-Ok-None.field-0-is at c.in-Ok-None.ensures.none).0 refl)))

pub returns-in-Ok-None-clause-numbered : goal.returns-in-Ok-None-clause-numbered
returns-in-Ok-None-clause-numbered c = λ raws numbered.
    has_room raws c.args.raw.now c.args.gathered.now.names c.to_class.new.names c.args.gathered.now.classes.items c.args.gathered.now.classes.items c.args.gathered.now.full c.if-gathered.false c.requires
    (λ raws named.
    module_named raws c.args.raw.now c.args.gathered.now.names c.to_class.new.names c.args.gathered.now.classes.items
    ((rw c.in-Ok-None.field-0-is at c.in-Ok-None.ensures.none).0 refl)
    c.in-Ok-None.ensures.names.names
    named)
    numbered

pub returns-in-Err-Full-clause-numbered : goal.returns-in-Err-Full-clause-numbered
returns-in-Err-Full-clause-numbered c = λ raws numbered.
    gets_full raws c.args.raw.now c.args.gathered.now.names c.to_class.new.names c.args.gathered.now.classes.items c.args.gathered.now.classes.items c.args.gathered.now.full c.if-gathered.false c.requires
    (λ raws named.
    full_named raws c.args.raw.now c.args.gathered.now.names c.args.gathered.now.classes.items
    (c.to_class.ensures.names.many (rw (c.in-Err-Full.is, c.in-Err-Full.field-0-is) refl))
    named)
    numbered
