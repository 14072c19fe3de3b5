use Rattle.std.proofs.Common.{◌≡◌, ◌<◌, ◌^◌, List, sym, subst, ap, length, arith}
use Rattle.std.specs.Prelude.{All, string_bytes}
use Rattle.std.proofs.lemmas.Result.{IfOk-weaker, err_from_is_err_and}
use Rattle.fp_model.specs.declared.class.Class.{Class}
use Rattle.fp_load.specs.Judging.{AreKindedClasses, AreSoundClasses}
use Rattle.std.proofs.lemmas.List.{length-map}
use Rattle.fp_base.specs.Files.{texts}
use Rattle.fp_model.specs.ClassSet.{methods_of, refusal_of, SetView}
use Rattle.fp_model.specs.SoundCode.{IsSoundMethod}
use Rattle.fp_facts.specs.Kinded.{IsKindedMethod}
use Rattle.fp_load.specs.Gathering.{with_class, IsGathered}
use Rattle.fp_load.specs.Load.{faults_of, loaded_of_faults, loaded_of_set, raws_of}
use Rattle.fp_load.proofs.OutcomeLemmas.{all-methods, all_over, fault_told, few-methods, gathered-sound, judged-told, loaded-is, none_refused, paths-long, set_loaded}
use Rattle.fp_load.proofs.SizeLemmas.{AreFew-classes}
use Rattle.fp_load.proofs.outcome.finish.Goals as goal

pub judge-requires-clause-long : goal.judge-requires-clause-long
judge-requires-clause-long c =
    let (files, few, gathered) = c.requires in
    let long = paths-long files c.args.gathered.names c.args.gathered.classes.items (texts c.args.gathered.paths.items)
    (none_refused c.args.gathered.faults (faults_of files) (c.is_empty.ensures.0 c.if-not-is_empty.false) gathered.faults_are)
    (omega (arith, c.names.invariant.within_limit, ap length c.names.view_is)) (gathered.numbered.named c.if-full.false) (gathered.paths_are c.if-full.false) in
    rw (c.as_slice.ensures.value, c.as_slice-2.ensures.value) (omega (arith, long, length-map c.args.gathered.paths.items string_bytes))

pub judge-requires-clause-sound : goal.judge-requires-clause-sound
judge-requires-clause-sound c =
    let (files, few, gathered) = c.requires in
    subst AreSoundClasses (sym c.as_slice.ensures.value)
    (gathered-sound c.args.gathered.names c.args.gathered.classes.items files (gathered.numbered.named c.if-full.false).classes_are gathered.numbered.formed)

pub judge-requires-clause-few : goal.judge-requires-clause-few
judge-requires-clause-few c =
    let (files, few, gathered) = c.requires in
    let all = AreFew-classes c.args.gathered.names c.args.gathered.classes.items files (gathered.numbered.named c.if-full.false).classes_are gathered.numbered.formed few in
    subst (λ (cs : List Class). All (λ (x : Class). length x.methods < 2 ^ 32) cs) (sym c.as_slice.ensures.value) (few-methods (2 ^ 32) c.args.gathered.classes.items all.methods)

pub build_set-requires-clause-over : goal.build_set-requires-clause-over
build_set-requires-clause-over c =
    let (files, few, gathered) = c.requires in
    all_over c.args.gathered.names c.args.gathered.classes.items (with_class (raws_of files)) (gathered.numbered.named c.if-full.false).classes_are

pub build_set-requires-clause-few : goal.build_set-requires-clause-few
build_set-requires-clause-few c =
    let (files, few, gathered) = c.requires in
    AreFew-classes c.args.gathered.names c.args.gathered.classes.items files (gathered.numbered.named c.if-full.false).classes_are gathered.numbered.formed few

pub returns-clause-set : goal.returns-clause-set
returns-clause-set c =
    set_loaded c.build_set.result
    (loaded_of_set (record { classes = c.args.gathered.classes.items; names = c.args.gathered.names }) (refusal_of (record { classes = c.args.gathered.classes.items; names = c.args.gathered.names })))
    (λ files. IsGathered files c.args.gathered) (λ files. loaded_of_faults files (faults_of files))
    (λ files gathered. loaded-is files c.args.gathered.names c.args.gathered.classes.items (texts c.args.gathered.paths.items)
    (none_refused c.args.gathered.faults (faults_of files) (c.is_empty.ensures.0 c.if-not-is_empty.false) gathered.faults_are)
    (omega (arith, c.names.invariant.within_limit, ap length c.names.view_is)) (gathered.numbered.named c.if-full.false) (gathered.paths_are c.if-full.false)
    (rw c.as_slice.ensures.value at c.in_ok-judge.ensures.small) (rw (c.as_slice.ensures.value, c.as_slice-2.ensures.value) at c.in_ok-judge.ensures.none))
    c.build_set.ensures.set

pub returns-clause-fault : goal.returns-clause-fault
returns-clause-fault c =
    fault_told c.build_set.result
    (loaded_of_set (record { classes = c.args.gathered.classes.items; names = c.args.gathered.names }) (refusal_of (record { classes = c.args.gathered.classes.items; names = c.args.gathered.names })))
    (λ files. IsGathered files c.args.gathered) (λ files. loaded_of_faults files (faults_of files))
    (λ files gathered. loaded-is files c.args.gathered.names c.args.gathered.classes.items (texts c.args.gathered.paths.items)
    (none_refused c.args.gathered.faults (faults_of files) (c.is_empty.ensures.0 c.if-not-is_empty.false) gathered.faults_are)
    (omega (arith, c.names.invariant.within_limit, ap length c.names.view_is)) (gathered.numbered.named c.if-full.false) (gathered.paths_are c.if-full.false)
    (rw c.as_slice.ensures.value at c.in_ok-judge.ensures.small) (rw (c.as_slice.ensures.value, c.as_slice-2.ensures.value) at c.in_ok-judge.ensures.none))
    c.build_set.ensures.fault

pub returns-clause-sound : goal.returns-clause-sound
returns-clause-sound c =
    let (files, few, gathered) = c.requires in
    IfOk-weaker c.build_set.result (λ (set : SetView). set ≡ record { classes = c.args.gathered.classes.items; names = c.args.gathered.names }) (λ (set : SetView). All IsSoundMethod (methods_of set.classes))
    (λ set same. subst (λ (s : SetView). All IsSoundMethod (methods_of s.classes)) (sym same)
    (all-methods IsSoundMethod c.args.gathered.classes.items
    (gathered-sound c.args.gathered.names c.args.gathered.classes.items files (gathered.numbered.named c.if-full.false).classes_are gathered.numbered.formed)))
    c.build_set.ensures.same

pub returns-clause-kinded : goal.returns-clause-kinded
returns-clause-kinded c =
    IfOk-weaker c.build_set.result (λ (set : SetView). set ≡ record { classes = c.args.gathered.classes.items; names = c.args.gathered.names }) (λ (set : SetView). All IsKindedMethod (methods_of set.classes))
    (λ set same. subst (λ (s : SetView). All IsKindedMethod (methods_of s.classes)) (sym same)
    (all-methods IsKindedMethod c.args.gathered.classes.items (subst AreKindedClasses c.as_slice.ensures.value c.in_ok-judge.ensures.kinded)))
    c.build_set.ensures.same

pub returns-in_err-judge-clause-fault : goal.returns-in_err-judge-clause-fault
returns-in_err-judge-clause-fault c =
    let p = err_from_is_err_and c.from_residual.result c.from_residual.ensures.1 in
    rw (p.1, p.2) (λ files gathered.
    judged-told files c.args.gathered.names c.args.gathered.classes.items (texts c.args.gathered.paths.items)
    (none_refused c.args.gathered.faults (faults_of files) (c.is_empty.ensures.0 c.if-not-is_empty.false) gathered.faults_are)
    (omega (arith, c.names.invariant.within_limit, ap length c.names.view_is)) (gathered.numbered.named c.if-full.false) (gathered.paths_are c.if-full.false)
    c.in_err-judge.field-0.0 (rw (c.as_slice.ensures.value, c.as_slice-2.ensures.value) at c.in_err-judge.ensures.fault))
