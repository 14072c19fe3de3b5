-- What comes of the files that were gathered.
use Rattle.std.proofs.Common.{◌≡◌, ◌≢◌, ℕ, ◌<◌, ◌≤◌, ◌||◌, nat_lt, arith, Bool, true, false, not, List, [], ◌∷◌, ◌++◌, Result, Ok, Err, length, map, if◌then◌else◌, refl, sym, ap, ap₂, subst, ◌∙◌}
use Rattle.std.specs.Prelude.{zip, All, IfOk, IfErr, String}
use Rattle.std.specs.declared.alloc.Global.{Global}
use Rattle.std.specs.List.{flat_map, list_any, AllZip}
use Rattle.std.proofs.lemmas.Bool.{cond-true, cond-false, le-ltb}
use Rattle.std.proofs.lemmas.Grind.{flat_map-append}
use Rattle.std.proofs.lemmas.List.{length-append}
use Rattle.std.proofs.lemmas.List.Elements.{All-append, All-cons, All-filter, All-head, All-nil, All-tail}
use Rattle.fp_base.specs.Files.{File}
use Rattle.fp_base.specs.Names.{AreDistinct}
use Rattle.fp_base.proofs.NameLemmas.{AreDistinct-nil, AreDistinct-with_names}
use Rattle.fp_model.specs.declared.class.Class.{Class}
use Rattle.fp_model.specs.declared.fault.FileFault.{FileFault}
use Rattle.fp_model.specs.declared.class.Method.{Method}
use Rattle.fp_model.specs.declared.limit.LimitName.TheVariants.{FrameWords, Names}
use Rattle.fp_model.specs.declared.raw.Raw.{Raw}
use Rattle.fp_model.specs.ClassSet.{methods_of, refusal_of, IsClassOver, SetView}
use Rattle.fp_model.specs.SoundCode.{IsSoundMethod}
use Rattle.fp_class.specs.ClassFile.{class_of, is_module, IsWellFormed}
use Rattle.fp_class.specs.Classes.{class_in, IsClassOf}
use Rattle.fp_class.specs.Naming.{taken_names}
use Rattle.fp_class.proofs.OneClass.{one_class}
use Rattle.fp_class.proofs.SoundMethods.{sound_methods}
use Rattle.fp_kinds.specs.Kinds.{most_frame_words}
use Rattle.fp_load.specs.declared.fault.FileRefusal.{FileRefusal}
use Rattle.fp_load.specs.declared.fault.LoadFault.{LoadFault}
use Rattle.fp_load.specs.declared.fault.LoadFault.TheVariants as fault
use Rattle.fp_load.specs.Faults.{refusal_told, Tells}
use Rattle.fp_load.specs.Gathering.{class_paths_of, path_in, path_of, with_class, IsNamed}
use Rattle.fp_load.specs.Judging.{AreRefused, AreSoundClasses, TellsJudged}
use Rattle.fp_load.specs.Kinds.{Placed, has_large, refusals_of}
use Rattle.fp_load.specs.Load.{classes_of, faults_of, loaded_of_classes, loaded_of_faults, loaded_of_kinds, loaded_of_set, most_names, names_of, placed_classes, placed_in, raw_in, raws_of, set_of, LoadRefusal}
use Rattle.fp_load.specs.Load.LoadRefusal.{Faulty, Passed}

-- ---- the set

pub all_over : (names : List (List ℕ)) (classes : List Class) (raws : List Raw) → AllZip (IsClassOf names) classes raws → All (IsClassOver names) classes
all_over names [] [] all = All-nil (IsClassOver names)
all_over names [] (raw ∷ raws) all = absurd all
all_over names (c ∷ classes) [] all = absurd all
all_over names (c ∷ classes) (raw ∷ raws) all = All-cons (IsClassOver names) c classes all.0.over (all_over names classes raws all.1)

all_said : (names : List (List ℕ)) (classes : List Class) (raws : List Raw) → AreDistinct names → AllZip (IsClassOf names) classes raws → classes ≡ map (class_in names) raws
all_said names [] [] distinct all = refl
all_said names [] (raw ∷ raws) distinct all = absurd all
all_said names (c ∷ classes) [] distinct all = absurd all
all_said names (c ∷ classes) (raw ∷ raws) distinct all = ap₂ (λ x xs. x ∷ xs) (one_class names c raw distinct all.0) (all_said names classes raws distinct all.1)

one_of : {A B : Type 0} (module_ : Bool) (f : A → B) (x : A) (rest : List A) → map f (if not module_ then x ∷ rest else rest) ≡ (if module_ then [] else f x ∷ []) ++ map f rest
one_of true f x rest = refl
one_of false f x rest = refl

-- a module gives no class
with_class-is : (names : List (List ℕ)) (raws : List Raw) → map (class_in names) (with_class raws) ≡ flat_map (classes_of names) raws
with_class-is names [] = refl
with_class-is names (raw ∷ raws) = one_of (is_module raw.flags) (class_in names) raw (with_class raws) ∙ ap (λ l. classes_of names raw ++ l) (with_class-is names raws)

abbrev made : List (List ℕ) → List Class → SetView
made names classes = record { classes = classes; names = names }

-- the set of the classes over their table is that of the files
set-is : (raws : List Raw) (names : List (List ℕ)) (classes : List Class) → IsNamed raws names classes → made names classes ≡ set_of raws
set-is raws names classes named =
    let distinct : AreDistinct names = subst AreDistinct (sym named.names_are) (AreDistinct-with_names [] (flat_map taken_names raws) AreDistinct-nil) in
    ap (made names) (all_said names classes (with_class raws) distinct named.classes_are ∙ with_class-is names raws)
    ∙ ap (λ n. made n (flat_map (classes_of n) raws)) named.names_are

-- where none is refused, none is faulty
pub none_refused : (refused : List (String Global × FileRefusal)) (found : List (List ℕ × FileRefusal)) → refused ≡ [] → map refusal_told refused ≡ found → found ≡ []
none_refused refused found none is = sym is ∙ ap (map refusal_told) none

-- ---- classes beside the paths of their files

one-beside : (module_ : Bool) (path : List ℕ) (c : Class) (ps : List (List ℕ)) (cs : List Class)
    → zip (((if module_ then [] else path ∷ []) ++ []) ++ ps) (((if module_ then [] else c ∷ []) ++ []) ++ cs)
    ≡ map (λ (x : Class). (path, x)) ((if module_ then [] else c ∷ []) ++ []) ++ zip ps cs
one-beside true path c ps cs = refl
one-beside false path c ps cs = refl

one-long : (module_ : Bool) (path : List ℕ) (c : Class) → length ((if module_ then [] else path ∷ []) ++ []) ≡ length ((if module_ then [] else c ∷ []) ++ [])
one-long true path c = refl
one-long false path c = refl

file-beside : (names : List (List ℕ)) (path : List ℕ) (r : Result Raw FileFault) (ps : List (List ℕ)) (cs : List Class)
    → zip (flat_map (path_of path) (raw_in r) ++ ps) (flat_map (classes_of names) (raw_in r) ++ cs)
    ≡ map (λ (x : Class). (path, x)) (flat_map (classes_of names) (raw_in r)) ++ zip ps cs
file-beside names path (Ok raw) ps cs = one-beside (is_module raw.flags) path (class_in names raw) ps cs
file-beside names path (Err fault) ps cs = refl

file-long : (names : List (List ℕ)) (path : List ℕ) (r : Result Raw FileFault) → length (flat_map (path_of path) (raw_in r)) ≡ length (flat_map (classes_of names) (raw_in r))
file-long names path (Ok raw) = one-long (is_module raw.flags) path (class_in names raw)
file-long names path (Err fault) = refl

classes-in : (names : List (List ℕ)) (file : File) (files : List File)
    → flat_map (classes_of names) (raws_of (file ∷ files)) ≡ flat_map (classes_of names) (raw_in (class_of file.bytes)) ++ flat_map (classes_of names) (raws_of files)
classes-in names file files = flat_map-append (classes_of names) (raw_in (class_of file.bytes)) (raws_of files)

files-beside : (names : List (List ℕ)) (files : List File) → zip (class_paths_of files) (flat_map (classes_of names) (raws_of files)) ≡ placed_classes names files
files-beside names [] = refl
files-beside names (file ∷ files) =
    ap (zip (class_paths_of (file ∷ files))) (classes-in names file files)
    ∙ file-beside names file.path (class_of file.bytes) (class_paths_of files) (flat_map (classes_of names) (raws_of files))
    ∙ ap (λ l. placed_in names file ++ l) (files-beside names files)

files-long : (names : List (List ℕ)) (files : List File) → length (class_paths_of files) ≡ length (flat_map (classes_of names) (raws_of files))
files-long names [] = refl
files-long names (file ∷ files) =
    omega (
      arith,
      length-append (path_in file) (class_paths_of files),
      file-long names file.path (class_of file.bytes),
      files-long names files,
      ap length (classes-in names file files),
      length-append (flat_map (classes_of names) (raw_in (class_of file.bytes))) (flat_map (classes_of names) (raws_of files)),
    )

large-beside : (ps : List (List ℕ)) (cs : List Class) → length ps ≡ length cs → list_any (λ (c : Placed). has_large c.1) (zip ps cs) ≡ list_any has_large cs
large-beside [] [] h = refl
large-beside [] (c ∷ cs) h = absurd (omega (arith, h))
large-beside (p ∷ ps) [] h = absurd (omega (arith, h))
large-beside (p ∷ ps) (c ∷ cs) h = ap (λ b. has_large c || b) (large-beside ps cs (omega (arith, h)))

-- ---- what the codes of the classes let

module _ (files : List File) (names : List (List ℕ)) (classes : List Class) (paths : List (List ℕ)) (none : faults_of files ≡ []) (room : length names ≤ 16777216)
    (named : IsNamed (raws_of files) names classes) (paths_are : paths ≡ class_paths_of files) where
  said : classes ≡ flat_map (classes_of (names_of (raws_of files))) (raws_of files)
  said = ap (λ (s : SetView). s.classes) (set-is (raws_of files) names classes named)

  beside : zip paths classes ≡ placed_classes (names_of (raws_of files)) files
  beside = ap₂ zip paths_are said ∙ files-beside (names_of (raws_of files)) files

  pub paths-long : length paths ≡ length classes
  paths-long = ap length paths_are ∙ files-long (names_of (raws_of files)) files ∙ sym (ap length said)

  loaded-judged : loaded_of_faults files (faults_of files) ≡ loaded_of_classes (made names classes) (zip paths classes)
  loaded-judged =
      let raws = raws_of files in
      ap (loaded_of_faults files) none
      ∙ cond-false (nat_lt most_names (length (names_of raws))) (Err (Passed Names most_names)) (loaded_of_classes (set_of raws) (placed_classes (names_of raws) files))
      (le-ltb most_names (length (names_of raws)) (subst (λ n. length n ≤ most_names) named.names_are room))
      ∙ ap₂ loaded_of_classes (sym (set-is raws names classes named)) (sym beside)

  loaded-small : list_any has_large classes ≡ false → loaded_of_faults files (faults_of files) ≡ loaded_of_kinds (made names classes) (refusals_of (zip paths classes))
  loaded-small small =
      loaded-judged
      ∙ cond-false (list_any (λ (c : Placed). has_large c.1) (zip paths classes)) (Err (Passed FrameWords most_frame_words)) (loaded_of_kinds (made names classes) (refusals_of (zip paths classes)))
      (large-beside paths classes paths-long ∙ small)

  -- with room for the names, and kinds for all words, the outcome is that of the set
  pub loaded-is : list_any has_large classes ≡ false → refusals_of (zip paths classes) ≡ []
      → loaded_of_faults files (faults_of files) ≡ loaded_of_set (made names classes) (refusal_of (made names classes))
  loaded-is small kinded = loaded-small small ∙ ap (loaded_of_kinds (made names classes)) kinded

  loaded-large : list_any has_large classes ≡ true → loaded_of_faults files (faults_of files) ≡ Err (Passed FrameWords most_frame_words)
  loaded-large large =
      loaded-judged
      ∙ cond-true (list_any (λ (c : Placed). has_large c.1) (zip paths classes)) (Err (Passed FrameWords most_frame_words)) (loaded_of_kinds (made names classes) (refusals_of (zip paths classes)))
      (large-beside paths classes paths-long ∙ large)

  kinds-refused : (told : List (List ℕ × FileRefusal)) → told ≢ [] → loaded_of_kinds (made names classes) told ≡ Err (Faulty told)
  kinds-refused [] some = absurd (some refl)
  kinds-refused (fault ∷ told) some = refl

  loaded-refused : (told : List (List ℕ × FileRefusal)) → AreRefused (zip paths classes) classes told → loaded_of_faults files (faults_of files) ≡ Err (Faulty told)
  loaded-refused told refused =
      loaded-small refused.small ∙ ap (loaded_of_kinds (made names classes)) (sym refused.told_are) ∙ kinds-refused told refused.some

  pub judged-told : (why : LoadFault) → TellsJudged (zip paths classes) classes why → Tells (loaded_of_faults files (faults_of files)) why
  judged-told (fault.Limit name most) h = loaded-large h.2 ∙ ap₂ (λ n m. Err (Passed n m)) (sym h.0) (sym h.1)
  judged-told (fault.Refused refused) h = loaded-refused (map refusal_told refused) h
  judged-told fault.Memory h = tt
  judged-told (fault.Read path) h = absurd h
  judged-told (fault.Set why) h = absurd h

-- ---- sound methods

pub sound-classes : (names : List (List ℕ)) (classes : List Class) (raws : List Raw) → AllZip (IsClassOf names) classes raws → All IsWellFormed raws → AreSoundClasses classes
sound-classes names [] [] all formed = All-nil (λ (c : Class). All IsSoundMethod c.methods)
sound-classes names [] (raw ∷ raws) all formed = absurd all
sound-classes names (c ∷ classes) [] all formed = absurd all
sound-classes names (c ∷ classes) (raw ∷ raws) all formed =
    All-cons (λ (c : Class). All IsSoundMethod c.methods) c classes (sound_methods names c raw (All-head IsWellFormed raw raws formed) all.0)
    (sound-classes names classes raws all.1 (All-tail IsWellFormed raw raws formed))

pub gathered-sound : (names : List (List ℕ)) (classes : List Class) (files : List File) → AllZip (IsClassOf names) classes (with_class (raws_of files)) → All IsWellFormed (raws_of files) → AreSoundClasses classes
gathered-sound names classes files all formed =
    sound-classes names classes (with_class (raws_of files)) all (All-filter (λ raw. not (is_module raw.flags)) IsWellFormed (raws_of files) formed)

-- what holds of the methods of each class holds of all methods
pub all-methods : (P : Method → Type 0) (classes : List Class) → All (λ (c : Class). All P c.methods) classes → All P (methods_of classes)
all-methods P [] all = All-nil P
all-methods P (c ∷ classes) all =
    All-append P c.methods (methods_of classes) (All-head (λ (c : Class). All P c.methods) c classes all) (all-methods P classes (All-tail (λ (c : Class). All P c.methods) c classes all))

-- no class has more methods than all
pub few-methods : (n : ℕ) (classes : List Class) → length (methods_of classes) < n → All (λ (c : Class). length c.methods < n) classes
few-methods n [] few = All-nil (λ (c : Class). length c.methods < n)
few-methods n (c ∷ classes) few =
    All-cons (λ (c : Class). length c.methods < n) c classes
    (omega (arith, few, length-append c.methods (methods_of classes)))
    (few-methods n classes (omega (arith, few, length-append c.methods (methods_of classes))))

-- what is said of the set is said of the files
pub set_loaded : {R : Type 0} (result : Result SetView R) (outcome : Result SetView LoadRefusal) (P : List File → Type 0) (of : List File → Result SetView LoadRefusal) → ((files : List File) → P files → of files ≡ outcome) → IfOk result (λ set. outcome ≡ Ok set) → IfOk result (λ set. (files : List File) → P files → of files ≡ Ok set)
set_loaded (Ok set) outcome P of same is = λ files holds. same files holds ∙ is
set_loaded (Err r) outcome P of same is = tt

pub fault_told : (result : Result SetView LoadFault) (outcome : Result SetView LoadRefusal) (P : List File → Type 0) (of : List File → Result SetView LoadRefusal) → ((files : List File) → P files → of files ≡ outcome) → IfErr result (λ fault. Tells outcome fault) → IfErr result (λ fault. (files : List File) → P files → Tells (of files) fault)
fault_told (Ok set) outcome P of same is = tt
fault_told (Err fault) outcome P of same is = λ files holds. subst (λ o. Tells o fault) (sym (same files holds)) is
