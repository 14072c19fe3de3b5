-- Files that are read one after the other.
use Rattle.std.proofs.Common.{◌≡◌, ℕ, zero, suc, ◌+◌, ◌<◌, ◌≤◌, Bool, true, List, [], ◌∷◌, ◌++◌, length, map, get_or, take, drop, Option, Some, None, Err, IsTrue, nat_lt, inr, sym, ap, subst, ◌∙◌, arith}
use Rattle.std.specs.Prelude.{String, string_bytes, unwrap_or, All, Contains}
use Rattle.std.specs.declared.alloc.Global.{Global}
use Rattle.std.proofs.lemmas.Bool.{cond-false, le-ltb}
use Rattle.std.proofs.lemmas.List.{append-nil, append_assoc, drop_more, get_or-map, length_push, length-map, map-append, map_push, take-append-drop, take_more}
use Rattle.std.proofs.lemmas.List.Elements.{All-contains, All-contains_itself, All-get_or, Contains-append_right}
use Rattle.fp_base.specs.Calls.{Call, Gained, Grows}
use Rattle.fp_base.specs.Calls.Call.{Reading}
use Rattle.fp_base.specs.Files.{File, bytes_at, class_paths, is_class_file, texts}
use Rattle.fp_base.specs.Order.{in_text_order}
use Rattle.fp_model.specs.declared.limit.LimitName.TheVariants.{Files}
use Rattle.fp_load.specs.declared.fault.LoadFault.{LoadFault}
use Rattle.fp_load.specs.declared.fault.LoadFault.TheVariants as fault
use Rattle.fp_load.specs.declared.gathering.Gathered.{Gathered}
use Rattle.fp_load.specs.Causes.{Blames, Keeps}
use Rattle.fp_load.specs.Gathering.{HasRead, IsGathered}
use Rattle.fp_load.specs.Load.{faults_of, files_below, loaded_of, loaded_of_bytes, loaded_of_faults, most_files, passed_from}
use Rattle.fp_load.specs.Load.LoadRefusal.{Passed}
use Rattle.fp_load.specs.Steps.{file_at, BlamesReading, TellsPassed}
use Rattle.fp_load.proofs.PassedLemmas.{none_passed, passed_at_end}

-- a call that was gained after others were is gained
gained_later : (before mid now : List Call) (call : Call) → Grows before mid → Gained mid now call → Gained before now call
gained_later before mid now call grows gained =
    (grows.0 ++ gained.0, gained.1 ∙ ap (λ calls. calls ++ gained.0) grows.1 ∙ append_assoc before grows.0 gained.0, Contains-append_right grows.0 gained.0 call gained.2)

-- ---- one path of many

module _ (paths : List (String Global)) (i : ℕ) (path : String Global) (within : i < length paths) (is : path ≡ get_or paths i path) where
  -- those before, it, and those behind
  paths_split : texts paths ≡ texts (take i paths) ++ string_bytes path ∷ texts (drop (i + 1) paths)
  paths_split =
      ap texts (sym (take-append-drop i paths) ∙ ap (λ l. take i paths ++ l) (drop_more paths i path within ∙ ap (λ p. p ∷ drop (i + 1) paths) (sym is)))
      ∙ map-append string_bytes (take i paths) (path ∷ drop (i + 1) paths)

  paths_front : texts (take (i + 1) paths) ≡ texts (take i paths) ++ string_bytes path ∷ []
  paths_front = ap texts (take_more paths i path within ∙ ap (λ p. take i paths ++ p ∷ []) (sym is)) ∙ map_push string_bytes (take i paths) path

  -- what holds of each holds of it
  pub holds_at : (P : List ℕ → Type 0) → All P (texts paths) → P (string_bytes path)
  holds_at P all =
      subst P (get_or-map string_bytes paths i path [] within ∙ ap string_bytes (sym is))
      (All-get_or P (texts paths) i [] (omega (arith, within, length-map paths string_bytes)) all)

  -- a read fault blames it
  pub blamed_among : (before mid now : List Call) (f : LoadFault) → Grows before mid → BlamesReading (string_bytes path ∷ []) mid now f → BlamesReading (texts paths) before now f
  blamed_among before mid now (fault.Read named) grows blamed =
      let same : string_bytes named ≡ string_bytes path = only (string_bytes path) (string_bytes named) blamed.0 in
      (subst (Contains (texts paths)) (sym same) (holds_at (Contains (texts paths)) (All-contains_itself (texts paths))), gained_later before mid now (Reading (string_bytes named)) grows blamed.1)
    where
      only : (x y : List ℕ) → Contains (x ∷ []) y → y ≡ x
      only x y (zero, below, at) = sym at
      only x y (suc k, below, at) = absurd (omega arith)
  blamed_among before mid now (fault.Limit which most) grows blamed = tt
  blamed_among before mid now (fault.Refused refused) grows blamed = tt
  blamed_among before mid now (fault.Set why) grows blamed = tt
  blamed_among before mid now fault.Memory grows blamed = tt

  -- what it passes is what all pass
  pub passed_here : (tells : Bool) (files now : List File) (sum : ℕ) (g : Gathered) (f : LoadFault) → IsTrue tells → now ≡ files → HasRead tells files (texts (take i paths)) sum g
      → ((rest : List File) → TellsPassed (passed_from sum (file_at now (string_bytes path) ∷ rest)) f) → TellsPassed (passed_from 0 (map (file_at files) (texts paths))) f
  passed_here tells files now sum g f told same before passed =
      let rest = map (file_at files) (texts (drop (i + 1) paths)) in
      let here = file_at files (string_bytes path) in
      let all : map (file_at files) (texts paths) ≡ before.read ++ here ∷ rest =
      ap (map (file_at files)) paths_split
      ∙ map-append (file_at files) (texts (take i paths)) (string_bytes path ∷ texts (drop (i + 1) paths))
      ∙ ap (λ l. l ++ here ∷ rest) (sym (before.told told)) in
      let leads : passed_from sum (here ∷ rest) ≡ passed_from 0 (map (file_at files) (texts paths)) = sym (before.passed (here ∷ rest)) ∙ ap (passed_from 0) (sym all) in
      subst (λ o. TellsPassed o f) leads (subst (λ fs. TellsPassed (passed_from sum (file_at fs (string_bytes path) ∷ rest)) f) same (passed rest))

  -- one file more was read
  pub read_more : (tells : Bool) (files now : List File) (sum : ℕ) (bytes : List ℕ) (g more : Gathered) → now ≡ files → (IsTrue tells → bytes_at now (string_bytes path) ≡ Some bytes) → length bytes ≤ 4194304 → sum + length bytes ≤ 268435456
      → ((files : List File) → IsGathered files g → IsGathered (files ++ record { path = string_bytes path; bytes = bytes } ∷ []) more)
      → HasRead tells files (texts (take i paths)) sum g → HasRead tells files (texts (take (i + 1) paths)) (sum + length bytes) more
  read_more tells files now sum bytes g more same found short room adds before =
      let file : File = record { path = string_bytes path; bytes = bytes } in
      record {
        read = before.read ++ file ∷ [];
        count = length_push before.read file ∙ ap (λ n. n + 1) before.count ∙ sym (ap length paths_front ∙ length_push (texts (take i paths)) (string_bytes path));
        told = λ t.
            let its : bytes_at files (string_bytes path) ≡ Some bytes = subst (λ fs. bytes_at fs (string_bytes path) ≡ Some bytes) same (found t) in
            let here : file ≡ file_at files (string_bytes path) = ap (λ (o : Option (List ℕ)). record { path = string_bytes path; bytes = unwrap_or o [] }) (sym its) in
            ap (λ l. l ++ file ∷ []) (before.told t)
            ∙ ap (λ x. map (file_at files) (texts (take i paths)) ++ x ∷ []) here
            ∙ sym (ap (map (file_at files)) paths_front ∙ map_push (file_at files) (texts (take i paths)) (string_bytes path));
        gathered = adds before.read before.gathered;
        passed = λ rest.
            ap (passed_from 0) (append_assoc before.read (file ∷ []) rest)
            ∙ before.passed (file ∷ rest)
            ∙ none_passed sum file rest short room;
      }

-- a file is gathered under the path and the bytes that it is known by
pub added_as : (path named : List ℕ) (bytes known : List ℕ) (g more : Gathered) → named ≡ path → known ≡ bytes → ((files : List File) → IsGathered files g → IsGathered (files ++ record { path = named; bytes = known } ∷ []) more) → (files : List File) → IsGathered files g → IsGathered (files ++ record { path = path; bytes = bytes } ∷ []) more
added_as path named bytes known g more same whole adds = λ files is.
    subst (λ b. IsGathered (files ++ record { path = path; bytes = b } ∷ []) more) whole (subst (λ p. IsGathered (files ++ record { path = p; bytes = known } ∷ []) more) same (adds files is))

-- ---- the directory

pub Keeps-then : (t0 t1 t2 : Bool) (f0 f1 f2 : List File) (c0 c1 c2 : List Call) → Keeps t0 f0 c0 t1 f1 c1 → Keeps t1 f1 c1 t2 f2 c2 → Keeps t0 f0 c0 t2 f2 c2
Keeps-then t0 t1 t2 f0 f1 f2 c0 c1 c2 first second = record {
  telling = second.telling ∙ first.telling;
  told = second.told ∙ first.told;
  grows = (first.grows.0 ++ second.grows.0, second.grows.1 ∙ ap (λ calls. calls ++ second.grows.0) first.grows.1 ∙ append_assoc c0 first.grows.0 second.grows.0);
}

-- ---- all files

-- a reading that fails is blamed on a listed path below the directory
pub blamed_below : (dir : List ℕ) (listed later paths : List (List ℕ)) (before mid now : List Call) (f : LoadFault) → later ≡ listed → All (Contains listed) paths → All (λ p. is_class_file dir p ≡ true) paths → Grows before mid → BlamesReading paths mid now f → Blames dir later before now f
blamed_below dir listed later paths before mid now (fault.Read named) same among below grows blamed = inr (
  subst (λ l. Contains l (string_bytes named)) (sym same) (All-contains (Contains listed) paths (string_bytes named) among blamed.0),
  All-contains (λ p. is_class_file dir p ≡ true) paths (string_bytes named) below blamed.0,
  gained_later before mid now (Reading (string_bytes named)) grows blamed.1,
)
blamed_below dir listed later paths before mid now (fault.Limit which most) same among below grows blamed = tt
blamed_below dir listed later paths before mid now (fault.Refused refused) same among below grows blamed = tt
blamed_below dir listed later paths before mid now (fault.Set why) same among below grows blamed = tt
blamed_below dir listed later paths before mid now fault.Memory same among below grows blamed = tt

-- what comes of the files that are told, where they are those that were read
told_outcome : (files read : List File) (dir : List ℕ) → files_below files dir ≡ read → passed_from 0 read ≡ None → length (class_paths files dir) ≤ 20000 → loaded_of files dir ≡ loaded_of_faults read (faults_of read)
told_outcome files read dir same none few =
    cond-false (nat_lt most_files (length (class_paths files dir))) (Err (Passed Files most_files)) (loaded_of_bytes (files_below files dir) (passed_from 0 (files_below files dir))) (le-ltb most_files (length (class_paths files dir)) few)
    ∙ ap (λ l. loaded_of_bytes l (passed_from 0 l)) same
    ∙ ap (loaded_of_bytes read) none

-- the files that were read are few, and where files are told, the outcome is theirs
pub all_read : (tells later : Bool) (files now : List File) (dir : List ℕ) (paths : List (String Global)) (sum : ℕ) (g : Gathered) → later ≡ tells → now ≡ files → length paths ≤ 20000
    → (IsTrue tells → texts paths ≡ in_text_order (class_paths files dir)) → (IsTrue tells → length (class_paths files dir) ≤ 20000) → HasRead later now (texts paths) sum g
    → (read : List File) × (length read ≤ 20000) × IsGathered read g × (IsTrue tells → loaded_of files dir ≡ loaded_of_faults read (faults_of read))
all_read tells later files now dir paths sum g telling same few order told_few has =
    let none : passed_from 0 has.read ≡ None = ap (passed_from 0) (sym (append-nil has.read)) ∙ has.passed [] ∙ passed_at_end sum in (
      has.read,
      omega (arith, has.count, few, length-map paths string_bytes),
      has.gathered,
      λ t.
          let below : files_below files dir ≡ has.read =
          ap (map (file_at files)) (sym (order t)) ∙ ap (λ fs. map (file_at fs) (texts paths)) (sym same) ∙ sym (has.told (subst IsTrue (sym telling) t)) in
          told_outcome files has.read dir below none (told_few t),
    )
