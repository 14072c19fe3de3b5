-- What a listing says of the told files.
use Rattle.std.proofs.Common.{◌≡◌, ℕ, ◌+◌, ◌<◌, nat_lt, Bool, true, false, List, [], ◌∷◌, length, map, get_or, Option, Some, Err, refl, sym, ap, subst, ◌∙◌, arith, is_lt, nat_cmp}
use Rattle.std.specs.Prelude.{IsSome, All, Contains, IsPermutation, if◌then◌else◌}
use Rattle.std.specs.Cmp.Lexicographic.{slice_cmp}
use Rattle.std.specs.List.Sorted.{IsSorted}
use Rattle.std.specs.Str.{bytes_eq}
use Rattle.std.proofs.lemmas.Bool.{cond-true, lt-ltb}
use Rattle.std.proofs.lemmas.List.{map-id, get_or-map, length-map}
use Rattle.std.proofs.lemmas.List.Elements.{All-nil, All-cons, All-filter, All-contains_itself, All-weaker}
use Rattle.std.proofs.lemmas.List.Sorted.{All-permutation, length_permutation, IsPermutation-map, IsPermutation-trans}
use Rattle.std.proofs.lemmas.Slice.Eq.{bytes_eq-Decides}
use Rattle.fp_base.specs.Files.{File, bytes_at, class_paths, is_class_file, paths_of, texts}
use Rattle.fp_base.specs.Order.{in_text_order}
use Rattle.fp_base.proofs.OrderLemmas.{sorted_is_order}
use Rattle.fp_model.specs.declared.limit.LimitName.TheVariants.{Files}
use Rattle.fp_load.specs.Load.{loaded_of, loaded_of_bytes, files_below, passed_from, most_files}
use Rattle.fp_load.specs.Load.LoadRefusal.{Passed}

-- ---- the order of the texts

-- what ascends by a text has its texts ascend
texts_ascend : {X : Type 0} (f : X → List ℕ) (xs : List X) → IsSorted (λ a b. slice_cmp nat_cmp (f a) (f b)) xs → IsSorted (λ a b. slice_cmp nat_cmp a b) (map f xs)
texts_ascend f [] up = λ k d low high. absurd (omega arith)
texts_ascend f (x ∷ xs) up = λ k d low high.
    let later : k + 1 < length (x ∷ xs) = omega (arith, length-map (x ∷ xs) f) in
    let here : k < length (x ∷ xs) = omega arith in
    ap (λ t. is_lt (slice_cmp nat_cmp t (get_or (map f (x ∷ xs)) k d))) (get_or-map f (x ∷ xs) (k + 1) x d later)
    ∙ ap (λ t. is_lt (slice_cmp nat_cmp (f (get_or (x ∷ xs) (k + 1) x)) t)) (get_or-map f (x ∷ xs) k x d here)
    ∙ up k x low later

-- the told texts, listed in another order and then sorted, are in their order
pub in_order : {X : Type 0} (f : X → List ℕ) (told : List (List ℕ)) (listed sorted : List X) → IsPermutation told (map f listed) → IsPermutation listed sorted → IsSorted (λ a b. slice_cmp nat_cmp (f a) (f b)) sorted → map f sorted ≡ in_text_order told
in_order f told listed sorted same moved up =
    let all : IsPermutation told (map f sorted) = IsPermutation-trans told (map f listed) (map f sorted) same (IsPermutation-map f listed sorted moved) in
    sym (map-id (map f sorted))
    ∙ sorted_is_order (λ (t : List ℕ). t) told (map f sorted) all (texts_ascend f sorted up)
    ∙ ap in_text_order (map-id told)

-- ---- what is told of each path

told_later : (same : Bool) (bytes : List ℕ) (found : Option (List ℕ)) → IsSome found → IsSome (if same then Some bytes else found)
told_later true bytes found is = refl
told_later false bytes found is = is

told_first : (same : Bool) (bytes : List ℕ) (found : Option (List ℕ)) → same ≡ true → IsSome (if same then Some bytes else found)
told_first true bytes found is = refl
told_first false bytes found is = absurd cc

-- each path of told files has a file
each_told : (files : List File) → All (λ p. IsSome (bytes_at files p)) (paths_of files)
each_told [] = All-nil (λ p. IsSome (bytes_at [] p))
each_told (file ∷ files) =
    All-cons (λ p. IsSome (bytes_at (file ∷ files) p)) file.path (paths_of files)
    (told_first (bytes_eq file.path file.path) file.bytes (bytes_at files file.path) ((bytes_eq-Decides file.path file.path).1 refl))
    (All-weaker (λ p. IsSome (bytes_at files p)) (λ p. IsSome (bytes_at (file ∷ files) p)) (λ p is. told_later (bytes_eq file.path p) file.bytes (bytes_at files p) is) (paths_of files) (each_told files))

pub listed_told : (files : List File) (dir : List ℕ) (paths : List (List ℕ)) → IsPermutation (class_paths files dir) paths → All (λ p. IsSome (bytes_at files p)) paths
listed_told files dir paths same =
    All-permutation (λ p. IsSome (bytes_at files p)) (class_paths files dir) paths same (All-filter (is_class_file dir) (λ p. IsSome (bytes_at files p)) (paths_of files) (each_told files))

-- each of the sorted paths was listed
pub still_listed : {X : Type 0} (f : X → List ℕ) (texts : List (List ℕ)) (listed sorted : List X) → texts ≡ map f listed → IsPermutation listed sorted → All (Contains texts) (map f sorted)
still_listed f texts listed sorted is moved =
    subst (λ l. All (Contains l) (map f sorted)) (sym is)
    (All-permutation (Contains (map f listed)) (map f listed) (map f sorted) (IsPermutation-map f listed sorted moved) (All-contains_itself (map f listed)))

-- ---- their number

pub as_many : {X : Type 0} (f : X → List ℕ) (told : List (List ℕ)) (listed : List X) → IsPermutation told (map f listed) → length told ≡ length listed
as_many f told listed same = sym (length_permutation told (map f listed) same) ∙ length-map listed f

pub too_many : (files : List File) (dir : List ℕ) → 20000 < length (class_paths files dir) → loaded_of files dir ≡ Err (Passed Files 20000)
too_many files dir many = cond-true (nat_lt most_files (length (class_paths files dir))) (Err (Passed Files most_files)) (loaded_of_bytes (files_below files dir) (passed_from 0 (files_below files dir))) (lt-ltb most_files (length (class_paths files dir)) many)
