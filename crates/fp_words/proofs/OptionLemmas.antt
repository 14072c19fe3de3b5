-- The options by name, and what the library keeps of them.
use Rattle.std.proofs.Common.{◌≡◌, Bool, true, false, cond, is_some, Option, Some, None, List, [], ◌∷◌, ◌++◌, refl, ap, ◌∙◌}
use Rattle.std.specs.Prelude.{codes, option_and_then, option_map, slice_get}
use Rattle.std.proofs.lemmas.Slice.Eq.{bytes_eq-Decides}
use Rattle.std.specs.Str.{bytes_eq}
use Rattle.clap.specs.Walk.{Row, Text, all_of, first_of, has_row}
use Rattle.fp_words.specs.Words.{Given, is_plain, with_option, with_value}
use Rattle.fp_words.proofs.RowLemmas.{entry, find-other, find-same, find-absent, has_row-other, has_row-same}

pub data Name : Type 0 where
  analyses : Name
  show : Name
  workers : Name

abbrev pub id_of : Name → Text
id_of analyses = codes "analyses"
id_of show = codes "show"
id_of workers = codes "workers"

abbrev pub word_of : Name → Text
word_of analyses = codes "--analyses"
word_of show = codes "--show"
word_of workers = codes "--workers"

abbrev pub value_at : Given → Name → Option Text
value_at given analyses = given.analyses
value_at given show = given.show
value_at given workers = given.workers

abbrev pub with_named : Given → Name → Text → Given
with_named given analyses value = record given { analyses = Some value }
with_named given show value = record given { show = Some value }
with_named given workers value = record given { workers = Some value }

-- ---- which option a word names

pub record Names (given : Given) (word value : Text) (more : Given) : Type 0 where
  pub name : Name
  pub is : word ≡ word_of name
  pub new : value_at given name ≡ None
  pub added : more ≡ with_named given name value

equal : (a b : Text) → bytes_eq a b ≡ true → a ≡ b
equal a b e = (bytes_eq-Decides a b).0 e

named : (given : Given) (word value : Text) (more : Given) (name : Name) → word ≡ word_of name → (given_before : Option Text) → value_at given name ≡ given_before → cond (is_some given_before) None (Some (with_named given name value)) ≡ Some more → Names given word value more
named given word value more name is None new e = record { name = name; is = is; new = new; added = cc }
named given word value more name is (Some before) new e = cc

pub with_value-names : (given : Given) (word value : Text) (more : Given) → with_value given word value ≡ Some more → Names given word value more
with_value-names given word value more e =
    by_case (bytes_eq word (codes "--analyses")) (bytes_eq word (codes "--show")) (bytes_eq word (codes "--workers")) refl refl refl e
  where
    by_case : (a s w : Bool) → bytes_eq word (codes "--analyses") ≡ a → bytes_eq word (codes "--show") ≡ s → bytes_eq word (codes "--workers") ≡ w
        → cond a (cond (is_some given.analyses) None (Some (with_named given analyses value))) (cond s (cond (is_some given.show) None (Some (with_named given show value))) (cond w (cond (is_some given.workers) None (Some (with_named given workers value))) None)) ≡ Some more
        → Names given word value more
    by_case true s w ea es ew t = named given word value more analyses (equal word (codes "--analyses") ea) given.analyses refl t
    by_case false true w ea es ew t = named given word value more show (equal word (codes "--show") es) given.show refl t
    by_case false false true ea es ew t = named given word value more workers (equal word (codes "--workers") ew) given.workers refl t
    by_case false false false ea es ew t = cc

pub with_option-plain : (given : Given) (word value : Text) (more : Given) → with_option given word value ≡ Some more → (is_plain value ≡ true) × (with_value given word value ≡ Some more)
with_option-plain given word value more e = by_case (is_plain value) refl e
  where
    by_case : (plain : Bool) → is_plain value ≡ plain → cond plain (with_value given word value) None ≡ Some more → (is_plain value ≡ true) × (with_value given word value ≡ Some more)
    by_case true p t = (p, t)
    by_case false p t = cc

-- ---- what is kept of the options

-- the entries are those of these options
pub record Holds (given : Given) (rows : List Row) : Type 0 where
  pub first : (name : Name) → first_of (id_of name) rows ≡ value_at given name
  pub has : (name : Name) → has_row (id_of name) rows ≡ is_some (value_at given name)
  pub no_dir : has_row (codes "dir") rows ≡ false
  pub no_root : has_row (codes "root") rows ≡ false

first_of-other : (id : Text) (rows : List Row) (row : Row) → bytes_eq row.id id ≡ false → first_of id (rows ++ row ∷ []) ≡ first_of id rows
first_of-other id rows row other = ap (option_and_then (λ r. slice_get r.values 0)) (find-other id rows row other)

pub first_of-same : (id : Text) (rows : List Row) (value : Text) (values : List Text) → has_row id rows ≡ false → first_of id (rows ++ entry id (value ∷ values) ∷ []) ≡ Some value
first_of-same id rows value values absent = ap (option_and_then (λ r. slice_get r.values 0)) (find-same id rows (entry id (value ∷ values)) absent ((bytes_eq-Decides id id).1 refl))

-- an option that is new, with its value
pub holds-more : (given : Given) (rows : List Row) (name : Name) (value : Text) → Holds given rows → value_at given name ≡ None → Holds (with_named given name value) (rows ++ entry (id_of name) (value ∷ []) ∷ [])
holds-more given rows name value h new = record {
  first = first name new;
  has = has name new;
  no_dir = no_dir name;
  no_root = no_root name;
}
  where
    absent : (n : Name) → value_at given n ≡ None → has_row (id_of n) rows ≡ false
    absent n e = h.has n ∙ ap is_some e

    other : (n m : Name) → bytes_eq (id_of n) (id_of m) ≡ false → first_of (id_of m) (rows ++ entry (id_of n) (value ∷ []) ∷ []) ≡ value_at given m
    other n m e = first_of-other (id_of m) rows (entry (id_of n) (value ∷ [])) e ∙ h.first m

    first : (n : Name) → value_at given n ≡ None → (m : Name) → first_of (id_of m) (rows ++ entry (id_of n) (value ∷ []) ∷ []) ≡ value_at (with_named given n value) m
    first analyses e analyses = first_of-same (codes "analyses") rows value [] (absent analyses e)
    first analyses e show = other analyses show refl
    first analyses e workers = other analyses workers refl
    first show e analyses = other show analyses refl
    first show e show = first_of-same (codes "show") rows value [] (absent show e)
    first show e workers = other show workers refl
    first workers e analyses = other workers analyses refl
    first workers e show = other workers show refl
    first workers e workers = first_of-same (codes "workers") rows value [] (absent workers e)

    kept : (n m : Name) → bytes_eq (id_of n) (id_of m) ≡ false → has_row (id_of m) (rows ++ entry (id_of n) (value ∷ []) ∷ []) ≡ is_some (value_at given m)
    kept n m e = has_row-other (id_of m) rows (entry (id_of n) (value ∷ [])) e ∙ h.has m

    has : (n : Name) → value_at given n ≡ None → (m : Name) → has_row (id_of m) (rows ++ entry (id_of n) (value ∷ []) ∷ []) ≡ is_some (value_at (with_named given n value) m)
    has analyses e analyses = has_row-same (codes "analyses") rows (entry (codes "analyses") (value ∷ [])) refl
    has analyses e show = kept analyses show refl
    has analyses e workers = kept analyses workers refl
    has show e analyses = kept show analyses refl
    has show e show = has_row-same (codes "show") rows (entry (codes "show") (value ∷ [])) refl
    has show e workers = kept show workers refl
    has workers e analyses = kept workers analyses refl
    has workers e show = kept workers show refl
    has workers e workers = has_row-same (codes "workers") rows (entry (codes "workers") (value ∷ [])) refl

    no_dir : (n : Name) → has_row (codes "dir") (rows ++ entry (id_of n) (value ∷ []) ∷ []) ≡ false
    no_dir analyses = has_row-other (codes "dir") rows (entry (codes "analyses") (value ∷ [])) refl ∙ h.no_dir
    no_dir show = has_row-other (codes "dir") rows (entry (codes "show") (value ∷ [])) refl ∙ h.no_dir
    no_dir workers = has_row-other (codes "dir") rows (entry (codes "workers") (value ∷ [])) refl ∙ h.no_dir

    no_root : (n : Name) → has_row (codes "root") (rows ++ entry (id_of n) (value ∷ []) ∷ []) ≡ false
    no_root analyses = has_row-other (codes "root") rows (entry (codes "analyses") (value ∷ [])) refl ∙ h.no_root
    no_root show = has_row-other (codes "root") rows (entry (codes "show") (value ∷ [])) refl ∙ h.no_root
    no_root workers = has_row-other (codes "root") rows (entry (codes "workers") (value ∷ [])) refl ∙ h.no_root

-- ---- the directory and the roots

-- the entries are those of these options, this directory and these roots
pub record HoldsRun (given : Given) (dir : Text) (roots : List Text) (rows : List Row) : Type 0 where
  pub options : (name : Name) → first_of (id_of name) rows ≡ value_at given name
  pub directory : first_of (codes "dir") rows ≡ Some dir
  pub starts : all_of (codes "root") rows ≡ cond (is_some (slice_get roots 0)) (Some roots) None

pub holds-dir : (given : Given) (rows : List Row) (dir : Text) → Holds given rows → HoldsRun given dir [] (rows ++ entry (codes "dir") (dir ∷ []) ∷ [])
holds-dir given rows dir h = record {
  options = first;
  directory = first_of-same (codes "dir") rows dir [] h.no_dir;
  starts = ap (option_map (λ r. r.values)) (find-other (codes "root") rows (entry (codes "dir") (dir ∷ [])) refl ∙ find-absent (codes "root") rows h.no_root);
}
  where
    other : (m : Name) → bytes_eq (codes "dir") (id_of m) ≡ false → first_of (id_of m) (rows ++ entry (codes "dir") (dir ∷ []) ∷ []) ≡ value_at given m
    other m e = first_of-other (id_of m) rows (entry (codes "dir") (dir ∷ [])) e ∙ h.first m

    first : (m : Name) → first_of (id_of m) (rows ++ entry (codes "dir") (dir ∷ []) ∷ []) ≡ value_at given m
    first analyses = other analyses refl
    first show = other show refl
    first workers = other workers refl

pub holds-roots : (given : Given) (rows : List Row) (dir root : Text) (roots : List Text) → Holds given rows → HoldsRun given dir (root ∷ roots) ((rows ++ entry (codes "dir") (dir ∷ []) ∷ []) ++ entry (codes "root") (root ∷ roots) ∷ [])
holds-roots given rows dir root roots h = record {
  options = first;
  directory = first_of-other (codes "dir") (rows ++ entry (codes "dir") (dir ∷ []) ∷ []) (entry (codes "root") (root ∷ roots)) refl ∙ before.directory;
  starts = ap (option_map (λ r. r.values)) (find-same (codes "root") (rows ++ entry (codes "dir") (dir ∷ []) ∷ []) (entry (codes "root") (root ∷ roots)) no_root refl);
}
  where
    before : HoldsRun given dir [] (rows ++ entry (codes "dir") (dir ∷ []) ∷ [])
    before = holds-dir given rows dir h

    no_root : has_row (codes "root") (rows ++ entry (codes "dir") (dir ∷ []) ∷ []) ≡ false
    no_root = has_row-other (codes "root") rows (entry (codes "dir") (dir ∷ [])) refl ∙ h.no_root

    other : (m : Name) → bytes_eq (codes "root") (id_of m) ≡ false → first_of (id_of m) ((rows ++ entry (codes "dir") (dir ∷ []) ∷ []) ++ entry (codes "root") (root ∷ roots) ∷ []) ≡ value_at given m
    other m e = first_of-other (id_of m) (rows ++ entry (codes "dir") (dir ∷ []) ∷ []) (entry (codes "root") (root ∷ roots)) e ∙ before.options m

    first : (m : Name) → first_of (id_of m) ((rows ++ entry (codes "dir") (dir ∷ []) ∷ []) ++ entry (codes "root") (root ∷ roots) ∷ []) ≡ value_at given m
    first analyses = other analyses refl
    first show = other show refl
    first workers = other workers refl
