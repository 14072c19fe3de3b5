-- What the library finds in words of the grammar.
use Rattle.std.proofs.Common.{◌≡◌, ℕ, ◌≤◌, ◌&&◌, ◌==◌, Bool, true, false, cond, is_some, Option, Some, None, List, [], ◌∷◌, ◌++◌, length, refl, sym, ap, subst, ◌∙◌, arith}
use Rattle.std.specs.Prelude.{codes, option_and_then, option_map, slice_get, unwrap_or}
use Rattle.std.proofs.lemmas.List.{append-nil, append_assoc}
use Rattle.std.proofs.lemmas.Bool.{le-leb}
use Rattle.std.specs.List.{fold, list_all, list_any}
use Rattle.clap.proofs.WalkLemmas.{both}
use Rattle.clap.specs.Lexer.{usize_max}
use Rattle.clap.specs.Matches.{found_of}
use Rattle.clap.specs.Simple.{App, HasMatchesOf, built, entered}
use Rattle.clap.specs.Takes.{default_passes, entered_passes, is_valid, settle_passes, takes, turn_passes, walk_passes}
use Rattle.clap.specs.ValueTests.{accepts}
use Rattle.clap.specs.Walk.{Row, Text, Walk, finished, first_of, has_row, is_pending, rows_of, settled_rows, walked}
use Rattle.clap.specs.declared.builder.value_parser.ValueParser.TheVariants as vp
use Rattle.clap.specs.declared.parser.matches.ArgMatches.{ArgMatches}
use Rattle.fp_words.specs.Command.{dir_rule, run_app, run_in}
use Rattle.fp_words.specs.Lists.{distinct_items, is_empty, items_between}
use Rattle.fp_words.specs.Numbers.{workers_of}
use Rattle.fp_words.specs.Words.{Given, asked, is_plain, none_given, one_worker, options_of, run_asked, run_of, run_with, with_option}
use Rattle.fp_words.proofs.CommandLemmas.{same_run}
use Rattle.fp_words.proofs.OptionLemmas.{Holds, HoldsRun, Name, analyses, show, workers, Names, holds-dir, holds-more, holds-roots, id_of, value_at, with_named, with_option-plain, with_value-names}
use Rattle.fp_words.proofs.ReadLemmas.{and_both, after_dir, after_roots, awaiting, between, dir_passes, dir_settles, dir_turn, more_passes, more_turn, option_passes, option_settles, option_turn, root_passes, root_turn, rules, shape, value_passes, value_turn}
use Rattle.fp_words.proofs.RowLemmas.{entry, first_added, first_use, has_row-other, no_defaults}

-- the walk over the words ends with the entries of this run, and no word is refused
pub record Ends (start : Walk) (words : List Text) (given : Given) (dir : Text) (roots : List Text) : Type 0 where
  pub last : Walk
  pub goes : fold (walked rules []) start words ≡ last
  pub passes : walk_passes shape [] start words ≡ true
  pub stopped : last.stopped ≡ None
  pub settles : settle_passes rules false last.held ≡ true
  pub rows : List Row
  pub settled : settled_rows rules last.held.pending last.held.rows ≡ rows
  pub holds : HoldsRun given dir roots rows

one_word : (start next : Walk) (word : Text) (rest : List Text) (given : Given) (dir : Text) (roots : List Text) → walked rules [] start word ≡ next → turn_passes shape [] start word ≡ true → Ends next rest given dir roots → Ends start (word ∷ rest) given dir roots
unfolding walk_passes
one_word start next word rest given dir roots e turn ends = record {
  last = ends.last;
  goes = ap (λ w. fold (walked rules []) w rest) e ∙ ends.goes;
  passes = and_both (turn_passes shape [] start word) (walk_passes shape [] (walked rules [] start word) rest) turn (ap (λ w. walk_passes shape [] w rest) e ∙ ends.passes);
  stopped = ends.stopped;
  settles = ends.settles;
  rows = ends.rows;
  settled = ends.settled;
  holds = ends.holds;
}

-- ---- the directory and the roots

dir_used : (rows : List Row) (dir : Text) → has_row (codes "dir") rows ≡ false → settled_rows rules (Some (codes "dir", dir ∷ [])) rows ≡ rows ++ entry (codes "dir") (dir ∷ []) ∷ []
dir_used rows dir absent = first_use (codes "dir") (dir ∷ []) rows absent

no_roots : (given : Given) (rows : List Row) (dir : Text) → Holds given rows → Ends (after_dir rows dir) [] given dir []
unfolding walk_passes
no_roots given rows dir h = record {
  last = after_dir rows dir;
  goes = refl;
  passes = refl;
  stopped = refl;
  settles = dir_settles rows dir h.no_dir;
  rows = rows ++ entry (codes "dir") (dir ∷ []) ∷ [];
  settled = dir_used rows dir h.no_dir;
  holds = holds-dir given rows dir h;
}

all_accepted : (words : List Text) → list_all (accepts false vp.String) words ≡ true
all_accepted [] = refl
all_accepted (word ∷ words) = all_accepted words

roots_settle : (rows : List Row) (root : Text) (roots : List Text) → length (root ∷ roots) ≤ usize_max → settle_passes rules false (after_roots rows (root ∷ roots)).held ≡ true
roots_settle rows root roots few =
    rw (le-leb 1 (length (root ∷ roots)) (omega arith), le-leb (length (root ∷ roots)) usize_max few, all_accepted roots) refl

roots_end : (given : Given) (rows : List Row) (dir root : Text) (seen more all : List Text) → (root ∷ seen) ++ more ≡ all → length all ≤ usize_max → list_all is_plain more ≡ true → Holds given rows
    → Ends (after_roots (rows ++ entry (codes "dir") (dir ∷ []) ∷ []) (root ∷ seen)) more given dir all
unfolding walk_passes
roots_end given rows dir root seen [] all is few plain h =
    let same : root ∷ seen ≡ all = sym (append-nil (root ∷ seen)) ∙ is in
    let few_seen : length (root ∷ seen) ≤ usize_max = subst (λ (texts : List Text). length texts ≤ usize_max) (sym same) few in
    let no_root : has_row (codes "root") (rows ++ entry (codes "dir") (dir ∷ []) ∷ []) ≡ false = has_row-other (codes "root") rows (entry (codes "dir") (dir ∷ [])) refl ∙ h.no_root in
    record {
      last = after_roots (rows ++ entry (codes "dir") (dir ∷ []) ∷ []) (root ∷ seen);
      goes = refl;
      passes = refl;
      stopped = refl;
      settles = roots_settle (rows ++ entry (codes "dir") (dir ∷ []) ∷ []) root seen few_seen;
      rows = (rows ++ entry (codes "dir") (dir ∷ []) ∷ []) ++ entry (codes "root") (root ∷ seen) ∷ [];
      settled = first_added (codes "root") (root ∷ seen) (rows ++ entry (codes "dir") (dir ∷ []) ∷ []) no_root;
      holds = subst (λ (texts : List Text). HoldsRun given dir texts ((rows ++ entry (codes "dir") (dir ∷ []) ∷ []) ++ entry (codes "root") (root ∷ seen) ∷ [])) same (holds-roots given rows dir root seen h);
    }
roots_end given rows dir root seen (next ∷ more) all is few plain h =
    let p = both (is_plain next) (list_all is_plain more) plain in
    one_word _ _ next more given dir all
    (more_turn (rows ++ entry (codes "dir") (dir ∷ []) ∷ []) (root ∷ seen) next p.0)
    (more_passes (rows ++ entry (codes "dir") (dir ∷ []) ∷ []) (root ∷ seen) next p.0)
    (roots_end given rows dir root (seen ++ next ∷ []) more all (append_assoc (root ∷ seen) (next ∷ []) more ∙ is) few p.1 h)

dir_ends : (given : Given) (rows : List Row) (pending : Option (Text × List Text)) (dir : Text) (roots : List Text) → length roots ≤ usize_max → is_pending dir_rule pending ≡ false
    → settle_passes rules false (between rows pending).held ≡ true → Holds given (settled_rows rules pending rows) → list_all is_plain (dir ∷ roots) ≡ true → Ends (between rows pending) (dir ∷ roots) given dir roots
dir_ends given rows pending dir [] few apart settles h plain =
    let p = both (is_plain dir) true plain in
    one_word _ _ dir [] given dir [] (dir_turn rows pending dir apart p.0) (dir_passes rows pending dir apart settles p.0) (no_roots given (settled_rows rules pending rows) dir h)
dir_ends given rows pending dir (root ∷ more) few apart settles h plain =
    let p = both (is_plain dir) (list_all is_plain (root ∷ more)) plain in
    let q = both (is_plain root) (list_all is_plain more) p.1 in
    one_word _ _ dir (root ∷ more) given dir (root ∷ more) (dir_turn rows pending dir apart p.0) (dir_passes rows pending dir apart settles p.0)
    (one_word _ _ root more given dir (root ∷ more)
    (root_turn (settled_rows rules pending rows) dir root q.0 ∙ ap (λ r. after_roots r (root ∷ [])) (dir_used (settled_rows rules pending rows) dir h.no_dir))
    (root_passes (settled_rows rules pending rows) dir root h.no_dir q.0)
    (roots_end given (settled_rows rules pending rows) dir root [] more (root ∷ more) refl few q.1 h))

-- ---- the options

option_used : (name : Name) (rows : List Row) (value : Text) → has_row (id_of name) rows ≡ false → settled_rows rules (Some (id_of name, value ∷ [])) rows ≡ rows ++ entry (id_of name) (value ∷ []) ∷ []
option_used analyses rows value absent = first_use (codes "analyses") (value ∷ []) rows absent
option_used show rows value absent = first_use (codes "show") (value ∷ []) rows absent
option_used workers rows value absent = first_use (codes "workers") (value ∷ []) rows absent

option_apart : (name : Name) (value : Text) → is_pending dir_rule (Some (id_of name, value ∷ [])) ≡ false
option_apart analyses value = refl
option_apart show value = refl
option_apart workers value = refl

-- the options end here
here : (given final : Given) (words : List Text) (rows : List Row) (pending : Option (Text × List Text)) (dir : Text) (roots : List Text) → length words ≤ usize_max → is_pending dir_rule pending ≡ false
    → settle_passes rules false (between rows pending).held ≡ true → Holds given (settled_rows rules pending rows) → given ≡ final → words ≡ dir ∷ roots → list_all is_plain (dir ∷ roots) ≡ true → Ends (between rows pending) words final dir roots
here given final words rows pending dir roots few apart settles h same is plain =
    let long : length words ≡ length (dir ∷ roots) = ap length is in
    let ends : Ends (between rows pending) (dir ∷ roots) given dir roots = dir_ends given rows pending dir roots (omega arith) apart settles h plain in
    let at_final : Ends (between rows pending) (dir ∷ roots) final dir roots = subst (λ (g : Given). Ends (between rows pending) (dir ∷ roots) g dir roots) same ends in
    subst (λ (w : List Text). Ends (between rows pending) w final dir roots) (sym is) at_final

-- an option and its value, and then the rest
option_ends : (given final more : Given) (word value : Text) (rest : List Text) (rows : List Row) (pending : Option (Text × List Text)) (dir : Text) (roots : List Text)
    → settle_passes rules false (between rows pending).held ≡ true → Holds given (settled_rows rules pending rows) → is_plain value ≡ true → Names given word value more
    → ((rows' : List Row) (pending' : Option (Text × List Text)) → is_pending dir_rule pending' ≡ false → settle_passes rules false (between rows' pending').held ≡ true → Holds more (settled_rows rules pending' rows') → Ends (between rows' pending') rest final dir roots)
    → Ends (between rows pending) (word ∷ value ∷ rest) final dir roots
option_ends given final more word value rest rows pending dir roots settles h plain names rec =
    let kept = settled_rows rules pending rows in
    let absent : has_row (id_of names.name) (settled_rows rules pending rows) ≡ false = h.has names.name ∙ ap is_some names.new in
    let named : Holds (with_named given names.name value) (settled_rows rules (Some (id_of names.name, value ∷ [])) (settled_rows rules pending rows)) =
    subst (λ (r : List Row). Holds (with_named given names.name value) r) (sym (option_used names.name (settled_rows rules pending rows) value absent)) (holds-more given (settled_rows rules pending rows) names.name value h names.new) in
    let holds : Holds more (settled_rows rules (Some (id_of names.name, value ∷ [])) (settled_rows rules pending rows)) = subst (λ (g : Given). Holds g (settled_rows rules (Some (id_of names.name, value ∷ [])) (settled_rows rules pending rows))) (sym names.added) named in
    let ends : Ends (between (settled_rows rules pending rows) (Some (id_of names.name, value ∷ []))) rest final dir roots =
    rec (settled_rows rules pending rows) (Some (id_of names.name, value ∷ [])) (option_apart names.name value) (option_settles names.name (settled_rows rules pending rows) value absent) holds in
    one_word (between rows pending) (awaiting (settled_rows rules pending rows) (id_of names.name)) word (value ∷ rest) final dir roots
    (ap (walked rules [] (between rows pending)) names.is ∙ option_turn names.name rows pending)
    (ap (turn_passes shape [] (between rows pending)) names.is ∙ option_passes names.name rows pending settles)
    (one_word (awaiting (settled_rows rules pending rows) (id_of names.name)) (between (settled_rows rules pending rows) (Some (id_of names.name, value ∷ []))) value rest final dir roots
    (value_turn names.name (settled_rows rules pending rows) value plain) (value_passes names.name (settled_rows rules pending rows) value plain) ends)

same_parts : (given final : Given) (words rest : List Text) → ◌≡◌ {A = Option (Given × List Text)} (Some (given, words)) (Some (final, rest)) → (given ≡ final) × (words ≡ rest)
same_parts given final words rest e =
    let pair : ◌≡◌ {A = Given × List Text} (given, words) (final, rest) = cc in
    (ap (λ (p : Given × List Text). p.0) pair, ap (λ (p : Given × List Text). p.1) pair)

not_empty : (dir : Text) (roots : List Text) → [] ≡ dir ∷ roots → ⊥
not_empty dir roots e = cc

not_some : {X : Type 0} (x : X) → None ≡ Some x → ⊥
not_some x e = cc

-- the rest of the words ends, whatever options came before
abbrev Continues : Given → Text → List Text → List Text → Given → Type 0
Continues final dir roots rest more = (rows : List Row) (pending : Option (Text × List Text)) → is_pending dir_rule pending ≡ false → settle_passes rules false (between rows pending).held ≡ true
    → Holds more (settled_rows rules pending rows) → options_of more rest ≡ Some (final, dir ∷ roots) → Ends (between rows pending) rest final dir roots

run_ends : (given final : Given) (words : List Text) (rows : List Row) (pending : Option (Text × List Text)) (dir : Text) (roots : List Text) → length words ≤ usize_max → is_pending dir_rule pending ≡ false
    → settle_passes rules false (between rows pending).held ≡ true → Holds given (settled_rows rules pending rows) → options_of given words ≡ Some (final, dir ∷ roots) → list_all is_plain (dir ∷ roots) ≡ true → Ends (between rows pending) words final dir roots
run_ends given final [] rows pending dir roots few apart settles h e plain =
    absurd (not_empty dir roots (same_parts given final [] (dir ∷ roots) e).1)
run_ends given final (word ∷ []) rows pending dir roots few apart settles h e plain =
    let same = same_parts given final (word ∷ []) (dir ∷ roots) e in
    here given final (word ∷ []) rows pending dir roots few apart settles h same.0 same.1 plain
run_ends given final (word ∷ value ∷ rest) rows pending dir roots few apart settles h e plain =
    by_case (is_plain word) e (λ more rows' pending' apart' settles' holds rest_is. run_ends more final rest rows' pending' dir roots (omega arith) apart' settles' holds rest_is plain)
  where
    step : (next : Option Given) → with_option given word value ≡ next → option_and_then (λ more. options_of more rest) next ≡ Some (final, dir ∷ roots) → ((more : Given) → Continues final dir roots rest more) → Ends (between rows pending) (word ∷ value ∷ rest) final dir roots
    step None w t rec = absurd (not_some (final, dir ∷ roots) t)
    step (Some more) w t rec =
        let p = with_option-plain given word value more w in
        option_ends given final more word value rest rows pending dir roots settles h p.0 (with_value-names given word value more p.1)
        (λ rows' pending' apart' settles' holds. rec more rows' pending' apart' settles' holds t)

    by_case : (b : Bool) → cond b (Some (given, word ∷ value ∷ rest)) (option_and_then (λ more. options_of more rest) (with_option given word value)) ≡ Some (final, dir ∷ roots) → ((more : Given) → Continues final dir roots rest more) → Ends (between rows pending) (word ∷ value ∷ rest) final dir roots
    by_case true t rec =
        let same = same_parts given final (word ∷ value ∷ rest) (dir ∷ roots) t in
        here given final (word ∷ value ∷ rest) rows pending dir roots few apart settles h same.0 same.1 plain
    by_case false t rec = step (with_option given word value) refl t rec

-- ---- the run

nothing_kept : Holds none_given []
nothing_kept = record { first = first; has = has; no_dir = refl; no_root = refl }
  where
    first : (name : Name) → first_of (id_of name) [] ≡ value_at none_given name
    first analyses = refl
    first show = refl
    first workers = refl

    has : (name : Name) → has_row (id_of name) [] ≡ is_some (value_at none_given name)
    has analyses = refl
    has show = refl
    has workers = refl

-- a list, a list and a number, where there are such
all_there : (dir : Text) (roots : List Text) (no_first no_second : Bool) (first second : List Text) (count : Option ℕ)
    → is_some (option_and_then (λ a. option_and_then (λ s. option_map (λ w. asked dir roots a s w) (option_and_then (λ n. cond (n == 1) (Some n) None) count)) (cond no_second None (Some second))) (cond no_first None (Some first))) ≡ true
    → option_and_then (λ a. option_and_then (λ s. option_map (λ w. asked dir roots a s w) (option_and_then (λ n. cond (n == 1) (Some n) None) count)) (cond no_second None (Some second))) (cond no_first None (Some first))
    ≡ Some (asked dir roots first second (unwrap_or count 1))
all_there dir roots true no_second first second count e = cc
all_there dir roots false true first second count e = cc
all_there dir roots false false first second None e = cc
all_there dir roots false false first second (Some n) e = by_case (n == 1) e
  where
    by_case : (b : Bool) → is_some (option_map (λ w. asked dir roots first second w) (cond b (Some n) None)) ≡ true → option_map (λ w. asked dir roots first second w) (cond b (Some n) None) ≡ Some (asked dir roots first second n)
    by_case true t = refl
    by_case false t = cc

-- the run of options that are all there, by their values
run_by_values : (dir : Text) (roots : List Text) (a s w : Option Text) → is_some (run_with (record { analyses = a; show = s; workers = w }) dir roots) ≡ true
    → run_with (record { analyses = a; show = s; workers = w }) dir roots
    ≡ Some (asked dir roots (distinct_items (items_between (unwrap_or a []))) (distinct_items (items_between (unwrap_or s []))) (unwrap_or (workers_of (unwrap_or w [])) 1))
run_by_values dir roots None s w e = cc
run_by_values dir roots (Some a) None w e = by_case (list_any is_empty (items_between a)) e
  where
    by_case : (b : Bool) → is_some (option_and_then (λ x. option_and_then (λ y. option_map (λ z. asked dir roots x y z) (option_and_then one_worker w)) None) (cond b None (Some (distinct_items (items_between a))))) ≡ true → option_and_then (λ x. option_and_then (λ y. option_map (λ z. asked dir roots x y z) (option_and_then one_worker w)) None) (cond b None (Some (distinct_items (items_between a)))) ≡ Some (asked dir roots (distinct_items (items_between a)) (distinct_items (items_between [])) (unwrap_or (workers_of (unwrap_or w [])) 1))
    by_case true t = cc
    by_case false t = cc
run_by_values dir roots (Some a) (Some s) None e = by_case (list_any is_empty (items_between a)) (list_any is_empty (items_between s)) e
  where
    by_case : (b c : Bool) → is_some (option_and_then (λ x. option_and_then (λ y. option_map (λ z. asked dir roots x y z) None) (cond c None (Some (distinct_items (items_between s))))) (cond b None (Some (distinct_items (items_between a))))) ≡ true → option_and_then (λ x. option_and_then (λ y. option_map (λ z. asked dir roots x y z) None) (cond c None (Some (distinct_items (items_between s))))) (cond b None (Some (distinct_items (items_between a)))) ≡ Some (asked dir roots (distinct_items (items_between a)) (distinct_items (items_between s)) (unwrap_or (workers_of []) 1))
    by_case true c t = cc
    by_case false true t = cc
    by_case false false t = cc
run_by_values dir roots (Some a) (Some s) (Some w) e = all_there dir roots (list_any is_empty (items_between a)) (list_any is_empty (items_between s)) (distinct_items (items_between a)) (distinct_items (items_between s)) (workers_of w) e

-- the roots that are kept
roots_kept : (roots : List Text) → unwrap_or (cond (is_some (slice_get roots 0)) (Some roots) None) [] ≡ roots
roots_kept [] = refl
roots_kept (root ∷ roots) = refl

-- the run of the options is that of the entries
run_kept : (given : Given) (dir : Text) (roots : List Text) (rows : List Row) → HoldsRun given dir roots rows → is_some (run_with given dir roots) ≡ true → run_with given dir roots ≡ Some (run_in rows)
run_kept given dir roots rows holds e =
    run_by_values dir roots given.analyses given.show given.workers e
    ∙ ap Some (same_run
    (ap (λ o. unwrap_or o []) (sym holds.directory))
    (sym (ap (λ o. unwrap_or o []) holds.starts ∙ roots_kept roots))
    (ap (λ o. distinct_items (items_between (unwrap_or o []))) (sym (holds.options analyses)))
    (ap (λ o. distinct_items (items_between (unwrap_or o []))) (sym (holds.options show)))
    (ap (λ o. unwrap_or (workers_of (unwrap_or o [])) 1) (sym (holds.options workers))))

-- what is known of words of the grammar
record IsRead (words : List Text) : Type 0 where
  given : Given
  dir : Text
  roots : List Text
  ends : Ends (between [] None) words given dir roots
  is : run_asked words ≡ run_with given dir roots
  complete : is_some (run_with given dir roots) ≡ true

parts_read : (words : List Text) → length words ≤ usize_max → (parts : Option (Given × List Text)) → options_of none_given words ≡ parts → is_some (option_and_then (λ p. run_of p.0 p.1) parts) ≡ true → IsRead words
parts_read words few None is e = cc
parts_read words few (Some (given, [])) is e = cc
parts_read words few (Some (given, dir ∷ roots)) is e = by_case (list_all is_plain (dir ∷ roots)) refl e
  where
    by_case : (b : Bool) → list_all is_plain (dir ∷ roots) ≡ b → is_some (cond b (run_with given dir roots) None) ≡ true → IsRead words
    by_case true plain t = record {
      given = given;
      dir = dir;
      roots = roots;
      ends = run_ends none_given given words [] None dir roots few refl refl nothing_kept is plain;
      is = ap (option_and_then (λ p. run_of p.0 p.1)) is ∙ ap (λ c. cond c (run_with given dir roots) None) plain;
      complete = t;
    }
    by_case false plain t = cc

run_read : (words : List Text) → length words ≤ usize_max → is_some (run_asked words) ≡ true → IsRead words
run_read words few e = parts_read words few (options_of none_given words) refl e

-- what the library asks of the walk's end
abbrev level_from : Walk → Bool → Bool
level_from last passes =
    entered_passes (built run_app) last.stopped
    && (passes && (settle_passes rules false last.held && (list_all default_passes rules && is_valid shape (finished rules last.held) (is_some (entered (built run_app) last.stopped)))))

level_passes_from : (last : Walk) (passes : Bool) → last.stopped ≡ None → passes ≡ true → settle_passes rules false last.held ≡ true → level_from last passes ≡ true
level_passes_from last passes stopped ok settles = rw (stopped, ok, settles) refl

-- the library takes words of the grammar
pub takes_run : (app : App) (words : List Text) → app ≡ run_app → length words ≤ usize_max → is_some (run_asked words) ≡ true → takes app words ≡ true
takes_run app words is few e =
    let read = run_read words few e in
    ap (λ a. takes a words) is
    ∙ ap (λ w. level_from w (walk_passes shape [] (between [] None) words)) read.ends.goes
    ∙ level_passes_from read.ends.last (walk_passes shape [] (between [] None) words) read.ends.stopped read.ends.passes read.ends.settles

-- and finds what they ask for
pub found_run : (app : App) (words : List Text) (found : ArgMatches) → app ≡ run_app → length words ≤ usize_max → is_some (run_asked words) ≡ true → HasMatchesOf app words found → run_asked words ≡ Some (run_in (rows_of (found_of found)))
found_run app words found is few e has =
    let read = run_read words few e in
    let exact : HasMatchesOf run_app words found = subst (λ (a : App). HasMatchesOf a words found) is has in
    let kept : rows_of (found_of found) ≡ read.ends.rows =
    (exact refl).0 ∙ ap (λ w. finished rules w.held) read.ends.goes ∙ no_defaults rules (settled_rows rules read.ends.last.held.pending read.ends.last.held.rows) refl ∙ read.ends.settled in
    read.is ∙ run_kept read.given read.dir read.roots read.ends.rows read.ends.holds read.complete ∙ ap (λ r. Some (run_in r)) (sym kept)
