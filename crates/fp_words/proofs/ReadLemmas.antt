-- How the library reads words of the grammar, a word at a time.
use Rattle.std.proofs.Common.{◌≡◌, ℕ, ◌&&◌, ◌==◌, Bool, true, false, not, cond, Option, Some, None, List, [], ◌∷◌, ◌++◌, refl, ap, subst, ◌∙◌}
use Rattle.std.specs.Prelude.{codes, option_and_then, ◌||◌}
use Rattle.std.specs.Option.{option_map_or}
use Rattle.std.proofs.lemmas.Slice.Eq.{bytes_eq-Decides}
use Rattle.std.specs.Str.{bytes_eq}
use Rattle.clap.specs.Simple.{Shape, built}
use Rattle.clap.specs.Lexer.{long_of, long_of_rest, short_of, short_of_rest, strip_byte}
use Rattle.clap.specs.Takes.{bundle_passes, flag_word_passes, other_passes, settle_passes, step_passes, turn_passes}
use Rattle.clap.specs.Walk.{Held, Row, Rule, Text, Waiting, Walk, after_step, has_row, idle, is_pending, long_or_other, option, plain_word, positional, pushed, settled, settled_rows, short_or_plain, subcommand_or_other, trailing, walked}
use Rattle.fp_words.specs.Command.{run_app, dir_rule}
use Rattle.fp_words.specs.Words.{is_plain}
use Rattle.fp_words.proofs.OptionLemmas.{Name, analyses, show, workers, id_of, word_of}

-- what the command is when it is built
abbrev pub shape : Shape
shape = (built run_app).top

abbrev pub rules : List Rule
rules = (built run_app).top.rules

-- ---- where the walk stands

-- before an option or the directory
abbrev pub between : List Row → Option (Text × List Text) → Walk
between rows pending = record { held = record { rows = rows; pending = pending; skip = 0 }; waiting = idle; position = 1; is_trailing = false; stopped = None }

-- after an option's word
abbrev pub awaiting : List Row → Text → Walk
awaiting rows id = record { held = record { rows = rows; pending = Some (id, []); skip = 0 }; waiting = option id; position = 1; is_trailing = false; stopped = None }

-- after the directory
abbrev pub after_dir : List Row → Text → Walk
after_dir rows dir = record { held = record { rows = rows; pending = Some (codes "dir", dir ∷ []); skip = 0 }; waiting = idle; position = 2; is_trailing = false; stopped = None }

-- after roots
abbrev pub after_roots : List Row → List Text → Walk
after_roots rows roots = record { held = record { rows = rows; pending = Some (codes "root", roots); skip = 0 }; waiting = positional; position = 2; is_trailing = false; stopped = None }

-- ---- one word

no_hyphen : (first : ℕ) → not (first == 45) ≡ true → (first == 45) ≡ false
no_hyphen first e = by_case (first == 45) e
  where
    by_case : (b : Bool) → not b ≡ true → b ≡ false
    by_case true t = cc
    by_case false t = refl

-- a plain word is neither `--`, nor an option, nor flags
not_dashes : (word : Text) → is_plain word ≡ true → bytes_eq word (45 ∷ 45 ∷ []) ≡ false
not_dashes word plain = by_case (bytes_eq word (45 ∷ 45 ∷ [])) refl
  where
    by_case : (b : Bool) → bytes_eq word (45 ∷ 45 ∷ []) ≡ b → b ≡ false
    by_case true e =
        let same : word ≡ 45 ∷ 45 ∷ [] = (bytes_eq-Decides word (45 ∷ 45 ∷ [])).0 e in
        let bad : false ≡ true = subst (λ (text : Text). is_plain text ≡ true) same plain in
        cc
    by_case false e = refl

strip-plain : (word : Text) → is_plain word ≡ true → strip_byte 45 word ≡ None
strip-plain [] plain = refl
strip-plain (first ∷ rest) plain = ap (λ b. cond b (Some rest) None) (no_hyphen first plain)

no_long : (word : Text) → is_plain word ≡ true → long_of word ≡ None
no_long word plain = ap (λ o. option_and_then long_of_rest (option_and_then (strip_byte 45) o)) (strip-plain word plain)

no_short : (word : Text) → is_plain word ≡ true → short_of word ≡ None
no_short word plain = ap (option_and_then short_of_rest) (strip-plain word plain)

-- so it is a value
plain_met : (waiting : Waiting) (position : ℕ) (word : Text) (h : Held) → is_plain word ≡ true → subcommand_or_other rules None waiting position word h ≡ plain_word rules waiting word h
plain_met waiting position word h plain =
    ap (λ b. cond b (h, trailing position) (long_or_other rules waiting word (long_of word) h)) (not_dashes word plain)
    ∙ ap (λ o. long_or_other rules waiting word o h) (no_long word plain)
    ∙ ap (λ o. short_or_plain rules waiting word o h) (no_short word plain)

-- and passes
plain_passes : (word : Text) (h : Held) → is_plain word ≡ true → other_passes shape None word h ≡ true
plain_passes word h plain =
    ap (λ b. b || flag_word_passes rules false (long_of word) word h) (not_dashes word plain)
    ∙ ap (λ o. flag_word_passes rules false o word h) (no_long word plain)
    ∙ ap (λ o. option_map_or (λ flags. bundle_passes rules false flags h) o true) (no_short word plain)

passes_too : (b : Bool) → b ≡ true → (b && true) ≡ true
passes_too b e = rw e refl

pub and_both : (a b : Bool) → a ≡ true → b ≡ true → (a && b) ≡ true
and_both a b ea eb = rw (ea, eb) refl

pub option_turn : (name : Name) (rows : List Row) (pending : Option (Text × List Text)) → walked rules [] (between rows pending) (word_of name) ≡ awaiting (settled_rows rules pending rows) (id_of name)
unfolding walked
option_turn analyses rows pending = refl
option_turn show rows pending = refl
option_turn workers rows pending = refl

pub option_passes : (name : Name) (rows : List Row) (pending : Option (Text × List Text)) → settle_passes rules false (between rows pending).held ≡ true → turn_passes shape [] (between rows pending) (word_of name) ≡ true
option_passes analyses rows pending e = passes_too _ e
option_passes show rows pending e = passes_too _ e
option_passes workers rows pending e = passes_too _ e

-- a plain word passes where the value that it is passes
turn_plain : (waiting : Waiting) (position : ℕ) (word : Text) (h : Held) → is_plain word ≡ true → step_passes shape position (plain_word rules waiting word h).0 (plain_word rules waiting word h).1 ≡ true
    → (other_passes shape None word h && step_passes shape position (subcommand_or_other rules None waiting position word h).0 (subcommand_or_other rules None waiting position word h).1) ≡ true
turn_plain waiting position word h plain e =
    and_both (other_passes shape None word h) _ (plain_passes word h plain) (ap (λ met. step_passes shape position met.0 met.1) (plain_met waiting position word h plain) ∙ e)

pub value_turn : (name : Name) (rows : List Row) (value : Text) → is_plain value ≡ true → walked rules [] (awaiting rows (id_of name)) value ≡ between rows (Some (id_of name, value ∷ []))
unfolding walked
value_turn analyses rows value plain = ap (λ met. after_step rules value (awaiting rows (codes "analyses")) met.0 met.1) (plain_met (option (codes "analyses")) 1 value (awaiting rows (codes "analyses")).held plain)
value_turn show rows value plain = ap (λ met. after_step rules value (awaiting rows (codes "show")) met.0 met.1) (plain_met (option (codes "show")) 1 value (awaiting rows (codes "show")).held plain)
value_turn workers rows value plain = ap (λ met. after_step rules value (awaiting rows (codes "workers")) met.0 met.1) (plain_met (option (codes "workers")) 1 value (awaiting rows (codes "workers")).held plain)

pub value_passes : (name : Name) (rows : List Row) (value : Text) → is_plain value ≡ true → turn_passes shape [] (awaiting rows (id_of name)) value ≡ true
value_passes analyses rows value plain = turn_plain (option (codes "analyses")) 1 value (awaiting rows (codes "analyses")).held plain refl
value_passes show rows value plain = turn_plain (option (codes "show")) 1 value (awaiting rows (codes "show")).held plain refl
value_passes workers rows value plain = turn_plain (option (codes "workers")) 1 value (awaiting rows (codes "workers")).held plain refl

-- an option that was not used before may be used with its value
pub option_settles : (name : Name) (rows : List Row) (value : Text) → has_row (id_of name) rows ≡ false → settle_passes rules false (between rows (Some (id_of name, value ∷ []))).held ≡ true
option_settles analyses rows value absent = rw absent refl
option_settles show rows value absent = rw absent refl
option_settles workers rows value absent = rw absent refl

pub dir_turn : (rows : List Row) (pending : Option (Text × List Text)) (dir : Text) → is_pending dir_rule pending ≡ false → is_plain dir ≡ true → walked rules [] (between rows pending) dir ≡ after_dir (settled_rows rules pending rows) dir
unfolding walked
dir_turn rows pending dir apart plain =
    ap (λ met. after_step rules dir (between rows pending) met.0 met.1) (plain_met idle 1 dir (between rows pending).held plain)
    ∙ ap (λ b. record { held = pushed (codes "dir") dir (cond (b && false) (between rows pending).held (settled rules (between rows pending).held)); waiting = idle; position = 2; is_trailing = false; stopped = None }) apart

pub dir_passes : (rows : List Row) (pending : Option (Text × List Text)) (dir : Text) → is_pending dir_rule pending ≡ false → settle_passes rules false (between rows pending).held ≡ true → is_plain dir ≡ true → turn_passes shape [] (between rows pending) dir ≡ true
dir_passes rows pending dir apart e plain =
    turn_plain idle 1 dir (between rows pending).held plain (ap (λ b. (b && false) || settle_passes rules false (between rows pending).held) apart ∙ e)

pub dir_settles : (rows : List Row) (dir : Text) → has_row (codes "dir") rows ≡ false → settle_passes rules false (after_dir rows dir).held ≡ true
dir_settles rows dir absent = rw absent refl

pub root_turn : (rows : List Row) (dir root : Text) → is_plain root ≡ true → walked rules [] (after_dir rows dir) root ≡ after_roots (settled_rows rules (Some (codes "dir", dir ∷ [])) rows) (root ∷ [])
unfolding walked
root_turn rows dir root plain = ap (λ met. after_step rules root (after_dir rows dir) met.0 met.1) (plain_met idle 2 root (after_dir rows dir).held plain)

pub root_passes : (rows : List Row) (dir root : Text) → has_row (codes "dir") rows ≡ false → is_plain root ≡ true → turn_passes shape [] (after_dir rows dir) root ≡ true
root_passes rows dir root absent plain = turn_plain idle 2 root (after_dir rows dir).held plain (dir_settles rows dir absent)

pub more_turn : (rows : List Row) (roots : List Text) (root : Text) → is_plain root ≡ true → walked rules [] (after_roots rows roots) root ≡ after_roots rows (roots ++ root ∷ [])
unfolding walked
more_turn rows roots root plain = ap (λ met. after_step rules root (after_roots rows roots) met.0 met.1) (plain_met positional 2 root (after_roots rows roots).held plain)

pub more_passes : (rows : List Row) (roots : List Text) (root : Text) → is_plain root ≡ true → turn_passes shape [] (after_roots rows roots) root ≡ true
more_passes rows roots root plain = turn_plain positional 2 root (after_roots rows roots).held plain refl
