-- Taking the texts of each of a list into a table of names, where less is said of a full table.
use Rattle.std.proofs.Common.{◌≡◌, ℕ, ◌+◌, ◌<◌, List, ◌∷◌, ◌++◌, Result, Ok, Err, length, get_or, take, drop, refl, sym, ap, ◌∙◌, subst, arith}
use Rattle.std.specs.List.{flat_map}
use Rattle.std.proofs.lemmas.Grind.{flat_map-append}
use Rattle.std.proofs.lemmas.List.{take-append-drop, drop_more, take_all}
use Rattle.fp_base.specs.Names.{with_names}
use Rattle.fp_base.specs.declared.names.NameFault.{NameFault}
use Rattle.fp_model.specs.Interning.{Interned}
use Rattle.fp_model.specs.Taking.{Taken}
use Rattle.fp_model.proofs.Taking.{taken_both, taken_last, taken_ok, taken_stop}

pub taken_of : {X : Type 0} (result : Result X NameFault) (old new texts : List (List ℕ)) → Interned result old new texts → Taken result old new texts
taken_of result old new texts is = record { names = is.names; grown = is.grown; full = λ e. (is.full e).lacks; many = λ e. (is.full e).many }

-- one that failed behind those before it in a list
pub one_stops : {A X Y : Type 0} (texts : A → List (List ℕ)) (xs : List A) (i : ℕ) (x : A) (f : NameFault) (old mid new : List (List ℕ)) → i < length xs → x ≡ get_or xs i x → mid ≡ with_names old (flat_map texts (take i xs)) → Taken {X = X} (Err f) mid new (texts x) → Taken {X = Y} (Err f) old new (flat_map texts xs)
one_stops {A} {X} {Y} texts xs i x f old mid new within is before stopped =
    let rest : drop i xs ≡ x ∷ drop (i + 1) xs = drop_more xs i x within ∙ ap (λ y. y ∷ drop (i + 1) xs) (sym is) in
    let split : flat_map texts xs ≡ flat_map texts (take i xs) ++ (texts x ++ flat_map texts (drop (i + 1) xs)) =
    ap (flat_map texts) (sym (take-append-drop i xs))
    ∙ flat_map-append texts (take i xs) (drop i xs)
    ∙ ap (λ l. flat_map texts (take i xs) ++ flat_map texts l) rest in
    subst (Taken {X = Y} (Err f) old new) (sym split)
    (taken_stop {X = X} {Y = Y} f old mid new (flat_map texts (take i xs)) (texts x) (flat_map texts (drop (i + 1) xs)) before stopped)

-- all of them
pub all_taken : {A X : Type 0} (texts : A → List (List ℕ)) (xs : List A) (i : ℕ) (x : X) (old new : List (List ℕ)) → i ≡ length xs → new ≡ with_names old (flat_map texts (take i xs)) → Taken (Ok x) old new (flat_map texts xs)
all_taken texts xs i x old new whole is = taken_ok x old new (flat_map texts xs) (is ∙ ap (λ l. with_names old (flat_map texts l)) (take_all i xs (omega arith)))

-- ---- calls one after the other

-- one behind another, which took its texts
pub taken_then : {X : Type 0} (result : Result X NameFault) (old mid new a b : List (List ℕ)) → mid ≡ with_names old a → Taken result mid new b → Taken result old new (a ++ b)
taken_then (Ok x) old mid new a b is then = taken_ok x old new (a ++ b) (taken_both old mid new a b is then.names)
taken_then {X} (Err f) old mid new a b is then = taken_last {X = X} {Y = X} f old mid new a b b is refl then

-- one that failed behind two or three others, and some that don't come to pass
pub after_two : {X Y : Type 0} (f : NameFault) (n0 n1 n2 n3 a b d rest : List (List ℕ)) → n1 ≡ with_names n0 a → n2 ≡ with_names n1 b → Taken {X = X} (Err f) n2 n3 d → Taken {X = Y} (Err f) n0 n3 (a ++ (b ++ (d ++ rest)))
after_two {X} {Y} f n0 n1 n2 n3 a b d rest first second stopped = taken_then (Err f) n0 n1 n3 a (b ++ (d ++ rest)) first (taken_stop {X = X} {Y = Y} f n1 n2 n3 b d rest second stopped)

pub after_three : {X Y : Type 0} (f : NameFault) (n0 n1 n2 n3 n4 a b d e rest : List (List ℕ)) → n1 ≡ with_names n0 a → n2 ≡ with_names n1 b → n3 ≡ with_names n2 d → Taken {X = X} (Err f) n3 n4 e → Taken {X = Y} (Err f) n0 n4 (a ++ (b ++ (d ++ (e ++ rest))))
after_three {X} {Y} f n0 n1 n2 n3 n4 a b d e rest first second third stopped = taken_then (Err f) n0 n1 n4 a (b ++ (d ++ (e ++ rest))) first (after_two {X = X} {Y = Y} f n1 n2 n3 n4 b d e rest second third stopped)

-- the last of four or five failed
pub last_of_four : {X Y : Type 0} (f : NameFault) (n0 n1 n2 n3 n4 a b d e : List (List ℕ)) → n1 ≡ with_names n0 a → n2 ≡ with_names n1 b → n3 ≡ with_names n2 d → Taken {X = X} (Err f) n3 n4 e → Taken {X = Y} (Err f) n0 n4 (a ++ (b ++ (d ++ e)))
last_of_four {X} {Y} f n0 n1 n2 n3 n4 a b d e first second third stopped =
    taken_then (Err f) n0 n1 n4 a (b ++ (d ++ e)) first
    (taken_then (Err f) n1 n2 n4 b (d ++ e) second
    (taken_last {X = X} {Y = Y} f n2 n3 n4 d e e third refl stopped))

pub last_of_five : {X Y : Type 0} (f : NameFault) (n0 n1 n2 n3 n4 n5 a b d e g : List (List ℕ)) → n1 ≡ with_names n0 a → n2 ≡ with_names n1 b → n3 ≡ with_names n2 d → n4 ≡ with_names n3 e → Taken {X = X} (Err f) n4 n5 g → Taken {X = Y} (Err f) n0 n5 (a ++ (b ++ (d ++ (e ++ g))))
last_of_five {X} {Y} f n0 n1 n2 n3 n4 n5 a b d e g first second third fourth stopped =
    taken_then (Err f) n0 n1 n5 a (b ++ (d ++ (e ++ g))) first (last_of_four {X = X} {Y = Y} f n1 n2 n3 n4 n5 b d e g second third fourth stopped)

-- four or five that took their texts
pub four_taken : {X : Type 0} (x : X) (n0 n1 n2 n3 n4 a b d e : List (List ℕ)) → n1 ≡ with_names n0 a → n2 ≡ with_names n1 b → n3 ≡ with_names n2 d → n4 ≡ with_names n3 e → Taken (Ok x) n0 n4 (a ++ (b ++ (d ++ e)))
four_taken x n0 n1 n2 n3 n4 a b d e first second third fourth =
    taken_then (Ok x) n0 n1 n4 a (b ++ (d ++ e)) first
    (taken_then (Ok x) n1 n2 n4 b (d ++ e) second
    (taken_then (Ok x) n2 n3 n4 d e third (taken_ok x n3 n4 e fourth)))

pub five_taken : {X : Type 0} (x : X) (n0 n1 n2 n3 n4 n5 a b d e g : List (List ℕ)) → n1 ≡ with_names n0 a → n2 ≡ with_names n1 b → n3 ≡ with_names n2 d → n4 ≡ with_names n3 e → n5 ≡ with_names n4 g → Taken (Ok x) n0 n5 (a ++ (b ++ (d ++ (e ++ g))))
five_taken x n0 n1 n2 n3 n4 n5 a b d e g first second third fourth fifth =
    taken_then (Ok x) n0 n1 n5 a (b ++ (d ++ (e ++ g))) first (four_taken x n1 n2 n3 n4 n5 b d e g second third fourth fifth)
