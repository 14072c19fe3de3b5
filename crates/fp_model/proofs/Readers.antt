-- Readers that read what is spelled, and read each thing from its spelling.
use Rattle.std.proofs.Common.{◌≡◌, inl, inr, ℕ, zero, suc, ◌+◌, ◌<◌, ◌≤◌, ◌^◌, Bool, true, false, ◌&&◌, List, [], ◌∷◌, ◌++◌, Result, Ok, Err, IsTrue, length, get_or, take, drop, ◌==◌, refl, sym, ap, ◌∙◌, subst, arith}
use Rattle.std.proofs.lemmas.Bool.{and_parts, and_from, le-leb, ltb-true, lt-ltb, eqb-true, cond-true, cases_lt}
use Rattle.std.proofs.lemmas.Bool.Decides.{nat_tests}
use Rattle.std.proofs.lemmas.List.{append-nil, append_assoc, get_or-take, get_or-drop, get_or_past, length-take-le, length-drop}
use Rattle.std.proofs.lemmas.Nat.{be_bytes_2, be_bytes_4, be_bytes_8, from_be_bytes-to_be_bytes_2, from_be_bytes-to_be_bytes_4}
use Rattle.std.specs.List.{list_all, flat_map}
use Rattle.std.specs.Int.{Width, w8, w16, w32, w64, byte_len, from_be_bytes}
use Rattle.fp_model.specs.declared.fault.FileFault.{FileFault}
use Rattle.fp_model.specs.Reading.{◌>>=◌, demanded, number_at, bytes_at, many_at, counted_at}
use Rattle.fp_model.specs.Spelling.{u1, u2, u4, u8, counted, is_u2}
use Rattle.fp_model.proofs.Takes.{Takes, Takes-nil, Takes-then, Takes-rest, Takes-first, Takes-run, Takes-room, Takes-text}

-- ---- steps

-- what a step gives, where it and what follows didn't fail
pub opened : {A B P : Type 0} (read : Result A FileFault) (next : A → Result B FileFault) {y : B} → ((x : A) → read ≡ Ok x → next x ≡ Ok y → P) → (read >>= next) ≡ Ok y → P
opened (Ok x) next k e = k x refl e
opened (Err f) next k e = absurd (cc)

-- a step that gives something leads to the next one
pub stepped : {A B : Type 0} (read : Result A FileFault) (next : A → Result B FileFault) (x : A) {y : Result B FileFault} → read ≡ Ok x → next x ≡ y → (read >>= next) ≡ y
stepped read next x e h = rw e h

pub demanded-true : (passed : Bool) (f : FileFault) {u : Unit {0}} → demanded passed f ≡ Ok u → passed ≡ true
demanded-true true f e = refl
demanded-true false f e = absurd (cc)

pub demanded-Ok : (passed : Bool) (f : FileFault) → passed ≡ true → demanded passed f ≡ Ok tt
demanded-Ok passed f e = rw e refl

-- ---- bytes and numbers

-- each of a file's bytes is below 256
pub record IsBytes (bytes : List ℕ) : Type 0 where
  pub below : (i : ℕ) → get_or bytes i 0 < 256

pub run_below : (bytes : List ℕ) (at count : ℕ) → IsBytes bytes → at + count ≤ length bytes → (i : ℕ) → get_or (take count (drop at bytes)) i 0 < 256
run_below bytes at count all fits i =
    let run = take count (drop at bytes) in
    let size : length run ≡ count = length-take-le count (drop at bytes) (omega (arith, length-drop at bytes)) in
    elim (cases_lt i count) [
      | inl lt ↦ rw (get_or-take, get_or-drop) (all.below (at + i))
      | inr ge ↦ rw (get_or_past run i 0 (omega arith)) (omega arith)
    ]

pub number_found : (w : Width) (bytes : List ℕ) (at : ℕ) (x : ℕ × ℕ) → number_at w bytes at ≡ Ok x → (at + byte_len w ≤ length bytes) × (x ≡ (from_be_bytes w (take (byte_len w) (drop at bytes)), at + byte_len w))
unfolding number_at
number_found w bytes at x e = grind (arith, nat_tests)

pub number_given : (w : Width) (bytes : List ℕ) (at n : ℕ) → at + byte_len w ≤ length bytes → from_be_bytes w (take (byte_len w) (drop at bytes)) ≡ n → number_at w bytes at ≡ Ok (n, at + byte_len w)
unfolding number_at
number_given w bytes at n fits is = cond-true _ _ _ (le-leb (at + byte_len w) (length bytes) fits) ∙ ap (λ m. Ok (m, at + byte_len w)) is

below_2 : (bs : List ℕ) → ((i : ℕ) → get_or bs i 0 < 256) → from_be_bytes w16 bs < 65536
below_2 bs below = omega (arith, below 0, below 1)

-- a reader whose things have a form and a spelling
pub record IsReader {A : Type 0} (bytes : List ℕ) (form : A → Bool) (spelled : A → List ℕ) (read : ℕ → Result (A × ℕ) FileFault) : Type 0 where
  pub takes : IsBytes bytes → (at : ℕ) (x : A × ℕ) → read at ≡ Ok x → IsTrue (form x.0) × Takes bytes at (spelled x.0) x.1
  pub again : (at : ℕ) (x : A) (next : ℕ) → IsTrue (form x) → Takes bytes at (spelled x) next → read at ≡ Ok (x, next)

-- ---- numbers

u2_takes : (bytes : List ℕ) → IsBytes bytes → (at n next : ℕ) → number_at w16 bytes at ≡ Ok (n, next) → IsTrue (is_u2 n) × Takes bytes at (u2 n) next
u2_takes bytes all at n next e =
    let found = number_found w16 bytes at (n, next) e in
    let run = take 2 (drop at bytes) in
    let below = run_below bytes at 2 all found.0 in
    let size : length run ≡ 2 = length-take-le 2 (drop at bytes) (omega (arith, found.0, length-drop at bytes)) in
    let number : n ≡ from_be_bytes w16 run = ap (λ (p : ℕ × ℕ). p.0) found.1 in
    let end : at + 2 ≡ next = sym (ap (λ (p : ℕ × ℕ). p.1) found.1) in
    let spelled : run ≡ u2 n = sym (be_bytes_2 run n size below number) in (
      lt-ltb n 65536 (omega (arith, number, below_2 run below)),
      subst (λ text. Takes bytes at text next) spelled (subst (Takes bytes at run) end (Takes-run bytes at 2 found.0)),
    )

u2_again : (bytes : List ℕ) (at n next : ℕ) → IsTrue (is_u2 n) → Takes bytes at (u2 n) next → number_at w16 bytes at ≡ Ok (n, next)
u2_again bytes at n next small p =
    let below : n < 65536 = ltb-true n 65536 small in
    let some : 0 < length (u2 n) = omega arith in
    number_given w16 bytes at n (Takes-room some p) (ap (from_be_bytes w16) (Takes-text p) ∙ from_be_bytes-to_be_bytes_2 n below)
    ∙ ap (λ m. Ok (n, m)) (sym p.after)

-- numbers of two bytes
pub reads_u2 : (bytes : List ℕ) → IsReader bytes is_u2 u2 (number_at w16 bytes)
reads_u2 bytes = record {
  takes = λ all at x e. u2_takes bytes all at x.0 x.1 e;
  again = λ at n next small p. u2_again bytes at n next small p;
}

single : (run : List ℕ) (n : ℕ) → length run ≡ 1 → n ≡ from_be_bytes w8 run → run ≡ u1 n
single [] n size number = absurd (cc)
single (b ∷ []) n size number = ap (λ m. m ∷ []) (sym number)
single (b ∷ (c ∷ rest)) n size number = absurd (omega arith)

-- numbers of one byte
pub u1_takes : (bytes : List ℕ) (at : ℕ) (x : ℕ × ℕ) → number_at w8 bytes at ≡ Ok x → Takes bytes at (u1 x.0) x.1
u1_takes bytes at x e =
    let found = number_found w8 bytes at x e in
    let run = take 1 (drop at bytes) in
    let size : length run ≡ 1 = length-take-le 1 (drop at bytes) (omega (arith, found.0, length-drop at bytes)) in
    let number : x.0 ≡ from_be_bytes w8 run = ap (λ (p : ℕ × ℕ). p.0) found.1 in
    let end : at + 1 ≡ x.1 = sym (ap (λ (p : ℕ × ℕ). p.1) found.1) in
    let spelled : run ≡ u1 x.0 = single run x.0 size number in
    subst (λ text. Takes bytes at text x.1) spelled (subst (Takes bytes at run) end (Takes-run bytes at 1 found.0))

pub u1_again : (bytes : List ℕ) (at n next : ℕ) → Takes bytes at (u1 n) next → number_at w8 bytes at ≡ Ok (n, next)
u1_again bytes at n next p =
    let some : 0 < length (u1 n) = omega arith in
    number_given w8 bytes at n (Takes-room some p) (ap (from_be_bytes w8) (Takes-text p))
    ∙ ap (λ m. Ok (n, m)) (sym p.after)

-- numbers of four bytes
pub u4_takes : (bytes : List ℕ) → IsBytes bytes → (at : ℕ) (x : ℕ × ℕ) → number_at w32 bytes at ≡ Ok x → Takes bytes at (u4 x.0) x.1
u4_takes bytes all at x e =
    let found = number_found w32 bytes at x e in
    let run = take 4 (drop at bytes) in
    let size : length run ≡ 4 = length-take-le 4 (drop at bytes) (omega (arith, found.0, length-drop at bytes)) in
    let number : x.0 ≡ from_be_bytes w32 run = ap (λ (p : ℕ × ℕ). p.0) found.1 in
    let end : at + 4 ≡ x.1 = sym (ap (λ (p : ℕ × ℕ). p.1) found.1) in
    let spelled : run ≡ u4 x.0 = sym (be_bytes_4 run x.0 size (run_below bytes at 4 all found.0) number) in
    subst (λ text. Takes bytes at text x.1) spelled (subst (Takes bytes at run) end (Takes-run bytes at 4 found.0))

-- numbers of eight bytes
pub u8_takes : (bytes : List ℕ) → IsBytes bytes → (at : ℕ) (x : ℕ × ℕ) → number_at w64 bytes at ≡ Ok x → Takes bytes at (u8 x.0) x.1
u8_takes bytes all at x e =
    let found = number_found w64 bytes at x e in
    let run = take 8 (drop at bytes) in
    let size : length run ≡ 8 = length-take-le 8 (drop at bytes) (omega (arith, found.0, length-drop at bytes)) in
    let number : x.0 ≡ from_be_bytes w64 run = ap (λ (p : ℕ × ℕ). p.0) found.1 in
    let end : at + 8 ≡ x.1 = sym (ap (λ (p : ℕ × ℕ). p.1) found.1) in
    let spelled : run ≡ u8 x.0 = sym (be_bytes_8 run x.0 size (run_below bytes at 8 all found.0) number) in
    subst (λ text. Takes bytes at text x.1) spelled (subst (Takes bytes at run) end (Takes-run bytes at 8 found.0))

pub u4_again : (bytes : List ℕ) (at n next : ℕ) → n < 2 ^ 32 → Takes bytes at (u4 n) next → number_at w32 bytes at ≡ Ok (n, next)
u4_again bytes at n next small p =
    let some : 0 < length (u4 n) = omega arith in
    number_given w32 bytes at n (Takes-room some p) (ap (from_be_bytes w32) (Takes-text p) ∙ from_be_bytes-to_be_bytes_4 n small)
    ∙ ap (λ m. Ok (n, m)) (sym p.after)

-- ---- so many bytes

bytes_found : (bytes : List ℕ) (count at : ℕ) (x : List ℕ × ℕ) → bytes_at count bytes at ≡ Ok x → (at + count ≤ length bytes) × (x ≡ (take count (drop at bytes), at + count))
unfolding bytes_at
bytes_found bytes count at x e = grind (arith, nat_tests)

pub bytes_takes : (bytes : List ℕ) (count at : ℕ) (x : List ℕ × ℕ) → bytes_at count bytes at ≡ Ok x → (length x.0 ≡ count) × Takes bytes at x.0 x.1
bytes_takes bytes count at x e =
    let found = bytes_found bytes count at x e in
    let run = take count (drop at bytes) in
    let size : length run ≡ count = length-take-le count (drop at bytes) (omega (arith, found.0, length-drop at bytes)) in
    let text : run ≡ x.0 = sym (ap (λ (p : List ℕ × ℕ). p.0) found.1) in
    let end : at + count ≡ x.1 = sym (ap (λ (p : List ℕ × ℕ). p.1) found.1) in
    (sym (ap length text) ∙ size, subst (λ t. Takes bytes at t x.1) text (subst (Takes bytes at run) end (Takes-run bytes at count found.0)))

pub bytes_again : (bytes : List ℕ) (at next : ℕ) (text : List ℕ) → at + length text ≤ length bytes → Takes bytes at text next → bytes_at (length text) bytes at ≡ Ok (text, next)
unfolding bytes_at
bytes_again bytes at next text fits p =
    cond-true _ _ _ (le-leb (at + length text) (length bytes) fits)
    ∙ ap (λ t. Ok (t, at + length text)) (Takes-text p)
    ∙ ap (λ m. Ok (text, m)) (sym p.after)

-- ---- so many of one kind

-- what a loop reads behind what it has
pub record Adds {A : Type 0} (bytes : List ℕ) (form : A → Bool) (spelled : A → List ℕ) (before : List A) (count at : ℕ) (x : List A × ℕ) : Type 0 where
  pub more : List A
  pub all : x.0 ≡ before ++ more
  pub size : length more ≡ count
  pub formed : IsTrue (list_all form more)
  pub takes : Takes bytes at (flat_map spelled more) x.1

module _ {A : Type 0} (bytes : List ℕ) (form : A → Bool) (spelled : A → List ℕ) (read : ℕ → Result (A × ℕ) FileFault) (reader : IsReader bytes form spelled read) where
  pub many_takes : IsBytes bytes → (count at : ℕ) (before : List A) (x : List A × ℕ) → many_at read count before at ≡ Ok x → Adds bytes form spelled before count at x
  unfolding many_at
  many_takes below zero at before x e =
      let is : (before, at) ≡ x = cc in
      record {
        more = [];
        all = sym (ap (λ (p : List A × ℕ). p.0) is) ∙ sym (append-nil before);
        size = refl;
        formed = refl;
        takes = subst (Takes bytes at []) (ap (λ (p : List A × ℕ). p.1) is) (Takes-nil bytes at);
      }
  many_takes below (suc n) at before x e =
      opened (read at) _ (λ y ey rest.
      let adds = many_takes below n y.1 (before ++ y.0 ∷ []) x rest in
      let one = reader.takes below at y ey in
      record {
        more = y.0 ∷ adds.more;
        all = adds.all ∙ append_assoc before (y.0 ∷ []) adds.more;
        size = ap suc adds.size;
        formed = and_from (form y.0) (list_all form adds.more) one.0 adds.formed;
        takes = Takes-then one.1 adds.takes;
      }) e

  pub many_again : (xs : List A) (at next : ℕ) (before : List A) → IsTrue (list_all form xs) → Takes bytes at (flat_map spelled xs) next → many_at read (length xs) before at ≡ Ok (before ++ xs, next)
  unfolding many_at
  many_again [] at next before formed p =
      let end : at ≡ next = omega arith in
      ap (λ l. Ok (l, at)) (sym (append-nil before)) ∙ ap (λ m. Ok (before ++ [], m)) end
  many_again (x ∷ xs) at next before formed p =
      let parts = and_parts (form x) (list_all form xs) formed in
      stepped (read at) _ (x, at + length (spelled x)) (reader.again at x _ parts.0 (Takes-first (spelled x) (flat_map spelled xs) p))
      (many_again xs (at + length (spelled x)) next (before ++ x ∷ []) parts.1 (Takes-rest (spelled x) (flat_map spelled xs) p)
      ∙ ap (λ l. Ok (l, next)) (append_assoc before (x ∷ []) xs))

  counted_takes : IsBytes bytes → (at : ℕ) (x : List A × ℕ) → counted_at read bytes at ≡ Ok x → IsTrue (is_u2 (length x.0) && list_all form x.0) × Takes bytes at (counted spelled x.0) x.1
  unfolding counted_at
  counted_takes below at x e =
      opened (number_at w16 bytes at) _ (λ count counts rest.
      let adds = many_takes below count.0 count.1 [] x rest in
      let number = (reads_u2 bytes).takes below at count counts in
      let formed : IsTrue (is_u2 (length adds.more) && list_all form adds.more) = and_from (is_u2 (length adds.more)) (list_all form adds.more) (ap is_u2 adds.size ∙ number.0) adds.formed in
      let first : Takes bytes at (u2 (length adds.more)) count.1 = subst (λ n. Takes bytes at (u2 n) count.1) (sym adds.size) number.1 in
      subst (λ xs. IsTrue (is_u2 (length xs) && list_all form xs) × Takes bytes at (counted spelled xs) x.1) (sym adds.all) (formed, Takes-then first adds.takes)) e

  counted_again : (at : ℕ) (xs : List A) (next : ℕ) → IsTrue (is_u2 (length xs) && list_all form xs) → Takes bytes at (counted spelled xs) next → counted_at read bytes at ≡ Ok (xs, next)
  unfolding counted_at
  counted_again at xs next formed p =
      let parts = and_parts (is_u2 (length xs)) (list_all form xs) formed in
      let first = Takes-first (u2 (length xs)) (flat_map spelled xs) p in
      stepped (number_at w16 bytes at) _ (length xs, at + length (u2 (length xs))) ((reads_u2 bytes).again at (length xs) _ parts.0 first)
      (many_again xs _ next [] parts.1 (Takes-rest (u2 (length xs)) (flat_map spelled xs) p))

  -- how many, and so many of one kind
  pub reads_counted : IsReader bytes (λ xs. is_u2 (length xs) && list_all form xs) (counted spelled) (counted_at read bytes)
  reads_counted = record { takes = counted_takes; again = counted_again }
