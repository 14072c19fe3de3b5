-- What is read of a constant pool has the form.
use Rattle.std.proofs.Common.{◌≡◌, inl, inr, ℕ, zero, suc, ◌+◌, ◌-◌, ◌<◌, ◌≤◌, Bool, true, false, ◌&&◌, cond, List, [], ◌∷◌, ◌++◌, Result, Ok, Err, IsTrue, IfOk, length, get_or, take, drop, ltb, leb, ◌==◌, refl, sym, ap, ◌∙◌, subst, arith}
use Rattle.std.specs.Prelude.{not}
use Rattle.std.proofs.lemmas.Bool.{and_parts, and_from, eqb-true, lt-ltb, cases_lt}
use Rattle.std.proofs.lemmas.Bool.Decides.{nat_tests}
use Rattle.std.proofs.lemmas.List.{append-nil, append_assoc, get_or-take, get_or-drop, get_or_past, length-take-le, length-drop}
use Rattle.std.specs.Int.{Width, w8, w16, w32, w64, byte_len, from_be_bytes}
use Rattle.fp_model.specs.declared.fault.FileFault.{FileFault}
use Rattle.fp_model.specs.declared.fault.FileFault.TheVariants as fault
use Rattle.fp_model.specs.declared.raw.pool.Entry.{Entry}
use Rattle.fp_model.specs.declared.raw.pool.Entry.TheVariants as entry
use Rattle.fp_model.specs.declared.raw.pool.Pool.{Pool}
use Rattle.fp_model.specs.Pool.{handle_at, index_entry_at, is_wide, is_wide_tag, one_at, pair_entry_at, pool_at, slot_at, slots_at, tagged_at, text_entry_at, two_at, two_numbers_at}
use Rattle.fp_model.specs.Reading.{◌>>=◌, demanded, number_at, bytes_at, Gives}
use Rattle.fp_model.specs.Spelling.{is_u2}
use Rattle.fp_model.proofs.Readers.{opened, demanded-true, IsBytes, reads_u2, bytes_takes}
use Rattle.fp_pool.specs.Form.{is_u4, is_u8, fits, is_slot, are_slots, has_form}
use Rattle.fp_pool.proofs.Spelled.{either}

-- ---- numbers

number_is : (w : Width) (bytes : List ℕ) (at : ℕ) (x : ℕ × ℕ) → number_at w bytes at ≡ Ok x → (at + byte_len w ≤ length bytes) × (x.0 ≡ from_be_bytes w (take (byte_len w) (drop at bytes)))
unfolding number_at
number_is w bytes at x e = grind (arith, nat_tests)

run_below : (bytes : List ℕ) (at count : ℕ) → IsBytes bytes → at + count ≤ length bytes → (i : ℕ) → get_or (take count (drop at bytes)) i 0 < 256
run_below bytes at count all within i =
    let run = take count (drop at bytes) in
    let size : length run ≡ count = length-take-le count (drop at bytes) (omega (arith, length-drop at bytes)) in
    elim (cases_lt i count) [
      | inl lt ↦ rw (get_or-take, get_or-drop) (all.below (at + i))
      | inr ge ↦ rw (get_or_past run i 0 (omega arith)) (omega arith)
    ]

below_1 : (bs : List ℕ) → ((i : ℕ) → get_or bs i 0 < 256) → from_be_bytes w8 bs < 256
below_1 bs below = omega (arith, below 0)

below_4 : (bs : List ℕ) → ((i : ℕ) → get_or bs i 0 < 256) → from_be_bytes w32 bs < 4294967296
below_4 bs below = omega (arith, below 0, below 1, below 2, below 3)

below_8 : (bs : List ℕ) → ((i : ℕ) → get_or bs i 0 < 256) → from_be_bytes w64 bs < 18446744073709551616
below_8 bs below = omega (arith, below 0, below 1, below 2, below 3, below 4, below 5, below 6, below 7)

module _ (bytes : List ℕ) (below : IsBytes bytes) where
  small : (w : Width) (limit : ℕ) → ((bs : List ℕ) → ((i : ℕ) → get_or bs i 0 < 256) → from_be_bytes w bs < limit) → (at : ℕ) (x : ℕ × ℕ) → number_at w bytes at ≡ Ok x → ltb x.0 limit ≡ true
  small w limit bound at x e =
      let found = number_is w bytes at x e in
      lt-ltb x.0 limit (rw found.1 (bound (take (byte_len w) (drop at bytes)) (run_below bytes at (byte_len w) below found.0)))

  u2_small : (at : ℕ) (x : ℕ × ℕ) → number_at w16 bytes at ≡ Ok x → is_u2 x.0 ≡ true
  u2_small at x e = ((reads_u2 bytes).takes below at x e).0

  -- ---- entries

  one_fits : (w : Width) (test : ℕ → Bool) (made : ℕ → Entry) → ((at : ℕ) (x : ℕ × ℕ) → number_at w bytes at ≡ Ok x → test x.0 ≡ true) → ((n : ℕ) → fits (made n) ≡ test n) → ((n : ℕ) → is_wide (made n) ≡ is_wide (made 0)) → (at : ℕ) (x : Entry × ℕ) → one_at w made bytes at ≡ Ok x → (fits x.0 ≡ true) × (is_wide x.0 ≡ is_wide (made 0))
  unfolding one_at
  one_fits w test made number is wide at x e =
      opened (number_at w bytes at) _ (λ n numbers last.
      let found : (made n.0, n.1) ≡ x = cc in
      subst (λ (y : Entry × ℕ). (fits y.0 ≡ true) × (is_wide y.0 ≡ is_wide (made 0))) found (is n.0 ∙ number at n numbers, wide n.0)) e

  two_fits : (made : ℕ → ℕ → Entry) → ((m n : ℕ) → fits (made m n) ≡ (is_u2 m && is_u2 n)) → ((m n : ℕ) → is_wide (made m n) ≡ false) → (at : ℕ) (x : Entry × ℕ) → two_at made bytes at ≡ Ok x → (fits x.0 ≡ true) × (is_wide x.0 ≡ false)
  unfolding two_at two_numbers_at
  two_fits made is wide at x e =
      opened (two_numbers_at bytes at) _ (λ both reads last.
      opened (number_at w16 bytes at) _ (λ m ms more.
      opened (number_at w16 bytes m.1) _ (λ n ns end.
      let pair : ((m.0, n.0), n.1) ≡ both = cc in
      let found : (made both.0.0 both.0.1, both.1) ≡ x = cc in
      subst (λ (y : Entry × ℕ). (fits y.0 ≡ true) × (is_wide y.0 ≡ false)) found
      (subst (λ (b : (ℕ × ℕ) × ℕ). (fits (made b.0.0 b.0.1) ≡ true) × (is_wide (made b.0.0 b.0.1) ≡ false)) pair
      (is m.0 n.0 ∙ and_from (is_u2 m.0) (is_u2 n.0) (u2_small at m ms) (u2_small m.1 n ns), wide m.0 n.0))) more) reads) e

  handle_fits : (at : ℕ) (x : Entry × ℕ) → handle_at bytes at ≡ Ok x → (fits x.0 ≡ true) × (is_wide x.0 ≡ false)
  unfolding handle_at
  handle_fits at x e =
      opened (number_at w8 bytes at) _ (λ kind kinds more.
      opened (number_at w16 bytes kind.1) _ (λ index indexes last.
      let found : (entry.Handle kind.0 index.0, index.1) ≡ x = cc in
      subst (λ (y : Entry × ℕ). (fits y.0 ≡ true) × (is_wide y.0 ≡ false)) found
      (and_from (ltb kind.0 256) (is_u2 index.0) (small w8 256 below_1 at kind kinds) (u2_small kind.1 index indexes), refl)) more) e

  text_fits : (at : ℕ) (x : Entry × ℕ) → text_entry_at bytes at ≡ Ok x → (fits x.0 ≡ true) × (is_wide x.0 ≡ false)
  unfolding text_entry_at
  text_fits at x e =
      opened (number_at w16 bytes at) _ (λ count counts more.
      opened (bytes_at count.0 bytes count.1) _ (λ text texts last.
      let found : (entry.Utf8 text.0, text.1) ≡ x = cc in
      let run = bytes_takes bytes count.0 count.1 text texts in
      subst (λ (y : Entry × ℕ). (fits y.0 ≡ true) × (is_wide y.0 ≡ false)) found (ap is_u2 run.0 ∙ u2_small at count counts, refl)) more) e

  index_fits : (made : ℕ → Entry) → ((n : ℕ) → fits (made n) ≡ is_u2 n) → ((n : ℕ) → is_wide (made n) ≡ is_wide (made 0)) → (at : ℕ) (x : Entry × ℕ) → one_at w16 made bytes at ≡ Ok x → (fits x.0 ≡ true) × (is_wide x.0 ≡ is_wide (made 0))
  index_fits made = one_fits w16 is_u2 made u2_small

  module _ (tag_at tag at : ℕ) (x : Entry × ℕ) where
    -- what is read fits, and is as wide as its tag says
    abbrev Fits : Type 0
    Fits = (fits x.0 ≡ true) × (is_wide x.0 ≡ is_wide_tag tag)

    known : (t : ℕ) → (tag == t) ≡ true → (fits x.0 ≡ true) × (is_wide x.0 ≡ is_wide_tag t) → Fits
    known t is found = (found.0, found.1 ∙ ap is_wide_tag (sym (eqb-true tag t is)))

    pair_fits : pair_entry_at tag_at tag bytes at ≡ Ok x → Fits
    unfolding pair_entry_at
    pair_fits e =
        either (tag == 9) _ _ (λ t h. known 9 t (two_fits entry.FieldRef (λ m n. refl) (λ m n. refl) at x h)) (λ _.
        either (tag == 10) _ _ (λ t h. known 10 t (two_fits entry.MethodRef (λ m n. refl) (λ m n. refl) at x h)) (λ _.
        either (tag == 11) _ _ (λ t h. known 11 t (two_fits entry.InterfaceRef (λ m n. refl) (λ m n. refl) at x h)) (λ _.
        either (tag == 12) _ _ (λ t h. known 12 t (two_fits entry.Pair (λ m n. refl) (λ m n. refl) at x h)) (λ _.
        either (tag == 17) _ _ (λ t h. known 17 t (two_fits entry.Dynamic (λ m n. refl) (λ m n. refl) at x h)) (λ _.
        either (tag == 18) _ _ (λ t h. known 18 t (two_fits entry.InvokeDynamic (λ m n. refl) (λ m n. refl) at x h)) (λ _ none. absurd cc)))))) e

    single_fits : index_entry_at tag_at tag bytes at ≡ Ok x → Fits
    unfolding index_entry_at
    single_fits e =
        either (tag == 7) _ _ (λ t h. known 7 t (index_fits entry.Class (λ n. refl) (λ n. refl) at x h)) (λ _.
        either (tag == 8) _ _ (λ t h. known 8 t (index_fits entry.Text (λ n. refl) (λ n. refl) at x h)) (λ _.
        either (tag == 16) _ _ (λ t h. known 16 t (index_fits entry.MethodType (λ n. refl) (λ n. refl) at x h)) (λ _.
        either (tag == 19) _ _ (λ t h. known 19 t (index_fits entry.Module (λ n. refl) (λ n. refl) at x h)) (λ _.
        either (tag == 20) _ _ (λ t h. known 20 t (index_fits entry.Package (λ n. refl) (λ n. refl) at x h)) (λ _. pair_fits))))) e

    tagged_fits : tagged_at tag_at tag bytes at ≡ Ok x → Fits
    unfolding tagged_at
    tagged_fits e =
        either (tag == 1) _ _ (λ t h. known 1 t (text_fits at x h)) (λ _.
        either (tag == 3) _ _ (λ t h. known 3 t (one_fits w32 is_u4 entry.Integer (small w32 4294967296 below_4) (λ n. refl) (λ n. refl) at x h)) (λ _.
        either (tag == 4) _ _ (λ t h. known 4 t (one_fits w32 is_u4 entry.Float (small w32 4294967296 below_4) (λ n. refl) (λ n. refl) at x h)) (λ _.
        either (tag == 5) _ _ (λ t h. known 5 t (one_fits w64 is_u8 entry.Long (small w64 18446744073709551616 below_8) (λ n. refl) (λ n. refl) at x h)) (λ _.
        either (tag == 6) _ _ (λ t h. known 6 t (one_fits w64 is_u8 entry.Double (small w64 18446744073709551616 below_8) (λ n. refl) (λ n. refl) at x h)) (λ _.
        either (tag == 15) _ _ (λ t h. known 15 t (handle_fits at x h)) (λ _. single_fits)))))) e

  -- ---- indexes

  slot_formed : (last left : ℕ) (empty : Bool) (at : ℕ) (x : Entry × ℕ) → slot_at last left empty bytes at ≡ Ok x → (is_slot empty x.0 ≡ true) × (not (is_wide x.0 && (left == 0)) ≡ true)
  unfolding slot_at
  slot_formed last left true at x e =
      let found : (entry.Unused, at) ≡ x = cc in
      subst (λ (y : Entry × ℕ). (is_slot true y.0 ≡ true) × (not (is_wide y.0 && (left == 0)) ≡ true)) found (refl, refl)
  slot_formed last left false at x e =
      opened (number_at w8 bytes at) _ (λ tag tags more.
      opened (demanded (not (is_wide_tag tag.0 && (left == 0))) (fault.Index at last)) _ (λ u passed rest.
      let found = tagged_fits at tag.0 tag.1 x rest in
      let room = demanded-true (not (is_wide_tag tag.0 && (left == 0))) (fault.Index at last) passed in
      (found.0, ap (λ w. not (w && (left == 0))) found.1 ∙ room)) more) e

  pub record More (before : List Entry) (empty : Bool) (left : ℕ) (all : List Entry) : Type 0 where
    pub more : List Entry
    pub is : all ≡ before ++ more
    pub size : length more ≡ left
    pub slots : are_slots empty more ≡ true

  no_wide : (empty : Bool) → not (empty && true) ≡ true → not empty ≡ true
  no_wide true e = e
  no_wide false e = refl

  slots_formed : (last left : ℕ) (before : List Entry) (empty : Bool) (at : ℕ) (x : List Entry × ℕ) → not (empty && (left == 0)) ≡ true → slots_at last left before empty bytes at ≡ Ok x → More before empty left x.0
  unfolding slots_at are_slots
  slots_formed last zero before empty at x room e =
      let is : (before, at) ≡ x = cc in
      record { more = []; is = sym (ap (λ (p : List Entry × ℕ). p.0) is) ∙ sym (append-nil before); size = refl; slots = no_wide empty room }
  slots_formed last (suc left) before empty at x room e =
      opened (slot_at last left empty bytes at) _ (λ y ey rest.
      let one = slot_formed last left empty at y ey in
      let adds = slots_formed last left (before ++ y.0 ∷ []) (is_wide y.0) y.1 x one.1 rest in
      record {
        more = y.0 ∷ adds.more;
        is = adds.is ∙ append_assoc before (y.0 ∷ []) adds.more;
        size = ap suc adds.size;
        slots = and_from (is_slot empty y.0) (are_slots (is_wide y.0) adds.more) one.0 adds.slots;
      }) e

  pool_formed : (at : ℕ) (x : Pool × ℕ) → pool_at bytes at ≡ Ok x → has_form x.0 ≡ true
  unfolding pool_at
  pool_formed at x e =
      opened (number_at w16 bytes at) _ (λ count counts more.
      opened (demanded (not (count.0 == 0)) (fault.Bounds at)) _ (λ u passed others.
      opened (slots_at (count.0 - 1) count.0 [] true bytes count.1) _ (λ slots read last.
      let is : (record { entries = slots.0 }, slots.1) ≡ x = cc in
      let adds = slots_formed (count.0 - 1) count.0 [] true count.1 slots (demanded-true (not (count.0 == 0)) (fault.Bounds at) passed) read in
      subst (λ (y : Pool × ℕ). has_form y.0 ≡ true) is
      (subst (λ xs. (is_u2 (length xs) && are_slots true xs) ≡ true) (sym adds.is)
      (and_from (is_u2 (length adds.more)) (are_slots true adds.more) (ap is_u2 adds.size ∙ u2_small at count counts) adds.slots))) others) more) e

-- a call that answers what the format says
pub pool_has_form : (bytes : List ℕ) → IsBytes bytes → (at : ℕ) (result : Result (Pool × ℕ) FileFault) → Gives result (pool_at bytes at) → IfOk result (λ x. IsTrue (has_form x.0))
pool_has_form bytes below at (Ok x) g = pool_formed bytes below at x g
pool_has_form bytes below at (Err f) g = tt
