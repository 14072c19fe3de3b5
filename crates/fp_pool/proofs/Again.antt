-- A constant pool is read back from its spelling.
use Rattle.std.proofs.Common.{◌≡◌, ℕ, suc, ◌+◌, ◌-◌, ◌<◌, ◌≤◌, ◌^◌, Bool, true, false, ◌&&◌, List, [], ◌∷◌, ◌++◌, Ok, IsTrue, length, drop, ltb, ◌==◌, refl, sym, ap, ◌∙◌, subst, arith}
use Rattle.std.specs.Prelude.{not}
use Rattle.std.proofs.lemmas.Bool.{and_parts, cond-true, le-leb, ltb-true, ne_eqb}
use Rattle.std.proofs.lemmas.List.{append-nil, append_assoc}
use Rattle.std.proofs.lemmas.Nat.{from_be_bytes-to_be_bytes_8}
use Rattle.std.specs.List.{flat_map}
use Rattle.std.specs.Int.{Width, w8, w16, w32, w64, from_be_bytes}
use Rattle.fp_model.specs.declared.fault.FileFault.TheVariants as fault
use Rattle.fp_model.specs.declared.raw.pool.Entry.{Entry}
use Rattle.fp_model.specs.declared.raw.pool.Entry.TheVariants as entry
use Rattle.fp_model.specs.declared.raw.pool.Pool.{Pool}
use Rattle.fp_model.specs.Pool.{handle_at, index_entry_at, is_wide, is_wide_tag, one_at, pair_entry_at, pool_at, slot_at, slots_at, tagged_at, text_entry_at, two_at, two_numbers_at}
use Rattle.fp_model.specs.Reading.{demanded, number_at, bytes_at, Takes}
use Rattle.fp_model.specs.Entries.{tag_of}
use Rattle.fp_model.specs.References.{checked_pool_at, entries_checked}
use Rattle.fp_model.specs.Spelling.{u1, u2, u4, u8, spelled_entry, spelled_pool, is_u2}
use Rattle.fp_model.proofs.Takes.{Takes-first, Takes-rest, Takes-room, Takes-split, Takes-text}
use Rattle.fp_model.proofs.Readers.{stepped, demanded-Ok, reads_u2, u1_again, u4_again, bytes_again}
use Rattle.fp_pool.specs.Form.{fits, is_slot, are_slots, has_form}

u8_again : (bytes : List ℕ) (at n next : ℕ) → n < 2 ^ 64 → Takes bytes at (u8 n) next → number_at w64 bytes at ≡ Ok (n, next)
unfolding number_at
u8_again bytes at n next small p =
    let some : 0 < length (u8 n) = omega arith in
    cond-true _ _ _ (le-leb (at + 8) (length bytes) (Takes-room some p))
    ∙ ap (λ m. Ok (m, at + 8)) (ap (from_be_bytes w64) (Takes-text p) ∙ from_be_bytes-to_be_bytes_8 n small)
    ∙ ap (λ m. Ok (n, m)) (sym p.after)

module _ (bytes : List ℕ) (at next : ℕ) where
  one_again : (width : Width) (made : ℕ → Entry) (n : ℕ) → number_at width bytes at ≡ Ok (n, next) → one_at width made bytes at ≡ Ok (made n, next)
  unfolding one_at
  one_again width made n e = stepped (number_at width bytes at) _ (n, next) e refl

  index_again : (made : ℕ → Entry) (n : ℕ) → IsTrue (is_u2 n) → Takes bytes at (u2 n) next → one_at w16 made bytes at ≡ Ok (made n, next)
  index_again made n small p = one_again w16 made n ((reads_u2 bytes).again at n next small p)

  word_again : (made : ℕ → Entry) (n : ℕ) → ltb n 4294967296 ≡ true → Takes bytes at (u4 n) next → one_at w32 made bytes at ≡ Ok (made n, next)
  word_again made n small p = one_again w32 made n (u4_again bytes at n next (ltb-true n 4294967296 small) p)

  long_again : (made : ℕ → Entry) (n : ℕ) → ltb n 18446744073709551616 ≡ true → Takes bytes at (u8 n) next → one_at w64 made bytes at ≡ Ok (made n, next)
  long_again made n small p = one_again w64 made n (u8_again bytes at n next (ltb-true n 18446744073709551616 small) p)

  two_again : (made : ℕ → ℕ → Entry) (m n : ℕ) → (is_u2 m && is_u2 n) ≡ true → Takes bytes at (u2 m ++ u2 n) next → two_at made bytes at ≡ Ok (made m n, next)
  unfolding two_at two_numbers_at
  two_again made m n small p =
      let parts = and_parts (is_u2 m) (is_u2 n) small in
      Takes-split (u2 m) (u2 n) (λ b first rest.
      stepped (two_numbers_at bytes at) _ ((m, n), next)
      (stepped (number_at w16 bytes at) _ (m, b) ((reads_u2 bytes).again at m b parts.0 first)
      (stepped (number_at w16 bytes b) _ (n, next) ((reads_u2 bytes).again b n next parts.1 rest) refl)) refl) p

  handle_again : (kind index : ℕ) → (ltb kind 256 && is_u2 index) ≡ true → Takes bytes at (u1 kind ++ u2 index) next → handle_at bytes at ≡ Ok (entry.Handle kind index, next)
  unfolding handle_at
  handle_again kind index small p =
      let parts = and_parts (ltb kind 256) (is_u2 index) small in
      Takes-split (u1 kind) (u2 index) (λ b first rest.
      stepped (number_at w8 bytes at) _ (kind, b) (u1_again bytes at kind b first)
      (stepped (number_at w16 bytes b) _ (index, next) ((reads_u2 bytes).again b index next parts.1 rest) refl)) p

  text_again : (text : List ℕ) → IsTrue (is_u2 (length text)) → Takes bytes at (u2 (length text) ++ text) next → text_entry_at bytes at ≡ Ok (entry.Utf8 text, next)
  unfolding text_entry_at
  text_again text small p =
      let some : 0 < length (u2 (length text) ++ text) = omega arith in
      let room : at + 2 + length text ≤ length bytes = omega (arith, Takes-room some p) in
      stepped (number_at w16 bytes at) _ (length text, at + 2) ((reads_u2 bytes).again at (length text) (at + 2) small (Takes-first (u2 (length text)) text p))
      (stepped (bytes_at (length text) bytes (at + 2)) _ (text, next) (bytes_again bytes (at + 2) next text room (Takes-rest (u2 (length text)) text p)) refl)

-- what stands behind the tag of an entry
abbrev held : Entry → List ℕ
held e = drop 1 (spelled_entry e)

tagged_again : (bytes : List ℕ) (at next tag_at : ℕ) (e : Entry) → fits e ≡ true → Takes bytes at (held e) next → tagged_at tag_at (tag_of e) bytes at ≡ Ok (e, next)
unfolding tagged_at index_entry_at pair_entry_at
tagged_again bytes at next tag_at entry.Unused small p = absurd cc
tagged_again bytes at next tag_at (entry.Utf8 text) small p = text_again bytes at next text small p
tagged_again bytes at next tag_at (entry.Integer n) small p = word_again bytes at next entry.Integer n small p
tagged_again bytes at next tag_at (entry.Float n) small p = word_again bytes at next entry.Float n small p
tagged_again bytes at next tag_at (entry.Long n) small p = long_again bytes at next entry.Long n small p
tagged_again bytes at next tag_at (entry.Double n) small p = long_again bytes at next entry.Double n small p
tagged_again bytes at next tag_at (entry.Class n) small p = index_again bytes at next entry.Class n small p
tagged_again bytes at next tag_at (entry.Text n) small p = index_again bytes at next entry.Text n small p
tagged_again bytes at next tag_at (entry.FieldRef m n) small p = two_again bytes at next entry.FieldRef m n small p
tagged_again bytes at next tag_at (entry.MethodRef m n) small p = two_again bytes at next entry.MethodRef m n small p
tagged_again bytes at next tag_at (entry.InterfaceRef m n) small p = two_again bytes at next entry.InterfaceRef m n small p
tagged_again bytes at next tag_at (entry.Pair m n) small p = two_again bytes at next entry.Pair m n small p
tagged_again bytes at next tag_at (entry.Handle m n) small p = handle_again bytes at next m n small p
tagged_again bytes at next tag_at (entry.MethodType n) small p = index_again bytes at next entry.MethodType n small p
tagged_again bytes at next tag_at (entry.Dynamic m n) small p = two_again bytes at next entry.Dynamic m n small p
tagged_again bytes at next tag_at (entry.InvokeDynamic m n) small p = two_again bytes at next entry.InvokeDynamic m n small p
tagged_again bytes at next tag_at (entry.Module n) small p = index_again bytes at next entry.Module n small p
tagged_again bytes at next tag_at (entry.Package n) small p = index_again bytes at next entry.Package n small p

-- an entry is spelled as its tag and what stands behind it
tag_first : (e : Entry) → fits e ≡ true → spelled_entry e ≡ u1 (tag_of e) ++ held e
tag_first entry.Unused small = absurd cc
tag_first (entry.Utf8 text) small = refl
tag_first (entry.Integer n) small = refl
tag_first (entry.Float n) small = refl
tag_first (entry.Long n) small = refl
tag_first (entry.Double n) small = refl
tag_first (entry.Class n) small = refl
tag_first (entry.Text n) small = refl
tag_first (entry.FieldRef m n) small = refl
tag_first (entry.MethodRef m n) small = refl
tag_first (entry.InterfaceRef m n) small = refl
tag_first (entry.Pair m n) small = refl
tag_first (entry.Handle m n) small = refl
tag_first (entry.MethodType n) small = refl
tag_first (entry.Dynamic m n) small = refl
tag_first (entry.InvokeDynamic m n) small = refl
tag_first (entry.Module n) small = refl
tag_first (entry.Package n) small = refl

-- the tag tells whether it takes two indexes
wide_by_tag : (e : Entry) → is_wide_tag (tag_of e) ≡ is_wide e
wide_by_tag entry.Unused = refl
wide_by_tag (entry.Utf8 text) = refl
wide_by_tag (entry.Integer n) = refl
wide_by_tag (entry.Float n) = refl
wide_by_tag (entry.Long n) = refl
wide_by_tag (entry.Double n) = refl
wide_by_tag (entry.Class n) = refl
wide_by_tag (entry.Text n) = refl
wide_by_tag (entry.FieldRef m n) = refl
wide_by_tag (entry.MethodRef m n) = refl
wide_by_tag (entry.InterfaceRef m n) = refl
wide_by_tag (entry.Pair m n) = refl
wide_by_tag (entry.Handle m n) = refl
wide_by_tag (entry.MethodType n) = refl
wide_by_tag (entry.Dynamic m n) = refl
wide_by_tag (entry.InvokeDynamic m n) = refl
wide_by_tag (entry.Module n) = refl
wide_by_tag (entry.Package n) = refl

-- an index that is empty has one before it, and so it is not the last
has_room : (wide : Bool) (entries : List Entry) → are_slots wide entries ≡ true → not (wide && (length entries == 0)) ≡ true
unfolding are_slots
has_room false entries slots = refl
has_room true [] slots = absurd cc
has_room true (e ∷ entries) slots = ap not (ne_eqb (suc (length entries)) 0 (λ e. omega arith))

slot_again : (bytes : List ℕ) (last at next : ℕ) (empty : Bool) (e : Entry) (entries : List Entry) → is_slot empty e ≡ true → are_slots (is_wide e) entries ≡ true → Takes bytes at (spelled_entry e) next → slot_at last (length entries) empty bytes at ≡ Ok (e, next)
unfolding slot_at
slot_again bytes last at next true entry.Unused entries formed slots p = let end : at ≡ next = omega (arith, p.after) in ap (λ n. Ok (entry.Unused, n)) end
slot_again bytes last at next true e entries formed slots p = absurd cc
slot_again bytes last at next false e entries formed slots p =
    Takes-split (u1 (tag_of e)) (held e) (λ b first rest.
    stepped (number_at w8 bytes at) _ (tag_of e, b) (u1_again bytes at (tag_of e) b first)
    (stepped (demanded (not (is_wide_tag (tag_of e) && (length entries == 0))) (fault.Index at last)) _ tt
    (demanded-Ok (not (is_wide_tag (tag_of e) && (length entries == 0))) (fault.Index at last) (ap (λ w. not (w && (length entries == 0))) (wide_by_tag e) ∙ has_room (is_wide e) entries slots))
    (tagged_again bytes b next at e formed rest))) (subst (λ t. Takes bytes at t next) (tag_first e formed) p)

slots_again : (bytes : List ℕ) (last : ℕ) (entries : List Entry) (at next : ℕ) (before : List Entry) (empty : Bool) → are_slots empty entries ≡ true → Takes bytes at (flat_map spelled_entry entries) next → slots_at last (length entries) before empty bytes at ≡ Ok (before ++ entries, next)
unfolding slots_at are_slots
slots_again bytes last [] at next before empty formed p =
    let end : at ≡ next = omega (arith, p.after) in
    ap (λ l. Ok (l, at)) (sym (append-nil before)) ∙ ap (λ m. Ok (before ++ [], m)) end
slots_again bytes last (e ∷ entries) at next before empty formed p =
    let parts = and_parts (is_slot empty e) (are_slots (is_wide e) entries) formed in
    stepped (slot_at last (length entries) empty bytes at) _ (e, at + length (spelled_entry e))
    (slot_again bytes last at (at + length (spelled_entry e)) empty e entries parts.0 parts.1 (Takes-first (spelled_entry e) (flat_map spelled_entry entries) p))
    (slots_again bytes last entries (at + length (spelled_entry e)) next (before ++ e ∷ []) (is_wide e) parts.1 (Takes-rest (spelled_entry e) (flat_map spelled_entry entries) p)
    ∙ ap (λ l. Ok (l, next)) (append_assoc before (e ∷ []) entries))

some_slots : (entries : List Entry) → are_slots true entries ≡ true → not (length entries == 0) ≡ true
some_slots entries slots = has_room true entries slots

pub pool_again : (bytes : List ℕ) (at : ℕ) (pool : Pool) (next : ℕ) → IsTrue (has_form pool) → Takes bytes at (spelled_pool pool) next → pool_at bytes at ≡ Ok (pool, next)
unfolding pool_at
pool_again bytes at pool next formed p =
    let parts = and_parts (is_u2 (length pool.entries)) (are_slots true pool.entries) formed in
    Takes-split (u2 (length pool.entries)) (flat_map spelled_entry pool.entries) (λ b first rest.
    stepped (number_at w16 bytes at) _ (length pool.entries, b) ((reads_u2 bytes).again at (length pool.entries) b parts.0 first)
    (stepped (demanded (not (length pool.entries == 0)) (fault.Bounds at)) _ tt (demanded-Ok (not (length pool.entries == 0)) (fault.Bounds at) (some_slots pool.entries parts.1))
    (stepped (slots_at (length pool.entries - 1) (length pool.entries) [] true bytes b) _ (pool.entries, next)
    (slots_again bytes (length pool.entries - 1) pool.entries b next [] true parts.1 rest) refl))) p

pub checked_again : (bytes : List ℕ) (at : ℕ) (pool : Pool) (next : ℕ) → IsTrue (has_form pool) → entries_checked pool.entries (at + 2) pool.entries ≡ Ok tt → Takes bytes at (spelled_pool pool) next → checked_pool_at bytes at ≡ Ok (pool, next)
unfolding checked_pool_at
checked_again bytes at pool next formed referred p =
    stepped (pool_at bytes at) _ (pool, next) (pool_again bytes at pool next formed p)
    (stepped (entries_checked pool.entries (at + 2) pool.entries) _ tt referred refl)
