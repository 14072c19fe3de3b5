-- What is read of a constant pool is spelled so.
use Rattle.std.proofs.Common.{◌≡◌, ℕ, zero, suc, ◌-◌, Bool, true, false, ◌&&◌, cond, List, [], ◌∷◌, ◌++◌, Result, Ok, Err, IfOk, ◌==◌, refl, sym, ap, ◌∙◌, subst}
use Rattle.std.specs.Prelude.{not}
use Rattle.std.proofs.lemmas.Bool.{eqb-true}
use Rattle.std.proofs.lemmas.List.{append-nil, append_assoc}
use Rattle.std.specs.Int.{Width, w8, w16, w32, w64}
use Rattle.fp_model.specs.declared.fault.FileFault.{FileFault}
use Rattle.fp_model.specs.declared.fault.FileFault.TheVariants as fault
use Rattle.fp_model.specs.declared.raw.pool.Entry.{Entry}
use Rattle.fp_model.specs.declared.raw.pool.Entry.TheVariants as entry
use Rattle.fp_model.specs.declared.raw.pool.Pool.{Pool}
use Rattle.fp_model.specs.Pool.{handle_at, index_entry_at, is_wide, is_wide_tag, one_at, pair_entry_at, pool_at, slot_at, slots_at, tagged_at, text_entry_at, two_at, two_numbers_at}
use Rattle.fp_model.specs.Reading.{demanded, number_at, bytes_at, Gives, Takes}
use Rattle.fp_model.specs.Spelling.{u1, u2, u4, u8, counted, spelled_entry, spelled_pool}
use Rattle.fp_model.proofs.Takes.{Takes-nil, Takes-then}
use Rattle.fp_model.proofs.Readers.{opened, IsBytes, Adds, reads_u2, u1_takes, u4_takes, u8_takes, bytes_takes}

-- what a number is spelled as
abbrev TakesNumber : Width → (ℕ → List ℕ) → List ℕ → Type 0
TakesNumber width spelled bytes = (at : ℕ) (x : ℕ × ℕ) → number_at width bytes at ≡ Ok x → Takes bytes at (spelled x.0) x.1

-- a case of a test
pub either : {A P : Type 0} (b : Bool) (x y : A) {r : A} → (b ≡ true → x ≡ r → P) → (b ≡ false → y ≡ r → P) → cond b x y ≡ r → P
either true x y f g e = f refl e
either false x y f g e = g refl e

module _ (bytes : List ℕ) (below : IsBytes bytes) (start tag at : ℕ) (first : Takes bytes start (u1 tag) at) where
  tag_is : (t : ℕ) → (tag == t) ≡ true → Takes bytes start (u1 t) at
  tag_is t is = subst (λ n. Takes bytes start (u1 n) at) (eqb-true tag t is) first

  one_takes : (t : ℕ) (width : Width) (spelled : ℕ → List ℕ) (made : ℕ → Entry) → TakesNumber width spelled bytes → ((n : ℕ) → spelled_entry (made n) ≡ u1 t ++ spelled n) → (tag == t) ≡ true → (x : Entry × ℕ) → one_at width made bytes at ≡ Ok x → Takes bytes start (spelled_entry x.0) x.1
  unfolding one_at
  one_takes t width spelled made number is same x e =
      opened (number_at width bytes at) _ (λ n numbers last.
      let found : (made n.0, n.1) ≡ x = cc in
      subst (λ y. Takes bytes start (spelled_entry y.0) y.1) found
      (subst (λ text. Takes bytes start text n.1) (sym (is n.0)) (Takes-then (tag_is t same) (number at n numbers)))) e

  two_takes : (t : ℕ) (made : ℕ → ℕ → Entry) → ((m n : ℕ) → spelled_entry (made m n) ≡ u1 t ++ (u2 m ++ u2 n)) → (tag == t) ≡ true → (x : Entry × ℕ) → two_at made bytes at ≡ Ok x → Takes bytes start (spelled_entry x.0) x.1
  unfolding two_at two_numbers_at
  two_takes t made is same x e =
      opened (two_numbers_at bytes at) _ (λ both reads last.
      opened (number_at w16 bytes at) _ (λ m ms more.
      opened (number_at w16 bytes m.1) _ (λ n ns end.
      let pair : ((m.0, n.0), n.1) ≡ both = cc in
      let found : (made both.0.0 both.0.1, both.1) ≡ x = cc in
      let numbers = Takes-then ((reads_u2 bytes).takes below at m ms).1 ((reads_u2 bytes).takes below m.1 n ns).1 in
      subst (λ y. Takes bytes start (spelled_entry y.0) y.1) found
      (subst (λ (b : (ℕ × ℕ) × ℕ). Takes bytes start (spelled_entry (made b.0.0 b.0.1)) b.1) pair
      (subst (λ text. Takes bytes start text n.1) (sym (is m.0 n.0)) (Takes-then (tag_is t same) numbers)))) more) reads) e

  handle_takes : (tag == 15) ≡ true → (x : Entry × ℕ) → handle_at bytes at ≡ Ok x → Takes bytes start (spelled_entry x.0) x.1
  unfolding handle_at
  handle_takes same x e =
      opened (number_at w8 bytes at) _ (λ kind kinds more.
      opened (number_at w16 bytes kind.1) _ (λ index indexes last.
      let found : (entry.Handle kind.0 index.0, index.1) ≡ x = cc in
      subst (λ y. Takes bytes start (spelled_entry y.0) y.1) found
      (Takes-then (tag_is 15 same) (Takes-then (u1_takes bytes at kind kinds) ((reads_u2 bytes).takes below kind.1 index indexes).1))) more) e

  text_takes : (tag == 1) ≡ true → (x : Entry × ℕ) → text_entry_at bytes at ≡ Ok x → Takes bytes start (spelled_entry x.0) x.1
  unfolding text_entry_at
  text_takes same x e =
      opened (number_at w16 bytes at) _ (λ count counts more.
      opened (bytes_at count.0 bytes count.1) _ (λ text texts last.
      let found : (entry.Utf8 text.0, text.1) ≡ x = cc in
      let number = ((reads_u2 bytes).takes below at count counts).1 in
      let run = bytes_takes bytes count.0 count.1 text texts in
      subst (λ y. Takes bytes start (spelled_entry y.0) y.1) found
      (Takes-then (tag_is 1 same) (Takes-then (subst (λ n. Takes bytes at (u2 n) count.1) (sym run.0) number) run.1))) more) e

  number_2 : TakesNumber w16 u2 bytes
  number_2 = λ at x e. ((reads_u2 bytes).takes below at x e).1

  number_4 : TakesNumber w32 u4 bytes
  number_4 = u4_takes bytes below

  number_8 : TakesNumber w64 u8 bytes
  number_8 = u8_takes bytes below

  pair_takes : (tag_at : ℕ) (x : Entry × ℕ) → pair_entry_at tag_at tag bytes at ≡ Ok x → Takes bytes start (spelled_entry x.0) x.1
  unfolding pair_entry_at
  pair_takes tag_at x e =
      either (tag == 9) _ _ (λ t. two_takes 9 entry.FieldRef (λ m n. refl) t x) (λ _.
      either (tag == 10) _ _ (λ t. two_takes 10 entry.MethodRef (λ m n. refl) t x) (λ _.
      either (tag == 11) _ _ (λ t. two_takes 11 entry.InterfaceRef (λ m n. refl) t x) (λ _.
      either (tag == 12) _ _ (λ t. two_takes 12 entry.Pair (λ m n. refl) t x) (λ _.
      either (tag == 17) _ _ (λ t. two_takes 17 entry.Dynamic (λ m n. refl) t x) (λ _.
      either (tag == 18) _ _ (λ t. two_takes 18 entry.InvokeDynamic (λ m n. refl) t x) (λ _ none. absurd cc)))))) e

  index_takes : (tag_at : ℕ) (x : Entry × ℕ) → index_entry_at tag_at tag bytes at ≡ Ok x → Takes bytes start (spelled_entry x.0) x.1
  unfolding index_entry_at
  index_takes tag_at x e =
      either (tag == 7) _ _ (λ t. one_takes 7 w16 u2 entry.Class number_2 (λ n. refl) t x) (λ _.
      either (tag == 8) _ _ (λ t. one_takes 8 w16 u2 entry.Text number_2 (λ n. refl) t x) (λ _.
      either (tag == 16) _ _ (λ t. one_takes 16 w16 u2 entry.MethodType number_2 (λ n. refl) t x) (λ _.
      either (tag == 19) _ _ (λ t. one_takes 19 w16 u2 entry.Module number_2 (λ n. refl) t x) (λ _.
      either (tag == 20) _ _ (λ t. one_takes 20 w16 u2 entry.Package number_2 (λ n. refl) t x) (λ _. pair_takes tag_at x))))) e

  tagged_takes : (tag_at : ℕ) (x : Entry × ℕ) → tagged_at tag_at tag bytes at ≡ Ok x → Takes bytes start (spelled_entry x.0) x.1
  unfolding tagged_at
  tagged_takes tag_at x e =
      either (tag == 1) _ _ (λ t. text_takes t x) (λ _.
      either (tag == 3) _ _ (λ t. one_takes 3 w32 u4 entry.Integer number_4 (λ n. refl) t x) (λ _.
      either (tag == 4) _ _ (λ t. one_takes 4 w32 u4 entry.Float number_4 (λ n. refl) t x) (λ _.
      either (tag == 5) _ _ (λ t. one_takes 5 w64 u8 entry.Long number_8 (λ n. refl) t x) (λ _.
      either (tag == 6) _ _ (λ t. one_takes 6 w64 u8 entry.Double number_8 (λ n. refl) t x) (λ _.
      either (tag == 15) _ _ (λ t. handle_takes t x) (λ _. index_takes tag_at x)))))) e

-- what an index holds
slot_takes : (bytes : List ℕ) → IsBytes bytes → (last left : ℕ) (empty : Bool) (at : ℕ) (x : Entry × ℕ) → slot_at last left empty bytes at ≡ Ok x → Takes bytes at (spelled_entry x.0) x.1
unfolding slot_at
slot_takes bytes below last left true at x e =
    let found : (entry.Unused, at) ≡ x = cc in
    subst (λ y. Takes bytes at (spelled_entry y.0) y.1) found (Takes-nil bytes at)
slot_takes bytes below last left false at x e =
    opened (number_at w8 bytes at) _ (λ tag tags more.
    opened (demanded (not (is_wide_tag tag.0 && (left == 0))) (fault.Index at last)) _ (λ u passed rest.
    tagged_takes bytes below at tag.0 tag.1 (u1_takes bytes at tag tags) at x rest) more) e

-- what all of them hold
slots_takes : (bytes : List ℕ) → IsBytes bytes → (last left : ℕ) (before : List Entry) (empty : Bool) (at : ℕ) (x : List Entry × ℕ) → slots_at last left before empty bytes at ≡ Ok x → Adds bytes (λ _. true) spelled_entry before left at x
unfolding slots_at
slots_takes bytes below last zero before empty at x e =
    let is : (before, at) ≡ x = cc in
    record {
      more = [];
      all = sym (ap (λ (p : List Entry × ℕ). p.0) is) ∙ sym (append-nil before);
      size = refl;
      formed = refl;
      takes = subst (Takes bytes at []) (ap (λ (p : List Entry × ℕ). p.1) is) (Takes-nil bytes at);
    }
slots_takes bytes below last (suc left) before empty at x e =
    opened (slot_at last left empty bytes at) _ (λ y ey rest.
    let adds = slots_takes bytes below last left (before ++ y.0 ∷ []) (is_wide y.0) y.1 x rest in
    record {
      more = y.0 ∷ adds.more;
      all = adds.all ∙ append_assoc before (y.0 ∷ []) adds.more;
      size = ap suc adds.size;
      formed = adds.formed;
      takes = Takes-then (slot_takes bytes below last left empty at y ey) adds.takes;
    }) e

pool_takes : (bytes : List ℕ) → IsBytes bytes → (at : ℕ) (x : Pool × ℕ) → pool_at bytes at ≡ Ok x → Takes bytes at (spelled_pool x.0) x.1
unfolding pool_at
pool_takes bytes below at x e =
    opened (number_at w16 bytes at) _ (λ count counts more.
    opened (demanded (not (count.0 == 0)) (fault.Bounds at)) _ (λ u passed others.
    opened (slots_at (count.0 - 1) count.0 [] true bytes count.1) _ (λ slots read last.
    let is : (record { entries = slots.0 }, slots.1) ≡ x = cc in
    let adds = slots_takes bytes below (count.0 - 1) count.0 [] true count.1 slots read in
    let number = subst (λ n. Takes bytes at (u2 n) count.1) (sym adds.size) ((reads_u2 bytes).takes below at count counts).1 in
    subst (λ (y : Pool × ℕ). Takes bytes at (spelled_pool y.0) y.1) is
    (subst (λ xs. Takes bytes at (counted spelled_entry xs) slots.1) (sym adds.all) (Takes-then number adds.takes))) others) more) e

-- a call that answers what the format says
pub pool_spelled : (bytes : List ℕ) → IsBytes bytes → (at : ℕ) (result : Result (Pool × ℕ) FileFault) → Gives result (pool_at bytes at) → IfOk result (λ x. Takes bytes at (spelled_pool x.0) x.1)
pool_spelled bytes below at (Ok x) g = pool_takes bytes below at x g
pool_spelled bytes below at (Err f) g = tt
