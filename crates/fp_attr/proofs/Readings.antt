-- Readers of the parts of attributes, which read what is spelled and read each part from its spelling.
use Rattle.std.proofs.Common.{◌≡◌, ℕ, ◌+◌, ◌<◌, Bool, false, ◌&&◌, List, ◌++◌, length, get_or, take, drop, ltb, IsTrue, Ok, refl, sym, subst, arith}
use Rattle.std.proofs.lemmas.Bool.{and_parts, and_from, lt-ltb, ltb-true}
use Rattle.std.specs.Int.{w16, w32, from_be_bytes}
use Rattle.std.specs.List.{list_all}
use Rattle.fp_model.specs.declared.raw.attribute.BootRow.{BootRow}
use Rattle.fp_model.specs.declared.raw.attribute.CatchRow.{CatchRow}
use Rattle.fp_model.specs.declared.raw.attribute.RawAttr.{RawAttr}
use Rattle.fp_model.specs.declared.raw.attribute.RawBody.{RawBody}
use Rattle.fp_model.specs.declared.raw.attribute.RawBody.TheVariants as body
use Rattle.fp_model.specs.Reading.{bytes_at, counted_at, number_at}
use Rattle.fp_model.specs.Spelling.{counted, is_u2, plain_bytes, spelled_boot, spelled_plain, spelled_row, u2, u4}
use Rattle.fp_model.proofs.Takes.{Takes, Takes-first, Takes-rest, Takes-room, Takes-split, Takes-then}
use Rattle.fp_model.proofs.Readers.{bytes_again, bytes_takes, opened, reads_counted, reads_u2, run_below, number_found, stepped, u4_again, u4_takes, IsBytes, IsReader}
use Rattle.fp_attr.specs.Attributes.{boot_at}
use Rattle.fp_attr.specs.Codes.{inner_at, row_at}
use Rattle.fp_attr.proofs.Checking.{ok_is}

-- ---- what fits its spelling

abbrev pub is_row : CatchRow → Bool
is_row row = is_u2 row.start && (is_u2 row.end && (is_u2 row.handler && is_u2 row.class))

abbrev pub is_boot : BootRow → Bool
is_boot row = is_u2 row.method && (is_u2 (length row.args) && list_all is_u2 row.args)

abbrev is_short : List ℕ → Bool
is_short held = ltb (length held) 4294967296

abbrev is_unread : RawBody → Bool
is_unread (body.Bytes held) = is_short held
is_unread _ = false

abbrev pub is_plain : RawAttr → Bool
is_plain attr = is_u2 attr.name && is_unread attr.body

module _ (bytes : List ℕ) where
  u2_there : IsBytes bytes → (at : ℕ) (x : ℕ × ℕ) → number_at w16 bytes at ≡ Ok x → IsTrue (is_u2 x.0) × Takes bytes at (u2 x.0) x.1
  u2_there = (reads_u2 bytes).takes

  u2_again : (at n next : ℕ) → IsTrue (is_u2 n) → Takes bytes at (u2 n) next → number_at w16 bytes at ≡ Ok (n, next)
  u2_again = (reads_u2 bytes).again

  -- ---- rows of an exception table

  row_takes : IsBytes bytes → (at : ℕ) (x : CatchRow × ℕ) → row_at bytes at ≡ Ok x → IsTrue (is_row x.0) × Takes bytes at (spelled_row x.0) x.1
  unfolding row_at
  row_takes below at x e =
      opened (number_at w16 bytes at) _ (λ start starts more.
      opened (number_at w16 bytes start.1) _ (λ end ends others.
      opened (number_at w16 bytes end.1) _ (λ handler handlers rest.
      opened (number_at w16 bytes handler.1) _ (λ class classes last.
      let a = u2_there below at start starts in
      let b = u2_there below start.1 end ends in
      let c = u2_there below end.1 handler handlers in
      let d = u2_there below handler.1 class classes in
      let row : CatchRow = record { start = start.0; end = end.0; handler = handler.0; class = class.0 } in
      subst (λ (p : CatchRow × ℕ). IsTrue (is_row p.0) × Takes bytes at (spelled_row p.0) p.1) (ok_is (row, class.1) x last) (
        and_from (is_u2 start.0) _ a.0 (and_from (is_u2 end.0) _ b.0 (and_from (is_u2 handler.0) (is_u2 class.0) c.0 d.0)),
        Takes-then a.1 (Takes-then b.1 (Takes-then c.1 d.1)),
      )) rest) others) more) e

  row_again : (at : ℕ) (row : CatchRow) (next : ℕ) → IsTrue (is_row row) → Takes bytes at (spelled_row row) next → row_at bytes at ≡ Ok (row, next)
  unfolding row_at
  row_again at row next formed p =
      let a = and_parts (is_u2 row.start) (is_u2 row.end && (is_u2 row.handler && is_u2 row.class)) formed in
      let b = and_parts (is_u2 row.end) (is_u2 row.handler && is_u2 row.class) a.1 in
      let c = and_parts (is_u2 row.handler) (is_u2 row.class) b.1 in
      Takes-split (u2 row.start) (u2 row.end ++ (u2 row.handler ++ u2 row.class)) (λ second starts more.
      Takes-split (u2 row.end) (u2 row.handler ++ u2 row.class) (λ third ends rest.
      Takes-split (u2 row.handler) (u2 row.class) (λ fourth handlers classes.
      stepped (number_at w16 bytes at) _ (row.start, second) (u2_again at row.start second a.0 starts)
      (stepped (number_at w16 bytes second) _ (row.end, third) (u2_again second row.end third b.0 ends)
      (stepped (number_at w16 bytes third) _ (row.handler, fourth) (u2_again third row.handler fourth c.0 handlers)
      (stepped (number_at w16 bytes fourth) _ (row.class, next) (u2_again fourth row.class next c.1 classes) refl)))) rest) more) p

  pub reads_row : IsReader bytes is_row spelled_row (row_at bytes)
  reads_row = record { takes = row_takes; again = row_again }

  -- ---- rows of the bootstrap methods

  reads_args : IsReader bytes (λ args. is_u2 (length args) && list_all is_u2 args) (counted u2) (counted_at (number_at w16 bytes) bytes)
  reads_args = reads_counted bytes is_u2 u2 (number_at w16 bytes) (reads_u2 bytes)

  boot_takes : IsBytes bytes → (at : ℕ) (x : BootRow × ℕ) → boot_at bytes at ≡ Ok x → IsTrue (is_boot x.0) × Takes bytes at (spelled_boot x.0) x.1
  unfolding boot_at
  boot_takes below at x e =
      opened (number_at w16 bytes at) _ (λ method methods more.
      opened (counted_at (number_at w16 bytes) bytes method.1) _ (λ args arguments last.
      let a = u2_there below at method methods in
      let b = reads_args.takes below method.1 args arguments in
      let row : BootRow = record { method = method.0; args = args.0 } in
      subst (λ (p : BootRow × ℕ). IsTrue (is_boot p.0) × Takes bytes at (spelled_boot p.0) p.1) (ok_is (row, args.1) x last)
      (and_from (is_u2 method.0) _ a.0 b.0, Takes-then a.1 b.1)) more) e

  boot_again : (at : ℕ) (row : BootRow) (next : ℕ) → IsTrue (is_boot row) → Takes bytes at (spelled_boot row) next → boot_at bytes at ≡ Ok (row, next)
  unfolding boot_at
  boot_again at row next formed p =
      let a = and_parts (is_u2 row.method) (is_u2 (length row.args) && list_all is_u2 row.args) formed in
      Takes-split (u2 row.method) (counted u2 row.args) (λ second methods arguments.
      stepped (number_at w16 bytes at) _ (row.method, second) (u2_again at row.method second a.0 methods)
      (stepped (counted_at (number_at w16 bytes) bytes second) _ (row.args, next) (reads_args.again second row.args next a.1 arguments) refl)) p

  pub reads_boot : IsReader bytes is_boot spelled_boot (boot_at bytes)
  reads_boot = record { takes = boot_takes; again = boot_again }

  -- ---- attributes inside a code

  below_4 : (run : List ℕ) → ((i : ℕ) → get_or run i 0 < 256) → from_be_bytes w32 run < 4294967296
  below_4 run below = omega (arith, below 0, below 1, below 2, below 3)

  u4_small : IsBytes bytes → (at : ℕ) (x : ℕ × ℕ) → number_at w32 bytes at ≡ Ok x → x.0 < 4294967296
  u4_small below at x e =
      let found = number_found w32 bytes at x e in
      rw found.1 (below_4 (take 4 (drop at bytes)) (run_below bytes at 4 below found.0))

  inner_takes : IsBytes bytes → (at : ℕ) (x : RawAttr × ℕ) → inner_at bytes at ≡ Ok x → IsTrue (is_plain x.0) × Takes bytes at (spelled_plain x.0) x.1
  unfolding inner_at
  inner_takes below at x e =
      opened (number_at w16 bytes at) _ (λ name names more.
      opened (number_at w32 bytes name.1) _ (λ len lens rest.
      opened (bytes_at len.0 bytes len.1) _ (λ held holds last.
      let a = u2_there below at name names in
      let run = bytes_takes bytes len.0 len.1 held holds in
      let small = u4_small below name.1 len lens in
      let size = subst (λ n. Takes bytes name.1 (u4 n) len.1) (sym run.0) (u4_takes bytes below name.1 len lens) in
      let attr : RawAttr = record { name = name.0; body = body.Bytes held.0 } in
      subst (λ (p : RawAttr × ℕ). IsTrue (is_plain p.0) × Takes bytes at (spelled_plain p.0) p.1) (ok_is (attr, held.1) x last) (
        and_from (is_u2 name.0) _ a.0 (lt-ltb (length held.0) 4294967296 (omega (arith, run.0, small))),
        Takes-then a.1 (Takes-then size run.1),
      )) rest) more) e

  unread_again : (at name : ℕ) (held : List ℕ) (next : ℕ) → IsTrue (is_u2 name) → IsTrue (is_short held) → Takes bytes at (u2 name ++ (u4 (length held) ++ held)) next → inner_at bytes at ≡ Ok (record { name = name; body = body.Bytes held }, next)
  unfolding inner_at
  unread_again at name held next small short p =
      let some : 0 < length (u2 name ++ (u4 (length held) ++ held)) = omega arith in
      let room = Takes-room some p in
      Takes-split (u2 name) (u4 (length held) ++ held) (λ second names rest.
      stepped (number_at w16 bytes at) _ (name, second) (u2_again at name second small names)
      (stepped (number_at w32 bytes second) _ (length held, second + 4) (u4_again bytes second (length held) (second + 4) (ltb-true (length held) 4294967296 short) (Takes-first (u4 (length held)) held rest))
      (stepped (bytes_at (length held) bytes (second + 4)) _ (held, next) (bytes_again bytes (second + 4) next held (omega (arith, room, names.after)) (Takes-rest (u4 (length held)) held rest)) refl))) p

  by_body : (at name : ℕ) (b : RawBody) (next : ℕ) → IsTrue (is_u2 name) → IsTrue (is_unread b) → Takes bytes at (u2 name ++ (u4 (length (plain_bytes b)) ++ plain_bytes b)) next → inner_at bytes at ≡ Ok (record { name = name; body = b }, next)
  by_body at name (body.Bytes held) next small short p = unread_again at name held next small short p
  by_body at name _ next small short p = absurd cc

  inner_again : (at : ℕ) (attr : RawAttr) (next : ℕ) → IsTrue (is_plain attr) → Takes bytes at (spelled_plain attr) next → inner_at bytes at ≡ Ok (attr, next)
  inner_again at attr next formed p =
      let a = and_parts (is_u2 attr.name) (is_unread attr.body) formed in
      by_body at attr.name attr.body next a.0 a.1 p

  pub reads_inner : IsReader bytes is_plain spelled_plain (inner_at bytes)
  reads_inner = record { takes = inner_takes; again = inner_again }
