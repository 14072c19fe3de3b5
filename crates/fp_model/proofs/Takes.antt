-- What stands at an offset of the bytes of a file.
use Rattle.std.proofs.Common.{◌≡◌, ℕ, ◌+◌, ◌<◌, ◌≤◌, List, [], ◌++◌, length, take, drop, refl, sym, ap, ◌∙◌, arith}
use Rattle.std.proofs.Math.Seq.{drop-append_seam, take-append_seam}
use Rattle.std.proofs.lemmas.List.{append-nil, drop_all, append_assoc, take-append-drop, drop-drop, length-append, length-drop, length-take-le}
pub use Rattle.fp_model.specs.Reading.{Takes}

pub Takes-nil : (bytes : List ℕ) (at : ℕ) → Takes bytes at [] at
Takes-nil bytes at = record { parts = refl; after = omega arith }

-- two texts, one behind the other
pub Takes-then : {bytes : List ℕ} {a b c : ℕ} {x y : List ℕ} → Takes bytes a x b → Takes bytes b y c → Takes bytes a (x ++ y) c
Takes-then {bytes} {a} {b} {c} {x} {y} p q = record {
  parts = p.parts ∙ ap (λ t. x ++ t) q.parts ∙ sym (append_assoc x y (drop c bytes));
  after = omega (arith, length-append x y);
}

pub Takes-rest : (x y : List ℕ) {bytes : List ℕ} {a c : ℕ} → Takes bytes a (x ++ y) c → Takes bytes (a + length x) y c
Takes-rest x y {bytes} {a} {c} p = record {
  parts = sym (drop-drop (length x) a bytes) ∙ ap (drop (length x)) (p.parts ∙ append_assoc x y (drop c bytes)) ∙ drop-append_seam x (y ++ drop c bytes);
  after = omega (arith, length-append x y);
}

pub Takes-first : (x y : List ℕ) {bytes : List ℕ} {a c : ℕ} → Takes bytes a (x ++ y) c → Takes bytes a x (a + length x)
Takes-first x y {bytes} {a} {c} p = record {
  parts = p.parts ∙ append_assoc x y (drop c bytes) ∙ ap (λ t. x ++ t) (sym (Takes-rest x y p).parts);
  after = refl;
}

-- a text of two parts stands at an offset, so the parts stand one behind the other
pub Takes-split : (x y : List ℕ) {bytes : List ℕ} {a c : ℕ} {P : Type 0} → ((b : ℕ) → Takes bytes a x b → Takes bytes b y c → P) → Takes bytes a (x ++ y) c → P
Takes-split x y {a = a} k p = k (a + length x) (Takes-first x y p) (Takes-rest x y p)

-- the bytes themselves stand where they lie whole
pub Takes-run : (bytes : List ℕ) (at count : ℕ) → at + count ≤ length bytes → Takes bytes at (take count (drop at bytes)) (at + count)
Takes-run bytes at count fits =
    let room : count ≤ length (drop at bytes) = omega (arith, length-drop at bytes) in
    record {
      parts = sym (take-append-drop count (drop at bytes)) ∙ ap (λ t. take count (drop at bytes) ++ t) (drop-drop count at bytes);
      after = omega (arith, length-take-le count (drop at bytes) room);
    }

-- a text that stands at an offset lies whole in the bytes
pub Takes-room : {bytes : List ℕ} {at next : ℕ} {text : List ℕ} → 0 < length text → Takes bytes at text next → at + length text ≤ length bytes
Takes-room {bytes} {at} {next} {text} some p =
    let lengths : length (drop at bytes) ≡ length text + length (drop next bytes) = ap length p.parts ∙ length-append text (drop next bytes) in
    omega (arith, length-drop at bytes, length-drop next bytes)

pub Takes-text : {bytes : List ℕ} {at next : ℕ} {text : List ℕ} → Takes bytes at text next → take (length text) (drop at bytes) ≡ text
Takes-text {bytes} {at} {next} {text} p = ap (take (length text)) p.parts ∙ take-append_seam text (drop next bytes)

-- a text that takes all the bytes is the bytes
pub Takes-whole : (bytes text : List ℕ) → Takes bytes 0 text (length bytes) → text ≡ bytes
Takes-whole bytes text p =
    let rest : drop (length bytes) bytes ≡ [] = drop_all (length bytes) bytes (omega arith) in
    sym (p.parts ∙ ap (λ t. text ++ t) rest ∙ append-nil text)

pub Takes-all : (bytes : List ℕ) → Takes bytes 0 bytes (length bytes)
Takes-all bytes =
    let rest : drop (length bytes) bytes ≡ [] = drop_all (length bytes) bytes (omega arith) in
    record { parts = sym (ap (λ t. bytes ++ t) rest ∙ append-nil bytes); after = omega arith }
