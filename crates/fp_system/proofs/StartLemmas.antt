-- The words that places start with, cell after cell.
use Rattle.std.proofs.Common.{◌≡◌, ℕ, ◌+◌, ◌-◌, ◌*◌, Bool, cond, List, [], ◌∷◌, ◌++◌, Option, Some, None, length, map, take, slice_get, flat_map, refl, sym, ap, ◌∙◌, append-nil, append_assoc, zero-add, length-append}
use Rattle.std.proofs.lemmas.List.{take_more}
use Rattle.std.proofs.lemmas.List.Concat.{flat_map-append}
use Rattle.std.proofs.lemmas.List.FromFn.{map-range_with_len_more, length-map-range_with_len}
use Rattle.std.proofs.lemmas.Option.{slice_get_within, get_or_from_slice_get}
use Rattle.std.specs.List.{range_with_len}
use Rattle.std.specs.Option.{option_map}
use Rattle.fp_cells.specs.declared.kind.KindId.{KindId}
use Rattle.fp_cells.specs.declared.kind.Entity.{Entity}
use Rattle.fp_cells.specs.Cells.{Cell, places_of, total_places}
use Rattle.fp_system.specs.Java.{analysis_of, fixed_words, full_word, has_text}
use Rattle.fp_system.specs.Starts.{start_words, words_of}

-- the words of one cell more
pub start_words-more : (selects : List ℕ → Bool) (cells : List Cell) (i : ℕ) (cell : Cell) → slice_get cells i ≡ Some cell → start_words selects (take (i + 1) cells) ≡ start_words selects (take i cells) ++ words_of (selects (analysis_of cell.kind)) cell.bits
start_words-more selects cells i cell at =
    let one : Cell → List ℕ = λ c. words_of (selects (analysis_of c.kind)) c.bits in
    ap (flat_map one) (take_more cells i cell (slice_get_within cells i cell at) ∙ ap (λ v. take i cells ++ v ∷ []) (get_or_from_slice_get cells i cell cell at))
    ∙ flat_map-append one (take i cells) (cell ∷ []) ∙ ap (λ v. flat_map one (take i cells) ++ v) (append-nil (one cell))

-- where the test knows the selected analyses
pub start_words-selected : (selects : List ℕ → Bool) (analyses : List (List ℕ)) (cells : List Cell) → ((text : List ℕ) → selects text ≡ has_text analyses text) → start_words selects cells ≡ fixed_words analyses cells
start_words-selected selects analyses [] h = refl
start_words-selected selects analyses (c ∷ cells) h =
    ap (λ b. words_of b c.bits ++ start_words selects cells) (h (analysis_of c.kind))
    ∙ ap (λ v. words_of (has_text analyses (analysis_of c.kind)) c.bits ++ v) (start_words-selected selects analyses cells h)

-- one word more of a cell
pub words_step : (selected : Bool) (bits i : ℕ) (start now later : List ℕ) (word left : ℕ) → now ≡ start ++ map (λ i. cond selected 0 (full_word (bits - 64 * i))) (range_with_len 0 i) → later ≡ now ++ word ∷ [] → word ≡ cond selected 0 (full_word left) → left ≡ bits - 64 * i →
    later ≡ start ++ map (λ i. cond selected 0 (full_word (bits - 64 * i))) (range_with_len 0 (i + 1))
words_step selected bits i start now later word left is added given rest =
    let f : ℕ → ℕ = λ i. cond selected 0 (full_word (bits - 64 * i)) in
    let own : word ≡ f i = given ∙ ap (λ n. cond selected 0 (full_word n)) rest in
    added ∙ ap (λ v. v ++ word ∷ []) is ∙ append_assoc start (map f (range_with_len 0 i)) (word ∷ [])
    ∙ ap (λ w. start ++ (map f (range_with_len 0 i) ++ w ∷ [])) own
    ∙ ap (λ v. start ++ v) (sym (map-range_with_len_more f 0 i i (zero-add i)))

-- the cell that was told
pub record TheCell (o : Option Cell) (told : KindId × Entity × ℕ) : Type 0 where
  pub cell : Cell
  pub at : o ≡ Some cell
  pub kind : cell.kind ≡ told.0
  pub bits : cell.bits ≡ told.2

pub the_cell : (o : Option Cell) (told : KindId × Entity × ℕ) → option_map (λ c. (c.kind, c.entity, c.bits)) o ≡ Some told → TheCell o told
the_cell None told h = absurd (cc)
the_cell (Some c) told h =
    let same : ◌≡◌ {A = KindId × Entity × ℕ} (c.kind, c.entity, c.bits) told = cc in
    record { cell = c; at = refl; kind = ap (λ (t : KindId × Entity × ℕ). t.0) same; bits = ap (λ (t : KindId × Entity × ℕ). t.2) same }

pub start_words-step : (selects : List ℕ → Bool) (cells : List Cell) (i : ℕ) (told : KindId × Entity × ℕ) (selected : Bool) (now later : List ℕ) → option_map (λ c. (c.kind, c.entity, c.bits)) (slice_get cells i) ≡ Some told → selected ≡ selects (analysis_of told.0) → now ≡ start_words selects (take i cells) → later ≡ now ++ words_of selected told.2 →
    later ≡ start_words selects (take (i + 1) cells)
start_words-step selects cells i told selected now later here picks is added =
    let r = the_cell (slice_get cells i) told here in
    added ∙ ap (λ v. v ++ words_of selected told.2) is
    ∙ ap (λ b. start_words selects (take i cells) ++ words_of b told.2) (picks ∙ ap (λ k. selects (analysis_of k)) (sym r.kind))
    ∙ ap (λ n. start_words selects (take i cells) ++ words_of (selects (analysis_of r.cell.kind)) n) (sym r.bits)
    ∙ sym (start_words-more selects cells i r.cell r.at)

-- a word for each place
pub length-start_words : (selects : List ℕ → Bool) (cells : List Cell) → length (start_words selects cells) ≡ total_places cells
length-start_words selects [] = refl
length-start_words selects (c ∷ cells) =
    let own : length (words_of (selects (analysis_of c.kind)) c.bits) ≡ places_of c.bits = length-map-range_with_len (λ i. cond (selects (analysis_of c.kind)) 0 (full_word (c.bits - 64 * i))) 0 (places_of c.bits) in
    length-append (words_of (selects (analysis_of c.kind)) c.bits) (start_words selects cells)
    ∙ ap (λ n. n + length (start_words selects cells)) own ∙ ap (λ n. places_of c.bits + n) (length-start_words selects cells)
