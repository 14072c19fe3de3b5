-- Why the system that is built is that of the set and the words.
use Rattle.std.proofs.Common.{◌≡◌, ℕ, Bool, true, false, cond, ◌||◌, zero, suc, List, [], ◌∷◌, Option, None, Some, Result, Ok, Err, IfErr, slice_get, codes, refl, sym, ap, ◌∙◌}
use Rattle.std.proofs.lemmas.Slice.Eq.{bytes_eq-Decides}
use Rattle.std.specs.List.{list_any}
use Rattle.std.specs.Str.{bytes_eq}
use Rattle.std.specs.Option.{option_map, option_or}
use Rattle.std.specs.Result.{OnOk}
use Rattle.fp_base.specs.Names.{has_name}
use Rattle.fp_model.specs.declared.class.Class.{Class}
use Rattle.fp_model.specs.ClassSet.{SetView}
use Rattle.fp_cells.specs.declared.kind.KindId.{KindId}
use Rattle.fp_cells.specs.declared.kind.KindId.TheVariants.{Declared, Inst, Reach, Callees, Assign, Immut, Timmut, Fresh, Leak, Escape, Purity}
use Rattle.fp_cells.specs.Cells.{Cell, total_places}
use Rattle.fp_cells.specs.Entities.{kind_text}
use Rattle.fp_system.specs.declared.declared.ClassTask.{ClassTask}
use Rattle.fp_system.specs.declared.fault.SystemFault.{SystemFault}
use Rattle.fp_system.specs.declared.fault.SystemFault.TheVariants as fault
use Rattle.fp_system.specs.ClassEquations.{class_tasks}
use Rattle.fp_system.specs.declared.words.check.Word.TheVariants as word
use Rattle.fp_system.specs.Faults.{TellsLimit, TellsSystemRefusal, TellsWord}
use Rattle.fp_system.specs.Java.{SystemRefusal, UnknownAnalysis, UnknownItem, UnknownRoot, equations_of, first_failing, fixed_words, has_text, is_analysis, is_item, is_kind_text, is_root, java_cells, java_equations, kinds, places_refusal, selected_tasks, shown_flags, shown_from, shows, system_refusal}
use Rattle.fp_system.specs.Shows.{FindsItems, HasFound, cell_text, marked_flags, marked_from}
use Rattle.fp_system.specs.Starts.{start_words}
use Rattle.fp_system.proofs.JavaCellLemmas.{false-if_not}
use Rattle.fp_system.proofs.ShowLemmas.{firsts-shown, flags-shown}
use Rattle.fp_system.proofs.StartLemmas.{start_words-selected}

-- what follows of an answer
pub on_ok : {T E P Q : Type 0} (r : Result T E) → (P → Q) → OnOk r P → OnOk r Q
on_ok (Ok x) follows is = follows is
on_ok (Err e) follows is = tt

pub if_err : {T E : Type 0} (r : Result T E) (P Q : E → Type 0) → ((e : E) → P e → Q e) → IfErr r P → IfErr r Q
if_err (Ok x) P Q follows is = tt
if_err (Err e) P Q follows is = follows e is

or-right : (b c : Bool) → c ≡ true → (b || c) ≡ true
or-right true c h = refl
or-right false c h = h

-- ---- the equations

pub rows_are : (set : SetView) (analyses : List (List ℕ)) (cells : List Cell) (selects : List ℕ → Bool) (rows : List ClassTask) → cells ≡ java_cells set.classes → ((text : List ℕ) → selects text ≡ has_text analyses text) →
    rows ≡ cond (selects (codes "declared")) (class_tasks set cells) [] → rows ≡ selected_tasks set analyses
rows_are set analyses cells selects rows is picks made =
    made ∙ ap (λ b. cond b (class_tasks set cells) []) (picks (codes "declared")) ∙ ap (λ v. cond (has_text analyses (codes "declared")) (class_tasks set v) []) is

pub fixed_are : (classes : List Class) (analyses : List (List ℕ)) (cells : List Cell) (selects : List ℕ → Bool) (fixed : List ℕ) → cells ≡ java_cells classes → ((text : List ℕ) → selects text ≡ has_text analyses text) →
    fixed ≡ start_words selects cells → fixed ≡ fixed_words analyses (java_cells classes)
fixed_are classes analyses cells selects fixed is picks made = made ∙ start_words-selected selects analyses cells picks ∙ ap (fixed_words analyses) is

pub flags_are : (set : SetView) (show : List (List ℕ)) (cells : List Cell) (looks : List ℕ → Bool) (flags : List Bool) → cells ≡ java_cells set.classes → ((text : List ℕ) → looks text ≡ has_text show text) →
    flags ≡ marked_flags set looks cells → flags ≡ shown_flags set show (java_cells set.classes)
flags_are set show cells looks flags is same made = made ∙ flags-shown set looks show cells same ∙ ap (shown_flags set show) is

pub firsts_are : (set : SetView) (show : List (List ℕ)) (cells : List Cell) (looks : List ℕ → Bool) (firsts : List ℕ) → cells ≡ java_cells set.classes → ((text : List ℕ) → looks text ≡ has_text show text) →
    firsts ≡ marked_from set looks 0 cells → firsts ≡ shown_from set show 0 (java_cells set.classes)
firsts_are set show cells looks firsts is same made = made ∙ firsts-shown set looks show 0 cells same ∙ ap (shown_from set show 0) is

pub equations_are : (set : SetView) (analyses show : List (List ℕ)) (rows : List ClassTask) (fixed : List ℕ) (shown : List Bool) →
    rows ≡ selected_tasks set analyses → fixed ≡ fixed_words analyses (java_cells set.classes) → shown ≡ shown_flags set show (java_cells set.classes) →
    equations_of rows fixed shown ≡ java_equations set analyses show
equations_are set analyses show rows fixed shown tasks starts flags =
    ap (λ v. equations_of v fixed shown) tasks ∙ ap (λ v. equations_of (selected_tasks set analyses) v shown) starts ∙ ap (equations_of (selected_tasks set analyses) (fixed_words analyses (java_cells set.classes))) flags

-- ---- the items that name nothing

pub first_failing-same : (f g : List ℕ → Bool) (show : List (List ℕ)) → ((item : List ℕ) → has_text show item ≡ true → f item ≡ g item) → first_failing f show ≡ first_failing g show
first_failing-same f g [] h = refl
first_failing-same f g (item ∷ show) h =
    let own : bytes_eq item item ≡ true = (bytes_eq-Decides item item).1 refl in
    let here = h item (ap (λ b. b || has_text show item) own) in
    ap (λ b. cond b (first_failing f show) (Some item)) here
    ∙ ap (λ v. cond (g item) v (Some item)) (first_failing-same f g show (λ other there. h other (or-right (bytes_eq item other) (has_text show other) there)))

any_at : (f : KindId → Bool) (xs : List KindId) (i : ℕ) (x : KindId) → slice_get xs i ≡ Some x → f x ≡ true → list_any f xs ≡ true
any_at f [] i x at h = absurd (cc)
any_at f (y ∷ xs) zero x at h = let same : y ≡ x = cc in ap (λ b. b || list_any f xs) (ap f same ∙ h)
any_at f (y ∷ xs) (suc i) x at h = or-right (f y) (list_any f xs) (any_at f xs i x at h)

kind_is : (k : KindId) (item : List ℕ) → bytes_eq item (kind_text k) ≡ true → is_kind_text item ≡ true
kind_is Declared item h = any_at (λ k. bytes_eq item (kind_text k)) kinds 0 Declared refl h
kind_is Inst item h = any_at (λ k. bytes_eq item (kind_text k)) kinds 1 Inst refl h
kind_is Reach item h = any_at (λ k. bytes_eq item (kind_text k)) kinds 2 Reach refl h
kind_is Callees item h = any_at (λ k. bytes_eq item (kind_text k)) kinds 3 Callees refl h
kind_is Assign item h = any_at (λ k. bytes_eq item (kind_text k)) kinds 4 Assign refl h
kind_is Immut item h = any_at (λ k. bytes_eq item (kind_text k)) kinds 5 Immut refl h
kind_is Timmut item h = any_at (λ k. bytes_eq item (kind_text k)) kinds 6 Timmut refl h
kind_is Fresh item h = any_at (λ k. bytes_eq item (kind_text k)) kinds 7 Fresh refl h
kind_is Leak item h = any_at (λ k. bytes_eq item (kind_text k)) kinds 8 Leak refl h
kind_is Escape item h = any_at (λ k. bytes_eq item (kind_text k)) kinds 9 Escape refl h
kind_is Purity item h = any_at (λ k. bytes_eq item (kind_text k)) kinds 10 Purity refl h

drop_kinds : (known : Bool) (a b : Cell → Bool) → ((c : Cell) → a c ≡ true → known ≡ true) → (cells : List Cell) → (known || list_any b cells) ≡ (known || list_any (λ c. a c || b c) cells)
drop_kinds true a b h cells = refl
drop_kinds false a b h [] = refl
drop_kinds false a b h (c ∷ cells) =
    let other : a c ≡ false = false-if_not (a c) (λ t. let k = h c t in cc) in
    ap (λ v. b c || v) (drop_kinds false a b h cells) ∙ ap (λ v. (v || b c) || list_any (λ c. a c || b c) cells) (sym other)

pub items_same : (set : SetView) (cells : List Cell) (items found show : List (List ℕ)) → cells ≡ java_cells set.classes → ((text : List ℕ) → has_name items text ≡ has_text show text) → HasFound set items found cells →
    FindsItems set show found
items_same set cells items found show is looks noted =
    first_failing-same (λ item. is_kind_text item || has_name found item) (is_item set) show (λ item there.
    ap (λ b. is_kind_text item || b) (noted item (looks item ∙ there))
    ∙ drop_kinds (is_kind_text item) (λ c. bytes_eq item (kind_text c.kind)) (λ c. bytes_eq item (cell_text set c)) (λ c. kind_is c.kind item) cells
    ∙ ap (λ v. is_kind_text item || list_any (λ cell. shows set cell item) v) is)

-- ---- the refusals

-- the first of the refusals that there are
abbrev first_of : (analysis root item : Option (List ℕ)) → Option SystemRefusal → Option SystemRefusal
first_of analysis root item places = option_or (option_map UnknownAnalysis analysis) (option_or (option_map UnknownRoot root) (option_or (option_map UnknownItem item) places))

module _ (set : SetView) (analyses roots show : List (List ℕ)) where
  abbrev analysis : Option (List ℕ)
  analysis = first_failing is_analysis analyses

  abbrev root : Option (List ℕ)
  root = first_failing (is_root set) roots

  abbrev item : Option (List ℕ)
  item = first_failing (is_item set) show

  abbrev places : Option SystemRefusal
  places = places_refusal (total_places (java_cells set.classes))

  opened : system_refusal set analyses roots show ≡ first_of analysis root item places
  unfolding system_refusal
  opened = refl

  after_analyses : analysis ≡ None → system_refusal set analyses roots show ≡ first_of None root item places
  after_analyses h = opened ∙ ap (λ o. first_of o root item places) h

  after_roots : analysis ≡ None → root ≡ None → system_refusal set analyses roots show ≡ first_of None None item places
  after_roots h k = after_analyses h ∙ ap (λ o. first_of None o item places) k

  after_items : analysis ≡ None → root ≡ None → item ≡ None → system_refusal set analyses roots show ≡ places
  after_items h k l = after_roots h k ∙ ap (λ o. first_of None None o places) l

  pub tells_analysis : (f : SystemFault) → TellsWord word.Analysis analysis f → TellsSystemRefusal (system_refusal set analyses roots show) f
  tells_analysis (fault.Analysis text) h = opened ∙ ap (λ o. first_of o root item places) h
  tells_analysis (fault.Root text) h = absurd h
  tells_analysis (fault.Show text) h = absurd h
  tells_analysis (fault.Limit which bound) h = absurd h
  tells_analysis fault.Memory h = tt

  pub tells_root : (f : SystemFault) → analysis ≡ None → TellsWord word.Root root f → TellsSystemRefusal (system_refusal set analyses roots show) f
  tells_root (fault.Analysis text) none h = absurd h
  tells_root (fault.Root text) none h = after_analyses none ∙ ap (λ o. first_of None o item places) h
  tells_root (fault.Show text) none h = absurd h
  tells_root (fault.Limit which bound) none h = absurd h
  tells_root fault.Memory none h = tt

  pub tells_item : (f : SystemFault) → analysis ≡ None → root ≡ None → TellsWord word.Item item f → TellsSystemRefusal (system_refusal set analyses roots show) f
  tells_item (fault.Analysis text) none rooted h = absurd h
  tells_item (fault.Root text) none rooted h = absurd h
  tells_item (fault.Show text) none rooted h = after_roots none rooted ∙ ap (λ o. first_of None None o places) h
  tells_item (fault.Limit which bound) none rooted h = absurd h
  tells_item fault.Memory none rooted h = tt

  pub tells_limit : (f : SystemFault) → analysis ≡ None → root ≡ None → item ≡ None → TellsLimit places f → TellsSystemRefusal (system_refusal set analyses roots show) f
  tells_limit (fault.Analysis text) none rooted known h = absurd h
  tells_limit (fault.Root text) none rooted known h = absurd h
  tells_limit (fault.Show text) none rooted known h = absurd h
  tells_limit (fault.Limit which bound) none rooted known h = (after_items none rooted known ∙ h.0, h.1, h.2)
  tells_limit fault.Memory none rooted known h = tt

  pub none_refused : analysis ≡ None → root ≡ None → item ≡ None → places ≡ None → system_refusal set analyses roots show ≡ None
  none_refused none rooted known few = after_items none rooted known ∙ few
