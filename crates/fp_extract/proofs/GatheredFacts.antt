-- The facts of one method more.
use Rattle.std.proofs.Common.{◌≡◌, ℕ, true, false, IsTrue, List, [], ◌∷◌, ◌++◌, map, refl, sym, ap, subst, ◌∙◌}
use Rattle.std.specs.List.{flat_map}
use Rattle.std.proofs.lemmas.Grind.{flat_map-append}
use Rattle.std.proofs.lemmas.List.{append_assoc, append-nil, map-append}
use Rattle.std.proofs.lemmas.List.Folds.{list_any-append}
use Rattle.std.proofs.lemmas.List.Sums.{fold-append}
use Rattle.fp_model.specs.ClassSet.{SetView}
use Rattle.fp_facts.specs.declared.facts.MethodFacts.{MethodFacts}
use Rattle.fp_facts.specs.declared.reference.Reference.{Reference}
use Rattle.fp_facts.specs.Facts.{Coded, code_facts, references_in}
use Rattle.fp_facts.specs.Kinded.{IsKindedCode}
use Rattle.fp_facts.specs.References.{with_references}
use Rattle.fp_facts.specs.Steps.{steps}
use Rattle.fp_extract.specs.declared.calls.CallTable.{CallTable}
use Rattle.fp_extract.specs.declared.methods.Gathered.{Gathered}
use Rattle.fp_extract.specs.declared.room.Room.{Room}
use Rattle.fp_extract.specs.Gathering.{HasGathered, facts_by}
use Rattle.fp_extract.specs.Refusals.{has_many_pairs}
use Rattle.fp_extract.specs.Rooms.{fits, left_by, left_of}
use Rattle.fp_extract.proofs.BegunSteps.{begun-steps}
use Rattle.fp_extract.proofs.CallTables.{fits-method}
use Rattle.fp_extract.proofs.MetReferences.{gained-all, with-both}

pub facts-are : (set : SetView) (table : List Reference) (m : Coded) → IsKindedCode m.method m.code → facts_by set table m.id m.caller (steps m.method m.code) ≡ code_facts set table m
facts-are set table m kinded =
    let with-begins : List ℕ → MethodFacts = λ begun.
    (let f = code_facts set table m in
    record { method = f.method; sites = f.sites; news = f.news; allocs = f.allocs; begins = begun; accesses = f.accesses; thrown = f.thrown; returned = f.returned }) in
    ap with-begins (begun-steps set m.method m.code kinded)

pub gathered-same : (set : SetView) (room : Room) (before ms : List Coded) (g : Gathered) → ms ≡ [] → HasGathered set room before g → HasGathered set room (before ++ ms) g
gathered-same set room before ms g none h = subst (λ l. HasGathered set room l g) (sym (ap (λ l. before ++ l) none ∙ append-nil before)) h

gathered-one : (set : SetView) (room : Room) (before : List Coded) (m : Coded) (g h : Gathered) (made : MethodFacts) → IsKindedCode m.method m.code → has_many_pairs m ≡ false → HasGathered set room before g →
    h.calls.references ≡ with_references g.calls.references (references_in m) → h.calls.left ≡ left_by set g.calls.left m →
    ((more : List Reference) → made ≡ facts_by set (h.calls.references ++ more) m.id m.caller (steps m.method m.code)) →
    (IsTrue (fits h.calls.left) → h.methods.items ≡ g.methods.items ++ made ∷ []) → HasGathered set room (before ++ m ∷ []) h
gathered-one set room before m g h made kinded few old table left told kept = record {
  few = list_any-append has_many_pairs before (m ∷ []) ∙ (let first = old.few in rw (first, few) refl);
  table =
      table ∙ ap (λ t. with_references t (references_in m)) old.table
      ∙ sym (with-both [] (flat_map references_in before) (references_in m))
      ∙ ap (with_references []) (ap (λ l. flat_map references_in before ++ l) (sym (append-nil (references_in m))) ∙ sym (flat_map-append references_in before (m ∷ [])));
  left = left ∙ ap (λ l. left_by set l m) old.left ∙ sym (fold-append (left_by set) (left_of room) before (m ∷ []));
  facts = λ fit more.
      let gained = gained-all g.calls.references (references_in m) in
      let longer : (g.calls.references ++ (gained.gained ++ more)) ≡ (h.calls.references ++ more) =
      sym (append_assoc g.calls.references gained.gained more) ∙ ap (λ t. t ++ more) (sym (table ∙ gained.is)) in
      let earlier : IsTrue (fits g.calls.left) = fits-method set m g.calls.left (subst (λ l. IsTrue (fits l)) left fit) in
      let first : g.methods.items ≡ map (code_facts set (h.calls.references ++ more)) before =
      old.facts earlier (gained.gained ++ more) ∙ ap (λ t. map (code_facts set t) before) longer in
      kept fit
      ∙ ap (λ l. l ++ made ∷ []) first
      ∙ ap (λ f. map (code_facts set (h.calls.references ++ more)) before ++ f ∷ []) (told more ∙ facts-are set (h.calls.references ++ more) m kinded)
      ∙ sym (map-append (code_facts set (h.calls.references ++ more)) before (m ∷ []));
}

pub gathered-more : (set : SetView) (room : Room) (before ms : List Coded) (m : Coded) (g h : Gathered) (made : MethodFacts) → ms ≡ m ∷ [] → IsKindedCode m.method m.code → has_many_pairs m ≡ false → HasGathered set room before g →
    h.calls.references ≡ with_references g.calls.references (references_in m) → h.calls.left ≡ left_by set g.calls.left m →
    ((more : List Reference) → made ≡ facts_by set (h.calls.references ++ more) m.id m.caller (steps m.method m.code)) →
    (IsTrue (fits h.calls.left) → h.methods.items ≡ g.methods.items ++ made ∷ []) → HasGathered set room (before ++ ms) h
gathered-more set room before ms m g h made is kinded few old table left told kept =
    subst (λ l. HasGathered set room (before ++ l) h) (sym is) (gathered-one set room before m g h made kinded few old table left told kept)

-- ---- the facts of a method are kept as long as no bound is passed

pub record IsKept (old new : Gathered) (table : CallTable) (made : MethodFacts) : Type 0 where
  pub calls : new.calls ≡ table
  pub methods : IsTrue (fits table.left) → new.methods.items ≡ old.methods.items ++ made ∷ []

pub kept-then : (old new : Gathered) (calls : CallTable) (made : MethodFacts) (g : Gathered) → new ≡ g → g.methods.items ≡ old.methods.items ++ made ∷ [] → g.calls ≡ calls → IsKept old new calls made
kept-then old new calls made g is pushed same = record { calls = ap (λ (h : Gathered). h.calls) is ∙ same; methods = λ _. ap (λ (h : Gathered). h.methods.items) is ∙ pushed }

pub kept-not : (old new : Gathered) (calls : CallTable) (made : MethodFacts) (g : Gathered) → new ≡ g → g.calls ≡ calls → fits calls.left ≡ false → IsKept old new calls made
kept-not old new calls made g is same passed = record { calls = ap (λ (h : Gathered). h.calls) is ∙ same; methods = λ fit. absurd (let wrong : false ≡ true = sym passed ∙ fit in cc) }
