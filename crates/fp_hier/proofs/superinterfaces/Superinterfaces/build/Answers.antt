-- One list more, and the marks are those of its walk.
use Rattle.std.proofs.Common.{◌≡◌, ◌≤◌, ◌+◌, ◌++◌, ◌∷◌, [], List, ℕ, drop, length, map, slice_index, take, sym, ap, subst, ◌∙◌, arith}
use Rattle.std.specs.List.{range_with_len}
use Rattle.std.proofs.lemmas.List.{take_at}
use Rattle.std.proofs.lemmas.List.FromFn.{map-range_with_len_more}
use Rattle.fp_facts.specs.Hierarchy.{superinterfaces_at}
use Rattle.fp_hier.specs.Parts.{AreParts}
use Rattle.fp_hier.proofs.superinterfaces.Superinterfaces.build.Goals as goal

pub loop-id-preserved : goal.loop-id-preserved
loop-id-preserved c =
    let left = c.superinterface_list.new.marks in
    let same : take c.loop-id.marks.len (left ++ drop (length left) c.loop-id.marks.items) ≡ left =
    take_at left (drop (length left) c.loop-id.marks.items) c.loop-id.marks.len (omega (arith, c.loop-id.marks.ok.0, c.superinterface_list.ensures.long, c.loop-id.invariant.long)) in
    let so_far : List (List ℕ) = map (superinterfaces_at c.args.set.now.classes) (range_with_len 0 c.loop-id.id) in
    let lists = c.in_ok-push_list.ensures so_far c.loop-id.invariant.lists in
    record {
      lists = subst (λ (all : List (List ℕ)). AreParts all c.push_list.new.names.items c.push_list.new.parts.items)
          (ap (λ (l : List ℕ). so_far ++ l ∷ []) (c.as_slice.ensures ∙ c.in_ok-list.ensures.list)
          ∙ sym (map-range_with_len_more (superinterfaces_at c.args.set.now.classes) 0 c.loop-id.id c.loop-id.id (omega arith)))
          lists;
      long = ap length same ∙ c.superinterface_list.ensures.long;
      below = subst (λ (l : List ℕ). (n : ℕ) → slice_index l n ≤ c.loop-id.id + 1) (sym same) c.in_ok-list.ensures.below;
    }
