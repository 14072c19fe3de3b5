use Rattle.std.proofs.Common.{◌≡◌, ◌≤◌, ◌+◌, ◌-◌, ◌++◌, List, ℕ, drop, length, take, refl, ap, subst, sym, ◌∙◌}
use Rattle.fp_hier.proofs.SharedNames.{list-added}
use Rattle.fp_hier.proofs.superinterfaces.push_list.Goals as goal

pub returns : goal.returns
returns c = λ lists are.
    let names = c.args.names.now.items in
    let list = c.args.list.now in
    let first = c.begin_of-first.result in
    let value = c.as_slice.ensures.value in
    let count : c.len.result ≡ length names = c.len.ensures ∙ sym c.as_slice.ensures.len ∙ ap length value in
    let within : first ≤ length names = subst (λ (l : List ℕ). first ≤ length l) value c.begin_of-first.ensures.within in
    let alike = subst (λ (l : List ℕ). take (length list) (drop first l) ≡ take (length l - first) list) value c.begin_of-first.ensures.alike in
    let added = c.in_ok-add_behind.ensures ∙ ap (λ (n : ℕ). names ++ drop (n - first) list) count in
    list-added names list c.add_behind.new.names.items c.args.parts.now.items first within alike added lists c.push.new.self.items (record { first = first; end = first + length list }) refl refl are c.in_ok-push.ensures.items
