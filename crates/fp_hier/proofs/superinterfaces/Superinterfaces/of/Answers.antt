use Rattle.std.proofs.Common.{◌≡◌, ◌<◌, ◌≤◌, ◌-◌, List, ℕ, drop, get_or, length, take, ap, sym, ◌∙◌}
use Rattle.std.proofs.lemmas.Bool.{ltb-true}
use Rattle.fp_hier.specs.declared.superinterfaces.Part.{Part}
use Rattle.fp_hier.proofs.SharedNames.{list-nowhere, list-there, not-below}
use Rattle.fp_hier.proofs.superinterfaces.Superinterfaces.of.Goals as goal

pub returns-in-Some : goal.returns-in-Some
returns-in-Some c = λ classes are.
    let names = c.args.self.now.names.items in
    let parts = c.args.self.now.parts.items in
    let part = c.in-Some.part.now in
    let within : c.args.class < length c.deref.result.now = ltb-true c.args.class (length c.deref.result.now) (sym c.in-Some.ensures.lookup.0) in
    let there : c.args.class < length parts = rw (sym c.deref.ensures.value) within in
    let at : part ≡ get_or parts c.args.class part = c.in-Some.ensures.lookup.1 ∙ ap (λ (l : List Part). get_or l c.args.class part) c.deref.ensures.value in
    ap (λ (l : List ℕ). take (part.end - part.first) (drop part.first l)) c.deref-in-Some.ensures.value
    ∙ list-there classes names parts are c.args.class part there at

pub returns-in-None : goal.returns-in-None
returns-in-None c = λ classes are.
    let names = c.args.self.now.names.items in
    let parts = c.args.self.now.parts.items in
    let past : length c.deref.result.now ≤ c.args.class = not-below c.args.class (length c.deref.result.now) c.in-None.ensures.lookup.0 in
    list-nowhere classes names parts are c.args.class (rw (sym c.deref.ensures.value) past)
