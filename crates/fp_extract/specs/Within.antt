-- The calls of facts and their references.
use Rattle.std.specs.Prelude.{◌<◌, All, length}
use Rattle.fp_facts.specs.declared.facts.Facts.{Facts}

-- each call has the number of one of the references
abbrev pub AreCallsKnown : Facts → Type 0
AreCallsKnown f = All (λ m. All (λ site. site.call < length f.calls) m.sites) f.methods
