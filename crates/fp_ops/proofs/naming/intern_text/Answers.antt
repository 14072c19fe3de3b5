use Rattle.std.proofs.Common.{◌∷◌, [], subst}
use Rattle.std.specs.Option.{unwrap_or}
use Rattle.fp_model.specs.Interning.{Interned}
use Rattle.fp_model.proofs.Interned.{interned_one}
use Rattle.fp_ops.proofs.naming.intern_text.Goals as goal

pub returns-clause-names : goal.returns-clause-names
returns-clause-names c =
    subst (λ o. Interned c.intern.result c.args.names.now c.intern.new.self (unwrap_or o [] ∷ [])) c.in-Some.ensures
    (interned_one c.intern.result c.args.names.now c.intern.new.self c.in-Some.text.now c.intern.ensures.names c.intern.ensures.err c.intern.ensures.full.0)
