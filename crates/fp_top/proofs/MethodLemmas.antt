-- What holds of all methods holds of one of them.
use Rattle.std.proofs.Common.{◌≡◌, ℕ, List, Some, subst}
use Rattle.std.specs.Prelude.{All, slice_get}
use Rattle.std.proofs.lemmas.Option.{get_or_from_slice_get, slice_get_within}
use Rattle.fp_model.specs.declared.class.Method.{Method}
use Rattle.fp_model.specs.SoundCode.{IsSoundMethod}
use Rattle.fp_facts.specs.Kinded.{IsKindedMethod}

pub method-sound : (ms : List Method) (id : ℕ) (m : Method) → slice_get ms id ≡ Some m → All IsSoundMethod ms → IsSoundMethod m
method-sound ms id m is all = subst IsSoundMethod (get_or_from_slice_get ms id m m is) (all id m (slice_get_within ms id m is))

pub method-kinded : (ms : List Method) (id : ℕ) (m : Method) → slice_get ms id ≡ Some m → All IsKindedMethod ms → IsKindedMethod m
method-kinded ms id m is all = subst IsKindedMethod (get_or_from_slice_get ms id m m is) (all id m (slice_get_within ms id m is))

pub ruleset first = (method-sound, method-kinded)
