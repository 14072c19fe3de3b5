use Rattle.std.proofs.Common.{◌≡◌, ℕ, Some, None}
use Rattle.std.proofs.lemmas.List.Sorted.{searched}
use Rattle.std.proofs.lemmas.Result.{MatchResult-at_ok, MatchResult-at_err}
use Rattle.fp_hier.specs.Bits.{place_in}
use Rattle.fp_hier.proofs.SearchedPlaces.{not_fall, place-found}
use Rattle.fp_hier.proofs.bits.place_of.Goals as goal

pub returns-in-Ok : goal.returns-in-Ok
returns-in-Ok c =
    let targets = c.args.targets.now in
    let found = searched targets c.args.method c.binary_search.result c.binary_search.ensures.position (not_fall targets c.requires.rising) in
    MatchResult-at_ok (λ i. Some i ≡ place_in targets c.args.method) (λ (_ : ℕ). None ≡ place_in targets c.args.method) c.in-Ok.place c.in-Ok.is
    (place-found targets c.args.method c.binary_search.result c.requires.rising found)

pub returns-in-Err : goal.returns-in-Err
returns-in-Err c =
    let targets = c.args.targets.now in
    let found = searched targets c.args.method c.binary_search.result c.binary_search.ensures.position (not_fall targets c.requires.rising) in
    MatchResult-at_err (λ i. Some i ≡ place_in targets c.args.method) (λ (_ : ℕ). None ≡ place_in targets c.args.method) c.in-Err.field-0 c.in-Err.is
    (place-found targets c.args.method c.binary_search.result c.requires.rising found)
