use Rattle.std.proofs.Common.{◌∷◌, [], ◌∙◌, Bool, ℕ, Option, false, ap, arith, length-append}
use Rattle.std.specs.Prelude.{slice_index_or}
use Rattle.fp_rta.proofs.BuiltCandidates.{built-more}
use Rattle.fp_rta.proofs.candidates.built.Goals as goal

pub loop-places-preserved : goal.loop-places-preserved
loop-places-preserved c =
    let flags = c.args.always.now in
    let bit = c.loop-places.bit in
    let places = c.in-Some.places in
    let built_here = ap (λ (b : Bool). record { always = b; sources = places; target = c.target_at.result }) c.flag_at.ensures
    ∙ ap (λ (t : Option ℕ). record { always = slice_index_or flags bit false; sources = places; target = t }) c.target_at.ensures in
    record {
      bit = omega (arith, length-append c.loop-places.yielded (places ∷ []), c.loop-places.invariant.bit);
      candidates = built-more c.args.cells.now flags c.args.targets.now bit c.loop-places.yielded places c.loop-places.candidates.items c.push.new.self.items (record { always = c.flag_at.result; sources = places; target = c.target_at.result })
          c.loop-places.invariant.bit c.loop-places.invariant.candidates built_here c.in_ok-push.ensures.items;
    }
