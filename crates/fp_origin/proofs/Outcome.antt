-- The frames as far as all origins say are those of the answer.
use Rattle.std.proofs.Common.{◌≡◌, ℕ, ◌<◌, List, [], ◌∷◌, length, map, refl, ap, subst, ◌∙◌, arith}
use Rattle.std.specs.Prelude.{Some, None, slice_get}
use Rattle.std.specs.List.{range_with_len, sum_by}
use Rattle.std.proofs.lemmas.Option.{slice_get-get_or}
use Rattle.std.proofs.lemmas.List.FromFn.{get_or-map-range_with_len, length-map-range_with_len}
use Rattle.std.proofs.lemmas.List.Sums.{sum_by-cons}
use Rattle.fp_model.specs.declared.class.Code.{Code}
use Rattle.fp_model.specs.declared.class.Method.{Method}
use Rattle.fp_model.specs.declared.kind.Sort.{Sort}
use Rattle.fp_facts.specs.declared.label.Label.{Label}
use Rattle.fp_facts.specs.declared.label.Label.TheVariants.{Unreached, Bad, Frame}
use Rattle.fp_facts.specs.declared.origin.Origin.{Origin}
use Rattle.fp_facts.specs.Origins.{frame_origins, origin_pairs, origins_of, pairs_at}
use Rattle.fp_facts.specs.Transfer.{frame_before}
use Rattle.fp_origin.specs.declared.answer.OriginFault.{OriginFault}
use Rattle.fp_origin.specs.declared.answer.OriginFault.TheVariants as fault
use Rattle.fp_origin.specs.declared.answer.Origins.{Origins}
use Rattle.fp_origin.specs.Answers.{AreOrigins, TellsFault, most_origin_pairs}
use Rattle.fp_origin.specs.Growth.{FrameSets, IsGrown, TellsNoRoom, frame_among, frame_pairs, frames_among, pairs_among}

frame-whole : (m : Method) (code : Code) (number : ℕ) (frame : Label Sort) → frame_among m code (origins_of m code) number frame ≡ frame_origins m code number frame
frame-whole m code number Unreached = refl
frame-whole m code number Bad = refl
frame-whole m code number (Frame l s) = refl

-- the frames by their numbers
abbrev whole_frame : Method → Code → ℕ → FrameSets
whole_frame m code number = frame_among m code (origins_of m code) number (frame_before m code number)

sums-same : (numbers : List ℕ) (frames : ℕ → FrameSets) (pairs : ℕ → ℕ) → ((number : ℕ) → frame_pairs (frames number) ≡ pairs number) → sum_by frame_pairs (map frames numbers) ≡ sum_by pairs numbers
sums-same [] frames pairs same = refl
sums-same (n ∷ numbers) frames pairs same =
    omega (arith, same n, sums-same numbers frames pairs same, sum_by-cons frame_pairs (frames n) (map frames numbers), sum_by-cons pairs n numbers)

pairs-whole : (m : Method) (code : Code) → pairs_among m code (origins_of m code) ≡ origin_pairs m code
unfolding origin_pairs
pairs-whole m code = sums-same (range_with_len 0 (length code.instrs)) (whole_frame m code) (pairs_at m code) (λ number. ap frame_pairs (frame-whole m code number (frame_before m code number)))

pub whole-known : (m : Method) (code : Code) (all : List Origin) (frames : List FrameSets) (room : ℕ) (o : Origins) → all ≡ origins_of m code → IsGrown m code all frames room → o.frames ≡ frames → AreOrigins m code o
whole-known m code all frames room o is known made =
    let long : ℕ = length code.instrs in
    let whole : o.frames ≡ frames_among m code (origins_of m code) = made ∙ known.known ∙ ap (frames_among m code) is in
    let pairs : pairs_among m code all ≡ origin_pairs m code = ap (pairs_among m code) is ∙ pairs-whole m code in
    record {
      few = omega (arith, known.left, pairs);
      long = ap length whole ∙ length-map-range_with_len (whole_frame m code) 0 long;
      frames = λ number lt.
          let within : number < length (frames_among m code (origins_of m code)) = omega (arith, lt, length-map-range_with_len (whole_frame m code) 0 long) in
          let none : FrameSets = None in
          ap (λ (l : List FrameSets). slice_get l number) whole ∙ slice_get-get_or (frames_among m code (origins_of m code)) number none within ∙
          ap (λ (f : FrameSets). Some f) (get_or-map-range_with_len (whole_frame m code) 0 long number number none lt (omega arith) ∙ frame-whole m code number (frame_before m code number));
    }

pub whole-refused : (m : Method) (code : Code) (all : List Origin) (e : OriginFault) → all ≡ origins_of m code → TellsNoRoom most_origin_pairs (pairs_among m code all) e → TellsFault m code e
whole-refused m code all fault.Memory is told = tt
whole-refused m code all fault.Limit is told =
    let pairs : pairs_among m code all ≡ origin_pairs m code = ap (pairs_among m code) is ∙ pairs-whole m code in
    let P : ℕ → Type 0 = λ n. most_origin_pairs < n in
    subst P pairs told
