use Rattle.std.proofs.Common.{◌≡◌, ◌+◌, ◌-◌, ◌*◌, ◌≤◌, true, length, drop}
use Rattle.fp_model.specs.Descriptor.{closes_behind, fields_behind, parameters, words_of_all}
use Rattle.fp_model.proofs.descriptor.method.count_words.Given as goal

-- what is left counts up to the whole
abbrev pub invariant-loop-at : goal.invariant-loop-at
invariant-loop-at l = (closes_behind 0 (drop l.at l.text) ≡ true) × (l.words + words_of_all (fields_behind 0 (drop l.at l.text)) ≡ words_of_all (parameters l.text)) × (l.words ≤ 2 * l.at) × (l.at ≤ length l.text)

abbrev pub decreases-loop-at : goal.decreases-loop-at
decreases-loop-at l = length l.text - l.at
