-- Frames and their join (JVMS SE 21 section 4.10.2.2), over any lattice of words.
use Rattle.std.specs.Prelude.{◌+◌, ◌*◌, ◌==◌, ◌&&◌, nat_le, ℕ, Bool, true, List, [], ◌∷◌, length, sum_by, if◌then◌else◌}
use Rattle.std.specs.List.{list_all}
use Rattle.fp_facts.specs.declared.label.Label.{Label}
use Rattle.fp_facts.specs.declared.label.Label.TheVariants.{Unreached, Bad, Frame}
use Rattle.fp_facts.specs.Lattices.{Lattice}

-- word by word, where a longer list keeps its end
abbrev pub join_words : {W : Type 0} → (W → W → W) → List W → List W → List W
join_words j [] ys = ys
join_words j (x ∷ xs) [] = x ∷ xs
join_words j (x ∷ xs) (y ∷ ys) = j x y ∷ join_words j xs ys

-- as many local variables, and as many words on the stack
abbrev pub same_shape : {W : Type 0} → (l s m t : List W) → Bool
same_shape l s m t = (length l == length m) && (length s == length t)

-- frames are joined word by word, and only where their shapes are one
abbrev pub join_labels : {W : Type 0} → (W → W → W) → Label W → Label W → Label W
join_labels j Unreached y = y
join_labels j Bad y = Bad
join_labels j (Frame l s) Unreached = Frame l s
join_labels j (Frame l s) Bad = Bad
join_labels j (Frame l s) (Frame m t) = if same_shape l s m t then Frame (join_words j l m) (join_words j s t) else Bad

abbrev pub words_height : {W : Type 0} → Lattice W → List W → ℕ
words_height w xs = sum_by w.height xs

-- a bad label is higher than every frame whose words' heights are within the bound
abbrev pub label_height : {W : Type 0} → Lattice W → (bound : ℕ) → Label W → ℕ
label_height w bound Unreached = 0
label_height w bound Bad = 2 + bound
label_height w bound (Frame l s) = 1 + (words_height w l + words_height w s)

abbrev pub fits_label : {W : Type 0} → Lattice W → (locals stack : ℕ) → Label W → Bool
fits_label w locals stack Unreached = true
fits_label w locals stack Bad = true
fits_label w locals stack (Frame l s) =
    (length l == locals) && (nat_le (length s) stack && (list_all w.fits l && list_all w.fits s))

-- the labels whose frames have so many local variables, and at most so many words on the stack
abbrev pub frames : {W : Type 0} → Lattice W → (locals stack : ℕ) → Lattice (Label W)
frames w locals stack = record {
  join = join_labels w.join;
  height = label_height w (w.most * (locals + stack));
  most = 2 + w.most * (locals + stack);
  fits = fits_label w locals stack;
}
