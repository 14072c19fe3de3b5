-- The kinds that field descriptors say, in numbers of a table of names (JVMS SE 21 section 4.3.2).
use Rattle.std.specs.Prelude.{ℕ, ◌-◌, ◌==◌, List, [], ◌∷◌, length, take, drop, if◌then◌else◌}
use Rattle.fp_base.specs.Names.{number_of}
use Rattle.fp_model.specs.declared.kind.Kind.{Kind}
use Rattle.fp_model.specs.declared.kind.Kind.TheVariants as kind
use Rattle.fp_model.specs.declared.kind.Elem.{Elem}
use Rattle.fp_model.specs.declared.kind.Elem.TheVariants as elem
use Rattle.fp_model.specs.Descriptor.{dimensions}

-- the type of an element that a text says, over a table that has the name in it
abbrev pub element_in : List (List ℕ) → List ℕ → Elem
element_in names [] = elem.Prim 0
element_in names (c ∷ rest) = if c == 76 then elem.Class (number_of names (take (length rest - 1) rest)) else elem.Prim c

-- the kind of a type that is no array
abbrev pub kind_of_element : Elem → Kind
kind_of_element (elem.Class name) = kind.Class name
kind_of_element (elem.Prim letter) =
    if letter == 74 then kind.Long
    else if letter == 70 then kind.Float
    else if letter == 68 then kind.Double
    else kind.Int letter

-- the kind that a field descriptor says
abbrev pub kind_in : List (List ℕ) → List ℕ → Kind
kind_in names text =
    if dimensions text == 0 then kind_of_element (element_in names text)
    else kind.Array (dimensions text) (element_in names (drop (dimensions text) text))
