-- The methods of a set are over its table of names.
use Rattle.std.proofs.Common.{ℕ, List, [], ◌∷◌}
use Rattle.std.specs.Prelude.{All}
use Rattle.std.proofs.lemmas.List.Elements.{All-append, All-head, All-nil, All-tail}
use Rattle.fp_model.specs.declared.class.Class.{Class}
use Rattle.fp_model.specs.ClassSet.{methods_of, IsClassOver, IsMethodOver, IsSet, SetView}

all_over : (names : List (List ℕ)) (classes : List Class) → All (IsClassOver names) classes → All (IsMethodOver names) (methods_of classes)
all_over names [] over = All-nil (IsMethodOver names)
all_over names (c ∷ classes) over =
    All-append (IsMethodOver names) c.methods (methods_of classes)
    (All-head (IsClassOver names) c classes over).methods
    (all_over names classes (All-tail (IsClassOver names) c classes over))

pub methods_over : (set : SetView) → IsSet set → All (IsMethodOver set.names) (methods_of set.classes)
methods_over set is = all_over set.names set.classes is.over
