-- The methods of a class file with their code (JVMS SE 21 sections 4.6 and 4.7.3).
use Rattle.std.specs.Prelude.{List, [], ◌∷◌, Option, Some, None}
use Rattle.fp_model.specs.declared.raw.attribute.RawAttr.{RawAttr}
use Rattle.fp_model.specs.declared.raw.attribute.RawBody.{RawBody}
use Rattle.fp_model.specs.declared.raw.attribute.RawBody.TheVariants as body
use Rattle.fp_model.specs.declared.raw.attribute.RawCode.{RawCode}

-- the code that an attribute holds, or that of others
abbrev pub code_or : RawBody → Option RawCode → Option RawCode
code_or (body.Code code) others = Some code
code_or _ others = others

-- the code that a method has among its attributes, none where it has none
abbrev pub code_of : List RawAttr → Option RawCode
code_of [] = None
code_of (attr ∷ attributes) = code_or attr.body (code_of attributes)
