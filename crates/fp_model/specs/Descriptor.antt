-- Descriptors (JVMS SE 21 section 4.3), as texts and as what they say.
use Rattle.std.specs.Prelude.{◌≡◌, ℕ, zero, suc, ◌+◌, ◌-◌, ◌<◌, ◌≤◌, nat_le, nat_lt, ◌==◌, Bool, true, false, ◌&&◌, ◌||◌, not, List, [], ◌∷◌, ◌++◌, length, take, drop, replicate, codes, slice_get, slice_index, unwrap_or, Option, Some, None, IsTrue, IfSome, if◌then◌else◌}
use Rattle.std.specs.List.{list_all, list_any, take_while, flat_map}
use Rattle.std.specs.Str.{bytes_eq}
use Rattle.fp_model.specs.declared.kind.Kind.{Kind}
use Rattle.fp_model.specs.declared.kind.Kind.TheVariants as kind
use Rattle.fp_model.specs.declared.kind.Elem.{Elem}
use Rattle.fp_model.specs.declared.kind.Elem.TheVariants as elem
use Rattle.fp_model.specs.declared.kind.Descr.{Descr}
use Rattle.fp_model.specs.declared.descriptor.fault.DescrFault.{DescrFault}
use Rattle.fp_model.specs.declared.descriptor.fault.DescrFault.TheVariants as fault
use Rattle.fp_base.specs.Names.{has_name}
use Rattle.fp_base.specs.declared.names.NameFault.{NameFault}
use Rattle.fp_base.specs.declared.names.NameFault.TheVariants as name_fault

-- the byte is one of a text's
abbrev pub is_among : List ℕ → ℕ → Bool
is_among text byte = list_any (λ c. c == byte) text

-- a byte that a class name in a descriptor may have: any but '.', ';' and '['
abbrev pub is_name_byte : ℕ → Bool
is_name_byte byte = not (is_among (codes ".;[") byte)

-- one or more bytes of a name, and a ';'
abbrev pub is_ended_name : List ℕ → Bool
is_ended_name text = nat_lt 1 (length text) && ((slice_index text (length text - 1) == 59) && list_all is_name_byte (take (length text - 1) text))

-- 'L', a name and a ';', or the letter of a primitive type
abbrev pub is_element : List ℕ → Bool
is_element [] = false
is_element (c ∷ rest) = if c == 76 then is_ended_name rest else (is_among (codes "BCDFIJSZ") c && (length rest == 0))

-- how many '[' a text begins with
abbrev pub dimensions : List ℕ → ℕ
dimensions text = length (take_while (λ c. c == 91) text)

-- a field descriptor: at most 255 '[', and the type of an element
abbrev pub is_field_descriptor : List ℕ → Bool
is_field_descriptor text = nat_le (dimensions text) 255 && is_element (drop (dimensions text) text)

-- a text that passes the test begins like this
abbrev pub GoesOn : (List ℕ → Bool) → List ℕ → Type 0
GoesOn test front = (rest : List ℕ) × IsTrue (test (front ++ rest))

-- the first place in a text where no text that passes the test goes on
pub record StopsAt (test : List ℕ → Bool) (text : List ℕ) (at : ℕ) : Type 0 where
  pub within : at ≤ length text
  pub before : GoesOn test (take at text)
  pub after : at < length text → ¬ GoesOn test (take (at + 1) text)
  pub whole : at ≡ length text → test text ≡ false

-- the first byte where no field descriptor goes on, or the text's length
abbrev pub IsBadAt : List ℕ → ℕ → Type 0
IsBadAt = StopsAt is_field_descriptor

-- why no descriptor was read, where a name in it was not taken
abbrev pub fault_of : NameFault → DescrFault
fault_of name_fault.Full = fault.Full
fault_of name_fault.Memory = fault.Memory

-- the fault tells that place
abbrev pub TellsPlace : List ℕ → DescrFault → Type 0
TellsPlace text (fault.Bad at) = IsBadAt text at
TellsPlace text _ = ⊥

-- the same of texts that pass another test
abbrev pub TellsPlaceOf : (List ℕ → Bool) → List ℕ → DescrFault → Type 0
TellsPlaceOf test text (fault.Bad at) = StopsAt test text at
TellsPlaceOf test text _ = ⊥

-- the text begins like an array type
abbrev pub is_array_like : List ℕ → Bool
is_array_like text = nat_lt 0 (dimensions text)

-- what a class entry may name (section 4.4.1): an array type by its descriptor, or any other text
abbrev pub is_class_text : List ℕ → Bool
is_class_text text = not (is_array_like text) || is_field_descriptor text

-- how many bytes the type of an array's elements takes at the front of a text: 'L', a name and ';', or one letter
abbrev pub element_len : List ℕ → ℕ
element_len [] = 1
element_len (c ∷ rest) = if c == 76 then length (take_while is_name_byte rest) + 2 else 1

-- how many bytes a field descriptor takes at the front of a text
abbrev pub field_len : List ℕ → ℕ
field_len text = dimensions text + element_len (drop (dimensions text) text)

-- the field descriptor at the front of a text, where it begins with one
abbrev pub first_field : List ℕ → List ℕ
first_field text = take (field_len text) text

-- a result: a field descriptor, or 'V' (section 4.3.3)
abbrev pub is_result : List ℕ → Bool
is_result text = is_field_descriptor text || bytes_eq text (codes "V")

-- behind so many bytes there are field descriptors, a ')' and a result
unfoldable pub closes_behind : ℕ → List ℕ → Bool
closes_behind passed [] = false
closes_behind (suc passed) (c ∷ rest) = closes_behind passed rest
closes_behind zero (c ∷ rest) = if c == 41 then is_result rest else (is_field_descriptor (first_field (c ∷ rest)) && closes_behind (field_len (c ∷ rest) - 1) rest)

-- a method descriptor: '(', field descriptors, ')', and a result
abbrev pub is_method_descriptor : List ℕ → Bool
is_method_descriptor text = (slice_index text 0 == 40) && closes_behind 1 text

-- the field descriptors behind so many bytes, up to the ')'
unfoldable pub fields_behind : ℕ → List ℕ → List (List ℕ)
fields_behind passed [] = []
fields_behind (suc passed) (c ∷ rest) = fields_behind passed rest
fields_behind zero (c ∷ rest) = if c == 41 then [] else first_field (c ∷ rest) ∷ fields_behind (field_len (c ∷ rest) - 1) rest

-- the descriptors of a method's parameters
abbrev pub parameters : List ℕ → List (List ℕ)
parameters text = fields_behind 1 text

-- the words of a frame that a value takes, by its field descriptor: two for a long or a double (section 2.6.1)
abbrev pub words_of : List ℕ → ℕ
words_of text = if is_among (codes "DJ") (slice_index text 0) then 2 else 1

-- the words that all of these take
unfoldable pub words_of_all : List (List ℕ) → ℕ
words_of_all [] = 0
words_of_all (text ∷ texts) = words_of text + words_of_all texts

-- the words of a method's parameters, where the text is a method descriptor
abbrev pub parameter_words : List ℕ → Option ℕ
parameter_words text = if is_method_descriptor text then Some (words_of_all (parameters text)) else None

-- the text of a number of a table of names
abbrev pub text_of : List (List ℕ) → ℕ → List ℕ
text_of names n = unwrap_or (slice_get names n) []

-- the text of an element's type
abbrev pub element_text : List (List ℕ) → Elem → List ℕ
element_text names (elem.Prim letter) = letter ∷ []
element_text names (elem.Class name) = 76 ∷ (text_of names name ++ (59 ∷ []))

-- the field descriptor that says a kind
abbrev pub kind_text : List (List ℕ) → Kind → List ℕ
kind_text names (kind.Int letter) = letter ∷ []
kind_text names kind.Long = codes "J"
kind_text names kind.Float = codes "F"
kind_text names kind.Double = codes "D"
kind_text names (kind.Class name) = element_text names (elem.Class name)
kind_text names (kind.Array dims element) = replicate dims 91 ++ element_text names element

-- a kind by its proper variant: an int by one of its letters, an array with a dimension
abbrev pub is_proper : Kind → Bool
is_proper (kind.Int letter) = is_among (codes "BCISZ") letter
is_proper (kind.Array dims element) = nat_lt 0 dims
is_proper _ = true

-- a kind over a table of names
abbrev pub is_kind : List (List ℕ) → Kind → Bool
is_kind names k = is_proper k && is_field_descriptor (kind_text names k)

-- the class names in the type of an element: the bytes between 'L' and ';', where it is a class type
abbrev pub element_names : List ℕ → List (List ℕ)
element_names [] = []
element_names (c ∷ rest) = if c == 76 then take (length rest - 1) rest ∷ [] else []

-- the class names in a field descriptor
abbrev pub kind_names : List ℕ → List (List ℕ)
kind_names text = element_names (drop (dimensions text) text)

-- the table holds as many names as it may, and lacks one of these
abbrev pub LacksRoom : List (List ℕ) → List (List ℕ) → Type 0
LacksRoom names texts = (length names ≡ 16777216) × IsTrue (list_any (λ text. not (has_name names text)) texts)

-- the kind is what a field descriptor says
pub record IsKindOf (names : List (List ℕ)) (text : List ℕ) (k : Kind) : Type 0 where
  pub written : kind_text names k ≡ text
  pub kind : IsTrue (is_kind names k)

-- a text says at most one kind
abbrev pub SaysOneKind : List (List ℕ) → List ℕ → Type 0
SaysOneKind names text = (a b : Kind) → IsKindOf names text a → IsKindOf names text b → a ≡ b

-- the text of a method's result
abbrev pub result_text : List (List ℕ) → Option Kind → List ℕ
result_text names None = codes "V"
result_text names (Some k) = kind_text names k

-- the method descriptor that says the kinds of parameters and result (section 4.3.3)
abbrev pub descr_text : List (List ℕ) → Descr → List ℕ
descr_text names d = 40 ∷ (flat_map (kind_text names) d.args ++ (41 ∷ result_text names d.result))

-- the kinds are what a method descriptor says
pub record IsDescrOf (names : List (List ℕ)) (text : List ℕ) (d : Descr) : Type 0 where
  pub written : descr_text names d ≡ text
  pub args : IsTrue (list_all (is_kind names) d.args)
  pub result : IfSome d.result (λ k. IsTrue (is_kind names k))

-- the place is that of the ')': before it there are a '(' and the parameters, and behind it there is a result
pub record IsParametersEnd (text : List ℕ) (end : ℕ) : Type 0 where
  pub within : end < length text
  pub front : take end text ≡ 40 ∷ flat_map (λ field. field) (parameters text)
  pub closing : slice_index text end ≡ 41
  pub result : is_result (drop (end + 1) text) ≡ true

-- the text of a method's result
abbrev pub result_of : List ℕ → List ℕ
result_of text = drop (length (flat_map (λ field. field) (parameters text)) + 2) text

-- the class names in a method descriptor
abbrev pub descr_names : List ℕ → List (List ℕ)
descr_names text = flat_map kind_names (parameters text) ++ kind_names (result_of text)

-- the kind of a result, none for 'V', is what its text says
pub record IsResultOf (names : List (List ℕ)) (text : List ℕ) (k : Option Kind) : Type 0 where
  pub written : result_text names k ≡ text
  pub kind : IfSome k (λ k. IsTrue (is_kind names k))

-- the grammar of method descriptors: '(', the field descriptors of the parameters, ')', and a result
pub record IsMethodOf (text : List ℕ) (fields : List (List ℕ)) (last : List ℕ) : Type 0 where
  pub written : text ≡ 40 ∷ (flat_map (λ field. field) fields ++ (41 ∷ last))
  pub all_fields : IsTrue (list_all is_field_descriptor fields)
  pub passes : IsTrue (is_result last)

-- what the parts of a method descriptor are, where it has these
pub record TellsParts (text : List ℕ) (fields : List (List ℕ)) (last : List ℕ) : Type 0 where
  pub passes : is_method_descriptor text ≡ true
  pub fields_are : parameters text ≡ fields
  pub result_is : result_of text ≡ last
