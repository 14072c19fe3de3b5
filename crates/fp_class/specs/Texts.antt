-- What is known of the texts of a constant pool, by index.
use Rattle.std.specs.Prelude.{◌≡◌, ℕ, List, map, Option, Some, option_and_then}
use Rattle.fp_model.specs.declared.raw.pool.Entry.{Entry}
use Rattle.fp_model.specs.Descriptor.{parameter_words}
use Rattle.fp_model.specs.Entries.{text_at, text_in}
use Rattle.fp_class.specs.declared.texts.Texts.{Texts}
use Rattle.fp_class.specs.Descriptors.{descriptor_marks}
use Rattle.fp_class.specs.Keys.{IsNumbering}

-- the words of the parameters of an entry, where it is the text of a method descriptor
abbrev pub words_in : Entry → Option ℕ
words_in e = option_and_then parameter_words (text_in (Some e))

-- the same for the text at an index
abbrev pub words_at : List Entry → ℕ → Option ℕ
words_at entries index = option_and_then parameter_words (text_at entries index)

-- what is known is true
pub record IsTexts (entries : List Entry) (texts : Texts) : Type 0 where
  pub numbers : IsNumbering entries texts.numbers.items
  pub fields : texts.fields.items ≡ descriptor_marks entries
  pub words : texts.words.items ≡ map words_in entries
