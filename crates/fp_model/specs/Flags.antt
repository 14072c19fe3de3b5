-- Access flags (JVMS SE 21 tables 4.1-B, 4.5-A and 4.6-A).
use Rattle.std.specs.Prelude.{ℕ, ◌==◌, Bool, not, bit_and}

-- ACC_PRIVATE
abbrev pub is_private : ℕ → Bool
is_private flags = not (bit_and flags 0x0002 == 0)

-- ACC_STATIC
abbrev pub is_static : ℕ → Bool
is_static flags = not (bit_and flags 0x0008 == 0)

-- ACC_NATIVE
abbrev pub is_native : ℕ → Bool
is_native flags = not (bit_and flags 0x0100 == 0)

-- ACC_NATIVE or ACC_ABSTRACT
abbrev pub lacks_code : ℕ → Bool
lacks_code flags = not (bit_and flags 0x0500 == 0)

-- ACC_INTERFACE
abbrev pub is_interface : ℕ → Bool
is_interface flags = not (bit_and flags 0x0200 == 0)

-- neither ACC_INTERFACE nor ACC_ABSTRACT
abbrev pub is_concrete : ℕ → Bool
is_concrete flags = bit_and flags 0x0600 == 0

-- ACC_MODULE
abbrev pub is_module : ℕ → Bool
is_module flags = not (bit_and flags 0x8000 == 0)
