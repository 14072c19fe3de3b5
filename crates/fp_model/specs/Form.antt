-- The opcodes: what stands behind each of them (JVMS SE 21 chapter 6).
use Rattle.std.specs.Prelude.{ℕ, ◌-◌, ◌/◌, ◌%◌, ◌==◌, ◌||◌, nat_lt, if◌then◌else◌}
use Rattle.fp_model.specs.declared.form.Form.{Form}
use Rattle.fp_model.specs.declared.form.Form.TheVariants as form

-- how many words a local has that is loaded or stored, by the types in the order of the opcodes: int, long, float,
-- double, reference
abbrev pub type_words : ℕ → ℕ
type_words type = if (type == 1) || (type == 3) then 2 else 1

-- the forms of a row of opcodes that name their local: locals 0 to 3 of each type
abbrev pub near : ℕ → Form
near n = form.Near (n % 4) (type_words (n / 4))

unfoldable pub form_of : ℕ → Form
form_of op =
    if nat_lt op 16 then form.Plain  -- nop, aconst_null, constants of one word or two
    else if op == 16 then form.Push 1  -- bipush
    else if op == 17 then form.Push 2  -- sipush
    else if op == 18 then form.ShortConstant  -- ldc
    else if op == 19 then form.Constant 1  -- ldc_w
    else if op == 20 then form.Constant 2  -- ldc2_w
    else if nat_lt op 26 then form.Local (type_words (op - 21))  -- iload to aload
    else if nat_lt op 46 then near (op - 26)  -- iload_0 to aload_3
    else if nat_lt op 54 then form.Plain  -- iaload to saload
    else if nat_lt op 59 then form.Local (type_words (op - 54))  -- istore to astore
    else if nat_lt op 79 then near (op - 59)  -- istore_0 to astore_3
    else if nat_lt op 132 then form.Plain  -- iastore to sastore, pop to swap, iadd to lxor
    else if op == 132 then form.Increment  -- iinc
    else if nat_lt op 153 then form.Plain  -- i2l to dcmpg
    else if nat_lt op 168 then form.Branch 2  -- ifeq to if_acmpne, goto
    else if nat_lt op 170 then form.Subroutine  -- jsr, ret
    else if op == 170 then form.TableSwitch
    else if op == 171 then form.LookupSwitch
    else if nat_lt op 178 then form.Plain  -- ireturn to return
    else if nat_lt op 182 then form.Refers 9 9  -- getstatic to putfield
    else if op == 182 then form.Refers 10 10  -- invokevirtual
    else if nat_lt op 185 then form.Refers 10 11  -- invokespecial, invokestatic
    else if op == 185 then form.InvokeInterface
    else if op == 186 then form.InvokeDynamic
    else if op == 187 then form.New
    else if op == 188 then form.NewArray
    else if op == 189 then form.Refers 7 7  -- anewarray
    else if nat_lt op 192 then form.Plain  -- arraylength, athrow
    else if nat_lt op 194 then form.Refers 7 7  -- checkcast, instanceof
    else if nat_lt op 196 then form.Plain  -- monitorenter, monitorexit
    else if op == 196 then form.Unknown  -- wide, which stands before an opcode
    else if op == 197 then form.MultiNewArray
    else if nat_lt op 200 then form.Branch 2  -- ifnull, ifnonnull
    else if op == 200 then form.Branch 4  -- goto_w
    else if op == 201 then form.Subroutine  -- jsr_w
    else form.Unknown
