-- Which faults bytes from outside can have.
use Rattle.pc_base.specs.declared.value.BaseFault.{BaseFault}
use Rattle.pc_base.specs.declared.value.BaseFault.TheVariants as faults

-- A fault of a key, or want of memory.
abbrev pub IsKeyFault : BaseFault → Type 0
IsKeyFault faults.KeyLength = Unit {0}
IsKeyFault faults.KeyByte = Unit {0}
IsKeyFault faults.NoMemory = Unit {0}
IsKeyFault faults.ValueLength = ⊥
IsKeyFault faults.ValueByte = ⊥

-- A fault of a value, or want of memory.
abbrev pub IsValueFault : BaseFault → Type 0
IsValueFault faults.ValueLength = Unit {0}
IsValueFault faults.ValueByte = Unit {0}
IsValueFault faults.NoMemory = Unit {0}
IsValueFault faults.KeyLength = ⊥
IsValueFault faults.KeyByte = ⊥
