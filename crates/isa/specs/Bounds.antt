-- How many registers there are, and what a field of five bits stays under: a register beyond it is named with a prefix.
use Rattle.std.specs.Prelude.{ℕ, ◌^◌}

abbrev pub scalar_registers : ℕ
scalar_registers = 64

abbrev pub vector_registers : ℕ
vector_registers = 256

abbrev pub field_limit : ℕ
field_limit = 2 ^ 5
