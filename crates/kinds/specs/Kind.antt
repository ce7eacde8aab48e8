-- The code's kinds as the model's.
use Rattle.std.specs.Prelude.{ℕ, ◌≡◌, Option, None, Some, Result, Ok, Err}
use Rattle.program.specs.Records as program
use Rattle.stages.specs.declared.Fault.{Fault}
use Rattle.stages.specs.declared.Fault.TheVariants as fault
use Rattle.kinds.specs.declared.Kind as code
use Rattle.kinds.specs.declared.Kind.TheVariants.{Grid, Load, Emission, Withdrawal, Zonal, Meridional, Remap, Total, Cell}

abbrev pub kind_is : code.Kind → program.Kind
kind_is Grid = program.grid_kind
kind_is Load = program.load_kind
kind_is Emission = program.emission_kind
kind_is Withdrawal = program.withdrawal_kind
kind_is Zonal = program.zonal_kind
kind_is Meridional = program.meridional_kind
kind_is Remap = program.remap_kind
kind_is Total = program.total_kind
kind_is Cell = program.cell_kind

-- .. with none for a record of no kind
abbrev pub known_or_not : Option code.Kind → program.Kind
known_or_not None = program.unknown
known_or_not (Some k) = kind_is k

-- what a byte names: a kind, or none, which is a fault of the kind
abbrev pub Names : ℕ → Result code.Kind Fault → Type 0
Names byte (Ok k) = kind_is k ≡ program.kind_of byte
Names byte (Err f) = (program.unknown ≡ program.kind_of byte) × (f ≡ fault.Kind)
