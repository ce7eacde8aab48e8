-- The greatest sizes in a grid that the program takes, each once.
use Rattle.std.specs.Prelude.{ℕ, ◌+◌, ◌≡◌, refl}
use Rattle.model.specs.Limits.{most_layers}
use Rattle.units.specs.declared.TheConstants.{MOST_EDGES, PROGRAM_AMOUNTS, PROGRAM_LEDGER, PROGRAM_FACES, PROGRAM_BODY}

-- the amounts of all tracers, 2,048 for each of two
abbrev pub program_amounts : ℕ
program_amounts = 4096

-- the numbers of the ledger, 56 for each of two tracers
abbrev pub program_ledger : ℕ
program_ledger = 118

-- the faces of a layer: 72 columns and a layer of 2,048 cells
abbrev pub program_faces : ℕ
program_faces = 2118

-- the bytes of the longest body, a load's: 4 for each of 2,048 cells' air and of 4,096 amounts
abbrev pub program_body : ℕ
program_body = 24576

-- the code's constants, of which arrays are made, are these sizes; a column has an edge more than layers
pub constants_are : (MOST_EDGES ≡ most_layers + 1) × (PROGRAM_AMOUNTS ≡ program_amounts) × (PROGRAM_LEDGER ≡ program_ledger) × (PROGRAM_FACES ≡ program_faces) × (PROGRAM_BODY ≡ program_body)
constants_are = (refl, refl, refl, refl, refl)
