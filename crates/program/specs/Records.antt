-- Document 01, "The runner program": a record of its input, what the reader finds in it, and what comes of it.
-- Total: nothing is assumed of the state or of the bytes. Everything that a call does is `step`'s.
use Rattle.std.specs.Prelude.{ℕ, zero, suc, ◌+◌, ◌*◌, List, [], ◌∷◌, Bool, true, false, not, ◌||◌, leb, ltb, length, get_or}
use Rattle.model.specs.Limits.{block_numbers, program_cells, program_tracers}
use Rattle.model.specs.Basic.{at, zeros}
use Rattle.model.specs.World.{Grid, World, world_cells}
use Rattle.model.specs.Step.{Call, load, emission, withdrawal, zonal, meridional, remap, total, cell, grid_fits, step}
use Rattle.model.specs.Lists.{loaded_world}
use Rattle.program.specs.Bytes.{number_at, numbers_at, fluxes_at}

-- The kinds, "1 grid" to "9 cell"
pub data Kind : Type 0 where
  unknown : Kind
  grid_kind : Kind
  load_kind : Kind
  emission_kind : Kind
  withdrawal_kind : Kind
  zonal_kind : Kind
  meridional_kind : Kind
  remap_kind : Kind
  total_kind : Kind
  cell_kind : Kind

abbrev pub kinds : List Kind
kinds =
    unknown ∷ grid_kind ∷ load_kind ∷ emission_kind ∷ withdrawal_kind ∷ zonal_kind ∷ meridional_kind ∷ remap_kind ∷
    total_kind ∷ cell_kind ∷ []

abbrev pub kind_of : ℕ → Kind
kind_of byte = get_or kinds byte unknown

-- What the records so far have set up: nothing, a grid, a world
pub data State : Type 0 where
  start : State
  gridded : Grid → State
  loaded : World → State

-- the world that counts as loaded; one without cells before a load, in a grid of no cells before a grid
abbrev pub world_of : State → World
world_of start = record { grid = record { W = 0; R = 0; K = 0; N = 0 }; air = []; tracers = []; ledger = [] }
world_of (gridded g) = record { grid = g; air = []; tracers = []; ledger = [] }
world_of (loaded w) = w

abbrev pub grid_of : State → Grid
grid_of s = (world_of s).grid

abbrev pub is_start : State → Bool
is_start start = true
is_start (gridded g) = false
is_start (loaded w) = false

abbrev pub is_loaded : State → Bool
is_loaded start = false
is_loaded (gridded g) = false
is_loaded (loaded w) = true

-- 13: "unknown kind, or record out of place". "Kind 1 comes first and once; 3 to 9 need an accepted load before them."
abbrev pub in_place : State → Kind → Bool
in_place s unknown = false
in_place s grid_kind = is_start s
in_place s load_kind = not (is_start s)
in_place s emission_kind = is_loaded s
in_place s withdrawal_kind = is_loaded s
in_place s zonal_kind = is_loaded s
in_place s meridional_kind = is_loaded s
in_place s remap_kind = is_loaded s
in_place s total_kind = is_loaded s
in_place s cell_kind = is_loaded s

-- "a body whose length the kind and the grid fix", in bytes
abbrev pub body_length : Grid → Kind → ℕ
body_length g unknown = 0
body_length g grid_kind = 4
body_length g load_kind = 4 * (world_cells g + g.N * world_cells g)
body_length g emission_kind = 7
body_length g withdrawal_kind = 7
body_length g zonal_kind = 2 + 4 * g.W
body_length g meridional_kind = 1 + 4 * (g.W * (g.R + 1))
body_length g remap_kind = 4 * (2 * (g.K + 1))
body_length g total_kind = 1
body_length g cell_kind = 3

-- What a record with its whole body asks for: a grid, a load, or a call in the loaded world
pub data Command : Type 0 where
  set_grid : Grid → Command
  set_world : World → Command
  make : Call → Command

-- "1 grid: W, R, K, N, a byte each. 2 load: all air, then all tracers, 4 bytes each. 3 emission and 4 withdrawal: tracer 1 byte, cell over all layers 2 bytes, amount 4.
-- 5 zonal: layer 1, row 1, fluxes 4 each. 6 meridional: layer 1, fluxes. 7 remap: pairs a, b, 4 each. 8 total: tracer 1. 9 cell: tracer 1, cell 2." No record holds emitters: the ledger is the program's own, and none stands. An unknown kind is never in place, so its line is not reached.
abbrev pub command_of : Grid → Kind → List ℕ → Command
command_of g unknown body = make (total 0)
command_of g grid_kind body = set_grid (record { W = at body 0; R = at body 1; K = at body 2; N = at body 3 })
command_of g load_kind body =
    set_world
    (record {
      grid = g;
      air = numbers_at body 0 (world_cells g);
      tracers = numbers_at body (4 * world_cells g) (g.N * world_cells g);
      ledger = zeros (g.N * block_numbers);
    })
command_of g emission_kind body = make (emission (at body 0) (number_at body 1 2) (number_at body 3 4))
command_of g withdrawal_kind body = make (withdrawal (at body 0) (number_at body 1 2) (number_at body 3 4))
command_of g zonal_kind body = make (zonal (at body 0) (at body 1) (fluxes_at body 2 g.W))
command_of g meridional_kind body = make (meridional (at body 0) (fluxes_at body 1 (g.W * (g.R + 1))))
command_of g remap_kind body = make (remap (numbers_at body 0 (2 * (g.K + 1))))
command_of g total_kind body = make (total (at body 0))
command_of g cell_kind body = make (cell (at body 0) (number_at body 1 2))

-- What the reader finds: no byte, a refusal of the program's own, or a command
pub data Finding : Type 0 where
  nothing : Finding
  fault : ℕ → Finding
  command : Command → Finding

-- "Kind is tested before length, length before the call's own places". 14: "input ends inside a record"
unfoldable pub found : State → List ℕ → Finding
found s [] = nothing
found s (byte ∷ body) =
    elim (in_place s (kind_of byte)) [
      | false ↦ fault 13
      | true ↦ elim (leb (body_length (grid_of s) (kind_of byte)) (length body)) [
        | false ↦ fault 14
        | true ↦ command (command_of (grid_of s) (kind_of byte) body)
      ]
    ]

-- The bytes of a body that a kind needs: none where 13 follows
abbrev pub needed : State → ℕ → ℕ
needed s byte = elim (in_place s (kind_of byte)) [ true ↦ body_length (grid_of s) (kind_of byte) | false ↦ 0 ]

-- "Each record prints one line: kind, answer (0 if accepted), count"
pub record Line : Type 0 where
  pub kind : ℕ
  pub answer : ℕ
  pub count : ℕ

abbrev pub line : ℕ → ℕ → ℕ → Line
line kind answer count = record { kind = kind; answer = answer; count = count }

-- What comes of a record: nothing, a line and the next state, or the program's last line
pub data Outcome : Type 0 where
  none : Outcome
  onward : Line → State → Outcome
  last : Line → Outcome

-- 15: "K·C above 2,048 or N above 2"
abbrev pub too_large : Grid → Bool
too_large g = ltb program_cells (world_cells g) || ltb program_tracers g.N

-- the refusal of a grid, 0 where it is accepted: "15 after 1"
abbrev pub grid_refusal : Grid → ℕ
grid_refusal g = elim (grid_fits g) [ false ↦ 1 | true ↦ elim (too_large g) [ true ↦ 15 | false ↦ 0 ] ]

-- the state after a load: "After a refused load nothing counts as loaded"
abbrev pub after_load : World → State
after_load w = elim (step w load).answer [ zero ↦ loaded (loaded_world w) | suc n ↦ gridded w.grid ]

-- "The program ends after 13, 14, 15 or a refused kind 1."
unfoldable pub carried_out : State → ℕ → Command → Outcome
carried_out s byte (set_grid g) =
    elim (grid_refusal g) [ zero ↦ onward (line byte 0 0) (gridded g) | suc n ↦ last (line byte (suc n) 0) ]
carried_out s byte (set_world w) =
    onward (line byte (step w load).answer (step w load).count) (after_load w)
carried_out s byte (make call) =
    onward (line byte (step (world_of s) call).answer (step (world_of s) call).count)
    (loaded (step (world_of s) call).next)

-- what comes of the record whose kind is `byte`, of what the reader found in it
unfoldable pub outcome_of : State → ℕ → Finding → Outcome
outcome_of s byte nothing = none
outcome_of s byte (fault number) = last (line byte number 0)
outcome_of s byte (command c) = carried_out s byte c
