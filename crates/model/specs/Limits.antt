-- The numbers that documents 01 and 02 name, and the greatest sizes that follow from them, each once. Laws use only the facts of them that they need.
use Rattle.std.specs.Prelude.{ℕ}

-- "W columns round the globe (4 to 72), R rows from south to north (1 to 44), K layers from the top down (1 to 32) and N tracers (1 to 8)"
abbrev pub most_columns : ℕ
most_columns = 72

abbrev pub most_rows : ℕ
most_rows = 44

abbrev pub most_layers : ℕ
most_layers = 32

abbrev pub most_tracers : ℕ
most_tracers = 8

-- the most cells and faces that a layer has, the most cells of a world, and the most amounts of all its tracers (laws in Laws/Grid)
abbrev pub most_layer_cells : ℕ
most_layer_cells = 3170

abbrev pub most_faces : ℕ
most_faces = 3240

abbrev pub most_cells : ℕ
most_cells = 101440

abbrev pub most_amounts : ℕ
most_amounts = 811520

-- (02) "262,144 wherever document 01 has 65,536 as the scale of the ratio, the mismatch and the piece"
abbrev pub scale : ℕ
scale = 262144

-- "edge j = a + floor(b·P / 65,536)"; (02) "The b of a table keeps its 65,536"
abbrev pub table_scale : ℕ
table_scale = 65536

-- "A cell holds M units of air (1 to 65,535)"; (02) "the air limit keeps 65,535"
abbrev pub air_limit : ℕ
air_limit = 65535

-- "A tracer's total over all cells is at most 268,435,455"
abbrev pub total_limit : ℕ
total_limit = 268435455

-- "size above 1,048,560 (zonal) or 65,535 (meridional)"
abbrev pub zonal_limit : ℕ
zonal_limit = 1048560

abbrev pub meridional_limit : ℕ
meridional_limit = 65535

-- "an a above 2,097,120"
abbrev pub table_limit : ℕ
table_limit = 2097120

-- "the smallest n from 1 to 16"
abbrev pub most_substeps : ℕ
most_substeps = 16

-- (02) "Keep up to 16 standing emitters for each tracer"
abbrev pub most_emitters : ℕ
most_emitters = 16

-- (02) "6 and 7 are also given when a sum would pass 4,294,967,295"
abbrev pub sum_limit : ℕ
sum_limit = 4294967295

-- the numbers of the ledger for each tracer: of its emitters three, and three for each (Emitters.antt), behind them five of its limiter (Limiters.antt), and three of its book (Books.antt)
abbrev pub emitter_numbers : ℕ
emitter_numbers = 51

abbrev pub numbers_before_book : ℕ
numbers_before_book = 56

abbrev pub block_numbers : ℕ
block_numbers = 59

-- "K·C above 2,048 or N above 2": the largest world that the runner program takes
abbrev pub program_cells : ℕ
program_cells = 2048

abbrev pub program_tracers : ℕ
program_tracers = 2
