-- Cases y3-1 to y3-14 of document 02, Slip 3: where a walk stands after 0, 1, .., 2K steps, as one table with one theorem about `column_walk`; then, computed, the steps that m9's column needs and the most steps of a remap.
-- Assumes nothing. Numbers that the documents do not give come from the second implementation (reference/cases/walk.txt).
use Rattle.std.specs.Prelude.{ℕ, suc, ◌*◌, ◌-◌, List, [], ◌∷◌, Bool, true, false, ◌≡◌, refl}
use Prim.Native.String.{String}
use Rattle.model.specs.Limits.{most_tracers, most_layer_cells, most_layers}
use Rattle.model.specs.Basic.{joined, tab}
use Rattle.model.specs.Scheme.{Rule, mismatch, plain}
use Rattle.model.specs.Walk.{Walk, column_walk, budget}
use Rattle.model.proofs.Cases.{same_list, list_eq, Every, every_case, computes}

-- A case: one tracer of a column, a table, and the states that its walk gives
pub record WalkCase : Type 0 where
  pub label : String
  pub cap : Bool
  pub K : ℕ
  pub table : List ℕ
  pub air : List ℕ
  pub gas : List ℕ
  pub states : List (List ℕ)

abbrev pub walked : String → Bool → ℕ → List ℕ → List ℕ → List ℕ → List (List ℕ) → WalkCase
walked label cap K table air gas states =
    record { label = label; cap = cap; K = K; table = table; air = air; gas = gas; states = states }

-- a state: layers passed, their air, their tracer, edges passed, mark
abbrev pub state : ℕ → ℕ → ℕ → ℕ → ℕ → List ℕ
state layers above amount edges mark = layers ∷ above ∷ amount ∷ edges ∷ mark ∷ []

abbrev pub state_of : Walk → List ℕ
state_of w = state w.layers w.above w.amount w.edges w.mark

-- all states that the walk gives, after 0, 1, .., 2K steps, in one list
abbrev pub states_of : WalkCase → List ℕ
states_of c =
    joined (tab (suc (budget c.K)) (λ s. state_of (column_walk mismatch c.cap c.K c.table c.air c.gas s)))

abbrev pub GivesStates : WalkCase → Type 0
GivesStates c = states_of c ≡ joined c.states

unfoldable pub walks_as_expected : WalkCase → Bool
walks_as_expected c = same_list (states_of c) (joined c.states)

states_given : (c : WalkCase) → walks_as_expected c ≡ true → GivesStates c
unfolding walks_as_expected
states_given c e = list_eq (states_of c) (joined c.states) e

pub walks : List WalkCase
walks =
    -- m9's column: edges 0 150 200 300
    walked "y3-1" false 3 (0 ∷ 0 ∷ 150 ∷ 0 ∷ 200 ∷ 0 ∷ 0 ∷ 65536 ∷ []) (100 ∷ 100 ∷ 100 ∷ []) (0 ∷ 100 ∷ 200 ∷ [])
    (state 0 0 0 0 0 ∷
    state 1 100 0 0 0 ∷
    state 1 100 0 1 37 ∷
    state 1 100 0 2 100 ∷
    state 2 200 100 2 100 ∷
    state 2 200 100 3 300 ∷
    state 2 200 100 3 300 ∷ []) ∷
    -- the same as a cap's column: D = 0
    walked "y3-2" true 3 (0 ∷ 0 ∷ 150 ∷ 0 ∷ 200 ∷ 0 ∷ 0 ∷ 65536 ∷ []) (100 ∷ 100 ∷ 100 ∷ []) (0 ∷ 100 ∷ 200 ∷ [])
    (state 0 0 0 0 0 ∷
    state 1 100 0 0 0 ∷
    state 1 100 0 1 50 ∷
    state 1 100 0 2 100 ∷
    state 2 200 100 2 100 ∷
    state 2 200 100 3 300 ∷
    state 2 200 100 3 300 ∷ []) ∷
    -- one layer
    walked "y3-3" false 1 (0 ∷ 0 ∷ 0 ∷ 65536 ∷ []) (70 ∷ []) (33 ∷ [])
    (state 0 0 0 0 0 ∷
    state 0 0 0 1 33 ∷
    state 0 0 0 1 33 ∷ []) ∷
    -- two layers, edge 1 by b: floor(16400 * 100 / 65536) = 25
    walked "y3-4" false 2 (0 ∷ 0 ∷ 0 ∷ 16400 ∷ 0 ∷ 65536 ∷ []) (60 ∷ 40 ∷ []) (31 ∷ 7 ∷ [])
    (state 0 0 0 0 0 ∷
    state 0 0 0 1 12 ∷
    state 1 60 31 1 12 ∷
    state 1 60 31 2 38 ∷
    state 1 60 31 2 38 ∷ []) ∷
    -- edges at all layers' ends: nothing moves
    walked "y3-5" false 4 (0 ∷ 0 ∷ 30 ∷ 0 ∷ 80 ∷ 0 ∷ 100 ∷ 0 ∷ 0 ∷ 65536 ∷ []) (30 ∷ 50 ∷ 20 ∷ 40 ∷ []) (5 ∷ 90 ∷ 0 ∷ 17 ∷ [])
    (state 0 0 0 0 0 ∷
    state 0 0 0 1 5 ∷
    state 1 30 5 1 5 ∷
    state 1 30 5 2 95 ∷
    state 2 80 95 2 95 ∷
    state 2 80 95 3 95 ∷
    state 3 100 95 3 95 ∷
    state 3 100 95 4 112 ∷
    state 3 100 95 4 112 ∷ []) ∷
    -- edges at layers' ends, at 50 and 130, and one between them
    walked "y3-6" false 4 (0 ∷ 0 ∷ 50 ∷ 0 ∷ 90 ∷ 0 ∷ 130 ∷ 0 ∷ 0 ∷ 65536 ∷ []) (50 ∷ 80 ∷ 60 ∷ 70 ∷ []) (20 ∷ 61 ∷ 140 ∷ 10 ∷ [])
    (state 0 0 0 0 0 ∷
    state 0 0 0 1 20 ∷
    state 1 50 20 1 20 ∷
    state 1 50 20 2 43 ∷
    state 1 50 20 3 81 ∷
    state 2 130 81 3 81 ∷
    state 3 190 221 3 81 ∷
    state 3 190 221 4 231 ∷
    state 3 190 221 4 231 ∷ []) ∷
    -- two edges in layer 1
    walked "y3-7" false 3 (0 ∷ 0 ∷ 70 ∷ 0 ∷ 110 ∷ 0 ∷ 0 ∷ 65536 ∷ []) (40 ∷ 120 ∷ 50 ∷ []) (80 ∷ 90 ∷ 10 ∷ [])
    (state 0 0 0 0 0 ∷
    state 1 40 80 0 0 ∷
    state 1 40 80 1 112 ∷
    state 1 40 80 2 145 ∷
    state 2 160 170 2 145 ∷
    state 2 160 170 3 180 ∷
    state 2 160 170 3 180 ∷ []) ∷
    -- three edges in layer 1, none in layer 2
    walked "y3-8" false 4 (0 ∷ 0 ∷ 60 ∷ 0 ∷ 120 ∷ 0 ∷ 201 ∷ 0 ∷ 0 ∷ 65536 ∷ []) (30 ∷ 200 ∷ 30 ∷ 40 ∷ []) (15 ∷ 301 ∷ 99 ∷ 4 ∷ [])
    (state 0 0 0 0 0 ∷
    state 1 30 15 0 0 ∷
    state 1 30 15 1 42 ∷
    state 1 30 15 2 115 ∷
    state 1 30 15 3 254 ∷
    state 2 230 316 3 254 ∷
    state 3 260 415 3 254 ∷
    state 3 260 415 4 419 ∷
    state 3 260 415 4 419 ∷ []) ∷
    -- layers 1 and 2 passed between edges 2 and 3
    walked "y3-9" false 4 (0 ∷ 0 ∷ 10 ∷ 0 ∷ 60 ∷ 0 ∷ 130 ∷ 0 ∷ 0 ∷ 65536 ∷ []) (50 ∷ 30 ∷ 20 ∷ 60 ∷ []) (5 ∷ 17 ∷ 36 ∷ 150 ∷ [])
    (state 0 0 0 0 0 ∷
    state 0 0 0 1 1 ∷
    state 1 50 5 1 1 ∷
    state 1 50 5 2 7 ∷
    state 2 80 22 2 7 ∷
    state 3 100 58 2 7 ∷
    state 3 100 58 3 133 ∷
    state 3 100 58 4 208 ∷
    state 3 100 58 4 208 ∷ []) ∷
    -- layers of one unit of air
    walked "y3-10" false 4 (0 ∷ 0 ∷ 30 ∷ 0 ∷ 62 ∷ 0 ∷ 63 ∷ 0 ∷ 0 ∷ 65536 ∷ []) (1 ∷ 60 ∷ 1 ∷ 38 ∷ []) (0 ∷ 40 ∷ 7 ∷ 20 ∷ [])
    (state 0 0 0 0 0 ∷
    state 1 1 0 0 0 ∷
    state 1 1 0 1 9 ∷
    state 2 61 40 1 9 ∷
    state 2 61 40 2 47 ∷
    state 3 62 47 2 47 ∷
    state 3 62 47 3 47 ∷
    state 3 62 47 4 67 ∷
    state 3 62 47 4 67 ∷ []) ∷
    -- thick layers, the largest total
    walked "y3-11" false 3 (0 ∷ 0 ∷ 40000 ∷ 0 ∷ 100000 ∷ 0 ∷ 0 ∷ 65536 ∷ []) (65535 ∷ 65535 ∷ 100 ∷ []) (208400000 ∷ 60000000 ∷ 35455 ∷ [])
    (state 0 0 0 0 0 ∷
    state 0 0 0 1 127199206 ∷
    state 1 65535 208400000 1 127199206 ∷
    state 1 65535 208400000 2 249120606 ∷
    state 2 131070 268400000 2 249120606 ∷
    state 2 131070 268400000 3 268435455 ∷
    state 2 131070 268400000 3 268435455 ∷ []) ∷
    -- six uneven layers: D > 0 in layer 1, 0 in layer 2, D < 0 in layers 3 and 4
    walked "y3-12" false 6 (0 ∷ 0 ∷ 100 ∷ 0 ∷ 130 ∷ 0 ∷ 290 ∷ 0 ∷ 390 ∷ 0 ∷ 445 ∷ 0 ∷ 0 ∷ 65536 ∷ []) (90 ∷ 70 ∷ 110 ∷ 45 ∷ 130 ∷ 85 ∷ []) (20 ∷ 40 ∷ 130 ∷ 30 ∷ 50 ∷ 5 ∷ [])
    (state 0 0 0 0 0 ∷
    state 1 90 20 0 0 ∷
    state 1 90 20 1 23 ∷
    state 1 90 20 2 38 ∷
    state 2 160 60 2 38 ∷
    state 3 270 190 2 38 ∷
    state 3 270 190 3 205 ∷
    state 4 315 220 3 205 ∷
    state 4 315 220 4 253 ∷
    state 4 315 220 5 270 ∷
    state 5 445 270 5 270 ∷
    state 5 445 270 6 275 ∷
    state 5 445 270 6 275 ∷ []) ∷
    -- layers without tracer
    walked "y3-13" false 5 (0 ∷ 0 ∷ 10 ∷ 0 ∷ 35 ∷ 0 ∷ 75 ∷ 0 ∷ 125 ∷ 0 ∷ 0 ∷ 65536 ∷ []) (20 ∷ 30 ∷ 40 ∷ 30 ∷ 50 ∷ []) (0 ∷ 0 ∷ 90 ∷ 0 ∷ 40 ∷ [])
    (state 0 0 0 0 0 ∷
    state 0 0 0 1 0 ∷
    state 1 20 0 1 0 ∷
    state 1 20 0 2 0 ∷
    state 2 50 0 2 0 ∷
    state 2 50 0 3 56 ∷
    state 3 90 90 3 56 ∷
    state 4 120 90 3 56 ∷
    state 4 120 90 4 94 ∷
    state 4 120 90 5 130 ∷
    state 4 120 90 5 130 ∷ []) ∷
    -- floors: pieces of 1 and of 2 units are 0 and 1, two pieces of 1 unit are 0
    walked "y3-14" false 3 (0 ∷ 0 ∷ 1 ∷ 0 ∷ 2 ∷ 0 ∷ 0 ∷ 65536 ∷ []) (3 ∷ 1 ∷ 1 ∷ []) (2 ∷ 5 ∷ 1 ∷ [])
    (state 0 0 0 0 0 ∷
    state 0 0 0 1 0 ∷
    state 0 0 0 2 1 ∷
    state 1 3 2 2 1 ∷
    state 2 4 7 2 1 ∷
    state 2 4 7 3 8 ∷
    state 2 4 7 3 8 ∷ []) ∷
    []

pub walk_cases_hold : Every GivesStates walks
unfolding walks walks_as_expected computes
walk_cases_hold = every_case (λ (c : WalkCase). c.label) walks_as_expected states_given walks refl

-- m9's column: where its walk stands after s steps
abbrev pub m9_walk : Rule → ℕ → Walk
m9_walk rule s =
    column_walk rule false 3 (0 ∷ 0 ∷ 150 ∷ 0 ∷ 200 ∷ 0 ∷ 0 ∷ 65536 ∷ []) (100 ∷ 100 ∷ 100 ∷ []) (0 ∷ 100 ∷ 200 ∷ []) s

-- after 2K − 2 steps the last edge, 3, is not reached, after 2K − 1 it is
pub m9_needs_five : (m9_walk mismatch (budget 3 - 2)).edges ∷ (m9_walk mismatch (budget 3 - 1)).edges ∷ [] ≡ 2 ∷ 3 ∷ []
unfolding computes
m9_needs_five = refl

-- by a rule of D = 0 it has the mark of the cap's column, y3-2
pub m9_by_another_rule : (m9_walk (λ qa q qb. plain) 2).mark ≡ 50
unfolding computes
m9_by_another_rule = refl

-- for all tracers and columns of the largest grid
pub steps_most : most_tracers * most_layer_cells * budget most_layers ≡ 1623040
steps_most = refl
