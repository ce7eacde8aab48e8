-- Laws of stages and of the grids that the program takes.
use Rattle.std.specs.Prelude.{ℕ, zero, suc, ◌+◌, ◌*◌, ◌≤◌, ◌<◌, Bool, true, false, ◌≡◌, refl, ltb}
use Rattle.std.proofs.Common.{sym, ap, subst, arith, mul-le-mul, le_refl, ltb-true, ltb-false, le-ltb, lt-ltb}
use Rattle.model.specs.Limits.{most_columns, most_rows, block_numbers, program_cells, program_tracers}
use Rattle.model.specs.World as model
use Rattle.model.specs.Step.{grid_fits}
use Rattle.units.specs.declared.Grid as declared
use Rattle.units.specs.Grid.{grid_of, in_range_lem}
use Rattle.program.specs.Records as program
use Rattle.stages.specs.Limits.{program_amounts, program_ledger, program_faces}
use Rattle.stages.specs.Buffers.{Buffers}
use Rattle.stages.specs.declared.Stage.{Stage}
use Rattle.stages.specs.declared.Stage.TheVariants.{Start, Gridded, Loaded}
use Rattle.stages.specs.Stage.{plain_state, stage_refusal, state_of, grid_of_stage, IsSettled, SmallGrid}

-- ---- the refusal of a grid, place by place
module _ (g : model.Grid) where
  pub refused_range : grid_fits g ≡ false → program.grid_refusal g ≡ 1
  refused_range e = rw (e, program.grid_refusal)

  pub refused_cells : grid_fits g ≡ true → program_cells < model.world_cells g → program.grid_refusal g ≡ 15
  refused_cells e h = rw (e, program.grid_refusal, lt-ltb program_cells (model.world_cells g) h)

  pub refused_tracers : grid_fits g ≡ true → model.world_cells g ≤ program_cells → program_tracers < g.N → program.grid_refusal g ≡ 15
  refused_tracers e h k = rw (e, program.grid_refusal, le-ltb program_cells (model.world_cells g) h, lt-ltb program_tracers g.N k)

  pub taken_grid : grid_fits g ≡ true → model.world_cells g ≤ program_cells → g.N ≤ program_tracers → program.grid_refusal g ≡ 0
  taken_grid e h k = rw (e, program.grid_refusal, le-ltb program_cells (model.world_cells g) h, le-ltb program_tracers g.N k)

-- ---- a settled stage
pub plain_state_lem : (r : Stage) → stage_refusal r ≡ 0 → (b : Buffers) → state_of r b ≡ plain_state r b
plain_state_lem r taken b = rw (taken, state_of)

pub settled_same : (stage r : Stage) → stage ≡ r → stage_refusal r ≡ 0 → IsSettled stage r
settled_same stage r e taken = record { same = λ b. rw e (plain_state_lem r taken b); taken = taken }

pub settled_back : (stage : Stage) (n : ℕ) → stage_refusal stage ≡ n → (n ≡ 0 → ⊥) → IsSettled stage Start
settled_back stage zero e nonzero = absurd (nonzero refl)
settled_back stage (suc n) e nonzero = record { same = λ b. rw (e, state_of); taken = refl }

-- ---- the products in the lengths of a small grid's bodies
module _ (g : declared.Grid) (small : SmallGrid g) where
  pub row_cells : g.r * g.w ≤ most_rows * most_columns
  row_cells = mul-le-mul {n₂ = most_rows} {m₂ = most_columns} small.high_r small.high_w

  pub tracer_cells : (cells : ℕ) → cells ≤ program_cells → g.n * cells ≤ program_amounts
  tracer_cells cells few = mul-le-mul {n₂ = program_tracers} {m₂ = program_cells} small.high_n few

  pub tracer_blocks : g.n * block_numbers ≤ program_ledger
  tracer_blocks = omega (arith, small.high_n)

  -- the faces of a layer are its rows' cells and one row more
  pub layer_faces : g.w * (g.r + 1) ≡ g.r * g.w + g.w
  layer_faces = omega arith

  -- .. at most 2,118 of them, where there is a layer
  pub few_faces : 1 ≤ g.k → g.w * (g.r + 1) ≤ program_faces
  few_faces h = omega (arith, layer_faces, small.cells, small.high_w, mul-le-mul {n₁ = 1} h (le_refl (2 + g.r * g.w)))

-- ---- a grid that the program takes
pub record Takes (g : model.Grid) : Type 0 where
  pub fits : grid_fits g ≡ true
  pub cells : model.world_cells g ≤ program_cells
  pub tracers : g.N ≤ program_tracers

pub takes : (g : model.Grid) → program.grid_refusal g ≡ 0 → Takes g
takes g e = go (grid_fits g) (ltb program_cells (model.world_cells g)) (ltb program_tracers g.N) refl refl refl
  where
    go : (a b d : Bool) → grid_fits g ≡ a → ltb program_cells (model.world_cells g) ≡ b → ltb program_tracers g.N ≡ d → Takes g
    go false b d p q r = absurd (omega (arith, refused_range g p))
    go true true d p q r = absurd (omega (arith, refused_cells g p (ltb-true _ _ q)))
    go true false true p q r = absurd (omega (arith, refused_tracers g p (ltb-false _ _ q) (ltb-true _ _ r)))
    go true false false p q r = record { fits = p; cells = ltb-false _ _ q; tracers = ltb-false _ _ r }

pub taken_small : (g : declared.Grid) → program.grid_refusal (grid_of g) ≡ 0 → SmallGrid g
taken_small g e =
    let t = takes (grid_of g) e in
    let range = in_range_lem g t.fits in
    record { high_w = range.high_w; high_r = range.high_r; high_k = range.high_k; high_n = t.tracers; cells = t.cells }

same_small : (g h : declared.Grid) → grid_of g ≡ grid_of h → SmallGrid h → SmallGrid g
same_small g h e small =
    record {
      high_w = rw (ap (λ (x : model.Grid). x.W) e) small.high_w;
      high_r = rw (ap (λ (x : model.Grid). x.R) e) small.high_r;
      high_k = rw (ap (λ (x : model.Grid). x.K) e) small.high_k;
      high_n = rw (ap (λ (x : model.Grid). x.N) e) small.high_n;
      cells = subst (λ (x : model.Grid). model.world_cells x ≤ program_cells) (sym e) small.cells;
    }

pub stage_small : (stage : Stage) (g : declared.Grid) → grid_of g ≡ grid_of_stage stage → stage_refusal stage ≡ 0 → SmallGrid g
stage_small Start g e taken = same_small g (record { w = 0; r = 0; k = 0; n = 0 }) e (record { high_w = omega arith; high_r = omega arith; high_k = omega arith; high_n = omega arith; cells = omega arith })
stage_small (Gridded h) g e taken = same_small g h e (taken_small h taken)
stage_small (Loaded h) g e taken = same_small g h e (taken_small h taken)

-- ---- the grid of a stage, whatever the buffers hold
module _ (r : Stage) (b : Buffers) where
  pub grid_any : program.grid_of (plain_state r b) ≡ grid_of_stage r
  grid_any = go r
    where
      go : (r : Stage) → program.grid_of (plain_state r b) ≡ grid_of_stage r
      go Start = refl
      go (Gridded g) = refl
      go (Loaded g) = refl
