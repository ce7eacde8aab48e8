-- What passes the faces, as two lists of amounts: the parts of the fluxes as a loop fills them, and flows that agree at every face of a mesh.
use Rattle.std.specs.Prelude.{ℕ, ◌+◌, ◌*◌, ◌-◌, ◌≤◌, ◌<◌, ◌&&◌, ◌≡◌, ℤ, length, set}
use mathlib.Core.List.{List}
use Rattle.std.proofs.Math.Path.{ap, ap₂}
use Rattle.std.proofs.Common.{arith}
use Rattle.std.proofs.Math.Dec.{leb}
use Rattle.model.specs.Basic.{at}
use Rattle.model.specs.World.{air_fits}
use Rattle.model.specs.Sweep.{Mesh, Flow, leaving, entering, after_flow, allowed, parts, pieces}
use Rattle.model.proofs.Laws.Basic.{tab_ext, every_ext}
use Rattle.model.proofs.Laws.Entries.{entries_more}
use Rattle.model.specs.Scheme.{Rule}
use Rattle.model.proofs.Laws.Mesh.{Regular, leaving_times, entering_times}

-- the flow that two lists hold
abbrev pub flow_of : List ℕ → List ℕ → Flow
flow_of up down = record { to_high = at up; to_low = at down }

-- .. and nothing passes any face
abbrev pub NothingPasses : List ℕ → List ℕ → Type 0
NothingPasses up down = (face : ℕ) → (at up face ≡ 0) × (at down face ≡ 0)

-- two flows agree at the first n faces
pub record Same (n : ℕ) (one other : Flow) : Type 0 where
  pub high : (k : ℕ) → k < n → one.to_high k ≡ other.to_high k
  pub low : (k : ℕ) → k < n → one.to_low k ≡ other.to_low k

-- ---- lists as a loop over the faces fills them
pub same_none : (one other : Flow) → Same 0 one other
same_none one other = record { high = λ k h. absurd (omega arith); low = λ k h. absurd (omega arith) }

pub same_more :
    (up down : List ℕ) {other : Flow} {i x y : ℕ} →
    i < length up → i < length down → Same i (flow_of up down) other →
    x ≡ other.to_high i → y ≡ other.to_low i →
    Same (i + 1) (flow_of (set up i x) (set down i y)) other
same_more up down {other} {i} {x} {y} high low same ex ey =
    record {
      high = entries_more 0 up i x (λ k z. z ≡ other.to_high k) high same.high ex;
      low = entries_more 0 down i y (λ k z. z ≡ other.to_low k) low same.low ey;
    }

-- ---- part s of n of a list of fluxes
-- there is room for it
pub record PartsNeed (faces n s high low : ℕ) : Type 0 where
  pub room_high : faces ≤ high
  pub room_low : faces ≤ low
  pub first : 0 < s
  pub last : s ≤ n

-- the two lists hold it
abbrev pub AreParts : List ℤ → ℕ → ℕ → List ℕ → List ℕ → Type 0
AreParts fluxes n s up down = Same (length fluxes) (flow_of up down) (parts fluxes n s)

-- ---- flows that agree at every face of a mesh do the same
module _ (mesh : Mesh) (regular : Regular mesh) {one other : Flow} (same : Same mesh.faces one other) where
  high_once : (f : ℕ) → f < mesh.faces → one.to_high f ≡ 1 * other.to_high f
  high_once f h = omega (arith, same.high f h)

  low_once : (f : ℕ) → f < mesh.faces → one.to_low f ≡ 1 * other.to_low f
  low_once f h = omega (arith, same.low f h)

  pub same_leaving : (c : ℕ) → c < mesh.cells → leaving mesh one c ≡ leaving mesh other c
  same_leaving c h = omega (arith, leaving_times mesh regular 1 other one high_once low_once c h)

  same_entering : (c : ℕ) → c < mesh.cells → entering mesh one c ≡ entering mesh other c
  same_entering c h = omega (arith, entering_times mesh regular 1 other one high_once low_once c h)

  pub same_after : (l : List ℕ) → after_flow mesh one l ≡ after_flow mesh other l
  unfolding after_flow
  same_after l =
      tab_ext mesh.cells _ _ (λ c h. ap₂ (λ (x y : ℕ). at l c + x - y) (same_entering c h) (same_leaving c h))

  pub same_allowed : (l : List ℕ) → allowed mesh one l ≡ allowed mesh other l
  unfolding allowed
  same_allowed l =
      every_ext mesh.cells _ _
      (λ c h. ap₂ (λ (x : ℕ) (m : List ℕ). leb x (at l c) && air_fits (at m c)) (same_leaving c h) (same_after l))

  same_pieces : (rule : Rule) (air gas : List ℕ) → Same mesh.faces (pieces rule mesh one air gas) (pieces rule mesh other air gas)
  unfolding pieces
  same_pieces rule air gas =
      record {
        high = λ f h. ap (λ (m : ℕ). (pieces rule mesh (record { to_high = λ k. m; to_low = λ k. m }) air gas).to_high f) (same.high f h);
        low = λ f h. ap (λ (m : ℕ). (pieces rule mesh (record { to_high = λ k. m; to_low = λ k. m }) air gas).to_low f) (same.low f h);
      }

-- a tracer's amounts after a substep
abbrev pub stepped : Rule → Mesh → Flow → List ℕ → List ℕ → List ℕ
stepped rule mesh flow air gas = after_flow mesh (pieces rule mesh flow air gas) gas

pub same_stepped :
    (mesh : Mesh) → Regular mesh → {one other : Flow} → Same mesh.faces one other →
    (rule : Rule) (air gas : List ℕ) → stepped rule mesh one air gas ≡ stepped rule mesh other air gas
same_stepped mesh regular same rule air gas = same_after mesh regular (same_pieces mesh regular same rule air gas) gas
