-- What an exported call returns: the model's answer and count, in one number or one of the two, and every lent list at exit.
use Rattle.std.specs.Prelude.{ℕ, ◌+◌, ◌*◌, List, ◌≡◌, Result}
use Rattle.model.specs.World.{World}
use Rattle.model.specs.Step.{Call, step}
use Rattle.units.specs.declared.Refusal.{Refusal}
use Rattle.units.specs.Answer.{number_of, count_of}
use Rattle.units.specs.Grid.{world_of}

-- the world of a call, from the grid's numbers and the lent lists
abbrev pub lent_world : ℕ → ℕ → ℕ → ℕ → (air tracers ledger : List ℕ) → World
lent_world w r k n = world_of (record { w = w; r = r; k = k; n = n })

-- answer · 2^32 + count
abbrev pub packed_of : Result ℕ Refusal → ℕ
packed_of a = number_of a * 4294967296 + count_of a

-- what an exported call made in the world w promises, which leaves the world `next`
pub record Returns (w : World) (call : Call) (x : ℕ) (next : World) : Type 0 where
  pub number : x ≡ (step w call).answer * 4294967296 + (step w call).count
  pub left : next ≡ (step w call).next

-- and where the answer and the count of a call have an export each
pub record Answers (w : World) (call : Call) (x : ℕ) (next : World) : Type 0 where
  pub number : x ≡ (step w call).answer
  pub left : next ≡ (step w call).next

pub record Counts (w : World) (call : Call) (x : ℕ) (next : World) : Type 0 where
  pub number : x ≡ (step w call).count
  pub left : next ≡ (step w call).next
