-- Document 01's number and count for each case of the answer enum, and what a public call promises.
use Rattle.std.specs.Prelude.{ℕ, ◌≡◌, Result, Ok, Err}
use Rattle.model.specs.World.{World}
use Rattle.model.specs.Step.{Call, step}
use Rattle.units.specs.declared.Refusal.{Refusal}
use Rattle.units.specs.declared.Refusal.TheVariants.{GridRange, Lengths, AirRange, Totals, Index, Emission, Withdrawal, Fluxes, Zonal, Meridional, Table, Remap, LongFlux, LongAir, EmitterAdded, EmitterAbsent, GivenCount, Limiters, Books}

-- "Refusals by place of checking": the number of each place
abbrev pub refusal_number : Refusal → ℕ
refusal_number GridRange = 1
refusal_number Lengths = 2
refusal_number AirRange = 3
refusal_number Totals = 4
refusal_number Index = 5
refusal_number Emission = 6
refusal_number Withdrawal = 7
refusal_number Fluxes = 8
refusal_number Zonal = 9
refusal_number Meridional = 10
refusal_number Table = 11
refusal_number Remap = 12
refusal_number LongFlux = 16
refusal_number LongAir = 17
refusal_number EmitterAdded = 18
refusal_number EmitterAbsent = 19
refusal_number GivenCount = 20
refusal_number Limiters = 21
refusal_number Books = 22

-- "answer (0 if accepted)", else the refusal's number
abbrev pub number_of : {Count : Type 0} → Result Count Refusal → ℕ
number_of (Ok n) = 0
number_of (Err r) = refusal_number r

-- "Each refusal returns its number with count 0"
abbrev pub count_of : Result ℕ Refusal → ℕ
count_of (Ok n) = n
count_of (Err r) = 0

-- What every public call promises, made in the world w and leaving the world `next`: number, count and every lent number at exit are `step`'s
pub record Agrees (w : World) (call : Call) (answer : Result ℕ Refusal) (next : World) : Type 0 where
  pub number : number_of answer ≡ (step w call).answer
  pub count : count_of answer ≡ (step w call).count
  pub left : next ≡ (step w call).next
