-- Document 01, "Lists": a list of calls run with `step`, its points, and what the four parts of demand 3 speak of.
use Rattle.std.specs.Prelude.{ℕ, zero, suc, ◌+◌, ◌*◌, ◌<◌, List, [], ◌∷◌, Bool, true, false, ◌&&◌, ◌≡◌, ltb, eqb, get_or, take}
use Rattle.model.specs.Basic.{at}
use Rattle.model.specs.World.{World, world_cells, gas, block}
use Rattle.model.specs.Limiters.{present_one, limiter_of}
use Rattle.model.specs.Step.{Call, load, total, Exchange, no_exchange, Named, nobody, tracer, meaning, step}

-- "It starts with the world of an accepted load": that `step` accepts the load of w, and the world that it leaves
abbrev pub Loaded : World → Type 0
Loaded w = (step w load).answer ≡ 0

abbrev pub loaded_world : World → World
loaded_world w = (step w load).next

-- "A list holds emissions, withdrawals, zonal and meridional sweeps and remaps"; (02) "Lists may hold these and all later calls": every call but a load
unfoldable pub listed : List Call → Bool
listed [] = true
listed (call ∷ calls) = (meaning call).listed && listed calls

-- call i of a list; past its end a reading, which changes nothing
abbrev pub call_at : List Call → ℕ → Call
call_at calls i = get_or calls i (total 0)

-- "Each call gets the world .. as the last one left .. it": the world after a list of calls
unfoldable pub after : World → List Call → World
after w [] = w
after w (call ∷ calls) = after (step w call).next calls

-- "The points of a list are its start and the end of each call": point i is the end of its first i calls
abbrev pub point : World → List Call → ℕ → World
point start calls i = after start (take i calls)

-- "Accepted emissions and withdrawals are the summed amounts of those calls on that tracer, up to the point, that got no refusal": what one call exchanges of tracer t, and the history of a list of calls
abbrev pub exchanged : World → ℕ → Call → Exchange
exchanged w t call = elim (step w call).answer [ zero ↦ (meaning call).exchange w t | suc n ↦ no_exchange ]

abbrev pub added : Exchange → Exchange → Exchange
added x y = record { emitted = x.emitted + y.emitted; withdrawn = x.withdrawn + y.withdrawn }

unfoldable pub history : World → ℕ → List Call → Exchange
history w t [] = no_exchange
history w t (call ∷ calls) = added (exchanged w t call) (history (step w call).next t calls)

-- "A gas has the whole-number ratio z at a point if T = z·M in every cell."
abbrev pub HasRatio : World → ℕ → ℕ → Type 0
HasRatio w t z = (c : ℕ) → c < world_cells w.grid → at (gas w t) c ≡ z * at w.air c

-- "in every cell of the row, or of the layer if meridional, after each substep of an accepted sweep .. and in every cell after an accepted remap", and of the row after an accepted long sweep: for tracer t, of a call that is accepted in the world w and leaves the world `next`
abbrev pub CallInRange : World → World → ℕ → Call → Type 0
CallInRange w next t call = (meaning call).range w next t

-- (02) "The range claim covers the first only.": tracer t has the first limiter in the world w
abbrev pub has_first : World → ℕ → Bool
has_first w t = eqb (limiter_of w t).number present_one

-- "Take two accepted loads on the same grid, N included, alike in all but the other tracers": `own` tells the tracers that are not the others
pub record LoadedAlike (own : ℕ → Bool) (w v : World) : Type 0 where
  pub same_grid : w.grid ≡ v.grid
  pub same_air : w.air ≡ v.air
  pub same_gas : (t : ℕ) → own t ≡ true → gas w t ≡ gas v t

-- "At each point the air and this tracer's amounts are the same in both", and its block of the ledger: its emitters and its limiter
pub record Alike (own : ℕ → Bool) (w v : World) : Type 0 where
  pub same_grid : w.grid ≡ v.grid
  pub same_air : w.air ≡ v.air
  pub same_gas : (t : ℕ) → own t ≡ true → gas w t ≡ gas v t
  pub same_block : (t : ℕ) → own t ≡ true → block w t ≡ block v t

-- "calls that name no other tracer": an absent tracer's number names none
abbrev pub names_own : (ℕ → Bool) → World → Named → Bool
names_own own w nobody = true
names_own own w (tracer t) = elim (ltb t w.grid.N) [ true ↦ own t | false ↦ true ]

abbrev pub names_no_other : (ℕ → Bool) → World → Call → Bool
names_no_other own w call = names_own own w (meaning call).names

-- "So are the answers (0 or the refusal's number) to all calls that name no other tracer, and the counts of all sweeps": of one call in two worlds; a sweep names no tracer
abbrev pub SameReply : World → World → Call → Type 0
SameReply w v call = ((step w call).answer ≡ (step v call).answer) × ((step w call).count ≡ (step v call).count)
