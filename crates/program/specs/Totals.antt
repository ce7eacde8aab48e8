-- What an auditor reads off the records of a run: the world that the last accepted load left, and the calls made since. Their history (Lists.antt of the model) is the account.
use Rattle.std.specs.Prelude.{zero, suc, List, [], ◌∷◌, ◌++◌}
use Rattle.model.specs.World.{World}
use Rattle.model.specs.Step.{Call}
use Rattle.model.specs.Lists.{loaded_world, after}
use Rattle.program.specs.Records.{start, world_of, set_grid, set_world, make, nothing, fault, command}
use Rattle.program.specs.Lines.{Entry}

-- the world that the last accepted load left, and the calls made since
pub record Since : Type 0 where
  pub first : World
  pub calls : List Call

-- before the first record: a world without cells, and no calls
abbrev pub nothing_yet : Since
nothing_yet = record { first = world_of start; calls = [] }

-- one more record: an accepted load begins anew, a call comes after those before it
abbrev pub noted : Since → Entry → Since
noted s e =
    elim e.finding [
      | nothing ↦ s
      | fault n ↦ s
      | command (set_grid g) ↦ s
      | command (set_world w) ↦ elim e.printed.answer [ zero ↦ record { first = loaded_world w; calls = [] } | suc n ↦ s ]
      | command (make call) ↦ record { first = s.first; calls = s.calls ++ (call ∷ []) }
    ]

-- after some records
unfoldable pub since : Since → List Entry → Since
since s [] = s
since s (e ∷ es) = since (noted s e) es

-- the world in which the next call is made
abbrev pub world_now : Since → World
world_now s = after s.first s.calls
