-- The theorems about the program: what its loop prints for every list of bytes, what every call's line says, and what every total is.
-- `run` stands for a loop that makes no fewer turns than there are bytes.
use Rattle.std.specs.Prelude.{ℕ, ◌+◌, ◌≤◌, ◌<◌, List, ◌∷◌, ◌++◌, true, ◌≡◌, length}
use Rattle.model.specs.World.{gas_total}
use Rattle.model.specs.Step.{Call, total, step}
use Rattle.model.specs.Lists.{listed, history}
use Rattle.model.proofs.OnRecord.{OnRecord, kept_on_record}
use Rattle.program.specs.Records.{start, make, command}
use Rattle.program.specs.Lines.{Entry, entries, lines, run}
use Rattle.program.specs.Totals.{Since, nothing_yet, since, world_now}
use Rattle.program.proofs.Laws.Lines.{run_lines}
use Rattle.program.proofs.Laws.Totals.{all_say, total_said}

-- Taking a kind, then the bytes it needs or what is left, then carrying the record out, until it ends, gives exactly the defined lines
pub program_prints : (bytes : List ℕ) (turns : ℕ) → length bytes ≤ turns → run turns start bytes ≡ lines bytes
program_prints bytes turns enough = run_lines turns start bytes enough

-- In all of them: e is a record of the input, `before` are the records before it, and `s` is the last accepted load among them with the calls since.
module _ (bytes : List ℕ) (before rest : List Entry) (e : Entry) (split : entries bytes ≡ before ++ (e ∷ rest)) where
  abbrev s : Since
  s = since nothing_yet before

  -- Each line that the program prints for a call has the answer and the count that `step` gives in the world that those calls have left; none of those calls is a load, so that demand 3 is about them
  pub printed_calls :
      (call : Call) → e.finding ≡ command (make call) →
      (e.printed.answer ≡ (step (world_now s) call).answer) × (e.printed.count ≡ (step (world_now s) call).count) × (listed s.calls ≡ true)
  printed_calls call asked =
      let said = all_say 0 start bytes nothing_yet tt before rest e split call asked in
      (said.answered, said.counted, said.all_listed)

  -- In that world the book of each gas has the amount loaded, and the emissions and the withdrawals, answered 0, since the last accepted load
  pub books_behind :
      (call : Call) → e.finding ≡ command (make call) → (t : ℕ) → t < s.first.grid.N → OnRecord s.first (world_now s) t (history s.first t s.calls)
  books_behind call asked t h =
      let said = all_say 0 start bytes nothing_yet tt before rest e split call asked in
      kept_on_record s.first s.calls said.reached said.all_listed t h (said.begun t h)

  -- Each total that the program prints equals the loaded amount plus the emissions less the withdrawals, answered 0, since the last accepted load
  pub printed_totals :
      (t : ℕ) → e.finding ≡ command (make (total t)) → e.printed.answer ≡ 0 →
      e.printed.count + (history s.first t s.calls).withdrawn ≡ gas_total s.first t + (history s.first t s.calls).emitted
  printed_totals t asked = total_said t s e (all_say 0 start bytes nothing_yet tt before rest e split (total t) asked)
