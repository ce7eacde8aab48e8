-- What follows from the theorems about the program in the buyer's words, each statement from one of them alone, so that a theorem that says less is refused here.
use Rattle.std.specs.Prelude.{ℕ, ◌+◌, ◌≤◌, ◌<◌, List, ◌∷◌, ◌++◌, ◌≡◌, refl, length}
use Rattle.std.proofs.Common.{append_assoc, ◌∙◌, arith}
use Rattle.std.proofs.Math.Path.{sym, ap}
use Rattle.model.specs.World.{block, gas_total}
use Rattle.model.specs.Books.{loaded_sum, emitted_sum, withdrawn_sum}
use Rattle.model.specs.Step.{Call, total, Result, accepted}
use Rattle.model.specs.Lists.{history}
use Rattle.model.proofs.Laws.Step.{step_accepted, answer_is}
use Rattle.model.proofs.Laws.Lists.{history_append}
use Rattle.model.proofs.OnRecord.{accepted_balances}
use Rattle.program.specs.Records.{start, make, command}
use Rattle.program.specs.Lines.{Entry, entries, run}
use Rattle.program.specs.Totals.{Since, nothing_yet, since, world_now}
use Rattle.program.proofs.Program.{program_prints, printed_calls, printed_totals}

-- institutes that run the same input get the same lines, however many turns their loops may make beyond those that the input needs
pub same_lines_lem : (bytes : List ℕ) (turns more : ℕ) → length bytes ≤ turns → length bytes ≤ more → run turns start bytes ≡ run more start bytes
same_lines_lem bytes turns more enough too = program_prints bytes turns enough ∙ sym (program_prints bytes more too)

-- a record that prints a total of gas t, accepted
pub record PrintsTotal (t : ℕ) (e : Entry) : Type 0 where
  pub asked : e.finding ≡ command (make (total t))
  pub answered : e.printed.answer ≡ 0

module _ (bytes : List ℕ) (before : List Entry) (e : Entry) (t : ℕ) (first : PrintsTotal t e) where
  -- what is noted before the record
  abbrev s : Since
  s = since nothing_yet before

  -- a total that is printed is the gas's total in the world in which the call is made
  pub printed_total_is : (rest : List Entry) → entries bytes ≡ before ++ (e ∷ rest) → e.printed.count ≡ gas_total (world_now s) t
  unfolding accepted
  printed_total_is rest split =
      let said = printed_calls bytes before rest e split (total t) first.asked in
      let go = sym (answer_is (world_now s) (total t)) ∙ sym said.0 ∙ first.answered in
      said.1 ∙ ap (λ (r : Result). r.count) (step_accepted (world_now s) (total t) go)

  -- .. and it agrees with the gas's book there: loaded and emitted are withdrawn and the total
  pub printed_on_record :
      (rest : List Entry) → entries bytes ≡ before ++ (e ∷ rest) → t < (world_now s).grid.N →
      e.printed.count + withdrawn_sum (block (world_now s) t) ≡ loaded_sum (block (world_now s) t) + emitted_sum (block (world_now s) t)
  printed_on_record rest split there =
      let said = printed_calls bytes before rest e split (total t) first.asked in
      omega (arith, printed_total_is rest split, (accepted_balances (world_now s) (total t) refl (sym said.0 ∙ first.answered)).0 t there)

  -- the difference of two totals of a gas that are printed, with no accepted load between them, is what the calls `made` between them emitted less what they withdrew
  pub printed_difference :
      (between rest : List Entry) (f : Entry) → entries bytes ≡ before ++ (e ∷ (between ++ (f ∷ rest))) → PrintsTotal t f →
      (made : List Call) → since nothing_yet (before ++ (e ∷ between)) ≡ record { first = s.first; calls = s.calls ++ made } →
      f.printed.count + (history (world_now s) t made).withdrawn ≡ e.printed.count + (history (world_now s) t made).emitted
  printed_difference between rest f split second made noted =
      let again : entries bytes ≡ (before ++ (e ∷ between)) ++ (f ∷ rest) = split ∙ sym (append_assoc before (e ∷ between) (f ∷ rest)) in
      let one = printed_totals bytes before _ e split t first.asked first.answered in
      let two = rw noted at (printed_totals bytes (before ++ (e ∷ between)) rest f again t second.asked second.answered) in
      let parted = history_append s.first t s.calls made in
      omega (arith, parted.came, parted.went, one, two)
