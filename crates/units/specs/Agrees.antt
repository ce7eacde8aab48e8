-- How a call's answer comes to agree with `step`: refused by a place, or accepted.
use Prim.Native.Nat.{ℕ, zero, suc}
use Rattle.std.specs.Prelude as Prelude
use Rattle.std.specs.Prelude.{◌≡◌, refl, Err}
use Rattle.std.proofs.Math.Path.{sym, ap}
use Rattle.std.proofs.Common.{◌∙◌, arith}
use Rattle.model.specs.World.{World}
use Rattle.model.specs.Step.{Call, Result, meaning, refusal, accepted, refused}
use Rattle.model.proofs.Laws.Step.{step_accepted, step_refused, answer_is}
use Rattle.units.specs.declared.Refusal.{Refusal}
use Rattle.units.specs.declared.Refusal.TheVariants.{GridRange, Lengths, AirRange, Totals, Index, Emission, Withdrawal, Fluxes, Zonal, Meridional, Table, Remap, LongFlux, LongAir, EmitterAdded, EmitterAbsent, GivenCount, Limiters, Books}
use Rattle.units.specs.Answer.{refusal_number, number_of, count_of, Agrees}

-- no refusal has the number of an accepted call
pub refusal_nonzero : (r : Refusal) → refusal_number r ≡ 0 → ⊥
refusal_nonzero GridRange e = omega arith
refusal_nonzero Lengths e = omega arith
refusal_nonzero AirRange e = omega arith
refusal_nonzero Totals e = omega arith
refusal_nonzero Index e = omega arith
refusal_nonzero Emission e = omega arith
refusal_nonzero Withdrawal e = omega arith
refusal_nonzero Fluxes e = omega arith
refusal_nonzero Zonal e = omega arith
refusal_nonzero Meridional e = omega arith
refusal_nonzero Table e = omega arith
refusal_nonzero Remap e = omega arith
refusal_nonzero LongFlux e = omega arith
refusal_nonzero LongAir e = omega arith
refusal_nonzero EmitterAdded e = omega arith
refusal_nonzero EmitterAbsent e = omega arith
refusal_nonzero GivenCount e = omega arith
refusal_nonzero Limiters e = omega arith
refusal_nonzero Books e = omega arith

module _ {w : World} {call : Call} where
  by_number : (r : Refusal) (n : ℕ) → refusal w call ≡ n → refusal_number r ≡ n → Agrees w call (Err r) w
  unfolding refused
  by_number r zero e same = absurd (refusal_nonzero r same)
  by_number r (suc n) e same =
      let is = sym (step_refused w call n e) in
      record {
        number = same ∙ ap (λ (r : Result). r.answer) is;
        count = ap (λ (r : Result). r.count) is;
        left = ap (λ (r : Result). r.next) is;
      }

  -- a refusal has count 0 and leaves every lent number as it was
  pub refused_agrees : {r : Refusal} → refusal w call ≡ refusal_number r → Agrees w call (Err r) w
  refused_agrees {r} e = by_number r (refusal_number r) e refl

  -- an accepted call has the call's count and leaves the call's world
  pub accepted_agrees : {answer : Prelude.Result ℕ Refusal} {next : World} → refusal w call ≡ 0 → number_of answer ≡ 0 →
      count_of answer ≡ (meaning call).count w → next ≡ (meaning call).next w → Agrees w call answer next
  unfolding accepted
  accepted_agrees e number count left =
      let is = sym (step_accepted w call e) in
      record {
        number = number ∙ sym (answer_is w call ∙ e);
        count = count ∙ ap (λ (r : Result). r.count) is;
        left = left ∙ ap (λ (r : Result). r.next) is;
      }
