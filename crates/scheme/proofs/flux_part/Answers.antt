-- `scheme::flux_part` meets its contract: both products fit 64 bits, and the difference is the model's.
use Rattle.std.proofs.Common.{ℕ, ◌*◌, ◌-◌, ◌≡◌, ◌≤◌, ◌<◌, sym, arith}
use Rattle.std.proofs.Math.Nat.{div-one, le_refl, mul-zero, zero-div}
use Rattle.model.specs.Sweep.{flux_part}
use Rattle.model.proofs.Laws.Scheme.{flux_part_le}
use Rattle.scheme.proofs.flux_part.Goals as goal
use Rattle.scheme.proofs.flux_part.Goals.{then-n-eq1-via-then-n-eq1, then-n-eq1-via-else-n-eq1+then-f-eq0}

-- the one part of one is the whole
flux_part_whole : {n s f : ℕ} → n ≡ 1 → 0 < s → s ≤ n → flux_part n s f ≡ f
unfolding flux_part
flux_part_whole {n} {s} {f} one some most =
    let first : s ≡ 1 = omega arith in
    rw (one, first) (omega (arith, div-one (1 * f), div-one ((1 - 1) * f)))

-- every part of nothing is nothing
flux_part_none : (n s f : ℕ) → f ≡ 0 → flux_part n s f ≡ f
unfolding flux_part
flux_part_none n s f none = rw (none, mul-zero s, mul-zero (s - 1), zero-div n)

pub returns-then-n-eq1 : goal.returns-then-n-eq1
returns-then-n-eq1 c =
    let a = c.args in
    elim c.then-n-eq1.branch [
      | then-n-eq1-via-then-n-eq1 w ↦
          record { is = sym (flux_part_whole w.if-n-eq1.true c.requires.0 c.requires.1); within = le_refl _ }
      | then-n-eq1-via-else-n-eq1+then-f-eq0 w ↦
          record { is = sym (flux_part_none a.n a.s a.f.0 w.if-f-eq0.true); within = le_refl _ }
    ]

pub returns : goal.returns
unfolding flux_part
returns c = record { is = c.new.ensures; within = rw c.new.ensures (flux_part_le _ _ _ (omega arith) c.requires.1) }
