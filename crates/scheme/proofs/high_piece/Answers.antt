-- `scheme::high_piece` meets its contract: for a safe mismatch nothing is cut off or passes 64 bits, and the quotient is the model's piece.
use Rattle.std.proofs.Common.{ℕ, ◌*◌, ◌-◌, ◌/◌, ◌^◌, ◌≡◌, ◌≤◌, ◌<◌, Bool, true, false, sym, ◌∙◌, ap, arith}
use Rattle.std.proofs.Math.Nat.{div-div-eq-div-mul}
use Rattle.units.specs.declared.Amount.{Amount}
use Rattle.units.specs.declared.Mismatch as code
use Rattle.model.specs.Limits.{scale}
use Rattle.model.specs.Scheme.{Mismatch, high_piece}
use Rattle.model.proofs.Laws.Scheme.{Safe, ratio_safe, numerator, piece_is, slope_le, tilt_le_level, level_fits, piece_le}
use Rattle.scheme.specs.Leaves.{mismatch_of, Giver}
use Rattle.scheme.proofs.high_piece.Goals as goal
use Rattle.scheme.proofs.high_piece.Goals.{then-d, else-d, Joined-d}

-- bounds of the code's numbers, and of the piece
record Sizes (D : Mismatch) (M T m : ℕ) : Type 0 where
  slope : D.size * m ≤ 2 * scale * T
  tilt : D.size * m * (M - m) ≤ 2 * scale * m * T
  level : 2 * scale * m * T < 2 ^ 63
  piece : high_piece D M T m ≤ T

sizes : {d : code.Mismatch} {have m : Amount 0} {t : Amount 1} → Giver d have t m → Sizes (mismatch_of d) have.0 t.0 m.0
sizes {d} {have} {m} {t} g =
    let safe : Safe (mismatch_of d) have.0 t.0 = ratio_safe (mismatch_of d) have.0 t.0 g.small in
    record {
      slope = slope_le (mismatch_of d) have.0 t.0 safe m.0 g.part;
      tilt = tilt_le_level (mismatch_of d) have.0 t.0 safe m.0 g.part;
      level = level_fits m.0 t.0 (omega arith) g.tracer;
      piece = piece_le (mismatch_of d) have.0 t.0 safe g.some m.0 g.part;
    }

-- x is the numerator, as the code has it at the mismatch's sign
signed :
    {x : ℕ} (D : Mismatch) (M T m : ℕ) (b : Bool) → D.positive ≡ b →
    x ≡ numerator (record { size = D.size; positive = b }) M T m → x ≡ numerator D M T m
signed D M T m b e h = h ∙ ap (λ (b : Bool). numerator (record { size = D.size; positive = b }) M T m) (sym e)

-- dividing by 2·S and then by M is dividing by 2·S·M
quotient : (D : Mismatch) (M T m x : ℕ) → x ≡ numerator D M T m → x / (2 * scale) / M ≡ high_piece D M T m
quotient D M T m x is = rw (piece_is D M T m) (div-div-eq-div-mul x (2 * scale) M ∙ ap (λ (y : ℕ). y / (2 * scale * M)) is)

pub overflow_mul-tilt : goal.overflow_mul-tilt
overflow_mul-tilt c = omega (arith, sizes c.requires)

pub overflow_mul-tilt-2 : goal.overflow_mul-tilt-2
overflow_mul-tilt-2 c = omega (arith, sizes c.requires)

pub overflow_add-numerator : goal.overflow_add-numerator
overflow_add-numerator c = omega (arith, sizes c.requires)

pub overflow_sub-numerator : goal.overflow_sub-numerator
overflow_sub-numerator c = (sizes c.requires).tilt

numerator_is : (c : Joined-d) → c.if-d.numerator ≡ numerator (mismatch_of c.args.d) c.args.have.0 c.args.t.0 c.args.m.0
unfolding numerator
numerator_is c =
    let is = signed (mismatch_of c.args.d) c.args.have.0 c.args.t.0 c.args.m.0 in
    elim c.if-d.branch [ then-d w ↦ is true w.if-d.true w.numerator-is | else-d w ↦ is false w.if-d.false w.numerator-is ]

pub overflow_cast-piece : goal.overflow_cast-piece
overflow_cast-piece c =
    let a = c.args in
    omega (arith, quotient (mismatch_of a.d) a.have.0 a.t.0 a.m.0 c.if-d.numerator (numerator_is (goal.at.overflow_cast-piece c).Joined-d), sizes c.requires, c.requires.tracer)

pub returns : goal.returns
returns c =
    let a = c.args in
    let is = quotient (mismatch_of a.d) a.have.0 a.t.0 a.m.0 c.if-d.numerator (numerator_is (goal.at.returns c).Joined-d) in
    record { is = c.new.ensures ∙ is; within = rw (c.new.ensures ∙ is) (sizes c.requires).piece }
