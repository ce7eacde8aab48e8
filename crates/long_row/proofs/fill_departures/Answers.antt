-- `long_row::fill_departures` meets its contract.
use Rattle.std.proofs.Common.{suc, ◌≡◌, ◌+◌, ◌-◌, ℤ, pos, ℕ, length, refl, ◌∙◌, ap, add-one, length-set, slice_index_or, to_z, of_z, w32, arith, rules}
use Rattle.long_row.specs.Air.{before_first, before_next, departs, departure_at, edges_first, edges_more}
use Rattle.long_row.proofs.fill_departures.Goals as goal

-- the first face, with the last flux
pub loop-j-init : goal.loop-j-init
loop-j-init c =
    let a = c.args in
    let before = before_first c.requires.0 c.air_sum-x.ensures.is in
    let f : ℤ = slice_index_or a.fluxes.now (length a.air.now - 1) (pos 0) in
    let same : to_z w32 (of_z w32 f) ≡ f = search rules in
    record {
      before = before;
      edges = edges_first c.requires.0 a.e.now (omega arith) (departure_at c.requires.0 0 (omega arith) before same c.departure_of.ensures);
    }

pub plus-x-requires : goal.plus-x-requires
plus-x-requires c = omega (arith, (departs c.requires.0 c.loop-j.j (omega arith) c.loop-j.invariant.before refl).0)

-- the east face of column j, with its flux
pub departure_of-requires-in-loop-j : goal.departure_of-requires-in-loop-j
departure_of-requires-in-loop-j c =
    let l = c.loop-j in
    let f : ℤ = slice_index_or c.args.fluxes.now l.j (pos 0) in
    let same : to_z w32 (of_z w32 f) ≡ f = search rules in
    departs c.requires.0 (suc l.j) (omega arith) (before_next c.requires.0 l.j l.invariant.before (c.plus-x.ensures ∙ ap (λ (n : ℕ). l.x.0 + n) c.new.ensures)) same

pub loop-j-preserved : goal.loop-j-preserved
loop-j-preserved c =
    let l = c.loop-j in
    let f : ℤ = slice_index_or c.args.fluxes.now l.j (pos 0) in
    let same : to_z w32 (of_z w32 f) ≡ f = search rules in
    let before = before_next c.requires.0 l.j l.invariant.before (c.plus-x.ensures ∙ ap (λ (n : ℕ). l.x.0 + n) c.new.ensures) in
    record {
      before = rw add-one before;
      edges = edges_more c.requires.0 l.e l.j (omega (arith, simp length-set at l.auto.e)) l.invariant.edges (departure_at c.requires.0 (suc l.j) (omega arith) before same c.departure_of-in-loop-j.ensures);
    }
