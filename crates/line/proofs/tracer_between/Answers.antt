-- `line::tracer_between` meets its contract. Assumes nothing.
use Rattle.std.proofs.Common.{ℕ, ◌+◌, ◌-◌, ◌≡◌, ◌≤◌, ◌<◌, ⊎_elim, arith}
use Rattle.std.proofs.Math.Nat.{zero-mod}
use Rattle.model.proofs.Laws.Basic.{le_or_lt}
use Rattle.line.specs.Tracer.{walking_start, stands_here, turned_whole, walk_is}
use Rattle.line.proofs.tracer_between.Goals as goal

pub loop-place-init : goal.loop-place-init
loop-place-init c =
    let top = c.start-place.ensures in
    (walking_start _ _ _ _ _ _ _ _ top, λ h. rw top.cells (zero-mod c.args.n))

-- a turn passes n cells, or the edges that are left
less :
    {cells n m i i' : ℕ} (j j' : ℕ) → i < cells → j < m → 1 ≤ n → (i ≤ i') × (j ≤ j') → (j' < m → i' ≡ i + n) →
    (cells - i') + (m - j') < (cells - i) + (m - j)
less {m = m} j j' inside lt some on turned =
    ⊎_elim (λ (done : m ≤ j'). omega (arith, on)) (λ (more : j' < m). omega (arith, on, turned more)) (le_or_lt m j')

pub loop-place-smaller : goal.loop-place-smaller
loop-place-smaller c =
    let made = c.walk_turn-place.ensures in
    less _ _ (stands_here c.requires c.loop-place.invariant.0.stands).layer c.loop-place-test.true c.requires.some made.onward made.turned

pub loop-place-preserved : goal.loop-place-preserved
loop-place-preserved c =
    let made = c.walk_turn-place.ensures in
    (made.walking, λ h. turned_whole c.args.n c.loop-place.place.i (made.turned h) (c.loop-place.invariant.1 c.loop-place-test.true))

pub overflow_add-result : goal.overflow_add-result
overflow_add-result c = omega (arith, stands_here c.requires c.loop-place.invariant.0.stands, c.requires.fit, c.requires.few)

pub returns : goal.returns
returns c =
    let walking = c.loop-place.invariant.0 in
    walk_is c.requires walking.stands (omega arith) walking.made walking.ended
