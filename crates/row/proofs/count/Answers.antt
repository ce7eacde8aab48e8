-- `row::count` meets its contract.
use Rattle.std.proofs.Common.{◌≡◌, true, false, rules}
use borrow.Author.Tests.{tests}
use Rattle.std.proofs.lemmas.Iterator.{first_from_Range}
use Rattle.model.specs.Sweep.{serves}
use Rattle.row.specs.Substeps.{row_mesh, found_at}
use Rattle.row.proofs.count.Goals as goal

pub returns : goal.returns
returns c =
    let a = c.args in
    let serving = serves (row_mesh a.fluxes.now) a.fluxes.now a.air.now in
    found_at a.air.now a.fluxes.now c.find.result
    (first_from_Range _ _ _ c.find.result (λ n. serving n ≡ true) (λ n. serving n ≡ false) c.find.ensures.ran
    (λ x q k. search (rules, tests)) (λ x q k. search (rules, tests)))
