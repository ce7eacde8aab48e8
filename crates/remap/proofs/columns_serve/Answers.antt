-- `remap::columns_serve` meets its contract.
use Rattle.remap.specs.Served.{upto_start, not_served, one_more}
use Rattle.remap.proofs.columns_serve.Goals as goal

pub loop-c-init : goal.loop-c-init
loop-c-init c = upto_start c.requires

pub returns-then-not-edges_serve : goal.returns-then-not-edges_serve
returns-then-not-edges_serve c = not_served c.requires c.loop-c-test.true c.read_edges.ensures c.edges_serve.ensures c.if-not-edges_serve.true

pub loop-c-preserved : goal.loop-c-preserved
loop-c-preserved c = one_more c.requires c.loop-c-test.true c.read_edges.ensures c.edges_serve.ensures c.if-not-edges_serve.false c.loop-c.invariant
