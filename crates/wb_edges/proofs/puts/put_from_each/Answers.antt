use Rattle.std.proofs.Common.{sym}
use Rattle.wb_edges.specs.Puts.{edges_from}
use Rattle.wb_edges.proofs.Putting.{put_goes_on, put_none, puts_refused}
use Rattle.wb_edges.proofs.puts.put_from_each.Goals as goal

pub loop-source-init : goal.loop-source-init
loop-source-init c = record { put = sym (put_none c.args.edges.now.keys); few = c.requires }

pub loop-source-preserved : goal.loop-source-preserved
loop-source-preserved c =
    let puts = c.in_ok-put_from.ensures in
    record {
      put = put_goes_on (edges_from c.args.pair.now c.args.targets.now) c.args.sources.now c.loop-source.source-index c.source-item.result c.source-item.result c.args.edges.now.keys c.loop-source.edges.keys c.loop-source-test.true c.source-item.is c.loop-source.invariant.put _ puts.0;
      few = puts.1;
    }

pub returns-in_err-put_from : goal.returns-in_err-put_from
returns-in_err-put_from c =
    puts_refused (edges_from c.args.pair.now c.args.targets.now) c.args.sources.now c.loop-source.source-index c.source-item.result c.source-item.result c.args.edges.now.keys c.loop-source.edges.keys c.loop-source-test.true c.source-item.is c.loop-source.invariant.put
    c.args.grounds.now.room _ _ _ c.from_residual.ensures c.in_err-put_from.ensures
