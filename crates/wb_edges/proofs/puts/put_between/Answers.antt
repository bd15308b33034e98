use Rattle.std.proofs.Common.{◌∙◌, ap, sym}
use Rattle.std.specs.List.{flat_map}
use Rattle.wb_edges.specs.Grounds.{elements_in}
use Rattle.wb_edges.specs.Puts.{put_all}
use Rattle.wb_edges.proofs.Between.{none_from}
use Rattle.wb_edges.proofs.Putting.{put_none}
use Rattle.wb_edges.proofs.puts.put_between.Goals as goal

pub returns-then-not-is_any_represented : goal.returns-then-not-is_any_represented
returns-then-not-is_any_represented c =
    let ends = c.args.ends.now in
    let none = none_from c.args.pair.now (flat_map (elements_in ends.targets) c.args.targets.now) ends.sources c.args.sources.now (sym c.is_any_represented.ensures ∙ c.if-not-is_any_represented.true) in
    (sym (put_none c.args.edges.now.keys) ∙ ap (put_all c.args.edges.now.keys) (sym none), c.requires)
