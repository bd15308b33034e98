use Rattle.std.proofs.Common.{subst}
use Rattle.std.proofs.lemmas.List.{take_all}
use Rattle.wb_spec_check.specs.ChildLists.{names_elsewhere}
use Rattle.wb_spec_check.specs.invariants.Taken.{Takes}
use Rattle.wb_spec_check.proofs.Children.{takes_none, takes_more}
use Rattle.wb_spec_check.proofs.child_lists.take_names.Goals as goal

pub loop-name-init : goal.loop-name-init
loop-name-init c = takes_none c.args.taken.now

pub loop-name-preserved : goal.loop-name-preserved
loop-name-preserved c =
    takes_more c.args.names.now.1 c.args.role c.args.list.now c.loop-name.name-index c.name-item.result c.args.taken.now c.loop-name.taken c.take_name.new.taken
    c.loop-name.invariant c.in_ok-take_name.ensures c.loop-name-test.true c.name-item.is

pub returns : goal.returns
returns c =
    subst (λ names. Takes (names_elsewhere c.args.names.now.1 (record { role = c.args.role; names = names })) c.args.taken.now c.loop-name.taken)
    (take_all c.loop-name.name-index c.args.list.now c.loop-name-test.false) c.loop-name.invariant
