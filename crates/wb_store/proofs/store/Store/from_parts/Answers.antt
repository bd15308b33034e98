use Rattle.std.proofs.Common.{map}
use Rattle.wb_store.specs.Parts.{record_of}
use Rattle.wb_store.proofs.ArrangedLemmas.{arranged-contents, arranged-IsPlain}
use Rattle.wb_store.proofs.store.Store.from_parts.Goals as goal

pub invariant_of-result : goal.invariant_of-result
invariant_of-result c =
    let sorted = c.in_ok-records.ensures in
    arranged-IsPlain (map record_of c.args.objects) sorted.arranged c.in_ok-records.records.items sorted.each sorted.same
    c.requires.objects_once c.requires.features_once c.args.metamodel sorted.ascend c.requires.known

pub returns : goal.returns
returns c =
    let sorted = c.in_ok-records.ensures in
    arranged-contents (map record_of c.args.objects) sorted.arranged c.in_ok-records.records.items sorted.each sorted.same
    c.requires.objects_once c.requires.features_once c.args.metamodel c.args.next c.args.roots
