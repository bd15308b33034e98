use Rattle.std.proofs.Common.{◌+◌, sym, subst, take, arith}
use Rattle.wb_ecore.specs.declared.classes.Enumeration.{Enumeration}
use Rattle.wb_metamodel.specs.invariants.Tables.{PlacesOf, LiteralPlaces}
use Rattle.wb_base.proofs.Zips.{zip_more}
use Rattle.wb_metamodel.proofs.tables.literal_names.Goals as goal

pub loop-enumeration-preserved : goal.loop-enumeration-preserved
loop-enumeration-preserved c =
    let all = c.args.enumerations.now in
    let i = c.loop-enumeration.enumeration-index in
    let item = c.enumeration-item.result in
    let places = subst (PlacesOf c.in_ok-of.field-0) c.as_slice.ensures c.in_ok-of.ensures in
    subst (λ ts. LiteralPlaces ts (take (i + 1) all)) (sym c.in_ok-push.ensures.items)
    (zip_more (λ names (enumeration : Enumeration). PlacesOf names enumeration.literals) c.loop-enumeration.tables.items all i c.in_ok-of.field-0 item c.loop-enumeration.invariant (omega arith) c.enumeration-item.is places)
