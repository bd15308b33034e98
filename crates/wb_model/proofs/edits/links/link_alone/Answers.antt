use Rattle.std.proofs.Common.{◌∙◌, ap, sym, subst}
use Rattle.wb_metamodel.specs.Metamodel.{Metamodel}
use Rattle.wb_metamodel.specs.WellFormed.{WellFormed}
use Rattle.wb_store.specs.Relinking.{link, back}
use Rattle.wb_store.specs.Features.{is_many}
use Rattle.wb_model.proofs.Comings.{up_only}
use Rattle.wb_store.proofs.RecordLemmas.{on_ok}
use Rattle.wb_model.proofs.edits.links.link_alone.Goals as goal

pub returns-else-is_many-clause-ok : goal.returns-else-is_many-clause-ok
returns-else-is_many-clause-ok c =
    let m = c.args.store.now in
    let l = link c.args.o c.args.f c.args.value in
    let well = subst WellFormed c.metamodel.ensures c.well_formed-2.ensures in
    let one = ap (λ (metamodel : Metamodel). is_many metamodel c.args.f) (sym c.metamodel-2.ensures) ∙ sym c.is_many.ensures ∙ c.if-is_many.false in
    let alone = ap (λ r. back c.args.o r c.args.value) c.requires.alone in
    on_ok c.put_alone.result (λ e. e ∙ up_only m well l one c.requires.alone alone c.requires.fresh) c.put_alone.ensures.ok
