use Rattle.std.proofs.Common.{◌∙◌, ◌∷◌, [], ap, sym, subst, ℕ}
use Rattle.std.specs.Option.{option_map_or}
use Rattle.wb_metamodel.specs.Metamodel.{Metamodel}
use Rattle.wb_metamodel.specs.WellFormed.{WellFormed}
use Rattle.wb_store.specs.declared.scalars.Scalar.TheVariants.{Object}
use Rattle.wb_store.specs.Relinking.{link, other_end}
use Rattle.wb_model.proofs.Comings.{alone_none}
use Rattle.wb_model.proofs.edits.links.link_fresh.Goals as goal

pub link_alone-requires-clause-alone : goal.link_alone-requires-clause-alone
link_alone-requires-clause-alone c =
    let m = c.args.store.now in
    let well = subst WellFormed c.metamodel.ensures c.well_formed-2.ensures in
    let l = link c.args.o c.args.f c.args.value in
    let alone = ap (λ (metamodel : Metamodel). other_end metamodel l) (sym c.metamodel-2.ensures) ∙ c.other_end.ensures.value ∙ ap (λ r. option_map_or (λ (e : ℕ × ℕ). link e.0 e.1 (Object c.args.o) ∷ []) r []) c.in-None.is in
    alone_none m well c.args.o c.args.f c.args.value c.requires.of_feature alone
