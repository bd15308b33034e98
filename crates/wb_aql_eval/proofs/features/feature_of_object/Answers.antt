use Rattle.std.proofs.Common.{◌≡◌, ◌<◌, length, false, Ok, Some, sym, ap, subst, ◌∙◌}
use Rattle.wb_metamodel.specs.Metamodel.{feature_named, feature_at}
use Rattle.wb_ecore.specs.declared.features.Feature.{Feature}
use Rattle.std.specs.Option.{option_map_or}
use Rattle.wb_store.specs.Contents.{slot}
use Rattle.wb_store.specs.declared.scalars.Cell.TheVariants.{Slot}
use Rattle.wb_aql_values.specs.Runs.{with_read}
use Rattle.wb_aql_values.proofs.RunLemmas.{returned}
use Rattle.wb_aql_eval.specs.Features.{shown}
use Rattle.wb_metamodel.proofs.Ranges.{feature_in_range}
use Rattle.wb_aql_eval.proofs.Navigating.{class_stopped, no_feature, a_feature}
use Rattle.wb_aql_eval.proofs.features.feature_of_object.Goals as goal

pub returns-in_err-class : goal.returns-in_err-class
returns-in_err-class c =
    returned _ c.from_residual.result c.in_err-class.field-0.0 c.look_at_class.new.reads c.from_residual.ensures.1
    (class_stopped c.args.model.now c.args.name.now c.args.o c.args.reads.now c.in_err-class.field-0.0 c.look_at_class.new.reads c.in_err-class.ensures.class)

pub returns-in-None : goal.returns-in-None
returns-in-None c =
    no_feature c.args.model.now c.args.name.now c.args.o c.args.reads.now c.in_ok-class.class c.look_at_class.new.reads c.in_ok-class.ensures.class
    (ap (λ mm. feature_named mm c.in_ok-class.class c.args.name.now) (sym c.metamodel.ensures) ∙ (ap (λ w. feature_named c.metamodel.result.now c.in_ok-class.class w) (sym c.as_slice.ensures.same) ∙ (sym c.feature_named.ensures.named ∙ c.in-None.is)))

pub feature-requires : goal.feature-requires
feature-requires c =
    subst (λ mm. c.in-Some.feature < length mm.features) (sym c.metamodel-in-Some.ensures)
    (feature_in_range c.args.model.now.metamodel c.in_ok-class.class c.args.name.now c.in-Some.feature (ap (λ mm. feature_named mm c.in_ok-class.class c.args.name.now) (sym c.metamodel.ensures) ∙ (ap (λ w. feature_named c.metamodel.result.now c.in_ok-class.class w) (sym c.as_slice.ensures.same) ∙ (sym c.feature_named.ensures.named ∙ c.in-Some.is))))

pub returns-in_ok-shown-in-Some : goal.returns-in_ok-shown-in-Some
returns-in_ok-shown-in-Some c =
    let at : feature_at c.args.model.now.metamodel c.in-Some.feature ≡ Some c.feature.result.now = ap (λ mm. feature_at mm c.in-Some.feature) (sym c.metamodel-in-Some.ensures) ∙ c.feature.ensures in
    let many = ap (λ found. option_map_or (λ (feature : Feature). feature.many) found false) at in
    a_feature c.args.model.now c.args.name.now c.args.o c.args.reads.now c.in_ok-class.class c.look_at_class.new.reads c.in_ok-class.ensures.class c.in-Some.feature
    (ap (λ mm. feature_named mm c.in_ok-class.class c.args.name.now) (sym c.metamodel.ensures) ∙ (ap (λ w. feature_named c.metamodel.result.now c.in_ok-class.class w) (sym c.as_slice.ensures.same) ∙ (sym c.feature_named.ensures.named ∙ c.in-Some.is)))
    ∙ (ap (λ b. record { gave = Ok (shown b (slot c.args.model.now c.args.o c.in-Some.feature)); reads = with_read c.look_at_class.new.reads (Slot c.args.o c.in-Some.feature) }) many
    ∙ (ap (λ xs. record { gave = Ok (shown c.feature.result.now.many xs); reads = with_read c.look_at_class.new.reads (Slot c.args.o c.in-Some.feature) }) (sym c.get.ensures)
    ∙ (ap (λ v. record { gave = Ok v; reads = with_read c.look_at_class.new.reads (Slot c.args.o c.in-Some.feature) }) (sym c.in_ok-shown-in-Some.ensures) ∙ ap (λ rs. record { gave = Ok c.in_ok-shown-in-Some.field-0; reads = rs }) (sym c.in_ok-note-in-Some.ensures.ok))))
