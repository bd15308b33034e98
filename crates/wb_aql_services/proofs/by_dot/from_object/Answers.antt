use Rattle.std.proofs.Common.{ap}
use Rattle.wb_aql_values.specs.Readings.{contents}
use Rattle.wb_aql_values.specs.Runs.{run}
use Rattle.wb_aql_services.specs.Navigation.{from_object}
use Rattle.wb_aql_services.proofs.Choices.{as_given}
use Rattle.wb_aql_services.proofs.by_dot.from_object.Goals as goal

pub returns-in-EContainer : goal.returns-in-EContainer
unfolding from_object
returns-in-EContainer c =
    as_given _ _ c.e_container.result c.e_container.new.reads (ap (λ s. run (from_object c.args.model.now.metamodel s c.args.asked.now c.args.o c.args.class) (contents c.args.model.now) c.args.reads.now) c.in-EContainer.is) c.e_container.ensures

pub returns-in-EContents : goal.returns-in-EContents
unfolding from_object
returns-in-EContents c =
    as_given _ _ c.e_contents.result c.e_contents.new.reads (ap (λ s. run (from_object c.args.model.now.metamodel s c.args.asked.now c.args.o c.args.class) (contents c.args.model.now) c.args.reads.now) c.in-EContents.is) c.e_contents.ensures

pub returns-in-EAllContents : goal.returns-in-EAllContents
unfolding from_object
returns-in-EAllContents c =
    as_given _ _ c.e_all_contents.result c.e_all_contents.new.reads (ap (λ s. run (from_object c.args.model.now.metamodel s c.args.asked.now c.args.o c.args.class) (contents c.args.model.now) c.args.reads.now) c.in-EAllContents.is) c.e_all_contents.ensures

pub returns-in-EInverse : goal.returns-in-EInverse
unfolding from_object
returns-in-EInverse c =
    as_given _ _ c.e_inverse.result c.e_inverse.new.reads (ap (λ s. run (from_object c.args.model.now.metamodel s c.args.asked.now c.args.o c.args.class) (contents c.args.model.now) c.args.reads.now) c.in-EInverse.is) c.e_inverse.ensures

pub returns-in-Ancestors : goal.returns-in-Ancestors
unfolding from_object
returns-in-Ancestors c =
    as_given _ _ c.ancestors.result c.ancestors.new.reads (ap (λ s. run (from_object c.args.model.now.metamodel s c.args.asked.now c.args.o c.args.class) (contents c.args.model.now) c.args.reads.now) c.in-Ancestors.is) c.ancestors.ensures

pub returns-in-Siblings : goal.returns-in-Siblings
unfolding from_object
returns-in-Siblings c =
    as_given _ _ c.siblings.result c.siblings.new.reads (ap (λ s. run (from_object c.args.model.now.metamodel s c.args.asked.now c.args.o c.args.class) (contents c.args.model.now) c.args.reads.now) c.in-Siblings.is) c.siblings.ensures

pub returns-in-PrecedingSiblings : goal.returns-in-PrecedingSiblings
unfolding from_object
returns-in-PrecedingSiblings c =
    as_given _ _ c.preceding.result c.preceding.new.reads (ap (λ s. run (from_object c.args.model.now.metamodel s c.args.asked.now c.args.o c.args.class) (contents c.args.model.now) c.args.reads.now) c.in-PrecedingSiblings.is) c.preceding.ensures

pub returns-in-FollowingSiblings : goal.returns-in-FollowingSiblings
unfolding from_object
returns-in-FollowingSiblings c =
    as_given _ _ c.following.result c.following.new.reads (ap (λ s. run (from_object c.args.model.now.metamodel s c.args.asked.now c.args.o c.args.class) (contents c.args.model.now) c.args.reads.now) c.in-FollowingSiblings.is) c.following.ensures
