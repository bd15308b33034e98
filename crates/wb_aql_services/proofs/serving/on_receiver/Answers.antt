use Rattle.std.proofs.Common.{Ok, sym, ap, ◌∙◌}
use Rattle.wb_aql_values.specs.Readings.{contents}
use Rattle.wb_aql_values.specs.Runs.{run}
use Rattle.wb_aql_services.specs.Services.{on_receiver}
use Rattle.wb_aql_services.proofs.Choices.{as_given}
use Rattle.wb_aql_services.proofs.serving.on_receiver.Goals as goal

pub returns-in-Filter : goal.returns-in-Filter
unfolding on_receiver
returns-in-Filter c = as_given _ _ c.filtered.result c.filtered.new.reads (ap (λ s. run (on_receiver c.args.model.now.metamodel s c.args.asked.now c.args.value.now c.args.receiver.now) (contents c.args.model.now) c.args.reads.now) c.in-Filter.is) c.filtered.ensures

pub returns-in-At : goal.returns-in-At
unfolding on_receiver
returns-in-At c = as_given _ _ c.at.result c.at.new.reads (ap (λ s. run (on_receiver c.args.model.now.metamodel s c.args.asked.now c.args.value.now c.args.receiver.now) (contents c.args.model.now) c.args.reads.now) c.in-At.is) c.at.ensures

pub returns-in-Including : goal.returns-in-Including
unfolding on_receiver
returns-in-Including c = as_given _ _ c.including.result c.including.new.reads (ap (λ s. run (on_receiver c.args.model.now.metamodel s c.args.asked.now c.args.value.now c.args.receiver.now) (contents c.args.model.now) c.args.reads.now) c.in-Including.is) c.including.ensures

pub returns-in-AsSequence : goal.returns-in-AsSequence
unfolding on_receiver
returns-in-AsSequence c = as_given _ _ c.as_sort.result c.as_sort.new.reads (ap (λ s. run (on_receiver c.args.model.now.metamodel s c.args.asked.now c.args.value.now c.args.receiver.now) (contents c.args.model.now) c.args.reads.now) c.in-AsSequence.is) c.as_sort.ensures

pub returns-in-AsOrderedSet : goal.returns-in-AsOrderedSet
unfolding on_receiver
returns-in-AsOrderedSet c = as_given _ _ c.as_sort-in-AsOrderedSet.result c.as_sort-in-AsOrderedSet.new.reads (ap (λ s. run (on_receiver c.args.model.now.metamodel s c.args.asked.now c.args.value.now c.args.receiver.now) (contents c.args.model.now) c.args.reads.now) c.in-AsOrderedSet.is) c.as_sort-in-AsOrderedSet.ensures

pub returns-in_ok-first-in-First : goal.returns-in_ok-first-in-First
unfolding on_receiver run
returns-in_ok-first-in-First c = ap (λ s. run (on_receiver c.args.model.now.metamodel s c.args.asked.now c.args.value.now c.args.receiver.now) (contents c.args.model.now) c.args.reads.now) c.in-First.is ∙ ap (λ v. record { gave = Ok v; reads = c.args.reads.now }) (sym c.in_ok-first-in-First.ensures)

pub returns-in_ok-last-in-Last : goal.returns-in_ok-last-in-Last
unfolding on_receiver run
returns-in_ok-last-in-Last c = ap (λ s. run (on_receiver c.args.model.now.metamodel s c.args.asked.now c.args.value.now c.args.receiver.now) (contents c.args.model.now) c.args.reads.now) c.in-Last.is ∙ ap (λ v. record { gave = Ok v; reads = c.args.reads.now }) (sym c.in_ok-last-in-Last.ensures)

pub returns-in_ok-excluding-in-Excluding : goal.returns-in_ok-excluding-in-Excluding
unfolding on_receiver run
returns-in_ok-excluding-in-Excluding c = ap (λ s. run (on_receiver c.args.model.now.metamodel s c.args.asked.now c.args.value.now c.args.receiver.now) (contents c.args.model.now) c.args.reads.now) c.in-Excluding.is ∙ ap (λ v. record { gave = Ok v; reads = c.args.reads.now }) (sym c.in_ok-excluding-in-Excluding.ensures)

pub returns-in-Size : goal.returns-in-Size
unfolding on_receiver run
returns-in-Size c = ap (λ s. run (on_receiver c.args.model.now.metamodel s c.args.asked.now c.args.value.now c.args.receiver.now) (contents c.args.model.now) c.args.reads.now) c.in-Size.is ∙ ap (λ v. record { gave = Ok v; reads = c.args.reads.now }) (sym c.size.ensures)

pub returns-in-IsEmpty : goal.returns-in-IsEmpty
unfolding on_receiver run
returns-in-IsEmpty c = ap (λ s. run (on_receiver c.args.model.now.metamodel s c.args.asked.now c.args.value.now c.args.receiver.now) (contents c.args.model.now) c.args.reads.now) c.in-IsEmpty.is ∙ ap (λ v. record { gave = Ok v; reads = c.args.reads.now }) (sym c.is_empty.ensures)

pub returns-in-NotEmpty : goal.returns-in-NotEmpty
unfolding on_receiver run
returns-in-NotEmpty c = ap (λ s. run (on_receiver c.args.model.now.metamodel s c.args.asked.now c.args.value.now c.args.receiver.now) (contents c.args.model.now) c.args.reads.now) c.in-NotEmpty.is ∙ ap (λ v. record { gave = Ok v; reads = c.args.reads.now }) (sym c.not_empty.ensures)

pub returns-in-Includes : goal.returns-in-Includes
unfolding on_receiver run
returns-in-Includes c = ap (λ s. run (on_receiver c.args.model.now.metamodel s c.args.asked.now c.args.value.now c.args.receiver.now) (contents c.args.model.now) c.args.reads.now) c.in-Includes.is ∙ ap (λ v. record { gave = Ok v; reads = c.args.reads.now }) (sym c.includes.ensures)

pub returns-in-Excludes : goal.returns-in-Excludes
unfolding on_receiver run
returns-in-Excludes c = ap (λ s. run (on_receiver c.args.model.now.metamodel s c.args.asked.now c.args.value.now c.args.receiver.now) (contents c.args.model.now) c.args.reads.now) c.in-Excludes.is ∙ ap (λ v. record { gave = Ok v; reads = c.args.reads.now }) (sym c.excludes.ensures)

pub returns-in-EContainer : goal.returns-in-EContainer
unfolding on_receiver
returns-in-EContainer c = as_given _ _ c.navigate.result c.navigate.new.reads (ap (λ s. run (on_receiver c.args.model.now.metamodel s c.args.asked.now c.args.value.now c.args.receiver.now) (contents c.args.model.now) c.args.reads.now) c.in-EContainer.is) c.navigate.ensures

pub returns-in-EContents : goal.returns-in-EContents
unfolding on_receiver
returns-in-EContents c = as_given _ _ c.navigate-in-EContents.result c.navigate-in-EContents.new.reads (ap (λ s. run (on_receiver c.args.model.now.metamodel s c.args.asked.now c.args.value.now c.args.receiver.now) (contents c.args.model.now) c.args.reads.now) c.in-EContents.is) c.navigate-in-EContents.ensures

pub returns-in-EAllContents : goal.returns-in-EAllContents
unfolding on_receiver
returns-in-EAllContents c = as_given _ _ c.navigate-in-EAllContents.result c.navigate-in-EAllContents.new.reads (ap (λ s. run (on_receiver c.args.model.now.metamodel s c.args.asked.now c.args.value.now c.args.receiver.now) (contents c.args.model.now) c.args.reads.now) c.in-EAllContents.is) c.navigate-in-EAllContents.ensures

pub returns-in-EInverse : goal.returns-in-EInverse
unfolding on_receiver
returns-in-EInverse c = as_given _ _ c.navigate-in-EInverse.result c.navigate-in-EInverse.new.reads (ap (λ s. run (on_receiver c.args.model.now.metamodel s c.args.asked.now c.args.value.now c.args.receiver.now) (contents c.args.model.now) c.args.reads.now) c.in-EInverse.is) c.navigate-in-EInverse.ensures

pub returns-in-Ancestors : goal.returns-in-Ancestors
unfolding on_receiver
returns-in-Ancestors c = as_given _ _ c.navigate-in-Ancestors.result c.navigate-in-Ancestors.new.reads (ap (λ s. run (on_receiver c.args.model.now.metamodel s c.args.asked.now c.args.value.now c.args.receiver.now) (contents c.args.model.now) c.args.reads.now) c.in-Ancestors.is) c.navigate-in-Ancestors.ensures

pub returns-in-Siblings : goal.returns-in-Siblings
unfolding on_receiver
returns-in-Siblings c = as_given _ _ c.navigate-in-Siblings.result c.navigate-in-Siblings.new.reads (ap (λ s. run (on_receiver c.args.model.now.metamodel s c.args.asked.now c.args.value.now c.args.receiver.now) (contents c.args.model.now) c.args.reads.now) c.in-Siblings.is) c.navigate-in-Siblings.ensures

pub returns-in-PrecedingSiblings : goal.returns-in-PrecedingSiblings
unfolding on_receiver
returns-in-PrecedingSiblings c = as_given _ _ c.navigate-in-PrecedingSiblings.result c.navigate-in-PrecedingSiblings.new.reads (ap (λ s. run (on_receiver c.args.model.now.metamodel s c.args.asked.now c.args.value.now c.args.receiver.now) (contents c.args.model.now) c.args.reads.now) c.in-PrecedingSiblings.is) c.navigate-in-PrecedingSiblings.ensures

pub returns-in-FollowingSiblings : goal.returns-in-FollowingSiblings
unfolding on_receiver
returns-in-FollowingSiblings c = as_given _ _ c.navigate-in-FollowingSiblings.result c.navigate-in-FollowingSiblings.new.reads (ap (λ s. run (on_receiver c.args.model.now.metamodel s c.args.asked.now c.args.value.now c.args.receiver.now) (contents c.args.model.now) c.args.reads.now) c.in-FollowingSiblings.is) c.navigate-in-FollowingSiblings.ensures

pub returns-in-OclIsKindOf : goal.returns-in-OclIsKindOf
unfolding on_receiver
returns-in-OclIsKindOf c = as_given _ _ c.lift.result c.lift.new.reads (ap (λ s. run (on_receiver c.args.model.now.metamodel s c.args.asked.now c.args.value.now c.args.receiver.now) (contents c.args.model.now) c.args.reads.now) c.in-OclIsKindOf.is) c.lift.ensures

pub returns-in-OclIsTypeOf : goal.returns-in-OclIsTypeOf
unfolding on_receiver
returns-in-OclIsTypeOf c = as_given _ _ c.lift-in-OclIsTypeOf.result c.lift-in-OclIsTypeOf.new.reads (ap (λ s. run (on_receiver c.args.model.now.metamodel s c.args.asked.now c.args.value.now c.args.receiver.now) (contents c.args.model.now) c.args.reads.now) c.in-OclIsTypeOf.is) c.lift-in-OclIsTypeOf.ensures

pub returns-in-OclAsType : goal.returns-in-OclAsType
unfolding on_receiver
returns-in-OclAsType c = as_given _ _ c.lift-in-OclAsType.result c.lift-in-OclAsType.new.reads (ap (λ s. run (on_receiver c.args.model.now.metamodel s c.args.asked.now c.args.value.now c.args.receiver.now) (contents c.args.model.now) c.args.reads.now) c.in-OclAsType.is) c.lift-in-OclAsType.ensures

pub returns-in-Concat : goal.returns-in-Concat
unfolding on_receiver
returns-in-Concat c = as_given _ _ c.lift-in-Concat.result c.lift-in-Concat.new.reads (ap (λ s. run (on_receiver c.args.model.now.metamodel s c.args.asked.now c.args.value.now c.args.receiver.now) (contents c.args.model.now) c.args.reads.now) c.in-Concat.is) c.lift-in-Concat.ensures

pub returns-in-StartsWith : goal.returns-in-StartsWith
unfolding on_receiver
returns-in-StartsWith c = as_given _ _ c.lift-in-StartsWith.result c.lift-in-StartsWith.new.reads (ap (λ s. run (on_receiver c.args.model.now.metamodel s c.args.asked.now c.args.value.now c.args.receiver.now) (contents c.args.model.now) c.args.reads.now) c.in-StartsWith.is) c.lift-in-StartsWith.ensures
