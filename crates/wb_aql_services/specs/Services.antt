-- What each service reads and gives.
use Rattle.std.specs.Prelude.{ℕ, false, not, List, [], Option}
use Rattle.wb_metamodel.specs.Metamodel.{Metamodel}
use Rattle.wb_aql_check.specs.declared.services.Service.{Service}
use Rattle.wb_aql_check.specs.declared.services.Service.TheVariants as s
use Rattle.wb_aql_values.specs.declared.values.Sort.TheVariants as sort
use Rattle.wb_aql_values.specs.declared.values.Value.{Value}
use Rattle.wb_aql_values.specs.declared.values.Value.TheVariants.{Null}
use Rattle.wb_aql_values.specs.Values.{flag}
use Rattle.wb_aql_values.specs.Readings.{Reading, done, lifted}
use Rattle.wb_aql_services.specs.declared.arguments.Argument.{Argument}
use Rattle.wb_aql_services.specs.declared.by_dot.Navigation.{Navigation}
use Rattle.wb_aql_services.specs.declared.by_dot.Navigation.TheVariants as n
use Rattle.wb_aql_services.specs.Asked.{type_in, value_in}
use Rattle.wb_aql_services.specs.Types.{conforms_to, is_exactly, tested, as_type}
use Rattle.wb_aql_services.specs.Navigation.{of_object, from_object}
use Rattle.wb_aql_services.specs.Texts.{of_form, concat, begins}
use Rattle.wb_aql_services.specs.Collections as c

-- a service from an object, taken of each member of a collection; of null it is null
unfoldable pub navigated : Metamodel → Navigation → Option ℕ → Value → Reading Value
navigated mm way t receiver = lifted (done Null) (of_object (from_object mm way t)) receiver

-- a service on its receiver: those by `.` are taken of each member of a collection, those by `->` of the collection as a whole
unfoldable pub on_receiver : Metamodel → Service → Option ℕ → Value → Value → Reading Value
on_receiver mm s.EContainer t v receiver = navigated mm n.EContainer t receiver
on_receiver mm s.EContents t v receiver = navigated mm n.EContents t receiver
on_receiver mm s.EAllContents t v receiver = navigated mm n.EAllContents t receiver
on_receiver mm s.EInverse t v receiver = navigated mm n.EInverse t receiver
on_receiver mm s.Ancestors t v receiver = navigated mm n.Ancestors t receiver
on_receiver mm s.Siblings t v receiver = navigated mm n.Siblings t receiver
on_receiver mm s.PrecedingSiblings t v receiver = navigated mm n.PrecedingSiblings t receiver
on_receiver mm s.FollowingSiblings t v receiver = navigated mm n.FollowingSiblings t receiver
on_receiver mm s.OclIsKindOf t v receiver = lifted (done (flag false)) (tested (conforms_to mm t)) receiver
on_receiver mm s.OclIsTypeOf t v receiver = lifted (done (flag false)) (tested (is_exactly t)) receiver
on_receiver mm s.OclAsType t v receiver = lifted (done Null) (as_type mm t) receiver
on_receiver mm s.Concat t v receiver = lifted (concat mm v []) (of_form mm (concat mm v)) receiver
on_receiver mm s.StartsWith t v receiver = lifted (begins mm v []) (of_form mm (begins mm v)) receiver
on_receiver mm s.Filter t v receiver = c.filtered mm t receiver
on_receiver mm s.First t v receiver = done (c.first receiver)
on_receiver mm s.Last t v receiver = done (c.last receiver)
on_receiver mm s.At t v receiver = c.at v receiver
on_receiver mm s.Size t v receiver = done (c.size receiver)
on_receiver mm s.IsEmpty t v receiver = done (flag (c.is_empty receiver))
on_receiver mm s.NotEmpty t v receiver = done (flag (not (c.is_empty receiver)))
on_receiver mm s.Includes t v receiver = done (flag (c.includes v receiver))
on_receiver mm s.Excludes t v receiver = done (flag (not (c.includes v receiver)))
on_receiver mm s.Including t v receiver = c.including v receiver
on_receiver mm s.Excluding t v receiver = done (c.excluding v receiver)
on_receiver mm s.AsSequence t v receiver = c.as_sort sort.Sequence receiver
on_receiver mm s.AsOrderedSet t v receiver = c.as_sort sort.OrderedSet receiver

-- a service with its arguments
unfoldable pub meaning : Metamodel → Service → Value → List Argument → Reading Value
meaning mm service receiver arguments = on_receiver mm service (type_in arguments) (value_in arguments) receiver
