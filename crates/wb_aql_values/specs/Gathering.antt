-- Members that are put together, as the code keeps them.
use Rattle.std.specs.Prelude.{List}
use Rattle.wb_store.specs.declared.scalars.Scalar.{Scalar}
use Rattle.wb_aql_values.specs.declared.values.Sort.{Sort}
use Rattle.wb_aql_values.specs.declared.values.Sort.TheVariants as sort
use Rattle.wb_aql_values.specs.declared.gathered.Members.{Members}
use Rattle.wb_aql_values.specs.declared.gathered.Members.TheVariants.{Sequence, OrderedSet}

abbrev pub gathered : Members → Sort × List Scalar
gathered (Sequence v) = (sort.Sequence, v.items)
gathered (OrderedSet s) = (sort.OrderedSet, s.keys)
