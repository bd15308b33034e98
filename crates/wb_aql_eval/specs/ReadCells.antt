-- Lists of cells that are read: when two models are alike at them.
use Rattle.std.specs.Prelude.{◌≡◌, List, All}
use Rattle.wb_store.specs.declared.scalars.Cell.{Cell}
use Rattle.wb_store.specs.Contents.{Contents}
use Rattle.wb_aql_values.specs.Readings.{contents}

-- two models of one metamodel, with the same in each of the cells
pub record Alike (a b : Contents) (cells : List Cell) : Type 0 where
  pub metamodel : a.metamodel ≡ b.metamodel
  pub same : All (λ c. contents a c ≡ contents b c) cells
