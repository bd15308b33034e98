-- What has a name, and what has a number: its place in a list.
pub use Rattle.wb_base.specs.Names.{same_name}
pub use Rattle.wb_base.specs.Lists.{numbers}
