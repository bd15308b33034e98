pub mod NamedEdits
