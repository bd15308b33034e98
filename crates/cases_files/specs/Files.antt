-- What stands in the files of a shelf.
use Rattle.std.specs.Prelude.{◌≡◌, ℕ, List, Option, None, Some}
use Rattle.std.specs.Result.{result_ok}
use Rattle.wb_base.specs.Options.{◌>>=◌}
use Rattle.wb_metamodel.specs.Metamodel.{Metamodel}
use Rattle.wb_metamodel.specs.Checks.{metamodel}
use Rattle.wb_store.specs.Contents.{Contents}
use Rattle.wb_model_json.specs.ModelFile.{model}
use Rattle.wb_outer.specs.Shelf.{ShelfTold, Gives}
use Rattle.wb_outer.specs.declared.shelf.Taken.{Taken}
use Rattle.wb_outer.specs.declared.shelf.Taken.TheVariants.{Bytes, TooBig, Failed}

-- the bytes that an answer gives
abbrev pub bytes_given : Taken → Option (List ℕ)
bytes_given (Bytes bytes) = Some bytes
bytes_given TooBig = None
bytes_given Failed = None

-- the shelf answered a call for this name, and these are the bytes that it gave
pub record TakesFile (old new : ShelfTold) (name : List ℕ) (found : Option (List ℕ)) : Type 0 where
  pub answer : Taken
  pub gives : Gives old new name answer
  pub is : found ≡ bytes_given answer

-- the metamodel that the bytes of a file are
abbrev pub metamodel_of : Option (List ℕ) → Option Metamodel
metamodel_of file = file >>= (λ bytes. result_ok (metamodel bytes))

-- the model over a metamodel that the bytes of a file are
abbrev pub model_over : Metamodel → Option (List ℕ) → Option Contents
model_over mm file = file >>= (λ bytes. result_ok (model mm bytes))

-- one call for the file of a metamodel, which these bytes are
pub record TakesMetamodel (old new : ShelfTold) (name : List ℕ) (found : Option Metamodel) : Type 0 where
  pub file : Option (List ℕ)
  pub takes : TakesFile old new name file
  pub is : found ≡ metamodel_of file

-- one call for the file of a model over the metamodel, which these bytes are
pub record TakesOver (mm : Metamodel) (old new : ShelfTold) (name : List ℕ) (found : Option Contents) : Type 0 where
  pub file : Option (List ℕ)
  pub takes : TakesFile old new name file
  pub is : found ≡ model_over mm file

-- where there is a metamodel, the file of the model is taken too; else nothing more is asked
abbrev pub Continues : Option Metamodel → ShelfTold → ShelfTold → List ℕ → Option Contents → Type 0
Continues None between new name found = (new ≡ between) × (found ≡ None)
Continues (Some mm) between new name found = TakesOver mm between new name found

-- the model in one file over the metamodel in another
pub record TakesModel (old new : ShelfTold) (schema name : List ℕ) (found : Option Contents) : Type 0 where
  pub metamodel : Option Metamodel
  pub between : ShelfTold
  pub first : TakesMetamodel old between schema metamodel
  pub then : Continues metamodel between new name found
