-- What the code answers, where a definition gives trees of operations.
use Rattle.std.specs.Prelude.{◌≡◌, List, Result, Ok, Err}
use Rattle.wb_base.specs.Answering.{IsRefusal}
use Rattle.wb_json.specs.Place.{Place}
use Rattle.wb_json.specs.Form.{place_of}
use Rattle.wb_json.specs.declared.wrong.Wrong.{Wrong}
use Rattle.wb_viewpoint.specs.OperationTrees.{Tree, Trees}
use Rattle.wb_viewpoint.specs.View.{tree_of, trees_of}
use Rattle.wb_viewpoint.specs.declared.operations.Operation.{Operation}

abbrev pub GivesTree : Result Operation Wrong → Result Tree Place → Type 0
GivesTree (Ok o) given = given ≡ Ok (tree_of o)
GivesTree (Err wrong) given = IsRefusal (place_of wrong) given

abbrev pub GivesTrees : Result (List Operation) Wrong → Result Trees Place → Type 0
GivesTrees (Ok os) given = given ≡ Ok (trees_of os)
GivesTrees (Err wrong) given = IsRefusal (place_of wrong) given
