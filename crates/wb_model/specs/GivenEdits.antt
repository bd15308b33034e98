-- Edits that are given as data.
use Rattle.std.specs.Prelude.{ℕ, ◌<◌, length, Option, Some, None, Result, Ok, Err}
use Rattle.wb_metamodel.specs.Metamodel.{Metamodel}
use Rattle.wb_store.specs.Contents.{Contents}
use Rattle.wb_model.specs.declared.refusals.ModelRefusal.{ModelRefusal}
use Rattle.wb_model.specs.declared.edits.edit.Edit.{Edit}
use Rattle.wb_model.specs.declared.edits.edit.Edit.TheVariants.{Create, Set, Add, Take, Unset, MoveTo, Remove}
use Rattle.wb_model.specs.Edits.{set, add, take_out, unset, move_to, remove, create}
use Rattle.wb_model.specs.EditChecks.{PlaceIsKnown}

-- what an edit makes of a model
abbrev pub edit_of : Edit → Contents → Result Contents ModelRefusal
edit_of (Create class place) m = create m class place
edit_of (Set o f value) m = set m o f value
edit_of (Add o f value) m = add m o f value
edit_of (Take o f value) m = take_out m o f value
edit_of (Unset o f) m = unset m o f
edit_of (MoveTo o p f) m = move_to m o p f
edit_of (Remove o) m = remove m o

-- the class and the feature of an edit are those of the metamodel
abbrev pub EditIsKnown : Metamodel → Edit → Type 0
EditIsKnown metamodel (Create class place) = (class < length metamodel.classes) × PlaceIsKnown metamodel place
EditIsKnown metamodel (Set o f value) = f < length metamodel.features
EditIsKnown metamodel (Add o f value) = f < length metamodel.features
EditIsKnown metamodel (Take o f value) = f < length metamodel.features
EditIsKnown metamodel (Unset o f) = f < length metamodel.features
EditIsKnown metamodel (MoveTo o p f) = f < length metamodel.features
EditIsKnown metamodel (Remove o) = Unit {0}

-- the number of the object that an edit makes, if it makes one: the one that is next
abbrev pub number_made : Edit → Contents → Option ℕ
number_made (Create class place) m = Some m.next
number_made _ m = None

-- the answer of an edit that makes no object
abbrev pub none_made : Result (Unit {0}) ModelRefusal → Result (Option ℕ) ModelRefusal
none_made (Ok done) = Ok None
none_made (Err refusal) = Err refusal
