-- What is true of every edit that is given as data and accepted.
use Rattle.std.proofs.Common.{◌≡◌, ◌≤◌}
use Rattle.std.specs.Prelude.{Ok}
use Rattle.wb_metamodel.specs.WellFormed.{WellFormed}
use Rattle.wb_store.specs.Contents.{Contents}
use Rattle.wb_validity.specs.Valid.{IsValid}
use Rattle.wb_model.specs.declared.edits.edit.Edit.{Edit}
use Rattle.wb_model.specs.declared.edits.edit.Edit.TheVariants.{Create, Set, Add, Take, Unset, MoveTo, Remove}
use Rattle.wb_model.specs.GivenEdits.{edit_of}
use Rattle.wb_model.specs.EditLaws.{IsEdited}
use Rattle.wb_model.specs.EditLaws.IsEdited.{by_set, by_add, by_take, by_unset, by_move, by_remove, by_create}
use Rattle.wb_model.proofs.EditLaws.{kept, same_metamodel, numbers-fresh}

pub given-edited : (edit : Edit) (m n : Contents) → edit_of edit m ≡ Ok n → IsEdited m n
given-edited (Create class place) m n h = by_create class place h
given-edited (Set o f v) m n h = by_set o f v h
given-edited (Add o f v) m n h = by_add o f v h
given-edited (Take o f v) m n h = by_take o f v h
given-edited (Unset o f) m n h = by_unset o f h
given-edited (MoveTo o p f) m n h = by_move o p f h
given-edited (Remove o) m n h = by_remove o h

pub given-valid : (edit : Edit) (m n : Contents) → WellFormed m.metamodel → IsValid m → edit_of edit m ≡ Ok n → IsValid n
given-valid edit m n well v h = kept m n well v (given-edited edit m n h)

pub given-metamodel : (edit : Edit) (m n : Contents) → edit_of edit m ≡ Ok n → n.metamodel ≡ m.metamodel
given-metamodel edit m n h = same_metamodel m n (given-edited edit m n h)

pub given-next : (edit : Edit) (m n : Contents) → edit_of edit m ≡ Ok n → m.next ≤ n.next
given-next edit m n h = (numbers-fresh m n (given-edited edit m n h)).never_falls
