-- The forms of tools and their operations. Operations are numbered on the way: each before those inside it.
use Rattle.std.specs.Prelude.{ℕ, suc, ◌+◌, Bool, true, false, List, [], ◌∷◌, Option, Some, None, option_map, Result, Ok, Err, codes}
use Rattle.std.specs.Ordering.{match_ordering, nat_cmp}
use Rattle.std.specs.Cmp.Lexicographic.{slice_cmp}
use Rattle.serde_json.specs.Data.{Data, null, boolean, number, string, array, object, Items, no_items, item, Members, no_members, member}
use Rattle.serde_json.specs.Find.{get}
use Rattle.wb_json.specs.Place.{Place, at_member, at_index}
use Rattle.wb_json.specs.Form.{◌>>=◌, name_of, word_of, listed, needed, optional}
use Rattle.wb_viewpoint.specs.Forms.{expression_of}
use Rattle.wb_viewpoint.specs.OperationTrees.{Tree, Trees, operation, no_trees, trees, count}
use Rattle.wb_viewpoint.specs.declared.operations.Action.{Action}
use Rattle.wb_viewpoint.specs.declared.operations.Action.TheVariants as a
use Rattle.wb_viewpoint.specs.declared.operation_kinds.OperationKind.{OperationKind}
use Rattle.wb_viewpoint.specs.declared.operation_kinds.OperationKind.TheVariants as kind
use Rattle.wb_viewpoint.specs.declared.operation_reader.Head.{Head}
use Rattle.wb_viewpoint.specs.declared.tools.Tool.{Tool}
use Rattle.wb_viewpoint.specs.declared.tools.ToolKind.{ToolKind}
use Rattle.wb_viewpoint.specs.declared.tools.ToolKind.TheVariants as tool

-- the words for the sorts of operations
abbrev pub operation_kinds : List (List ℕ × OperationKind)
operation_kinds =
    (codes "change_context", kind.ChangeContext) ∷ (codes "create_instance", kind.CreateInstance) ∷ (codes "set", kind.Set) ∷ (codes "unset", kind.Unset)
    ∷ (codes "move", kind.Move) ∷ (codes "remove", kind.Remove) ∷ (codes "for", kind.For) ∷ (codes "if", kind.If) ∷ []

abbrev pub operation_kind_of : Data → Result OperationKind Place
operation_kind_of d = word_of operation_kinds d

-- ---- what an operation does: all its members but those inside

abbrev pub change_context_of : Data → Result Action Place
change_context_of d = do
  _ ← listed (codes "op" ∷ codes "browse" ∷ codes "do" ∷ []) d
  browse ← needed (codes "browse") expression_of d
  Ok (a.ChangeContext browse)

abbrev pub create_instance_of : Data → Result Action Place
create_instance_of d = do
  _ ← listed (codes "op" ∷ codes "reference" ∷ codes "class" ∷ codes "variable" ∷ codes "do" ∷ []) d
  reference ← needed (codes "reference") name_of d
  class ← needed (codes "class") name_of d
  variable ← needed (codes "variable") name_of d
  Ok (a.CreateInstance reference class variable)

abbrev pub set_of : Data → Result Action Place
set_of d = do
  _ ← listed (codes "op" ∷ codes "feature" ∷ codes "value" ∷ []) d
  feature ← needed (codes "feature") name_of d
  value ← needed (codes "value") expression_of d
  Ok (a.Set feature value)

abbrev pub unset_of : Data → Result Action Place
unset_of d = do
  _ ← listed (codes "op" ∷ codes "feature" ∷ codes "value" ∷ []) d
  feature ← needed (codes "feature") name_of d
  value ← optional (codes "value") expression_of d
  Ok (a.Unset feature value)

abbrev pub move_of : Data → Result Action Place
move_of d = do
  _ ← listed (codes "op" ∷ codes "to" ∷ codes "reference" ∷ []) d
  to ← needed (codes "to") expression_of d
  reference ← needed (codes "reference") name_of d
  Ok (a.Move to reference)

abbrev pub remove_of : Data → Result Action Place
remove_of d = listed (codes "op" ∷ []) d >>= (λ _. Ok a.Remove)

abbrev pub for_of : Data → Result Action Place
for_of d = do
  _ ← listed (codes "op" ∷ codes "items" ∷ codes "iterator" ∷ codes "do" ∷ []) d
  items ← needed (codes "items") expression_of d
  iterator ← needed (codes "iterator") name_of d
  Ok (a.For items iterator)

abbrev pub if_of : Data → Result Action Place
if_of d = do
  _ ← listed (codes "op" ∷ codes "condition" ∷ codes "do" ∷ []) d
  condition ← needed (codes "condition") expression_of d
  Ok (a.If condition)

unfoldable pub action_of : OperationKind → Data → Result Action Place
action_of kind.ChangeContext d = change_context_of d
action_of kind.CreateInstance d = create_instance_of d
action_of kind.Set d = set_of d
action_of kind.Unset d = unset_of d
action_of kind.Move d = move_of d
action_of kind.Remove d = remove_of d
action_of kind.For d = for_of d
action_of kind.If d = if_of d

-- must there be a list of operations inside? Where `do` is not listed, it is absent.
abbrev pub needs_inside : OperationKind → Bool
needs_inside kind.ChangeContext = true
needs_inside kind.CreateInstance = false
needs_inside kind.Set = false
needs_inside kind.Unset = false
needs_inside kind.Move = false
needs_inside kind.Remove = false
needs_inside kind.For = true
needs_inside kind.If = true

unfoldable pub head_of : Data → Result Head Place
head_of d = do
  kind ← needed (codes "op") operation_kind_of d
  action ← action_of kind d
  Ok (record { action = action; needs_inside = needs_inside kind })

-- ---- operations with those inside

-- the operations inside, from what stands at `do`
abbrev pub inside : Bool → Option (Result Trees Place) → Result Trees Place
inside needed (Some found) = at_member (codes "do") found
inside true None = Err []
inside false None = Ok no_trees

abbrev pub with_inside : ℕ → Data → Option (Result Trees Place) → Result Tree Place
with_inside n d found = do
  head ← head_of d
  operations ← inside head.needs_inside found
  Ok (operation n head.action operations)

abbrev mutual
  -- the operation of this number
  pub operation_of : ℕ → Data → Result Tree Place
  operation_of n null = with_inside n null None
  operation_of n (boolean b) = with_inside n (boolean b) None
  operation_of n (number x) = with_inside n (number x) None
  operation_of n (string s) = with_inside n (string s) None
  operation_of n (array ds) = with_inside n (array ds) None
  operation_of n (object ms) = with_inside n (object ms) (done_in (suc n) ms)

  -- what stands at `do` among the members; its first operation has this number
  pub done_in : ℕ → Members → Option (Result Trees Place)
  done_in n no_members = None
  done_in n (member name d ms) = match_ordering (slice_cmp nat_cmp (codes "do") name) (done_in n ms) (Some (operations_of n d)) (done_in n ms)

  -- a list of operations, of which the first has this number
  pub operations_of : ℕ → Data → Result Trees Place
  operations_of n null = Err []
  operations_of n (boolean b) = Err []
  operations_of n (number x) = Err []
  operations_of n (string s) = Err []
  operations_of n (array ds) = operations_from n 0 ds
  operations_of n (object ms) = Err []

  -- the items from a place of the list on
  pub operations_from : (number place : ℕ) → Items → Result Trees Place
  operations_from n i no_items = Ok no_trees
  operations_from n i (item d ds) = at_index i (operation_of n d) >>= (λ x. operations_from (n + count x) (suc i) ds >>= (λ xs. Ok (trees x xs)))

-- ---- tools

-- the words for the kinds of tools
abbrev pub tool_kinds : List (List ℕ × ToolKind)
tool_kinds =
    (codes "node_creation", tool.NodeCreation) ∷ (codes "edge_creation", tool.EdgeCreation) ∷ (codes "delete", tool.Delete)
    ∷ (codes "direct_edit", tool.DirectEdit) ∷ (codes "reconnect", tool.Reconnect) ∷ (codes "drop", tool.Drop) ∷ []

abbrev pub tool_kind_of : Data → Result ToolKind Place
tool_kind_of d = word_of tool_kinds d

-- the operations of a tool: the first has number 1
unfoldable pub done_of : Data → Result Trees Place
done_of d = inside true (option_map (operations_of 1) (get (codes "do") d))

unfoldable pub tool_of : Data → Result Tool Place
tool_of d = do
  _ ← listed (codes "name" ∷ codes "kind" ∷ codes "precondition" ∷ codes "do" ∷ []) d
  name ← needed (codes "name") name_of d
  kind ← needed (codes "kind") tool_kind_of d
  precondition ← optional (codes "precondition") expression_of d
  operations ← done_of d
  Ok (record { name = name; kind = kind; precondition = precondition; operations = operations })
