-- The variables of each kind are those of its scope, each with a value within its bounds.
use Rattle.std.proofs.Common.{◌≡◌, ◌≤◌, ℕ, true, List, length, le-leb, refl}
use Rattle.std.proofs.lemmas.List.Elements.{All-from_recursion}
use Rattle.wb_metamodel.specs.Metamodel.{Metamodel}
use Rattle.wb_diagram.specs.declared.commands.End.{End}
use Rattle.wb_diagram.specs.declared.commands.End.TheVariants.{Source, Target}
use Rattle.wb_viewpoint.specs.declared.tools.ToolKind.TheVariants as kind
use Rattle.wb_spec_check.specs.Scopes.{tool_scope}
use Rattle.wb_aql_values.specs.Bounds.{IsBounded}
use Rattle.wb_arguments.specs.Variables.{AreOf, connected, created, deleted, dropped_to, edited, end_name, reconnected, words}

module _ (mm : Metamodel) where
  pub created_are : (container : ℕ) → AreOf mm kind.NodeCreation (created container)
  unfolding tool_scope
  created_are container = record { names = refl; paired = refl; bounded = All-from_recursion (IsBounded mm) (created container).values (refl, tt) }

  pub connected_are : (source target : ℕ) → AreOf mm kind.EdgeCreation (connected source target)
  unfolding tool_scope
  connected_are source target = record { names = refl; paired = refl; bounded = All-from_recursion (IsBounded mm) (connected source target).values (refl, (refl, tt)) }

  pub deleted_are : (element : ℕ) → AreOf mm kind.Delete (deleted element)
  unfolding tool_scope
  deleted_are element = record { names = refl; paired = refl; bounded = All-from_recursion (IsBounded mm) (deleted element).values (refl, tt) }

  pub edited_are : (element : ℕ) (text : List ℕ) → length text ≤ 65536 → AreOf mm kind.DirectEdit (edited element text)
  unfolding tool_scope
  edited_are element text few = record { names = refl; paired = refl; bounded = All-from_recursion (IsBounded mm) (edited element text).values (refl, (le-leb (length text) 65536 few, tt)) }

  end_bounded : (end : End) → IsBounded mm (words (end_name end))
  end_bounded Source = refl
  end_bounded Target = refl

  pub reconnected_are : (element : ℕ) (end : End) (old new : ℕ) → AreOf mm kind.Reconnect (reconnected element end old new)
  unfolding tool_scope
  reconnected_are element end old new = record {
    names = refl;
    paired = refl;
    bounded = All-from_recursion (IsBounded mm) (reconnected element end old new).values (refl, (end_bounded end, (refl, (refl, tt))));
  }

  pub dropped_are : (element old new : ℕ) → AreOf mm kind.Drop (dropped_to element old new)
  unfolding tool_scope
  dropped_are element old new = record {
    names = refl;
    paired = refl;
    bounded = All-from_recursion (IsBounded mm) (dropped_to element old new).values (refl, (refl, (refl, tt)));
  }
