-- What a session answers, beside what its definitions give.
use Rattle.std.specs.Prelude.{◌≡◌, Option, Some, None, Result, Ok, Err}
use Rattle.wb_base.specs.Answering.{IsRefusal}
use Rattle.wb_model.specs.declared.refusals.ModelRefusal.{ModelRefusal}
use Rattle.wb_model.specs.declared.refusals.ModelRefusal.TheVariants as m
use Rattle.wb_tools.specs.declared.refusals.ToolRefusal.{ToolRefusal}
use Rattle.wb_tools.specs.declared.refusals.ToolRefusal.TheVariants as t
use Rattle.wb_session.specs.declared.accepted.Accepted.{Accepted}
use Rattle.wb_session.specs.declared.refusal.Refusal.{Refusal}
use Rattle.wb_session.specs.declared.refusal.Refusal.TheVariants as r
use Rattle.wb_session.specs.States.{State}
use Rattle.wb_session.specs.Steps.{Stepped}

-- the refusal that an error names; want of memory is none
abbrev pub named : Refusal → Option Refusal
named r.NoMemory = None
named r.Stale = Some r.Stale
named r.RevisionsSpent = Some r.RevisionsSpent
named r.UnknownObject = Some r.UnknownObject
named r.UnknownClass = Some r.UnknownClass
named r.UnknownFeature = Some r.UnknownFeature
named r.UnknownTool = Some r.UnknownTool
named r.BadArguments = Some r.BadArguments
named r.UnknownElement = Some r.UnknownElement
named r.UnknownLayer = Some r.UnknownLayer
named r.UnknownFilter = Some r.UnknownFilter
named r.NotPlaceable = Some r.NotPlaceable
named r.PositionOutOfRange = Some r.PositionOutOfRange
named r.NotUnsynchronised = Some r.NotUnsynchronised
named r.NotCandidate = Some r.NotCandidate
named r.NothingToUndo = Some r.NothingToUndo
named r.NothingToRedo = Some r.NothingToRedo
named (r.Tool refusal) = Some (r.Tool refusal)
named (r.Edit refusal) = Some (r.Edit refusal)
named r.RootRemoved = Some r.RootRemoved
named r.DiagramTooLarge = Some r.DiagramTooLarge

-- an edit's refusal, as that of a command
abbrev pub of_edit : ModelRefusal → Refusal
of_edit m.NoMemory = r.NoMemory
of_edit m.UnknownObject = r.Edit m.UnknownObject
of_edit m.KindMismatch = r.Edit m.KindMismatch
of_edit m.UpperBound = r.Edit m.UpperBound
of_edit m.ContainmentCycle = r.Edit m.ContainmentCycle
of_edit m.AbstractClass = r.Edit m.AbstractClass
of_edit m.TooManyObjects = r.Edit m.TooManyObjects
of_edit m.IdsSpent = r.Edit m.IdsSpent

-- a tool's refusal, as that of a command
abbrev pub of_tool : ToolRefusal → Refusal
of_tool t.NoMemory = r.NoMemory
of_tool t.PreconditionFalse = r.Tool t.PreconditionFalse
of_tool (t.Evaluation place fault) = r.Tool (t.Evaluation place fault)
of_tool (t.BadContext place) = r.Tool (t.BadContext place)
of_tool (t.Model place refusal) = r.Tool (t.Model place refusal)
of_tool t.ToolTooLong = r.Tool t.ToolTooLong

-- a step on the way gives what its definition gives, as it is seen; want of memory says nothing of it
abbrev pub Gives : {A B : Type 0} → (B → A) → Result A Refusal → Result B Refusal → Type 0
Gives view given (Ok x) = given ≡ Ok (view x)
Gives view given (Err e) = IsRefusal (named e) given

-- an accepted command leaves the state of the step, and tells its revision and the object that it made; a refusal is the step's, and leaves the state, want of memory too
abbrev pub Answers : Result Stepped Refusal → Result Accepted Refusal → (old new : State) → Type 0
Answers given (Ok accepted) old new = (given ≡ Ok (record { state = new; created = accepted.created })) × (accepted.revision ≡ new.revision)
Answers given (Err e) old new = IsRefusal (named e) given × (new ≡ old)
