-- What the bytes of a body are as a command.
use Rattle.std.specs.Prelude.{ℕ, List, Option, Some, None, Result, Ok, Err}
use Rattle.wb_json.specs.Place.{Place}
use Rattle.wb_json.specs.Form.{◌>>=◌, or_wrong}
use Rattle.wb_json.specs.Json.{json_of}
use Rattle.wb_diagram.specs.declared.commands.Command.{Command}
use Rattle.wb_commands.specs.Forms.{command_of}
use Rattle.wb_commands.specs.declared.refusal.BodyRefusal.{BodyRefusal}
use Rattle.wb_commands.specs.declared.refusal.BodyRefusal.TheVariants.{BadBody, NoMemory}

-- the refusal that is named; want of memory names none
abbrev pub refusal_of : BodyRefusal → Option BodyRefusal
refusal_of BadBody = Some BadBody
refusal_of NoMemory = None

-- where a value is wrong is not told
abbrev pub body : {A : Type 0} → Result A Place → Result A BodyRefusal
body (Ok v) = Ok v
body (Err place) = Err BadBody

-- the command that a body is: JSON (RFC 8259) of the form of a command
unfoldable pub command_in : List ℕ → Result Command BodyRefusal
command_in bytes = body (or_wrong (json_of bytes) >>= (λ d. command_of d))
