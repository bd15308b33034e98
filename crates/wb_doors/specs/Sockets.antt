-- Sockets: what they told.
use Rattle.std.specs.Prelude.{ℕ, ◌+◌, ◌<◌, ◌≤◌, ◌⊎◌, Bool, true, false, List, [], ◌++◌, take}
use Rattle.wb_outer.specs.Files.{rounds}
use Rattle.wb_outer.specs.declared.files.Part.{Part}
use Rattle.wb_outer.specs.declared.files.Part.TheVariants.{Bytes as PartBytes, End, Interrupted as PartInterrupted, Failed as PartFailed}
use Rattle.wb_outer.specs.declared.output.Put.{Put}
use Rattle.wb_outer.specs.declared.output.Put.TheVariants.{Took, Interrupted as PutInterrupted, Failed as PutFailed}
use Rattle.wb_doors.specs.declared.sockets.SocketsTold.{SocketsTold}
use Rattle.wb_doors.specs.declared.sockets.Came.{Came}
use Rattle.wb_doors.specs.declared.sockets.Came.TheVariants.{Peer, Interrupted as CameInterrupted, Failed as CameFailed}

-- no call was made yet
abbrev pub no_call_told : SocketsTold
no_call_told = record { peers = 0; given = []; took = []; ends = 0; calls = 0; failures = 0 }

-- a call was made that gave and took nothing
abbrev pub after_call : SocketsTold → SocketsTold
after_call told = record { peers = told.peers; given = told.given; took = told.took; ends = told.ends; calls = told.calls + 1; failures = told.failures }

-- a call was made and failed
abbrev pub after_failure : SocketsTold → SocketsTold
after_failure told = record { peers = told.peers; given = told.given; took = told.took; ends = told.ends; calls = told.calls + 1; failures = told.failures + 1 }

-- a call that was to listen could, or not
abbrev pub after_listen : Bool → SocketsTold → SocketsTold
after_listen true told = after_call told
after_listen false told = after_failure told

-- a call for the next peer answered so
abbrev pub after_accept : Came → SocketsTold → SocketsTold
after_accept Peer told = record { peers = told.peers + 1; given = told.given; took = told.took; ends = told.ends; calls = told.calls + 1; failures = told.failures }
after_accept CameInterrupted told = after_call told
after_accept CameFailed told = after_failure told

-- a read answered so
abbrev pub after_read : Part → List ℕ → SocketsTold → SocketsTold
after_read (PartBytes n) room told = record { peers = told.peers; given = told.given ++ take n room; took = told.took; ends = told.ends; calls = told.calls + 1; failures = told.failures }
after_read End room told = record { peers = told.peers; given = told.given; took = told.took; ends = told.ends + 1; calls = told.calls + 1; failures = told.failures }
after_read PartInterrupted room told = after_call told
after_read PartFailed room told = after_failure told

-- a write of these bytes answered so
abbrev pub after_put : Put → List ℕ → SocketsTold → SocketsTold
after_put (Took n) bytes told = record { peers = told.peers; given = told.given; took = told.took ++ take n bytes; ends = told.ends; calls = told.calls + 1; failures = told.failures }
after_put PutInterrupted bytes told = after_call told
after_put PutFailed bytes told = after_failure told

-- a call failed otherwise than by an interruption, or none was left to make
abbrev pub HasCause : SocketsTold → SocketsTold → Type 0
HasCause old new = (old.failures < new.failures) ⊎ (old.calls + rounds ≤ new.calls)
