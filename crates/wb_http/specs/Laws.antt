-- What is decided of bytes, and what follows from it.
use Rattle.std.specs.Prelude.{List, ℕ, ◌++◌, ⊤}
use Rattle.wb_http.specs.Requests.{Taken, Whole, Bad, Short}

-- a request or a refusal
abbrev pub IsDecided : Taken → Type 0
IsDecided (Whole request rest) = ⊤
IsDecided (Bad refusal) = ⊤
IsDecided Short = ⊥

-- the same, with bytes behind the rest
abbrev pub with_more : Taken → List ℕ → Taken
with_more (Whole request rest) more = Whole request (rest ++ more)
with_more (Bad refusal) more = Bad refusal
with_more Short more = Short
