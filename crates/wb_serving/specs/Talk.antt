-- What is said on one connection.
use Rattle.std.specs.Prelude.{◌≡◌, ◌⊎◌, ℕ, ◌+◌, Bool, List, [], ◌∷◌, ◌++◌, length, take, Option, Some, None}
use Rattle.wb_http.specs.Requests.{Takes, Short}
use Rattle.wb_serving.specs.declared.ends.End.{End}
use Rattle.wb_serving.specs.declared.ends.End.TheVariants.{Input, Fault}
use Rattle.wb_serving.specs.Machines.{Law}
use Rattle.wb_serving.specs.Turns.{Turn, is_last, text, after, end_after, TakesIn}

module _ {S : Type 0} (law : Law S) where
  -- the state after turns
  abbrev pub state_after : List Turn → S → S
  state_after [] s = s
  state_after (t ∷ ts) s = state_after ts (after law s t)

  -- the bytes of their replies; the first of them is the k-th of the connection, from 0
  abbrev pub texts : List Turn → ℕ → S → List ℕ
  texts [] k s = []
  texts (t ∷ ts) k s = text law s (is_last k) t ++ texts ts (k + 1) (after law s t)

  -- turns, each of which leaves the connection open, go through these bytes up to a rest
  abbrev pub Goes : List Turn → ℕ → S → List ℕ → List ℕ → Type 0
  Goes [] k s bytes rest = rest ≡ bytes
  Goes (t ∷ ts) k s bytes rest = (mid : List ℕ) × TakesIn law s t bytes mid × (end_after (is_last k) t ≡ None) × Goes ts (k + 1) (after law s t) mid rest

  -- one more turn ends the connection: its reply was written whole, or a front of it where the door failed
  abbrev pub Closes : End → Turn → Bool → S → List ℕ → List ℕ → S → Type 0
  Closes end t last s bytes out s' = (rest : List ℕ) × TakesIn law s t bytes rest × (s' ≡ after law s t)
      × (((end_after last t ≡ Some end) × (out ≡ text law s last t)) ⊎ ((end ≡ Fault) × (n : ℕ) × (out ≡ take n (text law s last t))))

  -- how the connection ends: with no turn more, at less than a request; or with one more
  abbrev pub Ends : End → Option Turn → Bool → S → List ℕ → List ℕ → S → Type 0
  Ends end None last s bytes out s' = Takes bytes Short × (out ≡ []) × (s' ≡ s) × ((end ≡ Input) ⊎ (end ≡ Fault))
  Ends end (Some t) last s bytes out s' = Closes end t last s bytes out s'

  -- what was written to these bytes of a connection, from one state to the next
  pub record Talk (s : S) (bytes out : List ℕ) (s' : S) (end : End) (turns : List Turn) (final : Option Turn) : Type 0 where
    pub rest : List ℕ
    pub last_text : List ℕ
    pub goes : Goes turns 0 s bytes rest
    pub written : out ≡ texts turns 0 s ++ last_text
    pub ends : Ends end final (is_last (length turns)) (state_after turns s) rest last_text s'
