-- Paths of one or more steps along the edges between numbers.
use Rattle.std.specs.Prelude.{◌≡◌, ℕ, Bool, true, false, ◌||◌, if◌then◌else◌, nat_eq, List, [], ◌∷◌}
use Rattle.std.specs.List.{list_any}

-- a path leads from the one number to the other
pub data Leads (edge : ℕ → ℕ → Bool) : ℕ → ℕ → Type 0 where
  directly : {a b : ℕ} → edge a b ≡ true → Leads edge a b
  onward : {a k b : ℕ} → Leads edge a k → edge k b ≡ true → Leads edge a b

-- a path leads from the one number to the other, and has between its ends numbers of this list alone
pub data LeadsThrough (edge : ℕ → ℕ → Bool) (ks : List ℕ) : ℕ → ℕ → Type 0 where
  directly : {a b : ℕ} → edge a b ≡ true → LeadsThrough edge ks a b
  onward : {a k b : ℕ} → LeadsThrough edge ks a k → list_any (nat_eq k) ks ≡ true → edge k b ≡ true → LeadsThrough edge ks a b

-- does such a path lead from the one number to the other?
unfoldable pub leads_through : (ℕ → ℕ → Bool) → List ℕ → ℕ → ℕ → Bool
leads_through edge [] a b = edge a b
leads_through edge (k ∷ ks) a b = leads_through edge ks a b || (if leads_through edge ks a k then leads_through edge ks k b else false)
