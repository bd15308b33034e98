-- Containment upwards and downwards.
use Rattle.std.proofs.Common.{◌≡◌, ℕ, ◌<◌, suc, zero, true, List, [], ◌∷◌, length, Some, refl, arith}
use Rattle.std.specs.List.{slice_get}
use Rattle.wb_store.specs.Contents.{Contents, contains}
use Rattle.wb_validity.specs.Valid.{Within}
use Rattle.wb_validity.specs.Valid.Within.{directly, through}

pub element_at : {A : Type 0} (xs : List A) (i : ℕ) → i < length xs → (x : A) × (slice_get xs i ≡ Some x)
element_at [] i l = absurd (omega arith)
element_at (x ∷ xs) zero l = (x, refl)
element_at (x ∷ xs) (suc i) l = element_at xs i (omega arith)

-- ---- containment

pub within_under : (m : Contents) (p f q o : ℕ) → contains m p f q ≡ true → Within m q o → Within m p o
within_under m p f q o c (directly g h) = through g (directly f c) h
within_under m p f q o c (through {q = r} g w h) = through g (within_under m p f q r c w) h
