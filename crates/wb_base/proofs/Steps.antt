-- Steps in turn that went well.
use Rattle.std.proofs.Common.{◌≡◌, Result, Ok, Err, refl}
use Rattle.wb_base.specs.Results.{◌>>=◌}

-- where two steps went well, each did
pub then_ok : {A B E : Type 0} (r : Result A E) (next : A → Result B E) (v : B) → (r >>= next) ≡ Ok v → (a : A) × (r ≡ Ok a) × (next a ≡ Ok v)
then_ok (Ok a) next v h = (a, refl, h)
then_ok (Err e) next v h = cc

pub same_ok : {A E : Type 0} (a b : A) → ◌≡◌ {A = Result A E} (Ok a) (Ok b) → a ≡ b
same_ok a b h = cc
