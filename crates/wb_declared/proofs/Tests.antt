-- Joined tests in another order.
use Rattle.std.proofs.Common.{◌≡◌, Bool, true, false, ◌&&◌, ◌||◌, Option, Some, None, refl, sym, if◌then◌else◌}
use Rattle.std.specs.Option.{option_map_or}

pub last_first : (a b c d : Bool) → (a && (b && (c && d))) ≡ (d && (c && (a && b)))
last_first true true true true = refl
last_first true true true false = refl
last_first true true false true = refl
last_first true true false false = refl
last_first true false true true = refl
last_first true false true false = refl
last_first true false false true = refl
last_first true false false false = refl
last_first false true true true = refl
last_first false true true false = refl
last_first false true false true = refl
last_first false true false false = refl
last_first false false true true = refl
last_first false false true false = refl
last_first false false false true = refl
last_first false false false false = refl

pub second_first : (a b c d : Bool) → (a && (b && (c && d))) ≡ (b && (c && (a && d)))
second_first true true true true = refl
second_first true true true false = refl
second_first true true false true = refl
second_first true true false false = refl
second_first true false true true = refl
second_first true false true false = refl
second_first true false false true = refl
second_first true false false false = refl
second_first false true true true = refl
second_first false true true false = refl
second_first false true false true = refl
second_first false true false false = refl
second_first false false true true = refl
second_first false false true false = refl
second_first false false false true = refl
second_first false false false false = refl

pub and_assoc : (a b c : Bool) → ((a && b) && c) ≡ (a && (b && c))
and_assoc true b c = refl
and_assoc false b c = refl

pub none_first : (a b : Bool) → b ≡ false → false ≡ (a && b)
none_first true b is = sym is
none_first false b is = refl

pub or_none : (a b : Bool) → b ≡ false → (a || b) ≡ a
or_none true b is = refl
or_none false b is = is

-- where the right sides agree as far as the left one holds
pub and_same : (a b c : Bool) → (a ≡ true → b ≡ c) → (a && b) ≡ (a && c)
and_same true b c same = same refl
and_same false b c same = refl

pub if_same : (a b c : Bool) → (a ≡ true → b ≡ c) → (if a then b else true) ≡ (if a then c else true)
if_same true b c same = same refl
if_same false b c same = refl

pub some_same : {X : Type 0} (found : Option X) (f g : X → Bool) → ((x : X) → found ≡ Some x → f x ≡ g x) → option_map_or f found false ≡ option_map_or g found false
some_same None f g same = refl
some_same (Some x) f g same = same x refl
