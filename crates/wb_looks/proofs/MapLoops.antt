-- Loops that put what is found at each item last, and loops over numbers.
use Rattle.std.proofs.Common.{◌≡◌, ◌<◌, ◌≤◌, ◌+◌, ℕ, List, [], ◌∷◌, ◌++◌, length, map, take, get_or, ap, ◌∙◌, sym, arith}
use Rattle.std.proofs.lemmas.List.{map_more, take_all}
use Rattle.std.proofs.lemmas.List.FromFn.{get_or-range_with_len, length-range_with_len}
use Rattle.wb_base.specs.Lists.{numbers}
use Rattle.wb_diagram.specs.declared.units.Unit.{Unit as Place}
use Rattle.wb_answers.specs.Seen.{Told, Seen, after}
use Rattle.wb_answers.proofs.SeenLoops.{told_of}

-- what is found at one item more goes last
pub mapped_on : {X Y : Type 0} (h : X → Y) (xs : List X) (i : ℕ) (d x : X) (y : Y) (old new : List Y) → i < length xs → x ≡ get_or xs i d → old ≡ map h (take i xs) → y ≡ h x → new ≡ old ++ y ∷ [] → new ≡ map h (take (i + 1) xs)
mapped_on {X} {Y} h xs i d x y old new within at so_far value is =
    is ∙ (ap (λ (z : Y). old ++ z ∷ []) value ∙ (ap (λ (zs : List Y). zs ++ h x ∷ []) so_far
    ∙ (ap (λ (z : X). map h (take i xs) ++ h z ∷ []) at ∙ sym (map_more h xs i d within))))

-- what is found by what is told has not changed in between
pub found_before : {Y : Type 0} (h : Told → Y) (s mid : Seen) (us : List Place) (y : Y) → mid ≡ after s us → y ≡ h mid.told → y ≡ h s.told
found_before h s mid us y is found = found ∙ ap h (told_of s mid us is)

pub number_within : (n i : ℕ) → i < n → i < length (numbers n)
number_within n i within = let same = length-range_with_len 0 n in omega (arith, same, within)

pub number_here : (n i d : ℕ) → i < n → i ≡ get_or (numbers n) i d
number_here n i d within = let here = get_or-range_with_len 0 n i d within in omega (arith, here)

pub all_numbers : (n i : ℕ) → n ≤ i → take i (numbers n) ≡ numbers n
all_numbers n i done = take_all i (numbers n) (let same = length-range_with_len 0 n in omega (arith, same, done))
