-- Runs of bytes that pass a test.
use Rattle.std.proofs.Common.{◌≡◌, ℕ, suc, zero, ◌+◌, ◌<◌, ◌≤◌, Bool, true, false, cond, List, [], ◌∷◌, ◌++◌, take, drop, min, refl, sym, ap, ◌∙◌, subst, take-append-drop, take-take, true≢false, arith, one-add}
use Rattle.std.specs.Prelude.{⊤}
use Rattle.std.specs.List.{list_all, prefix_len}
use Rattle.std.specs.Str.{IsUtf8, IsAscii}
use Rattle.std.proofs.lemmas.Bool.{and_parts, and_from}
use Rattle.std.proofs.lemmas.List.Folds.{list_all-append}
use Rattle.std.proofs.lemmas.Str.{IsUtf8-from_ascii}
use Rattle.std.proofs.lemmas.Str.Ascii.{IsAscii-nil, IsAscii-cons}

one_more : (t : Bool) (a c k : ℕ) → a ≡ min c k → cond t (1 + a) 0 ≡ min (cond t (1 + c) 0) (suc k)
one_more true a c k e = omega (arith, e)
one_more false a c k e = omega arith

-- the run in a front of a text
pub run_of_front : (p : ℕ → Bool) (k : ℕ) (text : List ℕ) → prefix_len p (take k text) ≡ min (prefix_len p text) k
run_of_front p zero text = omega arith
run_of_front p (suc k) [] = omega arith
run_of_front p (suc k) (c ∷ text) = one_more (p c) _ _ k (run_of_front p k text)

-- the text does not go on with a byte that passes
abbrev pub Ends : (ℕ → Bool) → List ℕ → Type 0
Ends p [] = ⊤
Ends p (c ∷ text) = p c ≡ false

module _ (p : ℕ → Bool) (c : ℕ) (text : List ℕ) where
  passes_on : (t : Bool) → p c ≡ t → list_all p (take (prefix_len p text) text) ≡ true → list_all p (take (cond t (1 + prefix_len p text) 0) (c ∷ text)) ≡ true
  passes_on true e h = rw one-add (and_from _ _ e h)
  passes_on false e h = refl

  ends_on : (t : Bool) → p c ≡ t → Ends p (drop (prefix_len p text) text) → Ends p (drop (cond t (1 + prefix_len p text) 0) (c ∷ text))
  ends_on true e h = rw one-add h
  ends_on false e h = e

pub run_passes : (p : ℕ → Bool) (text : List ℕ) → list_all p (take (prefix_len p text) text) ≡ true
run_passes p [] = refl
run_passes p (c ∷ text) = passes_on p c text (p c) refl (run_passes p text)

pub run_ends : (p : ℕ → Bool) (text : List ℕ) → Ends p (drop (prefix_len p text) text)
run_ends p [] = tt
run_ends p (c ∷ text) = ends_on p c text (p c) refl (run_ends p text)

pub part_passes : (p : ℕ → Bool) (front more : List ℕ) → list_all p (front ++ more) ≡ true → (list_all p front ≡ true) × (list_all p more ≡ true)
part_passes p front more h = and_parts _ _ (sym (list_all-append p front more) ∙ h)

-- a front that passes ends where no byte that passes follows
pub longest_run : (p : ℕ → Bool) (front more behind rest : List ℕ) → Ends p rest → rest ≡ more ++ behind → list_all p (front ++ more) ≡ true → more ≡ []
longest_run p front [] behind rest ends e h = refl
longest_run p front (c ∷ more) behind rest ends e h =
    let here : p c ≡ false = subst (Ends p) e ends in
    absurd (true≢false (sym (and_parts _ _ (part_passes p front (c ∷ more) h).1).0 ∙ here))

pub part_of_run : (p : ℕ → Bool) (m n : ℕ) (text : List ℕ) → n ≤ m → list_all p (take m text) ≡ true → list_all p (take n text) ≡ true
part_of_run p m n text le h =
    subst (λ xs. list_all p xs ≡ true) (take-take n m text le) (part_passes p (take n (take m text)) (drop n (take m text)) (ap (list_all p) (take-append-drop n (take m text)) ∙ h)).0

-- ---- texts of ASCII alone

pub ascii_text : (p : ℕ → Bool) → ((c : ℕ) → p c ≡ true → c < 128) → (bytes : List ℕ) → list_all p bytes ≡ true → IsUtf8 bytes
ascii_text p low bytes h = IsUtf8-from_ascii bytes (ascii bytes h)
  where
    ascii : (rest : List ℕ) → list_all p rest ≡ true → IsAscii rest
    ascii [] e = IsAscii-nil
    ascii (c ∷ rest) e = let u = and_parts _ _ e in IsAscii-cons c rest (low c u.0) (ascii rest u.1)
