-- Loops that ask: what is asked at each item of a list in turn, by a function of what is told.
use Rattle.std.proofs.Common.{◌≡◌, ◌+◌, ◌<◌, ℕ, false, List, [], ◌∷◌, ◌++◌, length, take, drop, get_or, sym, ap, subst, ◌∙◌, append-nil, append_assoc}
use Rattle.std.specs.List.{flat_map}
use Rattle.std.specs.Prelude.{Result, Ok, Err, IsErr, IsErrAnd}
use Rattle.std.proofs.lemmas.List.{take_more, take-append-drop}
use Rattle.std.proofs.lemmas.Grind.{flat_map-append}
use Rattle.wb_diagram.specs.declared.units.Unit.{Unit}
use Rattle.wb_answers.specs.declared.answers.Stop.{Stop}
use Rattle.wb_answers.specs.declared.answers.Stop.TheVariants.{NoMemory}
use Rattle.wb_answers.specs.Seen.{Told, Seen, after, Refused, Asks}
use Rattle.wb_answers.proofs.SeenLaws.{after_none, after_more, told_after, metamodel_after, over_after, short, passed_on, refused_later}

pub told_of : (s now : Seen) (us : List Unit) → now ≡ after s us → now.told ≡ s.told
told_of s now us is = ap (λ (m : Seen). m.told) is ∙ told_after s us

pub metamodel_of : (s now : Seen) (us : List Unit) → now ≡ after s us → now.metamodel ≡ s.metamodel
metamodel_of s now us is = ap (λ (m : Seen). m.metamodel) is ∙ metamodel_after s us

pub not_over : (s now : Seen) (us : List Unit) → now ≡ after s us → s.over ≡ false → now.over ≡ false
not_over s now us is fine = ap (λ (m : Seen). m.over) is ∙ (over_after s us ∙ fine)

pub asked_both : (s mid now : Seen) (us vs : List Unit) → mid ≡ after s us → now ≡ after mid vs → now ≡ after s (us ++ vs)
asked_both s mid now us vs first second = second ∙ (ap (λ m. after m vs) first ∙ after_more s us vs)

pub flat_map_next : {X Y : Type 0} (f : X → List Y) (xs : List X) (i : ℕ) (d x : X) → i < length xs → x ≡ get_or xs i d → flat_map f (take (i + 1) xs) ≡ flat_map f (take i xs) ++ f x
flat_map_next f xs i d x within at =
    ap (flat_map f) (take_more xs i d within ∙ ap (λ y. take i xs ++ y ∷ []) (sym at))
    ∙ (flat_map-append f (take i xs) (x ∷ []) ∙ ap (λ ys. flat_map f (take i xs) ++ ys) (append-nil (f x)))

pub flat_map_rest : {X Y : Type 0} (f : X → List Y) (xs : List X) (i : ℕ) → flat_map f (take i xs) ++ flat_map f (drop i xs) ≡ flat_map f xs
flat_map_rest f xs i = sym (flat_map-append f (take i xs) (drop i xs)) ∙ ap (flat_map f) (take-append-drop i xs)

pub flat_map_split : {X Y : Type 0} (f : X → List Y) (xs : List X) (i : ℕ) (d x : X) → i < length xs → x ≡ get_or xs i d → flat_map f (take i xs) ++ (f x ++ flat_map f (drop (i + 1) xs)) ≡ flat_map f xs
flat_map_split f xs i d x within at =
    sym (append_assoc (flat_map f (take i xs)) (f x) (flat_map f (drop (i + 1) xs)))
    ∙ (ap (λ ys. ys ++ flat_map f (drop (i + 1) xs)) (sym (flat_map_next f xs i d x within at)) ∙ flat_map_rest f xs (i + 1))

module _ {X : Type 0} (f : Told → X → List Unit) (xs : List X) (i : ℕ) (d x : X) (s mid now : Seen) (within : i < length xs) (at : x ≡ get_or xs i d) (so_far : mid ≡ after s (flat_map (f s.told) (take i xs))) where
  same_told : mid.told ≡ s.told
  same_told = told_of s mid (flat_map (f s.told) (take i xs)) so_far

  -- one item more was asked for
  pub goes_on : now ≡ after mid (f mid.told x) → now ≡ after s (flat_map (f s.told) (take (i + 1) xs))
  goes_on is =
      asked_both s mid now (flat_map (f s.told) (take i xs)) (f s.told x) so_far (is ∙ ap (λ t. after mid (f t x)) same_told)
      ∙ ap (after s) (sym (flat_map_next (f s.told) xs i d x within at))

  -- what is found at each item goes last
  pub found_on : {Y : Type 0} (h : Told → X → List Y) (first old new : List Y) → old ≡ first ++ flat_map (h s.told) (take i xs) → new ≡ old ++ h mid.told x → new ≡ first ++ flat_map (h s.told) (take (i + 1) xs)
  found_on h first old new before is =
      is ∙ (ap (λ t. old ++ h t x) same_told ∙ (ap (λ ys. ys ++ h s.told x) before
      ∙ (append_assoc first (flat_map (h s.told) (take i xs)) (h s.told x) ∙ ap (λ ys. first ++ ys) (sym (flat_map_next (h s.told) xs i d x within at)))))

  -- a refusal came at an item
  pub refused_at : {A : Type 0} (r : Result A Stop) (e : Stop) → IsErr r × IsErrAnd r (λ g. g ≡ e) → Refused mid (f mid.told x) e now → Asks s (flat_map (f s.told) xs) r now
  refused_at r e h refused =
      passed_on s mid now (flat_map (f s.told) (take i xs)) (f s.told x) (flat_map (f s.told) (drop (i + 1) xs)) (flat_map (f s.told) xs) r e h so_far
      (flat_map_split (f s.told) xs i d x within at)
      (let P : Told → Type 0 = λ t. Refused mid (f t x) e now in subst P same_told refused)

-- want of memory came when so many items were asked for
pub short_at : {A X : Type 0} (f : Told → X → List Unit) (xs : List X) (i : ℕ) (s now : Seen) (r : Result A Stop) → IsErr r × IsErrAnd r (λ e. e ≡ NoMemory) → now ≡ after s (flat_map (f s.told) (take i xs)) → Asks s (flat_map (f s.told) xs) r now
short_at f xs i s now r h so_far = short s now (flat_map (f s.told) (take i xs)) (flat_map (f s.told) (drop i xs)) (flat_map (f s.told) xs) r h so_far (flat_map_rest (f s.told) xs i)

-- a refusal comes while the first of the units are asked
pub refused_first : {A : Type 0} (s now : Seen) (vs rest all : List Unit) (r : Result A Stop) (e : Stop) → IsErr r × IsErrAnd r (λ f. f ≡ e) → vs ++ rest ≡ all → Refused s vs e now → Asks s all r now
refused_first s now vs rest all r e h split refused = passed_on s s now [] vs rest all r e h (sym (after_none s)) split refused

-- units are asked after others, and what comes of it is what comes of all
pub asks_then : {A : Type 0} (s mid now : Seen) (us vs all : List Unit) (r : Result A Stop) → mid ≡ after s us → us ++ vs ≡ all → Asks mid vs r now → Asks s all r now
asks_then s mid now us vs all (Ok x) is split asks = asked_both s mid now us vs is asks ∙ ap (after s) split
asks_then s mid now us vs all (Err e) is split refused = refused_later s mid now us vs [] all e is (ap (λ ws. us ++ ws) (append-nil vs) ∙ split) refused

-- what is told has not changed in between
pub refused_told : (s mid now : Seen) (us : List Unit) (e : Stop) (f : Told → List Unit) → mid ≡ after s us → Refused mid (f mid.told) e now → Refused mid (f s.told) e now
refused_told s mid now us e f is refused =
    let P : Told → Type 0 = λ t. Refused mid (f t) e now in
    subst P (told_of s mid us is) refused
