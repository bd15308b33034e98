-- What is drawn of keys whose looks and flags go beside them.
use Rattle.std.proofs.Common.{◌≡◌, ◌+◌, ◌<◌, ℕ, zero, suc, Bool, true, false, cond, List, [], ◌∷◌, ◌++◌, length, take, drop, get_or, map, Option, Some, None, refl, sym, ap, ◌∙◌, add-one, append-nil, append_assoc, arith, if◌then◌else◌}
use Rattle.std.specs.Prelude.{All}
use Rattle.std.specs.List.{filter}
use Rattle.std.proofs.lemmas.List.Elements.{All-append, All-cons, All-head, All-nil, All-tail}
use Rattle.wb_diagram.specs.declared.diagrams.Look.{Look}
use Rattle.wb_picture.specs.invariants.Drawn.{drawn, drawn_with, visible_look}

-- ---- one key more

module _ {A B : Type 0} (draw : A → Look → B) where
  never : (key : A) (b : Bool) → [] ≡ drawn_with draw key (if b then None else None)
  never key true = refl
  never key false = refl

  first : (key : A) (looks : List Look) (flags : List Bool) → drawn draw (key ∷ []) looks flags ≡ drawn_with draw key (visible_look looks flags 0)
  first key [] [] = refl
  first key [] (flag ∷ flags) = never key flag
  first key (look ∷ looks) [] = refl
  first key (look ∷ looks) (true ∷ flags) = refl
  first key (look ∷ looks) (false ∷ flags) = refl

  next : (keys : List A) (looks : List Look) (flags : List Bool) (i : ℕ) (key : A) → i < length keys → key ≡ get_or keys i key
      → drawn draw (take (suc i) keys) looks flags ≡ drawn draw (take i keys) looks flags ++ drawn_with draw key (visible_look looks flags i)
  next [] looks flags i key within at = absurd (omega (arith, within))
  next (k ∷ keys) looks flags zero key within at = first k looks flags ∙ ap (λ (it : A). drawn_with draw it (visible_look looks flags 0)) (sym at)
  next (k ∷ keys) [] flags (suc i) key within at = never key (get_or flags (suc i) false)
  next (k ∷ keys) (look ∷ looks) [] (suc i) key within at = refl
  next (k ∷ keys) (look ∷ looks) (flag ∷ flags) (suc i) key within at =
      ap (λ items. (if flag then draw k look ∷ [] else []) ++ items) (next keys looks flags i key (omega (arith, within)) at)
      ∙ sym (append_assoc (if flag then draw k look ∷ [] else []) (drawn draw (take i keys) looks flags) (drawn_with draw key (visible_look looks flags i)))

  module _ (keys : List A) (looks : List Look) (flags : List Bool) (i : ℕ) (key : A) (within : i < length keys) (at : key ≡ get_or keys i key) (before after : List B) (so_far : before ≡ drawn draw (take i keys) looks flags) where
    goes_on : (found : Option Look) → found ≡ visible_look looks flags i → after ≡ before ++ drawn_with draw key found → after ≡ drawn draw (take (i + 1) keys) looks flags
    goes_on found is more =
        more
        ∙ (ap (λ items. items ++ drawn_with draw key found) so_far
        ∙ (ap (λ (o : Option Look). drawn draw (take i keys) looks flags ++ drawn_with draw key o) is
        ∙ (sym (next keys looks flags i key within at) ∙ ap (λ (n : ℕ). drawn draw (take n keys) looks flags) (sym (add-one i)))))

    -- a key is drawn with this look
    pub one_more : (look : Look) (made : B) → Some look ≡ visible_look looks flags i → made ≡ draw key look → after ≡ before ++ made ∷ [] → after ≡ drawn draw (take (i + 1) keys) looks flags
    one_more look made is drawn_so more = goes_on (Some look) is (more ∙ ap (λ item. before ++ item ∷ []) drawn_so)

    -- a key is not drawn
    pub no_more : None ≡ visible_look looks flags i → after ≡ before → after ≡ drawn draw (take (i + 1) keys) looks flags
    no_more is same = goes_on None is (same ∙ sym (append-nil before))

  -- ---- what is true of all that is drawn

  pub all_drawn : (P : B → Type 0) (Q : A → Type 0) → ((key : A) (look : Look) → Q key → P (draw key look)) → (keys : List A) (looks : List Look) (flags : List Bool) → All Q keys → All P (drawn draw keys looks flags)
  all_drawn P Q each [] looks flags all = All-nil P
  all_drawn P Q each (key ∷ keys) [] flags all = All-nil P
  all_drawn P Q each (key ∷ keys) (look ∷ looks) [] all = All-nil P
  all_drawn P Q each (key ∷ keys) (look ∷ looks) (flag ∷ flags) all =
      All-append P (if flag then draw key look ∷ [] else []) (drawn draw keys looks flags) (one flag) (all_drawn P Q each keys looks flags (All-tail Q key keys all))
    where
      one : (b : Bool) → All P (if b then draw key look ∷ [] else [])
      one true = All-cons P (draw key look) [] (each key look (All-head Q key keys all)) (All-nil P)
      one false = All-nil P

-- ---- looks and flags that are those of the keys

-- the first of the keys are drawn with their looks, where they are seen
pub are_shown : {A B X : Type 0} (draw : A → Look → B) (key_of : A → X) (look_of : X → Look) (is_seen : X → Bool) (keys : List A) (rest : List X)
    → drawn draw keys (map look_of (map key_of keys ++ rest)) (map is_seen (map key_of keys ++ rest)) ≡ map (λ (key : A). draw key (look_of (key_of key))) (filter (λ (key : A). is_seen (key_of key)) keys)
are_shown draw key_of look_of is_seen [] rest = refl
are_shown {A} draw key_of look_of is_seen (key ∷ keys) rest = by (is_seen (key_of key)) (are_shown draw key_of look_of is_seen keys rest)
  where
    by : (b : Bool) → drawn draw keys (map look_of (map key_of keys ++ rest)) (map is_seen (map key_of keys ++ rest)) ≡ map (λ (it : A). draw it (look_of (key_of it))) (filter (λ (it : A). is_seen (key_of it)) keys)
        → (if b then draw key (look_of (key_of key)) ∷ [] else []) ++ drawn draw keys (map look_of (map key_of keys ++ rest)) (map is_seen (map key_of keys ++ rest))
        ≡ map (λ (it : A). draw it (look_of (key_of it))) (cond b (key ∷ filter (λ (it : A). is_seen (key_of it)) keys) (filter (λ (it : A). is_seen (key_of it)) keys))
    by true later = ap (λ items. draw key (look_of (key_of key)) ∷ items) later
    by false later = later

-- behind the first of the keys stand those of the rest
pub are_behind : {A X Y : Type 0} (f : X → Y) (key_of : A → X) (keys : List A) (rest : List X) → drop (length keys) (map f (map key_of keys ++ rest)) ≡ map f rest
are_behind f key_of [] rest = refl
are_behind f key_of (key ∷ keys) rest = are_behind f key_of keys rest
