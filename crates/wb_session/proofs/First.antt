-- A session that was opened.
use Rattle.std.proofs.Common.{◌≡◌, ◌≤◌, ◌+◌, ◌∙◌, ℕ, suc, Bool, true, false, cond, nat_eq, List, [], ◌∷◌, map, filter, Option, Some, Result, Ok, Err, refl, sym, ap, subst, arith}
use Rattle.std.specs.Prelude.{find}
use Rattle.std.specs.FinMap.{empty, get, get-empty}
use Rattle.std.specs.List.{AllByRecursion, IsDistinct, enumerate_from}
use Rattle.std.proofs.lemmas.Bool.{false≢true}
use Rattle.wb_history.specs.Stacks.{unbegun}
use Rattle.wb_diagram.specs.declared.keys.Key.{Key}
use Rattle.wb_layout.specs.Orders.{key_cmp}
use Rattle.wb_layout.specs.Positions.{IsInRange, Position, Positions}
use Rattle.wb_spec_check.specs.Checked.{IsCheckedBy, Specification}
use Rattle.wb_store.specs.Contents.{Contents}
use Rattle.wb_validity.specs.Valid.{IsValid, conforms_to}
use Rattle.wb_viewpoint.specs.declared.layers.Layer.{Layer}
use Rattle.wb_picture.specs.Opening.{is_opened, opening_layers}
use Rattle.wb_refresh.specs.Openings.{IsOpened, Kept, is_too_large}
use Rattle.wb_refresh.specs.Outcomes.{Gives}
use Rattle.wb_refresh.specs.Subjects.{subject}
use Rattle.wb_marks.specs.Marks.{unmarked}
use Rattle.wb_marks.proofs.Apart.{unmarked_apart}
use Rattle.wb_session.specs.declared.opening.OpenRefusal.{OpenRefusal}
use Rattle.wb_session.specs.declared.opening.OpenRefusal.TheVariants.{TooLarge}
use Rattle.wb_session.specs.Opening.{opened_from, opened_state}
use Rattle.wb_session.specs.States.{State}
use Rattle.wb_session.specs.invariants.Keeping.{IsKept}
use Rattle.std.specs.Prelude.{IfSome, IsSome}

-- ---- layers that are opened have different numbers

apart_by : (n k : ℕ) → suc n ≤ k → nat_eq n k ≡ false
apart_by n k h = grind arith

abbrev AreLater : ℕ → List ℕ → Type 0
AreLater n ks = AllByRecursion (λ (k : ℕ). n ≤ k) ks

-- those of the layers from a number on
abbrev numbers_from : ℕ → List Layer → List ℕ
numbers_from n layers = map (λ (item : ℕ × Layer). item.0) (filter is_opened (enumerate_from n layers))

sooner : (n : ℕ) (ks : List ℕ) → AreLater (n + 1) ks → AreLater n ks
sooner n [] h = tt
sooner n (k ∷ ks) h = (omega (arith, h.0), sooner n ks h.1)

others : (n : ℕ) (ks : List ℕ) → AreLater (n + 1) ks → AllByRecursion (λ (k : ℕ). nat_eq n k ≡ false) ks
others n [] h = tt
others n (k ∷ ks) h = (apart_by n k (omega (arith, h.0)), others n ks h.1)

later_by : (n : ℕ) (x : Layer) (more : List (ℕ × Layer)) (b : Bool) → AreLater n (map (λ (item : ℕ × Layer). item.0) more) → AreLater n (map (λ (item : ℕ × Layer). item.0) (cond b ((n, x) ∷ more) more))
later_by n x more true h = (omega arith, h)
later_by n x more false h = h

all_later : (n : ℕ) (layers : List Layer) → AreLater n (numbers_from n layers)
all_later n [] = tt
all_later n (x ∷ xs) = later_by n x (filter is_opened (enumerate_from (n + 1) xs)) (is_opened (n, x)) (sooner n (numbers_from (n + 1) xs) (all_later (n + 1) xs))

distinct_by : (n : ℕ) (x : Layer) (more : List (ℕ × Layer)) (b : Bool) → AreLater (n + 1) (map (λ (item : ℕ × Layer). item.0) more) → IsDistinct nat_eq (map (λ (item : ℕ × Layer). item.0) more)
    → IsDistinct nat_eq (map (λ (item : ℕ × Layer). item.0) (cond b ((n, x) ∷ more) more))
unfolding IsDistinct
distinct_by n x more true later h = (others n (map (λ (item : ℕ × Layer). item.0) more) later, h)
distinct_by n x more false later h = h

all_distinct : (n : ℕ) (layers : List Layer) → IsDistinct nat_eq (numbers_from n layers)
unfolding IsDistinct
all_distinct n [] = tt
all_distinct n (x ∷ xs) = distinct_by n x (filter is_opened (enumerate_from (n + 1) xs)) (is_opened (n, x)) (all_later (n + 1) xs) (all_distinct (n + 1) xs)

layers_distinct : (spec : Specification) → IsDistinct nat_eq (opening_layers spec)
unfolding opening_layers
layers_distinct spec = all_distinct 0 spec.0.layers

-- ---- the session

fits_by : (b : Bool) (s t : State) → cond b (Err TooLarge) (let x : Result State OpenRefusal = Ok s in x) ≡ Ok t → b ≡ false
fits_by true s t e = absurd cc
fits_by false s t e = refl

pub fits_of : (gives : Gives) (spec : Specification) (m : Contents) (root : ℕ) (t : State) → opened_from gives spec m root ≡ Ok t → is_too_large gives (subject spec m root []) ≡ false
unfolding opened_from
fits_of gives spec m root t e = fits_by (is_too_large gives (subject spec m root [])) (opened_state spec m root) t e

abbrev nowhere : Positions
nowhere = empty

unplaced : (P : Type 0) (key : Key) → IsSome (get nowhere key) → P
unplaced P key is = absurd (false≢true (subst IsSome (get-empty key_cmp key) is))

module _ (gives : Gives) (spec : Specification) (m : Contents) (root : ℕ) (valid : IsValid m) (checked : IsCheckedBy m.metamodel spec) (rooted : conforms_to m spec.1.domain root ≡ true)
    (fits : is_too_large gives (subject spec m root []) ≡ false) (diagram : Kept) (is : IsOpened gives (subject spec m root []) diagram) where
  pub first_kept : IsKept gives spec root m (unmarked (opening_layers spec)) 0 (unbegun 100) diagram
  first_kept = record {
    good = record {
      body = record {
        checked = checked;
        valid = valid;
        rooted = rooted;
        fits = fits;
        settled = record { shown = refl; hidden = refl; placed = λ key there. unplaced _ key there };
        lawful = record { shown = tt; placed = λ key there. unplaced _ key there; distinct = unmarked_apart (opening_layers spec) (layers_distinct spec) };
        in_range = λ key. subst (λ (at : Option Position). IfSome at IsInRange) (sym (get-empty key_cmp key)) tt;
      };
      past = tt;
      future = tt;
      together = omega arith;
      revision = omega arith;
    };
    opened = is;
    past = tt;
    future = tt;
    capacity = refl;
  }

-- what is found passes the test
found_by : (b : Bool) (p : ℕ → Bool) (y x : ℕ) (more : Option ℕ) → p y ≡ b → (more ≡ Some x → p x ≡ true) → cond b (Some y) more ≡ Some x → p x ≡ true
found_by true p y x more e h is = let same : y ≡ x = cc in ap p (sym same) ∙ e
found_by false p y x more e h is = h is

pub found_passes : (p : ℕ → Bool) (xs : List ℕ) (x : ℕ) → find p xs ≡ Some x → p x ≡ true
found_passes p [] x e = absurd cc
found_passes p (y ∷ ys) x e = found_by (p y) p y x (find p ys) refl (found_passes p ys x) e
