-- How the history goes on.
use Rattle.std.proofs.Common.{◌≡◌, ◌≤◌, ◌<◌, ◌-◌, ℕ, zero, suc, List, [], ◌∷◌, ◌++◌, length, take, drop, map, Some, None, refl, sym, ap, subst, ◌∙◌, arith}
use Rattle.std.specs.Prelude.{slice_get}
use Rattle.std.proofs.lemmas.List.{drop-map, take-map, map-append, length-map}
use Rattle.circular_buffer.specs.Buffer.{keep_last, last_item}
use Rattle.wb_history.specs.Stacks.{Stacks, all_but_newest}
use Rattle.wb_store.specs.Contents.{Contents}
use Rattle.wb_spec_check.specs.Checked.{Specification}
use Rattle.wb_marks.specs.declared.marks.Marks.{Marks}
use Rattle.wb_session.specs.declared.entries.Entry.{Entry}
use Rattle.wb_session.specs.declared.turn.Turn.{Turn}
use Rattle.wb_session.specs.declared.turn.Turn.TheVariants as turns
use Rattle.wb_session.specs.States.{body}
use Rattle.wb_session.specs.Steps.{past_after, future_after}
use Rattle.wb_session.specs.invariants.Keeping.{body_of, state_of, turned, CanTurn, IsPossible, AreOlder}
use Rattle.wb_session.proofs.Lists.{all_append, all_take, all_drop, all_mapped}

-- ---- the bodies of what is kept

module _ {A B : Type 0} (f : A → B) where
  pub kept_mapped : (n : ℕ) (xs : List A) (x : A) → map f (keep_last n (xs ++ x ∷ [])) ≡ keep_last n (map f xs ++ f x ∷ [])
  kept_mapped n xs x =
      let same : map f (xs ++ x ∷ []) ≡ map f xs ++ f x ∷ [] = map-append f xs (x ∷ []) in
      let long : length (xs ++ x ∷ []) ≡ length (map f xs ++ f x ∷ []) = sym (length-map (xs ++ x ∷ []) f) ∙ ap length same in
      sym (drop-map f (length (xs ++ x ∷ []) - n) (xs ++ x ∷ [])) ∙ (ap (λ ys. drop (length (xs ++ x ∷ []) - n) ys) same ∙ ap (λ k. drop (k - n) (map f xs ++ f x ∷ [])) long)

  pub all_but_newest_mapped : (xs : List A) → map f (all_but_newest xs) ≡ all_but_newest (map f xs)
  all_but_newest_mapped xs = sym (take-map f (length xs - 1) xs) ∙ ap (λ k. take (k - 1) (map f xs)) (sym (length-map xs f))

  pub one_more_mapped : (xs : List A) (x : A) → map f (xs ++ x ∷ []) ≡ map f xs ++ f x ∷ []
  one_more_mapped xs x = map-append f xs (x ∷ [])

  got_mapped : (xs : List A) (k : ℕ) (x : A) → slice_get xs k ≡ Some x → slice_get (map f xs) k ≡ Some (f x)
  got_mapped [] k x e = absurd cc
  got_mapped (y ∷ ys) zero x e = cc
  got_mapped (y ∷ ys) (suc k) x e = got_mapped ys k x e

  got_none : (xs : List A) (k : ℕ) → slice_get xs k ≡ None → slice_get (map f xs) k ≡ None
  got_none [] k e = refl
  got_none (y ∷ ys) zero e = absurd cc
  got_none (y ∷ ys) (suc k) e = got_none ys k e

  pub last_mapped : (xs : List A) (x : A) → last_item xs ≡ Some x → last_item (map f xs) ≡ Some (f x)
  last_mapped xs x e = subst (λ k. slice_get (map f xs) (k - 1) ≡ Some (f x)) (sym (length-map xs f)) (got_mapped xs (length xs - 1) x e)

  pub none_mapped : (xs : List A) → last_item xs ≡ None → last_item (map f xs) ≡ None
  none_mapped xs e = subst (λ k. slice_get (map f xs) (k - 1) ≡ None) (sym (length-map xs f)) (got_none xs (length xs - 1) e)

-- ---- what goes on is as a state says

module _ (spec : Specification) (root : ℕ) (m : Contents) (marks : Marks) (revision : ℕ) (h : Stacks Entry) (turn : Turn) where
  pub past_goes_on : h.capacity ≡ 100 → map body_of (turned turn (record { model = m; marks = marks }) h).past ≡ past_after turn (state_of spec root m marks revision h)
  past_goes_on e = by turn
    where
      by : (turn : Turn) → map body_of (turned turn (record { model = m; marks = marks }) h).past ≡ past_after turn (state_of spec root m marks revision h)
      by turns.Forward = kept_mapped body_of h.capacity h.past (record { model = m; marks = marks }) ∙ ap (λ n. keep_last n (map body_of h.past ++ body m marks ∷ [])) e
      by turns.Back = all_but_newest_mapped body_of h.past
      by turns.Again = one_more_mapped body_of h.past (record { model = m; marks = marks })

  pub future_goes_on : map body_of (turned turn (record { model = m; marks = marks }) h).future ≡ future_after turn (state_of spec root m marks revision h)
  future_goes_on = by turn
    where
      by : (turn : Turn) → map body_of (turned turn (record { model = m; marks = marks }) h).future ≡ future_after turn (state_of spec root m marks revision h)
      by turns.Forward = refl
      by turns.Back = one_more_mapped body_of h.future (record { model = m; marks = marks })
      by turns.Again = all_but_newest_mapped body_of h.future

  pub is_possible : CanTurn turn (state_of spec root m marks revision h) → IsPossible turn h
  is_possible = by turn
    where
      by : (turn : Turn) → CanTurn turn (state_of spec root m marks revision h) → IsPossible turn h
      by turns.Forward c = tt
      by turns.Back c = subst (λ n. 0 < n) (length-map h.past body_of) c
      by turns.Again c = subst (λ n. 0 < n) (length-map h.future body_of) c

  pub capacity_stays : (e : Entry) → (turned turn e h).capacity ≡ h.capacity
  capacity_stays e = by turn
    where
      by : (turn : Turn) → (turned turn e h).capacity ≡ h.capacity
      by turns.Forward = refl
      by turns.Back = refl
      by turns.Again = refl

  -- what is kept is older than what comes
  pub past_older : (n : ℕ) → m.next ≤ n → AreOlder m.next h.past → AreOlder n (turned turn (record { model = m; marks = marks }) h).past
  past_older n later old = by turn
    where
      older : AreOlder n h.past
      older = all_mapped (λ (e : Entry). e.model.next ≤ m.next) (λ (e : Entry). e.model.next ≤ n) h.past (λ e k. omega arith) old

      with_it : AreOlder n (h.past ++ record { model = m; marks = marks } ∷ [])
      with_it = all_append (λ (e : Entry). e.model.next ≤ n) h.past (record { model = m; marks = marks } ∷ []) older (later, tt)

      by : (turn : Turn) → AreOlder n (turned turn (record { model = m; marks = marks }) h).past
      by turns.Forward = all_drop (λ (e : Entry). e.model.next ≤ n) (length (h.past ++ record { model = m; marks = marks } ∷ []) - h.capacity) (h.past ++ record { model = m; marks = marks } ∷ []) with_it
      by turns.Back = all_take (λ (e : Entry). e.model.next ≤ n) (length h.past - 1) h.past older
      by turns.Again = with_it

  pub future_older : (n : ℕ) → m.next ≤ n → AreOlder m.next h.future → AreOlder n (turned turn (record { model = m; marks = marks }) h).future
  future_older n later old = by turn
    where
      older : AreOlder n h.future
      older = all_mapped (λ (e : Entry). e.model.next ≤ m.next) (λ (e : Entry). e.model.next ≤ n) h.future (λ e k. omega arith) old

      by : (turn : Turn) → AreOlder n (turned turn (record { model = m; marks = marks }) h).future
      by turns.Forward = tt
      by turns.Back = all_append (λ (e : Entry). e.model.next ≤ n) h.future (record { model = m; marks = marks } ∷ []) older (later, tt)
      by turns.Again = all_take (λ (e : Entry). e.model.next ≤ n) (length h.future - 1) h.future older
