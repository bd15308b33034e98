-- What a contract sees of a history: what stood before, and what was undone.
use Rattle.std.specs.Prelude.{ℕ, ◌-◌, List, [], ◌∷◌, ◌++◌, length, take, refl}
use Rattle.std.specs.Coded.{Coded, code_by, coded×, coded_list, coded_ℕ}
use Rattle.circular_buffer.specs.Buffer.{keep_last}

-- the entries of the past and of the future, the newest last, and how many there may be together
pub record Stacks (E : Type 0) : Type 0 where
  pub past : List E
  pub future : List E
  pub capacity : ℕ

module _ {E : Type 0} where
  abbrev pub stacks : List E → List E → ℕ → Stacks E
  stacks past future capacity = record { past = past; future = future; capacity = capacity }

  abbrev pub stacks_code : Coded E → Coded (Stacks E)
  stacks_code c = code_by (List E × (List E × ℕ)) (coded× (coded_list c) (coded× (coded_list c) coded_ℕ)) (λ h. (h.past, (h.future, h.capacity))) (λ p. stacks p.0 p.1.0 p.1.1) (λ _. refl)

  -- the entries without the newest
  abbrev pub all_but_newest : List E → List E
  all_but_newest entries = take (length entries - 1) entries

  -- nothing has happened yet
  abbrev pub unbegun : ℕ → Stacks E
  unbegun capacity = stacks [] [] capacity

  -- one more step is past, of which the last `capacity` are kept, and nothing is left to be done again
  abbrev pub stepped : Stacks E → E → Stacks E
  stepped h entry = stacks (keep_last h.capacity (h.past ++ entry ∷ [])) [] h.capacity

  -- the newest of the past is taken out
  abbrev pub without_newest_past : Stacks E → Stacks E
  without_newest_past h = stacks (all_but_newest h.past) h.future h.capacity

  -- the newest of the future is taken out
  abbrev pub without_newest_future : Stacks E → Stacks E
  without_newest_future h = stacks h.past (all_but_newest h.future) h.capacity

  -- one more is past, and the future stays
  abbrev pub with_past : Stacks E → E → Stacks E
  with_past h entry = stacks (h.past ++ entry ∷ []) h.future h.capacity

  -- one more can be done again, and the past stays
  abbrev pub with_future : Stacks E → E → Stacks E
  with_future h entry = stacks h.past (h.future ++ entry ∷ []) h.capacity
