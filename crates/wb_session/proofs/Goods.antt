-- Good bodies and good states.
use Rattle.std.proofs.Common.{◌≡◌, ◌≤◌, ◌<◌, ◌^◌, ◌-◌, ◌+◌, ◌&&◌, ◌||◌, ltb, nat_lt, ℕ, suc, Bool, true, false, not, cond, List, [], ◌∷◌, ◌++◌, length, filter, Option, None, Result, Ok, Err, refl, subst, ◌∙◌, arith}
use Rattle.std.specs.Prelude.{IsSome, IfSome, ⊤}
use Rattle.std.specs.FinMap as positions
use Rattle.std.specs.List.{AllByRecursion}
use Rattle.std.specs.Option.{option_map_or}
use Rattle.std.proofs.lemmas.Bool.{and_parts, false≢true, ltb-true}
use Rattle.std.proofs.lemmas.List.{length-append, length-drop, length-take}
use Rattle.wb_base.proofs.ListLemmas.{filter-keeps}
use Rattle.wb_store.specs.Contents.{Contents}
use Rattle.wb_validity.specs.Valid.{IsValid, conforms_to}
use Rattle.wb_validity.proofs.LaterNext.{valid-later}
use Rattle.wb_diagram.specs.declared.keys.AnyKey.TheVariants.{Node}
use Rattle.wb_diagram.specs.declared.keys.EdgeKey.{EdgeKey}
use Rattle.wb_diagram.specs.declared.keys.Key.{Key}
use Rattle.wb_model.specs.Edits.{is_live}
use Rattle.wb_spec_check.specs.Checked.{IsCheckedBy, Specification}
use Rattle.wb_spec_check.specs.Units.{mapping_of_key}
use Rattle.wb_answers.specs.SameKeys.{among}
use Rattle.wb_layout.specs.Orders.{is_key}
use Rattle.wb_layout.specs.Positions.{IsInRange}
use Rattle.wb_layout.proofs.Kept.{get-restricted}
use Rattle.wb_refresh.specs.Openings.{all_rows, is_too_large}
use Rattle.wb_refresh.specs.Weights.{is_over}
use Rattle.wb_refresh.specs.Outcomes.{Gives}
use Rattle.wb_refresh.specs.Subjects.{Setting, Subject, subject, subject_in}
use Rattle.wb_declared.specs.Declarations.{DeclaresAlike, declared_edges, declared_nodes, renumbered}
use Rattle.wb_declared.specs.Marks.{settled as settled_marks}
use Rattle.wb_marks.specs.Marks.{settled}
use Rattle.wb_marks.specs.declared.marks.Marks.{Marks}
use Rattle.wb_targets.specs.Targets.{is_placeable, is_unsynchronised, placeable}
use Rattle.wb_session.specs.declared.refusal.Refusal.{Refusal}
use Rattle.wb_session.specs.declared.refusal.Refusal.TheVariants as r
use Rattle.wb_session.specs.declared.turn.Turn.{Turn}
use Rattle.wb_session.specs.declared.turn.Turn.TheVariants as turns
use Rattle.wb_session.specs.States.{AreLawful, Body, IsGood, IsGoodBody, State, body, model_at, subject_at}
use Rattle.wb_session.specs.Steps.{future_after, past_after, settled_body, stands}
use Rattle.wb_session.specs.Tries.{Tried}
use Rattle.wb_session.specs.invariants.Keeping.{CanTurn}
use Rattle.wb_session.proofs.Lists.{all_append, all_drop, all_mapped, all_take}
use Rattle.wb_marks.proofs.Apart.{settled_apart}
use Rattle.wb_session.proofs.Settling.{becomes_settled, settled_alike, settling_declares_alike}

-- ---- lawful marks

some_of : {A : Type 0} (b : Bool) (o : Option A) → IsSome (cond b o None) → IsSome o
some_of true o h = h
some_of false o h = absurd (false≢true h)

pub lawful_settled : (spec : Specification) (ns : List Key) (es : List EdgeKey) (marks : Marks) → AreLawful spec marks → AreLawful spec (settled ns es marks)
lawful_settled spec ns es marks h = record {
  shown = filter-keeps (λ (key : Key). option_map_or (is_unsynchronised spec) (mapping_of_key (Node key)) false ≡ true) (among ns) marks.shown h.shown;
  placed = λ key is. h.placed key (some_of (is_key ns key) (positions.get marks.layout key) (subst IsSome (get-restricted marks.layout ns key) is));
  distinct = settled_apart ns es marks h.distinct;
}

-- ---- the next number

pub next_is_small : (m : Contents) → IsValid m → m.next < 2 ^ 32
unfolding IsValid
next_is_small m v = ltb-true m.next (2 ^ 32) (and_parts (ltb 0 m.next) (ltb m.next (2 ^ 32)) (and_parts (ltb 0 m.next && ltb m.next (2 ^ 32)) _ v.numbers_are_spent).0).1

-- ---- what stands

stands_by : (b c : Bool) → cond (not b) (Err r.RootRemoved) (cond c (Err r.DiagramTooLarge) (let x : Result ⊤ Refusal = Ok tt in x)) ≡ Ok tt → (b ≡ true) × (c ≡ false)
stands_by true true e = absurd cc
stands_by true false e = (refl, refl)
stands_by false c e = absurd cc

module _ (gives : Gives) where
  pub it_stands : (spec : Specification) (root : ℕ) (a : Tried) → stands gives spec root a ≡ Ok tt
      → (is_live (model_at a.next a.body) root ≡ true) × (is_too_large gives (subject_at spec root a.next a.body) ≡ false)
  unfolding stands
  it_stands spec root a e = stands_by (is_live (model_at a.next a.body) root) (is_too_large gives (subject_at spec root a.next a.body)) e

  -- ---- a body that settles becomes good

  module _ (undropped : (st : Setting) (shown : List Key) → DeclaresAlike gives (subject_in st shown) (subject_in st (settled_marks gives st shown))) where
    pub becomes_good : (spec : Specification) (root : ℕ) (m : Contents) (marks : Marks) → IsValid m → IsCheckedBy m.metamodel spec → conforms_to m spec.1.domain root ≡ true
        → is_too_large gives (subject spec m root marks.shown) ≡ false → AreLawful spec marks
        → ((key : Key) → IfSome (positions.get (settled (declared_nodes gives (subject spec m root marks.shown)) (declared_edges gives (subject spec m root marks.shown)) marks).layout key) IsInRange)
        → IsGoodBody gives spec root m.next (settled_body gives (subject spec m root marks.shown) (body m marks))
    becomes_good spec root m marks valid checked conforms fits lawful in_range = record {
      checked = checked;
      valid = valid;
      rooted = conforms;
      fits = (settling_declares_alike gives undropped spec root m.next (body m marks)).too_large ∙ fits;
      settled = becomes_settled gives undropped spec root m.next (body m marks);
      lawful = lawful_settled spec (declared_nodes gives (subject spec m root marks.shown)) (declared_edges gives (subject spec m root marks.shown)) marks lawful;
      in_range = in_range;
    }

  -- ---- good states stay good

  module _ (unseen : (s : Subject) (next : ℕ) → DeclaresAlike gives s (renumbered next s)) where
    pub good_later : (spec : Specification) (root n k : ℕ) (b : Body) → n ≤ k → k < 2 ^ 32 → IsGoodBody gives spec root n b → IsGoodBody gives spec root k b
    good_later spec root n k b later few g =
        let alike = unseen (subject_at spec root n b) k in
        record {
          checked = g.checked;
          valid = valid-later (model_at n b) k later few g.valid;
          rooted = g.rooted;
          fits = alike.too_large ∙ g.fits;
          settled = settled_alike gives (subject_at spec root n b) (subject_at spec root k b) b.marks alike g.settled;
          lawful = g.lawful;
          in_range = g.in_range;
        }

    module _ (s : State) (k revision : ℕ) (b : Body) (later : s.next ≤ k) (risen : revision ≤ 9007199254740991) (g : IsGood gives s) (h : IsGoodBody gives s.spec s.root k b) where
      few : k < 2 ^ 32
      few = next_is_small (model_at k b) h.valid

      all_later : (bs : List Body) → AllByRecursion (IsGoodBody gives s.spec s.root s.next) bs → AllByRecursion (IsGoodBody gives s.spec s.root k) bs
      all_later bs a = all_mapped (IsGoodBody gives s.spec s.root s.next) (IsGoodBody gives s.spec s.root k) bs (λ x. good_later s.spec s.root s.next k x later few) a

      with_now : (bs : List Body) → AllByRecursion (IsGoodBody gives s.spec s.root s.next) bs → AllByRecursion (IsGoodBody gives s.spec s.root k) (bs ++ s.body ∷ [])
      with_now bs a = all_append (IsGoodBody gives s.spec s.root k) bs (s.body ∷ []) (all_later bs a) (good_later s.spec s.root s.next k s.body later few g.body, tt)

      -- whatever way past and future go on
      pub good_after : (turn : Turn) → CanTurn turn s
          → IsGood gives (record { spec = s.spec; root = s.root; next = k; body = b; revision = revision; past = past_after turn s; future = future_after turn s })
      good_after turns.Forward c = record {
        body = h;
        past = all_drop (IsGoodBody gives s.spec s.root k) (length (s.past ++ s.body ∷ []) - 100) (s.past ++ s.body ∷ []) (with_now s.past g.past);
        future = tt;
        together = omega (arith, length-drop (length (s.past ++ s.body ∷ []) - 100) (s.past ++ s.body ∷ []));
        revision = risen;
      }
      good_after turns.Back c = record {
        body = h;
        past = all_take (IsGoodBody gives s.spec s.root k) (length s.past - 1) s.past (all_later s.past g.past);
        future = with_now s.future g.future;
        together = omega (arith, length-take (length s.past - 1) s.past, length-append s.future (s.body ∷ []), g.together, c);
        revision = risen;
      }
      good_after turns.Again c = record {
        body = h;
        past = with_now s.past g.past;
        future = all_take (IsGoodBody gives s.spec s.root k) (length s.future - 1) s.future (all_later s.future g.future);
        together = omega (arith, length-take (length s.future - 1) s.future, length-append s.past (s.body ∷ []), g.together, c);
        revision = risen;
      }

-- a diagram that is not too large has few elements
few_by : (a b : ℕ) (over : Bool) → (over || nat_lt 100000 (a + b)) ≡ false → a ≤ 100000
few_by a b true e = absurd cc
few_by a b false e = grind arith

pub few_declared : (gives : Gives) (s : Subject) → is_too_large gives s ≡ false → length (declared_nodes gives s) ≤ 100000
few_declared gives s e = few_by (length (declared_nodes gives s)) (length (declared_edges gives s)) (is_over (all_rows gives s)) e

one_of : {A : Type 0} (x : A) (less more : List A) (b : Bool) → length less ≤ length more → length (cond b (x ∷ less) less) ≤ suc (length more)
one_of x less more true h = omega (arith, h)
one_of x less more false h = omega (arith, h)

filter_length : {A : Type 0} (p : A → Bool) (xs : List A) → length (filter p xs) ≤ length xs
filter_length p [] = omega arith
filter_length p (x ∷ xs) = one_of x (filter p xs) xs (p x) (filter_length p xs)

pub few_placeable : (gives : Gives) (s : Subject) (spec : Specification) → is_too_large gives s ≡ false → length (placeable spec (declared_nodes gives s)) ≤ 100000
few_placeable gives s spec e =
    let few = few_declared gives s e in
    let less = filter_length (is_placeable spec) (declared_nodes gives s) in
    omega (arith, few, less)
