-- Links taken up one by one.
use Rattle.std.proofs.Common.{◌≡◌, ◌≢◌, ℕ, ◌+◌, ◌<◌, suc, zero, Bool, true, false, List, [], ◌∷◌, ◌++◌, length, get_or, take, All, Option, Some, None, refl, sym, ap, subst, ◌∙◌, eqb, arith, ◌⊎◌, inl, inr, ⊎_elim, Contains}
use Rattle.std.proofs.Math.ListN.{set, length-set}
use Rattle.std.proofs.lemmas.Bool.{eqb-true, false≢true, cases_lt}
use Rattle.std.proofs.lemmas.Option.{none-some, same_Some, get_or_from_slice_get, slice_get_within, slice_get-get_or}
use Rattle.std.proofs.lemmas.List.{take_more}
use Rattle.std.proofs.lemmas.List.Elements.{Contains-push, Contains-push_cases, Contains-append_left}
use Rattle.std.specs.List.{slice_get}
use Rattle.wb_store.specs.declared.containment.Link.{Link}
use Rattle.wb_store.specs.declared.records.Record.{Record}
use Rattle.wb_store.specs.Places.{rises, IsPlaceOf}
use Rattle.wb_store.specs.Records.{id_of}
use Rattle.wb_store.specs.invariants.Links.{Notes, AreHolders, IsHeldTwice}
use Rattle.wb_store.specs.invariants.Links.Notes.{dead, fresh, again, clash}
use Rattle.wb_store.proofs.Found.{rises-below, is_itself}
use Rattle.wb_store.proofs.Members.{In, Contains-In, In-Contains}
use Rattle.wb_store.proofs.Members.In.{here, there}

module _ {A : Type 0} where
  pub get-set_same : (xs : List A) (i : ℕ) (v w : A) → slice_get xs i ≡ Some w → slice_get (set xs i v) i ≡ Some v
  get-set_same [] i v w e = absurd (none-some w e)
  get-set_same (x ∷ xs) zero v w e = refl
  get-set_same (x ∷ xs) (suc i) v w e = get-set_same xs i v w e

  pub get-set_other : (xs : List A) (i j : ℕ) (v : A) → i ≢ j → slice_get (set xs i v) j ≡ slice_get xs j
  get-set_other [] i j v n = refl
  get-set_other (x ∷ xs) zero zero v n = absurd (n refl)
  get-set_other (x ∷ xs) zero (suc j) v n = refl
  get-set_other (x ∷ xs) (suc i) zero v n = refl
  get-set_other (x ∷ xs) (suc i) (suc j) v n = get-set_other xs i j v (λ e. n (ap suc e))

  In-take : (n : ℕ) (xs : List A) (x : A) → In x (take n xs) → In x xs
  In-take zero xs x m = elim m [ ]
  In-take (suc n) [] x m = elim m [ ]
  In-take (suc n) (y ∷ xs) x here = here
  In-take (suc n) (y ∷ xs) x (there m) = there (In-take n xs x m)

  pub Contains-take : (n : ℕ) (xs : List A) (x : A) → Contains (take n xs) x → Contains xs x
  Contains-take n xs x c = Contains-In xs x (In-take n xs x (In-Contains (take n xs) x c.0 c.1 c.2))

pub decide : (i j : ℕ) → (i ≡ j) ⊎ (i ≢ j)
decide i j = elim (eqb i j) as (λ b. eqb i j ≡ b → (i ≡ j) ⊎ (i ≢ j)) [
  | true ↦ λ e. inl (eqb-true i j e)
  | false ↦ λ e. inr (λ s. false≢true (sym e ∙ subst (λ k. eqb i k ≡ true) s (is_itself i)))
] refl

module _ {A : Type 0} (number : A → ℕ) where
  pub place_not_both : (xs : List A) (n i : ℕ) → IsPlaceOf number xs n None → IsPlaceOf number xs n (Some i) → ⊥
  place_not_both [] n i none p = absurd (omega (arith, p.0))
  place_not_both (x ∷ xs) n i none p = none i x p.0 (p.1 x)

  below_apart : (xs : List A) (n i j : ℕ) → rises number xs ≡ true → IsPlaceOf number xs n (Some i) → IsPlaceOf number xs n (Some j) → i < j → ⊥
  below_apart [] n i j h p q l = absurd (omega (arith, p.0))
  below_apart (x ∷ xs) n i j h p q l = let below = rises-below number (x ∷ xs) i j x h l q.0 in let a = p.1 x in let b = q.1 x in absurd (omega (arith, below, a, b))

  pub place_unique : (xs : List A) (n i j : ℕ) → rises number xs ≡ true → IsPlaceOf number xs n (Some i) → IsPlaceOf number xs n (Some j) → i ≡ j
  place_unique xs n i j h p q = ⊎_elim (λ l. absurd (below_apart xs n i j h p q l)) (λ l. ⊎_elim (λ m. absurd (below_apart xs n j i h q p m)) (λ m. omega (arith, l, m)) (cases_lt j i)) (cases_lt i j)

module _ (rs : List Record) where
  pub none_held : (hs : List (Option Link)) (ts : List Bool) → length hs ≡ length rs → All (λ h. h ≡ None) hs → length ts ≡ length rs → All (λ t. t ≡ false) ts → AreHolders rs [] hs ts
  none_held hs ts e none f unmarked = record {
    each = e;
    each_twice = f;
    all = λ l i m p t. absurd (omega (arith, m.1));
    only = λ l i g. absurd (none-some l (sym (none i (Some l) (slice_get_within hs i (Some l) g)) ∙ get_or_from_slice_get hs i (Some l) (Some l) g));
    others = λ i g. absurd (false≢true (sym (unmarked i true (slice_get_within ts i true g)) ∙ get_or_from_slice_get ts i true true g));
  }

  module _ (rise : rises id_of rs ≡ true) (ls : List Link) (l : Link) (hs : List (Option Link)) (ts : List Bool) (holders : AreHolders rs ls hs ts) where
    still_twice : (i : ℕ) → slice_get ts i ≡ Some true → IsHeldTwice rs (ls ++ l ∷ []) i
    still_twice i g =
        let two = holders.others i g in
        record {
          first = two.first;
          second = two.second;
          has_first = Contains-append_left ls (l ∷ []) two.first two.has_first;
          has_second = Contains-append_left ls (l ∷ []) two.second two.has_second;
          to_first = two.to_first;
          to_second = two.to_second;
          differ = two.differ;
        }

    still_only : (k : Link) (i : ℕ) → slice_get hs i ≡ Some (Some k) → Contains (ls ++ l ∷ []) k × IsPlaceOf id_of rs k.object (Some i)
    still_only k i g = let o = holders.only k i g in (Contains-append_left ls (l ∷ []) k o.0, o.1)

    pub noted : (next : List (Option Link)) (marks : List Bool) → Notes rs l hs ts next marks → AreHolders rs (ls ++ l ∷ []) next marks
    noted next marks (dead none) = record {
      each = holders.each;
      each_twice = holders.each_twice;
      all = λ k i m p t. ⊎_elim (λ old. holders.all k i old p t) (λ e. absurd (place_not_both id_of rs k.object i (subst (λ (x : Link). IsPlaceOf id_of rs x.object None) e none) p)) (Contains-push_cases ls l k m);
      only = still_only;
      others = still_twice;
    }
    noted next marks (fresh i p e) = record {
      each = length-set hs i (Some l) ∙ holders.each;
      each_twice = holders.each_twice;
      all = λ k j m q t. ⊎_elim
          (λ old. let f = holders.all k j old q t in get-set_other hs i j (Some l) (λ s. none-some k (same_Some None (Some k) (sym e ∙ subst (λ x. slice_get hs x ≡ Some (Some k)) (sym s) f))) ∙ f)
          (λ s. subst (λ x. slice_get (set hs i (Some l)) x ≡ Some (Some k)) (place_unique id_of rs k.object i j rise (subst (λ (x : Link). IsPlaceOf id_of rs x.object (Some i)) s p) q)
          (get-set_same hs i (Some l) None e ∙ ap (λ x. Some (Some x)) s))
          (Contains-push_cases ls l k m);
      only = λ k j g. ⊎_elim
          (λ s. let same = same_Some l k (same_Some (Some l) (Some k) (sym (get-set_same hs i (Some l) None e) ∙ subst (λ x. slice_get (set hs i (Some l)) x ≡ Some (Some k)) (sym s) g)) in
          (subst (Contains (ls ++ l ∷ [])) same (Contains-push ls l), subst (λ (x : Link). IsPlaceOf id_of rs x.object (Some j)) same (subst (λ x. IsPlaceOf id_of rs l.object (Some x)) s p)))
          (λ n. still_only k j (sym (get-set_other hs i j (Some l) n) ∙ g))
          (decide i j);
      others = still_twice;
    }
    noted next marks (again i p e) = record {
      each = holders.each;
      each_twice = holders.each_twice;
      all = λ k j m q t. ⊎_elim (λ old. holders.all k j old q t) (λ s. subst (λ x. slice_get hs x ≡ Some (Some k)) (place_unique id_of rs k.object i j rise (subst (λ (x : Link). IsPlaceOf id_of rs x.object (Some i)) s p) q) (e ∙ ap (λ x. Some (Some x)) s)) (Contains-push_cases ls l k m);
      only = still_only;
      others = still_twice;
    }
    noted next marks (clash i held p e n) =
        let within : i < length ts = omega (arith, slice_get_within hs i (Some held) e, holders.each, holders.each_twice) in
        let here : slice_get (set ts i true) i ≡ Some true = get-set_same ts i true (get_or ts i true) (slice_get-get_or ts i true within) in
        record {
          each = holders.each;
          each_twice = length-set ts i true ∙ holders.each_twice;
          all = λ k j m q t. ⊎_elim
              (λ s. absurd (false≢true (same_Some false true (sym t ∙ subst (λ x. slice_get (set ts i true) x ≡ Some true) s here))))
              (λ d. ⊎_elim
              (λ old. holders.all k j old q (sym (get-set_other ts i j true d) ∙ t))
              (λ s. absurd (d (place_unique id_of rs k.object i j rise (subst (λ (x : Link). IsPlaceOf id_of rs x.object (Some i)) s p) q)))
              (Contains-push_cases ls l k m))
              (decide i j);
          only = still_only;
          others = λ j g. ⊎_elim
              (λ s. subst (IsHeldTwice rs (ls ++ l ∷ [])) s (record {
                first = held;
                second = l;
                has_first = (still_only held i e).0;
                has_second = Contains-push ls l;
                to_first = (still_only held i e).1;
                to_second = p;
                differ = n;
              }))
              (λ d. still_twice j (sym (get-set_other ts i j true d) ∙ g))
              (decide i j);
        }

  pub noted_more : (rise : rises id_of rs ≡ true) (ls : List Link) (i : ℕ) (l : Link) (hs : List (Option Link)) (ts : List Bool) → i < length ls → l ≡ get_or ls i l → AreHolders rs (take i ls) hs ts
      → (next : List (Option Link)) (marks : List Bool) → Notes rs l hs ts next marks → AreHolders rs (take (i + 1) ls) next marks
  noted_more rise ls i l hs ts within read holders next marks notes =
      subst (λ links. AreHolders rs links next marks) (sym (take_more ls i l within ∙ ap (λ x. take i ls ++ x ∷ []) (sym read))) (noted rise (take i ls) l hs ts holders next marks notes)
