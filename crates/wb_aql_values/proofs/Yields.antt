-- What is true of each value that a reading can give, over contents that are as wanted.
use Rattle.std.specs.Prelude.{⊤}
use Rattle.std.proofs.Common.{◌≡◌, Bool, true, List, [], ◌∷◌, Result, Ok, Err, IfOk, refl, ap, subst}
use Rattle.std.specs.List.{list_all}
use Rattle.wb_metamodel.specs.Metamodel.{Metamodel}
use Rattle.wb_store.specs.declared.scalars.Cell.{Cell}
use Rattle.wb_store.specs.declared.scalars.Scalar.{Scalar}
use Rattle.wb_aql_values.specs.declared.faults.Fault.{Fault}
use Rattle.wb_aql_values.specs.declared.faults.Halt.{Halt}
use Rattle.wb_aql_values.specs.declared.values.Sort.{Sort}
use Rattle.wb_aql_values.specs.declared.values.Sort.TheVariants as sort
use Rattle.wb_aql_values.specs.declared.values.Value.{Value}
use Rattle.wb_aql_values.specs.declared.values.Value.TheVariants.{Null, One, Sequence, OrderedSet}
use Rattle.wb_aql_values.specs.Bounds.{IsBounded, is_bounded}
use Rattle.wb_aql_values.specs.Values.{collection, put}
use Rattle.wb_aql_values.specs.Readings.{Content, Reading, done, fail, look, given, each, gather, of_each, lifted, ◌>>=◌}
use Rattle.wb_aql_values.specs.Runs.{Ran, run, with_read, Gives}
use Rattle.wb_aql_values.proofs.Putting.{bounded_put, empty_bounded}
use Rattle.wb_aql_values.proofs.Sublists.{and_both}

same_given : {A : Type 0} (y x : A) → ◌≡◌ {A = Result A Fault} (Ok y) (Ok x) → y ≡ x
same_given y x e = cc

none_given : {A : Type 0} (fault : Fault) (x : A) → ◌≡◌ {A = Result A Fault} (Err fault) (Ok x) → ⊥
none_given fault x e = cc

module _ (AreHeld : (c : Cell) → Content c → Type 0) where
  abbrev pub Yields : {A : Type 0} → (A → Type 0) → Reading A → Type 0
  Yields P (done x) = P x
  Yields P (fail fault) = ⊤
  Yields P (look c onward) = (x : Content c) → AreHeld c x → Yields P (onward x)

  -- what a run gives is among it
  pub of_run : {A : Type 0} (P : A → Type 0) (r : Reading A) (m : (c : Cell) → Content c) (old : List Cell) (x : A) (reads : List Cell) →
      ((c : Cell) → AreHeld c (m c)) → Yields P r → run r m old ≡ record { gave = Ok x; reads = reads } → P x
  unfolding run
  of_run {A} P (done y) m old x reads held h e = subst P (same_given y x (ap (λ (ran : Ran A). ran.gave) e)) h
  of_run {A} P (fail fault) m old x reads held h e = absurd (none_given fault x (ap (λ (ran : Ran A). ran.gave) e))
  of_run P (look c onward) m old x reads held h e = of_run P (onward (m c)) m (with_read old c) x reads held (h (m c) (held c)) e

  pub in_turn : {A B : Type 0} (P : A → Type 0) (Q : B → Type 0) (r : Reading A) (next : A → Reading B) → Yields P r → ((x : A) → P x → Yields Q (next x)) → Yields Q (r >>= next)
  unfolding ◌>>=◌
  in_turn P Q (done x) next h f = f x h
  in_turn P Q (fail fault) next h f = tt
  in_turn P Q (look c onward) next h f = λ x held. in_turn P Q (onward x) next (h x held) f

  pub weaker : {A : Type 0} (P Q : A → Type 0) (r : Reading A) → ((x : A) → P x → Q x) → Yields P r → Yields Q r
  weaker P Q (done x) f h = f x h
  weaker P Q (fail fault) f h = tt
  weaker P Q (look c onward) f h = λ x held. weaker P Q (onward x) f (h x held)

  pub anything : {A : Type 0} (r : Reading A) → Yields (λ _. ⊤) r
  anything (done x) = tt
  anything (fail fault) = tt
  anything (look c onward) = λ x held. anything (onward x)

  pub of_given : {A : Type 0} (P : A → Type 0) (x : Result A Fault) → ((y : A) → x ≡ Ok y → P y) → Yields P (given x)
  of_given P (Ok y) h = h y refl
  of_given P (Err fault) h = tt

  -- what a call gives that follows the run
  pub gives_bounded : {A : Type 0} (P : A → Type 0) (r : Reading A) (m : (c : Cell) → Content c) (old : List Cell) (result : Result A Halt) (reads : List Cell) →
      ((c : Cell) → AreHeld c (m c)) → Yields P r → Gives (run r m old) result reads → IfOk result P
  gives_bounded P r m old (Ok v) reads held h e = of_run P r m old v reads held h e
  gives_bounded P r m old (Err stop) reads held h e = tt

  -- steps that keep a fact keep it together
  pub of_steps : {A B : Type 0} (P : B → Type 0) (test : A → Bool) (step : B → A → Reading B) (b : B) (xs : List A) →
      ((c : B) (x : A) → P c → test x ≡ true → Yields P (step c x)) → P b → list_all test xs ≡ true → Yields P (each step b xs)
  unfolding each
  of_steps P test step b [] keeps h all = h
  of_steps P test step b (x ∷ xs) keeps h all =
      let a = and_both (test x) (list_all test xs) all in
      in_turn P P (step b x) (λ c. each step c xs) (keeps b x h a.0) (λ c i. of_steps P test step c xs keeps i a.1)

  module _ (mm : Metamodel) (f : Scalar → Reading Value) (each_bounded : (x : Scalar) → is_bounded mm x ≡ true → Yields (IsBounded mm) (f x)) where
    pub of_collected : (kind : Sort) (xs : List Scalar) → list_all (is_bounded mm) xs ≡ true → Yields (IsBounded mm) (of_each kind f xs)
    unfolding of_each gather
    of_collected kind xs all =
        let P : List Scalar → Type 0 = λ ys. IsBounded mm (collection kind ys) in
        in_turn P (IsBounded mm) (each (gather kind f) [] xs) (λ ys. done (collection kind ys))
        (of_steps P (is_bounded mm) (gather kind f) [] xs
        (λ ys x h b. in_turn (IsBounded mm) P (f x) (λ v. given (put kind ys v)) (each_bounded x b) (λ v i. of_given P (put kind ys v) (λ zs e. bounded_put mm kind ys zs v h i e)))
        (empty_bounded mm kind) all)
        (λ ys h. h)

    pub of_lifted : (on_null : Reading Value) → Yields (IsBounded mm) on_null → (v : Value) → IsBounded mm v → Yields (IsBounded mm) (lifted on_null f v)
    unfolding lifted
    of_lifted on_null h Null b = h
    of_lifted on_null h (One x) b = each_bounded x b
    of_lifted on_null h (Sequence xs) b = of_collected sort.Sequence xs b.bounded
    of_lifted on_null h (OrderedSet xs) b = of_collected sort.OrderedSet xs b.0.bounded
