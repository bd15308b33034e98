-- What a service gives is within the bounds of a value, where its receiver and its arguments are.
use Rattle.std.specs.Prelude.{⊤}
use Rattle.std.proofs.Common.{◌≡◌, ◌-◌, ◌⊎◌, inl, inr, ℕ, zero, suc, Bool, true, false, not, nat_le, nat_eq, List, [], ◌∷◌, ◌++◌, length, map, Option, None, Some, Result, Ok, Err, cond, refl, sym, ap, subst, ◌∙◌, append_assoc, if◌then◌else◌, ℤ, pos, negsuc}
use Rattle.std.proofs.lemmas.List.{append-nil}
use Rattle.std.specs.Prelude.{slice_get, filter}
use Rattle.std.specs.List.{list_all, before_first, after_first, starts_with}
use Rattle.std.specs.Option.{option_map_or}
use Rattle.wb_metamodel.specs.Metamodel.{Metamodel}
use Rattle.wb_store.specs.declared.scalars.Cell.{Cell}
use Rattle.wb_store.specs.declared.scalars.Cell.TheVariants.{Kind, Tree}
use Rattle.wb_store.specs.declared.scalars.Scalar.{Scalar}
use Rattle.wb_store.specs.declared.scalars.Scalar.TheVariants.{Int, Bool as Boolean, Text, Literal, Object}
use Rattle.wb_aql_check.specs.declared.services.Service.{Service}
use Rattle.wb_aql_check.specs.declared.services.Service.TheVariants as s
use Rattle.wb_aql_services.specs.declared.arguments.Argument.{Argument}
use Rattle.wb_aql_services.specs.declared.by_dot.Navigation.{Navigation}
use Rattle.wb_aql_services.specs.declared.by_dot.Navigation.TheVariants as w
use Rattle.wb_aql_services.specs.Services.{meaning, navigated, on_receiver}
use Rattle.wb_aql_services.specs.Asked.{type_in, value_in}
use Rattle.wb_aql_services.specs.Navigation as n
use Rattle.wb_aql_services.specs.Collections as c
use Rattle.wb_aql_services.specs.Texts as x
use Rattle.wb_aql_services.specs.Types as y
use Rattle.wb_aql_values.specs.declared.faults.Fault.{Fault}
use Rattle.wb_aql_values.specs.declared.faults.Fault.TheVariants.{TooLong, NotInt}
use Rattle.wb_aql_values.specs.declared.values.Sort.{Sort}
use Rattle.wb_aql_values.specs.declared.values.Sort.TheVariants as sort
use Rattle.wb_aql_values.specs.declared.values.Value.{Value}
use Rattle.wb_aql_values.specs.declared.values.Value.TheVariants.{Null, One, Sequence, OrderedSet}
use Rattle.wb_aql_values.specs.Bounds.{AreBounded, IsBounded, is_bounded}
use Rattle.wb_aql_values.specs.Values.{collection, flag, put, short, members, sort_of}
use Rattle.wb_aql_values.specs.TextForms.{bounded_text, made, full_form, text_form, scalar_form}
use Rattle.wb_aql_values.specs.Readings.{Content, Reading, done, fail, given, held, each, class_of, ◌>>=◌}
use Rattle.wb_aql_values.proofs.Putting.{put_bounded, bounded_put, empty_bounded, bounded_members, le_of_test}
use Rattle.wb_aql_values.proofs.Sublists.{IsSublist, none, kept, left_out, bounded_kept, bounded_sublist, and_both}
use Rattle.wb_aql_values.proofs.Yields.{Yields, in_turn, weaker, anything, of_given, of_lifted}

one_more : {A : Type 0} (b : Bool) (x : A) (ys xs : List A) → IsSublist ys xs → IsSublist (cond b (x ∷ ys) ys) (x ∷ xs)
one_more true x ys xs s = kept s
one_more false x ys xs s = left_out s

filter_sublist : {A : Type 0} (p : A → Bool) (xs : List A) → IsSublist (filter p xs) xs
filter_sublist p [] = none
filter_sublist p (x ∷ xs) = one_more (p x) x (filter p xs) xs (filter_sublist p xs)

-- what was put after these are some of those
record Among (before xs ys : List Scalar) : Type 0 where
  some : List Scalar
  are : IsSublist some xs
  behind : ys ≡ before ++ some

among_more : (before xs ys zs : List Scalar) (x : Scalar) → (ys ≡ before) ⊎ (ys ≡ before ++ x ∷ []) → Among ys xs zs → Among before (x ∷ xs) zs
among_more before xs ys zs x (inl e) a = record { some = a.some; are = left_out a.are; behind = a.behind ∙ ap (λ b. b ++ a.some) e }
among_more before xs ys zs x (inr e) a = record { some = x ∷ a.some; are = kept a.are; behind = a.behind ∙ (ap (λ b. b ++ a.some) e ∙ append_assoc before (x ∷ []) a.some) }

module _ (mm : Metamodel) where
  pub objects_bounded : (os : List ℕ) → list_all (is_bounded mm) (map Object os) ≡ true
  objects_bounded [] = refl
  objects_bounded (o ∷ os) = objects_bounded os

  short_bounded : (xs ys : List Scalar) → list_all (is_bounded mm) xs ≡ true → short xs ≡ Ok ys → AreBounded mm ys
  short_bounded xs ys all e = one (nat_le (length xs) 65536) refl e
    where
      one : (short_enough : Bool) → nat_le (length xs) 65536 ≡ short_enough → ◌≡◌ {A = Result (List Scalar) Fault} (if short_enough then Ok xs else Err TooLong) (Ok ys) → AreBounded mm ys
      one true f e = subst (λ zs. AreBounded mm zs) (let g : xs ≡ ys = cc in g) (record { not_long = le_of_test _ _ f; bounded = all })
      one false f e = absurd (let g : ⊥ = cc in g)

  member_bounded : (xs : List Scalar) (k : ℕ) → list_all (is_bounded mm) xs ≡ true → IsBounded mm (c.member_or_null (slice_get xs k))
  member_bounded [] k all = tt
  member_bounded (x ∷ xs) zero all = (and_both _ _ all).0
  member_bounded (x ∷ xs) (suc k) all = member_bounded xs k (and_both _ _ all).1

  at_bounded : (i : ℤ) (xs : List Scalar) → list_all (is_bounded mm) xs ≡ true → IsBounded mm (c.member_or_null (c.member_at i xs))
  at_bounded (pos zero) xs all = tt
  at_bounded (pos (suc k)) xs all = member_bounded xs k all
  at_bounded (negsuc k) xs all = tt

  text_bounded : (bytes form : List ℕ) → made (bounded_text form) ≡ Ok bytes → is_bounded mm (Text bytes) ≡ true
  text_bounded bytes form e = one (nat_le (length form) 65536) refl e
    where
      one : (short_enough : Bool) → nat_le (length form) 65536 ≡ short_enough → ◌≡◌ {A = Result (List ℕ) Fault} (made (if short_enough then Some form else None)) (Ok bytes) → nat_le (length bytes) 65536 ≡ true
      one true f e = subst (λ ys. nat_le (length ys) 65536 ≡ true) (let g : form ≡ bytes = cc in g) f
      one false f e = absurd (let g : ⊥ = cc in g)

  module _ (AreHeld : (c : Cell) → Content c → Type 0) where
    abbrev B : Reading Value → Type 0
    B r = Yields AreHeld (IsBounded mm) r

    -- ---- objects that conform to a type

    kept_one : (t : Option ℕ) (xs : List Scalar) (x : Scalar) → Yields AreHeld (λ ys. (ys ≡ xs) ⊎ (ys ≡ xs ++ x ∷ [])) (y.keep mm t xs x)
    unfolding y.keep ◌>>=◌
    kept_one t xs (Int i) = inl refl
    kept_one t xs (Boolean b) = inl refl
    kept_one t xs (Text bytes) = inl refl
    kept_one t xs (Literal e l) = inl refl
    kept_one t xs (Object o) = λ kind _. one (y.is_of mm t kind)
      where
        one : (b : Bool) → ((if b then xs ++ Object o ∷ [] else xs) ≡ xs) ⊎ ((if b then xs ++ Object o ∷ [] else xs) ≡ xs ++ Object o ∷ [])
        one true = inr refl
        one false = inl refl

    kept_among : (t : Option ℕ) (before xs : List Scalar) → Yields AreHeld (Among before xs) (each (y.keep mm t) before xs)
    unfolding each
    kept_among t before [] = record { some = []; are = none; behind = sym (append-nil before) }
    kept_among t before (x ∷ xs) =
        in_turn AreHeld (λ ys. (ys ≡ before) ⊎ (ys ≡ before ++ x ∷ [])) (Among before (x ∷ xs)) (y.keep mm t before x) (λ ys. each (y.keep mm t) ys xs) (kept_one t before x)
        (λ ys h. weaker AreHeld (Among ys xs) (Among before (x ∷ xs)) (each (y.keep mm t) ys xs) (λ zs. among_more before xs ys zs x h) (kept_among t ys xs))

    kept_of : (t : Option ℕ) (xs : List Scalar) → Yields AreHeld (λ ys. IsSublist ys xs) (y.kept mm t xs)
    unfolding y.kept
    kept_of t xs = weaker AreHeld (Among [] xs) (λ ys. IsSublist ys xs) (each (y.keep mm t) [] xs) (λ ys a. subst (λ zs. IsSublist zs xs) (sym a.behind) a.are) (kept_among t [] xs)

    narrowed_of : (t : Option ℕ) (xs : List Scalar) → AreBounded mm xs → Yields AreHeld (AreBounded mm) (y.narrowed mm t xs)
    narrowed_of None xs h = h
    narrowed_of (Some t) xs h = weaker AreHeld (λ ys. IsSublist ys xs) (AreBounded mm) (y.kept mm (Some t) xs) (λ ys k. bounded_sublist mm k h) (kept_of (Some t) xs)

    sequence_of : (t : Option ℕ) (os : List ℕ) → B (n.sequence mm t os)
    unfolding n.sequence
    sequence_of t os =
        in_turn AreHeld (AreBounded mm) (IsBounded mm) (given (short (map Object os))) (λ xs. y.narrowed mm t xs >>= λ ys. done (Sequence ys))
        (of_given AreHeld (AreBounded mm) (short (map Object os)) (λ xs e. short_bounded (map Object os) xs (objects_bounded os) e))
        (λ xs h. in_turn AreHeld (AreBounded mm) (IsBounded mm) (y.narrowed mm t xs) (λ ys. done (Sequence ys)) (narrowed_of t xs h) (λ ys i. i))

    -- whatever objects were found
    sequence_after : (t : Option ℕ) (r : Reading (List ℕ)) (f : List ℕ → List ℕ) → B (r >>= λ os. n.sequence mm t (f os))
    sequence_after t r f = in_turn AreHeld (λ _. ⊤) (IsBounded mm) r (λ os. n.sequence mm t (f os)) (anything AreHeld r) (λ os _. sequence_of t (f os))

    -- ---- services of objects

    nearest_of : (t : Option ℕ) (k o : ℕ) → B (n.nearest mm t k o)
    unfolding n.nearest ◌>>=◌
    nearest_of t zero o = tt
    nearest_of t (suc k) o = λ holder _. one holder (λ p. nearest_of t k p)
      where
        two : (b : Bool) (p : ℕ) → B (n.nearest mm t k p) → B (if b then done (One (Object p)) else n.nearest mm t k p)
        two true p h = refl
        two false p h = h

        one : (holder : Option (ℕ × ℕ)) → ((p : ℕ) → B (n.nearest mm t k p)) → B (option_map_or (λ (place : ℕ × ℕ). held (Kind place.0) >>= λ kind. if y.is_of mm t kind then done (One (Object place.0)) else n.nearest mm t k place.0) holder (done Null))
        one None h = tt
        one (Some place) h = λ kind _. two (y.is_of mm t kind) place.0 (h place.0)

    of_object_of : (f : ℕ → ℕ → Reading Value) → ((o k : ℕ) → B (f o k)) → (x : Scalar) → B (n.of_object f x)
    unfolding n.of_object
    of_object_of f h (Int i) = tt
    of_object_of f h (Boolean b) = tt
    of_object_of f h (Text bytes) = tt
    of_object_of f h (Literal e l) = tt
    of_object_of f h (Object o) = in_turn AreHeld (λ _. ⊤) (IsBounded mm) (class_of o) (f o) (anything AreHeld (class_of o)) (λ k _. h o k)

    container_of : (o : ℕ) → B (n.container o)
    unfolding n.container ◌>>=◌
    container_of o = λ holder _. one holder
      where
        one : (holder : Option (ℕ × ℕ)) → IsBounded mm (option_map_or (λ (place : ℕ × ℕ). One (Object place.0)) holder Null)
        one None = tt
        one (Some place) = refl

    inverse_of : (o : ℕ) → B (n.e_inverse o)
    unfolding n.e_inverse ◌>>=◌
    inverse_of o = λ pairs _.
        in_turn AreHeld (λ xs. IsBounded mm (OrderedSet xs)) (IsBounded mm) (given (put sort.OrderedSet [] (Sequence (map (λ (pair : ℕ × ℕ). Object pair.0) pairs)))) (λ xs. done (OrderedSet xs))
        (of_given AreHeld (λ xs. IsBounded mm (OrderedSet xs)) (put sort.OrderedSet [] (Sequence (map (λ (pair : ℕ × ℕ). Object pair.0) pairs)))
        (λ xs e. put_bounded mm sort.OrderedSet [] xs (Sequence (map (λ (pair : ℕ × ℕ). Object pair.0) pairs)) (empty_bounded mm sort.OrderedSet) (sources pairs) e))
        (λ xs h. h)
      where
        sources : (pairs : List (ℕ × ℕ)) → list_all (is_bounded mm) (map (λ (pair : ℕ × ℕ). Object pair.0) pairs) ≡ true
        sources [] = refl
        sources (p ∷ ps) = sources ps

    from_object_of : (way : Navigation) (t : Option ℕ) (o k : ℕ) → B (n.from_object mm way t o k)
    unfolding n.from_object n.e_container n.e_contents n.e_all_contents n.ancestors n.siblings n.preceding n.following
    from_object_of w.EContainer None o k = container_of o
    from_object_of w.EContainer (Some t) o k = nearest_of (Some t) n.height o
    from_object_of w.EContents t o k = sequence_after t (n.content mm o k) (λ os. os)
    from_object_of w.EAllContents t o k = sequence_after t (held (Tree o)) (λ os. os)
    from_object_of w.EInverse t o k = inverse_of o
    from_object_of w.Ancestors t o k = sequence_after t (n.climbed n.height [] o) (λ os. os)
    from_object_of w.Siblings t o k = sequence_after None (n.beside mm o) (filter (λ p. not (nat_eq p o)))
    from_object_of w.PrecedingSiblings t o k = sequence_after None (n.beside mm o) (before_first (λ p. nat_eq p o))
    from_object_of w.FollowingSiblings t o k = sequence_after None (n.beside mm o) (after_first (λ p. nat_eq p o))

    -- ---- services of scalars

    class_test : (o : ℕ) (test : ℕ → Value) → ((k : ℕ) → IsBounded mm (test k)) → B (class_of o >>= λ k. done (test k))
    class_test o test h = in_turn AreHeld (λ _. ⊤) (IsBounded mm) (class_of o) (λ k. done (test k)) (anything AreHeld (class_of o)) (λ k _. h k)

    tested_of : (test : ℕ → Bool) (x : Scalar) → B (y.tested test x)
    unfolding y.tested
    tested_of test (Object o) = class_test o (λ k. flag (test k)) (λ k. refl)
    tested_of test (Int i) = refl
    tested_of test (Boolean b) = refl
    tested_of test (Text bytes) = refl
    tested_of test (Literal e l) = refl

    as_type_of : (t : Option ℕ) (x : Scalar) → B (y.as_type mm t x)
    unfolding y.as_type
    as_type_of t (Object o) = class_test o (λ k. if y.conforms_to mm t k then One (Object o) else Null) (λ k. one (y.conforms_to mm t k))
      where
        one : (b : Bool) → IsBounded mm (if b then One (Object o) else Null)
        one true = refl
        one false = tt
    as_type_of t (Int i) = tt
    as_type_of t (Boolean b) = tt
    as_type_of t (Text bytes) = tt
    as_type_of t (Literal e l) = tt

    concat_of : (v : Value) (form : List ℕ) → B (x.concat mm v form)
    unfolding x.concat
    concat_of v form =
        let P : List ℕ → Type 0 = λ bytes. is_bounded mm (Text bytes) ≡ true in
        in_turn AreHeld P (IsBounded mm) (given (made (bounded_text (form ++ full_form mm v)))) (λ bytes. done (One (Text bytes)))
        (of_given AreHeld P (made (bounded_text (form ++ full_form mm v))) (λ bytes e. text_bounded bytes (form ++ full_form mm v) e)) (λ bytes h. h)

    begins_of : (v : Value) (form : List ℕ) → B (x.begins mm v form)
    unfolding x.begins
    begins_of v form = in_turn AreHeld (λ _. ⊤) (IsBounded mm) (given (made (text_form mm v))) (λ bytes. done (flag (starts_with nat_eq form bytes))) (anything AreHeld (given (made (text_form mm v)))) (λ bytes _. refl)

    of_form_of : (f : List ℕ → Reading Value) → ((form : List ℕ) → B (f form)) → (z : Scalar) → B (x.of_form mm f z)
    unfolding x.of_form
    of_form_of f h z = in_turn AreHeld (λ _. ⊤) (IsBounded mm) (x.alive z) (λ _. f (scalar_form mm z)) (anything AreHeld (x.alive z)) (λ _ _. h (scalar_form mm z))

    navigated_of : (way : Navigation) (t : Option ℕ) (r : Value) → IsBounded mm r → B (navigated mm way t r)
    unfolding navigated
    navigated_of way t r h = of_lifted AreHeld mm (n.of_object (n.from_object mm way t)) (λ z _. of_object_of (n.from_object mm way t) (from_object_of way t) z) (done Null) tt r h

    -- ---- services of collections

    put_of : (kind : Sort) (xs : List Scalar) (v : Value) → IsBounded mm (collection kind xs) → IsBounded mm v → Yields AreHeld (λ ys. IsBounded mm (collection kind ys)) (given (put kind xs v))
    put_of kind xs v h b = of_given AreHeld (λ ys. IsBounded mm (collection kind ys)) (put kind xs v) (λ ys e. bounded_put mm kind xs ys v h b e)

    at_of : (place : Option ℤ) (r : Value) → IsBounded mm r → B (option_map_or (λ i. done (c.member_or_null (c.member_at i (members r)))) place (fail NotInt))
    at_of None r h = tt
    at_of (Some i) r h = at_bounded i (members r) (bounded_members mm r h)

    on_receiver_of : (service : Service) (t : Option ℕ) (v r : Value) → IsBounded mm v → IsBounded mm r → B (on_receiver mm service t v r)
    unfolding on_receiver c.filtered c.at c.including c.as_sort
    on_receiver_of s.EContainer t v r b h = navigated_of w.EContainer t r h
    on_receiver_of s.EContents t v r b h = navigated_of w.EContents t r h
    on_receiver_of s.EAllContents t v r b h = navigated_of w.EAllContents t r h
    on_receiver_of s.EInverse t v r b h = navigated_of w.EInverse t r h
    on_receiver_of s.Ancestors t v r b h = navigated_of w.Ancestors t r h
    on_receiver_of s.Siblings t v r b h = navigated_of w.Siblings t r h
    on_receiver_of s.PrecedingSiblings t v r b h = navigated_of w.PrecedingSiblings t r h
    on_receiver_of s.FollowingSiblings t v r b h = navigated_of w.FollowingSiblings t r h
    on_receiver_of s.OclIsKindOf t v r b h = of_lifted AreHeld mm (y.tested (y.conforms_to mm t)) (λ z _. tested_of (y.conforms_to mm t) z) (done (flag false)) refl r h
    on_receiver_of s.OclIsTypeOf t v r b h = of_lifted AreHeld mm (y.tested (y.is_exactly t)) (λ z _. tested_of (y.is_exactly t) z) (done (flag false)) refl r h
    on_receiver_of s.OclAsType t v r b h = of_lifted AreHeld mm (y.as_type mm t) (λ z _. as_type_of t z) (done Null) tt r h
    on_receiver_of s.Concat t v r b h = of_lifted AreHeld mm (x.of_form mm (x.concat mm v)) (λ z _. of_form_of (x.concat mm v) (concat_of v) z) (x.concat mm v []) (concat_of v []) r h
    on_receiver_of s.StartsWith t v r b h = of_lifted AreHeld mm (x.of_form mm (x.begins mm v)) (λ z _. of_form_of (x.begins mm v) (begins_of v) z) (x.begins mm v []) (begins_of v []) r h
    on_receiver_of s.Filter t v r b h = in_turn AreHeld (λ ys. IsSublist ys (members r)) (IsBounded mm) (y.kept mm t (members r)) (λ xs. done (collection (sort_of r) xs)) (kept_of t (members r)) (λ xs k. bounded_kept mm r xs k h)
    on_receiver_of s.First t v r b h = member_bounded (members r) 0 (bounded_members mm r h)
    on_receiver_of s.Last t v r b h = member_bounded (members r) (length (members r) - 1) (bounded_members mm r h)
    on_receiver_of s.At t v r b h = at_of (c.int_in v) r h
    on_receiver_of s.Size t v r b h = refl
    on_receiver_of s.IsEmpty t v r b h = refl
    on_receiver_of s.NotEmpty t v r b h = refl
    on_receiver_of s.Includes t v r b h = refl
    on_receiver_of s.Excludes t v r b h = refl
    on_receiver_of s.Including t v r b h =
        let P : List Scalar → Type 0 = λ ys. IsBounded mm (collection (sort_of r) ys) in
        in_turn AreHeld P (IsBounded mm) (given (put (sort_of r) [] r)) (λ xs. given (put (sort_of r) xs v) >>= λ ys. done (collection (sort_of r) ys)) (put_of (sort_of r) [] r (empty_bounded mm (sort_of r)) h)
        (λ xs i. in_turn AreHeld P (IsBounded mm) (given (put (sort_of r) xs v)) (λ ys. done (collection (sort_of r) ys)) (put_of (sort_of r) xs v i b) (λ ys j. j))
    on_receiver_of s.Excluding t v r b h = bounded_kept mm r (filter (λ z. not (c.is_same v z)) (members r)) (filter_sublist (λ z. not (c.is_same v z)) (members r)) h
    on_receiver_of s.AsSequence t v r b h = in_turn AreHeld (λ ys. IsBounded mm (Sequence ys)) (IsBounded mm) (given (put sort.Sequence [] r)) (λ xs. done (Sequence xs)) (put_of sort.Sequence [] r (empty_bounded mm sort.Sequence) h) (λ xs i. i)
    on_receiver_of s.AsOrderedSet t v r b h = in_turn AreHeld (λ ys. IsBounded mm (OrderedSet ys)) (IsBounded mm) (given (put sort.OrderedSet [] r)) (λ xs. done (OrderedSet xs)) (put_of sort.OrderedSet [] r (empty_bounded mm sort.OrderedSet) h) (λ xs i. i)

    -- a service with its arguments
    pub service_of : (service : Service) (r : Value) (arguments : List Argument) → IsBounded mm r → IsBounded mm (value_in arguments) → B (meaning mm service r arguments)
    unfolding meaning
    service_of service r arguments h b = on_receiver_of service (type_in arguments) (value_in arguments) r b h
