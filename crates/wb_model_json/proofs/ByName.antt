-- Members by their names: what is put in among them, one after another, ascends by the bytes of the names.
use Rattle.std.proofs.Common.{◌≡◌, ℕ, List, [], ◌∷◌, ◌++◌, map, refl, sym, ap, ◌∙◌, subst, Ordering, Less, Equal, Greater, ◌⊎◌, inl, inr, append_assoc}
use Rattle.std.proofs.lemmas.Cmp.{nat_list_cmp_total}
use Rattle.std.specs.Prelude.{⊤}
use Rattle.std.specs.Cmp.Lexicographic.{slice_cmp}
use Rattle.std.specs.FinMap.{nat_cmp-IsAntisymmetric, slice_cmp-IsAntisymmetric}
use Rattle.std.specs.Ordering.{nat_cmp, match_ordering, ordering_reverse}
use Rattle.serde_json.specs.Data.{Data, Members, no_members, member, put}
use Rattle.wb_json.proofs.Ascending.{IsBelow}
use Rattle.wb_json.specs.Form.{member_list}
use Rattle.wb_json.specs.ToJson.{put_all}
use Rattle.wb_model_json.specs.ByName.{put_named, by_name_onto, by_name}
use Rattle.wb_store.proofs.Members.{In}
use Rattle.wb_store.proofs.Members.In.{here, there}

above : (k l : List ℕ) → IsBelow l k → slice_cmp nat_cmp k l ≡ Greater
above k l h = nat_list_cmp_total.antisymm k l ∙ ap ordering_reverse h

below : (k l : List ℕ) → slice_cmp nat_cmp k l ≡ Greater → IsBelow l k
below k l h = nat_list_cmp_total.antisymm l k ∙ ap ordering_reverse h

pub same_names : (k l : List ℕ) → slice_cmp nat_cmp k l ≡ Equal → k ≡ l
same_names k l h = slice_cmp-IsAntisymmetric nat_cmp-IsAntisymmetric k l h

pub match-apart : {A B : Type 0} (f : A → B) (o : Ordering) (a b c : A) → f (match_ordering o a b c) ≡ match_ordering o (f a) (f b) (f c)
match-apart f Less a b c = refl
match-apart f Equal a b c = refl
match-apart f Greater a b c = refl

module _ {A : Type 0} where
  abbrev pub IsBelowEach : List ℕ → List (List ℕ × A) → Type 0
  IsBelowEach k [] = ⊤
  IsBelowEach k (n ∷ ns) = IsBelow k n.0 × IsBelowEach k ns

  -- the names ascend
  abbrev pub Ascend : List (List ℕ × A) → Type 0
  Ascend [] = ⊤
  Ascend (n ∷ ns) = IsBelowEach n.0 ns × Ascend ns

  -- ---- what is put in leaves them ascending

  below_lower : (k l : List ℕ) (ns : List (List ℕ × A)) → IsBelow k l → IsBelowEach l ns → IsBelowEach k ns
  below_lower k l [] under all = tt
  below_lower k l (n ∷ ns) under all = (nat_list_cmp_total.trans k l n.0 under all.0, below_lower k l ns under all.1)

  below_match : (o : Ordering) (j : List ℕ) (a b c : List (List ℕ × A)) → IsBelowEach j a → IsBelowEach j b → IsBelowEach j c → IsBelowEach j (match_ordering o a b c)
  below_match Less j a b c x y z = x
  below_match Equal j a b c x y z = y
  below_match Greater j a b c x y z = z

  below_put : (j : List ℕ) (m : List ℕ × A) (ns : List (List ℕ × A)) → IsBelow j m.0 → IsBelowEach j ns → IsBelowEach j (put_named m ns)
  below_put j m [] under all = (under, tt)
  below_put j m (n ∷ ns) under all = below_match (slice_cmp nat_cmp m.0 n.0) j _ _ _ (under, all) (all.0, all.1) (all.0, below_put j m ns under all.1)

  put_in_order : (o : Ordering) (m n : List ℕ × A) (ns more : List (List ℕ × A)) → slice_cmp nat_cmp m.0 n.0 ≡ o → Ascend (n ∷ ns) → Ascend more → (IsBelow n.0 m.0 → IsBelowEach n.0 more)
      → Ascend (match_ordering o (m ∷ n ∷ ns) ((n.0, m.1) ∷ ns) (n ∷ more))
  put_in_order Less m n ns more is all of_more higher = ((is, below_lower m.0 n.0 ns is all.0), all)
  put_in_order Equal m n ns more is all of_more higher = all
  put_in_order Greater m n ns more is all of_more higher = (higher (below m.0 n.0 is), of_more)

  ascend_put : (m : List ℕ × A) (ns : List (List ℕ × A)) → Ascend ns → Ascend (put_named m ns)
  ascend_put m [] all = (tt, tt)
  ascend_put m (n ∷ ns) all = put_in_order (slice_cmp nat_cmp m.0 n.0) m n ns (put_named m ns) refl all (ascend_put m ns all.1) (λ under. below_put n.0 m ns under all.0)

  ascend_onto : (ms ns : List (List ℕ × A)) → Ascend ns → Ascend (by_name_onto ms ns)
  ascend_onto [] ns all = all
  ascend_onto (m ∷ ms) ns all = ascend_onto ms (put_named m ns) (ascend_put m ns all)

  pub by_name-ascend : (ms : List (List ℕ × A)) → Ascend (by_name ms)
  by_name-ascend ms = ascend_onto ms [] tt

  -- ---- which they are

  match_cases : (o : Ordering) (x : List ℕ × A) (a b c : List (List ℕ × A)) (P : Type 0) → (In x a → P) → (In x b → P) → (In x c → P) → In x (match_ordering o a b c) → P
  match_cases Less x a b c P f g h i = f i
  match_cases Equal x a b c P f g h i = g i
  match_cases Greater x a b c P f g h i = h i

  first_or : (x n : List ℕ × A) (ns : List (List ℕ × A)) (P : Type 0) → (x ≡ n → P) → (In x ns → P) → In x (n ∷ ns) → P
  first_or x n ns P f g i = found x n ns i f g
    where
      found : (x n : List ℕ × A) (ns : List (List ℕ × A)) → In x (n ∷ ns) → (x ≡ n → P) → (In x ns → P) → P
      found x n ns here f g = f refl
      found x n ns (there m) f g = g m

  put-In_at : (o : Ordering) (m n : List ℕ × A) (ns more : List (List ℕ × A)) (x : List ℕ × A) → slice_cmp nat_cmp m.0 n.0 ≡ o → (In x more → (x ≡ m) ⊎ In x ns)
      → In x (match_ordering o (m ∷ n ∷ ns) ((n.0, m.1) ∷ ns) (n ∷ more)) → (x ≡ m) ⊎ In x (n ∷ ns)
  put-In_at Less m n ns more x is later i = first_or x m (n ∷ ns) ((x ≡ m) ⊎ In x (n ∷ ns)) (λ e. inl e) (λ j. inr j) i
  put-In_at Equal m n ns more x is later i = first_or x (n.0, m.1) ns ((x ≡ m) ⊎ In x (n ∷ ns)) (λ e. inl (e ∙ (λ j. (sym (same_names m.0 n.0 is) j, m.1)))) (λ j. inr (there j)) i
  put-In_at Greater m n ns more x is later i =
      first_or x n more ((x ≡ m) ⊎ In x (n ∷ ns)) (λ e. inr (subst (λ y. In y (n ∷ ns)) (sym e) here)) (λ j. elim (later j) [ inl e ↦ inl e | inr k ↦ inr (there k) ]) i

  put-In : (m : List ℕ × A) (ns : List (List ℕ × A)) (x : List ℕ × A) → In x (put_named m ns) → (x ≡ m) ⊎ In x ns
  put-In m [] x i = first_or x m [] ((x ≡ m) ⊎ In x []) (λ e. inl e) (λ j. inr j) i
  put-In m (n ∷ ns) x i = put-In_at (slice_cmp nat_cmp m.0 n.0) m n ns (put_named m ns) x refl (λ j. put-In m ns x j) i

  onto-In : (ms ns : List (List ℕ × A)) (x : List ℕ × A) → In x (by_name_onto ms ns) → In x ms ⊎ In x ns
  onto-In [] ns x i = inr i
  onto-In (m ∷ ms) ns x i = elim (onto-In ms (put_named m ns) x i) [
    | inl j ↦ inl (there j)
    | inr j ↦ elim (put-In m ns x j) [ inl e ↦ inl (subst (λ y. In y (m ∷ ms)) (sym e) here) | inr k ↦ inr k ]
  ]

  pub by_name-In : (ms : List (List ℕ × A)) (x : List ℕ × A) → In x (by_name ms) → In x ms
  by_name-In ms x i = elim (onto-In ms [] x i) [ inl j ↦ j | inr j ↦ elim j [ ] ]

  -- of those that have one name, the last stays; so all stay where each has a name of its own
  In-put_itself : (m : List ℕ × A) (ns : List (List ℕ × A)) → In m (put_named m ns)
  In-put_itself m [] = here
  In-put_itself m (n ∷ ns) = at (slice_cmp nat_cmp m.0 n.0) refl (In-put_itself m ns)
    where
      at : (o : Ordering) → slice_cmp nat_cmp m.0 n.0 ≡ o → In m (put_named m ns) → In m (match_ordering o (m ∷ n ∷ ns) ((n.0, m.1) ∷ ns) (n ∷ put_named m ns))
      at Less is later = here
      at Equal is later = subst (λ (y : List ℕ × A). In y ((n.0, m.1) ∷ ns)) (λ j. (sym (same_names m.0 n.0 is) j, m.1)) here
      at Greater is later = there later

  In-put : (m : List ℕ × A) (ns : List (List ℕ × A)) (x : List ℕ × A) → (x.0 ≡ m.0 → x ≡ m) → In x ns → In x (put_named m ns)
  In-put m [] x apart i = elim i [ ]
  In-put m (n ∷ ns) x apart i = at (slice_cmp nat_cmp m.0 n.0) refl (λ j. In-put m ns x apart j) (λ e. subst (λ (y : List ℕ × A). In y (put_named m (n ∷ ns))) (sym e) (In-put_itself m (n ∷ ns)))
    where
      at : (o : Ordering) → slice_cmp nat_cmp m.0 n.0 ≡ o → (In x ns → In x (put_named m ns)) → (x ≡ m → In x (put_named m (n ∷ ns))) → In x (match_ordering o (m ∷ n ∷ ns) ((n.0, m.1) ∷ ns) (n ∷ put_named m ns))
      at Less is later itself = there i
      at Equal is later itself = first_or x n ns (In x ((n.0, m.1) ∷ ns)) (λ e.
          let same : x ≡ m = apart (ap (λ (y : List ℕ × A). y.0) e ∙ sym (same_names m.0 n.0 is)) in
          subst (λ (y : List ℕ × A). In y ((n.0, m.1) ∷ ns)) (sym (same ∙ (λ j. (same_names m.0 n.0 is j, m.1)))) here) (λ j. there j) i
      at Greater is later itself = first_or x n ns (In x (n ∷ put_named m ns)) (λ e. subst (λ (y : List ℕ × A). In y (n ∷ put_named m ns)) (sym e) here) (λ j. there (later j)) i

  In-onto : (U : List ℕ × A → Type 0) → ((x y : List ℕ × A) → U x → U y → x.0 ≡ y.0 → x ≡ y) → (ms ns : List (List ℕ × A)) → ((x : List ℕ × A) → In x ms → U x) → ((x : List ℕ × A) → In x ns → U x)
      → (x : List ℕ × A) → In x ms ⊎ In x ns → In x (by_name_onto ms ns)
  In-onto U apart [] ns of_ms of_ns x i = elim i [ inl j ↦ elim j [ ] | inr j ↦ j ]
  In-onto U apart (m ∷ ms) ns of_ms of_ns x i =
      In-onto U apart ms (put_named m ns) (λ y j. of_ms y (there j)) (λ y j. elim (put-In m ns y j) [ inl e ↦ subst U (sym e) (of_ms m here) | inr k ↦ of_ns y k ]) x
      (elim i [
        | inl j ↦ first_or x m ms (In x ms ⊎ In x (put_named m ns)) (λ e. inr (subst (λ (y : List ℕ × A). In y (put_named m ns)) (sym e) (In-put_itself m ns))) (λ k. inl k) j
        | inr j ↦ inr (In-put m ns x (apart x m (of_ns x j) (of_ms m here)) j)
      ])

  pub In-by_name : (ms : List (List ℕ × A)) → ((x y : List ℕ × A) → In x ms → In y ms → x.0 ≡ y.0 → x ≡ y) → (x : List ℕ × A) → In x ms → In x (by_name ms)
  In-by_name ms apart x i = In-onto (λ x. In x ms) apart ms [] (λ y j. j) (λ y j. elim j [ ]) x (inl i)

  -- ---- those that ascend already

  AreBelow : List (List ℕ × A) → List ℕ → Type 0
  AreBelow [] k = ⊤
  AreBelow (n ∷ ns) k = IsBelow n.0 k × AreBelow ns k

  put-last : (m : List ℕ × A) (ns : List (List ℕ × A)) → AreBelow ns m.0 → put_named m ns ≡ ns ++ m ∷ []
  unfolding AreBelow
  put-last m [] h = refl
  put-last m (n ∷ ns) h = ap (λ o. match_ordering o (m ∷ n ∷ ns) ((n.0, m.1) ∷ ns) (n ∷ put_named m ns)) (above m.0 n.0 h.0) ∙ ap (λ (xs : List (List ℕ × A)). n ∷ xs) (put-last m ns h.1)

  below_middle : (k : List ℕ) (done : List (List ℕ × A)) (m : List ℕ × A) (ms : List (List ℕ × A)) → IsBelowEach k (done ++ m ∷ ms) → IsBelow k m.0
  below_middle k [] m ms h = h.0
  below_middle k (n ∷ done) m ms h = below_middle k done m ms h.1

  done_below : (done : List (List ℕ × A)) (m : List ℕ × A) (ms : List (List ℕ × A)) → Ascend (done ++ m ∷ ms) → AreBelow done m.0
  unfolding AreBelow
  done_below [] m ms h = tt
  done_below (n ∷ done) m ms h = (below_middle n.0 done m ms h.0, done_below done m ms h.1)

  onto-ascending : (ms done : List (List ℕ × A)) → Ascend (done ++ ms) → by_name_onto ms done ≡ done ++ ms
  onto-ascending [] done h = nothing_more done
    where
      nothing_more : (xs : List (List ℕ × A)) → xs ≡ xs ++ []
      nothing_more [] = refl
      nothing_more (x ∷ xs) = ap (λ (ys : List (List ℕ × A)). x ∷ ys) (nothing_more xs)
  onto-ascending (m ∷ ms) done h =
      ap (by_name_onto ms) (put-last m done (done_below done m ms h))
      ∙ onto-ascending ms (done ++ m ∷ []) (subst Ascend (sym (append_assoc done (m ∷ []) ms)) h)
      ∙ append_assoc done (m ∷ []) ms

  pub by_name-ascending : (ms : List (List ℕ × A)) → Ascend ms → by_name ms ≡ ms
  by_name-ascending ms h = onto-ascending ms [] h

  -- ---- as members of a value

  module _ (json : A → Data) where
    abbrev pub json_members : List (List ℕ × A) → Members
    json_members [] = no_members
    json_members (n ∷ ns) = member n.0 (json n.1) (json_members ns)

    put-json : (m : List ℕ × A) (ns : List (List ℕ × A)) → put m.0 (json m.1) (json_members ns) ≡ json_members (put_named m ns)
    put-json m [] = refl
    put-json m (n ∷ ns) =
        ap (λ rest. match_ordering (slice_cmp nat_cmp m.0 n.0) (member m.0 (json m.1) (member n.0 (json n.1) (json_members ns))) (member n.0 (json m.1) (json_members ns)) (member n.0 (json n.1) rest)) (put-json m ns)
        ∙ sym (match-apart json_members (slice_cmp nat_cmp m.0 n.0) (m ∷ n ∷ ns) ((n.0, m.1) ∷ ns) (n ∷ put_named m ns))

    put_all-onto : (ms ns : List (List ℕ × A)) → put_all json ms (json_members ns) ≡ json_members (by_name_onto ms ns)
    put_all-onto [] ns = refl
    put_all-onto (m ∷ ms) ns = ap (put_all json ms) (put-json m ns) ∙ put_all-onto ms (put_named m ns)

    pub put_all-by_name : (ms : List (List ℕ × A)) → put_all json ms no_members ≡ json_members (by_name ms)
    put_all-by_name ms = put_all-onto ms []

    pub member_list-json : (ns : List (List ℕ × A)) → member_list (json_members ns) ≡ map (λ (n : List ℕ × A). (n.0, json n.1)) ns
    member_list-json [] = refl
    member_list-json (n ∷ ns) = ap (λ ms. (n.0, json n.1) ∷ ms) (member_list-json ns)
