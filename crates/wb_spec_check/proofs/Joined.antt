-- What several steps of the check tell together, one after the other.
use Rattle.std.proofs.Common.{◌≡◌, ℕ, suc, ◌+◌, ◌<◌, ◌≤◌, List, [], ◌∷◌, ◌++◌, length, get_or, take, Option, Some, None, refl, sym, ap, subst, ◌∙◌, append_assoc, append-nil, arith}
use Rattle.std.specs.Prelude.{⊤}
use Rattle.std.proofs.lemmas.List.{take_more, take_all, length-take-le}
use Rattle.wb_spec_check.specs.Checked.{none_needed}
use Rattle.wb_spec_check.specs.Validated.{Validated, good, bad, ◌<*>◌, problems_of, value_of, each, each_from}
use Rattle.wb_spec_check.specs.declared.problem.Problem.{Problem}
use Rattle.wb_spec_check.specs.invariants.Reports.{Tells, Gathers, GathersAll, both_good, ◌<&>◌, and_then}

-- ---- two parts

pub value_of_join : {A B : Type 0} (f : Validated (A → B)) (x : Validated A) → value_of (f <*> x) ≡ (value_of f <&> value_of x)
value_of_join (good f) (good x) = refl
value_of_join (good f) (bad q qs) = refl
value_of_join (bad p ps) (good x) = refl
value_of_join (bad p ps) (bad q qs) = refl

pub problems_of_join : {A B : Type 0} (f : Validated (A → B)) (x : Validated A) → problems_of (f <*> x) ≡ problems_of f ++ problems_of x
problems_of_join (good f) (good x) = refl
problems_of_join (good f) (bad q qs) = refl
problems_of_join (bad p ps) (good x) = sym (append-nil (p ∷ ps))
problems_of_join (bad p ps) (bad q qs) = refl

-- one more part
pub join : {A B : Type 0} {f : Validated (A → B)} {x : Validated A} {p0 p1 p2 : List Problem} {rf : Option (A → B)} {rx : Option A} → Tells f p0 rf p1 → Tells x p1 rx p2 → Tells (f <*> x) p0 (rf <&> rx) p2
join {f = f} {x = x} {p0 = p0} s t = record {
  value = rw (value_of_join f x, s.value, t.value) refl;
  problems = t.problems ∙ ap (λ ps. ps ++ problems_of x) s.problems ∙ append_assoc p0 (problems_of f) (problems_of x) ∙ ap (λ ps. p0 ++ ps) (sym (problems_of_join f x));
}

pub begun : {A : Type 0} (f : A) (p0 : List Problem) → Tells (good f) p0 (Some f) p0
begun f p0 = record { value = refl; problems = sym (append-nil p0) }

-- ---- up to six parts

pub joined1 : {A Z : Type 0} {a : Validated A} {ra : Option A} {p0 p1 : List Problem} (f : A → Z) (r : Option Z) → Tells a p0 ra p1 → r ≡ (Some f <&> ra) → Tells (good f <*> a) p0 r p1
joined1 {p0 = p0} f r ta is = rw is (join (begun f p0) ta)

pub joined2 : {A B Z : Type 0} {a : Validated A} {b : Validated B} {ra : Option A} {rb : Option B} {p0 p1 p2 : List Problem} (f : A → B → Z) (r : Option Z) → Tells a p0 ra p1 → Tells b p1 rb p2 → r ≡ (Some f <&> ra <&> rb) → Tells (good f <*> a <*> b) p0 r p2
joined2 {p0 = p0} f r ta tb is = rw is (join (join (begun f p0) ta) tb)

pub joined3 : {A B C Z : Type 0} {a : Validated A} {b : Validated B} {c : Validated C} {ra : Option A} {rb : Option B} {rc : Option C} {p0 p1 p2 p3 : List Problem} (f : A → B → C → Z) (r : Option Z) → Tells a p0 ra p1 → Tells b p1 rb p2 → Tells c p2 rc p3 → r ≡ (Some f <&> ra <&> rb <&> rc) → Tells (good f <*> a <*> b <*> c) p0 r p3
joined3 {p0 = p0} f r ta tb tc is = rw is (join (join (join (begun f p0) ta) tb) tc)

pub joined4 : {A B C D Z : Type 0} {a : Validated A} {b : Validated B} {c : Validated C} {d : Validated D} {ra : Option A} {rb : Option B} {rc : Option C} {rd : Option D} {p0 p1 p2 p3 p4 : List Problem} (f : A → B → C → D → Z) (r : Option Z) → Tells a p0 ra p1 → Tells b p1 rb p2 → Tells c p2 rc p3 → Tells d p3 rd p4 → r ≡ (Some f <&> ra <&> rb <&> rc <&> rd) → Tells (good f <*> a <*> b <*> c <*> d) p0 r p4
joined4 {p0 = p0} f r ta tb tc td is = rw is (join (join (join (join (begun f p0) ta) tb) tc) td)

pub joined5 : {A B C D E Z : Type 0} {a : Validated A} {b : Validated B} {c : Validated C} {d : Validated D} {e : Validated E} {ra : Option A} {rb : Option B} {rc : Option C} {rd : Option D} {re : Option E} {p0 p1 p2 p3 p4 p5 : List Problem} (f : A → B → C → D → E → Z) (r : Option Z) → Tells a p0 ra p1 → Tells b p1 rb p2 → Tells c p2 rc p3 → Tells d p3 rd p4 → Tells e p4 re p5 → r ≡ (Some f <&> ra <&> rb <&> rc <&> rd <&> re) → Tells (good f <*> a <*> b <*> c <*> d <*> e) p0 r p5
joined5 {p0 = p0} f r ta tb tc td te is = rw is (join (join (join (join (join (begun f p0) ta) tb) tc) td) te)

pub joined6 : {A B C D E F Z : Type 0} {a : Validated A} {b : Validated B} {c : Validated C} {d : Validated D} {e : Validated E} {g : Validated F} {ra : Option A} {rb : Option B} {rc : Option C} {rd : Option D} {re : Option E} {rg : Option F} {p0 p1 p2 p3 p4 p5 p6 : List Problem} (f : A → B → C → D → E → F → Z) (r : Option Z) → Tells a p0 ra p1 → Tells b p1 rb p2 → Tells c p2 rc p3 → Tells d p3 rd p4 → Tells e p4 re p5 → Tells g p5 rg p6 → r ≡ (Some f <&> ra <&> rb <&> rc <&> rd <&> re <&> rg) → Tells (good f <*> a <*> b <*> c <*> d <*> e <*> g) p0 r p6
joined6 {p0 = p0} f r ta tb tc td te tg is = rw is (join (join (join (join (join (join (begun f p0) ta) tb) tc) td) te) tg)

-- ---- each item of a list

last_value : {B : Type 0} (y : Option B) (ys : Option (List B)) (z : Option B) → ((Some (λ (v : B) (vs : List B). v ∷ vs) <&> y) <&> and_then ys z) ≡ and_then ((Some (λ (v : B) (vs : List B). v ∷ vs) <&> y) <&> ys) z
last_value None ys z = refl
last_value (Some y) None z = refl
last_value (Some y) (Some ys) None = refl
last_value (Some y) (Some ys) (Some z) = refl

one_more : {B : Type 0} (z : Option B) → ((Some (λ (v : B) (vs : List B). v ∷ vs) <&> z) <&> Some []) ≡ and_then (Some []) z
one_more None = refl
one_more (Some z) = refl

-- the first item, and then the others
first_value : {A B : Type 0} (check : ℕ → A → Validated B) (i : ℕ) (x : A) (xs : List A) → value_of (each_from check i (x ∷ xs)) ≡ ((Some (λ (v : B) (vs : List B). v ∷ vs) <&> value_of (check i x)) <&> value_of (each_from check (suc i) xs))
first_value {B = B} check i x xs =
    let cons : B → List B → List B = λ v vs. v ∷ vs in
    value_of_join (good cons <*> check i x) (each_from check (suc i) xs) ∙ ap (λ y. y <&> value_of (each_from check (suc i) xs)) (value_of_join (good cons) (check i x))

first_problems : {A B : Type 0} (check : ℕ → A → Validated B) (i : ℕ) (x : A) (xs : List A) → problems_of (each_from check i (x ∷ xs)) ≡ problems_of (check i x) ++ problems_of (each_from check (suc i) xs)
first_problems {B = B} check i x xs =
    let cons : B → List B → List B = λ v vs. v ∷ vs in
    problems_of_join (good cons <*> check i x) (each_from check (suc i) xs) ∙ ap (λ y. y ++ problems_of (each_from check (suc i) xs)) (problems_of_join (good cons) (check i x))

pub each_last_value : {A B : Type 0} (check : ℕ → A → Validated B) (i n : ℕ) (xs : List A) (x : A) → n ≡ i + length xs → value_of (each_from check i (xs ++ x ∷ [])) ≡ and_then (value_of (each_from check i xs)) (value_of (check n x))
each_last_value check i n [] x is =
    let same : n ≡ i = omega (arith, is) in
    rw (same, first_value check i x []) (one_more (value_of (check i x)))
each_last_value check i n (w ∷ ws) x is =
    rw (first_value check i w (ws ++ x ∷ []), first_value check i w ws, each_last_value check (suc i) n ws x (omega (arith, is)))
    (last_value (value_of (check i w)) (value_of (each_from check (suc i) ws)) (value_of (check n x)))

pub each_last_problems : {A B : Type 0} (check : ℕ → A → Validated B) (i n : ℕ) (xs : List A) (x : A) → n ≡ i + length xs → problems_of (each_from check i (xs ++ x ∷ [])) ≡ problems_of (each_from check i xs) ++ problems_of (check n x)
each_last_problems check i n [] x is =
    let same : n ≡ i = omega (arith, is) in
    rw (same, first_problems check i x []) (append-nil (problems_of (check i x)))
each_last_problems check i n (w ∷ ws) x is =
    rw (first_problems check i w (ws ++ x ∷ []), first_problems check i w ws, each_last_problems check (suc i) n ws x (omega (arith, is)))
    (sym (append_assoc (problems_of (check i w)) (problems_of (each_from check (suc i) ws)) (problems_of (check n x))))

-- ---- a loop over the items

-- before the first item
pub gathers_none : {A B : Type 0} (check : ℕ → A → Validated B) (xs : List A) (p0 : List Problem) → Gathers check xs 0 p0 (Some []) p0
gathers_none check xs p0 = record { so_far = record { value = refl; problems = sym (append-nil p0) } }

-- one item more
pub gathers_on : {A B : Type 0} {check : ℕ → A → Validated B} {xs : List A} {i : ℕ} {p0 p1 p2 : List Problem} {rs : Option (List B)} {r : Option B} (x : A) (next : Option (List B)) → Gathers check xs i p0 rs p1 → i < length xs → x ≡ get_or xs i x → Tells (check i x) p1 r p2 → next ≡ and_then rs r → Gathers check xs (i + 1) p0 next p2
gathers_on {check = check} {xs = xs} {i = i} {p0 = p0} x next old inside here found is =
    let count : i ≡ 0 + length (take i xs) = omega (arith, length-take-le i xs) in
    let more : take (i + 1) xs ≡ take i xs ++ x ∷ [] = take_more xs i x inside ∙ ap (λ y. take i xs ++ y ∷ []) (sym here) in
    record {
      so_far = record {
        value = is ∙ rw (more, each_last_value check 0 i (take i xs) x count, old.so_far.value, found.value) refl;
        problems = found.problems ∙ ap (λ ps. ps ++ problems_of (check i x)) old.so_far.problems ∙ append_assoc p0 _ _ ∙ ap (λ ps. p0 ++ ps) (sym (ap (λ ys. problems_of (each check ys)) more ∙ each_last_problems check 0 i (take i xs) x count));
      };
    }

-- after the last item
pub gathers_all : {A B : Type 0} {check : ℕ → A → Validated B} {xs : List A} {i : ℕ} {p0 p1 : List Problem} {rs : Option (List B)} → Gathers check xs i p0 rs p1 → length xs ≤ i → Tells (each check xs) p0 rs p1
gathers_all {check = check} {xs = xs} {i = i} {p0 = p0} {p1 = p1} {rs = rs} old all = subst (λ ys. Tells (each check ys) p0 rs p1) (take_all i xs all) old.so_far

-- ---- items without values

pub all_none : {A : Type 0} (check : ℕ → A → Validated ⊤) (xs : List A) (p0 : List Problem) → GathersAll check xs 0 p0 (Some tt) p0
all_none check xs p0 = record { values = Some []; gathers = gathers_none check xs p0; all = refl }

one_more_good : (values : Option (List ⊤)) (r : Option ⊤) → (Some both_good <&> (Some none_needed <&> values) <&> r) ≡ (Some none_needed <&> and_then values r)
one_more_good None r = refl
one_more_good (Some values) None = refl
one_more_good (Some values) (Some r) = refl

pub all_on : {A : Type 0} {check : ℕ → A → Validated ⊤} {xs : List A} {i : ℕ} {p0 p1 p2 : List Problem} {all r : Option ⊤} (x : A) (next : Option ⊤) → GathersAll check xs i p0 all p1 → i < length xs → x ≡ get_or xs i x → Tells (check i x) p1 r p2 → next ≡ (Some both_good <&> all <&> r) → GathersAll check xs (i + 1) p0 next p2
all_on {r = r} x next old inside here found is = record {
  values = and_then old.values r;
  gathers = gathers_on x (and_then old.values r) old.gathers inside here found refl;
  all = is ∙ ap (λ all. Some both_good <&> all <&> r) old.all ∙ one_more_good old.values r;
}

pub all_done : {A : Type 0} {check : ℕ → A → Validated ⊤} {xs : List A} {i : ℕ} {p0 p1 : List Problem} {all : Option ⊤} → GathersAll check xs i p0 all p1 → length xs ≤ i → Tells (good none_needed <*> each check xs) p0 all p1
all_done {all = all} old last = joined1 none_needed all (gathers_all old.gathers last) old.all
