-- What a shelf gave, call after call.
use Rattle.std.proofs.Common.{◌≡◌, ◌∙◌, sym, ap, subst, refl, ℕ, ◌≤◌, Bool, true, false, ◌||◌, List, [], ◌∷◌, ◌++◌, append-nil, append_assoc, Option, Some, None, IfSome, arith}
use Rattle.wb_outer.specs.Faults.{Rose}
use Rattle.wb_outer.specs.Shelf.{taken_of, IsUnlessFailed, Gives, has_failed}
use Rattle.wb_outer.specs.declared.shelf.Taken.{Taken}
use Rattle.wb_outer.specs.declared.shelf.Taken.TheVariants.{Bytes, TooBig, Failed}
use Rattle.wb_outer.specs.declared.shelf.Call.{Call}
use Rattle.wb_outer.specs.Shelf.{ShelfTold}
use Rattle.wb_program.specs.Files.{Files}
use Rattle.wb_program.specs.Causes.{some_failed}
use Rattle.wb_program.specs.Steps.{AreOf, Gave}

told_nothing : (files : Option Files) → IfSome files (λ told. AreOf told [])
told_nothing None = tt
told_nothing (Some told) = tt

pub gave_nothing : (told : ShelfTold) → Gave told told []
gave_nothing told = record {
  given = sym (append-nil told.given);
  files = refl;
  told = told_nothing told.files;
  later = omega arith;
  failed = λ is. cc;
}

told_one : (files : Option Files) (call : Call) → IfSome files (λ told. IsUnlessFailed call.answer (taken_of (told call.name))) → IfSome files (λ told. AreOf told (call ∷ []))
told_one None call h = tt
told_one (Some told) call h = (h, tt)

failed_alone : (answer : Taken) → (has_failed answer || false) ≡ true → answer ≡ Failed
failed_alone (Bytes bytes) is = cc
failed_alone TooBig is = cc
failed_alone Failed is = refl

pub gave_one : (old new : ShelfTold) (name : List ℕ) (answer : Taken) → Gives old new name answer → Gave old new (record { name = name; answer = answer } ∷ [])
gave_one old new name answer h = record {
  given = h.noted;
  files = h.files_stay;
  told = told_one old.files (record { name = name; answer = answer }) h.as_held;
  later = h.later;
  failed = λ is. h.failed (failed_alone answer is);
}

are_more : (files : Files) (xs ys : List Call) → AreOf files xs → AreOf files ys → AreOf files (xs ++ ys)
are_more files [] ys h more = more
are_more files (x ∷ xs) ys h more = (h.0, are_more files xs ys h.1 more)

told_more : (first second : Option Files) (xs ys : List Call) → second ≡ first → IfSome first (λ told. AreOf told xs) → IfSome second (λ told. AreOf told ys) → IfSome first (λ told. AreOf told (xs ++ ys))
told_more None second xs ys same h more = tt
told_more (Some files) second xs ys same h more = are_more files xs ys h (subst (λ o. IfSome o (λ told. AreOf told ys)) same more)

rose_earlier : (before mid now : ℕ) → before ≤ mid → Rose mid now → Rose before now
rose_earlier before mid now le rose = omega arith

rose_later : (before mid now : ℕ) → mid ≤ now → Rose before mid → Rose before now
rose_later before mid now le rose = omega arith

failed_more : (xs ys : List Call) (f0 f1 f2 : ℕ) → f0 ≤ f1 → f1 ≤ f2 → (some_failed xs ≡ true → Rose f0 f1) → (some_failed ys ≡ true → Rose f1 f2) → some_failed (xs ++ ys) ≡ true → Rose f0 f2
failed_more [] ys f0 f1 f2 first second h more is = rose_earlier f0 f1 f2 first (more is)
failed_more (x ∷ xs) ys f0 f1 f2 first second h more is = by (has_failed x.answer) (failed_more xs ys f0 f1 f2 first second) h is
  where
    by : (b : Bool) → ((some_failed xs ≡ true → Rose f0 f1) → (some_failed ys ≡ true → Rose f1 f2) → some_failed (xs ++ ys) ≡ true → Rose f0 f2) → ((b || some_failed xs) ≡ true → Rose f0 f1) → (b || some_failed (xs ++ ys)) ≡ true → Rose f0 f2
    by true rest rose now = rose_later f0 f1 f2 second (rose refl)
    by false rest rose now = rest rose more now

pub gave_then : (old mid new : ShelfTold) (xs ys : List Call) → Gave old mid xs → Gave mid new ys → Gave old new (xs ++ ys)
gave_then old mid new xs ys h more = record {
  given = more.given ∙ ap (λ calls. calls ++ ys) h.given ∙ append_assoc old.given xs ys;
  files = more.files ∙ h.files;
  told = told_more old.files mid.files xs ys h.files h.told more.told;
  later = (let one = h.later in let two = more.later in omega arith);
  failed = failed_more xs ys old.faults mid.faults new.faults h.later more.later h.failed more.failed;
}
