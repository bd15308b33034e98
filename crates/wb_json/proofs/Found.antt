-- What was found, where nothing was wrong.
use Rattle.std.proofs.Common.{◌≡◌, Option, Some, None, Result, Ok, Err}
use Rattle.wb_json.specs.Place.{Place, within}
use Rattle.wb_json.specs.Form.{or_wrong}
use Rattle.wb_json.specs.Refusals.{coded}

pub within_ok : {A : Type 0} (step : Place) (r : Result A Place) (v : A) → within step r ≡ Ok v → r ≡ Ok v
within_ok step (Ok a) v h = h
within_ok step (Err p) v h = cc

pub or_wrong_ok : {A : Type 0} (o : Option A) (v : A) → or_wrong o ≡ Ok v → o ≡ Some v
or_wrong_ok (Some a) v h = cc
or_wrong_ok None v h = cc

pub coded_ok : {A C : Type 0} (code : C) (r : Result A Place) (v : A) → coded code r ≡ Ok v → r ≡ Ok v
coded_ok code (Ok a) v h = cc
coded_ok code (Err p) v h = cc
