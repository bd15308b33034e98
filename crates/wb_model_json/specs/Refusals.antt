-- What is wrong with a model's text.
use Rattle.std.specs.Prelude.{ℕ, ◌==◌, if◌then◌else◌}
use Rattle.wb_model_json.specs.declared.refusal.ModelCode.{ModelCode}
use Rattle.wb_model_json.specs.declared.refusal.ModelCode.TheVariants.{Broken1, Broken2, Broken3, Broken4, Broken5, Broken6, Broken7, Broken8, Broken9, Broken10}

-- the code of a condition of a valid model, by its number
abbrev pub broken_code : ℕ → ModelCode
broken_code n =
    if n == 1 then Broken1
    else (if n == 2 then Broken2
    else (if n == 3 then Broken3
    else (if n == 4 then Broken4
    else (if n == 5 then Broken5
    else (if n == 6 then Broken6
    else (if n == 7 then Broken7
    else (if n == 8 then Broken8
    else (if n == 9 then Broken9
    else Broken10))))))))
