-- The codes of what is wrong with a viewpoint's text.
use Rattle.std.specs.Prelude.{ℕ}
use Rattle.wb_viewpoint.specs.declared.refusal.ViewpointCode.{ViewpointCode}
use Rattle.wb_viewpoint.specs.declared.refusal.ViewpointCode.TheVariants.{BadJson, BadShape, TooMany}

-- codes are numbered in the order of their checks
abbrev pub number_of : ViewpointCode → ℕ
number_of BadJson = 1
number_of BadShape = 2
number_of TooMany = 3
