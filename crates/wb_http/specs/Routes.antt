-- Which route a target is, and which method it takes.
use Rattle.std.specs.Prelude.{◌≡◌, ⊤, ℕ, ◌&&◌, ◌++◌, List, [], ◌∷◌, drop, Bool, false, not, nat_eq, Option, Some, None, Result, Ok, Err, codes, bytes_eq, if◌then◌else◌}
use Rattle.std.specs.List.{starts_with}
use Rattle.std.specs.Str.{is_utf8}
use Rattle.matchit.specs.Seek.{has_slash}
use Rattle.matchit.specs.Rows.{RowsOf, param_token}
use Rattle.matchit.specs.Router.{RouteOf}
use Rattle.wb_http.specs.declared.routes.Target.{Target}
use Rattle.wb_http.specs.declared.routes.Target.TheVariants.{Diagram, Element, Model, Command, Stop}
use Rattle.wb_http.specs.declared.routes.Route.{Route}
use Rattle.wb_http.specs.declared.routes.Route.TheVariants as routes
use Rattle.wb_http.specs.declared.routes.RouteRefusal.{RouteRefusal}
use Rattle.wb_http.specs.declared.routes.RouteRefusal.TheVariants.{NotFound, NotAllowed, NoMemory}

-- one or more bytes without a slash
abbrev pub is_key : List ℕ → Bool
is_key [] = false
is_key (b ∷ q) = not (has_slash (b ∷ q))

abbrev pub is_element : List ℕ → Bool
is_element target = starts_with nat_eq target (codes "/element/") && is_key (drop 9 target)

abbrev pub kind_of : List ℕ → Option Target
kind_of target =
    if bytes_eq target (codes "/diagram") then Some Diagram else (if bytes_eq target (codes "/model") then Some Model
    else (if bytes_eq target (codes "/command") then Some Command else (if bytes_eq target (codes "/stop") then Some Stop
    else (if is_element target then Some Element else None))))

-- the method that a target takes
abbrev pub method_of : Target → List ℕ
method_of Diagram = codes "GET"
method_of Element = codes "GET"
method_of Model = codes "GET"
method_of Command = codes "POST"
method_of Stop = codes "POST"

abbrev pub route_at : Target → List ℕ → Route
route_at Diagram target = routes.Diagram
route_at Element target = routes.Element (drop 9 target)
route_at Model target = routes.Model
route_at Command target = routes.Command
route_at Stop target = routes.Stop

abbrev pub routed : Option Target → List ℕ → List ℕ → Result Route RouteRefusal
routed None method target = Err NotFound
routed (Some kind) method target = if bytes_eq method (method_of kind) then Ok (route_at kind target) else Err (NotAllowed (method_of kind))

-- the route of a method and a target
unfoldable pub route_of : List ℕ → List ℕ → Result Route RouteRefusal
route_of method target = if is_utf8 target then routed (kind_of target) method target else Err NotFound

-- want of memory names no refusal
abbrev pub refusal_of : RouteRefusal → Option RouteRefusal
refusal_of NotFound = Some NotFound
refusal_of (NotAllowed method) = Some (NotAllowed method)
refusal_of NoMemory = None

-- this refusal, or want of memory for it
abbrev pub IsOrNoMemory : RouteRefusal → RouteRefusal → Type 0
IsOrNoMemory due NotFound = due ≡ NotFound
IsOrNoMemory due (NotAllowed method) = due ≡ NotAllowed method
IsOrNoMemory due NoMemory = ⊤

-- the rows of the router

abbrev pub element : RouteOf Target
element = record { pattern = codes "/element/" ++ param_token ∷ []; text = codes "/element/{key}"; names = (10, 13) ∷ []; value = Element }

abbrev pub whole : List ℕ → Target → RouteOf Target
whole text kind = record { pattern = text; text = text; names = []; value = kind }

-- those behind the first slash
abbrev pub tails : RowsOf (RouteOf Target)
tails =
    (codes "command", whole (codes "/command") Command) ∷ (codes "diagram", whole (codes "/diagram") Diagram) ∷ (codes "element/" ++ param_token ∷ [], element)
    ∷ (codes "model", whole (codes "/model") Model) ∷ (codes "stop", whole (codes "/stop") Stop) ∷ []

abbrev pub behind_slash : RowsOf (RouteOf Target) → RowsOf (RouteOf Target)
behind_slash [] = []
behind_slash ((t, k) ∷ rs) = (47 ∷ t, k) ∷ behind_slash rs

unfoldable pub table : RowsOf (RouteOf Target)
table = behind_slash tails

abbrev pub value_of : RouteOf Target → Target
value_of r = r.value
