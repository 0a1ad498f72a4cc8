-- The parameters of a query, each of which is given once.
use Rattle.std.specs.Prelude.{◌≡◌, ℕ, Bool, true, false, List, [], ◌∷◌, length, codes, nat_le, Option, None, Some, is_some, option_and_then, Result, Ok, Err, if◌then◌else◌}
use Rattle.std.specs.Str.{bytes_eq}
use Rattle.percent_encoding.specs.Percent.{percent_decode}
use Rattle.form_urlencoded.specs.Form.{raw_pairs}
use Rattle.map_questions.specs.declared.faults.AskingFault.{AskingFault}
use Rattle.map_questions.specs.declared.faults.AskingFault.TheVariants.{Twice, Value}
use Rattle.map_questions.specs.declared.faults.Parameter.{Parameter}
use Rattle.map_questions.specs.declared.faults.Parameter.TheVariants as parameters
use Rattle.map_questions.specs.declared.queries.TheConstants.{TEXT_LIMIT}

infixl 10 ◌>>=◌
abbrev pub ◌>>=◌ : {A B : Type 0} → Result A AskingFault → (A → Result B AskingFault)
    → Result B AskingFault
(Ok x) >>= f = f x
(Err fault) >>= f = Err fault

-- a value, or this fault where there is none
abbrev pub or_fault : {T : Type 0} → AskingFault → Option T → Result T AskingFault
or_fault fault None = Err fault
or_fault fault (Some x) = Ok x

-- a returned value, seen by `view`, is what the reading gives
abbrev pub Gives : {X Y : Type 0} → (X → Y) → Result X AskingFault → Result Y AskingFault → Type 0
Gives view (Ok x) reading = reading ≡ Ok (view x)
Gives view (Err fault) reading = reading ≡ Err fault

-- a name or a value with its escapes decoded, if it is not too long
unfoldable pub text_of : List ℕ → Option (List ℕ)
text_of raw =
    if nat_le (length (percent_decode raw)) TEXT_LIMIT then Some (percent_decode raw) else None

abbrev pub parameter_named : List ℕ → Option Parameter
parameter_named name =
    if bytes_eq name (codes "action") then Some parameters.Action
    else if bytes_eq name (codes "office") then Some parameters.Office
    else if bytes_eq name (codes "class") then Some parameters.Class
    else if bytes_eq name (codes "geometry") then Some parameters.Geometry
    else None

-- the parameter that a name spells, with its escapes
abbrev pub parameter_of : List ℕ → Option Parameter
parameter_of name = option_and_then parameter_named (text_of name)

abbrev pub is_known : List ℕ → Bool
is_known name = is_some (parameter_of name)

abbrev pub same_parameter : Parameter → Option Parameter → Bool
same_parameter parameters.Action (Some parameters.Action) = true
same_parameter parameters.Office (Some parameters.Office) = true
same_parameter parameters.Class (Some parameters.Class) = true
same_parameter parameters.Geometry (Some parameters.Geometry) = true
same_parameter _ _ = false

-- a name spells this parameter
abbrev pub is_of : Parameter → List ℕ → Bool
is_of parameter name = same_parameter parameter (parameter_of name)

-- each name spells a parameter
abbrev pub has_known_names : List (List ℕ × List ℕ) → Bool
has_known_names [] = true
has_known_names (pair ∷ pairs) = if is_known pair.0 then has_known_names pairs else false

-- the values that are given for a parameter
abbrev pub values_of : Parameter → List (List ℕ × List ℕ) → List (List ℕ)
values_of parameter [] = []
values_of parameter (pair ∷ pairs) =
    if is_of parameter pair.0 then pair.1 ∷ values_of parameter pairs
    else values_of parameter pairs

-- the one value that is given
abbrev pub given_once : Parameter → List (List ℕ) → Result (List ℕ) AskingFault
given_once parameter [] = Err (Value parameter)
given_once parameter (value ∷ []) = Ok value
given_once parameter (value ∷ other ∷ more) = Err (Twice parameter)

-- the same with its escapes decoded
unfoldable pub text_given : Parameter → List ℕ → Result (List ℕ) AskingFault
text_given parameter query =
    given_once parameter (values_of parameter (raw_pairs query))
    >>= λ value. or_fault (Value parameter) (text_of value)
