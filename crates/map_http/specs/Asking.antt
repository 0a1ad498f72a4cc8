-- Whether a request counts, and for whom.
use Rattle.std.specs.Prelude.{ℕ, List, codes, Option, None, Some, Result, Ok, Err, if◌then◌else◌}
use Rattle.http.specs.declared.request.Parts.{Parts}
use Rattle.map_answers.specs.Answers.{AnswerData}
use Rattle.map_answers.specs.Problems.{problem_data}
use Rattle.map_answers.specs.declared.statuses.Status.TheVariants.{Forbidden, MethodNotAllowed, MisdirectedRequest}
use Rattle.map_questions.specs.declared.calls.Action.{Action}
use Rattle.map_questions.specs.declared.calls.Action.TheVariants.{Read, Change}
use Rattle.map_sessions.specs.Visiting.{Place}
use Rattle.map_http.specs.Askers.{asker_in, asker_problem}
use Rattle.map_http.specs.Hosts.{is_for, is_from_here}
use Rattle.map_http.specs.Parts.{action_of}
use Rattle.map_http.specs.declared.askers.AskerFault.{AskerFault}
use Rattle.map_http.specs.declared.asking.Asked.{Asked}
use Rattle.map_http.specs.declared.asking.Decline.{Decline}
use Rattle.map_http.specs.declared.asking.Decline.TheVariants.{Host, Method, Origin, Asker}

-- it counts for who asks, where that can be told
abbrev pub asked_by : Action → Result (Option (List ℕ)) AskerFault → Result Asked Decline
asked_by action (Ok asker) = Ok (record { action = action; asker = asker })
asked_by action (Err fault) = Err (Asker fault)

-- what would change something comes from no page of another origin
abbrev pub taken : Place → Action → Parts → Result Asked Decline
taken place Read head = asked_by Read (asker_in place head.headers)
taken place (Change method) head =
    if is_from_here place.base head then asked_by (Change method) (asker_in place head.headers)
    else Err Origin

abbrev pub taken_if_served : Place → Option Action → Parts → Result Asked Decline
taken_if_served place None head = Err Method
taken_if_served place (Some action) head = taken place action head

-- it is for this host, and its method is served
abbrev pub asked : Place → Parts → Result Asked Decline
asked place head =
    if is_for place.base head then taken_if_served place (action_of head.method) head else Err Host

-- the problem of a request that does not count
abbrev pub decline_data : Decline → AnswerData
decline_data Host = problem_data MisdirectedRequest (codes "host") None
decline_data Method = problem_data MethodNotAllowed (codes "method") None
decline_data Origin = problem_data Forbidden (codes "origin") None
decline_data (Asker fault) = asker_problem fault
