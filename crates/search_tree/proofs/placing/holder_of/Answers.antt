use Rattle.std.proofs.Common.{Option, None, Some, IfNone, rules}
use Rattle.std.proofs.lemmas.Option.{IfSome_then}
use Rattle.search_tree.proofs.placing.holder_of.Goals as goal

none_then : {T : Type 0} (r : Option T) {P Q : Type 0} → IfNone r P → (P → Q) → IfNone r Q
none_then None none goes = goes none
none_then (Some x) none goes = tt

pub returns-clause-held : goal.returns-clause-held
returns-clause-held g c =
    IfSome_then c.first_meeting.result c.first_meeting.ensures.first (λ number met.
    record {
      search = met.search;
      runs = met.runs;
      is_attached = met.is_attached;
      matches = (let accepted = met.accepted in search rules);
      least = λ other smaller below runs attached matches. (let refused = met.least other smaller below runs attached in search rules);
    })

pub returns-clause-free : goal.returns-clause-free
returns-clause-free g c = none_then c.first_meeting.result c.first_meeting.ensures.none (λ none number one runs attached matches. (let refused = none number one runs attached in search rules))
