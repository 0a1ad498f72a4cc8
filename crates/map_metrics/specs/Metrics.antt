-- The text by which a server's counts are read (Prometheus' text, version 0.0.4).
use Rattle.std.specs.Prelude.{ℕ, List, ◌++◌}
use Rattle.map_metrics.specs.Counters.{searches_text, commits_text, held_text, denied_text, policies_text, records_text, memory_text, info_text}
use Rattle.map_metrics.specs.Requests.{requests_text}
use Rattle.map_metrics.specs.Times.{times_text}
use Rattle.map_metrics.specs.declared.readings.Readings.{Readings}

-- what is counted by one number
abbrev pub counters_text : Readings → List ℕ
counters_text readings =
    searches_text readings.searches ++ commits_text readings.commits ++ held_text readings.held
    ++ denied_text readings.denied ++ policies_text readings.policies
    ++ records_text readings.records

-- all families
abbrev pub metrics_text : Readings → List ℕ
metrics_text readings =
    requests_text readings.responses ++ times_text readings.times readings.micros
    ++ counters_text readings ++ memory_text readings.memory ++ info_text
