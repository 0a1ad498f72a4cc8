-- Families of one number.
use Rattle.std.specs.Prelude.{ℕ, List, [], ◌++◌, codes, decimal, nat_eq, if◌then◌else◌}

-- what stands before the number, the number, and the end of the line
abbrev pub number_text : List ℕ → ℕ → List ℕ
number_text head count = head ++ decimal count ++ codes "\n"

-- what is counted: its words, its kind, its name and its number
unfoldable pub searches_text : ℕ → List ℕ
searches_text count = number_text (codes "# HELP landmap_searches_total Searches that were answered, of sessions of lines and of HTTP.\n# TYPE landmap_searches_total counter\nlandmap_searches_total ") count

unfoldable pub commits_text : ℕ → List ℕ
commits_text count = number_text (codes "# HELP landmap_commits_total Lists of changes that were applied.\n# TYPE landmap_commits_total counter\nlandmap_commits_total ") count

unfoldable pub held_text : ℕ → List ℕ
held_text count = number_text (codes "# HELP landmap_commits_held_total Lists of changes that an open search held up.\n# TYPE landmap_commits_held_total counter\nlandmap_commits_held_total ") count

unfoldable pub denied_text : ℕ → List ℕ
denied_text count = number_text (codes "# HELP landmap_denied_total Lists of changes that the policy denied.\n# TYPE landmap_denied_total counter\nlandmap_denied_total ") count

unfoldable pub policies_text : ℕ → List ℕ
policies_text count = number_text (codes "# HELP landmap_policies_total Policies that were put in force.\n# TYPE landmap_policies_total counter\nlandmap_policies_total ") count

unfoldable pub records_text : ℕ → List ℕ
records_text count = number_text (codes "# HELP landmap_records_total Records that were added to the trail.\n# TYPE landmap_records_total counter\nlandmap_records_total ") count

-- how many bytes of memory the server has, where that was measured
unfoldable pub memory_text : ℕ → List ℕ
memory_text bytes = if nat_eq bytes 0 then [] else number_text (codes "# HELP process_resident_memory_bytes Memory of the server that is in RAM.\n# TYPE process_resident_memory_bytes gauge\nprocess_resident_memory_bytes ") bytes

-- which server it is
unfoldable pub info_text : List ℕ
info_text = codes "# HELP landmap_info The version of the server.\n# TYPE landmap_info gauge\nlandmap_info{version=\"0.1.0\"} 1\n"
