-- How long requests take.
use Rattle.std.specs.Prelude.{ℕ, Bool, ◌+◌, ◌-◌, ◌^◌, min, nat_lt, List, [], ◌∷◌, ◌++◌, codes, decimal}
use Rattle.map_metrics.specs.declared.bounds.Bound.{Bound}
use Rattle.map_metrics.specs.declared.bounds.Bound.TheVariants.{HalfMilli, OneMilli, TwoMilli, FiveMilli, TenMilli, TwentyMilli, FiftyMilli, Tenth, Quarter, Half, One, Two}

-- all bounds, by rising time
abbrev pub bounds : List Bound
bounds =
    HalfMilli ∷ OneMilli ∷ TwoMilli ∷ FiveMilli ∷ TenMilli ∷ TwentyMilli ∷ FiftyMilli ∷ Tenth
    ∷ Quarter ∷ Half ∷ One ∷ Two ∷ []

-- a bound in microseconds
abbrev pub bound_micros : Bound → ℕ
bound_micros HalfMilli = 500
bound_micros OneMilli = 1000
bound_micros TwoMilli = 2500
bound_micros FiveMilli = 5000
bound_micros TenMilli = 10000
bound_micros TwentyMilli = 25000
bound_micros FiftyMilli = 50000
bound_micros Tenth = 100000
bound_micros Quarter = 250000
bound_micros Half = 500000
bound_micros One = 1000000
bound_micros Two = 2500000

-- the same in seconds, as it is written
abbrev pub bound_text : Bound → List ℕ
bound_text HalfMilli = codes "0.0005"
bound_text OneMilli = codes "0.001"
bound_text TwoMilli = codes "0.0025"
bound_text FiveMilli = codes "0.005"
bound_text TenMilli = codes "0.01"
bound_text TwentyMilli = codes "0.025"
bound_text FiftyMilli = codes "0.05"
bound_text Tenth = codes "0.1"
bound_text Quarter = codes "0.25"
bound_text Half = codes "0.5"
bound_text One = codes "1"
bound_text Two = codes "2.5"

-- so many microseconds are above a bound
abbrev pub is_above : ℕ → Bound → Bool
is_above micros bound = nat_lt (bound_micros bound) micros

-- a number and so many more, or the greatest number there is
abbrev pub more : ℕ → ℕ → ℕ
more number count = min (number + count) (2 ^ 64 - 1)

-- these, beside so many
abbrev pub all_of : ℕ → List ℕ → ℕ
all_of before [] = before
all_of before (count ∷ counts) = all_of (more before count) counts

-- what the family is
unfoldable pub times_head : List ℕ
times_head = codes "# HELP landmap_http_request_seconds How long a request is answered, once it was read whole.\n# TYPE landmap_http_request_seconds histogram\n"

unfoldable pub bucket_front : List ℕ
bucket_front = codes "landmap_http_request_seconds_bucket{le=\""

-- how many requests took at most so long
abbrev pub bucket_line : List ℕ → ℕ → List ℕ
bucket_line bound count =
    bucket_front ++ bound ++ codes "\"} " ++ decimal count ++ codes "\n"

-- the same of each of these bounds, which have these counts: each with those before
abbrev pub bucket_lines : ℕ → List Bound → List ℕ → List ℕ
bucket_lines before [] counts = []
bucket_lines before (bound ∷ rest) [] = []
bucket_lines before (bound ∷ rest) (count ∷ counts) =
    bucket_line (bound_text bound) (more before count)
    ++ bucket_lines (more before count) rest counts

-- how long all took together: microseconds, written as seconds
unfoldable pub sum_line : ℕ → List ℕ
sum_line micros =
    codes "landmap_http_request_seconds_sum " ++ decimal micros ++ codes "e-6\n"

unfoldable pub count_line : ℕ → List ℕ
count_line count =
    codes "landmap_http_request_seconds_count " ++ decimal count ++ codes "\n"

-- the family
abbrev pub times_text : List ℕ → ℕ → List ℕ
times_text counts micros =
    times_head ++ bucket_lines 0 bounds counts ++ bucket_line (codes "+Inf") (all_of 0 counts)
    ++ sum_line micros ++ count_line (all_of 0 counts)
