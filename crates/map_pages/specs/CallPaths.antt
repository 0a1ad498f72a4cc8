-- What the description for programs says of lists of changes, of the policy and of the trail.
use Rattle.std.specs.Prelude.{ℕ, List, ◌++◌, codes}

unfoldable pub lists_path : List ℕ
lists_path =
    codes ",\"/transactions\":{\"post\":{\"requestBody\":{\"required\":true,\"content\":{\"application/json\":{\"schema\":{\"type\":\"object\",\"required\":[\"changes\"],\"properties\":{\"changes\":{\"type\":\"array\",\"minItems\":1,\"maxItems\":16,\"items\":{\"type\":\"object\",\"required\":[\"action\"],\"properties\":{\"action\":{\"type\":\"string\",\"enum\":[\"add\",\"reshape\",\"delete\"]},\"feature\":{\"type\":\"object\"},\"id\":{\"type\":\"integer\",\"minimum\":0},\"version\":{\"type\":\"integer\",\"minimum\":1},\"geometry\":{\"type\":\"object\"}}}}}}}}},\"responses\":{\"200\":{\"description\":\"the list took effect whole\"},\"403\":{\"description\":\"the policy denies a change, and the list has no effect\"},\"409\":{\"description\":\"a feature is not as a change has it, and the list has no effect\"},\"default\":{\"description\":\"a problem\"}}}}"

unfoldable pub explain_path : List ℕ
explain_path =
    codes ",\"/explain\":{\"get\":{\"parameters\":[{\"name\":\"action\",\"in\":\"query\",\"required\":true,\"schema\":{\"type\":\"string\",\"enum\":[\"read\",\"add\",\"reshape\",\"delete\"]}},{\"name\":\"office\",\"in\":\"query\",\"required\":true,\"schema\":{\"type\":\"string\"}},{\"name\":\"class\",\"in\":\"query\",\"required\":true,\"schema\":{\"type\":\"string\"}},{\"name\":\"geometry\",\"in\":\"query\",\"required\":true,\"schema\":{\"type\":\"string\"}}],\"responses\":{\"200\":{\"description\":\"the ruling of the policy in force\"},\"default\":{\"description\":\"a problem\"}}}}"

unfoldable pub policy_path : List ℕ
policy_path =
    codes ",\"/policy\":{\"put\":{\"requestBody\":{\"required\":true,\"content\":{\"application/json\":{\"schema\":{\"type\":\"object\"}}}},\"responses\":{\"200\":{\"description\":\"it is in force\"},\"403\":{\"description\":\"who asks is no steward\"},\"422\":{\"description\":\"no policy document\"},\"default\":{\"description\":\"a problem\"}}}}"

unfoldable pub trail_path : List ℕ
trail_path =
    codes ",\"/trail\":{\"post\":{\"responses\":{\"201\":{\"description\":\"the trail was taken out, and is kept as a piece\",\"headers\":{\"location\":{\"schema\":{\"type\":\"string\"}}}},\"403\":{\"description\":\"who asks is no steward\"},\"409\":{\"description\":\"as many pieces are kept as may be\"},\"default\":{\"description\":\"a problem\"}}}}"

unfoldable pub piece_path : List ℕ
piece_path =
    codes ",\"/trail/{pieceId}\":{\"get\":{\"parameters\":[{\"name\":\"pieceId\",\"in\":\"path\",\"required\":true,\"schema\":{\"type\":\"integer\",\"minimum\":1}}],\"responses\":{\"200\":{\"description\":\"the records of the piece, a line each\",\"content\":{\"application/x-ndjson\":{}}},\"default\":{\"description\":\"a problem\"}}},\"delete\":{\"parameters\":[{\"name\":\"pieceId\",\"in\":\"path\",\"required\":true,\"schema\":{\"type\":\"integer\",\"minimum\":1}}],\"responses\":{\"204\":{\"description\":\"it is kept no longer\"},\"default\":{\"description\":\"a problem\"}}}}"

abbrev pub call_paths : List ℕ
call_paths = lists_path ++ explain_path ++ policy_path ++ trail_path ++ piece_path
