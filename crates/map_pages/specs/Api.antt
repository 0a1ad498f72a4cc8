-- The description of the pages for programs (OpenAPI 3.0).
use Rattle.std.specs.Prelude.{ℕ, List, ◌++◌, codes}
use Rattle.map_answers.specs.Strings.{string_text}
use Rattle.map_pages.specs.CallPaths.{call_paths}

unfoldable pub api_head : List ℕ
api_head = codes "{\"openapi\":\"3.0.3\",\"info\":{\"title\":\"landmap\",\"version\":\"1\"},\"servers\":[{\"url\":"

unfoldable pub paths_key : List ℕ
paths_key = codes "}],\"paths\":{"

unfoldable pub root_path : List ℕ
root_path =
    codes "\"/\":{\"get\":{\"responses\":{\"200\":{\"description\":\"the landing page\"},\"default\":{\"description\":\"a problem\"}}}}"

unfoldable pub conformance_path : List ℕ
conformance_path =
    codes ",\"/conformance\":{\"get\":{\"responses\":{\"200\":{\"description\":\"the parts of the standard that are kept\"},\"default\":{\"description\":\"a problem\"}}}}"

unfoldable pub collections_path : List ℕ
collections_path =
    codes ",\"/collections\":{\"get\":{\"responses\":{\"200\":{\"description\":\"the collections\"},\"default\":{\"description\":\"a problem\"}}}}"

unfoldable pub collection_path : List ℕ
collection_path =
    codes ",\"/collections/{collectionId}\":{\"get\":{\"parameters\":[{\"name\":\"collectionId\",\"in\":\"path\",\"required\":true,\"schema\":{\"type\":\"string\"}}],\"responses\":{\"200\":{\"description\":\"a collection\"},\"default\":{\"description\":\"a problem\"}}}}"

unfoldable pub map_path : List ℕ
map_path =
    codes ",\"/map\":{\"get\":{\"responses\":{\"200\":{\"description\":\"a page that shows the map in a browser\",\"content\":{\"text/html\":{}}},\"default\":{\"description\":\"a problem\"}}}}"

unfoldable pub items_get : List ℕ
items_get =
    codes ",\"/collections/{collectionId}/items\":{\"get\":{\"parameters\":[{\"name\":\"collectionId\",\"in\":\"path\",\"required\":true,\"schema\":{\"type\":\"string\"}},{\"name\":\"bbox\",\"in\":\"query\",\"schema\":{\"type\":\"array\",\"minItems\":4,\"maxItems\":6,\"items\":{\"type\":\"number\"}},\"style\":\"form\",\"explode\":false},{\"name\":\"limit\",\"in\":\"query\",\"schema\":{\"type\":\"integer\",\"minimum\":1,\"maximum\":10000,\"default\":1000}},{\"name\":\"datetime\",\"in\":\"query\",\"schema\":{\"type\":\"string\"}},{\"name\":\"kept\",\"in\":\"query\",\"schema\":{\"type\":\"integer\"}},{\"name\":\"after\",\"in\":\"query\",\"schema\":{\"type\":\"integer\"}}],\"responses\":{\"200\":{\"description\":\"a page of features\"},\"default\":{\"description\":\"a problem\"}}}"

unfoldable pub item_get : List ℕ
item_get =
    codes ",\"/collections/{collectionId}/items/{featureId}\":{\"get\":{\"parameters\":[{\"name\":\"collectionId\",\"in\":\"path\",\"required\":true,\"schema\":{\"type\":\"string\"}},{\"name\":\"featureId\",\"in\":\"path\",\"required\":true,\"schema\":{\"type\":\"integer\"}}],\"responses\":{\"200\":{\"description\":\"a feature\"},\"default\":{\"description\":\"a problem\"}}}"

-- how a feature is added
unfoldable pub adding_asked : List ℕ
adding_asked =
    codes ",\"post\":{\"parameters\":[{\"name\":\"collectionId\",\"in\":\"path\",\"required\":true,\"schema\":{\"type\":\"string\"}}],\"requestBody\":{\"required\":true,\"content\":{\"application/geo+json\":{\"schema\":{\"type\":\"object\",\"required\":[\"type\",\"id\",\"geometry\"],\"properties\":{\"type\":{\"type\":\"string\",\"enum\":[\"Feature\"]},\"id\":{\"type\":\"integer\",\"minimum\":0},\"geometry\":{\"type\":\"object\"},\"properties\":{\"type\":\"object\",\"properties\":{\"class\":{\"type\":\"string\"}}}}}}}}"

unfoldable pub adding_answered : List ℕ
adding_answered =
    codes ",\"responses\":{\"201\":{\"description\":\"it was added\",\"headers\":{\"location\":{\"schema\":{\"type\":\"string\"}},\"etag\":{\"schema\":{\"type\":\"string\"}}}},\"403\":{\"description\":\"the policy denies it\"},\"409\":{\"description\":\"the id is in use\"},\"415\":{\"description\":\"a body of another type\"},\"422\":{\"description\":\"no feature that can be added\"},\"default\":{\"description\":\"a problem\"}}}"

-- how a feature is changed: which one, and of which version
unfoldable pub change_parameters : List ℕ
change_parameters =
    codes "\"parameters\":[{\"name\":\"collectionId\",\"in\":\"path\",\"required\":true,\"schema\":{\"type\":\"string\",\"enum\":[\"features\"]}},{\"name\":\"featureId\",\"in\":\"path\",\"required\":true,\"schema\":{\"type\":\"integer\"}},{\"name\":\"if-match\",\"in\":\"header\",\"required\":true,\"schema\":{\"type\":\"string\"}}]"

unfoldable pub replacing_body : List ℕ
replacing_body =
    codes ",\"requestBody\":{\"required\":true,\"content\":{\"application/geo+json\":{\"schema\":{\"type\":\"object\",\"required\":[\"type\",\"geometry\"],\"properties\":{\"type\":{\"type\":\"string\",\"enum\":[\"Feature\"]},\"geometry\":{\"type\":\"object\"}}}}}}"

unfoldable pub patching_body : List ℕ
patching_body =
    codes ",\"requestBody\":{\"required\":true,\"content\":{\"application/geo+json\":{\"schema\":{\"type\":\"object\"}},\"application/merge-patch+json\":{\"schema\":{\"type\":\"object\"}}}}"

unfoldable pub reshaping_answered : List ℕ
reshaping_answered =
    codes ",\"responses\":{\"204\":{\"description\":\"it has this shape\",\"headers\":{\"etag\":{\"schema\":{\"type\":\"string\"}}}},\"403\":{\"description\":\"the policy denies it\"},\"404\":{\"description\":\"no such feature\"},\"412\":{\"description\":\"it is of another version\"},\"415\":{\"description\":\"a body of another type\"},\"422\":{\"description\":\"no shape that can be stored\"},\"428\":{\"description\":\"if-match is missing\"},\"default\":{\"description\":\"a problem\"}}}"

unfoldable pub deleting_answered : List ℕ
deleting_answered =
    codes ",\"responses\":{\"204\":{\"description\":\"it was deleted\"},\"403\":{\"description\":\"the policy denies it\"},\"404\":{\"description\":\"no such feature\"},\"412\":{\"description\":\"it is of another version\"},\"428\":{\"description\":\"if-match is missing\"},\"default\":{\"description\":\"a problem\"}}}"

abbrev pub items_path : List ℕ
items_path = items_get ++ adding_asked ++ adding_answered ++ codes "}"

abbrev pub replacing : List ℕ
replacing = codes ",\"put\":{" ++ change_parameters ++ replacing_body ++ reshaping_answered

abbrev pub patching : List ℕ
patching = codes ",\"patch\":{" ++ change_parameters ++ patching_body ++ reshaping_answered

abbrev pub deleting : List ℕ
deleting = codes ",\"delete\":{" ++ change_parameters ++ deleting_answered

abbrev pub item_path : List ℕ
item_path = item_get ++ replacing ++ patching ++ deleting ++ codes "}"

abbrev pub fixed_paths : List ℕ
fixed_paths = root_path ++ conformance_path ++ collections_path ++ collection_path ++ map_path

-- what each path has, and how it is asked for
unfoldable pub paths_text : List ℕ
paths_text = fixed_paths ++ items_path ++ item_path ++ call_paths ++ codes "}}"

-- the description of the server at this base
abbrev pub api_text : List ℕ → List ℕ
api_text base = api_head ++ string_text base ++ paths_key ++ paths_text
