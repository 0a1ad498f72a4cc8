-- The keys of documents.
use Rattle.std.specs.Prelude.{ℕ, List, codes}
use Rattle.policy_text.specs.declared.paths.MemberName.{MemberName}
use Rattle.policy_text.specs.declared.paths.MemberName.TheVariants.{Zones, Root, Zone, Shape, Set, Policy, Combine, Target, Of, Rules, Rule, Effect, When, Role, Office, Class, Owner, Action, Own, Not}

-- a key as text
abbrev pub key_text : MemberName → List ℕ
key_text Zones = codes "zones"
key_text Root = codes "root"
key_text Zone = codes "zone"
key_text Shape = codes "shape"
key_text Set = codes "set"
key_text Policy = codes "policy"
key_text Combine = codes "combine"
key_text Target = codes "target"
key_text Of = codes "of"
key_text Rules = codes "rules"
key_text Rule = codes "rule"
key_text Effect = codes "effect"
key_text When = codes "when"
key_text Role = codes "role"
key_text Office = codes "office"
key_text Class = codes "class"
key_text Owner = codes "owner"
key_text Action = codes "action"
key_text Own = codes "own"
key_text Not = codes "not"
