-- The members of printed objects as they are put, one by one, for contracts of private functions.
use Rattle.serde_json.specs.Data.{string, array, Items, no_items, item, Members, no_members, put}
use Rattle.policy_documents.specs.Documents.{Head}
use Rattle.policy_text.specs.Keys.{key_text}
use Rattle.policy_text.specs.Printed.{algorithm_text, target_items}
use Rattle.policy_text.specs.declared.paths.MemberName.{MemberName}
use Rattle.policy_text.specs.declared.paths.MemberName.TheVariants as member_names

-- the members with an array put under a key, unless it is empty
abbrev pub put_items : MemberName → Items → Members → Members
put_items key no_items members = members
put_items key (item d ds) members = put (key_text key) (array (item d ds)) members

-- the members of a set or a policy, given the keys of its name and of its children
abbrev pub put_node : MemberName → MemberName → Head → Items → Members
put_node name_key children_key head children =
    put_items member_names.Target (target_items head.target)
    (put (key_text children_key) (array children)
    (put (key_text name_key) (string head.name)
    (put (key_text member_names.Combine) (string (algorithm_text head.combine)) no_members)))
