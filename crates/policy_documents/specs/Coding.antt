-- Codes by which proofs tell two documents apart: a tree is stored as the list of its parts, from
-- left to right.
use Rattle.std.specs.Prelude.{◌≡◌, List, [], ◌∷◌, refl}
use Rattle.std.proofs.Common.{ap, ◌∙◌}
use Rattle.policy_documents.specs.Documents.{DocumentData, RuleData, Head, NodeData, set, policy, Children, no_children, child}
use Rattle.policy_documents.specs.declared.zones.Zone.{Zone}
use Rattle.policy_documents.specs.declared.algorithms.Algorithm.TheVariants.{DenyOverrides}

-- one part of a tree
pub data Part : Type 0 where
  opens : Head → Part
  stands : Head → List RuleData → Part
  next : Part
  ends : Part

abbrev mutual
  pub parts_before : NodeData → List Part → List Part
  parts_before (set head children) rest = opens head ∷ parts_before_all children rest
  parts_before (policy head rules) rest = stands head rules ∷ rest

  pub parts_before_all : Children → List Part → List Part
  parts_before_all no_children rest = ends ∷ rest
  parts_before_all (child node others) rest =
      next ∷ parts_before node (parts_before_all others rest)

-- what the parts to the right of a position build
pub data Built : Type 0 where
  nothing : Built
  a_node : NodeData → Built → Built
  a_row : Children → Built → Built

abbrev pub with_part : Part → Built → Built
with_part (opens head) (a_row row rest) = a_node (set head row) rest
with_part (opens head) nothing = nothing
with_part (opens head) (a_node n rest) = nothing
with_part (stands head rules) rest = a_node (policy head rules) rest
with_part next (a_node n (a_row row rest)) = a_row (child n row) rest
with_part next nothing = nothing
with_part next (a_row row rest) = nothing
with_part next (a_node n nothing) = nothing
with_part next (a_node n (a_node m rest)) = nothing
with_part ends rest = a_row no_children rest

abbrev pub built : List Part → Built
built [] = nothing
built (p ∷ ps) = with_part p (built ps)

abbrev mutual
  pub built-parts_before : (n : NodeData) (rest : List Part)
      → built (parts_before n rest) ≡ a_node n (built rest)
  built-parts_before (set head children) rest =
      ap (with_part (opens head)) (built-parts_before_all children rest)
  built-parts_before (policy head rules) rest = refl

  pub built-parts_before_all : (c : Children) (rest : List Part)
      → built (parts_before_all c rest) ≡ a_row c (built rest)
  built-parts_before_all no_children rest = refl
  built-parts_before_all (child node others) rest =
      ap (with_part next) (built-parts_before node (parts_before_all others rest) ∙ ap (a_node node)
      (built-parts_before_all others rest))

abbrev pub first_node : Built → NodeData → NodeData
first_node nothing d = d
first_node (a_node n rest) d = n
first_node (a_row row rest) d = d

abbrev pub no_node : NodeData
no_node = policy (record { name = []; combine = DenyOverrides; target = [] }) []

-- the parts of a tree, and the tree built from its parts
abbrev pub parts_of : NodeData → List Part
parts_of n = parts_before n []

abbrev pub node_of : List Part → NodeData
node_of parts = first_node (built parts) no_node

abbrev pub node_of-parts_of : (n : NodeData) → node_of (parts_of n) ≡ n
node_of-parts_of n = ap (λ b. first_node b no_node) (built-parts_before n [])

abbrev pub stored : DocumentData → List Zone × List Part
stored d = (d.zones, parts_of d.root)

abbrev pub restored : List Zone × List Part → DocumentData
restored p = record { zones = p.0; root = node_of p.1 }

abbrev pub restored-stored : (d : DocumentData) → restored (stored d) ≡ d
restored-stored d = ap (λ (n : NodeData). let e : DocumentData = record {
  zones = d.zones;
  root = n;
} in e) (node_of-parts_of d.root)
