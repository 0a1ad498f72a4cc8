-- Reading sets and policies.
use Rattle.std.proofs.Common.{◌≡◌, ℕ, suc, true, false, List, refl, ap, subst, Result, Ok, Err}
use Rattle.serde_json.specs.Data.{Data, Items}
use Rattle.policy_documents.specs.Documents.{NodeData, RuleData, Head, set, policy, children_of}
use Rattle.policy_text.specs.Reading.{Fails, Gives, Seen, at_key, each_at, head_at, rule_at, policy_at, set_at, node_at, has_key, set_keys, policy_keys}
use Rattle.policy_text.specs.declared.paths.MemberName.TheVariants as member_names
use Rattle.policy_text.specs.declared.paths.PathPart.{PathPart}
use Rattle.policy_documents.specs.declared.zones.Zone.{Zone}
use Rattle.policy_text.specs.declared.faults.TextFault.{TextFault}
use Rattle.policy_text.specs.declared.faults.TextFault.TheVariants as faults
use Rattle.policy_text.proofs.EachLemmas.{Fails-bind}

module _ (zones : List Zone) (path : List PathPart) (seen : Seen) (d : Data) where
  pub node_at-zero : (levels : ℕ) → levels ≡ 0 → node_at zones levels path seen d ≡ Err (faults.TooDeep path)
  unfolding node_at
  node_at-zero levels e = ap (λ n. node_at zones n path seen d) e

  pub node_at-set : (levels below : ℕ) → levels ≡ suc below → true ≡ has_key member_names.Set d → set_at (node_at zones below) zones path seen d ≡ node_at zones levels path seen d
  unfolding node_at
  node_at-set levels below l e = rw (l, ← e) refl

  pub node_at-policy : (levels below : ℕ) → levels ≡ suc below → false ≡ has_key member_names.Set d → policy_at zones path seen d ≡ node_at zones levels path seen d
  unfolding node_at
  node_at-policy levels below l e = rw (l, ← e) refl

  -- a reading that equals another one has its result
  pub Gives-along : {X : Type 0} (view : X → NodeData × Seen) (r : Result X TextFault) (a b : Result (NodeData × Seen) TextFault) → a ≡ b → Gives view r a → Gives view r b
  Gives-along view r a b e h = subst (Gives view r) e h

  module _ (h : Head) (s t : Seen) (items : Items) where
    pub policy_at-read : (place : List PathPart) (rules : List RuleData) → head_at zones policy_keys member_names.Policy member_names.Rules path seen d ≡ Ok (h, (s, items)) →
        place ≡ at_key path member_names.Rules → each_at (rule_at zones) place 0 s items ≡ Ok (rules, t) → policy_at zones path seen d ≡ Ok (policy h rules, t)
    unfolding policy_at
    policy_at-read place rules told at read = rw (told, ← at, read) refl

    module _ (reader : List PathPart → Seen → Data → Result (NodeData × Seen) TextFault) where
      pub set_at-read : (place : List PathPart) (nodes : List NodeData) → head_at zones set_keys member_names.Set member_names.Of path seen d ≡ Ok (h, (s, items)) →
          place ≡ at_key path member_names.Of → each_at reader place 0 s items ≡ Ok (nodes, t) → set_at reader zones path seen d ≡ Ok (set h (children_of nodes), t)
      unfolding set_at
      set_at-read place nodes told at read = rw (told, ← at, read) refl

    pub policy_at-fails : (place : List PathPart) (e : TextFault) → head_at zones policy_keys member_names.Policy member_names.Rules path seen d ≡ Ok (h, (s, items)) →
        place ≡ at_key path member_names.Rules → Fails e (each_at (rule_at zones) place 0 s items) → Fails e (policy_at zones path seen d)
    unfolding policy_at
    policy_at-fails place e told at read = rw (told, ← at) (Fails-bind e _ _ read)

    pub set_at-fails : (reader : List PathPart → Seen → Data → Result (NodeData × Seen) TextFault) (place : List PathPart) (e : TextFault) →
        head_at zones set_keys member_names.Set member_names.Of path seen d ≡ Ok (h, (s, items)) →
        place ≡ at_key path member_names.Of → Fails e (each_at reader place 0 s items) → Fails e (set_at reader zones path seen d)
    unfolding set_at
    set_at-fails reader place e told at read = rw (told, ← at) (Fails-bind e _ _ read)
