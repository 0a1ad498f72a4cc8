-- Parts of a document that were read: their contents, and what was seen after them.
use Rattle.std.proofs.Common.{◌≡◌, ℕ, ◌+◌, ◌≤◌, max, true, IsTrue, List, [], ◌∷◌, ◌++◌, append-nil, append_assoc, refl, ap, sym, subst, ◌∙◌, arith, Ok, Result}
use Rattle.std.specs.List.{list_all}
use Rattle.std.proofs.lemmas.Bool.{and_from}
use Rattle.features.specs.Names as spelling
use Rattle.serde_json.specs.Data.{Data, Items}
use Rattle.policy_documents.specs.Documents.{are_distinct, is_zone_known, is_match_spelled, is_target}
use Rattle.policy_text.specs.Reading.{Seen, each_at, fresh}
use Rattle.policy_documents.specs.declared.zones.Zone.{Zone}
use Rattle.policy_text.specs.declared.paths.PathPart.{PathPart}
use Rattle.policy_documents.specs.declared.matches.Match.{Match}
use Rattle.policy_text.specs.declared.faults.TextFault.{TextFault}
use Rattle.policy_text.proofs.ChainLemmas.{each_at-read, fresh-read}
use Rattle.policy_text.proofs.DistinctLemmas.{are_distinct-push}
use Rattle.policy_text.proofs.TestLaws.{IsTested, all_append}

-- the contents of a part of a document
pub record Contents : Type 0 where
  pub names : List (List ℕ)
  pub nodes : ℕ
  pub rules : ℕ
  pub tests : ℕ
  pub depth : ℕ
  pub found : List Match
  pub targets : List (List (List (List Match)))

abbrev pub no_contents : Contents
no_contents = record { names = []; nodes = 0; rules = 0; tests = 0; depth = 0; found = []; targets = [] }

-- the contents of a part and of the parts after it
abbrev pub beside : Contents → Contents → Contents
beside a b = record {
  names = a.names ++ b.names;
  nodes = a.nodes + b.nodes;
  rules = a.rules + b.rules;
  tests = a.tests + b.tests;
  depth = max a.depth b.depth;
  found = a.found ++ b.found;
  targets = a.targets ++ b.targets;
}

abbrev pub all_contents : {X : Type 0} → (X → Contents) → List X → Contents
all_contents contents [] = no_contents
all_contents contents (x ∷ xs) = beside (contents x) (all_contents contents xs)

-- what was seen is within the limits of documents, and its names are distinct
pub record IsWithin (s : Seen) : Type 0 where
  pub nodes : s.nodes ≤ 512
  pub rules : s.rules ≤ 512
  pub tests : s.tests ≤ 4096
  pub names : IsTrue (are_distinct s.names)

-- a part with these contents is sound, and takes what was seen from `s` to `t`
pub record IsSound (zones : List Zone) (levels : ℕ) (s : Seen) (c : Contents) (t : Seen) : Type 0 where
  pub names : t.names ≡ s.names ++ c.names
  pub nodes : t.nodes ≡ s.nodes + c.nodes
  pub rules : t.rules ≡ s.rules + c.rules
  pub tests : t.tests ≡ s.tests + c.tests
  pub depth : c.depth ≤ levels
  pub known : IsTrue (list_all (is_zone_known zones) c.found)
  pub spelled : IsTrue (list_all is_match_spelled c.found)
  pub named : IsTrue (list_all spelling.is_name c.names)
  pub filled : IsTrue (list_all is_target c.targets)
  pub kept : IsWithin s → IsWithin t

module _ (zones : List Zone) (levels : ℕ) where
  pub nothing_sound : (s : Seen) → IsSound zones levels s no_contents s
  nothing_sound s = record {
    names = sym (append-nil s.names);
    nodes = omega arith;
    rules = omega arith;
    tests = omega arith;
    depth = omega arith;
    known = refl;
    spelled = refl;
    named = refl;
    filled = refl;
    kept = λ h. h;
  }

  pub then_sound : (s t u : Seen) (a b : Contents) → IsSound zones levels s a t → IsSound zones levels t b u → IsSound zones levels s (beside a b) u
  then_sound s t u a b h k = record {
    names = k.names ∙ ap (λ xs. xs ++ b.names) h.names ∙ append_assoc s.names a.names b.names;
    nodes = omega (arith, h.nodes, k.nodes);
    rules = omega (arith, h.rules, k.rules);
    tests = omega (arith, h.tests, k.tests);
    depth = omega (arith, h.depth, k.depth);
    known = all_append (is_zone_known zones) a.found b.found h.known k.known;
    spelled = all_append is_match_spelled a.found b.found h.spelled k.spelled;
    named = all_append spelling.is_name a.names b.names h.named k.named;
    filled = all_append is_target a.targets b.targets h.filled k.filled;
    kept = λ low. k.kept (h.kept low);
  }

  module _ {X : Type 0} (read : List PathPart → Seen → Data → Result (X × Seen) TextFault) (contents : X → Contents)
      (reads : (path : List PathPart) (s : Seen) (d : Data) (r : X × Seen) → read path s d ≡ Ok r → IsSound zones levels s (contents r.0) r.1) where
    pub each_sound : (path : List PathPart) (i : ℕ) (s : Seen) (items : Items) (r : List X × Seen) → each_at read path i s items ≡ Ok r →
        IsSound zones levels s (all_contents contents r.0) r.1
    each_sound = each_at-read read (λ s x t. IsSound zones levels s (contents x) t) (λ s xs t. IsSound zones levels s (all_contents contents xs) t)
        nothing_sound (λ s t u x xs. then_sound s t u (contents x) (all_contents contents xs)) reads

  -- the contents of a set, a policy or a rule without its children
  abbrev pub own_contents : List ℕ → ℕ → ℕ → ℕ → List Match → List (List (List Match)) → Contents
  own_contents name nodes rules tests found target = record { names = name ∷ []; nodes = nodes; rules = rules; tests = tests; depth = 0; found = found; targets = target ∷ [] }

  pub own_sound : (s t : Seen) (path : List PathPart) (name : List ℕ) (nodes rules size : ℕ) (found : List Match) (target : List (List (List Match))) →
      IsTrue (spelling.is_name name) → fresh path name s.names ≡ Ok t.names → t.nodes ≡ s.nodes + nodes → t.rules ≡ s.rules + rules →
      (s.nodes ≤ 512 → t.nodes ≤ 512) → (s.rules ≤ 512 → t.rules ≤ 512) → IsTested zones s.tests size found (is_target target) t.tests →
      IsSound zones levels s (own_contents name nodes rules size found target) t
  own_sound s t path name nodes rules size found target spelled new nodes_more rules_more nodes_within rules_within tested =
      let f = fresh-read path name s.names t.names new in record {
        names = sym f.1;
        nodes = nodes_more;
        rules = rules_more;
        tests = tested.count;
        depth = omega arith;
        known = tested.known;
        spelled = tested.spelled;
        named = and_from _ true spelled refl;
        filled = and_from _ true tested.filled refl;
        kept = λ h. record {
          nodes = nodes_within h.nodes;
          rules = rules_within h.rules;
          tests = tested.within h.tests;
          names = subst (λ xs. IsTrue (are_distinct xs)) f.1 (are_distinct-push s.names name h.names f.0);
        };
      }
