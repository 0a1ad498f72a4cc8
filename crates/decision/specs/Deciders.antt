-- What contracts see of a decider: a document and its edition.
use Rattle.std.specs.Prelude.{◌≡◌, ℕ, List}
use Rattle.std.proofs.Common.{ap}
use Rattle.policy_documents.specs.Documents.{DocumentData}
use Rattle.policy_documents.specs.Coding as documents
use Rattle.policy_documents.specs.Coding.{Part}
use Rattle.policy_documents.specs.declared.zones.Zone.{Zone}

pub record DeciderData : Type 0 where
  pub document : DocumentData
  pub edition : ℕ

-- codes by which proofs tell two deciders apart: the document is stored as its zones and the list
-- of its parts
abbrev pub Stored : Type 0
Stored = (List Zone × List Part) × ℕ

abbrev pub stored : DeciderData → Stored
stored d = (documents.stored d.document, d.edition)

abbrev pub restored : Stored → DeciderData
restored s = record { document = documents.restored s.0; edition = s.1 }

abbrev pub restored-stored : (d : DeciderData) → restored (stored d) ≡ d
restored-stored d =
    ap (λ (document : DocumentData). let e : DeciderData = record {
      document = document;
      edition = d.edition;
    } in e) (documents.restored-stored d.document)
