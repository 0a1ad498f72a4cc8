-- The text of a JSON value that is a document's.
use Rattle.std.proofs.Common.{◌≡◌, ◌≤◌, ℕ, List, IsUtf8, false, Some, Ok, ap, ◌∙◌}
use Rattle.serde_json.specs.Data.{Data, depth}
use Rattle.serde_json.specs.Read.{read, max_depth}
use Rattle.serde_json.specs.Written.{has_float, compact_text}
use Rattle.policy_documents.specs.Documents.{DocumentData, IsDocument}
use Rattle.policy_text.specs.Bytes.{document_of_bytes}
use Rattle.policy_text.specs.Reading.{document_in}
use Rattle.policy_text.specs.Printed.{document_data, document_text}
use Rattle.policy_text.proofs.PrintedPlain.{document-plain}
use Rattle.policy_text.proofs.BytesLemmas.{document_of_bytes-read}
use Rattle.policy_text.proofs.PrintedDocuments.{printed_document_in}

module _ (d : DocumentData) (e : Data) (text : List ℕ) (h : IsDocument d) (is : e ≡ document_data d) where
  pub printed-text : (has_float e ≡ false → text ≡ compact_text e) → text ≡ document_text d
  printed-text told = told (ap has_float is ∙ (document-plain d h).whole) ∙ ap compact_text is

  pub printed-read : IsUtf8 text → (depth e ≤ max_depth → read text ≡ Some e) → document_of_bytes text ≡ Ok d
  printed-read utf8 told =
      document_of_bytes-read text e utf8 (told (rw is ((document-plain d h).shallow))) ∙ ap document_in is ∙ printed_document_in d h
