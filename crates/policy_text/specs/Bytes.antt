-- Documents as bytes.
use Rattle.std.specs.Prelude.{ℕ, List, Result, Err, if◌then◌else◌}
use Rattle.std.specs.Str.{is_utf8}
use Rattle.memory.specs.declared.json.JsonFault.{JsonFault}
use Rattle.memory.specs.declared.json.JsonFault.TheVariants as unread
use Rattle.policy_documents.specs.Documents.{DocumentData}
use Rattle.policy_text.specs.Reading.{document_of}
use Rattle.policy_text.specs.declared.faults.TextFault.{TextFault}
use Rattle.policy_text.specs.declared.faults.TextFault.TheVariants.{NotJson, Memory}

-- the document that bytes spell, or its first fault; JSON is UTF-8 (RFC 8259, section 8.1)
abbrev pub document_of_bytes : List ℕ → Result DocumentData TextFault
document_of_bytes bytes = if is_utf8 bytes then document_of bytes else Err NotJson

-- why no JSON value was read: out of memory, or the text is not JSON
abbrev pub json_fault : JsonFault → TextFault
json_fault (unread.Text error) = NotJson
json_fault (unread.Memory refused) = Memory refused
