-- What the reader keeps, as plain data. Only contracts of private functions use it.
use Rattle.policy_documents.specs.Documents.{Head}
use Rattle.policy_text.specs.Reading.{Seen}
use Rattle.policy_text.specs.declared.reading.SoFar.{SoFar}
use Rattle.policy_text.specs.declared.reading.Headed.{Headed}

-- what was seen, and a head, without their allocator
abbrev pub seen_view : {A : Type 0} → SoFar A → Seen
seen_view s = record { names = s.names.items; nodes = s.nodes; rules = s.rules; tests = s.tests }

abbrev pub head_view : {A : Type 0} → Headed A → Head
head_view h = record { name = h.name; combine = h.combine; target = h.target }
