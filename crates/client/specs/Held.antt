-- Bytes that were read and not used yet.
use Rattle.std.specs.Prelude.{ℕ, List, drop}
use Rattle.client.specs.declared.ahead.Ahead.{Ahead}

-- the bytes that were read and not used yet
abbrev pub held : {A : Type 0} → Ahead A → List ℕ
held ahead = drop ahead.done ahead.bytes.items
